-- What goes on: a session that ends, and an attempt that does, is one less.
use Rattle.std.proofs.Common.{◌≡◌, ◌+◌, ℕ, zero, suc, Bool, true, false, List, [], ◌∷◌, length, Some, refl, sym, ap, ◌∙◌, arith}
use Rattle.std.specs.Prelude.{if◌then◌else◌, slice_get, slice_set}
use Rattle.std.specs.Option.{is_none}
use Rattle.std.proofs.lemmas.Bool.{true≢false}
use Rattle.std.proofs.lemmas.Option.{same_Some}
use Rattle.relay_world.specs.declared.attempt.Attempt.{Attempt}
use Rattle.relay_world.specs.declared.link.Link.{Link}
use Rattle.relay_hosts.specs.Links.{hears_on, is_running}
use Rattle.relay_hosts.specs.Room.{lines_to_come}
use Rattle.relay_events.specs.Told.{running_of, sessions_of}

abbrev pub count_of : Bool → ℕ
count_of going = if going then 1 else 0

pub session_less : (links : List Link) (place : ℕ) (link moved : Link) → slice_get links place ≡ Some link
    → hears_on link.server ≡ true → hears_on moved.server ≡ false → sessions_of (slice_set links place moved) + 1 ≡ sessions_of links
session_less [] place link moved is was now = absurd (true≢false (ap is_none is))
session_less (x ∷ xs) zero link moved is was now =
    let one : count_of (hears_on x.server) ≡ count_of true =
    ap (λ (l : Link). count_of (hears_on l.server)) (same_Some x link is) ∙ ap count_of was in
    let none : count_of (hears_on moved.server) ≡ count_of false = ap count_of now in
    omega (arith, one, none)
session_less (x ∷ xs) (suc place) link moved is was now =
    let less = session_less xs place link moved is was now in omega (arith, less)

-- the lines that an attempt may come to need, and whether it counts as one that runs
abbrev pub lines_one : Attempt → ℕ
lines_one attempt = if is_running attempt.fate then length attempt.places.items else 0

abbrev pub running_one : Attempt → ℕ
running_one attempt = if is_running attempt.fate then 1 else 0

-- an attempt that is put in the place of another, and doesn't run
pub lines_less : (attempts : List Attempt) (place : ℕ) (attempt moved : Attempt) → slice_get attempts place ≡ Some attempt
    → is_running moved.fate ≡ false → lines_to_come (slice_set attempts place moved) + lines_one attempt ≡ lines_to_come attempts
lines_less [] place attempt moved is now = absurd (true≢false (ap is_none is))
lines_less (x ∷ xs) zero attempt moved is now =
    let one : lines_one x ≡ lines_one attempt = ap lines_one (same_Some x attempt is) in
    let none : lines_one moved ≡ 0 = ap (λ b. if b then length moved.places.items else 0) now in
    omega (arith, one, none)
lines_less (x ∷ xs) (suc place) attempt moved is now =
    let less = lines_less xs place attempt moved is now in omega (arith, less)

pub running_less : (attempts : List Attempt) (place : ℕ) (attempt moved : Attempt) → slice_get attempts place ≡ Some attempt
    → is_running moved.fate ≡ false → running_of (slice_set attempts place moved) + running_one attempt ≡ running_of attempts
running_less [] place attempt moved is now = absurd (true≢false (ap is_none is))
running_less (x ∷ xs) zero attempt moved is now =
    let one : running_one x ≡ running_one attempt = ap running_one (same_Some x attempt is) in
    let none : running_one moved ≡ 0 = ap count_of now in
    omega (arith, one, none)
running_less (x ∷ xs) (suc place) attempt moved is now =
    let less = running_less xs place attempt moved is now in omega (arith, less)

-- a link that is put in the place of another with the same server end
pub sessions_same : (links : List Link) (place : ℕ) (link moved : Link) → slice_get links place ≡ Some link
    → moved.server ≡ link.server → sessions_of (slice_set links place moved) ≡ sessions_of links
sessions_same [] place link moved is same = refl
sessions_same (x ∷ xs) zero link moved is same =
    let here : count_of (hears_on moved.server) ≡ count_of (hears_on x.server) =
    ap (λ s. count_of (hears_on s)) (same ∙ ap (λ (l : Link). l.server) (sym (same_Some x link is))) in
    omega (arith, here)
sessions_same (x ∷ xs) (suc place) link moved is same =
    let rest = sessions_same xs place link moved is same in omega (arith, rest)
