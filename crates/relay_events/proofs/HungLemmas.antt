-- What goes on, and what may come, when a node lets go of its ends: no more than before, and less where an attempt of it ran.
use Rattle.std.proofs.Common.{inl, inr, ◌≡◌, ◌≤◌, ◌+◌, ℕ, zero, suc, nat_eq, Bool, true, false, List, [], ◌∷◌, length, map, Option, None, Some, refl, sym, ap, ◌∙◌, arith}
use Rattle.std.specs.Prelude.{if◌then◌else◌, slice_get}
use Rattle.std.specs.Option.{is_none, is_some, option_map}
use Rattle.std.proofs.lemmas.Bool.{true≢false}
use Rattle.std.proofs.lemmas.Bool.Decides.{eqb_tells}
use Rattle.std.proofs.lemmas.Option.{same_Some}
use Rattle.relay_world.specs.declared.attempt.Attempt.{Attempt}
use Rattle.relay_world.specs.declared.attempt.Fate.{Fate}
use Rattle.relay_world.specs.declared.attempt.Fate.TheVariants.{Running, Replied, Lost, Dropped}
use Rattle.relay_world.specs.declared.link.Link.{Link}
use Rattle.relay_world.specs.declared.link.ServerEnd.{ServerEnd}
use Rattle.relay_world.specs.Crashes.{has_end_of, let_go_link}
use Rattle.relay_world.specs.HangUp.{broken_link, dropped, hung_up_attempt, hung_up_end, hung_up_link}
use Rattle.relay_hosts.specs.Links.{hears_on, is_running}
use Rattle.relay_hosts.specs.Room.{lines_to_come}
use Rattle.relay_events.specs.Told.{running_of, sessions_of}
use Rattle.relay_events.proofs.CountLemmas.{count_of, lines_one, running_one}

pub same_number : (n : ℕ) → nat_eq n n ≡ true
same_number n = elim (eqb_tells n n) [ inl same ↦ same.0 | inr off ↦ absurd (off.1 refl) ]

stops : (fate : Fate) → is_running (dropped fate) ≡ false
stops (Running slot) = refl
stops (Replied number) = refl
stops (Lost number) = refl
stops Dropped = refl

-- an attempt that is dropped or not
abbrev hung_if : Bool → Attempt → Attempt
hung_if hangs attempt = if hangs then record attempt { fate = dropped attempt.fate } else attempt

line_none : (attempt : Attempt) → lines_one (record attempt { fate = dropped attempt.fate }) ≡ 0
line_none attempt = ap (λ b. if b then length attempt.places.items else 0) (stops attempt.fate)

run_none : (attempt : Attempt) → running_one (record attempt { fate = dropped attempt.fate }) ≡ 0
run_none attempt = ap count_of (stops attempt.fate)

line_no_more : (hangs : Bool) (attempt : Attempt) → lines_one (hung_if hangs attempt) ≤ lines_one attempt
line_no_more true attempt = let none = line_none attempt in omega (arith, none)
line_no_more false attempt = omega arith

run_no_more : (hangs : Bool) (attempt : Attempt) → running_one (hung_if hangs attempt) ≤ running_one attempt
run_no_more true attempt = let none = run_none attempt in omega (arith, none)
run_no_more false attempt = omega arith

hung_line_none : (node : ℕ) (x attempt : Attempt) → x ≡ attempt → attempt.node ≡ node → lines_one (hung_up_attempt node x) ≡ 0
hung_line_none node x attempt same its =
    ap (λ a. lines_one (hung_up_attempt node a)) same
    ∙ ap (λ n. lines_one (hung_if (nat_eq attempt.node n) attempt)) (sym its)
    ∙ ap (λ b. lines_one (hung_if b attempt)) (same_number attempt.node) ∙ line_none attempt

hung_run_none : (node : ℕ) (x attempt : Attempt) → x ≡ attempt → attempt.node ≡ node → running_one (hung_up_attempt node x) ≡ 0
hung_run_none node x attempt same its =
    ap (λ a. running_one (hung_up_attempt node a)) same
    ∙ ap (λ n. running_one (hung_if (nat_eq attempt.node n) attempt)) (sym its)
    ∙ ap (λ b. running_one (hung_if b attempt)) (same_number attempt.node) ∙ run_none attempt

module _ (node : ℕ) where
  pub hung_lines : (attempts : List Attempt) → lines_to_come (map (hung_up_attempt node) attempts) ≤ lines_to_come attempts
  hung_lines [] = omega arith
  hung_lines (x ∷ xs) =
      let one = line_no_more (nat_eq x.node node) x in
      let rest = hung_lines xs in
      omega (arith, one, rest)

  pub hung_running : (attempts : List Attempt) → running_of (map (hung_up_attempt node) attempts) ≤ running_of attempts
  hung_running [] = omega arith
  hung_running (x ∷ xs) =
      let one = run_no_more (nat_eq x.node node) x in
      let rest = hung_running xs in
      omega (arith, one, rest)

  module _ (attempt : Attempt) (its : attempt.node ≡ node) (runs : is_running attempt.fate ≡ true) where
    -- an attempt of the node ran
    pub hung_lines_less : (attempts : List Attempt) (place : ℕ) → slice_get attempts place ≡ Some attempt
        → lines_to_come (map (hung_up_attempt node) attempts) + length attempt.places.items ≤ lines_to_come attempts
    hung_lines_less [] place is = absurd (true≢false (ap is_none is))
    hung_lines_less (x ∷ xs) zero is =
        let same = same_Some x attempt is in
        let none = hung_line_none node x attempt same its in
        let was : lines_one x ≡ length attempt.places.items =
        ap lines_one same ∙ ap (λ b. if b then length attempt.places.items else 0) runs in
        let rest = hung_lines xs in
        omega (arith, none, was, rest)
    hung_lines_less (x ∷ xs) (suc place) is =
        let one = line_no_more (nat_eq x.node node) x in
        let rest = hung_lines_less xs place is in
        omega (arith, one, rest)

    pub hung_running_less : (attempts : List Attempt) (place : ℕ) → slice_get attempts place ≡ Some attempt
        → running_of (map (hung_up_attempt node) attempts) + 1 ≤ running_of attempts
    hung_running_less [] place is = absurd (true≢false (ap is_none is))
    hung_running_less (x ∷ xs) zero is =
        let same = same_Some x attempt is in
        let none = hung_run_none node x attempt same its in
        let was : running_one x ≡ 1 = ap running_one same ∙ ap count_of runs in
        let rest = hung_running xs in
        omega (arith, none, was, rest)
    hung_running_less (x ∷ xs) (suc place) is =
        let one = run_no_more (nat_eq x.node node) x in
        let rest = hung_running_less xs place is in
        omega (arith, one, rest)

  end_no_more : (hangs : Bool) (end : ServerEnd)
      → count_of (is_some (if hangs then record end { session = None } else end).session) ≤ count_of (is_some end.session)
  end_no_more true end = omega arith
  end_no_more false end = omega arith

  server_no_more : (server : Option ServerEnd) → count_of (hears_on (option_map (hung_up_end node) server)) ≤ count_of (hears_on server)
  server_no_more None = omega arith
  server_no_more (Some end) = end_no_more (nat_eq end.node node) end

  session_no_more : (lets_go : Bool) (link : Link)
      → count_of (hears_on (if lets_go then broken_link (hung_up_link node link) else link).server) ≤ count_of (hears_on link.server)
  session_no_more true link = server_no_more link.server
  session_no_more false link = omega arith

  pub let_go_sessions : (attempts : List Attempt) (links : List Link)
      → sessions_of (map (let_go_link node attempts) links) ≤ sessions_of links
  let_go_sessions attempts [] = omega arith
  let_go_sessions attempts (x ∷ xs) =
      let one = session_no_more (has_end_of node attempts x) x in
      let rest = let_go_sessions attempts xs in
      omega (arith, one, rest)
