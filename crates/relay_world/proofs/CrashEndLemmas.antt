-- a node that goes down in a call of an attempt keeps a world bound, whether the attempt's link was whole or broken.
use Rattle.std.proofs.Common.{inl, inr, ◌≡◌, ℕ, nat_eq, Bool, true, false, cond, List, map, Some, refl, sym, subst, ap, ◌∙◌, arith}
use Rattle.std.specs.Prelude.{◌⊎◌, slice_get}
use Rattle.std.specs.Option.{option_map}
use Rattle.std.proofs.lemmas.Bool.{cases_eq, false≢true}
use Rattle.relay_disk.specs.Device.{DiskWords}
use Rattle.relay_book.specs.declared.change.Change.{Change}
use Rattle.relay_records.specs.Records.{Kept}
use Rattle.relay_world.specs.declared.attempt.Attempt.{Attempt}
use Rattle.relay_world.specs.declared.attempt.Fate.TheVariants.{Dropped, Running}
use Rattle.relay_world.specs.declared.link.Link.{Link}
use Rattle.relay_world.specs.Bound.{HasSession, HasSlot, IsBound}
use Rattle.relay_world.specs.Crashes.{CrashingInLosingKeeps, CrashingInReadingKeeps, CrashesEnding, has_end_of, is_tried_for, let_go, let_go_link, serves_for, tries_for}
use Rattle.relay_world.specs.HangUp.{HangsUp, IsLetGo, broken_link, dropped, hung_up_attempt, hung_up_link}
use Rattle.relay_world.specs.Steps.{AttemptOf, IsPut}
use Rattle.relay_world.specs.Stops.{DropsAtStop, NoAttemptBut, NoSession}
use Rattle.relay_world.specs.World.{Origin, World, link_at}
use Rattle.relay_world.proofs.CrashLemmas.{let_go_one, no_session_left}
use Rattle.relay_world.proofs.HangUpLemmas.{as_long, attempt_was, get_map, hanging_up_keeps, link_map, link_was, no_attempt}
use Rattle.relay_world.proofs.PieceLemmas.{same_number, with_at, with_at-put}
use Rattle.relay_world.proofs.StopReadLemmas.{stopping_losing_keeps, stopping_reading_keeps}

either_true : (b : Bool) → cond b true true ≡ true
either_true true = refl
either_true false = refl

let_go_own : (mine : Bool) (node : ℕ) (link : Link) → mine ≡ true
    → cond mine (broken_link (hung_up_link node link)) link ≡ broken_link (hung_up_link node link)
let_go_own true node link is = refl
let_go_own false node link is = absurd (false≢true is)

dropped_own : (mine : Bool) (attempt : Attempt) (slot : ℕ) → mine ≡ true → attempt.fate ≡ Running slot
    → cond mine (record attempt { fate = dropped attempt.fate }) attempt ≡ record attempt { fate = Dropped }
dropped_own true attempt slot is runs = ap (λ f. record attempt { fate = dropped f }) runs
dropped_own false attempt slot is runs = absurd (false≢true is)

module _ {D : Type 0} (honest : Type 0) (words : DiskWords D) (old new : World D) (lists : List (List Change)) (number : ℕ)
    (bound : IsBound honest words old lists) (of : AttemptOf old number) (stopped : Kept D) (origin : Origin)
    (crash : CrashesEnding honest words old new number of stopped origin) where
  abbrev node : ℕ
  node = of.attempt.node

  abbrev links_now : List Link
  links_now = map (let_go_link node old.attempts) old.links

  abbrev attempts_now : List Attempt
  attempts_now = map (hung_up_attempt node) old.attempts

  abbrev link_now : Link
  link_now = broken_link (hung_up_link node of.link)

  mine : has_end_of node old.attempts of.link ≡ true
  mine = ap (λ c. cond (serves_for node of.link.server) true (is_tried_for node old.attempts c)) of.client
      ∙ ap (λ o. cond (serves_for node of.link.server) true (tries_for node o)) of.attempt_at
      ∙ ap (λ b. cond (serves_for node of.link.server) true b) (same_number node)
      ∙ either_true (serves_for node of.link.server)

  pub its_link : link_at links_now number ≡ Some link_now
  its_link = link_map (let_go_link node old.attempts) old.links number
      ∙ ap (λ o. option_map (let_go_link node old.attempts) o) of.link_is
      ∙ ap (λ l. Some l) (let_go_own (has_end_of node old.attempts of.link) node of.link mine)

  its_attempt : slice_get attempts_now of.place ≡ Some (record of.attempt { fate = Dropped })
  its_attempt = get_map (hung_up_attempt node) old.attempts of.place
      ∙ ap (λ o. option_map (hung_up_attempt node) o) of.attempt_at
      ∙ ap (λ a. Some a) (dropped_own (nat_eq of.attempt.node node) of.attempt of.slot (same_number node) of.runs)

  -- all is let go but the attempt of the call
  abbrev but : List Attempt
  but = with_at attempts_now of.place of.attempt

  pub put : IsPut attempts_now but of.place of.attempt
  put = with_at-put attempts_now of.place of.attempt (record of.attempt { fate = Dropped }) its_attempt

  abbrev pub middle : World D
  middle = record old { links = links_now; attempts = but }

  each_attempt : (other : ℕ) → (slice_get but other ≡ slice_get old.attempts other)
      ⊎ (slice_get but other ≡ option_map (hung_up_attempt node) (slice_get old.attempts other))
  each_attempt other = elim (cases_eq other of.place) [
    | inl same ↦ inl (ap (λ n. slice_get but n) same ∙ put.at ∙ sym of.attempt_at ∙ ap (λ n. slice_get old.attempts n) (sym same))
    | inr off ↦ inr (put.others other off ∙ get_map (hung_up_attempt node) old.attempts other)
  ]

  pub hangs : HangsUp old middle node
  hangs = record {
    links = links_now;
    each_link = λ other. subst (λ o. IsLetGo node (link_at old.links other) o)
        (sym (link_map (let_go_link node old.attempts) old.links other)) (let_go_one node old.attempts (link_at old.links other));
    grows = as_long (let_go_link node old.attempts) old.links;
    attempts = but;
    each_attempt = each_attempt;
    new_is = refl;
  }

  abbrev pub of_middle : AttemptOf middle number
  of_middle = record {
    link = link_now;
    link_is = its_link;
    place = of.place;
    client = of.client;
    attempt = of.attempt;
    attempt_at = put.at;
    slot = of.slot;
    runs = of.runs;
    host = of.host;
    host_at = of.host_at;
    before = of.before;
    up = of.up;
  }

  none_else : NoSession middle node
  none_else other link session is has =
      let was = link_was (let_go_link node old.attempts) (link_at old.links other) link
      (sym (link_map (let_go_link node old.attempts) old.links other) ∙ is) in
      no_session_left node old.attempts was.0 session (subst (λ l. HasSession l node session) was.1 has)

  none_runs : NoAttemptBut middle node of.place
  none_runs other attempt slot off is has =
      let was = attempt_was (hung_up_attempt node) (slice_get old.attempts other) attempt
      (sym (get_map (hung_up_attempt node) old.attempts other) ∙ sym (put.others other off) ∙ is) in
      no_attempt node was.0 slot (subst (λ a. HasSlot a node slot) was.1 has)

  abbrev pub crashed : World D
  crashed = record (let_go node old) { hosts = crash.down.hosts }

  pub drops : DropsAtStop honest words middle crashed number of_middle stopped origin
  drops = record {
    no_session = none_else;
    no_attempt = none_runs;
    noted = crash.noted;
    note_is = crash.note_is;
    disk = crash.disk;
    left = crash.left;
    hosts = crash.down.put;
    links = record { at = its_link; others = λ other off. refl; grows = omega arith };
    attempts = record { at = its_attempt; others = λ other off. sym (put.others other off) };
    rest = (refl, refl, crash.down.as_many);
  }

  pub middle_bound : IsBound honest words middle lists
  middle_bound = hanging_up_keeps honest words old middle lists node bound hangs

pub crashing_in_reading_keeps : {D : Type 0} (honest : Type 0) (words : DiskWords D) → CrashingInReadingKeeps honest words
crashing_in_reading_keeps honest words old new lists number count bound is =
    subst (λ w. IsBound honest words w lists) (sym is.crash.down.new_is)
    (stopping_reading_keeps honest words (middle honest words old new lists number bound is.of is.stopped _ is.crash)
    (crashed honest words old new lists number bound is.of is.stopped _ is.crash) lists number count
    (middle_bound honest words old new lists number bound is.of is.stopped _ is.crash) (record {
      of = of_middle honest words old new lists number bound is.of is.stopped _ is.crash;
      stopped = is.stopped;
      failed = is.failed;
      cuts = is.cuts;
      drops = drops honest words old new lists number bound is.of is.stopped _ is.crash;
    }))

pub crashing_in_losing_keeps : {D : Type 0} (honest : Type 0) (words : DiskWords D) → CrashingInLosingKeeps honest words
crashing_in_losing_keeps honest words old new lists number bound is =
    subst (λ w. IsBound honest words w lists) (sym is.crash.down.new_is)
    (stopping_losing_keeps honest words (middle honest words old new lists number bound is.of is.stopped _ is.crash)
    (crashed honest words old new lists number bound is.of is.stopped _ is.crash) lists number
    (middle_bound honest words old new lists number bound is.of is.stopped _ is.crash) (record {
      of = of_middle honest words old new lists number bound is.of is.stopped _ is.crash;
      stopped = is.stopped;
      failed = is.failed;
      cuts = is.cuts;
      drops = drops honest words old new lists number bound is.of is.stopped _ is.crash;
    }))
