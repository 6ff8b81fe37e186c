-- The outcomes of messages whose places are withdrawn, one after the other.
use Rattle.std.proofs.Common.{◌≡◌, ℕ, ◌+◌, ◌<◌, ◌≤◌, List, [], ◌∷◌, ◌++◌, length, take, drop, get_or, refl, sym, ap, ◌∙◌, subst}
use Rattle.std.proofs.lemmas.Grind.{take_at_read}
use Rattle.std.proofs.lemmas.List.{at_drop_more, take-append-drop, take_all}
use Rattle.relay_book.specs.declared.change.Withdrawal.{Withdrawal}
use Rattle.relay_disk.specs.Device.{DiskWords}
use Rattle.relay_files.specs.declared.fault.Fault.{Fault}
use Rattle.relay_node.specs.Node.{NodeState}
use Rattle.relay_queue.specs.declared.groups.Selected.{Selected}
use Rattle.relay_steering.specs.Withdrawing.{FailsAmong, FailsToWithdraw, HasOutcome, HaveOutcomes}
use Rattle.relay_steering.specs.declared.offline.Outcome.{Outcome}

module _ {D : Type 0} (honest : Type 0) (words : DiskWords D) (at : ℕ) (withdrawal : Withdrawal) where
  -- the next message has an outcome too
  have_one_more : (front : List Selected) (outcomes : List Outcome) (selected : Selected) (outcome : Outcome) (old between new : NodeState D)
      → HaveOutcomes honest words at withdrawal front outcomes old between
      → HasOutcome honest words at withdrawal outcome selected between new
      → HaveOutcomes honest words at withdrawal (front ++ selected ∷ []) (outcomes ++ outcome ∷ []) old new
  have_one_more [] [] selected outcome old between new have has =
      (new, subst (λ it. HasOutcome honest words at withdrawal outcome selected it new) have has, refl)
  have_one_more [] (first ∷ others) selected outcome old between new have has = absurd have
  have_one_more (first ∷ front) [] selected outcome old between new have has = absurd have
  have_one_more (first ∷ front) (done ∷ others) selected outcome old between new (later, its, have) has =
      (later, its, have_one_more front others selected outcome later between new have has)

  -- the message at a place has an outcome, and those before it
  pub goes_on : (messages : List Selected) (place : ℕ) (outcomes new_outcomes : List Outcome) (selected : Selected) (outcome : Outcome) (old between new : NodeState D)
      → place < length messages → selected ≡ get_or messages place selected → new_outcomes ≡ outcomes ++ outcome ∷ []
      → HaveOutcomes honest words at withdrawal (take place messages) outcomes old between
      → HasOutcome honest words at withdrawal outcome selected between new
      → HaveOutcomes honest words at withdrawal (take (place + 1) messages) new_outcomes old new
  goes_on messages place outcomes new_outcomes selected outcome old between new within item is have has =
      let more : take (place + 1) messages ≡ take place messages ++ selected ∷ [] =
      (take_at_read messages place selected within).1 ∙ ap (λ it. take place messages ++ it ∷ []) (sym item) in
      subst (λ (front : List Selected). HaveOutcomes honest words at withdrawal front new_outcomes old new) (sym more)
      (subst (λ (them : List Outcome). HaveOutcomes honest words at withdrawal (take place messages ++ selected ∷ []) them old new) (sym is)
      (have_one_more (take place messages) outcomes selected outcome old between new have has))

  -- all messages have an outcome
  pub all_have : (messages : List Selected) (place : ℕ) (outcomes : List Outcome) (old new : NodeState D) → length messages ≤ place
      → HaveOutcomes honest words at withdrawal (take place messages) outcomes old new
      → HaveOutcomes honest words at withdrawal messages outcomes old new
  all_have messages place outcomes old new past have =
      subst (λ (them : List Selected). HaveOutcomes honest words at withdrawal them outcomes old new) (take_all place messages past) have

  -- the message at a place failed, and those before it have outcomes
  pub fails_there : (messages : List Selected) (place : ℕ) (outcomes : List Outcome) (selected : Selected) (why : Fault) (old between new : NodeState D)
      → place < length messages → selected ≡ get_or messages place selected
      → HaveOutcomes honest words at withdrawal (take place messages) outcomes old between
      → FailsToWithdraw honest words at withdrawal why selected between new
      → FailsAmong honest words at withdrawal messages outcomes why old new
  fails_there messages place outcomes selected why old between new within item have fails = record {
    front = take place messages;
    selected = selected;
    back = drop (place + 1) messages;
    parts =
        sym (take-append-drop place messages)
        ∙ ap (λ rest. take place messages ++ rest)
        (at_drop_more (λ rest. rest) messages place selected within ∙ ap (λ it. it ∷ drop (place + 1) messages) (sym item));
    between = between;
    have = have;
    fails = fails;
  }
