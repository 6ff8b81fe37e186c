-- Lists of changes, and the queues that they leave.
use Rattle.std.proofs.Common.{◌≡◌, ℕ, ◌+◌, List, [], ◌∷◌, ◌++◌, fold, length, Option, None, Some, IfSome, Bor, ◌↔◌, sym, ap, ◌∙◌, subst, arith}
use Rattle.std.specs.List.{Contains}
use Rattle.std.specs.Option.{option_copied}
use Rattle.std.proofs.lemmas.List.Sums.{fold-append}
use Rattle.relay_book.specs.declared.change.Change.{Change}
use Rattle.relay_book.specs.declared.change.Change.TheVariants.{Accept, Outcome}
use Rattle.relay_book.specs.Queue.{Queue, FitsQueue, Fitting, empty_queue, held_of, message_of, queue_of, step}
use Rattle.relay_book.specs.declared.message.Message.{Message}
use Rattle.relay_book.specs.Marks.{Held, IsQueuedAs}
use Rattle.relay_records.specs.ListLaws.{NextIsOneMore}
use Rattle.relay_book.proofs.Theorems.{fold_holds, fold_knows, one_more_fits}

next_after : (queue : Queue) (changes : List Change) → (fold step queue changes).next ≡ queue.next + length changes
next_after queue [] = omega arith
next_after queue (Accept accept ∷ changes) = let rest = next_after (step queue (Accept accept)) changes in omega (arith, rest)
next_after queue (Outcome outcome ∷ changes) = let rest = next_after (step queue (Outcome outcome)) changes in omega (arith, rest)

pub next_is_one_more : NextIsOneMore
next_is_one_more changes = let next = next_after empty_queue changes in omega (arith, next)

-- one change more takes one step
pub queue_of_more : (changes : List Change) (change : Change) → queue_of (changes ++ change ∷ []) ≡ step (queue_of changes) change
queue_of_more changes change = fold-append step empty_queue changes (change ∷ [])

-- a change that fits makes a list that fits
pub fitting_more : (changes : List Change) (change : Change) → Fitting changes → FitsQueue (queue_of changes) change → Fitting (changes ++ change ∷ [])
fitting_more changes change fitting fits = one_more_fits empty_queue changes change fitting fits

-- the places that are held by the queue of a list are those that the list holds
pub held_by_list : (changes : List Change) (queue : Queue) (marks : List (ℕ × ℕ)) → Fitting changes → queue ≡ queue_of changes → marks ≡ held_of queue
    → (number place : ℕ) → Contains {X = ℕ × ℕ} marks (number, place) ↔ Held changes number place
held_by_list changes queue marks fitting is marks_are number place =
    subst (λ (ms : List (ℕ × ℕ)). Contains {X = ℕ × ℕ} ms (number, place) ↔ Held changes number place) (sym (marks_are ∙ ap held_of is)) (fold_holds changes fitting number place)

-- a message of the queue of a list is the list's
pub queued_by_list : (changes : List Change) (queue : Queue) (number : ℕ) (found : Option (Bor Message)) → Fitting changes → queue ≡ queue_of changes
    → option_copied found ≡ message_of queue.messages number → IfSome found (λ message. IsQueuedAs changes number message.now)
queued_by_list changes queue number None fitting is found_is = tt
queued_by_list changes queue number (Some message) fitting is found_is =
    fold_knows changes fitting number message.now (ap (λ (q : Queue). message_of q.messages number) (sym is) ∙ sym found_is)
