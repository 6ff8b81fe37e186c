-- A place on which an outcome rules was held before it; so no outcome before it took the place.
use Rattle.std.proofs.Common.{◌≡◌, ◌+◌, ℕ, zero, suc, Bool, true, List, [], ◌∷◌, ◌++◌, false, Option, None, Some, refl, sym, subst, ap, ◌∙◌}
use Rattle.std.specs.Prelude.{MatchOption, fold, slice_get}
use Rattle.std.specs.List.{Contains}
use Rattle.std.specs.Option.{option_map_or}
use Rattle.std.proofs.lemmas.Option.{none-some, same_Some}
use Rattle.relay_book.specs.declared.change.Change.{Change}
use Rattle.relay_book.specs.declared.change.Change.TheVariants as change
use Rattle.relay_book.specs.declared.change.Outcome.{Outcome}
use Rattle.relay_book.specs.declared.change.Ruling.{Ruling}
use Rattle.relay_book.specs.declared.change.Verdict.{Verdict}
use Rattle.relay_book.specs.declared.change.Verdict.TheVariants.{Taken}
use Rattle.relay_book.specs.declared.message.Message.{Message}
use Rattle.relay_book.specs.declared.message.Place.{Place}
use Rattle.relay_book.specs.Marks.{Held, Transferred}
use Rattle.relay_book.specs.Queue.{AreRulings, FitsFrom, FitsMessage, FitsQueue, Fitting, Queue, empty_queue, holds_at, message_of, queue_of, step}
use Rattle.relay_book.proofs.Theorems.{fold_finds}
use Rattle.relay_world.specs.declared.attempt.Attempt.{Attempt}
use Rattle.relay_world.specs.declared.attempt.Fate.TheVariants.{Replied}
use Rattle.relay_world.specs.declared.link.Link.{Link}
use Rattle.relay_world.specs.Bound.{HasFate, PassesOn}
use Rattle.relay_world.specs.Passing.{Rules}
use Rattle.relay_world.specs.World.{Host}
use Rattle.relay_world.proofs.AmongLemmas.{found_in}

-- the last change of a fitting list fits the queue of those before it
fits_last : (queue : Queue) (changes : List Change) (one : Change) → FitsFrom queue (changes ++ one ∷ [])
    → FitsQueue (fold step queue changes) one
fits_last queue [] one fits = fits.0
fits_last queue (first ∷ changes) one fits = fits_last (step queue first) changes one fits.1

pub last_fits : (changes : List Change) (one : Change) → Fitting (changes ++ one ∷ []) → FitsQueue (queue_of changes) one
last_fits changes one fitting = fits_last empty_queue changes one fitting

ruled_held : (places : List Place) (least : ℕ) (rulings : List Ruling) (k : ℕ) (ruling : Ruling) → AreRulings places least rulings
    → slice_get rulings k ≡ Some ruling → holds_at places ruling.place ≡ true
ruled_held places least [] k ruling rise is = absurd (none-some ruling is)
ruled_held places least (first ∷ rulings) zero ruling rise is =
    subst (λ (r : Ruling). holds_at places r.place ≡ true) (same_Some first ruling is) rise.1
ruled_held places least (first ∷ rulings) (suc k) ruling rise is = ruled_held places (first.place + 1) rulings k ruling rise.2 is

held_by : (outcome : Outcome) (message : Option Message) (k : ℕ) (ruling : Ruling)
    → MatchOption message ⊥ (λ m. FitsMessage m outcome) → slice_get outcome.rulings k ≡ Some ruling
    → option_map_or (λ m. holds_at m.places ruling.place) message false ≡ true
held_by outcome None k ruling fits is = absurd fits
held_by outcome (Some message) k ruling fits is = ruled_held message.places 0 outcome.rulings k ruling fits.rulings is

-- the place was held
pub held_before : (changes : List Change) (outcome : Outcome) (place : ℕ) (verdict : Verdict) → Fitting changes
    → Fitting (changes ++ change.Outcome outcome ∷ []) → Contains outcome.rulings (record { place = place; verdict = verdict })
    → Held changes outcome.message place
held_before changes outcome place verdict fitting more has =
    let ruling : Ruling = record { place = place; verdict = verdict } in
    let there = found_in outcome.rulings ruling has in
    let fits : FitsQueue (queue_of changes) (change.Outcome outcome) = last_fits changes (change.Outcome outcome) more in
    (fold_finds changes fitting outcome.message place).0
    (held_by outcome (message_of (queue_of changes).messages outcome.message) there.0 ruling fits.1 there.1)

same_said : (one other : Outcome) → Some (change.Outcome one) ≡ Some (change.Outcome other) → one ≡ other
same_said one other is = cc

-- what replies to an attempt took was transferred
pub transferred_by : {D : Type 0} (host : Host D) (changes : List Change) (link : Link) (attempt : Attempt)
    → PassesOn host changes link attempt → (number place : ℕ) (dsn : Bool) → attempt.fate ≡ Replied number
    → Rules changes number place (Taken dsn) → Transferred changes attempt.message place
transferred_by host changes link attempt passes number place dsn is rules =
    let fate : HasFate host changes link attempt passes.accept passes.output passes.told passes.verdicts (Replied number) =
    subst (λ f. HasFate host changes link attempt passes.accept passes.output passes.told passes.verdicts f) is passes.fate in (
      number,
      record {
        accept = passes.accept;
        outcome = rules.outcome;
        verdict = Taken dsn;
        message = passes.accepted;
        change = rules.found;
        its_message = ap (λ (o : Outcome). o.message) (same_said rules.outcome _ (sym rules.found ∙ fate.1.2.found));
        ruling = rules.ruling;
        leaves = refl;
      },
    )
