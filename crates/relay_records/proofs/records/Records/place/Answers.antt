use Rattle.std.proofs.Common.{[], None, refl, sym, ap, ◌∙◌}
use Rattle.std.specs.Option.{option_and_then, option_copied}
use Rattle.relay_book.specs.Queue.{Queue}
use Rattle.relay_records.specs.HeldPlace.{waiting_at, waiting_in}
use Rattle.relay_records.proofs.PlaceLemmas.{place_by_list}
use Rattle.relay_records.proofs.records.Records.place.Goals as goal

pub returns-in-None-clause-kept : goal.returns-in-None-clause-kept
returns-in-None-clause-kept g c = λ changes keeps.
    place_by_list changes keeps.fitting c.args.number c.args.place {F = Unit {0}} (λ _. []) (λ _. 0) None None
    (ap (λ (q : Queue). waiting_at q c.args.number c.args.place) (sym keeps.queue)
    ∙ ap (option_and_then (waiting_in c.args.place)) (sym c.message.ensures.message ∙ ap option_copied c.in-None.is)) refl

pub returns-in-Some-clause-kept : goal.returns-in-Some-clause-kept
returns-in-Some-clause-kept g c = λ changes keeps.
    place_by_list changes keeps.fitting c.args.number c.args.place (λ found. found.path.now) (λ found. found.due)
    (waiting_in c.args.place c.in-Some.message.now) c.held_place.result
    (ap (λ (q : Queue). waiting_at q c.args.number c.args.place) (sym keeps.queue)
    ∙ ap (option_and_then (waiting_in c.args.place)) (sym c.message.ensures.message ∙ ap option_copied c.in-Some.is)) c.held_place.ensures
