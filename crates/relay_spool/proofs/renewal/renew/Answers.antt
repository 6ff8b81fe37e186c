use Rattle.std.proofs.Common.{ℕ, List, sym, subst, ap, ◌∙◌}
use Rattle.relay_disk.specs.declared.disks.Side.{Side}
use Rattle.relay_disk.specs.Disks.{IsTurned, mine, other, turned}
use Rattle.relay_spool.specs.Head.{IsOldOrNew, generation_of, renewed}
use Rattle.relay_spool.specs.Run.{AtEachMoment}
use Rattle.relay_spool.proofs.PairLemmas.{compact_rests, compact_run}
use Rattle.relay_spool.proofs.TurnLemmas.{fuses_on, on_ok_both, run_on, seen_mine, settled_mine, settled_on, settled_other, unmoved_on}
use Rattle.relay_spool.proofs.renewal.renew.Goals as goal

pub returns-clause-renewed : goal.returns-clause-renewed
returns-clause-renewed g c = λ honest before body rests renewal.
    let words = g.D.Disk.words in
    let taken = c.args.taken in
    let to = turned taken.side in
    let old = c.args.disks.now in
    let new = c.turn-2.new.self in
    let left = c.write_anew-answer.new.disk in
    let here = subst (λ (s : Side). IsTurned g.D.Disk.honest words s old c.turn.new.self) c.turned-side.ensures c.turn.ensures in
    let back = subst (λ (s : Side). IsTurned g.D.Disk.honest words s (record { first = left; second = c.turn.new.self.second }) new) c.turned-side.ensures c.turn-2.ensures in
    let three = fuses_on g.D.Disk.honest words (other to old) c.turn.new.self.second (other to new) here.other_there back.other_back in
    let still = unmoved_on g.D.Disk.honest words honest (other to old) (other to new) (g.met.D.Disk.only_now honest (other to old)) (settled_other words to old rests.only) three in
    on_ok_both c.write_anew-answer.result
    (λ is only. compact_rests words taken.side taken.generation taken.other old new body c.args.octets.now rests.described renewal
    (back.mine_back.seen honest ∙ is) (settled_on g.D.Disk.honest words honest left (mine to new) back.mine_back only) still)
    (c.write_anew-answer.ensures.renewed honest) (c.write_anew-answer.ensures.settled honest)

pub returns-clause-stop : goal.returns-clause-stop
returns-clause-stop g c = λ honest before body rests renewal.
    let words = g.D.Disk.words in
    let taken = c.args.taken in
    let to = turned taken.side in
    let old = c.args.disks.now in
    let new = c.turn-2.new.self in
    let mid = c.turn.new.self.first in
    let left = c.write_anew-answer.new.disk in
    let octets = c.args.octets.now in
    let here = subst (λ (s : Side). IsTurned g.D.Disk.honest words s old c.turn.new.self) c.turned-side.ensures c.turn.ensures in
    let back = subst (λ (s : Side). IsTurned g.D.Disk.honest words s (record { first = left; second = c.turn.new.self.second }) new) c.turned-side.ensures c.turn-2.ensures in
    let three = fuses_on g.D.Disk.honest words (other to old) c.turn.new.self.second (other to new) here.other_there back.other_back in
    let still = unmoved_on g.D.Disk.honest words honest (other to old) (other to new) (g.met.D.Disk.only_now honest (other to old)) (settled_other words to old rests.only) three in
    let run = run_on g.D.Disk.honest words honest (mine to old) mid left (mine to new) (IsOldOrNew (words.seen mid) (renewed octets)) here.mine_there
    (c.write_anew-answer.ensures.stop honest (settled_on g.D.Disk.honest words honest (mine to old) mid here.mine_there (settled_mine words to old rests.only))) back.mine_back in
    compact_run words taken.side old new before body octets taken.generation rests.described.is_taken rests.image (ap generation_of (sym (seen_mine words taken.side old)) ∙ rests.described.generation_is) renewal
    (subst (λ (xs : List ℕ). AtEachMoment words (mine to old) (mine to new) (IsOldOrNew xs (renewed octets))) (here.mine_there.seen honest) run) still
