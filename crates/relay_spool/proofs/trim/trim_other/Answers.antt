use Rattle.std.proofs.Common.{List, ℕ, Option, IfOk, Some, sym, subst, ◌∙◌}
use Rattle.relay_disk.specs.declared.disks.Side.{Side}
use Rattle.relay_disk.specs.Disks.{IsTurned, mine, other, turned}
use Rattle.relay_spool.specs.declared.taken.HeadGate.{HeadGate}
use Rattle.relay_spool.specs.declared.taken.HeadGate.TheVariants.{Closed}
use Rattle.relay_spool.specs.Head.{IsClosedOr, IsGateOf}
use Rattle.relay_spool.specs.Run.{AtEachMoment}
use Rattle.relay_spool.specs.Spool.{Rests}
use Rattle.relay_spool.specs.Trim.{Trims, trimmed_gate}
use Rattle.relay_spool.proofs.TrimLemmas.{seen_other, seen_still, trim_rests, trim_run}
use Rattle.relay_spool.proofs.TurnLemmas.{fuses_on, on_ok_both, run_on, settled_mine, settled_on, settled_other, unmoved_on}
use Rattle.relay_spool.proofs.trim.trim_other.Goals as goal

pub returns-clause-trimmed : goal.returns-clause-trimmed
returns-clause-trimmed g c = λ honest.
    let words = g.D.Disk.words in
    let side = c.args.taken.side in
    let to = turned side in
    let old = c.args.disks.now in
    let new = c.turn-2.new.self in
    let mid = c.turn.new.self.first in
    let left = c.shorten-answer.new.disk in
    let result = c.shorten-answer.result in
    let most = c.args.most in
    let gate = c.args.gate in
    let here = subst (λ (s : Side). IsTurned g.D.Disk.honest words s old c.turn.new.self) c.turned-side.ensures c.turn.ensures in
    let back = subst (λ (s : Side). IsTurned g.D.Disk.honest words s (record { first = left; second = c.turn.new.self.second }) new) c.turned-side.ensures c.turn-2.ensures in
    subst (λ (xs : List ℕ). IfOk result (Trims most gate xs (words.seen (other side new)))) (here.mine_there.seen honest ∙ seen_other words side old)
    (subst (λ (xs : List ℕ). IfOk result (Trims most gate (words.seen mid) xs)) (sym (back.mine_back.seen honest) ∙ seen_other words side new)
    (c.shorten-answer.ensures.trimmed honest))

pub returns-clause-mine : goal.returns-clause-mine
returns-clause-mine g c = λ honest.
    let words = g.D.Disk.words in
    let side = c.args.taken.side in
    let to = turned side in
    let old = c.args.disks.now in
    let new = c.turn-2.new.self in
    let left = c.shorten-answer.new.disk in
    let here = subst (λ (s : Side). IsTurned g.D.Disk.honest words s old c.turn.new.self) c.turned-side.ensures c.turn.ensures in
    let back = subst (λ (s : Side). IsTurned g.D.Disk.honest words s (record { first = left; second = c.turn.new.self.second }) new) c.turned-side.ensures c.turn-2.ensures in
    let three = fuses_on g.D.Disk.honest words (other to old) c.turn.new.self.second (other to new) here.other_there back.other_back in
    sym (seen_still words side new) ∙ three.seen honest ∙ seen_still words side old

pub returns-clause-rests : goal.returns-clause-rests
returns-clause-rests g c = λ honest bodies rests gate_is.
    let words = g.D.Disk.words in
    let taken = c.args.taken in
    let to = turned taken.side in
    let old = c.args.disks.now in
    let new = c.turn-2.new.self in
    let left = c.shorten-answer.new.disk in
    let here = subst (λ (s : Side). IsTurned g.D.Disk.honest words s old c.turn.new.self) c.turned-side.ensures c.turn.ensures in
    let back = subst (λ (s : Side). IsTurned g.D.Disk.honest words s (record { first = left; second = c.turn.new.self.second }) new) c.turned-side.ensures c.turn-2.ensures in
    let three = fuses_on g.D.Disk.honest words (other to old) c.turn.new.self.second (other to new) here.other_there back.other_back in
    let still = unmoved_on g.D.Disk.honest words honest (other to old) (other to new) (g.met.D.Disk.only_now honest (other to old)) (settled_other words to old rests.only) three in
    on_ok_both c.shorten-answer.result
    (λ closed only.
    subst (λ (gate : Option HeadGate). Rests words new (record { side = taken.side; generation = taken.generation; other = trimmed_gate gate }) bodies) (sym gate_is)
    (trim_rests words taken.side taken.generation old new bodies rests.described.is_taken rests.image rests.described.generation_is
    (subst (λ (xs : List ℕ). IsGateOf xs (Some Closed)) (sym (back.mine_back.seen honest)) closed)
    (settled_on g.D.Disk.honest words honest left (mine to new) back.mine_back only) still))
    (c.shorten-answer.ensures.closed honest) (c.shorten-answer.ensures.settled honest)

pub returns-clause-stop : goal.returns-clause-stop
returns-clause-stop g c = λ honest bodies rests.
    let words = g.D.Disk.words in
    let side = c.args.taken.side in
    let to = turned side in
    let old = c.args.disks.now in
    let new = c.turn-2.new.self in
    let mid = c.turn.new.self.first in
    let left = c.shorten-answer.new.disk in
    let here = subst (λ (s : Side). IsTurned g.D.Disk.honest words s old c.turn.new.self) c.turned-side.ensures c.turn.ensures in
    let back = subst (λ (s : Side). IsTurned g.D.Disk.honest words s (record { first = left; second = c.turn.new.self.second }) new) c.turned-side.ensures c.turn-2.ensures in
    let three = fuses_on g.D.Disk.honest words (other to old) c.turn.new.self.second (other to new) here.other_there back.other_back in
    let still = unmoved_on g.D.Disk.honest words honest (other to old) (other to new) (g.met.D.Disk.only_now honest (other to old)) (settled_other words to old rests.only) three in
    let run = run_on g.D.Disk.honest words honest (mine to old) mid left (mine to new) (IsClosedOr (words.seen mid)) here.mine_there
    (c.shorten-answer.ensures.stop honest (settled_on g.D.Disk.honest words honest (mine to old) mid here.mine_there (settled_mine words to old rests.only))) back.mine_back in
    trim_run words side old new bodies rests.described.is_taken rests.image
    (subst (λ (xs : List ℕ). AtEachMoment words (mine to old) (mine to new) (IsClosedOr xs)) (here.mine_there.seen honest) run) still
