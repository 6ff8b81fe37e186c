-- The next place is listed, if it is asked for and no postmaster holds it.
use Rattle.std.proofs.Common.{true, false, sym, ap, ◌∙◌, arith}
use Rattle.std.specs.Prelude.{count_by, option_copied, slice_index_or}
use Rattle.std.proofs.lemmas.List.{take_all}
use Rattle.relay_next_hops.specs.Steering.{is_flushed}
use Rattle.relay_next_hops.specs.declared.lanes.Lanes.{Lanes}
use Rattle.relay_next_hops.proofs.ListingLemmas.{get_at, kept_then, more_then}
use Rattle.relay_next_hops.proofs.SteeringLemmas.{counted_next, counts_some, each_next, flushed_same, if_err_at, low_of, off_next, on_err}
use Rattle.relay_next_hops.proofs.lanes.Lanes.flush_each.Goals as goal
use Rattle.relay_next_hops.proofs.lanes.Lanes.flush_each.Goals.{else-branch, then-branch}

pub loop-mark-preserved : goal.loop-mark-preserved
loop-mark-preserved g c =
    let before = c.loop-mark.invariant in
    let after = c.in_ok-flush_place.ensures in
    let node = c.args.relay.now.node in
    let hops = c.args.hops.now.hops in
    let held = c.args.self.now.held in
    let scope = option_copied c.args.scope in
    let marks = c.args.marks.now in
    let index = c.loop-mark.mark-index in
    let old = c.loop-mark.self in
    let new = c.flush_place.new.self in
    let more = more_then c.args.self.now old new before.more after.more in
    let kept = kept_then c.args.self.now old new before.kept after.kept in
    let low = c.loop-mark-test.true in
    let flushed = flushed_same node scope _ held old.held c.in_ok-flush_place.field-0 before.more.held after.flushed in
    let each = each_next node hops old new after.more after.kept held scope marks index (slice_index_or marks index _) (get_at marks index _ low) (λ is. (after.listed (flushed ∙ is)).0) before.each in
    let off_hold = off_next node c.args.now.now.tick old new after.more after.holds held scope marks index (slice_index_or marks index _) (get_at marks index _ low) (λ is. after.off_hold (flushed ∙ is)) before.off_hold in
    elim c.if-branch.branch [
      | then-branch w ↦ record {
        more = more;
        kept = kept;
        few = omega (arith, before.few, w.count-is);
        counted = w.count-is ∙ counted_next (is_flushed node held scope) marks index c.loop-mark.count _ true low (sym w.if-branch.true ∙ flushed) before.counted;
        each = each;
        off_hold = off_hold;
        opened = λ some. (after.listed w.if-branch.true).1;
      }
      | else-branch w ↦ record {
        more = more;
        kept = kept;
        few = omega (arith, before.few, w.count-is);
        counted = w.count-is ∙ counted_next (is_flushed node held scope) marks index c.loop-mark.count _ false low (sym w.if-branch.false ∙ flushed) before.counted;
        each = each;
        off_hold = off_hold;
        opened = λ some. ap (λ (lanes : Lanes). lanes.is_open) (after.left w.if-branch.false) ∙ before.opened (omega (arith, some, w.count-is));
      }
    ]

pub returns-in_err-flush_place-clause-kept : goal.returns-in_err-flush_place-clause-kept
returns-in_err-flush_place-clause-kept g c =
    kept_then c.args.self.now c.loop-mark.self c.flush_place.new.self c.loop-mark.invariant.kept c.flush_place.ensures.kept

pub returns-clause-flushed : goal.returns-clause-flushed
returns-clause-flushed g c =
    let marks = c.args.marks.now in
    let index = c.loop-mark.mark-index in
    record {
      count_is = c.loop-mark.invariant.counted
          ∙ ap (count_by (is_flushed c.args.relay.now.node c.args.self.now.held (option_copied c.args.scope))) (take_all index marks (omega (arith, c.loop-mark-test.false)));
      each = λ step mark there is. c.loop-mark.invariant.each step mark (omega (arith, low_of marks step mark there, c.loop-mark-test.false)) there is;
    }

pub returns-in_err-flush_place-clause-needed : goal.returns-in_err-flush_place-clause-needed
returns-in_err-flush_place-clause-needed g c =
    let before = c.loop-mark.invariant in
    let failed = if_err_at c.flush_place.result _ _ c.in_err-flush_place.was c.flush_place.ensures.failed in
    let marks = c.args.marks.now in
    let index = c.loop-mark.mark-index in
    let test = is_flushed c.args.relay.now.node c.args.self.now.held (option_copied c.args.scope) in
    on_err _ _
    (counts_some test marks index (slice_index_or marks index _) (get_at marks index _ c.loop-mark-test.true)
    (sym (flushed_same c.args.relay.now.node (option_copied c.args.scope) _ c.args.self.now.held c.loop-mark.self.held true before.more.held (sym failed.1))))

pub returns-clause-off_hold : goal.returns-clause-off_hold
returns-clause-off_hold g c = λ step mark there is.
    c.loop-mark.invariant.off_hold step mark (omega (arith, low_of c.args.marks.now step mark there, c.loop-mark-test.false)) there is
