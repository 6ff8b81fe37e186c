-- One piece more was read.
use Rattle.std.proofs.Common.{◌≡◌, ◌+◌, ◌≤◌, ℕ, List, ◌++◌, length, rules, subst, sym, ap, ◌∙◌, arith, length-append}
use Rattle.relay_pieces.specs.Pieces.{text_of}
use Rattle.relay_spool.specs.Blocks.{IsAt, Lies}
use Rattle.relay_spool.proofs.ChainLemmas.{lies_in, lies_on}
use Rattle.relay_spool.proofs.PassLemmas.{any_none, any_then}
use Rattle.relay_spool.proofs.RunLemmas.{kept_on}
use Rattle.relay_spool.proofs.reader.Reader.take_many.Goals as goal

pub loop-left-preserved : goal.loop-left-preserved
loop-left-preserved g c =
    let seen = g.D.Disk.words.seen in
    let image = seen c.args.disk.now in
    let before = c.loop-left.invariant in
    let start = c.args.self.now.place in
    let from = c.loop-left.self.place in
    let to = c.take_one.new.self.place in
    let octets = c.in_ok-piece.piece.items in
    let given = text_of c.loop-left.pieces in
    let longer : text_of c.push.new.self ≡ given ++ octets = c.in_ok-push.ensures in
    let count : length (text_of c.push.new.self) ≡ length given + length octets = ap length longer ∙ length-append given octets in
    let place = c.in_ok-piece.ensures.place in
    let moves = place.0 in
    let long = place.1 in
    let counted : c.len-left.result ≡ length octets = search rules in
    let fewer : length octets ≤ c.loop-left.left = search rules in
    let place_is = before.place_is in
    let given_is = before.given_is in
    record {
      stands = λ honest. subst (λ (seen_now : List ℕ). IsAt seen_now c.take_one.new.self) (before.kept honest).reads (c.in_ok-piece.ensures.goes_on.at honest);
      octets = λ honest.
          subst (Lies image start to) (sym longer)
          (lies_on image start from to given octets (before.octets honest)
          (lies_in (seen c.loop-left.disk) image from to octets (before.kept honest).reads (c.in_ok-piece.ensures.octets honest)));
      kept = λ honest. kept_on g.D.Disk.words c.args.disk.now c.loop-left.disk c.take_one.new.disk
          (before.kept honest) (c.take_one.ensures.goes_on.keeps honest);
      place_is = omega (arith, place_is, moves, long, count);
      given_is = omega (arith, given_is, counted, count, fewer);
      size_is = c.in_ok-piece.ensures.goes_on.size ∙ before.size_is;
      failures = c.in_ok-piece.ensures.goes_on.failures ∙ before.failures;
      calls = any_then g.D.Disk.words c.args.disk.now c.loop-left.disk c.take_one.new.disk before.calls c.take_one.ensures.goes_on.calls;
    }

pub loop-left-init : goal.loop-left-init
loop-left-init g c =
    record {
      stands = search rules;
      octets = search rules;
      kept = search rules;
      place_is = search rules;
      given_is = search rules;
      size_is = search rules;
      failures = search rules;
      calls = any_none g.D.Disk.words c.args.disk.now;
    }

pub returns-in_err-piece-clause-goes_on : goal.returns-in_err-piece-clause-goes_on
returns-in_err-piece-clause-goes_on g c =
    record {
      size = search rules;
      at = search rules;
      keeps = search rules;
      failures = search rules;
      calls = any_then g.D.Disk.words c.args.disk.now c.loop-left.disk c.take_one.new.disk c.loop-left.invariant.calls c.take_one.ensures.goes_on.calls;
    }

pub returns-in_err-push-clause-goes_on : goal.returns-in_err-push-clause-goes_on
returns-in_err-push-clause-goes_on g c =
    record {
      size = search rules;
      at = search rules;
      keeps = search rules;
      failures = search rules;
      calls = any_then g.D.Disk.words c.args.disk.now c.loop-left.disk c.take_one.new.disk c.loop-left.invariant.calls c.take_one.ensures.goes_on.calls;
    }
