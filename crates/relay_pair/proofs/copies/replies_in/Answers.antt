use Rattle.std.proofs.Common.{◌≡◌, ◌≤◌, ◌<◌, ◌+◌, ◌++◌, ◌∷◌, [], length, take, sym, ◌∙◌, subst, arith}
use Rattle.relay_lines.specs.ReplySteps.{HasRead}
use Rattle.relay_pair.proofs.CopyLemmas.{cut_short, none_of, octets_left, read_within, reads_more, reads_one, some_of}
use Rattle.relay_pair.proofs.copies.replies_in.Goals as goal

pub returns-in-Err : goal.returns-in-Err
returns-in-Err c =
    cut_short c.args.octets.now c.loop-used.used c.loop-used.reader c.loop-used.replies.items c.loop-used.invariant.rest
    c.in-Err.fault c.loop-used.invariant.reads (sym c.is_no_memory.ensures ∙ c.if-is_no_memory.false)
    (c.in-Err.ensures.faults (take c.loop-used.used c.args.octets.now) c.loop-used.replies.items c.loop-used.invariant.rest
    c.loop-used.invariant.reads)

pub loop-used-preserved-in-Continue-1 : goal.loop-used-preserved-in-Continue-1
loop-used-preserved-in-Continue-1 c =
    let octets = c.args.octets.now in
    let used = c.loop-used.used in
    let replies = c.loop-used.replies.items in
    let rest = c.loop-used.invariant.rest in
    let cut = c.in-Ok.cut in
    let reply = c.in-Some.reply in
    let after = c.feed.new.self in
    let piece = octets_left octets used in
    let whole = some_of (cut.used ≡ length piece) (λ _. (0 < cut.used) × (cut.used ≤ length piece)) cut.reply reply c.in-Some.is
    c.in-Ok.ensures.whole in
    let reads : HasRead after (take used octets ++ take cut.used piece) (replies ++ reply ∷ []) [] =
    some_of (HasRead after (take used octets ++ piece) replies (rest ++ piece))
    (λ r. HasRead after (take used octets ++ take cut.used piece) (replies ++ r ∷ []) []) cut.reply reply c.in-Some.is
    (c.in-Ok.ensures.reads (take used octets) replies rest c.loop-used.invariant.reads) in
    record {
      within = read_within octets used c.loop-used.reader replies rest cut.used c.loop-used.invariant.within whole.1;
      rest = [];
      reads = subst (λ l. HasRead after (take (used + cut.used) octets) l []) (sym c.in_ok-push.ensures.items)
          (subst (λ r. HasRead after (take (used + cut.used) octets) (replies ++ r ∷ []) []) (sym c.in-Some.reply-is)
          (reads_one octets used c.loop-used.reader replies rest after cut.used reply reads));
    }

pub loop-used-preserved : goal.loop-used-preserved
loop-used-preserved c =
    let octets = c.args.octets.now in
    let used = c.loop-used.used in
    let replies = c.loop-used.replies.items in
    let rest = c.loop-used.invariant.rest in
    let cut = c.in-Ok.cut in
    let after = c.feed.new.self in
    let piece = octets_left octets used in
    let whole : cut.used ≡ length piece =
    none_of (cut.used ≡ length piece) (λ _. (0 < cut.used) × (cut.used ≤ length piece)) cut.reply c.in_default.is c.in-Ok.ensures.whole in
    let reads : HasRead after (take used octets ++ piece) replies (rest ++ piece) =
    none_of (HasRead after (take used octets ++ piece) replies (rest ++ piece))
    (λ r. HasRead after (take used octets ++ take cut.used piece) (replies ++ r ∷ []) []) cut.reply c.in_default.is
    (c.in-Ok.ensures.reads (take used octets) replies rest c.loop-used.invariant.reads) in
    record {
      within = read_within octets used c.loop-used.reader replies rest cut.used c.loop-used.invariant.within (omega (arith, whole));
      rest = rest ++ piece;
      reads = reads_more octets used c.loop-used.reader replies rest after cut.used whole reads;
    }
