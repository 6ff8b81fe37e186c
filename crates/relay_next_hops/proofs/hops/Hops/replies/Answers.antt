-- What the next one has to hear is told after what was told before.
use Rattle.std.proofs.Common.{◌≡◌, ◌<◌, ◌≤◌, ◌++◌, [], ◌∷◌, length, map, List, ◌%◌, ◌+◌, ◌-◌, refl, sym, ap, ◌∙◌, None, option_map, arith}
use Rattle.std.specs.List.{filter_map}
use Rattle.std.proofs.lemmas.List.{map-append}
use Rattle.relay_loop.specs.declared.replying.ReplyPiece.{ReplyPiece}
use Rattle.relay_connections.specs.Hearing.{turned}
use Rattle.relay_next_hops.specs.Hearing.{replies_of, reply_at, reply_of, told_of}
use Rattle.relay_next_hops.proofs.HearingLemmas.{found_all, found_next, passed_next}
use Rattle.relay_next_hops.proofs.OrderLemmas.{first_low, round_found}
use Rattle.relay_next_hops.proofs.SlotLemmas.{is_none}
use Rattle.relay_next_hops.proofs.hops.Hops.replies.Goals as goal
use Rattle.relay_next_hops.proofs.hops.Hops.replies.Goals.{in-Some+in_ok-push, in_default}

pub loop-step-init : goal.loop-step-init
loop-step-init g c =
    let hops = c.args.self.now.hops in
    let standing = c.standing-count.result.now in
    ap (λ (items : List ReplyPiece). map told_of items ++ filter_map (reply_at hops) (turned (length standing) (c.first_of-first.result + 0) (length standing - 0))) c.new-replies.ensures.items
    ∙ round_found c.args.self.now standing c.standing-count.ensures.slots (length standing) c.first_of-first.result refl c.standing-count.ensures.within c.first_of-first.ensures.first c.first_of-first.ensures.over reply_of refl

pub loop-step-preserved : goal.loop-step-preserved
loop-step-preserved g c =
    let hops = c.args.self.now.hops in
    let count = length c.standing-count.result.now in
    let first = c.first_of-first.result in
    let step = c.loop-step.step in
    let before = c.loop-step.replies.items in
    let all = replies_of c.args.self.now in
    elim c.match-reply_at.branch [
      | in-Some+in_ok-push w ↦
          let found = found_next (reply_at hops) (map told_of before) all count first step c.loop-step-test.true c.loop-step.invariant (told_of w.in-Some.reply) (sym w.in-Some.ensures) in
          ap (λ (replies : List ReplyPiece). map told_of replies ++ filter_map (reply_at hops) (turned count (first + (step + 1)) (count - (step + 1)))) (ap (λ replies. replies.items) w.replies-is ∙ w.in_ok-push.ensures.items)
          ∙ ap (λ told. told ++ filter_map (reply_at hops) (turned count (first + (step + 1)) (count - (step + 1)))) (map-append told_of before (w.in-Some.reply ∷ [])) ∙ found
      | in_default w ↦
          let none : reply_at hops ((first + step) % count) ≡ None = sym c.reply_at.ensures ∙ ap (option_map told_of) (is_none c.reply_at.result w.in_default.not-Some) in
          ap (λ (replies : List ReplyPiece). map told_of replies ++ filter_map (reply_at hops) (turned count (first + (step + 1)) (count - (step + 1)))) (ap (λ replies. replies.items) w.replies-is)
          ∙ passed_next (reply_at hops) (map told_of before) all count first step c.loop-step-test.true c.loop-step.invariant none
    ]

pub returns : goal.returns
returns g c = found_all (reply_at c.args.self.now.hops) (map told_of c.loop-step.replies.items) (replies_of c.args.self.now) (length c.standing-count.result.now) c.first_of-first.result c.loop-step.step c.loop-step-test.false c.loop-step.invariant

-- 64 stand at most, so the sum is small
pub overflow_add-first : goal.overflow_add-first
overflow_add-first g c =
    let within : length c.standing-count.result.now ≤ 64 = c.standing-count.ensures.within in
    let some : 0 < length c.standing-count.result.now = omega (arith, c.loop-step-test.true) in
    let low = first_low c.args.self.now.first (length c.standing-count.result.now) c.first_of-first.result c.first_of-first.ensures.first c.first_of-first.ensures.over some in
    omega (arith, low, within, c.loop-step-test.true)
