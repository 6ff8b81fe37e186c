use Rattle.std.proofs.Common.{length, take, refl, inl, inr, arith}
use Rattle.std.proofs.lemmas.List.{take_all}
use Rattle.std.proofs.lemmas.Result.{err_from_is_err_and}
use Rattle.relay_lines.proofs.ReplyReadingLemmas.{part_is_held, part_has_fault, ended_has_fault, ended_after}
use Rattle.relay_lines.proofs.reply_reader.ReplyReader.step.Goals as goal

pub returns-in_default-clause-reads : goal.returns-in_default-clause-reads
returns-in_default-clause-reads c = λ rest held.
    let octets = c.args.octets.now in
    let all = take_all (length octets) octets (omega arith) in
    rw all
    (part_is_held c.args.self.now (record c.args.self.now { line = c.feed.new.self }) octets rest held refl refl refl c.in_default.ensures.taken c.in_ok-judge_part.ensures.ok)

pub returns-in_err-judge_part-clause-faults : goal.returns-in_err-judge_part-clause-faults
returns-in_err-judge_part-clause-faults c =
    let p = err_from_is_err_and c.from_residual.result c.from_residual.ensures.1 in
    rw (p.1, p.2)
    (λ rest held. inr (part_has_fault c.args.self.now c.feed.new.self c.args.octets.now rest c.in_err-judge_part.field-0.0 held c.in_default.ensures.taken c.in_err-judge_part.ensures.long c.in_err-judge_part.ensures.err))

pub returns-in_err-reply-clause-faults : goal.returns-in_err-reply-clause-faults
returns-in_err-reply-clause-faults c =
    let p = err_from_is_err_and c.from_residual-in_err-reply.result c.from_residual-in_err-reply.ensures.1 in
    rw (p.1, p.2) (λ rest held.
    let old = c.args.self.now in
    let octets = c.args.octets.now in
    let used = c.in-Some.used in
    let ends = c.in-Some.ensures.taken held.part held.holds in
    let after =
    ended_after old (record old { line = c.feed.new.self }) rest (take used octets) held ends refl
    refl refl in
    elim (c.in_err-reply.ensures.err after.0 after.1) [
      | inl memory ↦ inl memory
      | inr breaks ↦
          inr
          (ended_has_fault old c.feed.new.self octets rest used c.in_err-reply.field-0.0 held ends breaks)
    ])
