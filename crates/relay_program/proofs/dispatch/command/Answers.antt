-- Words without a fault ask for a session, a play or a task, which is neither; for an error of theirs the status goes
-- by its kind.
use Rattle.std.proofs.Common.{◌∙◌, ap, inr, refl, subst, sym}
use Rattle.relay_arguments.specs.Arguments.{asked}
use Rattle.relay_program.specs.Play.{IsPlayedWhole}
use Rattle.relay_program.specs.Session.{IsBegun}
use Rattle.relay_program.proofs.SessionLemmas.{begun_nothing}
use Rattle.relay_program.proofs.StatusLemmas.{done_at_zero, failed_at_other, one_is_not_zero}
use Rattle.relay_program.proofs.TaskLemmas.{no_play, no_session, session_is_no_play}
use Rattle.relay_program.proofs.WordLemmas.{memory_no_help, memory_no_version, no_help, no_version, of_help, only_memory}
use Rattle.relay_program.proofs.dispatch.command.Goals as goal

pub returns-in-Ok-Session-clause-session : goal.returns-in-Ok-Session-clause-session
returns-in-Ok-Session-clause-session g c = λ ask. record {
  served = done_at_zero c.session.result _ c.ended.result c.session.ensures.served c.ended.ensures.by_end;
  fault = failed_at_other c.session.result _ c.ended.result c.session.ensures.begun c.ended.ensures.by_end;
}

pub returns-in-Ok-Session-clause-play : goal.returns-in-Ok-Session-clause-play
returns-in-Ok-Session-clause-play g c = λ ask zero.
    absurd (session_is_no_play ((ap asked (sym c.in-Ok-Session.field-0-is) ∙ c.in-Ok-Session.ensures.asked) ∙ ask.1))

pub returns-in-Ok-Play-clause-session : goal.returns-in-Ok-Play-clause-session
returns-in-Ok-Play-clause-session g c = λ ask.
    absurd (session_is_no_play (sym ((ap asked (sym c.in-Ok-Play.field-0-is) ∙ c.in-Ok-Play.ensures.asked) ∙ ask.1)))

pub returns-in-Ok-Play-clause-play : goal.returns-in-Ok-Play-clause-play
returns-in-Ok-Play-clause-play g c = λ ask zero.
    done_at_zero c.play_script.result (IsPlayedWhole (g.R.Read.remaining c.args.reader.now) (g.R.Read.remaining c.play_script.new.reader))
    c.ended-in-Ok-Play.result c.play_script.ensures c.ended-in-Ok-Play.ensures.by_end zero

pub returns-in-Ok-Task-clause-session : goal.returns-in-Ok-Task-clause-session
returns-in-Ok-Task-clause-session g c = λ ask.
    absurd (no_session c.in-Ok-Task.task ((ap asked (sym c.in-Ok-Task.field-0-is) ∙ c.in-Ok-Task.ensures.asked) ∙ ask.1))

pub returns-in-Ok-Task-clause-play : goal.returns-in-Ok-Task-clause-play
returns-in-Ok-Task-clause-play g c = λ ask zero.
    absurd (no_play c.in-Ok-Task.task ((ap asked (sym c.in-Ok-Task.field-0-is) ∙ c.in-Ok-Task.ensures.asked) ∙ ask.1))

pub returns-in-Ok-Session-clause-status : goal.returns-in-Ok-Session-clause-status
returns-in-Ok-Session-clause-status g c = λ none. c.ended.ensures.status

pub returns-in-Ok-Session-clause-wrong : goal.returns-in-Ok-Session-clause-wrong
returns-in-Ok-Session-clause-wrong g c = λ are. absurd (are.0 c.in-Ok-Session.ensures.faults)

pub returns-in-Ok-Session-clause-help : goal.returns-in-Ok-Session-clause-help
returns-in-Ok-Session-clause-help g c = λ asks. c.ended.ensures.status

pub returns-in-Ok-Play-clause-status : goal.returns-in-Ok-Play-clause-status
returns-in-Ok-Play-clause-status g c = λ none. c.ended-in-Ok-Play.ensures.status

pub returns-in-Ok-Play-clause-wrong : goal.returns-in-Ok-Play-clause-wrong
returns-in-Ok-Play-clause-wrong g c = λ are. absurd (are.0 c.in-Ok-Play.ensures.faults)

pub returns-in-Ok-Play-clause-help : goal.returns-in-Ok-Play-clause-help
returns-in-Ok-Play-clause-help g c = λ asks. c.ended-in-Ok-Play.ensures.status

pub returns-in-Ok-Task-clause-status : goal.returns-in-Ok-Task-clause-status
returns-in-Ok-Task-clause-status g c = λ none. c.carry_out.ensures

pub returns-in-Ok-Task-clause-wrong : goal.returns-in-Ok-Task-clause-wrong
returns-in-Ok-Task-clause-wrong g c = λ are. absurd (are.0 c.in-Ok-Task.ensures.faults)

pub returns-in-Ok-Task-clause-help : goal.returns-in-Ok-Task-clause-help
returns-in-Ok-Task-clause-help g c = λ asks. c.carry_out.ensures

pub returns-in-Ok-Session-clause-unread : goal.returns-in-Ok-Session-clause-unread
returns-in-Ok-Session-clause-unread g c = λ session play. absurd (session (c.in-Ok-Session.ensures.faults, sym (ap asked (sym c.in-Ok-Session.field-0-is) ∙ c.in-Ok-Session.ensures.asked)))

pub returns-in-Ok-Play-clause-unread : goal.returns-in-Ok-Play-clause-unread
returns-in-Ok-Play-clause-unread g c = λ session play. absurd (play (c.in-Ok-Play.ensures.faults, sym (ap asked (sym c.in-Ok-Play.field-0-is) ∙ c.in-Ok-Play.ensures.asked)))

pub returns-in-Ok-Task-clause-unread : goal.returns-in-Ok-Task-clause-unread
returns-in-Ok-Task-clause-unread g c = λ session play. refl

pub returns-in-Err-clause-session : goal.returns-in-Err-clause-session
returns-in-Err-clause-session g c = λ ask.
    let out = only_memory c.in-Err.error _ c.in-Err.ensures.faults ask.0 in
    let same = c.explain.ensures.writer (memory_no_help c.in-Err.error out) (memory_no_version c.in-Err.error out) in
    let status = c.explain.ensures.memory out in
    record {
      served = λ done. absurd (one_is_not_zero _ status done);
      fault = λ _. (
        status,
        subst (λ w. IsBegun (g.R.Read.remaining c.args.reader.now) (g.R.Read.remaining c.args.reader.now) (g.W.Write.contents c.args.writer.now) (g.W.Write.contents w)) (sym same) (begun_nothing _ _),
      );
    }

pub returns-in-Err-clause-play : goal.returns-in-Err-clause-play
returns-in-Err-clause-play g c = λ ask done.
    absurd (one_is_not_zero _ (c.explain.ensures.memory (only_memory c.in-Err.error _ c.in-Err.ensures.faults ask.0)) done)

pub returns-in-Err-clause-status : goal.returns-in-Err-clause-status
returns-in-Err-clause-status g c = λ none. inr (c.explain.ensures.memory (only_memory c.in-Err.error _ c.in-Err.ensures.faults none))

pub returns-in-Err-clause-wrong : goal.returns-in-Err-clause-wrong
returns-in-Err-clause-wrong g c = λ are.
    let help = no_help c.in-Err.error _ c.in-Err.ensures.faults are.1 in
    let version = no_version c.in-Err.error _ c.in-Err.ensures.faults are.2 in
    (c.explain.ensures.status help version, ap g.W.Write.contents (c.explain.ensures.writer help version))

pub returns-in-Err-clause-help : goal.returns-in-Err-clause-help
returns-in-Err-clause-help g c = λ asks. of_help c.in-Err.error _ _ c.in-Err.ensures.faults asks c.explain.ensures.help c.explain.ensures.memory

pub returns-in-Err-clause-unread : goal.returns-in-Err-clause-unread
returns-in-Err-clause-unread g c = λ session play. refl
