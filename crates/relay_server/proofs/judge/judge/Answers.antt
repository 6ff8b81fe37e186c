-- A fault of the line has its course.
use Rattle.std.proofs.Common.{Result, Ok, Err, refl, subst}
use Rattle.relay_lines.specs.Command.{Command as Meant}
use Rattle.relay_lines.specs.declared.command.LineFault.{LineFault}
use Rattle.relay_server.specs.Setup.{setup_of}
use Rattle.relay_server.specs.Unit.{Faulty}
use Rattle.relay_server.specs.Values.{IsJudged, command_state_of}
use Rattle.relay_server.proofs.JudgeLemmas.{answers_by}
use Rattle.relay_server.proofs.judge.judge.Goals as goal

pub returns-in-Err : goal.returns-in-Err
returns-in-Err c =
    let setup = setup_of c.args.server.now c.args.table.now in
    let old = command_state_of c.args.state in
    subst (λ (reading : Result Meant LineFault). IsJudged setup reading old c.judge_fault.result) c.in-Err.ensures
    (answers_by setup (Err c.in-Err.fault) old (Faulty c.in-Err.fault) (Ok c.judge_fault.result) refl refl c.judge_fault.ensures.course (c.judge_fault.ensures.held c.args.server.now.max_content c.requires))
