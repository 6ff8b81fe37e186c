-- Each arm is a course of the table, for what the command asks.
use Rattle.std.proofs.Common.{Ok, refl, sym, ap}
use Rattle.relay_lines.specs.Command as line
use Rattle.relay_envelope.specs.Mail.{mail_reading, rcpt_reading}
use Rattle.relay_trace.specs.declared.received.Protocol.TheVariants.{Smtp, Esmtp}
use Rattle.relay_server.specs.ReplyTable.{Replies}
use Rattle.relay_server.specs.Setup.{setup_of}
use Rattle.relay_server.specs.State.{CommandState, Command, client_of}
use Rattle.relay_server.specs.Unit.{Hello, Mail, Rcpt, Data, Rset, Noop, Vrfy, Help, Quit}
use Rattle.relay_server.specs.Values.{command_state_of}
use Rattle.relay_server.specs.declared.reply_table.Row.TheVariants.{Done}
use Rattle.relay_server.proofs.JudgeLemmas.{answers_by}
use Rattle.relay_server.proofs.judge.judge_command.Goals as goal

pub returns-in-Helo : goal.returns-in-Helo
returns-in-Helo c =
    rw c.in-Helo.is (answers_by (setup_of c.args.server.now c.args.table.now) (Ok (line.Helo c.in-Helo.word.now)) (command_state_of c.args.state) (Hello (client_of c.in-Helo.word.now Smtp)) c.greet.result refl refl c.greet.ensures.course c.greet.ensures.held)

pub returns-in-Ehlo : goal.returns-in-Ehlo
returns-in-Ehlo c =
    rw c.in-Ehlo.is (answers_by (setup_of c.args.server.now c.args.table.now) (Ok (line.Ehlo c.in-Ehlo.word.now)) (command_state_of c.args.state) (Hello (client_of c.in-Ehlo.word.now Esmtp)) c.greet-in-Ehlo.result refl refl c.greet-in-Ehlo.ensures.course c.greet-in-Ehlo.ensures.held)

pub returns-in-Mail : goal.returns-in-Mail
returns-in-Mail c =
    let read = mail_reading c.read_mail.result in
    rw c.in-Mail.is (answers_by (setup_of c.args.server.now c.args.table.now) (Ok (line.Mail c.in-Mail.text.now)) (command_state_of c.args.state) (Mail read) c.judge_mail.result (read, c.read_mail.ensures, refl) refl c.judge_mail.ensures.course c.judge_mail.ensures.held)

pub returns-in-Rcpt : goal.returns-in-Rcpt
returns-in-Rcpt c =
    let read = rcpt_reading c.read_rcpt.result in
    rw c.in-Rcpt.is (answers_by (setup_of c.args.server.now c.args.table.now) (Ok (line.Rcpt c.in-Rcpt.text.now)) (command_state_of c.args.state) (Rcpt read) c.judge_rcpt.result (read, c.read_rcpt.ensures, refl) refl c.judge_rcpt.ensures.course c.judge_rcpt.ensures.held)

pub returns-in-Data : goal.returns-in-Data
returns-in-Data c =
    rw c.in-Data.is (answers_by (setup_of c.args.server.now c.args.table.now) (Ok line.Data) (command_state_of c.args.state) Data (Ok c.judge_data.result) refl refl c.judge_data.ensures.course (c.judge_data.ensures.held c.args.server.now.max_content c.requires))

pub returns-in-Rset : goal.returns-in-Rset
returns-in-Rset c =
    let reset = ap (λ (state : CommandState). Replies Done (Command state)) (sym c.reset.ensures.state) in
    rw c.in-Rset.is (answers_by (setup_of c.args.server.now c.args.table.now) (Ok line.Rset) (command_state_of c.args.state) Rset (Ok _) refl refl reset (c.reset.ensures.held c.args.server.now.max_content))

pub returns-in-Noop : goal.returns-in-Noop
returns-in-Noop c = rw c.in-Noop.is (answers_by (setup_of c.args.server.now c.args.table.now) (Ok line.Noop) (command_state_of c.args.state) Noop (Ok _) refl refl refl c.requires)

pub returns-in-Vrfy : goal.returns-in-Vrfy
returns-in-Vrfy c = rw c.in-Vrfy.is (answers_by (setup_of c.args.server.now c.args.table.now) (Ok line.Vrfy) (command_state_of c.args.state) Vrfy (Ok _) refl refl refl c.requires)

pub returns-in-Help : goal.returns-in-Help
returns-in-Help c = rw c.in-Help.is (answers_by (setup_of c.args.server.now c.args.table.now) (Ok line.Help) (command_state_of c.args.state) Help (Ok _) refl refl refl c.requires)

pub returns-in-Quit : goal.returns-in-Quit
returns-in-Quit c = rw c.in-Quit.is (answers_by (setup_of c.args.server.now c.args.table.now) (Ok line.Quit) (command_state_of c.args.state) Quit (Ok _) refl refl refl tt)
