-- Held mail of a running relay: the file beside the spool, and what the answers to requests say.
use Rattle.std.specs.Prelude.{◌≡◌, ℕ, ◌+◌, min, Bool, if◌then◌else◌, List, ◌++◌, Option, None, Some, codes, option_map}
use Rattle.std.specs.Prelude.{string_bytes}
use Rattle.relay_book.specs.Queue.{message_of}
use Rattle.relay_book.specs.declared.limits.TheConstants.{PATIENCE}
use Rattle.relay_control.specs.Answer.{end_text, line_text}
use Rattle.relay_control.specs.HeldFile.{IsTextOf}
use Rattle.relay_control.specs.declared.answer.End.TheVariants.{Done}
use Rattle.relay_control.specs.declared.held.Held.{Held}
use Rattle.relay_control.specs.declared.scope.Scope.{Scope}
use Rattle.relay_control.specs.declared.scope.Scope.TheVariants.{Hop, Message}
use Rattle.relay_node.specs.Node.{NodeState}
use Rattle.relay_trace.specs.DateTime.{IsDateText, last_second}
use Rattle.relay_run.specs.declared.held_mail.HeldMail.{HeldMail}

-- the file of held mail was replaced by one that says that this mail is held
pub record IsKept {O : Type 0} (has_replaced : O → List ℕ → List ℕ → Type 0) (files : O) (file : HeldMail)
    (held : Held) : Type 0 where
  pub text : List ℕ
  pub says : IsTextOf text held
  pub replaced : has_replaced files (string_bytes file.path) text

-- when a queued message expires, held or not; none for a next hop
abbrev pub expiry_of : {D : Type 0} → NodeState D → Scope → Option ℕ
expiry_of node (Hop name) = None
expiry_of node (Message number) =
    option_map (λ message. min (message.accept.at + PATIENCE) last_second)
    (message_of node.records.queue.messages number)

-- the text says that
abbrev pub SaysExpiry : Option ℕ → List ℕ → Type 0
SaysExpiry None text = text ≡ codes "mail still expires 5 days after it was accepted"
SaysExpiry (Some moment) text =
    (date : List ℕ) × IsDateText moment date × (text ≡ codes "it still expires, on " ++ date)

-- how the line of the answer to a request that has held mail begins: whether the mail was held before
abbrev pub beginning_of : Bool → List ℕ
beginning_of is_new = if is_new then codes "held; " else codes "held before; "

-- that line: whether the mail was held before, and when it expires
pub record IsHeldLine (is_new : Bool) (expiry : Option ℕ) (line : List ℕ) : Type 0 where
  pub rest : List ℕ
  pub says : SaysExpiry expiry rest
  pub line_is : line ≡ beginning_of is_new ++ rest

-- that answer
pub record IsHeldAnswer (is_new : Bool) (expiry : Option ℕ) (answer : List ℕ) : Type 0 where
  pub line : List ℕ
  pub is_line : IsHeldLine is_new expiry line
  pub answer_is : answer ≡ line_text line ++ end_text Done
