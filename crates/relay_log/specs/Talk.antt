-- What the log keeps of the replies of a next hop during an attempt.
use Rattle.std.specs.Prelude.{◌≡◌, ◌≢◌, ◌⊎◌, ℕ, Bool, true, List, [], ◌∷◌, ◌++◌, length, map, slice_get, MatchOption}
use Rattle.std.specs.Prelude.{Some}
use Rattle.relay_lines.specs.Reply.{Reply}
use Rattle.relay_lines.specs.ReplyReading.{CutsReplies}
use Rattle.relay_lines.specs.ReplySteps.{HasRead}
use Rattle.relay_body.specs.DotText.{ends_in_line_end}
use Rattle.relay_book.specs.declared.change.Verdict.{Verdict}
use Rattle.relay_book.specs.declared.change.Verdict.TheVariants.{CantSend}
use Rattle.relay_course.specs.declared.awaited.Awaited.{Awaited}
use Rattle.relay_course.specs.VerdictTable.{kind_of}
use Rattle.relay_course.specs.Settling.{Concerns, SettlesEach, verdict_by}
use Rattle.relay_log.specs.Settling.{settling_reply, told_text}
use Rattle.relay_log.specs.declared.talk.Talk.{Talk}

-- of the octets that a next hop wrote, these are the first replies, and their codes and texts are kept, each in its
-- place; while the talk listens, they are all the replies that have ended
pub record HasKept (talk : Talk) (octets : List ℕ) (replies : List Reply) : Type 0 where
  pub rest : List ℕ
  pub cut : CutsReplies octets replies rest
  pub codes : talk.codes.items ≡ map (λ reply. reply.code) replies
  pub texts : talk.texts.items ≡ map told_text replies
  pub all : talk.listens ≡ true → HasRead talk.reader octets replies rest

-- the talk has heard these octets of a next hop, from the first one
abbrev pub HasHeard : Talk → List ℕ → Type 0
HasHeard talk octets = (replies : List Reply) × HasKept talk octets replies

-- the reply is kept after the others
pub record KeepsReply (old new : Talk) (reply : Reply) : Type 0 where
  pub codes : new.codes.items ≡ old.codes.items ++ reply.code ∷ []
  pub texts : new.texts.items ≡ old.texts.items ++ told_text reply ∷ []

-- the same replies are kept
pub record KeepsNone (old new : Talk) : Type 0 where
  pub codes : new.codes.items ≡ old.codes.items
  pub texts : new.texts.items ≡ old.texts.items

-- the reader of replies, and how the text is sent, are the same
pub record KeepsRest (old new : Talk) : Type 0 where
  pub reader : new.reader ≡ old.reader
  pub by_data : new.by_data ≡ old.by_data
  pub listens : new.listens ≡ old.listens

-- the reply gave the place of this index its verdict
pub record HasSettled (index place : ℕ) (verdicts : List Verdict) (reply : Reply) : Type 0 where
  pub waited : Awaited
  pub dsn : Bool
  pub concerns : Concerns place waited
  pub says : slice_get verdicts index ≡ Some (verdict_by dsn waited (kind_of reply.code) reply)

-- What is told as the reply that settled a place is the reply that did: where replies ended an attempt, and the talk
-- has heard them and perhaps more. It is told unless the talk stopped to listen before; and where the server takes no
-- chunk, there may be none.
abbrev pub ToldHasSettled : Type 0
ToldHasSettled =
    (talk : Talk) (text places input more : List ℕ) (verdicts : List Verdict) (replies : List Reply)
    → SettlesEach text places input verdicts → HasKept talk (input ++ more) replies
    → talk.by_data ≡ ends_in_line_end text
    → (index place : ℕ) → slice_get places index ≡ Some place
    → (slice_get verdicts index ≡ Some CantSend)
    ⊎ MatchOption (settling_reply talk.by_data replies (length places) index) (talk.listens ≢ true)
    (HasSettled index place verdicts)
