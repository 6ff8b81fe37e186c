-- The time stamp line (RFC 5321, section 4.4): a `Received:` field of three lines, put before a
-- content.
use Rattle.std.specs.Prelude.{◌≡◌, ℕ, ◌+◌, ◌^◌, ◌<◌, ◌≤◌, List, [], ◌∷◌, ◌++◌, length, take, codes, decimal}
use Rattle.std.specs.Prelude.{slice_index}
use Rattle.std.specs.List.{All}
use Rattle.relay_octets.specs.Line.{HasNoCrlf, lines_text}
use Rattle.relay_trace.specs.DateTime.{IsDateText}
use Rattle.relay_trace.specs.HeaderSection.{AreFields, header_end_of, received_count_of}
use Rattle.relay_trace.specs.declared.received.Protocol.{Protocol}
use Rattle.relay_trace.specs.declared.received.Protocol.TheVariants.{Smtp, Esmtp}
use Rattle.relay_trace.specs.declared.received.TimeStamp.{TimeStamp}

-- the values of a time stamp line: the client's word and address, this host, the protocol, the number of the message,
-- and when it was accepted
pub record Stamp : Type 0 where
  pub client : List ℕ
  pub peer : List ℕ
  pub host : List ℕ
  pub protocol : Protocol
  pub number : ℕ
  pub accepted : ℕ

-- IPv4-address-literal, without its brackets: four octets in decimal, periods between
unfoldable pub address_text : List ℕ → List ℕ
address_text peer =
    decimal (slice_index peer 0) ++ codes "." ++ decimal (slice_index peer 1) ++ codes "."
    ++ decimal (slice_index peer 2) ++ codes "." ++ decimal (slice_index peer 3)

-- the protocol of a session opened by HELO, and of one opened by EHLO
abbrev pub protocol_word : Protocol → List ℕ
protocol_word Smtp = codes "SMTP"
protocol_word Esmtp = codes "ESMTP"

-- From-domain: the client's word and its address
abbrev pub from_line : Stamp → List ℕ
from_line stamp =
    codes "Received: from " ++ stamp.client ++ codes " ([" ++ address_text stamp.peer ++ codes "])"

-- By-domain, With and ID
abbrev pub by_line : Stamp → List ℕ
by_line stamp =
    codes " by " ++ stamp.host ++ codes " with " ++ protocol_word stamp.protocol ++ codes " id "
    ++ decimal stamp.number ++ codes ";"

-- the line of the date
abbrev pub date_line : List ℕ → List ℕ
date_line date = codes " " ++ date

-- the line is the time stamp line that says this
pub record IsTimeStamp (stamp : Stamp) (line : List ℕ) : Type 0 where
  pub date : List ℕ
  pub date_is : IsDateText stamp.accepted date
  pub line_is : line ≡ lines_text (from_line stamp ∷ by_line stamp ∷ date_line date ∷ [])

-- two words in which no CR LF stands, an address of four octets, and a number of 64 bits
pub record IsStamp (stamp : Stamp) : Type 0 where
  pub client : HasNoCrlf stamp.client
  pub four : length stamp.peer ≡ 4
  pub octets : All (λ octet. octet < 256) stamp.peer
  pub host : HasNoCrlf stamp.host
  pub number : stamp.number < 2 ^ 64

-- the text is the content after one time stamp line
pub record IsPassed (stamp : Stamp) (content text : List ℕ) : Type 0 where
  pub line : List ℕ
  pub line_is : IsTimeStamp stamp line
  pub text_is : text ≡ line ++ content

-- the values that a `TimeStamp` of the code has
abbrev pub stamp_of : TimeStamp → Stamp
stamp_of stamp = record {
  client = stamp.client.now;
  peer = stamp.peer;
  host = stamp.host.now;
  protocol = stamp.protocol;
  number = stamp.number;
  accepted = stamp.accepted;
}

-- A time stamp has one line.
abbrev pub TimeStampIsOne : Type 0
TimeStampIsOne =
    (stamp : Stamp) (line other : List ℕ) → IsTimeStamp stamp line → IsTimeStamp stamp other → line ≡ other

-- A time stamp line has no empty line in it, and its count of `Received:` fields is 1.
abbrev pub TimeStampIsOneField : Type 0
TimeStampIsOneField =
    (stamp : Stamp) (line : List ℕ) → IsStamp stamp → IsTimeStamp stamp line
    → AreFields line × (received_count_of line ≡ 1)

-- A text with its time stamp line has one `Received:` field more than its content.
abbrev pub PassingAddsOne : Type 0
PassingAddsOne =
    (stamp : Stamp) (content text : List ℕ) → IsStamp stamp → IsPassed stamp content text
    → received_count_of text ≡ received_count_of content + 1

-- The header section of a text with its time stamp line is that line and the content's header section.
abbrev pub PassingKeepsHeader : Type 0
PassingKeepsHeader =
    (stamp : Stamp) (content text : List ℕ) → IsStamp stamp → (passed : IsPassed stamp content text)
    → take (header_end_of text) text ≡ passed.line ++ take (header_end_of content) content

-- A time stamp line has at most 113 octets beside its two words.
abbrev pub TimeStampIsShort : Type 0
TimeStampIsShort =
    (stamp : Stamp) (line : List ℕ) → IsStamp stamp → IsTimeStamp stamp line
    → length line ≤ length stamp.client + length stamp.host + 113
