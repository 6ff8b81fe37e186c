-- How many octets a date text and a time stamp line have, and what the greatest moment shows.
use Rattle.std.proofs.Common.{◌≡◌, ℕ, ◌+◌, ◌<◌, ◌≤◌, List, [], ◌∷◌, length, refl, ap, ◌∙◌, arith, length-append, pos}
use Rattle.std.proofs.lemmas.Fmt.{length-decimal-le}
use Rattle.std.proofs.lemmas.List.Elements.{All-get_or}
use Rattle.jiff_core.specs.Calendar.{day_count, days_from_civil, days_of_months, days_of_years, weekday_number}
use Rattle.jiff_core.specs.DateTime.{civil_seconds}
use Rattle.std.specs.Prelude.{codes, decimal, slice_index}
use Rattle.std.specs.List.{All}
use Rattle.jiff_core.specs.declared.civil.date.Date.{Date}
use Rattle.jiff_core.specs.declared.civil.time.Time.{Time}
use Rattle.jiff_core.specs.declared.civil.datetime.DateTime.{DateTime}
use Rattle.jiff_core.proofs.SignedLemmas.{signed_arith}
use Rattle.relay_octets.specs.Line.{lines_text}
use Rattle.relay_trace.specs.DateTime.{DateTextHas31Octets, LastSecondIsShown, date_time_text, last_second}
use Rattle.relay_trace.specs.TimeStamp.{Stamp, IsStamp, TimeStampIsShort, address_text, by_line, date_line, from_line, protocol_word}
use Rattle.relay_trace.specs.declared.received.Protocol.{Protocol}
use Rattle.relay_trace.specs.declared.received.Protocol.TheVariants.{Smtp, Esmtp}
use Rattle.relay_trace.proofs.DateLemmas.{civil_seconds-parts}
use Rattle.relay_trace.proofs.DateTextLemmas.{date_time_text-octets}

pub date_text_has_31_octets : DateTextHas31Octets
date_text_has_31_octets seconds text is = ap length (is.text_is ∙ date_time_text-octets is.shown)

-- an octet has at most three digits
octet_is_short : (peer : List ℕ) (place : ℕ) → place < length peer → All (λ octet. octet < 256) peer
    → length (decimal (slice_index peer place)) ≤ 3
octet_is_short peer place within octets =
    let small : slice_index peer place < 256 = All-get_or (λ octet. octet < 256) peer place 0 within octets in
    length-decimal-le 3 (slice_index peer place) (omega arith) (omega arith) (omega arith)

-- an address has at most 15 octets
address_is_short : (peer : List ℕ) → length peer ≡ 4 → All (λ octet. octet < 256) peer
    → length (address_text peer) ≤ 15
unfolding address_text
address_is_short peer long octets =
    let one = octet_is_short peer 0 (omega arith) octets in
    let two = octet_is_short peer 1 (omega arith) octets in
    let three = octet_is_short peer 2 (omega arith) octets in
    let four = octet_is_short peer 3 (omega arith) octets in
    simp length-append (omega arith)

protocol_is_short : (protocol : Protocol) → length (protocol_word protocol) ≤ 5
protocol_is_short Smtp = omega arith
protocol_is_short Esmtp = omega arith

from_is_short : (stamp : Stamp) → IsStamp stamp
    → length (from_line stamp) ≤ length stamp.client + 35
from_is_short stamp is =
    let address = address_is_short stamp.peer is.four is.octets in
    simp length-append (omega arith)

by_is_short : (stamp : Stamp) → IsStamp stamp → length (by_line stamp) ≤ length stamp.host + 40
by_is_short stamp is =
    let small = is.number in
    let number = length-decimal-le 20 stamp.number (omega arith) (omega arith) is.number in
    let protocol = protocol_is_short stamp.protocol in
    simp length-append (omega arith)

-- three lines, with their line ends
length-three_lines : (one two three : List ℕ)
    → length (lines_text (one ∷ two ∷ three ∷ [])) ≡ length one + length two + length three + 6
length-three_lines one two three = simp length-append (omega arith)

pub time_stamp_is_short : TimeStampIsShort
time_stamp_is_short stamp line is stands =
    let from = from_is_short stamp is in
    let by = by_is_short stamp is in
    let date = date_text_has_31_octets stamp.accepted stands.date stands.date_is in
    let whole =
    ap length stands.line_is
    ∙ length-three_lines (from_line stamp) (by_line stamp) (date_line stands.date) in
    let last : length (date_line stands.date) ≡ 1 + length stands.date =
    length-append (codes " ") stands.date in
    omega arith

-- 31 December 9998
last_date : Date
last_date = record {
  year = pos 9998;
  month = 12;
  day = 31;
  year_in = (omega (arith, signed_arith), omega (arith, signed_arith));
  month_in = (omega arith, omega arith);
  day_in = (omega arith, omega arith);
}

-- 23:59:59
last_time : Time
last_time = record {
  hour = 23;
  minute = 59;
  second = 59;
  subsec_nanosecond = 0;
  hour_in = omega arith;
  minute_in = omega arith;
  second_in = omega arith;
  subsec_in = omega arith;
}

last_moment : DateTime
last_moment = record { date = last_date; time = last_time }

seconds_of_last_moment : civil_seconds last_moment ≡ pos last_second
unfolding last_moment last_date last_time days_from_civil day_count days_of_years days_of_months
seconds_of_last_moment = civil_seconds-parts last_moment

text_of_last_moment : codes "Thu, 31 Dec 9998 23:59:59 +0000" ≡ date_time_text last_moment
unfolding last_moment last_date last_time date_time_text weekday_number days_from_civil day_count days_of_years days_of_months
text_of_last_moment = refl

pub last_second_is_shown : LastSecondIsShown
last_second_is_shown = record {
  shown = last_moment;
  at = record { since_epoch = seconds_of_last_moment };
  text_is = text_of_last_moment;
}
