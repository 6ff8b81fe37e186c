-- Spans of time and sizes as people read them.
use Rattle.std.specs.Prelude.{ℕ, ◌*◌, ◌/◌, ◌%◌, ◌^◌, nat_lt, List, [], ◌++◌, codes, decimal, Option, None, Some}
use Rattle.std.specs.Prelude.{if◌then◌else◌}
use Rattle.relay_listing.specs.declared.amounts.Amount.{Amount}

-- profile: a span in whole units of the largest that fits: seconds below a minute, minutes below an hour, hours below
-- two days, and days from then on
abbrev pub span_in_unit : ℕ → ℕ × List ℕ
span_in_unit seconds =
    if nat_lt seconds 60 then (seconds, codes " s")
    else if nat_lt seconds 3600 then (seconds / 60, codes " min")
    else if nat_lt seconds 172800 then (seconds / 3600, codes " h")
    else (seconds / 86400, codes " d")

unfoldable pub span_text : ℕ → List ℕ
span_text seconds = decimal (span_in_unit seconds).0 ++ (span_in_unit seconds).1

-- how long it is until something happens in this many seconds
unfoldable pub wait_text : ℕ → List ℕ
wait_text seconds = if nat_lt 0 seconds then codes "in " ++ span_text seconds else codes "now"

-- this many octets in a unit, rounded down to one decimal
abbrev pub in_unit : ℕ → ℕ → List ℕ → List ℕ
in_unit octets unit name = decimal (octets / unit) ++ codes "." ++ decimal (octets % unit * 10 / unit) ++ name

-- profile: a size in octets below 1,024, and else in the largest of KiB, MiB and GiB that fits
unfoldable pub size_text : ℕ → List ℕ
size_text octets =
    if nat_lt octets (2 ^ 10) then decimal octets ++ codes " B"
    else if nat_lt octets (2 ^ 20) then in_unit octets (2 ^ 10) (codes " KiB")
    else if nat_lt octets (2 ^ 30) then in_unit octets (2 ^ 20) (codes " MiB")
    else in_unit octets (2 ^ 30) (codes " GiB")

-- the tenths, if there are any
abbrev pub tenth_text : Option ℕ → List ℕ
tenth_text None = []
tenth_text (Some tenth) = codes "." ++ decimal tenth

-- a number in a unit
abbrev pub amount_text : Amount → List ℕ
amount_text amount = decimal amount.whole ++ tenth_text amount.tenth ++ amount.unit.now
