-- Dates and times (RFC 5322, section 3.3): the text of what calendar and clock show in UTC.
use Rattle.std.specs.Prelude.{◌≡◌, ℕ, ◌+◌, ◌-◌, ◌/◌, ◌%◌, pos, unsigned_abs, List, [], ◌∷◌, ◌++◌, length, codes}
use Rattle.std.specs.Prelude.{slice_index_or}
use Rattle.jiff.specs.Words.{weekday_of, civil_seconds}
use Rattle.jiff_core.specs.declared.civil.date.Date.{Date}
use Rattle.jiff_core.specs.declared.civil.time.Time.{Time}
use Rattle.jiff_core.specs.declared.civil.datetime.DateTime.{DateTime}

-- day-name
abbrev pub day_names : List (List ℕ)
day_names =
    codes "Mon" ∷ codes "Tue" ∷ codes "Wed" ∷ codes "Thu" ∷ codes "Fri" ∷ codes "Sat" ∷ codes "Sun" ∷ []

-- month
abbrev pub month_names : List (List ℕ)
month_names =
    codes "Jan" ∷ codes "Feb" ∷ codes "Mar" ∷ codes "Apr" ∷ codes "May" ∷ codes "Jun"
    ∷ codes "Jul" ∷ codes "Aug" ∷ codes "Sep" ∷ codes "Oct" ∷ codes "Nov" ∷ codes "Dec" ∷ []

-- the name of a day that is this many days after a Monday
abbrev pub day_name : ℕ → List ℕ
day_name weekday = slice_index_or day_names weekday []

-- the name of a month, by its number from 1
abbrev pub month_name : ℕ → List ℕ
month_name month = slice_index_or month_names (month - 1) []

-- 2DIGIT: a number below 100
abbrev pub two_digits : ℕ → List ℕ
two_digits number = (48 + number / 10) ∷ (48 + number % 10) ∷ []

-- 4*DIGIT: a number below 10,000; profile: in four digits
abbrev pub four_digits : ℕ → List ℕ
four_digits number = two_digits (number / 100) ++ two_digits (number % 100)

-- date: day month year; profile: the day in two digits
abbrev pub date_part : Date → List ℕ
date_part date =
    two_digits date.day ++ codes " " ++ month_name date.month ++ codes " "
    ++ four_digits (unsigned_abs date.year)

-- time-of-day: hour ":" minute ":" second
abbrev pub time_part : Time → List ℕ
time_part time =
    two_digits time.hour ++ codes ":" ++ two_digits time.minute ++ codes ":" ++ two_digits time.second

-- date-time: day-of-week "," date time-of-day zone; profile: the day of the week is there, and the
-- zone is UTC
unfoldable pub date_time_text : DateTime → List ℕ
date_time_text shown =
    day_name (weekday_of shown.date) ++ codes ", " ++ date_part shown.date ++ codes " "
    ++ time_part shown.time ++ codes " +0000"

-- Calendar and clock show this in UTC, that many seconds after 1 January 1970, 00:00:00.
pub record IsShown (seconds : ℕ) (shown : DateTime) : Type 0 where
  pub since_epoch : civil_seconds shown ≡ pos seconds

-- the text of the date and time that calendar and clock show then
pub record IsDateText (seconds : ℕ) (text : List ℕ) : Type 0 where
  pub shown : DateTime
  pub at : IsShown seconds shown
  pub text_is : text ≡ date_time_text shown

-- the last time: the last second of the year 9998
abbrev pub last_second : ℕ
last_second = 253_370_764_799

-- A time has one date text.
abbrev pub DateTextIsOne : Type 0
DateTextIsOne =
    (seconds : ℕ) (text other : List ℕ) → IsDateText seconds text → IsDateText seconds other → text ≡ other

-- Two times with the same date text are the same.
abbrev pub DateTextTellsMoment : Type 0
DateTextTellsMoment =
    (seconds other : ℕ) (text : List ℕ) → IsDateText seconds text → IsDateText other text → seconds ≡ other

-- A date text has 31 octets.
abbrev pub DateTextHas31Octets : Type 0
DateTextHas31Octets = (seconds : ℕ) (text : List ℕ) → IsDateText seconds text → length text ≡ 31

-- The last time is 31 December 9998, 23:59:59.
abbrev pub LastSecondIsShown : Type 0
LastSecondIsShown = IsDateText last_second (codes "Thu, 31 Dec 9998 23:59:59 +0000")
