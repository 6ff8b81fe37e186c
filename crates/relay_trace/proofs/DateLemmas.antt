-- What calendar and clock show, and the texts of it.
use Rattle.std.proofs.Common.{◌≡◌, ℕ, ◌<◌, ◌≤◌, ◌^◌, List, [], ◌∷◌, length, get_or, w64, to_z, of_z, unsigned_abs, refl, ap, ◌∙◌, arith, ℤ, pos, negsuc, ◌+ℤ◌, ◌*ℤ◌, ◌≤ℤ◌}
use Rattle.std.proofs.lemmas.Int.{by_lt_z, to_z_pos}
use Rattle.std.proofs.lemmas.Slice.Eq.{text_from_reads}
use Rattle.std.specs.Int.{Width}
use mir.Val.{hbits}
use Rattle.jiff_core.specs.declared.civil.date.Date.{Date}
use Rattle.jiff_core.specs.declared.civil.datetime.DateTime.{DateTime}
use Rattle.jiff_core.specs.Date.{epoch_day}
use Rattle.jiff_core.specs.DateTime.{civil_nanos, civil_seconds}
use Rattle.jiff_core.specs.Time.{time_seconds}
use Rattle.jiff_core.specs.Calendar.{IsYear}
use Rattle.jiff_core.specs.Timestamp.{nanos_of_seconds}
use Rattle.jiff_core.proofs.SignedLemmas.{signed_arith, back_small}
use Rattle.jiff_core.proofs.CalendarLemmas.{days_in_month_bounds, day_count-epoch, day_count-lt_year, days_from_civil-day_count}
use Rattle.jiff_core.proofs.DateLemmas.{civil}
use Rattle.jiff_core.proofs.DateTimeLemmas.{civil_nanos-civil_seconds}
use Rattle.relay_trace.specs.DateTime.{IsShown}

-- the definition of jiff, for a proof that does not unfold it
pub civil_seconds-parts : (shown : DateTime)
    → civil_seconds shown ≡ epoch_day shown.date *ℤ pos 86_400 +ℤ pos (time_seconds shown.time)
unfolding civil_seconds
civil_seconds-parts shown = refl

-- what a timestamp of whole seconds shows
pub shown_at : (seconds : ℕ) (shown : DateTime) (nanos : ℤ) → seconds < 2 ^ 63
    → nanos ≡ to_z w64 seconds *ℤ pos 1_000_000_000
    → civil_nanos shown ≡ nanos +ℤ nanos_of_seconds (pos 0) → IsShown seconds shown
shown_at seconds shown nanos small at e =
    let plain = to_z_pos w64 seconds small in
    record {
      since_epoch = omega (arith, signed_arith, civil_nanos-civil_seconds shown);
    }

-- a number that isn't negative stays what it is when it is cast to its type and read as unsigned
pub cast_is : (w : Width) (z : ℤ) (n : ℕ) → z ≡ pos n → n < 2 ^ hbits w
    → unsigned_abs (to_z w (of_z w z)) ≡ n
cast_is w z n e small =
    ap (λ (v : ℤ). unsigned_abs (to_z w (of_z w v))) e ∙ ap unsigned_abs (back_small w (pos n) small)

pub not_negative : (z : ℤ) → pos 0 ≤ℤ z → z ≡ pos (unsigned_abs z)
not_negative (pos n) h = refl
not_negative (negsuc n) h = absurd (omega (arith, signed_arith))

-- a year of jiff has four digits
pub year_bound : (year : ℤ) → IsYear year → unsigned_abs year ≤ 9999
year_bound (pos n) h = omega (arith, signed_arith)
year_bound (negsuc n) h = omega (arith, signed_arith)

-- a month has at most 31 days
pub day_bound : (date : Date) → date.day ≤ 31
day_bound date = omega (arith, days_in_month_bounds date.year date.month)

-- a text of three octets, octet by octet
pub three_items : (xs : List ℕ) → length xs ≡ 3
    → xs ≡ get_or xs 0 0 ∷ get_or xs 1 0 ∷ get_or xs 2 0 ∷ []
three_items xs h = text_from_reads xs _ h (refl, (refl, (refl, tt)))

-- from 1970 on no year is negative
pub year_is_positive : (seconds : ℕ) (shown : DateTime) → IsShown seconds shown
    → pos 1970 ≤ℤ shown.date.year
year_is_positive seconds shown at =
    by_lt_z shown.date.year (pos 1970)
    (λ before. absurd (omega (arith, signed_arith, civil_seconds-parts shown, at.since_epoch, day_count-epoch, days_from_civil-day_count, day_count-lt_year _ _ _ (pos 1970) 1 1 (civil shown.date) (omega arith) before)))
    (λ since. since)
