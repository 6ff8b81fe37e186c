-- The text of a date and time, octet by octet, and that it tells the moment.
use Rattle.std.proofs.Common.{◌≡◌, ℕ, zero, suc, ◌+◌, ◌-◌, ◌/◌, ◌%◌, ◌<◌, not, List, [], ◌∷◌, length, get_or, ℤ, pos, ◌+ℤ◌, ◌*ℤ◌, ◌≤ℤ◌, unsigned_abs, refl, sym, ap, ◌∙◌, arith}
use Rattle.std.specs.List.{prefix_len}
use Rattle.std.specs.Str.{bytes_eq}
use Rattle.jiff_core.specs.Date.{epoch_day, weekday_of}
use Rattle.jiff_core.specs.DateTime.{civil_seconds}
use Rattle.jiff_core.specs.Time.{time_seconds}
use Rattle.jiff_core.specs.declared.civil.date.Date.{Date}
use Rattle.jiff_core.specs.declared.civil.datetime.DateTime.{DateTime}
use Rattle.jiff_core.proofs.CalendarLemmas.{weekday_number_bound}
use Rattle.jiff_core.proofs.DateLemmas.{epoch_day_injective, epoch_day_same}
use Rattle.jiff_core.proofs.SignedLemmas.{signed_arith}
use Rattle.relay_trace.specs.DateTime.{DateTextIsOne, DateTextTellsMoment, date_time_text, day_name, month_name, month_names}
use Rattle.relay_trace.proofs.DateLemmas.{civil_seconds-parts, not_negative, three_items, year_is_positive}

-- the octets of the text, by the two names and five numbers
abbrev pub octets_of : List ℕ → ℕ → List ℕ → ℕ → ℕ → ℕ → ℕ → List ℕ
octets_of weekday day month year hour minute second =
    get_or weekday 0 0 ∷ get_or weekday 1 0 ∷ get_or weekday 2 0 ∷ 44 ∷ 32
    ∷ (48 + day / 10) ∷ (48 + day % 10) ∷ 32
    ∷ get_or month 0 0 ∷ get_or month 1 0 ∷ get_or month 2 0 ∷ 32
    ∷ (48 + year / 100 / 10) ∷ (48 + year / 100 % 10) ∷ (48 + year % 100 / 10) ∷ (48 + year % 100 % 10) ∷ 32
    ∷ (48 + hour / 10) ∷ (48 + hour % 10) ∷ 58
    ∷ (48 + minute / 10) ∷ (48 + minute % 10) ∷ 58
    ∷ (48 + second / 10) ∷ (48 + second % 10) ∷ 32
    ∷ 43 ∷ 48 ∷ 48 ∷ 48 ∷ 48 ∷ []

length-day_name : (weekday : ℕ) → weekday < 7 → length (day_name weekday) ≡ 3
length-day_name zero h = refl
length-day_name (suc zero) h = refl
length-day_name (suc (suc zero)) h = refl
length-day_name (suc (suc (suc zero))) h = refl
length-day_name (suc (suc (suc (suc zero)))) h = refl
length-day_name (suc (suc (suc (suc (suc zero))))) h = refl
length-day_name (suc (suc (suc (suc (suc (suc zero)))))) h = refl
length-day_name (suc (suc (suc (suc (suc (suc (suc n))))))) h = absurd (omega arith)

-- where a name stands among the months
place_of : List ℕ → ℕ
place_of name = prefix_len (λ month. not (bytes_eq month name)) month_names

-- a month has a name of three octets, which no other has
month_is_named : (place : ℕ) → place < 12
    → (length (get_or month_names place []) ≡ 3) × (place_of (get_or month_names place []) ≡ place)
unfolding place_of
month_is_named zero h = (refl, refl)
month_is_named (suc zero) h = (refl, refl)
month_is_named (suc (suc zero)) h = (refl, refl)
month_is_named (suc (suc (suc zero))) h = (refl, refl)
month_is_named (suc (suc (suc (suc zero)))) h = (refl, refl)
month_is_named (suc (suc (suc (suc (suc zero))))) h = (refl, refl)
month_is_named (suc (suc (suc (suc (suc (suc zero)))))) h = (refl, refl)
month_is_named (suc (suc (suc (suc (suc (suc (suc zero))))))) h = (refl, refl)
month_is_named (suc (suc (suc (suc (suc (suc (suc (suc zero)))))))) h = (refl, refl)
month_is_named (suc (suc (suc (suc (suc (suc (suc (suc (suc zero))))))))) h = (refl, refl)
month_is_named (suc (suc (suc (suc (suc (suc (suc (suc (suc (suc zero)))))))))) h = (refl, refl)
month_is_named (suc (suc (suc (suc (suc (suc (suc (suc (suc (suc (suc zero))))))))))) h = (refl, refl)
month_is_named (suc (suc (suc (suc (suc (suc (suc (suc (suc (suc (suc (suc n)))))))))))) h =
    absurd (omega arith)

month_named : (date : Date)
    → (length (month_name date.month) ≡ 3) × (place_of (month_name date.month) ≡ date.month - 1)
month_named date = month_is_named (date.month - 1) (omega arith)

pub date_time_text-octets : (shown : DateTime)
    → date_time_text shown ≡ octets_of (day_name (weekday_of shown.date)) shown.date.day
    (month_name shown.date.month)
    (unsigned_abs shown.date.year) shown.time.hour shown.time.minute shown.time.second
unfolding date_time_text
date_time_text-octets shown =
    let weekday =
    three_items (day_name (weekday_of shown.date))
    (length-day_name (weekday_of shown.date) (weekday_number_bound (epoch_day shown.date))) in
    let month = three_items (month_name shown.date.month) (month_named shown.date).0 in
    rw (weekday, month)

-- two date and times of the same second have the same text
same_second : (a b : DateTime) → civil_seconds a ≡ civil_seconds b
    → date_time_text a ≡ date_time_text b
unfolding date_time_text
same_second a b e =
    let parts : (epoch_day a.date ≡ epoch_day b.date) × (a.time.hour ≡ b.time.hour) × (a.time.minute ≡ b.time.minute) × (a.time.second ≡ b.time.second) =
    omega (arith, signed_arith, civil_seconds-parts a, civil_seconds-parts b) in
    let date = epoch_day_injective a.date b.date parts.0 in
    cc (parts.0, parts.1, parts.2, parts.3, date.0, date.1, date.2)

pub date_text_is_one : DateTextIsOne
date_text_is_one seconds text other one two =
    one.text_is ∙ same_second one.shown two.shown (one.at.since_epoch ∙ sym two.at.since_epoch)
    ∙ sym two.text_is

-- two octets of two digits tell a number below 100
two_tell : (m n : ℕ) → 48 + m / 10 ≡ 48 + n / 10 → 48 + m % 10 ≡ 48 + n % 10 → m ≡ n
two_tell m n tens ones = omega arith

-- and four one below 10,000
four_tell : (m n : ℕ) → 48 + m / 100 / 10 ≡ 48 + n / 100 / 10
    → 48 + m / 100 % 10 ≡ 48 + n / 100 % 10 → 48 + m % 100 / 10 ≡ 48 + n % 100 / 10
    → 48 + m % 100 % 10 ≡ 48 + n % 100 % 10 → m ≡ n
four_tell m n a b c d =
    let hundreds = two_tell (m / 100) (n / 100) a b in
    let rest = two_tell (m % 100) (n % 100) c d in
    omega arith

-- the names of two months tell them apart
month_tells : (a b : Date) → get_or (month_name a.month) 0 0 ≡ get_or (month_name b.month) 0 0
    → get_or (month_name a.month) 1 0 ≡ get_or (month_name b.month) 1 0
    → get_or (month_name a.month) 2 0 ≡ get_or (month_name b.month) 2 0 → a.month ≡ b.month
month_tells a b first second third =
    let one = month_named a in
    let two = month_named b in
    let first_same =
    ap (λ o. o ∷ get_or (month_name a.month) 1 0 ∷ get_or (month_name a.month) 2 0 ∷ []) first in
    let second_same =
    ap (λ o. get_or (month_name b.month) 0 0 ∷ o ∷ get_or (month_name a.month) 2 0 ∷ []) second in
    let third_same =
    ap (λ o. get_or (month_name b.month) 0 0 ∷ get_or (month_name b.month) 1 0 ∷ o ∷ []) third in
    let name =
    three_items (month_name a.month) one.0 ∙ first_same ∙ second_same ∙ third_same
    ∙ sym (three_items (month_name b.month) two.0) in
    let place = sym one.1 ∙ ap place_of name ∙ two.1 in
    omega arith

same_parts : (d e : ℤ) (m n : ℕ) → d ≡ e → m ≡ n
    → d *ℤ pos 86_400 +ℤ pos m ≡ e *ℤ pos 86_400 +ℤ pos n
same_parts d e m n days seconds =
    ap (λ (z : ℤ). z *ℤ pos 86_400 +ℤ pos m) days ∙ ap (λ (k : ℕ). e *ℤ pos 86_400 +ℤ pos k) seconds

-- the text tells the second
tells_second : (a b : DateTime) → pos 0 ≤ℤ a.date.year → pos 0 ≤ℤ b.date.year
    → date_time_text a ≡ date_time_text b → civil_seconds a ≡ civil_seconds b
tells_second a b a_year b_year e =
    let octets = sym (date_time_text-octets a) ∙ e ∙ date_time_text-octets b in
    let day =
    two_tell a.date.day b.date.day (ap (λ t. get_or t 5 0) octets)
    (ap (λ t. get_or t 6 0) octets) in
    let month =
    month_tells a.date b.date (ap (λ t. get_or t 8 0) octets) (ap (λ t. get_or t 9 0) octets)
    (ap (λ t. get_or t 10 0) octets) in
    let number =
    four_tell (unsigned_abs a.date.year) (unsigned_abs b.date.year) (ap (λ t. get_or t 12 0) octets)
    (ap (λ t. get_or t 13 0) octets) (ap (λ t. get_or t 14 0) octets)
    (ap (λ t. get_or t 15 0) octets) in
    let year = not_negative a.date.year a_year ∙ ap pos number ∙ sym (not_negative b.date.year b_year) in
    let hour =
    two_tell a.time.hour b.time.hour (ap (λ t. get_or t 17 0) octets)
    (ap (λ t. get_or t 18 0) octets) in
    let minute =
    two_tell a.time.minute b.time.minute (ap (λ t. get_or t 20 0) octets)
    (ap (λ t. get_or t 21 0) octets) in
    let second =
    two_tell a.time.second b.time.second (ap (λ t. get_or t 23 0) octets)
    (ap (λ t. get_or t 24 0) octets) in
    let days = epoch_day_same a.date b.date year month day in
    civil_seconds-parts a
    ∙ same_parts (epoch_day a.date) (epoch_day b.date) (time_seconds a.time)
    (time_seconds b.time) days (omega arith)
    ∙ sym (civil_seconds-parts b)

pub date_text_tells_moment : DateTextTellsMoment
date_text_tells_moment seconds other text one two =
    let a_year = year_is_positive seconds one.shown one.at in
    let b_year = year_is_positive other two.shown two.at in
    let same =
    tells_second one.shown two.shown (omega (arith, signed_arith, a_year))
    (omega (arith, signed_arith, b_year)) (sym one.text_is ∙ two.text_is) in
    let whole = sym one.at.since_epoch ∙ same ∙ two.at.since_epoch in
    ap unsigned_abs whole
