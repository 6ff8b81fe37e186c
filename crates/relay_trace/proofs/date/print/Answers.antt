use Rattle.std.proofs.Common.{ℕ, ◌/◌, ◌%◌, w8, w16, unsigned_abs, sym, ap, ◌∙◌, arith, rules}
use Rattle.relay_trace.specs.DateTime.{date_time_text, day_name, month_name, two_digits}
use Rattle.relay_trace.proofs.DateLemmas.{cast_is, day_bound, not_negative, year_bound, three_items}
use Rattle.relay_trace.proofs.date.print.Goals as goal

pub returns : goal.returns
unfolding date_time_text
returns c =
    let date = c.args.shown.date in
    let time = c.args.shown.time in
    let year = cast_is w16 _ (unsigned_abs date.year) (c.year-year.ensures ∙ not_negative date.year c.requires) (omega (arith, year_bound date.year date.year_in)) in
    let month = cast_is w8 _ date.month c.month.ensures (omega arith) in
    let weekday_name = ap day_name (sym c.weekday.ensures) ∙ sym c.day_name.ensures ∙ three_items c.day_name.result.now (search rules) in
    let name = ap month_name (sym month) ∙ sym c.month_name.ensures ∙ three_items c.month_name.result.now (search rules) in
    let day = c.two_digits.ensures ∙ ap two_digits (cast_is w8 _ date.day c.day.ensures (omega (arith, day_bound date))) in
    let century = c.two_digits-2.ensures ∙ ap (λ (n : ℕ). two_digits (n / 100)) year in
    let rest = c.two_digits-3.ensures ∙ ap (λ (n : ℕ). two_digits (n % 100)) year in
    let hour = c.two_digits-4.ensures ∙ ap two_digits (cast_is w8 _ time.hour c.hour.ensures (omega arith)) in
    let minute = c.two_digits-5.ensures ∙ ap two_digits (cast_is w8 _ time.minute c.minute.ensures (omega arith)) in
    let second = c.two_digits-6.ensures ∙ ap two_digits (cast_is w8 _ time.second c.second.ensures (omega arith)) in
    rw (weekday_name, name, day, century, rest, hour, minute, second)
