use Rattle.std.proofs.Common.{rules, arith, ◌<◌, ◌^◌, ◌∙◌, ap}
use Rattle.std.proofs.Output.{has_written_of_eq}
use Rattle.std.specs.Fmt.{styled_decimal}
use Rattle.jiff_core.proofs.CalendarLemmas.{days_in_month_bounds}
use Rattle.jiff_fmt.specs.Text.{padded}
use Rattle.domain_dnssec.proofs.Calendar.{filled_four, filled_two, holes, part_of_bits, text_is, year_of_bits}
use Rattle.domain_dnssec.proofs.time_field.TimeFieldDisplay.fmt.Goals as goal

pub returns-clause-writes : goal.returns-clause-writes
returns-clause-writes g c plain ok =
    let at = c.utc-at.result in
    let few : c.args.self.now.seconds < 2 ^ 32 = search rules in
    let year = year_of_bits c.year.result at.date.year c.unsigned_abs-year.result c.unsigned_abs-year.ensures.value c.year.ensures at.date.year_in in
    let month = part_of_bits c.month.result at.date.month c.unsigned_abs-month.result c.unsigned_abs-month.ensures.value c.month.ensures (omega (arith, at.date.month_in)) in
    let day = part_of_bits c.day.result at.date.day c.unsigned_abs-day.result c.unsigned_abs-day.ensures.value c.day.ensures (omega (arith, at.date.day_in, days_in_month_bounds at.date.year at.date.month)) in
    let hour = part_of_bits c.hour.result at.time.hour c.unsigned_abs-hour.result c.unsigned_abs-hour.ensures.value c.hour.ensures (omega (arith, at.time.hour_in)) in
    let minute = part_of_bits c.minute.result at.time.minute c.unsigned_abs-minute.result c.unsigned_abs-minute.ensures.value c.minute.ensures (omega (arith, at.time.minute_in)) in
    let second = part_of_bits c.second.result at.time.second c.unsigned_abs-second.result c.unsigned_abs-second.ensures.value c.second.ensures (omega (arith, at.time.second_in)) in
    let shown = holes at _ _ _ _ _ _
    (ap (λ o. styled_decimal o c.unsigned_abs-year.result) c.laid_out.ensures ∙ filled_four c.unsigned_abs-year.result ∙ ap (λ n. padded n 4) year)
    (ap (λ o. styled_decimal o c.unsigned_abs-month.result) c.laid_out-2.ensures ∙ filled_two c.unsigned_abs-month.result ∙ ap (λ n. padded n 2) month)
    (ap (λ o. styled_decimal o c.unsigned_abs-day.result) c.laid_out-3.ensures ∙ filled_two c.unsigned_abs-day.result ∙ ap (λ n. padded n 2) day)
    (ap (λ o. styled_decimal o c.unsigned_abs-hour.result) c.laid_out-4.ensures ∙ filled_two c.unsigned_abs-hour.result ∙ ap (λ n. padded n 2) hour)
    (ap (λ o. styled_decimal o c.unsigned_abs-minute.result) c.laid_out-5.ensures ∙ filled_two c.unsigned_abs-minute.result ∙ ap (λ n. padded n 2) minute)
    (ap (λ o. styled_decimal o c.unsigned_abs-second.result) c.laid_out-6.ensures ∙ filled_two c.unsigned_abs-second.result ∙ ap (λ n. padded n 2) second) in
    has_written_of_eq _ _ _ _ _ (shown ∙ text_is at c.args.self.now.seconds few c.utc-at.ensures.instant) (c.write.ensures.writes plain ok)
