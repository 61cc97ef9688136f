use Rattle.std.proofs.Common.{◌≡◌, ◌∙◌, ap, ℕ, min, pos, ◌/◌, unsigned_abs, arith}
use Rattle.std.proofs.lemmas.Int.{to_z_pos}
use Rattle.std.specs.Int.{w16, w64}
use Rattle.jiff_core.specs.Calendar.{days_from_civil}
use Rattle.jiff_core.specs.Date.{epoch_day}
use Rattle.jiff_core.proofs.DateLemmas.{civil}
use Rattle.jiff_core.proofs.SignedLemmas.{back_small}
use Rattle.desk_texts.proofs.DayLaws.{short_year, year_is}
use Rattle.desk_texts.proofs.day.Day.of.Goals as goal

pub returns-clause-number : goal.returns-clause-number
returns-clause-number c =
    let least = c.min-number.ensures in
    let n : ℕ = min (c.args.seconds / 86400) 2932896 in
    let small = to_z_pos w64 c.min-number.result (omega (arith, least)) in
    let number : epoch_day c.in-Ok.date ≡ pos n = c.in-Ok.ensures.value ∙ small ∙ ap pos least in
    let bits = back_small w16 c.in-Ok.date.year (short_year c.in-Ok.date.year (civil c.in-Ok.date).0) in
    let year : pos c.unsigned_abs.result ≡ c.in-Ok.date.year =
    ap pos (c.unsigned_abs.ensures.value ∙ ap unsigned_abs bits) ∙ year_is c.in-Ok.date n number in
    ap (λ y. days_from_civil y c.in-Ok.date.month c.in-Ok.date.day) year ∙ number
