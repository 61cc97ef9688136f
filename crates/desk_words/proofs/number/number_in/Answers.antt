use Rattle.std.proofs.Common.{arith, rules, ◌≡◌, ◌<◌, ◌^◌, ◌∙◌, ap, sym}
use Rattle.std.specs.Fmt.{decimal}
use Rattle.std.proofs.lemmas.Slice.Eq.{bytes_eq-Decides}
use Rattle.desk_words.proofs.Numbers.{unread, number_is}
use Rattle.desk_words.proofs.number.number_in.Goals as goal
use Rattle.desk_words.proofs.number.number_in.Goals.{then-number-lt1-via-then-number-lt1, then-number-lt1-via-else-number-lt1+then-number-most}

pub returns-in-Err : goal.returns-in-Err
returns-in-Err c n is_number same =
    let small : n < 2 ^ 32 = omega (arith, is_number.1, c.ranges.most) in
    unread c.args.text.now n c.parse.result _ c.parse.ensures.value.0 c.in-Err.is small same

pub returns-then-number-lt1 : goal.returns-then-number-lt1
returns-then-number-lt1 c n is_number same =
    let small : n < 2 ^ 32 = omega (arith, is_number.1, c.ranges.most) in
    let is : c.in-Ok.number ≡ n = number_is c.args.text.now c.in-Ok.number n c.parse.result c.parse.ensures.value.0 c.in-Ok.is small same in
    elim c.then-number-lt1.branch [
      | then-number-lt1-via-then-number-lt1 w ↦ absurd (omega (arith, is_number.0, is_number.1, w.if-number-lt1.true))
      | then-number-lt1-via-else-number-lt1+then-number-most w ↦ absurd (omega (arith, is_number.0, is_number.1, w.if-number-most.true))
    ]

pub returns : goal.returns
returns c n is_number same =
    let small : n < 2 ^ 32 = omega (arith, is_number.1, c.ranges.most) in
    let is : c.in-Ok.number ≡ n = number_is c.args.text.now c.in-Ok.number n c.parse.result c.parse.ensures.value.0 c.in-Ok.is small same in
    let digits = c.as_str.ensures.value ∙ c.in_ok-digits.ensures.ok ∙ ap decimal is ∙ sym same in
    let equal = (bytes_eq-Decides c.as_str.result.now c.args.text.now).1 digits in search (rules, equal)
