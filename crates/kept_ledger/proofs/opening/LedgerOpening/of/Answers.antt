use Rattle.std.proofs.Common.{refl}
use Rattle.kept_ledger.specs.Openings.{raw_opening}
use Rattle.kept_ledger.proofs.OpeningLaws.{none_numbered, none_texted}
use Rattle.kept_ledger.proofs.opening.LedgerOpening.of.Goals as goal

pub returns-then-not-has_numbers-clause-none : goal.returns-then-not-has_numbers-clause-none
returns-then-not-has_numbers-clause-none c = λ none.
    none_numbered c.args.bytes.now (raw_opening c.in-Some.raw) c.in-Some.ensures.shape c.in-Some.ensures.some
    (λ numbers. let yes = c.has_numbers.ensures.1 numbers in cc)

pub returns-in-None-clause-none : goal.returns-in-None-clause-none
returns-in-None-clause-none c = λ none.
    none_texted c.args.bytes.now (raw_opening c.in-Some.raw) c.in-Some.ensures.shape c.in-Some.ensures.some
    (c.in-None.ensures.none refl)
