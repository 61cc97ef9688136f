use Rattle.std.proofs.Common.{◌≡◌, List, ℕ, ap, sym, ◌∙◌, subst}
use Rattle.schedule_text.specs.Grammar.{schedule_of}
use Rattle.schedule_text.specs.Printing.{printed}
use Rattle.schedule_text.specs.Spelling.{SpellsSchedule}
use Rattle.schedule_text.proofs.PrintLaws.{printed_spelled, printed_again}
use Rattle.schedule_text.proofs.printing.print.Goals as goal

pub returns-clause-spelled : goal.returns-clause-spelled
returns-clause-spelled c =
    let is : c.into_bytes.result.items ≡ printed c.args.schedule.now =
    rw c.into_bytes.ensures.value c.in_ok-text.ensures.text in
    subst (λ (text : List ℕ). SpellsSchedule c.args.schedule.now text) (sym is)
    (printed_spelled c.args.schedule.now c.requires c.text_of.ensures.seed_length
    c.text_of.ensures.seed_bytes)

pub returns-clause-again : goal.returns-clause-again
returns-clause-again c =
    let is : c.into_bytes.result.items ≡ printed c.args.schedule.now =
    rw c.into_bytes.ensures.value c.in_ok-text.ensures.text in
    ap schedule_of is
    ∙ printed_again c.args.schedule.now c.requires c.text_of.ensures.seed_length c.text_of.ensures.seed_bytes
