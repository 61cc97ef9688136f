use Rattle.std.proofs.Common.{◌∙◌}
use Rattle.settings_text.proofs.DigitLaws.{has_width}
use Rattle.settings_text.proofs.digits.message_of.Goals as goal

pub returns-clause-width : goal.returns-clause-width
returns-clause-width c =
    has_width c.args.width c.as_bytes.result.now c.listed.result (c.listed.ensures ∙ c.in_ok-found.ensures)
