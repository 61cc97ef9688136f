use Rattle.std.specs.Prelude.{string_bytes}
use Rattle.desk_texts.proofs.DayLaws.{pads, read_again}
use Rattle.desk_texts.proofs.day.day_text.Goals as goal

pub returns-clause-text : goal.returns-clause-text
returns-clause-text c =
    rw (c.laid_out.ensures, c.laid_out-2.ensures, c.laid_out-3.ensures, pads, pads, pads) at c.format.ensures.ok

pub returns-clause-again : goal.returns-clause-again
returns-clause-again c =
    λ is. read_again string_bytes c.format.result c.args.day.now is (returns-clause-text c)
