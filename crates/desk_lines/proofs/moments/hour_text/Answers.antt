use Rattle.desk_lines.proofs.PadLaws.{pads}
use Rattle.desk_lines.specs.Moments.{hour_text}
use Rattle.desk_lines.proofs.moments.hour_text.Goals as goal

pub returns : goal.returns
unfolding hour_text
returns c = rw (c.laid_out.ensures, c.laid_out-2.ensures, pads, pads) at c.in_ok-text.ensures.ok
