use Rattle.desk_lines.specs.Closing.{since_text}
use Rattle.desk_lines.proofs.closing.since_text.Goals as goal

pub returns : goal.returns
unfolding since_text
returns c = rw c.in_ok-day.ensures.text at c.in_ok-text.ensures.ok
