use Rattle.desk_run.specs.Closing.{since_text}
use Rattle.desk_run.proofs.closing.since_text.Goals as goal

pub returns : goal.returns
unfolding since_text
returns c = rw c.in_ok-day.ensures.text at c.in_ok-text.ensures.ok
