use Rattle.std.proofs.Common.{refl}
use Rattle.desk_run.proofs.resuming.resume.Goals as goal

pub returns-clause-done : goal.returns-clause-done
returns-clause-done g c = record {
  all_written = c.in_ok-all_written.all_written;
  mid = _;
  letters = rw c.in_ok-all_written.was at c.resume_letters-letters.ensures.resumed;
  found = _;
  carried = _;
  desk = c.in_ok-resume_desk.ensures.resumed;
  files = refl;
  calls = refl;
  told = c.in_ok-say.ensures.said;
  ends = c.end_of.ensures;
}
