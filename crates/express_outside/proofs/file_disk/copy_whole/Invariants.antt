use Rattle.std.proofs.Common.{◌≡◌, List, ℕ, Option}
use Rattle.express_outside.specs.Copying.{copied_from, bytes_in}
use Rattle.express_outside.proofs.file_disk.copy_whole.Given as goal

abbrev pub invariant-copying : goal.invariant-copying
invariant-copying g l = (pieces : List (Option (List ℕ))) × (g.F.FileCalls.calls l.file ≡ copied_from 0 pieces (g.F.FileCalls.calls l.initial.file)) × (l.at ≡ bytes_in pieces)
