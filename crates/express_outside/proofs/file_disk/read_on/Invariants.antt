use Rattle.std.proofs.Common.{◌≤◌, ◌<◌, ◌+◌, ◌^◌, length, take}
use Rattle.express_outside.specs.FileReads.{ReadFrom}
use Rattle.express_outside.proofs.file_disk.read_on.Given as goal

abbrev pub invariant-reading : goal.invariant-reading
invariant-reading g l = (l.done ≤ length l.out)
    × (l.at + length l.out < 2 ^ 64 → ReadFrom l.at (g.F.FileCalls.calls l.initial.file) (g.F.FileCalls.calls l.file) (take l.done l.out))
