use Rattle.std.proofs.Common.{take}
use Rattle.http1.specs.Text.{concat_slices}
use Rattle.http_door.specs.Output.{IsPutAt}
use Rattle.door_asks.proofs.output.put_all.Given as goal

abbrev pub invariant-loop-part : goal.invariant-loop-part
invariant-loop-part l = IsPutAt l.fn.out l.out 0 (concat_slices (take l.part-index l.parts)) l.at
