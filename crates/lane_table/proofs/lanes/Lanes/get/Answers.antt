use Rattle.std.proofs.Common.{◌≡◌, ◌<◌, length, get_or, refl, arith}
use Rattle.std.proofs.lemmas.Bool.Decides.{nat_tests}
use Rattle.lane_table.proofs.LaneLaws.{length-lanes_in, lane-of}
use Rattle.lane_table.proofs.lanes.Lanes.get.Goals as goal

pub returns-in-Some-clause-row : goal.returns-in-Some-clause-row
returns-in-Some-clause-row c =
    let slots = c.self.inside.slots.items in
    let found = c.in-Some.ensures.lookup in
    let within : c.args.lane < length slots = grind (arith, nat_tests) in
    let same : c.in-Some.slot.now ≡ get_or slots c.args.lane c.in-Some.slot.now = grind arith in
    rw (← c.self.view_is, lane-of slots _ c.args.lane c.in-Some.slot.now c.self.invariant.same within same) refl

pub returns-in-Some-clause-refused : goal.returns-in-Some-clause-refused
returns-in-Some-clause-refused c = let count = length-lanes_in _ _ c.self.invariant.same in rw (← c.self.view_is, count) (grind (arith, nat_tests))

pub returns-in-None-clause-refused : goal.returns-in-None-clause-refused
returns-in-None-clause-refused c = let count = length-lanes_in _ _ c.self.invariant.same in rw (← c.self.view_is, count) (grind (arith, nat_tests))

pub returns-in-None-clause-limit : goal.returns-in-None-clause-limit
returns-in-None-clause-limit c = let count = length-lanes_in _ _ c.self.invariant.same in rw (← c.self.view_is, count) (omega arith)
