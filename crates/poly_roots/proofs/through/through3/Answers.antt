use Rattle.poly_roots.proofs.Coefficients.{made, at_zero, at_one, at_two}
use Rattle.poly_roots.proofs.through.through3.Goals as goal

pub returns-clause-at_zero : goal.returns-clause-at_zero
returns-clause-at_zero c =
    at_zero c.args.u c.args.x c.args.m _
    (made c.args.u c.args.x c.args.m c.add-change.ensures c.add.ensures c.mul.ensures c.add-square.ensures c.add-slope.ensures c.value.ensures c.value-2.ensures c.value-3.ensures) c.ranges.u.fits

pub returns-clause-at_one : goal.returns-clause-at_one
returns-clause-at_one c =
    at_one c.args.u c.args.x c.args.m _
    (made c.args.u c.args.x c.args.m c.add-change.ensures c.add.ensures c.mul.ensures c.add-square.ensures c.add-slope.ensures c.value.ensures c.value-2.ensures c.value-3.ensures) c.ranges.x.fits

pub returns-clause-at_two : goal.returns-clause-at_two
returns-clause-at_two c =
    at_two c.args.u c.args.x c.args.m _
    (made c.args.u c.args.x c.args.m c.add-change.ensures c.add.ensures c.mul.ensures c.add-square.ensures c.add-slope.ensures c.value.ensures c.value-2.ensures c.value-3.ensures) c.ranges.m.fits
