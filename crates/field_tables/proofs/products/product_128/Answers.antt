use Rattle.std.proofs.Common.{◌<◌, ◌^◌}
use Rattle.tower_laws.proofs.Products.{by_three}
use Rattle.field_tables.proofs.products.product_128.Goals as goal

pub returns : goal.returns
returns c =
    let h : c.args.a < 2 ^ 128 = c.ranges.a.fits in
    let i : c.args.b < 2 ^ 128 = c.ranges.b.fits in
    let step = by_three 6 c.args.a c.args.b h i in
    cc
