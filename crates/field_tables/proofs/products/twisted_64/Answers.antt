use Rattle.std.proofs.Common.{◌<◌, ◌^◌}
use Rattle.tower_laws.proofs.Products.{by_twist}
use Rattle.field_tables.proofs.products.twisted_64.Goals as goal

pub returns : goal.returns
returns c = let h : c.args.a < 2 ^ 64 = c.ranges.a.fits in let step = by_twist 5 c.args.a h in cc
