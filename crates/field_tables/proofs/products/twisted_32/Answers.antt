use Rattle.std.proofs.Common.{◌<◌, ◌^◌}
use Rattle.tower_laws.proofs.Products.{by_twist}
use Rattle.field_tables.proofs.products.twisted_32.Goals as goal

pub returns : goal.returns
returns c = let h : c.args.a < 2 ^ 32 = c.ranges.a.fits in let step = by_twist 4 c.args.a h in cc
