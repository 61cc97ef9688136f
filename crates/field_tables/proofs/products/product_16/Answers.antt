use Rattle.field_tables.proofs.Logarithms.{by_halves}
use Rattle.field_tables.proofs.products.product_16.Goals as goal

pub returns : goal.returns
returns c = let step = by_halves 3 c.args.a c.args.b in cc
