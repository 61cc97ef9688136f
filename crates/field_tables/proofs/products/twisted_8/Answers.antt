use Rattle.tower_numbers.specs.Levels.{twist_at}
use Rattle.field_tables.proofs.products.twisted_8.Goals as goal

pub returns : goal.returns
unfolding twist_at
returns c = c.product.ensures
