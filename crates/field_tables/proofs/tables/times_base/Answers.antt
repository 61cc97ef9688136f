use Rattle.field_tables.proofs.Base.{nibbles_give}
use Rattle.field_tables.proofs.tables.times_base.Goals as goal

pub returns : goal.returns
returns c = nibbles_give c.args.a c.ranges.a.fits
