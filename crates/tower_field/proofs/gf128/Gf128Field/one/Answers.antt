use Rattle.std.proofs.Common.{refl}
use Rattle.tower_laws.specs.Elements.{element_one}
use Rattle.tower_laws.proofs.GfLaws.{gf_path}
use Rattle.tower_field.proofs.gf128.Gf128Field.one.Goals as goal

pub returns : goal.returns
returns c = gf_path (element_one 7) _ refl
