use Rattle.std.proofs.Common.{refl}
use Rattle.tower_laws.specs.Elements.{element_zero}
use Rattle.tower_laws.proofs.GfLaws.{gf_path}
use Rattle.tower_field.proofs.gf128.Gf128Field.zero.Goals as goal

pub returns : goal.returns
returns c = gf_path (element_zero 7) _ refl
