-- A server's sums are numbers of the field.
use Rattle.std.specs.Prelude.{◌<◌, ◌^◌}
use Rattle.audit_rules.specs.declared.sums.Sums.{Sums}

pub record IsSums (sums : Sums) : Type 0 where
  pub x : sums.x < 2 ^ 128
  pub y : sums.y < 2 ^ 128
  pub m : sums.m < 2 ^ 128
  pub z : sums.z < 2 ^ 128
