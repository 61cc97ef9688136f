-- When a proof passes at a point, over the operations of any field.
use Rattle.std.specs.Prelude.{◌≡◌, List}
use Rattle.tower_laws.specs.Polynomials.{value_at}

-- the polynomials f, g and h with the triple's error alpha pass at the point p, where t is the element 2
pub record Passes {F : Type 0} (z o : F) (add mul : F → F → F) (f g h : List F) (t alpha p : F) : Type 0 where
  pub outputs : add (value_at z add mul h o) (value_at z add mul h t) ≡ z
  pub product :
      let fg = mul (value_at z add mul f p) (value_at z add mul g p) in
      add (mul p (add fg (value_at z add mul h p))) alpha ≡ z
