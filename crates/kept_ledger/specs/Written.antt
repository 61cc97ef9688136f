-- An address as it stands in a record.
use Rattle.std.specs.Prelude.{ℕ, List}
use Rattle.std.specs.Int.{w128, to_be_bytes}

unfoldable pub written : ℕ → List ℕ
written address = to_be_bytes w128 address
