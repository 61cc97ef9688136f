-- The wires as their caller sees them.
use Rattle.std.specs.Prelude.{ℕ, List, Option}
use Rattle.many_words.specs.Events.{Event}
use Rattle.http_wires.specs.Clients.{Client}

-- the wires below, the origin whose pages may read answers, what each place has, and all calls so far
pub record View (W : Type 0) : Type 0 where
  pub wires : W
  pub origin : Option (List ℕ)
  pub clients : List Client
  pub calls : List Event
