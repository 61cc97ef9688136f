-- Connections that count.
use Rattle.std.specs.Prelude.{List, Option, Some}
use Rattle.many_words.specs.Events.{Event}

-- the connections below, and all calls so far
pub record View (W : Type 0) : Type 0 where
  pub wires : W
  pub calls : List Event

-- they tell all calls
abbrev pub calls_of : {W : Type 0} → View W → Option (List Event)
calls_of v = Some v.calls
