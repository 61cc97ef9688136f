-- What was before a call, and what is after it.
use Rattle.std.specs.Prelude.{List, Option}
use Rattle.express_words.specs.Calls.{Call}
use Rattle.express_words.specs.Seen.{Seen}

-- a value before a call and after it
pub record Moved (A : Type 0) : Type 0 where
  pub old : A
  pub new : A

abbrev pub moved : {A : Type 0} → A → A → Moved A
moved old new = record { old = old; new = new }

-- what a net or a connection showed before and after
abbrev pub shown : {A : Type 0} → (A → Seen) → A → A → Moved Seen
shown shows old new = record { old = shows old; new = shows new }

-- the calls on a net, where it tells them
abbrev pub Calls : Type 0
Calls = Moved (Option (List Call))

abbrev pub calls_of : Moved Seen → Calls
calls_of net = record { old = net.old.calls; new = net.new.calls }
