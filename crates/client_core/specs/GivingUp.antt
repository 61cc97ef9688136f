-- A client that gives its request up.
use Rattle.std.specs.Prelude.{◌+◌, Option, Some, None}
use Rattle.step_rules.specs.Client.{Client, Current}

-- there is no current request any more, and the next takes the next serial
abbrev pub given_up_at : Client → Option Current → Client
given_up_at c None = c
given_up_at c (Some now) = record c { current = None; serial = c.serial + 1 }

unfoldable pub given_up : Client → Client
given_up c = given_up_at c c.current
