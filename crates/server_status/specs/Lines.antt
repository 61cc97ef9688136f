-- When a line is due.
use Rattle.std.specs.Prelude.{ℕ, ◌+◌, ◌-◌, ◌^◌, ◌==◌, min, nat_le, Bool, Option, Some, None, if◌then◌else◌}
use Rattle.server_status.specs.declared.due.Lines.{Lines}
use Rattle.server_status.specs.declared.status.LinkTurn.{LinkTurn}
use Rattle.server_status.specs.declared.status.LinkTurn.TheVariants.{Up, Down}
use Rattle.server_status.specs.declared.status.Status.{Status}

-- the second behind which the next line is due, a minute later
abbrev pub next_from : ℕ → ℕ
next_from seconds = min (seconds + 60) (2 ^ 64 - 1)

abbrev pub turn_between : (before now : LinkTurn) → (links seen : ℕ) → Option LinkTurn
turn_between Up Down links seen = Some Down
turn_between Down Down links seen = None
turn_between before Up links seen = if links == seen then None else Some Up

-- The link's turn since the last line. A connection that took the place of one that stood is a turn too.
abbrev pub turn_of : Lines → Status → Option LinkTurn
turn_of l status = turn_between l.link status.link status.links l.links

abbrev pub minute_due : Lines → Status → Bool
minute_due l status = nat_le l.from status.seconds

abbrev pub seen : Lines → Status → Lines
seen l status = record {
  link = status.link;
  links = status.links;
  from = if minute_due l status then next_from status.seconds else l.from;
}
