-- What a request's first command is issued for, with the public part that lies elsewhere.
use Rattle.std.specs.Prelude.{◌≡◌, ℕ, ◌+◌, List, length, Option, option_map}
use Rattle.express_words.specs.Limits.{levels_len}
use Rattle.lane_table.specs.declared.row.Want.{Want}
use Rattle.frame_rules.specs.Frames as frame
use Rattle.frame_rules.specs.Frames.{PlainBody}
use Rattle.step_rules.specs.Leader as steps
use Rattle.step_rules.specs.LeaderClients as clients
use Rattle.leader_core.specs.declared.asked.Asked.{Asked}
use Rattle.leader_core.specs.declared.asked.Asked.TheVariants as asked
use Rattle.leader_core.specs.declared.asked.Named.{Named}

abbrev pub asked_with : Asked → List ℕ → steps.Asked
asked_with (asked.Registering address key) part = steps.Registering address key
asked_with (asked.Writing root draw) part = steps.Writing root part draw
asked_with (asked.Reading number) part = steps.Reading number
asked_with (asked.Retiring number) part = steps.Retiring number

abbrev pub want_for : Asked → List ℕ → Want
want_for a part = steps.want_in (asked_with a part)

abbrev pub command_for : Asked → List ℕ → PlainBody
command_for (asked.Registering address key) part = frame.LinkRegister address
command_for (asked.Writing root draw) part = frame.LinkBegin draw part
command_for (asked.Reading number) part = frame.LinkRead number
command_for (asked.Retiring number) part = frame.LinkRetire number

-- a write takes a draw
abbrev pub draws_for : Asked → ℕ
draws_for (asked.Writing root draw) = 1
draws_for other = 0

-- a write has a public part for messages of this width
abbrev pub IsAsked : ℕ → Asked → List ℕ → Type 0
IsAsked width (asked.Writing root draw) part = length part ≡ levels_len + width
IsAsked width other part = Unit {0}

abbrev pub named_in : Option Named → Option clients.Named
named_in named =
    option_map (λ n. let x : clients.Named = record { number = n.number; held = n.held } in x) named
