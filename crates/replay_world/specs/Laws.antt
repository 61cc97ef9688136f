-- Schedules of clients alone.
use Rattle.std.specs.Prelude.{List, [], ◌∷◌}
use Rattle.schedule_text.specs.declared.schedule.Event.{Event}
use Rattle.schedule_text.specs.declared.schedule.Event.TheVariants.{Ask, Send, Tick, Deliver, Show, Finish}
use Rattle.schedule_text.specs.declared.schedule.Event.TheVariants.{Inject}

-- no bytes come from outside
abbrev pub IsFromClients : Event → Type 0
IsFromClients (Ask client asked) = Unit {0}
IsFromClients (Send client) = Unit {0}
IsFromClients Tick = Unit {0}
IsFromClients (Deliver number) = Unit {0}
IsFromClients (Show number) = Unit {0}
IsFromClients (Finish client) = Unit {0}
IsFromClients (Inject server bytes) = ⊥

abbrev pub AreFromClients : List Event → Type 0
AreFromClients [] = Unit {0}
AreFromClients (event ∷ events) = IsFromClients event × AreFromClients events
