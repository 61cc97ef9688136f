-- The rules that a schedule keeps.
use Rattle.std.specs.Prelude.{◌≡◌, ℕ, ◌≤◌, ◌<◌, ◌^◌, length, List, [], ◌∷◌, ◌++◌}
use Rattle.dpf_rules.specs.Bytes.{AreBytes}
use Rattle.express_words.specs.declared.settings.Settings.{Settings}
use Rattle.frame_rules.specs.declared.frame.TheConstants.{FRAME_MAX}
use Rattle.schedule_text.specs.Lanes.{MayFollow}
use Rattle.schedule_text.specs.declared.schedule.Asked.{Asked}
use Rattle.schedule_text.specs.declared.schedule.Asked.TheVariants.{Register, Write, Read, Retire}
use Rattle.schedule_text.specs.declared.schedule.Event.{Event}
use Rattle.schedule_text.specs.declared.schedule.Event.TheVariants.{Ask, Send, Tick, Deliver, Show, Finish}
use Rattle.schedule_text.specs.declared.schedule.Event.TheVariants.{Inject}
use Rattle.schedule_text.specs.declared.schedule.Schedule.{Schedule}
use Rattle.schedule_text.specs.declared.schedule.TheConstants.{MOST_EVENTS}

-- An address is a number of 128 bits, and a message has the width of the settings.
abbrev pub IsAskable : ℕ → Asked → Type 0
IsAskable width (Register address) = address < 2 ^ 128
IsAskable width (Write target message) = (target < 2 ^ 128) × (length message ≡ width) × AreBytes message
IsAskable width (Read own) = own ≤ 4095
IsAskable width (Retire own) = own ≤ 4095

-- A client is below the lanes, a frame's number is one of 32 bits, and injected are 1 to 8,213 bytes for
-- server 0 or 1.
abbrev pub EventKeepsRules : Settings → Event → Type 0
EventKeepsRules settings (Ask client asked) = (client < settings.lanes) × IsAskable settings.width asked
EventKeepsRules settings (Send client) = client < settings.lanes
EventKeepsRules settings Tick = Unit {0}
EventKeepsRules settings (Deliver number) = number < 2 ^ 32
EventKeepsRules settings (Show number) = number < 2 ^ 32
EventKeepsRules settings (Finish client) = client < settings.lanes
EventKeepsRules settings (Inject server bytes) =
    (server ≤ 1) × (1 ≤ length bytes) × (length bytes ≤ FRAME_MAX) × AreBytes bytes

-- An event keeps the rules behind those before it.
abbrev pub KeepsRulesAfter : Settings → List Event → Event → Type 0
KeepsRulesAfter settings before event = EventKeepsRules settings event × MayFollow before event

-- Each of these events keeps them behind those before it.
abbrev pub EventsKeepRules : Settings → List Event → List Event → Type 0
EventsKeepRules settings before [] = Unit {0}
EventsKeepRules settings before (event ∷ events) =
    KeepsRulesAfter settings before event × EventsKeepRules settings (before ++ event ∷ []) events

-- the rules of at most 20,000 events
pub record KeepsRules (schedule : Schedule) : Type 0 where
  pub events : EventsKeepRules schedule.header.settings [] schedule.events
  pub few : length schedule.events ≤ MOST_EVENTS
