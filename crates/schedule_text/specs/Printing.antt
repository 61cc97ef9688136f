-- The text that is printed of a schedule: of its spellings the one with lower-case digits and a last LF.
use Rattle.std.specs.Prelude.{ℕ, List, ◌++◌, codes}
use Rattle.std.specs.Fmt.{decimal}
use Rattle.std.specs.Int.{w128, to_be_bytes}
use Rattle.std.specs.List.{flat_map}
use Rattle.hex.specs.Hex.{encode_lower}
use Rattle.schedule_text.specs.declared.schedule.Asked.{Asked}
use Rattle.schedule_text.specs.declared.schedule.Asked.TheVariants.{Register, Write, Read, Retire}
use Rattle.schedule_text.specs.declared.schedule.Event.{Event}
use Rattle.schedule_text.specs.declared.schedule.Event.TheVariants.{Ask, Send, Tick, Deliver, Show, Finish}
use Rattle.schedule_text.specs.declared.schedule.Event.TheVariants.{Inject}
use Rattle.schedule_text.specs.declared.schedule.Header.{Header}
use Rattle.schedule_text.specs.declared.schedule.Schedule.{Schedule}
use Rattle.schedule_text.specs.Spelling.{server_letter}

-- 32 digits, the most significant first
abbrev pub address_text : ℕ → List ℕ
address_text address = encode_lower (to_be_bytes w128 address)

unfoldable pub asked_text : Asked → List ℕ
asked_text (Register address) = codes "register " ++ address_text address
asked_text (Write target message) =
    codes "write " ++ (address_text target ++ (codes " " ++ encode_lower message))
asked_text (Read own) = codes "read " ++ decimal own
asked_text (Retire own) = codes "retire " ++ decimal own

unfoldable pub event_text : Event → List ℕ
event_text (Ask client asked) = codes "ask " ++ (decimal client ++ (codes " " ++ asked_text asked))
event_text (Send client) = codes "send " ++ decimal client
event_text Tick = codes "tick"
event_text (Deliver number) = codes "deliver " ++ decimal number
event_text (Show number) = codes "show " ++ decimal number
event_text (Finish client) = codes "finish " ++ decimal client
event_text (Inject server bytes) =
    codes "inject " ++ (server_letter server ++ (codes " " ++ encode_lower bytes))

unfoldable pub header_text : Header → List ℕ
header_text header =
    codes "express 1 " ++ (decimal header.settings.width ++ (codes " " ++ (decimal header.settings.boxes
    ++ (codes " " ++ (decimal header.settings.lanes ++ (codes " " ++ (decimal header.settings.window
    ++ (codes " " ++ encode_lower header.seed))))))))

abbrev pub event_line : Event → List ℕ
event_line event = event_text event ++ codes "\n"

unfoldable pub printed : Schedule → List ℕ
printed schedule = header_text schedule.header ++ codes "\n" ++ flat_map event_line schedule.events
