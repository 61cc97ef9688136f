-- The grammar of a schedule, as relations between what is meant and the bytes that spell it.
use Rattle.std.specs.Prelude.{◌≡◌, ◌⊎◌, ℕ, ◌+◌, ◌≤◌, ◌<◌, ◌^◌, ◌==◌, if◌then◌else◌, length, List, []}
use Rattle.std.specs.Prelude.{◌∷◌, ◌++◌, codes, Ok}
use Rattle.std.specs.Fmt.{decimal}
use Rattle.hex.specs.Hex.{decode_of, decode_sized}
use Rattle.express_words.specs.declared.settings.Settings.{Settings}
use Rattle.frame_rules.specs.declared.frame.TheConstants.{FRAME_MAX}
use Rattle.schedule_text.specs.declared.schedule.Asked.{Asked}
use Rattle.schedule_text.specs.declared.schedule.Asked.TheVariants.{Register, Write, Read, Retire}
use Rattle.schedule_text.specs.declared.schedule.Event.{Event}
use Rattle.schedule_text.specs.declared.schedule.Event.TheVariants.{Ask, Send, Tick, Deliver, Show, Finish}
use Rattle.schedule_text.specs.declared.schedule.Event.TheVariants.{Inject}
use Rattle.schedule_text.specs.declared.schedule.Header.{Header}
use Rattle.schedule_text.specs.declared.schedule.Schedule.{Schedule}
use Rattle.schedule_text.specs.declared.schedule.TheConstants.{MOST_EVENTS}
use Rattle.schedule_text.specs.Lanes.{MayFollow}
use Rattle.express_texts.specs.WordSpelling.{SpellsWord}
use Rattle.express_texts.specs.Lines.{AreLines}

-- a word, and a number up to this one
abbrev pub SpellsNumber : List ℕ → ℕ → ℕ → List ℕ → Type 0
SpellsNumber word most number text = (number ≤ most) × (text ≡ word ++ decimal number)

abbrev pub SpellsAsked : Settings → Asked → List ℕ → Type 0
SpellsAsked settings (Register address) text =
    (digits : List ℕ) × SpellsWord address digits × (text ≡ codes "register " ++ digits)
SpellsAsked settings (Write target message) text =
    (digits : List ℕ) × (more : List ℕ) × SpellsWord target digits
    × (decode_sized more settings.width ≡ Ok message)
    × (text ≡ codes "write " ++ (digits ++ (codes " " ++ more)))
SpellsAsked settings (Read own) text = SpellsNumber (codes "read ") 4095 own text
SpellsAsked settings (Retire own) text = SpellsNumber (codes "retire ") 4095 own text

-- a client below the lanes
abbrev pub SpellsClient : Settings → List ℕ → ℕ → List ℕ → Type 0
SpellsClient settings word client line = (client < settings.lanes) × (line ≡ word ++ decimal client)

abbrev pub SpellsPlace : List ℕ → ℕ → List ℕ → Type 0
SpellsPlace word number line = (number < 2 ^ 32) × (line ≡ word ++ decimal number)

-- the letter of a server: the leader is A, the helper B
abbrev pub server_letter : ℕ → List ℕ
server_letter server = if server == 0 then codes "A" else codes "B"

-- 1 to 8,213 bytes, in twice as many digits
pub record SpellsInject (server : ℕ) (bytes line : List ℕ) : Type 0 where
  pub of_two : server ≤ 1
  pub some : 1 ≤ length bytes
  pub most : length bytes ≤ FRAME_MAX
  pub digits : List ℕ
  pub decoded : decode_of digits ≡ Ok bytes
  pub text : line ≡ codes "inject " ++ (server_letter server ++ (codes " " ++ digits))

-- a line spells the event, whatever stands before it
abbrev pub SpellsEvent : Settings → Event → List ℕ → Type 0
SpellsEvent settings (Ask client asked) line =
    (client < settings.lanes)
    × ((text : List ℕ) × SpellsAsked settings asked text
    × (line ≡ codes "ask " ++ (decimal client ++ (codes " " ++ text))))
SpellsEvent settings (Send client) line = SpellsClient settings (codes "send ") client line
SpellsEvent settings Tick line = line ≡ codes "tick"
SpellsEvent settings (Deliver number) line = SpellsPlace (codes "deliver ") number line
SpellsEvent settings (Show number) line = SpellsPlace (codes "show ") number line
SpellsEvent settings (Finish client) line = SpellsClient settings (codes "finish ") client line
SpellsEvent settings (Inject server bytes) line = SpellsInject server bytes line

-- The header of a schedule.
pub record SpellsHeader (header : Header) (line : List ℕ) : Type 0 where
  pub digits : List ℕ
  pub seed : decode_sized digits 32 ≡ Ok header.seed
  pub text : line ≡ codes "express 1 "
      ++ (decimal header.settings.width ++ (codes " " ++ (decimal header.settings.boxes
      ++ (codes " " ++ (decimal header.settings.lanes
      ++ (codes " " ++ (decimal header.settings.window ++ (codes " " ++ digits))))))))

-- an event on each line, and each may stand behind those before it
abbrev pub SpellsEvents : Settings → List Event → List Event → List (List ℕ) → Type 0
SpellsEvents settings before [] [] = Unit {0}
SpellsEvents settings before (event ∷ events) (line ∷ lines) =
    (SpellsEvent settings event line × MayFollow before event)
    × SpellsEvents settings (before ++ event ∷ []) events lines
SpellsEvents settings before [] (line ∷ lines) = ⊥
SpellsEvents settings before (event ∷ events) [] = ⊥

-- the text spells the schedule
abbrev pub SpellsSchedule : Schedule → List ℕ → Type 0
SpellsSchedule schedule text = (first : List ℕ) × (lines : List (List ℕ)) × AreLines (first ∷ lines) text
    × SpellsHeader schedule.header first
    × SpellsEvents schedule.header.settings [] schedule.events lines × (length schedule.events ≤ MOST_EVENTS)

-- no event that the line spells may stand behind these
abbrev pub IsBadAfter : Settings → List Event → List ℕ → Type 0
IsBadAfter settings before line = (event : Event) → SpellsEvent settings event line → MayFollow before event
    → ⊥

-- Line n is the first of these event lines that is bad: events stand on all before it, and it is none behind
-- them, or one too many.
pub record IsFirstBadEvent (settings : Settings) (n : ℕ) (lines : List (List ℕ)) : Type 0 where
  pub before : List (List ℕ)
  pub line : List ℕ
  pub behind : List (List ℕ)
  pub split : lines ≡ before ++ line ∷ behind
  pub events : List Event
  pub spelled : SpellsEvents settings [] events before
  pub few : length events ≤ MOST_EVENTS
  pub bad : (length events ≡ MOST_EVENTS) ⊎ IsBadAfter settings events line
  -- the header is line 1
  pub place : n ≡ length events + 2

-- Line n is the first bad one. A header that is missing is bad at its place.
abbrev pub IsFirstBadOf : ℕ → List (List ℕ) → Type 0
IsFirstBadOf n [] = n ≡ 1
IsFirstBadOf n (first ∷ lines) =
    ((n ≡ 1) × ((header : Header) → SpellsHeader header first → ⊥))
    ⊎ ((header : Header) × SpellsHeader header first × IsFirstBadEvent header.settings n lines)

abbrev pub IsFirstBadLine : ℕ → List ℕ → Type 0
IsFirstBadLine n text = (lines : List (List ℕ)) × AreLines lines text × IsFirstBadOf n lines
