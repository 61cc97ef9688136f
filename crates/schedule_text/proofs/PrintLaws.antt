-- What is printed of a schedule spells it.
use Rattle.std.proofs.Common.{◌≡◌, ◌≢◌, ℕ, zero, suc, ◌/◌, ◌%◌, ◌^◌, ◌<◌, ◌≤◌, inl, get_or, true, List, [], ◌∷◌, ◌++◌, map, Ok, codes, length, arith, refl, sym, subst, append_assoc}
use Rattle.std.specs.Fmt.{decimal}
use Rattle.std.specs.Int.{w128, to_be_bytes, bytes_high_first}
use Rattle.std.specs.List.{flat_map}
use Rattle.std.specs.Str.{all_ascii_digits}
use Rattle.std.specs.Char.{is_ascii_digit}
use Rattle.std.proofs.lemmas.Fmt.{digits_decimal}
use Rattle.std.proofs.lemmas.Grind.{common_steps}
use Rattle.dpf_rules.specs.Bytes.{AreBytes}
use Rattle.frame_rules.proofs.Digits.{be_again}
use Rattle.frame_rules.proofs.GrammarLaws.{bytes_of}
use Rattle.hex.specs.Hex.{IsBytes, lower_digits, encode_with, encode_lower}
use Rattle.hex.proofs.HexLemmas.{decode_of-encode_lower, decode_sized-encode_lower}
use Rattle.express_words.specs.declared.settings.Settings.{Settings}
use Rattle.schedule_text.specs.declared.schedule.Asked.{Asked}
use Rattle.schedule_text.specs.declared.schedule.Asked.TheVariants.{Register, Write, Read, Retire}
use Rattle.schedule_text.specs.declared.schedule.Event.{Event}
use Rattle.schedule_text.specs.declared.schedule.Event.TheVariants.{Ask, Send, Tick, Deliver, Show, Finish, Inject}
use Rattle.schedule_text.specs.declared.schedule.Header.{Header}
use Rattle.schedule_text.specs.declared.schedule.Schedule.{Schedule}
use Rattle.schedule_text.specs.Grammar.{schedule_of}
use Rattle.schedule_text.specs.Printing.{address_text, asked_text, event_text, event_line, header_text, printed}
use Rattle.schedule_text.specs.Rules.{IsAskable, EventKeepsRules, EventsKeepRules, KeepsRules}
use Rattle.express_texts.specs.WordSpelling.{SpellsWord}
use Rattle.express_texts.specs.Lines.{HasNoLf, AreLines}
use Rattle.express_texts.proofs.NumberLaws.{numerals}
use Rattle.schedule_text.specs.Spelling.{SpellsAsked, SpellsEvent, SpellsEvents, SpellsHeader, SpellsSchedule, server_letter}
use Rattle.schedule_text.proofs.ScheduleLaws.{schedule_only}

-- ---- fields

high_bytes : (k n : ℕ) → IsBytes (bytes_high_first k n)
high_bytes zero n i = omega arith
high_bytes (suc zero) n zero = omega arith
high_bytes (suc (suc k)) n zero = omega arith
high_bytes (suc k) n (suc i) = high_bytes k n i

address_spelled : (address : ℕ) → address < 2 ^ 128 → SpellsWord address (address_text address)
address_spelled address small = (
  to_be_bytes w128 address,
  decode_sized-encode_lower (to_be_bytes w128 address) 16 refl
      (high_bytes 16 address),
  sym (be_again address small),
)

asked_spelled : (settings : Settings) (asked : Asked) → IsAskable settings.width asked
    → SpellsAsked settings asked (asked_text asked)
unfolding asked_text
asked_spelled settings (Register address) h = (address_text address, address_spelled address h, refl)
asked_spelled settings (Write target message) h = (
  address_text target,
  encode_lower message,
  address_spelled target h.0,
  decode_sized-encode_lower message settings.width h.1 (bytes_of message h.2),
  refl,
)
asked_spelled settings (Read own) h = (h, refl)
asked_spelled settings (Retire own) h = (h, refl)

event_spelled : (settings : Settings) (event : Event) → EventKeepsRules settings event
    → SpellsEvent settings event (event_text event)
unfolding event_text
event_spelled settings (Ask client asked) h =
    (h.0, (asked_text asked, asked_spelled settings asked h.1, refl))
event_spelled settings (Send client) h = (h, refl)
event_spelled settings Tick h = refl
event_spelled settings (Deliver number) h = (h, refl)
event_spelled settings (Show number) h = (h, refl)
event_spelled settings (Finish client) h = (h, refl)
event_spelled settings (Inject server bytes) h = record {
  of_two = h.0;
  some = h.1;
  most = h.2;
  digits = encode_lower bytes;
  decoded = decode_of-encode_lower bytes (bytes_of bytes h.3);
  text = refl;
}

events_spelled : (settings : Settings) (before events : List Event) → EventsKeepRules settings before events
    → SpellsEvents settings before events (map event_text events)
events_spelled settings before [] h = tt
events_spelled settings before (event ∷ events) h =
    ((event_spelled settings event h.0.0, h.0.1), events_spelled settings (before ++ event ∷ []) events h.1)

header_spelled : (header : Header) → length header.seed ≡ 32 → AreBytes header.seed → SpellsHeader header (header_text header)
unfolding header_text
header_spelled header sized bytes = record {
  digits = encode_lower header.seed;
  seed = decode_sized-encode_lower header.seed 32 sized (bytes_of header.seed bytes);
  text = refl;
}

-- ---- no LF within a line

HasNoLf-append : (xs ys : List ℕ) → HasNoLf xs → HasNoLf ys → HasNoLf (xs ++ ys)
HasNoLf-append [] ys h k = k
HasNoLf-append (x ∷ xs) ys h k = (h.0, HasNoLf-append xs ys h.1 k)

no_lf_at : (xs : List ℕ) (i : ℕ) → HasNoLf xs → get_or xs i 0 ≢ 10
no_lf_at [] i h e = absurd (omega (arith, e))
no_lf_at (x ∷ xs) zero h e = h.0 e
no_lf_at (x ∷ xs) (suc i) h e = no_lf_at xs i h.1 e

HasNoLf-encode_with : (t bytes : List ℕ) → HasNoLf t → HasNoLf (encode_with t bytes)
unfolding encode_with
HasNoLf-encode_with t [] h = tt
HasNoLf-encode_with t (b ∷ bytes) h =
    (no_lf_at t (b / 16) h, (no_lf_at t (b % 16) h, HasNoLf-encode_with t bytes h))

no : (n : ℕ) → 10 < n → n ≢ 10
no n h e = omega (arith, h, e)

HasNoLf-digits : HasNoLf lower_digits
HasNoLf-digits = search arith

HasNoLf-hex : (bytes : List ℕ) → HasNoLf (encode_lower bytes)
HasNoLf-hex bytes = HasNoLf-encode_with lower_digits bytes HasNoLf-digits

all_digits : (ds : List ℕ) → all_ascii_digits ds ≡ true → HasNoLf ds
all_digits [] h = tt
all_digits (d ∷ ds) h =
    let first : is_ascii_digit d ≡ true = grind (arith, common_steps) in
    let others : all_ascii_digits ds ≡ true = grind (arith, common_steps) in
    (λ e. no_digit (subst (λ (x : ℕ). is_ascii_digit x ≡ true) e first), all_digits ds others)
  where
    no_digit : is_ascii_digit 10 ≡ true → ⊥
    no_digit h = cc

HasNoLf-decimal : (n : ℕ) → n < 2 ^ 64 → HasNoLf (decimal n)
HasNoLf-decimal n small = all_digits (decimal n) (digits_decimal numerals n small)

HasNoLf-numbered : (word : List ℕ) (n : ℕ) → HasNoLf word → n < 2 ^ 64 → HasNoLf (word ++ decimal n)
HasNoLf-numbered word n h small = HasNoLf-append word (decimal n) h (HasNoLf-decimal n small)

-- a number, and a space before what follows it
HasNoLf-spaced : (n : ℕ) (rest : List ℕ) → n < 2 ^ 64 → HasNoLf rest
    → HasNoLf (decimal n ++ (codes " " ++ rest))
HasNoLf-spaced n rest small h =
    HasNoLf-append (decimal n) (codes " " ++ rest) (HasNoLf-decimal n small)
    (HasNoLf-append (codes " ") rest (search arith) h)

asked_no_lf : (width : ℕ) (asked : Asked) → IsAskable width asked → HasNoLf (asked_text asked)
unfolding asked_text
asked_no_lf width (Register address) h =
    HasNoLf-append (codes "register ") (address_text address) (search arith)
    (HasNoLf-hex (to_be_bytes w128 address))
asked_no_lf width (Write target message) h =
    HasNoLf-append (codes "write ") (address_text target ++ (codes " " ++ encode_lower message))
    (search arith)
    (HasNoLf-append (address_text target) (codes " " ++ encode_lower message)
    (HasNoLf-hex (to_be_bytes w128 target))
    (HasNoLf-append (codes " ") (encode_lower message) (search arith) (HasNoLf-hex message)))
asked_no_lf width (Read own) h = HasNoLf-numbered (codes "read ") own (search arith) (omega (arith, h))
asked_no_lf width (Retire own) h = HasNoLf-numbered (codes "retire ") own (search arith) (omega (arith, h))

letter_no_lf : (server : ℕ) → HasNoLf (server_letter server)
letter_no_lf zero = search arith
letter_no_lf (suc server) = search arith

event_no_lf : (settings : Settings) (event : Event) → settings.lanes ≤ 256 → EventKeepsRules settings event
    → HasNoLf (event_text event)
unfolding event_text
event_no_lf settings (Ask client asked) few h =
    HasNoLf-append (codes "ask ") (decimal client ++ (codes " " ++ asked_text asked)) (search arith)
    (HasNoLf-spaced client (asked_text asked) (omega (arith, few, h.0))
    (asked_no_lf settings.width asked h.1))
event_no_lf settings (Send client) few h =
    HasNoLf-numbered (codes "send ") client (search arith) (omega (arith, few, h))
event_no_lf settings Tick few h = search arith
event_no_lf settings (Deliver number) few h =
    HasNoLf-numbered (codes "deliver ") number (search arith) (omega (arith, h))
event_no_lf settings (Show number) few h =
    HasNoLf-numbered (codes "show ") number (search arith) (omega (arith, h))
event_no_lf settings (Finish client) few h =
    HasNoLf-numbered (codes "finish ") client (search arith) (omega (arith, few, h))
event_no_lf settings (Inject server bytes) few h =
    HasNoLf-append (codes "inject ") (server_letter server ++ (codes " " ++ encode_lower bytes))
    (search arith)
    (HasNoLf-append (server_letter server) (codes " " ++ encode_lower bytes) (letter_no_lf server)
    (HasNoLf-append (codes " ") (encode_lower bytes) (search arith) (HasNoLf-hex bytes)))

header_no_lf : (header : Header) → HasNoLf (header_text header)
unfolding header_text
header_no_lf header =
    let limits = header.settings.limits in
    HasNoLf-append (codes "express 1 ") _ (search arith)
    (HasNoLf-spaced header.settings.width _ (let h = limits.0.1 in omega (arith, h))
    (HasNoLf-spaced header.settings.boxes _ (let h = limits.1.1 in omega (arith, h))
    (HasNoLf-spaced header.settings.lanes _ (let h = limits.2.1 in omega (arith, h))
    (HasNoLf-spaced header.settings.window _ (let h = limits.3.1 in omega (arith, h))
    (HasNoLf-hex header.seed)))))

-- ---- the lines

line_then : (event : Event) (events : List Event)
    → event_text event ++ 10 ∷ flat_map event_line events ≡ flat_map event_line (event ∷ events)
line_then event events = sym (append_assoc (event_text event) (codes "\n") (flat_map event_line events))

are_lines : (settings : Settings) (first : List ℕ) (before events : List Event) → settings.lanes ≤ 256
    → HasNoLf first
    → EventsKeepRules settings before events
    → AreLines (first ∷ map event_text events) (first ++ 10 ∷ flat_map event_line events)
are_lines settings first before [] few none h = (none, inl refl)
are_lines settings first before (event ∷ events) few none h = (
  none,
  (
    flat_map event_line (event ∷ events),
    refl,
    subst (λ (text : List ℕ). AreLines (event_text event ∷ map event_text events) text)
        (line_then event events)
        (are_lines settings (event_text event) (before ++ event ∷ []) events few
        (event_no_lf settings event few h.0.0) h.1),
  ),
)

pub printed_spelled : (schedule : Schedule) → KeepsRules schedule → length schedule.header.seed ≡ 32
    → AreBytes schedule.header.seed
    → SpellsSchedule schedule (printed schedule)
unfolding printed
printed_spelled schedule h sized bytes =
    let first = header_text schedule.header in (
      first,
      map event_text schedule.events,
      subst (λ (text : List ℕ). AreLines (first ∷ map event_text schedule.events) text)
          (sym (append_assoc first (codes "\n") (flat_map event_line schedule.events)))
          (are_lines schedule.header.settings first [] schedule.events schedule.header.settings.limits.2.1
          (header_no_lf schedule.header) h.events),
      header_spelled schedule.header sized bytes,
      events_spelled schedule.header.settings [] schedule.events h.events,
      h.few,
    )

pub printed_again : (schedule : Schedule) → KeepsRules schedule → length schedule.header.seed ≡ 32
    → AreBytes schedule.header.seed
    → schedule_of (printed schedule) ≡ Ok schedule
printed_again schedule h sized bytes =
    schedule_only (printed schedule) schedule (printed_spelled schedule h sized bytes)
