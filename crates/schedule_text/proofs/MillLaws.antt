-- The schedule of a mill keeps the rules.
use Rattle.std.proofs.Common.{◌≡◌, ℕ, zero, suc, ◌+◌, ◌*◌, ◌/◌, ◌%◌, ◌^◌, ◌<◌, ◌≤◌, List, [], ◌∷◌, ◌++◌, length, take, Option, None, Some, false, Bool, arith, refl, sym, ◌∙◌, ap, length-append, subst}
use Rattle.std.specs.List.{range_with_len}
use Rattle.std.proofs.lemmas.List.{length-take}
use Rattle.std.proofs.lemmas.List.FromFn.{length-map-range_with_len}
use Rattle.std.proofs.lemmas.List.Elements.{All-nil, All-append, All-map}
use Rattle.dpf_rules.specs.Bytes.{AreBytes}
use Rattle.dpf_rules.specs.Expansion.{stream_byte, stream_bytes, draw32}
use Rattle.frame_rules.proofs.Digits.{be_below}
use Rattle.frame_rules.proofs.Fields.{IsBytes-take}
use Rattle.frame_rules.proofs.GrammarLaws.{bytes_of}
use Rattle.express_words.specs.declared.settings.Settings.{Settings}
use Rattle.schedule_text.specs.declared.schedule.Asked.{Asked}
use Rattle.schedule_text.specs.declared.schedule.Asked.TheVariants.{Register, Write, Read}
use Rattle.schedule_text.specs.declared.schedule.Event.{Event}
use Rattle.schedule_text.specs.Lanes.{client_of, foreign_by, is_used, is_foreign, IsApart}
use Rattle.schedule_text.specs.Rules.{IsAskable, EventKeepsRules, EventsKeepRules, KeepsRules}
use Rattle.schedule_text.specs.Mill.{mill_seed, mill_header, mill_address, times, mill_message, asked_and_finished, mill_registers, mill_writes, mill_reads, mill_schedule}

-- ---- events that inject nothing

-- an event that keeps the rules and makes no lane foreign
abbrev pub IsPlain : Settings → Event → Type 0
IsPlain settings event = EventKeepsRules settings event × (foreign_by event ≡ None)

abbrev pub ArePlain : Settings → List Event → Type 0
ArePlain settings [] = Unit {0}
ArePlain settings (event ∷ events) = IsPlain settings event × ArePlain settings events

plain_join : (settings : Settings) (xs ys : List Event) → ArePlain settings xs → ArePlain settings ys
    → ArePlain settings (xs ++ ys)
plain_join settings [] ys h k = k
plain_join settings (x ∷ xs) ys h k = (h.0, plain_join settings xs ys h.1 k)

none_foreign : (settings : Settings) (events : List Event) (lane : ℕ) → ArePlain settings events
    → is_foreign events lane ≡ false
unfolding is_foreign
none_foreign settings [] lane h = refl
none_foreign settings (event ∷ events) lane h = rw (h.0.1) (none_foreign settings events lane h.1)

apart_of_none : (among : ℕ → Bool) (lane : Option ℕ) → ((k : ℕ) → among k ≡ false) → IsApart among lane
apart_of_none among None h = tt
apart_of_none among (Some lane) h = h lane

plain_keep : (settings : Settings) (before events : List Event) → ArePlain settings before
    → ArePlain settings events → EventsKeepRules settings before events
plain_keep settings before [] h k = tt
plain_keep settings before (event ∷ events) h k = (
  (
    k.0.0,
    record {
      client = apart_of_none (is_foreign before) (client_of event)
          (λ lane. none_foreign settings before lane h);
      stranger = subst (λ (o : Option ℕ). IsApart (is_used before) o) (sym k.0.1) tt;
    },
  ),
  plain_keep settings (before ++ event ∷ []) events (plain_join settings before (event ∷ []) h (k.0, tt)) k.1,
)

pair_plain : (settings : Settings) (client : ℕ) (asked : Asked) → client < settings.lanes
    → IsAskable settings.width asked
    → ArePlain settings (asked_and_finished client asked)
unfolding asked_and_finished
pair_plain settings client asked low h = (((low, h), refl), ((low, refl), tt))

-- ---- draws

draw_length : (seed : List ℕ) (i : ℕ) → length (draw32 seed i) ≡ 32
unfolding stream_bytes
draw_length seed i = length-map-range_with_len (stream_byte seed i) 0 32

byte_small : (key : List ℕ) (stream n : ℕ) → stream_byte key stream n < 256
unfolding stream_byte
byte_small key stream n = omega arith

draw_bytes : (seed : List ℕ) (i : ℕ) → AreBytes (draw32 seed i)
unfolding stream_bytes
draw_bytes seed i = All-map (λ b. b < 256) (stream_byte seed i) (range_with_len 0 32)
    (λ k d h. byte_small seed i _)

address_small : (seed : List ℕ) (i : ℕ) → i < 64 → mill_address seed i < 2 ^ 128
unfolding mill_address
address_small seed i low =
    let front = take 16 (draw32 seed (2 ^ 32 + i)) in
    let sized : length front ≡ 16 =
    simp length-take (let d = draw_length seed (2 ^ 32 + i) in omega (arith, d)) in
    let small = be_below front sized
    (IsBytes-take 16 (draw32 seed (2 ^ 32 + i))
    (bytes_of (draw32 seed (2 ^ 32 + i)) (draw_bytes seed (2 ^ 32 + i)))) in
    omega (arith, small, low)

length-times : (n : ℕ) (xs : List ℕ) → length (times n xs) ≡ n * length xs
length-times zero xs = omega arith
length-times (suc n) xs = let h = length-times n xs in simp length-append (omega (arith, h))

times_bytes : (n : ℕ) (xs : List ℕ) → AreBytes xs → AreBytes (times n xs)
times_bytes zero xs h = All-nil (λ b. b < 256)
times_bytes (suc n) xs h = All-append (λ b. b < 256) (times n xs) xs (times_bytes n xs h) h

message_is : (seed : List ℕ) (j : ℕ) → (length (mill_message seed j) ≡ 1024) × AreBytes (mill_message seed j)
unfolding mill_message
message_is seed j =
    let drawn = draw32 seed (2 ^ 33 + j) in (
      length-times 32 drawn
          ∙ ap (λ n. 32 * n) (draw_length seed (2 ^ 33 + j)),
      times_bytes 32 drawn
          (draw_bytes seed (2 ^ 33 + j)),
    )

-- ---- the three lists

registers_plain : (seed : List ℕ) (i : ℕ) → i ≤ 64 → ArePlain (mill_header 0).settings (mill_registers seed i)
unfolding mill_registers
registers_plain seed zero low = tt
registers_plain seed (suc i) low =
    plain_join (mill_header 0).settings (mill_registers seed i) _
    (registers_plain seed i (omega (arith, low)))
    (pair_plain (mill_header 0).settings (i % 20) (Register (mill_address seed i)) (omega arith)
    (address_small seed i (omega (arith, low))))

writes_plain : (seed : List ℕ) (j : ℕ) → ArePlain (mill_header 0).settings (mill_writes seed j)
unfolding mill_writes
writes_plain seed zero = tt
writes_plain seed (suc j) =
    let m = message_is seed j in
    plain_join (mill_header 0).settings (mill_writes seed j) _ (writes_plain seed j)
    (pair_plain (mill_header 0).settings ((7 * j + 3) % 20)
    (Write (mill_address seed (11 * j % 64)) (mill_message seed j)) (omega arith)
    (address_small seed (11 * j % 64) (omega arith), m.0, m.1))

reads_plain : (i : ℕ) → i ≤ 64 → ArePlain (mill_header 0).settings (mill_reads i)
unfolding mill_reads
reads_plain zero low = tt
reads_plain (suc i) low =
    plain_join (mill_header 0).settings (mill_reads i) _ (reads_plain i (omega (arith, low)))
    (pair_plain (mill_header 0).settings (i % 20) (Read (i / 20)) (omega arith) (omega (arith, low)))

pair_length : (client : ℕ) (asked : Asked) → length (asked_and_finished client asked) ≡ 2
unfolding asked_and_finished
pair_length client asked = refl

length-registers : (seed : List ℕ) (i : ℕ) → length (mill_registers seed i) ≡ 2 * i
unfolding mill_registers
length-registers seed zero = refl
length-registers seed (suc i) =
    let h = length-registers seed i in
    let k = pair_length (i % 20) (Register (mill_address seed i)) in
    simp length-append (omega (arith, h, k))

length-writes : (seed : List ℕ) (j : ℕ) → length (mill_writes seed j) ≡ 2 * j
unfolding mill_writes
length-writes seed zero = refl
length-writes seed (suc j) =
    let h = length-writes seed j in
    let k = pair_length ((7 * j + 3) % 20) (Write (mill_address seed (11 * j % 64)) (mill_message seed j)) in
    simp length-append (omega (arith, h, k))

length-reads : (i : ℕ) → length (mill_reads i) ≡ 2 * i
unfolding mill_reads
length-reads zero = refl
length-reads (suc i) =
    let h = length-reads i in
    let k = pair_length (i % 20) (Read (i / 20)) in
    simp length-append (omega (arith, h, k))

pub mill_keeps : (n : ℕ) → n ≤ 5000 → KeepsRules (mill_schedule n)
unfolding mill_schedule
mill_keeps n low =
    let seed = mill_seed n in
    let registers = mill_registers seed 64 in
    let writes = mill_writes seed n in
    record {
      events =
          plain_keep (mill_header n).settings [] (registers ++ writes ++ mill_reads 64) tt
          (plain_join (mill_header 0).settings (registers ++ writes) (mill_reads 64)
          (plain_join (mill_header 0).settings registers writes (registers_plain seed 64 (omega arith))
          (writes_plain seed n))
          (reads_plain 64 (omega arith)));
      few =
          let a = length-registers seed 64 in
          let b = length-writes seed n in
          let d = length-reads 64 in
          simp length-append (omega (arith, low, a, b, d));
    }
