-- The schedule of a mill is its registers, writes and reads, and its run comes to what they do.
use Rattle.std.proofs.Common.{◌≡◌, ℕ, zero, suc, ◌+◌, ◌*◌, ◌/◌, ◌%◌, ◌^◌, ◌<◌, ◌≤◌, List, [], ◌∷◌, ◌++◌, length, take, arith, refl, sym, ◌∙◌, ap, append_assoc}
use Rattle.std.specs.List.{range_with_len}
use Rattle.std.proofs.lemmas.List.{length-map, length-take, map-append}
use Rattle.std.proofs.lemmas.List.FromFn.{length-map-range_with_len}
use Rattle.std.proofs.lemmas.List.Elements.{All-map}
use Rattle.express_words.specs.declared.settings.Settings.{Settings}
use Rattle.dpf_rules.specs.Bytes.{AreBytes}
use Rattle.dpf_rules.specs.Expansion.{stream_byte, stream_bytes, draw32}
use Rattle.frame_rules.proofs.Digits.{be_below}
use Rattle.frame_rules.proofs.Fields.{IsBytes-take}
use Rattle.frame_rules.proofs.GrammarLaws.{bytes_of}
use Rattle.token_rules.specs.Tokens.{no_act}
use Rattle.mailbox_rules.specs.Requests as request
use Rattle.token_rules.specs.Run as tokens
use Rattle.run_rules.specs.History.{AreOfClients, token_events, token_events_of}
use Rattle.run_rules.specs.Run as run
use Rattle.schedule_text.specs.declared.schedule.Asked.TheVariants.{Register, Write, Read, Retire}
use Rattle.schedule_text.specs.declared.schedule.Event.{Event}
use Rattle.schedule_text.specs.declared.schedule.Event.TheVariants.{Ask, Send, Tick, Deliver, Show, Finish, Inject}
use Rattle.schedule_text.specs.Rules.{EventsKeepRules, KeepsRules}
use Rattle.schedule_text.specs.Mill.{asked_and_finished, mill_address, mill_message, mill_reads, mill_registers, mill_schedule, mill_seed, mill_writes}
use Rattle.schedule_text.proofs.MillLaws.{mill_keeps}
use Rattle.replay_world.specs.Laws.{AreFromClients}
use Rattle.replay_world.specs.Mills.{MillsCount}
use Rattle.replay_world.specs.Parts.{events_in}
use Rattle.replay_world.specs.Played.{run_of}
use Rattle.replay_world.proofs.MillEvents.{mill_from_clients}
use Rattle.replay_world.proofs.MillTokens.{reads_of, registers, writes_of}
use Rattle.replay_world.proofs.MillCounts.{mill_comes, mill_tokens}

-- ---- addresses are apart

drawn_length : (seed : List ℕ) (i : ℕ) → length (draw32 seed i) ≡ 32
unfolding stream_bytes
drawn_length seed i = length-map-range_with_len (stream_byte seed i) 0 32

byte_small : (key : List ℕ) (stream n : ℕ) → stream_byte key stream n < 256
unfolding stream_byte
byte_small key stream n = omega arith

drawn_bytes : (seed : List ℕ) (i : ℕ) → AreBytes (draw32 seed i)
unfolding stream_bytes
drawn_bytes seed i = All-map (λ b. b < 256) (stream_byte seed i) (range_with_len 0 32) (λ k d h. byte_small seed i _)

-- the bits above 121 tell the number
number_of : (seed : List ℕ) (i : ℕ) → mill_address seed i / 2 ^ 121 ≡ i
unfolding mill_address
number_of seed i =
    let front = take 16 (draw32 seed (2 ^ 32 + i)) in
    let sized : length front ≡ 16 = simp length-take (let d = drawn_length seed (2 ^ 32 + i) in omega (arith, d)) in
    let small = be_below front sized (IsBytes-take 16 (draw32 seed (2 ^ 32 + i)) (bytes_of (draw32 seed (2 ^ 32 + i)) (drawn_bytes seed (2 ^ 32 + i)))) in
    omega (arith, small)

apart : (seed : List ℕ) (i j : ℕ) → i < 64 → j < 64 → mill_address seed i ≡ mill_address seed j → i ≡ j
apart seed i j low also same = sym (number_of seed i) ∙ ap (λ a. a / 2 ^ 121) same ∙ number_of seed j

-- ---- the events

tokens_append : (xs ys : List run.Event) → token_events (xs ++ ys) ≡ token_events xs ++ token_events ys
unfolding token_events
tokens_append [] ys = refl
tokens_append (x ∷ xs) ys = ap (λ zs. token_events_of x ++ zs) (tokens_append xs ys) ∙ sym (append_assoc (token_events_of x) (token_events xs) (token_events ys))

both_tokens : (xs ys : List Event) → token_events (events_in (xs ++ ys)) ≡ token_events (events_in xs) ++ token_events (events_in ys)
both_tokens xs ys = ap token_events (map-append _ xs ys) ∙ tokens_append (events_in xs) (events_in ys)

module _ (seed : List ℕ) where
  abbrev addr : ℕ → ℕ
  addr i = mill_address seed i

  abbrev message : ℕ → List ℕ
  message j = mill_message seed j

  registers_are : (i : ℕ) → token_events (events_in (mill_registers seed i)) ≡ registers (λ n. no_act) addr (apart seed) i
  unfolding mill_registers asked_and_finished token_events
  registers_are zero = refl
  registers_are (suc i) =
      both_tokens (mill_registers seed i) (asked_and_finished (i % 20) (Register (addr i)))
      ∙ ap (λ es. es ++ tokens.Ask (i % 20) (request.Register (addr i)) ∷ tokens.Finish (i % 20) ∷ []) (registers_are i)

  writes_are : (j : ℕ) → token_events (events_in (mill_writes seed j)) ≡ writes_of (λ n. no_act) addr (apart seed) message j
  unfolding mill_writes asked_and_finished token_events
  writes_are zero = refl
  writes_are (suc j) =
      both_tokens (mill_writes seed j) (asked_and_finished ((7 * j + 3) % 20) (Write (addr (11 * j % 64)) (message j)))
      ∙ ap (λ es. es ++ tokens.Ask ((7 * j + 3) % 20) (request.Write (addr (11 * j % 64)) (message j)) ∷ tokens.Finish ((7 * j + 3) % 20) ∷ []) (writes_are j)

  reads_are : (i : ℕ) → token_events (events_in (mill_reads i)) ≡ reads_of (λ n. no_act) addr (apart seed) i
  unfolding mill_reads asked_and_finished token_events
  reads_are zero = refl
  reads_are (suc i) =
      both_tokens (mill_reads i) (asked_and_finished (i % 20) (Read (i / 20)))
      ∙ ap (λ es. es ++ tokens.Ask (i % 20) (request.Read (i / 20)) ∷ tokens.Finish (i % 20) ∷ []) (reads_are i)

events_are : (n : ℕ) → token_events (events_in (mill_schedule n).events) ≡ mill_tokens (mill_address (mill_seed n)) (apart (mill_seed n)) (mill_message (mill_seed n)) n
unfolding mill_schedule
events_are n =
    let seed = mill_seed n in
    both_tokens (mill_registers seed 64 ++ mill_writes seed n) (mill_reads 64)
    ∙ ap (λ es. es ++ token_events (events_in (mill_reads 64))) (both_tokens (mill_registers seed 64) (mill_writes seed n))
    ∙ ap (λ es. (es ++ token_events (events_in (mill_writes seed n))) ++ token_events (events_in (mill_reads 64))) (registers_are seed 64)
    ∙ ap (λ es. (registers (λ n. no_act) (addr seed) (apart seed) 64 ++ es) ++ token_events (events_in (mill_reads 64))) (writes_are seed n)
    ∙ ap (λ es. (registers (λ n. no_act) (addr seed) (apart seed) 64 ++ writes_of (λ n. no_act) (addr seed) (apart seed) (message seed) n) ++ es) (reads_are seed 64)

-- ---- they are of clients

of_clients : (settings : Settings) (before events : List Event) → EventsKeepRules settings before events → AreFromClients events → AreOfClients settings (events_in events)
of_clients settings before [] h k = tt
of_clients settings before (Ask c (Register a) ∷ es) h k = ((h.0.0.0, h.0.0.1), of_clients settings _ es h.1 k.1)
of_clients settings before (Ask c (Write t x) ∷ es) h k = ((h.0.0.0, (h.0.0.1.0, h.0.0.1.1)), of_clients settings _ es h.1 k.1)
of_clients settings before (Ask c (Read own) ∷ es) h k = ((h.0.0.0, tt), of_clients settings _ es h.1 k.1)
of_clients settings before (Ask c (Retire own) ∷ es) h k = ((h.0.0.0, tt), of_clients settings _ es h.1 k.1)
of_clients settings before (Send c ∷ es) h k = (tt, of_clients settings _ es h.1 k.1)
of_clients settings before (Tick ∷ es) h k = (tt, of_clients settings _ es h.1 k.1)
of_clients settings before (Deliver number ∷ es) h k = (tt, of_clients settings _ es h.1 k.1)
of_clients settings before (Show number ∷ es) h k = (tt, of_clients settings _ es h.1 k.1)
of_clients settings before (Finish c ∷ es) h k = (tt, of_clients settings _ es h.1 k.1)
of_clients settings before (Inject server bytes ∷ es) h k = absurd k.0

pub mills_count : MillsCount
unfolding run_of mill_schedule
mills_count n low =
    let s = mill_schedule n in
    let keeps : KeepsRules s = mill_keeps n low in
    let few : length (events_in s.events) ≤ 20000 = let size : length (events_in s.events) ≡ length s.events = length-map s.events _ in let most = keeps.few in omega (arith, size, most) in
    mill_comes (mill_address (mill_seed n)) (apart (mill_seed n)) (mill_message (mill_seed n)) s.header.settings s.header.seed (events_in s.events) n refl refl
    s.header.settings.limits (of_clients s.header.settings [] s.events keeps.events (mill_from_clients n)) few (events_are n)
