-- The rules on lanes as tests, and the rules of events one after another.
use Rattle.std.proofs.Common.{◌≡◌, ℕ, zero, suc, ◌<◌, ◌^◌, ◌⊎◌, inl, inr, nat_eq, not, ◌||◌, ◌&&◌, Bool, true, false, List, [], ◌∷◌, ◌++◌, length, get_or, take, Option, Some, None, Ok, arith, refl, sym, ◌∙◌, ap, subst, append_assoc, append-nil}
use Rattle.std.specs.Int.{w128, from_be_bytes}
use Rattle.std.proofs.lemmas.List.Elements.{All-from_get_or}
use Rattle.std.proofs.lemmas.Bool.{eqb-true}
use Rattle.dpf_rules.specs.Bytes.{AreBytes}
use Rattle.hex.specs.Hex.{IsBytes, decode_sized}
use Rattle.hex.proofs.HexLemmas.{decode_sized-ok, decode_sized-twice, decode_of-ok}
use Rattle.express_words.specs.declared.settings.Settings.{Settings}
use Rattle.schedule_text.specs.declared.schedule.Asked.{Asked}
use Rattle.schedule_text.specs.declared.schedule.Asked.TheVariants.{Register, Write, Read, Retire}
use Rattle.schedule_text.specs.declared.schedule.Event.{Event}
use Rattle.schedule_text.specs.declared.schedule.Event.TheVariants.{Ask, Send, Tick, Deliver, Show, Finish, Inject}
use Rattle.schedule_text.specs.declared.schedule.Schedule.{Schedule}
use Rattle.schedule_text.specs.Grammar.{is_apart, may_follow}
use Rattle.schedule_text.specs.Lanes.{client_of, foreign_by, is_lane, is_used, is_foreign, IsApart, MayFollow}
use Rattle.express_texts.specs.WordSpelling.{SpellsWord}
use Rattle.schedule_text.specs.Spelling.{SpellsAsked, SpellsEvent, SpellsEvents, SpellsSchedule}
use Rattle.schedule_text.specs.Rules.{IsAskable, EventKeepsRules, KeepsRulesAfter, EventsKeepRules, KeepsRules}
use Rattle.schedule_text.proofs.LaneLemmas.{is_used_last, is_foreign_last}

-- ---- the rule on lanes is its test

not_true : (b : Bool) → not b ≡ true → b ≡ false
not_true false h = refl
not_true true h = cc

apart_true : (among : ℕ → Bool) (lane : Option ℕ) → is_apart among lane ≡ true → IsApart among lane
apart_true among None h = tt
apart_true among (Some lane) h = not_true (among lane) h

true_apart : (among : ℕ → Bool) (lane : Option ℕ) → IsApart among lane → is_apart among lane ≡ true
true_apart among None h = refl
true_apart among (Some lane) h = rw h refl

both_true : (a b : Bool) → (a && b) ≡ true → (a ≡ true) × (b ≡ true)
both_true true true h = (refl, refl)
both_true true false h = cc
both_true false b h = cc

pub follows_found : (before : List Event) (event : Event) → may_follow before event ≡ true
    → MayFollow before event
unfolding may_follow
follows_found before event h =
    let both = both_true (is_apart (is_foreign before) (client_of event))
    (is_apart (is_used before) (foreign_by event)) h in
    record { client = apart_true _ _ both.0; stranger = apart_true _ _ both.1 }

pub follows_only : (before : List Event) (event : Event) → MayFollow before event
    → may_follow before event ≡ true
unfolding may_follow
follows_only before event h =
    rw (
      true_apart (is_foreign before) (client_of event) h.client,
      true_apart (is_used before)
          (foreign_by event) h.stranger,
    ) refl

-- ---- what is spelled keeps the rules

pub are_bytes : (xs : List ℕ) → IsBytes xs → AreBytes xs
are_bytes xs h = All-from_get_or (λ b. b < 256) xs 0 (λ i below. h i)

sized : (digits message : List ℕ) (width : ℕ) → decode_sized digits width ≡ Ok message
    → (length message ≡ width) × AreBytes message
sized digits message width h =
    let twice = decode_sized-ok digits width message h in
    let decoded = decode_of-ok digits message (sym (decode_sized-twice digits width twice) ∙ h) in
    (let d = decoded.2 in omega (arith, twice, d), are_bytes message decoded.3)

number_small : (bytes : List ℕ) → IsBytes bytes → from_be_bytes w128 bytes < 2 ^ 128
number_small bytes h =
    omega (arith, h 0, h 1, h 2, h 3, h 4, h 5, h 6, h 7, h 8, h 9, h 10, h 11, h 12, h 13, h 14, h 15)

address_small : (address : ℕ) (digits : List ℕ) → SpellsWord address digits → address < 2 ^ 128
address_small address digits (bytes, decoded, is) =
    let twice = decode_sized-ok digits 16 bytes decoded in
    rw is (number_small bytes
    (decode_of-ok digits bytes (sym (decode_sized-twice digits 16 twice) ∙ decoded)).3)

askable : (settings : Settings) (asked : Asked) (text : List ℕ) → SpellsAsked settings asked text
    → IsAskable settings.width asked
askable settings (Register address) text h = address_small address h.0 h.1
askable settings (Write target message) text h =
    let s = sized h.1 message settings.width h.3 in (address_small target h.0 h.2, s.0, s.1)
askable settings (Read own) text h = h.0
askable settings (Retire own) text h = h.0

pub event_keeps : (settings : Settings) (event : Event) (line : List ℕ) → SpellsEvent settings event line
    → EventKeepsRules settings event
event_keeps settings (Ask client asked) line h = (h.0, askable settings asked h.1.0 h.1.1)
event_keeps settings (Send client) line h = h.0
event_keeps settings Tick line h = tt
event_keeps settings (Deliver number) line h = h.0
event_keeps settings (Show number) line h = h.0
event_keeps settings (Finish client) line h = h.0
event_keeps settings (Inject server bytes) line h =
    (h.of_two, h.some, h.most, are_bytes bytes (decode_of-ok h.digits bytes h.decoded).3)

events_keep : (settings : Settings) (before events : List Event) (lines : List (List ℕ))
    → SpellsEvents settings before events lines
    → EventsKeepRules settings before events
events_keep settings before [] lines h = tt
events_keep settings before (event ∷ events) [] h = absurd h
events_keep settings before (event ∷ events) (line ∷ lines) h = (
  (event_keeps settings event line h.0.0, h.0.1),
  events_keep settings (before ++ event ∷ []) events
      lines h.1,
)

pub keeps_rules : (schedule : Schedule) (text : List ℕ) → SpellsSchedule schedule text → KeepsRules schedule
keeps_rules schedule text (first, lines, are, head, events, few) = record {
  events = events_keep schedule.header.settings [] schedule.events lines events;
  few = few;
}

-- ---- events that keep the rules

-- each event keeps them behind those before it
rules_from : (settings : Settings) (before events : List Event) (i : ℕ) (event : Event)
    → EventsKeepRules settings before events
    → i < length events → event ≡ get_or events i event
    → KeepsRulesAfter settings (before ++ take i events) event
rules_from settings before [] i event h within is = absurd (omega (arith, within))
rules_from settings before (first ∷ events) zero event h within is =
    subst (λ (b : List Event). KeepsRulesAfter settings b event) (sym (append-nil before))
    (subst (λ (e : Event). KeepsRulesAfter settings before e) (sym is) h.0)
rules_from settings before (first ∷ events) (suc i) event h within is =
    subst (λ (b : List Event). KeepsRulesAfter settings b event)
    (append_assoc before (first ∷ []) (take i events))
    (rules_from settings (before ++ first ∷ []) events i event h.1 (omega (arith, within)) is)

pub rules_at : (settings : Settings) (events : List Event) (i : ℕ) (event : Event)
    → EventsKeepRules settings [] events
    → i < length events → event ≡ get_or events i event → KeepsRulesAfter settings (take i events) event
rules_at settings events i event h within is = rules_from settings [] events i event h within is

-- ---- no client's lane is foreign

-- these lanes are apart after the events so far
pub AreApart : List Event → Type 0
AreApart events = (lane : ℕ) → is_used events lane ≡ true → is_foreign events lane ≡ false

or_true : (a b : Bool) → (a || b) ≡ true → (a ≡ true) ⊎ (b ≡ true)
or_true true b h = inl refl
or_true false b h = inr h

or_false : (a b : Bool) → a ≡ false → b ≡ false → (a || b) ≡ false
or_false a b h k = rw h k

-- a lane that is none of these isn't the one that is
other_lane : (among : ℕ → Bool) (lane : ℕ) (named : Option ℕ) → IsApart among named → among lane ≡ true
    → is_lane lane named ≡ false
other_lane among lane None h k = refl
other_lane among lane (Some other) h k = at_test (nat_eq lane other) refl
  where
    at_test : (t : Bool) → nat_eq lane other ≡ t → nat_eq lane other ≡ false
    at_test false e = e
    at_test true e = let same : lane ≡ other = eqb-true lane other e in cc (ap among same)

this_lane : (among : ℕ → Bool) (lane : ℕ) (named : Option ℕ) → IsApart among named
    → is_lane lane named ≡ true → among lane ≡ false
this_lane among lane None h k = cc
this_lane among lane (Some other) h k = ap among (eqb-true lane other k) ∙ h

-- one event names a client or makes a lane foreign, and not both
one_of_both : (event : Event) (lane : ℕ) → is_lane lane (client_of event) ≡ true
    → is_lane lane (foreign_by event) ≡ false
one_of_both (Ask client asked) lane h = refl
one_of_both (Send client) lane h = refl
one_of_both Tick lane h = refl
one_of_both (Deliver number) lane h = refl
one_of_both (Show number) lane h = refl
one_of_both (Finish client) lane h = refl
one_of_both (Inject server bytes) lane h = cc

apart_last : (before : List Event) (event : Event) → AreApart before → MayFollow before event
    → AreApart (before ++ event ∷ [])
unfolding AreApart
apart_last before event h follows lane used =
    is_foreign_last before event lane
    ∙ at_used (or_true (is_lane lane (client_of event)) (is_used before lane)
    (sym (is_used_last before event lane) ∙ used))
  where
    at_used : (is_lane lane (client_of event) ≡ true) ⊎ (is_used before lane ≡ true)
        → (is_lane lane (foreign_by event) || is_foreign before lane) ≡ false
    at_used (inl now) =
        or_false _ _ (one_of_both event lane now)
        (this_lane (is_foreign before) lane (client_of event) follows.client now)
    at_used (inr earlier) =
        or_false _ _ (other_lane (is_used before) lane (foreign_by event) follows.stranger earlier)
        (h lane earlier)

apart_from : (settings : Settings) (before events : List Event) → EventsKeepRules settings before events
    → AreApart before → AreApart (before ++ events)
apart_from settings before [] h apart = subst AreApart (sym (append-nil before)) apart
apart_from settings before (event ∷ events) h apart =
    subst AreApart (append_assoc before (event ∷ []) events)
    (apart_from settings (before ++ event ∷ []) events h.1 (apart_last before event apart h.0.1))

pub lanes_apart : (settings : Settings) (events : List Event) (lane : ℕ) → EventsKeepRules settings [] events
    → is_used events lane ≡ true → is_foreign events lane ≡ false
unfolding AreApart is_used
lanes_apart settings events lane h = apart_from settings [] events h (λ lane used. cc) lane
