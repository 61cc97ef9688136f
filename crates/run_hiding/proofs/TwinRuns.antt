-- Two whole runs of schedules that are alike but for aims, move by move: servers take the same acts at foreign frames.
use Rattle.std.proofs.Common.{◌≡◌, ◌∙◌, ◌≤◌, ◌+◌, ◌⊎◌, ℕ, zero, suc, Bool, true, false, cond, List, [], ◌∷◌, length, drop, Option, Some, None, slice_get, refl, sym, ap, ap₂, arith, inl, inr}
use Rattle.express_words.specs.declared.settings.Settings.{Settings}
use Rattle.express_words.specs.Limits.{KeepsLimits}
use Rattle.token_rules.specs.Tokens.{Token}
use Rattle.token_rules.specs.Run.{is_for, last_for}
use Rattle.run_rules.specs.Letters.{Letter}
use Rattle.run_rules.specs.Run as frames
use Rattle.run_rules.specs.Run.{Ask, Send, Tick, Deliver, Show, Finish, Inject, Event}
use Rattle.run_rules.specs.Book.{Book}
use Rattle.run_rules.specs.Follows.{Pools}
use Rattle.run_rules.specs.Known.{Known}
use Rattle.run_rules.specs.Acts.{AreFitting, Both, both_come, both_deliver, both_happen, both_hand, both_opened, both_send, both_tick, ended_of, history_of, run_both}
use Rattle.run_rules.proofs.Asked.{for_same}
use Rattle.run_rules.proofs.Basics.{pools_length}
use Rattle.run_rules.proofs.ForeignFollows as follows
use Rattle.run_rules.proofs.WholeBoth.{Allowed, Kept, back_on_hands, run_back, run_keeps}
use Rattle.run_rules.proofs.WholeForeign as strangers

-- ---- the place of the last token for a client, which is that of its letter

pub record Last (c : ℕ) (ts : List Token) : Type 0 where
  pub place : ℕ
  pub token : (t : Option Token) → last_for c t ts ≡ slice_get ts place
  pub letter : (b : Book) (ls : List Letter) (l : Option Letter) → Pools b ts ls → frames.last_for c l ls ≡ slice_get ls place

pub record NoLast (c : ℕ) (ts : List Token) : Type 0 where
  pub token : (t : Option Token) → last_for c t ts ≡ t
  pub letter : (b : Book) (ls : List Letter) (l : Option Letter) → Pools b ts ls → frames.last_for c l ls ≡ l

last_in : (c : ℕ) (ts : List Token) → Last c ts ⊎ NoLast c ts
unfolding last_for frames.last_for
last_in c [] = inr (record { token = λ t. refl; letter = λ b ls l h. empty b ls l h })
  where
    empty : (b : Book) (ls : List Letter) (l : Option Letter) → Pools b [] ls → frames.last_for c l ls ≡ l
    empty b [] l h = refl
    empty b (m ∷ ls) l h = absurd h
last_in c (u ∷ ts) = elim (last_in c ts) [
  | inl r ↦ inl (record { place = suc r.place; token = λ t. r.token _; letter = λ b ls l h. later b ls l r h })
  | inr r ↦ at_test (is_for c u) refl r
]
  where
    later : (b : Book) (ls : List Letter) (l : Option Letter) (r : Last c ts) → Pools b (u ∷ ts) ls → frames.last_for c l ls ≡ slice_get ls (suc r.place)
    later b (m ∷ ls) l r h = r.letter b ls _ h.1
    later b [] l r h = absurd h

    here : (b : Book) (ls : List Letter) (l : Option Letter) → NoLast c ts → Pools b (u ∷ ts) ls → is_for c u ≡ true → frames.last_for c l ls ≡ slice_get ls 0
    here b (m ∷ ls) l r h e = r.letter b ls _ h.1 ∙ ap (λ t. cond t (Some m) l) (for_same b c u m h.0 ∙ e)
    here b [] l r h e = absurd h

    none : (b : Book) (ls : List Letter) (l : Option Letter) → NoLast c ts → Pools b (u ∷ ts) ls → is_for c u ≡ false → frames.last_for c l ls ≡ l
    none b (m ∷ ls) l r h e = r.letter b ls _ h.1 ∙ ap (λ t. cond t (Some m) l) (for_same b c u m h.0 ∙ e)
    none b [] l r h e = absurd h

    at_test : (t : Bool) → is_for c u ≡ t → NoLast c ts → Last c (u ∷ ts) ⊎ NoLast c (u ∷ ts)
    at_test true e r = inl (record { place = 0; token = λ t. r.token _ ∙ ap (λ x. cond x (Some u) t) e; letter = λ b ls l h. here b ls l r h e })
    at_test false e r = inr (record { token = λ t. r.token _ ∙ ap (λ x. cond x (Some u) t) e; letter = λ b ls l h. none b ls l r h e })

get_drop : {X : Type 0} (n j : ℕ) (xs : List X) → slice_get (drop n xs) j ≡ slice_get xs (n + j)
get_drop zero j xs = ap (slice_get xs) (let e : j ≡ 0 + j = omega arith in e)
get_drop (suc n) j [] = refl
get_drop (suc n) j (x ∷ xs) = get_drop n j xs ∙ ap (slice_get (x ∷ xs)) (let e : suc (n + j) ≡ suc n + j = omega arith in e)

past_end : {X : Type 0} (xs : List X) (n : ℕ) → length xs ≤ n → slice_get xs n ≡ None
past_end [] n h = refl
past_end (x ∷ xs) zero h = absurd (omega (arith, h))
past_end (x ∷ xs) (suc n) h = past_end xs n (omega (arith, h))

pools_drop : (b : Book) (n : ℕ) (ts : List Token) (ls : List Letter) → Pools b ts ls → Pools b (drop n ts) (drop n ls)
pools_drop b zero ts ls h = h
pools_drop b (suc n) [] [] h = h
pools_drop b (suc n) (t ∷ ts) (l ∷ ls) h = pools_drop b n ts ls h.1
pools_drop b (suc n) [] (l ∷ ls) h = absurd h
pools_drop b (suc n) (t ∷ ts) [] h = absurd h

-- a hand is the delivery of one place
pub record Handed (c before : ℕ) (ts : List Token) : Type 0 where
  pub place : ℕ
  pub token : last_for c None (drop before ts) ≡ slice_get ts place
  pub letter : (b : Book) (ls : List Letter) → Pools b ts ls → frames.last_for c None (drop before ls) ≡ slice_get ls place

pub handed : (c before : ℕ) (ts : List Token) → Handed c before ts
handed c before ts = elim (last_in c (drop before ts)) [
  | inl r ↦ record {
    place = before + r.place;
    token = r.token None ∙ get_drop before r.place ts;
    letter = λ b ls h. r.letter b (drop before ls) None (pools_drop b before ts ls h) ∙ get_drop before r.place ls;
  }
  | inr r ↦ record {
    place = length ts;
    token = r.token None ∙ sym (past_end ts (length ts) (omega arith));
    letter = λ b ls h. r.letter b (drop before ls) None (pools_drop b before ts ls h) ∙ sym (past_end ls (length ts) (let e = pools_length b ts ls h in omega (arith, e)));
  }
]

-- ---- one run, by its moves

module _ (settings : Settings) (seed : List ℕ) (foreign : ℕ → Bool) (events : List Event)
    (limits : KeepsLimits settings.width settings.boxes settings.lanes settings.window) (fit : AreFitting settings foreign events) (few : length events ≤ 20000) where
  abbrev pub ended : Both
  ended = ended_of settings seed foreign events

  abbrev pub b : Book
  b = history_of settings seed foreign ended

  abbrev pub Keeps : Both → Type 0
  Keeps s = Kept b ended.world ended.taken (strangers.sound settings seed foreign events limits fit few) (strangers.whole settings seed foreign events limits fit few) follows.Unique
      (strangers.foreign_follow settings seed foreign events limits fit few) (follows.takes b ended.world ended.taken refl) follows.stays s

  abbrev pub May : Both → Type 0
  May s = Allowed b ended.world ended.taken (strangers.sound settings seed foreign events limits fit few) (strangers.whole settings seed foreign events limits fit few) follows.Unique
      (strangers.foreign_follow settings seed foreign events limits fit few) (follows.takes b ended.world ended.taken refl) follows.stays s

  pub go : (more : List Event) (s : Both) → AreFitting settings foreign more → Keeps s → May (run_both s more) → Keeps (run_both s more)
  go = run_keeps b ended.world ended.taken (strangers.sound settings seed foreign events limits fit few) (strangers.whole settings seed foreign events limits fit few) follows.Unique
      (strangers.foreign_follow settings seed foreign events limits fit few) (follows.takes b ended.world ended.taken refl) follows.stays

  pub back : (more : List Event) (s : Both) → AreFitting settings foreign more → May (run_both s more) → May s
  back = run_back b ended.world ended.taken (strangers.sound settings seed foreign events limits fit few) (strangers.whole settings seed foreign events limits fit few) follows.Unique
      (strangers.foreign_follow settings seed foreign events limits fit few) (follows.takes b ended.world ended.taken refl) follows.stays

  pub known : (s : Both) → Keeps s → May s → Known b ended.world s.world
  known s h may =
      let k = may h.lawful h.follows.foreign in
      record { sound = strangers.sound settings seed foreign events limits fit few; whole = strangers.whole settings seed foreign events limits fit few; lawful = h.lawful; since = k.1; within = k.0 }

  -- one event
  pub step : (event : Event) (s : Both) → AreFitting settings foreign (event ∷ []) → Keeps s → May (both_happen s event) → Keeps (both_happen s event)
  unfolding run_both
  step event s fits h may = go (event ∷ []) s fits h may

  pub step_back : (event : Event) (s : Both) → AreFitting settings foreign (event ∷ []) → May (both_happen s event) → May s
  unfolding run_both
  step_back event s fits may = back (event ∷ []) s fits may

  pub on_deliver : (s : Both) (n : ℕ) → Keeps s → May (both_deliver s n) → Keeps (both_deliver s n)
  unfolding both_happen
  on_deliver s n h may = step (Deliver n) s (tt, tt) h may

  pub back_deliver : (s : Both) (n : ℕ) → May (both_deliver s n) → May s
  unfolding both_happen
  back_deliver s n may = step_back (Deliver n) s (tt, tt) may

  pub on_send : (s : Both) (c : ℕ) → Keeps s → May (both_send s c) → Keeps (both_send s c)
  unfolding both_happen
  on_send s c h may = step (Send c) s (tt, tt) h may

  pub back_send : (s : Both) (c : ℕ) → May (both_send s c) → May s
  unfolding both_happen
  back_send s c may = step_back (Send c) s (tt, tt) may

  pub on_tick : (s : Both) → Keeps s → May (both_tick s) → Keeps (both_tick s)
  unfolding both_happen
  on_tick s h may = step Tick s (tt, tt) h may

  pub back_tick : (s : Both) → May (both_tick s) → May s
  unfolding both_happen
  back_tick s may = step_back Tick s (tt, tt) may

  pub hand_is : (s : Both) (c before : ℕ) → Keeps s → both_hand s c before ≡ both_deliver s (handed c before s.world.pool).place
  hand_is s c before h =
      let at = handed c before s.world.pool in
      ap₂ (λ t l. both_come s t l) at.token (at.letter b s.frames.pool h.follows.pool)

  pub back_hand : (s : Both) (c before : ℕ) → May (both_hand s c before) → May s
  back_hand = back_on_hands b ended.world ended.taken (strangers.sound settings seed foreign events limits fit few) (strangers.whole settings seed foreign events limits fit few) follows.Unique
      (strangers.foreign_follow settings seed foreign events limits fit few) (follows.takes b ended.world ended.taken refl) follows.stays

  pub at_start : May (both_opened settings seed foreign)
  at_start = back events (both_opened settings seed foreign) fit (strangers.allowed settings seed foreign events limits fit few follows.Unique (follows.takes b ended.world ended.taken refl) follows.stays (tt, tt, refl))

  pub opens : Keeps (both_opened settings seed foreign)
  opens = strangers.kept settings seed foreign events limits fit few follows.Unique (follows.takes b ended.world ended.taken refl) follows.stays (tt, tt, refl)

  pub ends : May ended
  ends = strangers.allowed settings seed foreign events limits fit few follows.Unique (follows.takes b ended.world ended.taken refl) follows.stays (tt, tt, refl)
