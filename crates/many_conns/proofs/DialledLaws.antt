-- The connection that the server dialled stays where it is.
use Rattle.std.proofs.Common.{◌≡◌, ℕ, zero, suc, ◌+◌, ◌<◌, ◌≤◌, Bool, true, false, List, [], ◌∷◌, ◌++◌, length, take, drop, map, All, refl, sym, ap, ◌∙◌, subst, get_or, slice_set, arith, inl, inr}
use Rattle.std.proofs.lemmas.List.Elements.{All-append, All-cons, All-nil}
use Rattle.std.specs.Prelude.{Option, Some, None, not, ◌&&◌, slice_get}
use Rattle.many_words.specs.declared.door.Door.{Door}
use Rattle.many_words.specs.Doors.{is_dialled}
use Rattle.many_words.specs.Events.{Entry}
use Rattle.many_conns.specs.declared.said.Key.{Key}
use Rattle.many_conns.specs.declared.batch.Budget.{Budget}
use Rattle.many_conns.specs.Rules.{Rules, Outcome, Answers, Lasts, Waits, Commands, Replies, Nothing}
use Rattle.many_conns.specs.Places.{Place, is_linked, is_key, taken, waited, finished, waiting_for, waits_for, released, released_if, replied}
use Rattle.many_conns.specs.Routes.{dialled, place_if, place_when, waiter, waiting_at, key_at, places_after, changed_at}
use Rattle.many_conns.specs.Batches.{put_some, all_taken, entry_of, entries_of, frames_from, whole_from, around, line, admitted, cons_if, fits, weight_of, spent}

-- the change of a place leaves who stands there
abbrev pub KeepsLink : (Place → Place) → Type 0
KeepsLink f = (p : Place) → is_linked (f p) ≡ is_linked p

same_some : (p q : Place) → Some p ≡ Some q → p ≡ q
same_some p q is = cc

pub dialled_set : (places : List Place) (q : ℕ) (before made : Place) → slice_get places q ≡ Some before → is_linked made ≡ is_linked before
    → dialled (slice_set places q made) ≡ dialled places
dialled_set [] q before made there same = refl
dialled_set (p ∷ places) zero before made there same =
    ap (λ k. place_when k 0) (same ∙ sym (ap is_linked (same_some p before there)))
dialled_set (p ∷ places) (suc q) before made there same = refl

pub dialled_other : (places : List Place) (q : ℕ) (made : Place) → (q ≡ 0 → ⊥) → dialled (slice_set places q made) ≡ dialled places
dialled_other [] q made other = refl
dialled_other (p ∷ places) zero made other = absurd (other refl)
dialled_other (p ∷ places) (suc q) made other = refl

pub dialled_map : (f : Place → Place) → KeepsLink f → (places : List Place) → dialled (map f places) ≡ dialled places
dialled_map f keeps [] = refl
dialled_map f keeps (p ∷ places) = ap (λ k. place_when k 0) (keeps p)

dialled_put : (f : Place → Place) → KeepsLink f → (places : List Place) (q : ℕ) (o : Option Place) → slice_get places q ≡ o
    → dialled (put_some places q f o) ≡ dialled places
dialled_put f keeps places q None there = refl
dialled_put f keeps places q (Some p) there = dialled_set places q p (f p) there (keeps p)

dialled_changed : (f : Place → Place) → KeepsLink f → (o : Option ℕ) (places : List Place) → dialled (changed_at f o places) ≡ dialled places
dialled_changed f keeps None places = refl
dialled_changed f keeps (Some q) places = dialled_put f keeps places q (slice_get places q) refl

pub dialled_taken : (now : ℕ) (entries : List Entry) (places : List Place) → dialled (all_taken now entries places) ≡ dialled places
dialled_taken now [] places = refl
dialled_taken now (e ∷ entries) places =
    dialled_taken now entries _ ∙ dialled_put (taken now (length e.frame)) (λ p. refl) places e.place (slice_get places e.place) refl

released_keeps : (b : Bool) (p : Place) → is_linked (released_if b p) ≡ is_linked p
released_keeps true p = refl
released_keeps false p = refl

dialled_waiting : (key : Option Key) (place : ℕ) (places : List Place) → dialled (waiting_at key place places) ≡ dialled places
dialled_waiting None place places = refl
dialled_waiting (Some key) place places =
    dialled_changed (waiting_for key) (λ p. refl) (Some place) (map (released key) places)
    ∙ dialled_map (released key) (λ p. released_keeps (waits_for key p) p) places

pub dialled_after : (now : ℕ) (door : Door) (place : ℕ) (outcome : Outcome) (places : List Place)
    → dialled (places_after now door place outcome places) ≡ dialled places
dialled_after now door place (Answers bytes) places = refl
dialled_after now door place (Lasts bytes) places = dialled_changed finished (λ p. refl) (Some place) places
dialled_after now door place (Waits key) places = dialled_waiting (key_at door (Some key)) place places
dialled_after now door place (Commands key bytes) places = dialled_waiting (key_at door key) place places
dialled_after now door place (Replies key bytes) places = dialled_changed (replied now) (λ p. refl) (waiter key 0 places) places
dialled_after now door place Nothing places = refl

-- ---- a frame of its place came through its door

abbrev pub IsHonest : Entry → Type 0
IsHonest e = e.place ≡ 0 → is_dialled e.door ≡ true

none_zero : None ≡ Some zero → ⊥
none_zero is = cc

when_linked : (b : Bool) → place_when b 0 ≡ Some 0 → b ≡ true
when_linked true is = refl
when_linked false is = absurd (none_zero is)

door_of_linked : (live dialled : Bool) → (live && dialled) ≡ true → dialled ≡ true
door_of_linked true dialled is = is
door_of_linked false dialled is = absurd (no_true (sym is))
  where
    no_true : true ≡ false → ⊥
    no_true is = cc

entries_honest : {S : Type 0} (rules : Rules S) (s : S) (k : ℕ) (door : Door) (frames : List (List ℕ)) → (k ≡ 0 → is_dialled door ≡ true)
    → All IsHonest (entries_of rules s k door frames)
entries_honest rules s k door [] honest = All-nil IsHonest
entries_honest rules s k door (frame ∷ frames) honest =
    All-cons IsHonest (entry_of rules s k door frame) (entries_of rules s k door frames) honest (entries_honest rules s k door frames honest)

later_honest : {S : Type 0} (rules : Rules S) (s : S) (peers : Bool) (k : ℕ) (places : List Place) → 0 < k
    → All IsHonest (whole_from rules s peers k places)
later_honest rules s peers k [] lt = All-nil IsHonest
later_honest rules s peers k (p ∷ places) lt =
    All-append IsHonest (entries_of rules s k p.door (frames_from rules.whole peers p)) (whole_from rules s peers (k + 1) places)
    (entries_honest rules s k p.door (frames_from rules.whole peers p) (λ is. absurd (omega arith)))
    (later_honest rules s peers (k + 1) places (omega arith))

first_honest : {S : Type 0} (rules : Rules S) (s : S) (peers : Bool) (p : Place) (places : List Place) → is_linked p ≡ true
    → All IsHonest (whole_from rules s peers 0 (p ∷ places))
first_honest rules s peers p places linked =
    All-append IsHonest (entries_of rules s 0 p.door (frames_from rules.whole peers p)) (whole_from rules s peers (0 + 1) places)
    (entries_honest rules s 0 p.door (frames_from rules.whole peers p) (λ is. door_of_linked p.live (is_dialled p.door) linked))
    (later_honest rules s peers (0 + 1) places (omega arith))

around_honest : {S : Type 0} (rules : Rules S) (s : S) (turn : ℕ) (p : Place) (places : List Place) → is_linked p ≡ true
    → All IsHonest (around rules s turn (p ∷ places))
around_honest rules s zero p places linked =
    All-append IsHonest (whole_from rules s false 0 (p ∷ places)) [] (first_honest rules s false p places linked) (All-nil IsHonest)
around_honest rules s (suc turn) p places linked =
    All-append IsHonest (whole_from rules s false (suc turn) (drop turn places)) (whole_from rules s false 0 (p ∷ take turn places))
    (later_honest rules s false (suc turn) (drop turn places) (omega arith))
    (first_honest rules s false p (take turn places) linked)

line_honest : {S : Type 0} (rules : Rules S) (s : S) (turn : ℕ) (places : List Place) → dialled places ≡ Some 0
    → All IsHonest (line rules s turn places)
line_honest rules s turn [] linked = absurd (none_zero linked)
line_honest rules s turn (p ∷ places) linked =
    let is = when_linked (is_linked p) linked in
    All-append IsHonest (whole_from rules s true 0 (p ∷ places)) (around rules s turn (p ∷ places)) (first_honest rules s true p places is)
    (around_honest rules s turn p places is)

admitted_all : (P : Entry → Type 0) (is_dear : Door → List ℕ → Bool) (left : Budget) (entries : List Entry) → All P entries
    → All P (admitted is_dear left entries)
admitted_all P is_dear left [] all = all
admitted_all P is_dear left (e ∷ entries) all =
    kept (fits (weight_of is_dear e) left) (all zero e (omega arith))
    (admitted_all P is_dear (spent (weight_of is_dear e) left) entries (λ k d lt. all (suc k) d (omega arith)))
  where
    kept : (b : Bool) → P e → All P (admitted is_dear (spent (weight_of is_dear e) left) entries)
        → All P (cons_if b e (admitted is_dear (spent (weight_of is_dear e) left) entries))
    kept true here later = All-cons P e _ here later
    kept false here later = All-nil P

pub batch_honest : {S : Type 0} (rules : Rules S) (s : S) (left : Budget) (turn : ℕ) (places : List Place) → dialled places ≡ Some 0
    → All IsHonest (admitted rules.is_dear left (line rules s turn places))
batch_honest rules s left turn places linked =
    admitted_all IsHonest rules.is_dear left (line rules s turn places) (line_honest rules s turn places linked)

-- the connection that the server dialled waits for nothing
deaf : (key : Key) (p : Place) → is_linked p ≡ true → waits_for key p ≡ false
deaf key p linked = by p.live (is_dialled p.door) linked
  where
    by : (live dialled : Bool) → (live && dialled) ≡ true → (live && (not dialled && is_key key p.waits)) ≡ false
    by true true is = refl
    by true false is = absurd (no_true (sym is))
      where
        no_true : true ≡ false → ⊥
        no_true is = cc
    by false dialled is = refl

waiter_from : (key : Key) (k : ℕ) (places : List Place) (q : ℕ) → waiter key k places ≡ Some q → k ≤ q
waiter_from key k [] q is = absurd (none_q q is)
  where
    none_q : (q : ℕ) → None ≡ Some q → ⊥
    none_q q is = cc
waiter_from key k (p ∷ places) q is = by (waits_for key p) is (λ later. waiter_from key (k + 1) places q later)
  where
    same : (q : ℕ) → Some k ≡ Some q → k ≡ q
    same q is = cc

    by : (b : Bool) → place_if b k (waiter key (k + 1) places) ≡ Some q → (waiter key (k + 1) places ≡ Some q → k + 1 ≤ q) → k ≤ q
    by true is later = (let here = same q is in omega arith)
    by false is later = (let there = later is in omega arith)

-- who waits isn't it
pub waiter_other : (key : Key) (places : List Place) (q : ℕ) → dialled places ≡ Some 0 → waiter key 0 places ≡ Some q → q ≡ 0 → ⊥
waiter_other key [] q linked is zero_q = none_zero linked
waiter_other key (p ∷ places) q linked is zero_q =
    let later = waiter_from key (0 + 1) places q
    (sym (ap (λ b. place_if b 0 (waiter key (0 + 1) places)) (deaf key p (when_linked (is_linked p) linked))) ∙ is) in
    omega arith
