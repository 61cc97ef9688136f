-- Frames that are offered to a batch.
use Rattle.std.proofs.Common.{get_or, arith, zero, suc, ◌≡◌, ℕ, ◌+◌, ◌≤◌, length, List, [], ◌∷◌, ◌++◌, take, drop, All, true, false, refl, sym, ap, ◌∙◌, subst, append_assoc, append-nil}
use Rattle.std.proofs.lemmas.List.{take-append-drop, take_all}
use Rattle.std.proofs.Math.ListN.{drop_of_length-le}
use Rattle.std.proofs.lemmas.List.Elements.{All-append, All-cons, All-nil}
use Rattle.std.specs.Prelude.{Bool, not, Option, Some, None}
use Rattle.many_words.specs.declared.door.Door.{Door}
use Rattle.many_words.specs.Doors.{is_peer}
use Rattle.many_words.specs.Events.{Entry}
use Rattle.many_conns.specs.Rules.{Rules}
use Rattle.many_conns.specs.declared.batch.Budget.{Budget}
use Rattle.many_conns.specs.Places.{Place, is_heard, frames_at, frames_by, frames_if, frames_of, next_frames}
use Rattle.many_conns.specs.Batches.{Batch, Offered, weight_of, admitted, refused, fits, spent, offered, offered_if, cons_if, place_unless, entry_of, entries_of, frames_from, is_side, whole_from, around, line}
use Rattle.many_conns.specs.Hall.{HasNoFrame}

none_some : {A : Type 0} (x : A) → None ≡ Some x → ⊥
none_some x is = cc

pub offered_none : (is_dear : Door → List ℕ → Bool) (b : Batch) → Offered is_dear [] b b None
offered_none is_dear b = record {
  room = refl;
  goes_on = λ none more. (refl, refl);
  stops = λ place is. absurd (none_some place is);
}

-- one frame is offered
pub offered_if_one : (is_dear : Door → List ℕ → Bool) (entry : Entry) (b : Batch) (fit : Bool) → fits (weight_of is_dear entry) b.left ≡ fit
    → Offered is_dear (entry ∷ []) b (offered_if fit (weight_of is_dear entry) entry b) (place_unless fit entry.place None)
offered_if_one is_dear entry b true fit = record {
  room = refl;
  goes_on = λ none more. (
    ap (λ k. b.entries ++ cons_if k entry (admitted is_dear (spent (weight_of is_dear entry) b.left) more)) fit
        ∙ sym (append_assoc b.entries (entry ∷ []) (admitted is_dear (spent (weight_of is_dear entry) b.left) more)),
    ap (λ k. place_unless k entry.place (refused is_dear (spent (weight_of is_dear entry) b.left) more)) fit,
  );
  stops = λ place is. absurd (none_some place is);
}
offered_if_one is_dear entry b false fit = record {
  room = refl;
  goes_on = λ none. absurd (none_some entry.place (sym none));
  stops = λ place is more. (
    ap (λ k. b.entries ++ cons_if k entry (admitted is_dear (spent (weight_of is_dear entry) b.left) more)) fit ∙ append-nil b.entries,
    ap (λ k. place_unless k entry.place (refused is_dear (spent (weight_of is_dear entry) b.left) more)) fit ∙ is,
  );
}

pub offered_one : (is_dear : Door → List ℕ → Bool) (entry : Entry) (b : Batch)
    → Offered is_dear (entry ∷ []) b (offered (weight_of is_dear entry) entry b) (place_unless (fits (weight_of is_dear entry) b.left) entry.place None)
offered_one is_dear entry b = offered_if_one is_dear entry b (fits (weight_of is_dear entry) b.left) refl

-- some are offered, and then others
pub offered_then : (is_dear : Door → List ℕ → Bool) (xs ys : List Entry) (a b c : Batch) (stop : Option ℕ)
    → Offered is_dear xs a b None → Offered is_dear ys b c stop → Offered is_dear (xs ++ ys) a c stop
offered_then is_dear xs ys a b c stop one two = record {
  room = two.room ∙ one.room;
  goes_on = λ none more. (
    ap (λ k. a.entries ++ admitted is_dear a.left k) (append_assoc xs ys more)
        ∙ ((one.goes_on refl (ys ++ more)).0 ∙ (two.goes_on none more).0),
    ap (λ k. refused is_dear a.left k) (append_assoc xs ys more)
        ∙ ((one.goes_on refl (ys ++ more)).1 ∙ (two.goes_on none more).1),
  );
  stops = λ place is more. (
    ap (λ k. a.entries ++ admitted is_dear a.left k) (append_assoc xs ys more)
        ∙ ((one.goes_on refl (ys ++ more)).0 ∙ (two.stops place is more).0),
    ap (λ k. refused is_dear a.left k) (append_assoc xs ys more)
        ∙ ((one.goes_on refl (ys ++ more)).1 ∙ (two.stops place is more).1),
  );
}

-- where one had no room, those behind it aren't asked
pub offered_more : (is_dear : Door → List ℕ → Bool) (xs ys : List Entry) (a b : Batch) (place : ℕ)
    → Offered is_dear xs a b (Some place) → Offered is_dear (xs ++ ys) a b (Some place)
offered_more is_dear xs ys a b place one = record {
  room = one.room;
  goes_on = λ none. absurd (none_some place (sym none));
  stops = λ q is more. (
    ap (λ k. a.entries ++ admitted is_dear a.left k) (append_assoc xs ys more) ∙ (one.stops q is (ys ++ more)).0,
    ap (λ k. refused is_dear a.left k) (append_assoc xs ys more) ∙ (one.stops q is (ys ++ more)).1,
  );
}

-- what an empty batch has after that
pub filled_entries : (is_dear : Door → List ℕ → Bool) (xs : List Entry) (a b : Batch) (stop : Option ℕ) → a.entries ≡ []
    → Offered is_dear xs a b stop → b.entries ≡ admitted is_dear a.left xs
filled_entries is_dear xs a b None empty all =
    sym (append-nil b.entries) ∙ (sym (all.goes_on refl []).0
    ∙ (ap (λ k. k ++ admitted is_dear a.left (xs ++ [])) empty ∙ ap (λ k. admitted is_dear a.left k) (append-nil xs)))
filled_entries is_dear xs a b (Some place) empty all =
    sym (all.stops place refl []).0
    ∙ (ap (λ k. k ++ admitted is_dear a.left (xs ++ [])) empty ∙ ap (λ k. admitted is_dear a.left k) (append-nil xs))

pub filled_refused : (is_dear : Door → List ℕ → Bool) (xs : List Entry) (a b : Batch) (stop : Option ℕ)
    → Offered is_dear xs a b stop → stop ≡ refused is_dear a.left xs
filled_refused is_dear xs a b None all =
    sym (all.goes_on refl []).1 ∙ ap (λ k. refused is_dear a.left k) (append-nil xs)
filled_refused is_dear xs a b (Some place) all =
    sym (all.stops place refl []).1 ∙ ap (λ k. refused is_dear a.left k) (append-nil xs)

-- ---- where nothing is whole

no_entries : {S : Type 0} (rules : Rules S) (s : S) (place : ℕ) (door : Door) (frames : List (List ℕ)) (rest : List Entry)
    → entries_of rules s place door frames ++ rest ≡ [] → frames ≡ []
no_entries rules s place door [] rest is = refl
no_entries rules s place door (frame ∷ frames) rest is = cc

no_rest : {S : Type 0} (rules : Rules S) (s : S) (place : ℕ) (door : Door) (frames : List (List ℕ)) (rest : List Entry)
    → entries_of rules s place door frames ++ rest ≡ [] → rest ≡ []
no_rest rules s place door [] rest is = is
no_rest rules s place door (frame ∷ frames) rest is = cc

abbrev HasNone : (whole : Door → List ℕ → Option ℕ) (peers : Bool) → Place → Type 0
HasNone whole peers p = frames_from whole peers p ≡ []

nothing_whole : {S : Type 0} (rules : Rules S) (s : S) (peers : Bool) (k : ℕ) (places : List Place) → whole_from rules s peers k places ≡ []
    → All (HasNone rules.whole peers) places
nothing_whole rules s peers k [] is = All-nil (HasNone rules.whole peers)
nothing_whole rules s peers k (p ∷ places) is =
    All-cons (HasNone rules.whole peers) p places (no_entries rules s k p.door (frames_from rules.whole peers p) _ is)
    (nothing_whole rules s peers (k + 1) places (no_rest rules s k p.door (frames_from rules.whole peers p) _ is))

-- a place that has none, as one of the other server or not, has none
both_none : (b : Bool) (frames : List (List ℕ)) → frames_if b frames ≡ [] → frames_if (not b) frames ≡ [] → frames ≡ []
both_none true frames one two = one
both_none false frames one two = two

-- where nothing had no room and nothing is taken nothing was in line
nothing_in_line : (is_dear : Door → List ℕ → Bool) (left : Budget) (xs : List Entry) → admitted is_dear left xs ≡ [] → refused is_dear left xs ≡ None
    → xs ≡ []
nothing_in_line is_dear left [] none all = refl
nothing_in_line is_dear left (e ∷ xs) none all = absurd (neither (fits (weight_of is_dear e) left) e _ _ none all)
  where
    neither : (fit : Bool) (e : Entry) (xs : List Entry) (later : Option ℕ) → cons_if fit e xs ≡ [] → place_unless fit e.place later ≡ None → ⊥
    neither true e xs later none all = cc
    neither false e xs later none all = cc

left_nil : (xs ys : List Entry) → xs ++ ys ≡ [] → xs ≡ []
left_nil [] ys is = refl
left_nil (x ∷ xs) ys is = cc

right_nil : (xs ys : List Entry) → xs ++ ys ≡ [] → ys ≡ []
right_nil [] ys is = is
right_nil (x ∷ xs) ys is = cc

nothing_around : {S : Type 0} (rules : Rules S) (s : S) (turn : ℕ) (places : List Place) → around rules s turn places ≡ []
    → All (HasNone rules.whole false) places
nothing_around rules s turn places empty =
    subst (All (HasNone rules.whole false)) (take-append-drop turn places)
    (All-append (HasNone rules.whole false) (take turn places) (drop turn places)
    (nothing_whole rules s false 0 (take turn places) (right_nil _ _ empty))
    (nothing_whole rules s false turn (drop turn places) (left_nil _ _ empty)))

pub nothing_waits : {S : Type 0} (rules : Rules S) (s : S) (is_dear : Door → List ℕ → Bool) (left : Budget) (turn : ℕ) (places : List Place)
    → admitted is_dear left (line rules s turn places) ≡ [] → refused is_dear left (line rules s turn places) ≡ None
    → All (HasNoFrame rules.whole) places
nothing_waits rules s is_dear left turn places none all =
    let empty = nothing_in_line is_dear left (line rules s turn places) none all in
    let peers = nothing_whole rules s true 0 places (left_nil _ _ empty) in
    let others = nothing_around rules s turn places (right_nil _ _ empty) in
    λ k d lt. both_none (is_peer (get_or places k d).door) (frames_at rules.whole (get_or places k d)) (peers k d lt) (others k d lt)

-- where the turn is beyond all places the line begins at the first
pub line_beyond : {S : Type 0} (rules : Rules S) (s : S) (turn : ℕ) (places : List Place) → length places ≤ turn
    → around rules s turn places ≡ whole_from rules s false 0 places
line_beyond rules s turn places beyond =
    ap (λ k. whole_from rules s false turn k ++ whole_from rules s false 0 (take turn places)) (drop_of_length-le places beyond)
    ∙ ap (λ k. whole_from rules s false 0 k) (take_all turn places beyond)

abbrev budget : (frames dear clients : ℕ) → Budget
budget frames dear clients = record { frames = frames; clients = clients; dear = dear }

-- what a batch takes as it begins
pub left_is : (new old : Batch) (clients room dear : ℕ)
    → new ≡ record old { entries = []; left = record { frames = old.room; clients = clients; dear = dear } } → clients ≡ room
    → new.left ≡ record { frames = old.room; clients = room; dear = dear }
left_is new old clients room dear is same = ap (λ b. b.left) is ∙ ap (budget old.room dear) same

-- ---- what a place offers

-- nothing where nothing is whole
pub offered_no : {S : Type 0} (rules : Rules S) (s : S) (place : ℕ) (door : Door) (frames : List (List ℕ)) (b : Batch) → frames ≡ []
    → Offered rules.is_dear (entries_of rules s place door frames) b b None
offered_no rules s place door frames b is =
    subst (λ k. Offered rules.is_dear (entries_of rules s place door k) b b None) (sym is) (offered_none rules.is_dear b)

no_true : true ≡ false → ⊥
no_true e = cc

-- the frames are those of the side that was asked
pub from_side : (whole : Door → List ℕ → Option ℕ) (peers : Bool) (p : Place) → is_side peers p.door ≡ true
    → frames_by peers whole p ≡ frames_from whole peers p
from_side whole true p is = sym (ap (λ b. frames_if b (frames_by b whole p)) is)
from_side whole false p is = on (is_peer p.door) is
  where
    on : (b : Bool) → not b ≡ true → frames_by false whole p ≡ frames_if (not b) (frames_by b whole p)
    on true is = absurd (no_true (sym is))
    on false is = refl

-- of bytes that are heard those are the frames
pub heard_all : (whole : Door → List ℕ → Option ℕ) (p : Place) (door : Door) (held : List ℕ) → door ≡ p.door → held ≡ p.held → true ≡ is_heard p
    → frames_of (whole door) (length held) held ≡ frames_by true whole p
heard_all whole p door held through bytes is =
    ap (λ d. frames_of (whole d) (length held) held) through
    ∙ (ap (λ h. frames_of (whole p.door) (length h) h) bytes
    ∙ ap (λ k. frames_if k (frames_of (whole p.door) (length p.held) p.held)) is)

pub heard_none : (whole : Door → List ℕ → Option ℕ) (p : Place) → false ≡ is_heard p → frames_by true whole p ≡ []
heard_none whole p is = ap (λ k. frames_if k (frames_of (whole p.door) (length p.held) p.held)) (sym is)

pub offered_same : {S : Type 0} (rules : Rules S) (s : S) (place : ℕ) (d e : Door) (xs ys : List (List ℕ)) (b c : Batch) (stop : Option ℕ)
    → d ≡ e → xs ≡ ys → Offered rules.is_dear (entries_of rules s place d xs) b c stop
    → Offered rules.is_dear (entries_of rules s place e ys) b c stop
offered_same rules s place d e xs ys b c stop door same offer =
    subst (λ k. Offered rules.is_dear (entries_of rules s place k ys) b c stop) door
    (subst (λ k. Offered rules.is_dear (entries_of rules s place d k) b c stop) same offer)

-- a frame was offered
pub offered_by : {S : Type 0} (rules : Rules S) (s : S) (place : ℕ) (door : Door) (frame : List ℕ) (b c : Batch) (r : Bool)
    → r ≡ fits (weight_of rules.is_dear (entry_of rules s place door frame)) b.left
    → c ≡ offered (weight_of rules.is_dear (entry_of rules s place door frame)) (entry_of rules s place door frame) b
    → Offered rules.is_dear (entries_of rules s place door (frame ∷ [])) b c (place_unless r place None)
offered_by rules s place door frame b c r fit is =
    subst (λ k. Offered rules.is_dear (entry_of rules s place door frame ∷ []) b k (place_unless r place None)) (sym is)
    (subst (λ k. Offered rules.is_dear (entry_of rules s place door frame ∷ []) b
    (offered (weight_of rules.is_dear (entry_of rules s place door frame)) (entry_of rules s place door frame) b) (place_unless k place None)) (sym fit)
    (offered_one rules.is_dear (entry_of rules s place door frame) b))

-- ---- frames of one place, one behind another

-- no more are looked for
pub frames_end : (whole : List ℕ → Option ℕ) (most : ℕ) (held : List ℕ) → most ≡ 0 → frames_of whole most held ≡ []
frames_end whole zero held is = refl
frames_end whole (suc most) held is = absurd (omega (arith, is))

-- nothing more is whole
pub frames_none : (whole : List ℕ → Option ℕ) (most : ℕ) (held : List ℕ) → whole held ≡ None → frames_of whole most held ≡ []
frames_none whole zero held is = refl
frames_none whole (suc most) held is = ap (λ o. next_frames o held (frames_of whole most)) is

-- the first one, and those behind it
pub frames_some : (whole : List ℕ → Option ℕ) (most less : ℕ) (held : List ℕ) (count : ℕ) → most ≡ suc less → whole held ≡ Some count
    → frames_of whole most held ≡ take count held ∷ frames_of whole less (drop count held)
frames_some whole most less held count more is =
    ap (λ n. frames_of whole n held) more ∙ ap (λ o. next_frames o held (frames_of whole less)) is

abbrev later_of : {S : Type 0} → Rules S → S → ℕ → Door → ℕ → List ℕ → List Entry
later_of rules s place door most held = entries_of rules s place door (frames_of (rules.whole door) most held)

-- the first frame of bytes was offered, and then those behind it
pub offered_next : {S : Type 0} (rules : Rules S) (s : S) (place : ℕ) (door : Door) (most less : ℕ) (rest behind frame : List ℕ) (count : ℕ) (a m b : Batch) (stop : Option ℕ)
    → most ≡ suc less → rules.whole door rest ≡ Some count → frame ≡ take count rest → behind ≡ drop count rest
    → Offered rules.is_dear (entries_of rules s place door (frame ∷ [])) a m None
    → Offered rules.is_dear (later_of rules s place door less behind) m b stop
    → Offered rules.is_dear (later_of rules s place door most rest) a b stop
offered_next rules s place door most less rest behind frame count a m b stop more is front back one later =
    subst (λ k. Offered rules.is_dear (entries_of rules s place door k) a b stop)
    (ap (λ f. f ∷ frames_of (rules.whole door) less behind) front
    ∙ (ap (λ h. take count rest ∷ frames_of (rules.whole door) less h) back ∙ sym (frames_some (rules.whole door) most less rest count more is)))
    (offered_then rules.is_dear (entry_of rules s place door frame ∷ []) (later_of rules s place door less behind) a m b stop one later)

-- it had no room
pub offered_stop : {S : Type 0} (rules : Rules S) (s : S) (place : ℕ) (door : Door) (most less : ℕ) (rest frame : List ℕ) (count : ℕ) (a b : Batch)
    → most ≡ suc less → rules.whole door rest ≡ Some count → frame ≡ take count rest
    → Offered rules.is_dear (entries_of rules s place door (frame ∷ [])) a b (Some place)
    → Offered rules.is_dear (later_of rules s place door most rest) a b (Some place)
offered_stop rules s place door most less rest frame count a b more is front one =
    subst (λ k. Offered rules.is_dear (entries_of rules s place door k) a b (Some place))
    (ap (λ f. f ∷ frames_of (rules.whole door) less (drop count rest)) front ∙ sym (frames_some (rules.whole door) most less rest count more is))
    (offered_more rules.is_dear (entry_of rules s place door frame ∷ []) (later_of rules s place door less (drop count rest)) a b place one)
