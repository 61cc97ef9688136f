-- One event at one place.
use Rattle.std.proofs.Common.{◌≡◌, ℕ, ◌<◌, List, [], ◌∷◌, ◌++◌, length, true, false, refl, sym, ap, ◌∙◌, subst, get_or, slice_set}
use Rattle.std.specs.Prelude.{Bool, not, ◌&&◌, ◌||◌, None, is_some, is_none, option_map, Option, Some, slice_get}
use Rattle.std.proofs.Common.{arith, get_or-set_same, All, ◌≤◌, inl, inr}
use Rattle.std.proofs.lemmas.List.Elements.{All-set}
use Rattle.std.proofs.lemmas.Option.{slice_get_read, get_or_from_slice_get}
use Rattle.many_words.specs.declared.door.Door.{Door}
use Rattle.many_words.specs.Doors.{is_dialled, is_link, is_peer}
use Rattle.many_words.specs.Events.{Event, Entry, Adds, Opened, Asked, Came, Ended, Blocked, Closed, Dropped}
use Rattle.many_words.specs.declared.hub.Taken.{Taken}
use Rattle.many_words.specs.declared.hub.Taken.TheVariants.{Bytes, Over, Pending}
use Rattle.many_conns.specs.declared.patience.Patience.{Patience}
use Rattle.many_conns.specs.Rules.{Rules}
use Rattle.many_conns.specs.Routes.{Resends, resent_at}
use Rattle.many_conns.specs.Places.{Place, empty_place, new_place, vacated, asked, is_free, is_heard, frames_by, frames_if, frames_of, one_if, with_bytes, at_end, blocked, frame_at, frame_if, front_of, is_over, Looks}
use Rattle.many_conns.specs.Hall.{Hall, IsSomeAt, IsOldestAt, IsInTime, IsAsked, IsLooked, HasNoFrame, IsServed, Leads, Acts, again_after}
use Rattle.many_conns.proofs.LeadLaws.{leads_one, leads_opened}

abbrev pub hall : {S : Type 0} → (patience : Patience) (most dear now : ℕ) → List Place → ℕ → Bool → S → List Entry → Hall S
hall patience most dear now places turn served server owed = record {
  patience = patience;
  most = most;
  most_dear = dear;
  now = now;
  places = places;
  turn = turn;
  served = served;
  server = server;
  owed = owed;
}

pub read_at : (places : List Place) (place : ℕ) (p : Place) → place < length places
    → p ≡ get_or places place p → slice_get places place ≡ Some p
read_at places place p lt is = slice_get_read places (length places) place p refl lt is

-- an event that puts something at a place
pub puts_at : {S : Type 0} (rules : Rules S) (old new : Option (List Event)) (e : Event) (h : Hall S)
    → (patience : Patience) (most dear now : ℕ) (places : List Place) (turn : ℕ) (served : Bool) (server : S) (owed : List Entry) (place : ℕ) (after made : Place)
    → h ≡ hall patience most dear now places turn served server owed → Adds old new e → made ≡ after → again_after rules server e ≡ []
    → Acts rules (hall patience most dear now places turn served server owed) e
    (hall patience most dear now (slice_set places place after) turn served server owed)
    → Leads rules old new h (hall patience most dear now (slice_set places place made) turn served server owed)
puts_at rules old new e h patience most dear now places turn served server owed place after made is adds same none step =
    subst (λ k. Leads rules old new k (hall patience most dear now (slice_set places place made) turn served server owed)) (sym is)
    (subst (λ p. Leads rules old new (hall patience most dear now places turn served server owed)
    (hall patience most dear now (slice_set places place p) turn served server owed)) (sym same)
    (leads_one rules old new _ _ e adds none step))

pub closes_at : {S : Type 0} (rules : Rules S) (old new : Option (List Event)) (h : Hall S)
    → (patience : Patience) (most dear now : ℕ) (places : List Place) (turn : ℕ) (served : Bool) (server : S) (owed : List Entry) (place : ℕ) (before made : Place)
    → h ≡ hall patience most dear now places turn served server owed → h.owed ≡ [] → place < length h.places
    → before ≡ get_or places place before → before.live ≡ true → is_over rules.whole patience now before ≡ true
    → made ≡ empty_place before.door → Adds old new (Closed place)
    → Leads rules old new h (hall patience most dear now (slice_set places place made) turn served server owed)
closes_at rules old new h patience most dear now places turn served server owed place before made is none lt read live over same adds =
    puts_at rules old new (Closed place) h patience most dear now places turn served server owed place _ made is adds same refl
    (record {
      before = before;
      at = record {
        nothing_owed = subst (λ k. k.owed ≡ []) is none;
        there = read_at places place before (subst (λ k. place < length k.places) is lt) read;
        live = live;
      };
      over = over;
      is = refl;
    })

pub opens_at : {S : Type 0} (rules : Rules S) (old mid new : Option (List Event)) (h : Hall S)
    → (patience : Patience) (most dear now : ℕ) (places : List Place) (turn : ℕ) (served : Bool) (server : S) (owed : List Entry) (place : ℕ) (before made : Place)
    → (door : Door) → h ≡ hall patience most dear now places turn served server owed → h.owed ≡ [] → place < length h.places
    → before ≡ get_or places place before → door ≡ before.door → is_free before ≡ true
    → made ≡ new_place before.door now → Adds old mid (Opened place door) → Resends mid new place (resent_at door (rules.outstanding server))
    → Leads rules old new h (hall patience most dear now (slice_set places place made) turn served server owed)
opens_at rules old mid new h patience most dear now places turn served server owed place before made door is none lt read through free same adds resends =
    subst (λ k. Leads rules old new k (hall patience most dear now (slice_set places place made) turn served server owed)) (sym is)
    (leads_opened rules old mid new _ _ place door adds
    (record {
      before = before;
      free = record {
        nothing_owed = subst (λ k. k.owed ≡ []) is none;
        there = read_at places place before (subst (λ k. place < length k.places) is lt) read;
        of = sym through;
        free = free;
      };
      is = ap (λ p. hall patience most dear now (slice_set places place p) turn served server owed)
          (same ∙ ap (λ d. new_place d now) (sym through));
    })
    resends)

pub asks_at : {S : Type 0} (rules : Rules S) (old new : Option (List Event)) (h : Hall S)
    → (patience : Patience) (most dear now : ℕ) (places : List Place) (turn : ℕ) (served : Bool) (server : S) (owed : List Entry) (place : ℕ) (before made : Place)
    → (door : Door) → h ≡ hall patience most dear now places turn served server owed → h.owed ≡ [] → place < length h.places
    → before ≡ get_or places place before → door ≡ before.door → is_free before ≡ true
    → made ≡ asked before → Adds old new (Asked place door)
    → Leads rules old new h (hall patience most dear now (slice_set places place made) turn served server owed)
asks_at rules old new h patience most dear now places turn served server owed place before made door is none lt read through free same adds =
    puts_at rules old new (Asked place door) h patience most dear now places turn served server owed place _ made is adds same refl
    (record {
      before = before;
      free = record {
        nothing_owed = subst (λ k. k.owed ≡ []) is none;
        there = read_at places place before (subst (λ k. place < length k.places) is lt) read;
        of = sym through;
        free = free;
      };
      is = refl;
    })

pub comes_at : {S : Type 0} (rules : Rules S) (old new : Option (List Event)) (h : Hall S)
    → (patience : Patience) (most dear now : ℕ) (places : List Place) (turn : ℕ) (served : Bool) (server : S) (owed : List Entry) (place : ℕ) (before made : Place)
    → (bytes : List ℕ) → h ≡ hall patience most dear now places turn served server owed → h.owed ≡ [] → place < length h.places
    → before ≡ get_or places place before → before.live ≡ true
    → made ≡ with_bytes bytes before → Adds old new (Came place bytes)
    → Leads rules old new h (hall patience most dear now (slice_set places place made) turn served server owed)
comes_at rules old new h patience most dear now places turn served server owed place before made bytes is none lt read live same adds =
    puts_at rules old new (Came place bytes) h patience most dear now places turn served server owed place _ made is adds same refl
    (record {
      before = before;
      at = record {
        nothing_owed = subst (λ k. k.owed ≡ []) is none;
        there = read_at places place before (subst (λ k. place < length k.places) is lt) read;
        live = live;
      };
      is = refl;
    })

pub ends_at : {S : Type 0} (rules : Rules S) (old new : Option (List Event)) (h : Hall S)
    → (patience : Patience) (most dear now : ℕ) (places : List Place) (turn : ℕ) (served : Bool) (server : S) (owed : List Entry) (place : ℕ) (before made : Place)
    → h ≡ hall patience most dear now places turn served server owed → h.owed ≡ [] → place < length h.places
    → before ≡ get_or places place before → before.live ≡ true
    → made ≡ at_end before → Adds old new (Ended place)
    → Leads rules old new h (hall patience most dear now (slice_set places place made) turn served server owed)
ends_at rules old new h patience most dear now places turn served server owed place before made is none lt read live same adds =
    puts_at rules old new (Ended place) h patience most dear now places turn served server owed place _ made is adds same refl
    (record {
      before = before;
      at = record {
        nothing_owed = subst (λ k. k.owed ≡ []) is none;
        there = read_at places place before (subst (λ k. place < length k.places) is lt) read;
        live = live;
      };
      is = refl;
    })

pub blocks_at : {S : Type 0} (rules : Rules S) (old new : Option (List Event)) (h : Hall S)
    → (patience : Patience) (most dear now : ℕ) (places : List Place) (turn : ℕ) (served : Bool) (server : S) (owed : List Entry) (place : ℕ) (before made : Place)
    → h ≡ hall patience most dear now places turn served server owed → h.owed ≡ [] → place < length h.places
    → before ≡ get_or places place before → before.live ≡ true
    → is_dialled before.door ≡ false → made ≡ blocked before → Adds old new (Blocked place)
    → Leads rules old new h (hall patience most dear now (slice_set places place made) turn served server owed)
blocks_at rules old new h patience most dear now places turn served server owed place before made is none lt read live door same adds =
    puts_at rules old new (Blocked place) h patience most dear now places turn served server owed place _ made is adds same refl
    (record {
      before = before;
      at = record {
        nothing_owed = subst (λ k. k.owed ≡ []) is none;
        there = read_at places place before (subst (λ k. place < length k.places) is lt) read;
        live = live;
      };
      door = door;
      is = refl;
    })

no_live : true ≡ false → ⊥
no_live e = grind arith

-- what was put at a place stands there
pub put_there : (places : List Place) (place : ℕ) (made p : Place) → place < length places
    → slice_get (slice_set places place made) place ≡ Some p → p ≡ made
put_there places place made p lt got =
    sym (get_or_from_slice_get (slice_set places place made) place p p got) ∙ get_or-set_same places place made p lt

-- where it isn't live, or is so of what was put there, it is so of the place
pub put_is : (P : Place → Type 0) (places : List Place) (place : ℕ) (made : Place) → place < length places
    → P made → IsSomeAt (slice_set places place made) place P
put_is P places place made lt holds = λ p got. subst P (sym (put_there places place made p lt got)) holds

-- what was read of a place stands there
pub read_is : (P : Place → Type 0) (places : List Place) (place : ℕ) (before : Place)
    → before ≡ get_or places place before → P before → IsSomeAt places place P
read_is P places place before read holds =
    λ p got. subst P (read ∙ get_or_from_slice_get places place p before got) holds

pub dead_in_time : (whole : Door → List ℕ → Option ℕ) (patience : Patience) (now : ℕ) (p : Place) → p.live ≡ false → IsInTime whole patience now p
dead_in_time whole patience now p dead = λ live. absurd (no_live (sym live ∙ dead))

-- where none is and the door was asked all was looked at
pub dead_looked : (p : Place) → p.live ≡ false → IsAsked p → IsLooked p
dead_looked p dead asks = (λ live. absurd (no_live (sym live ∙ dead)), asks)

pub closed_looked : (p made : Place) → made ≡ empty_place p.door → IsLooked made
closed_looked p made is = subst IsLooked (sym is) (λ live. absurd (no_live (sym live)), λ free. refl)

pub new_asked : (door : Door) (now : ℕ) (made : Place) → made ≡ new_place door now → IsAsked made
new_asked door now made is = λ free. ap (λ p. p.asked) is

pub made_asked : (p made : Place) → made ≡ asked p → IsAsked made
made_asked p made is = λ free. ap (λ p. p.asked) is

pub busy_asked : (p : Place) → is_free p ≡ false → IsAsked p
busy_asked p busy = λ free. absurd (no_live (sym free ∙ busy))

pub dead_no_frame : (whole : Door → List ℕ → Option ℕ) (p : Place) → p.live ≡ false → HasNoFrame whole p
dead_no_frame whole p dead = on (is_peer p.door)
  where
    deaf : is_heard p ≡ false
    deaf = ap (λ live. live && (not p.finished && ((is_dialled p.door || not p.pending) && is_none p.waits))) dead

    on : (b : Bool) → frames_by b whole p ≡ []
    on true = ap (λ k. frames_if k (frames_of (whole p.door) (length p.held) p.held)) deaf
    on false = ap (λ k. one_if (frame_if k (front_of p.held (whole p.door p.held)))) deaf

pub drops_at : {S : Type 0} (rules : Rules S) (old new : Option (List Event)) (h : Hall S)
    → (patience : Patience) (most dear now : ℕ) (places : List Place) (turn : ℕ) (served : Bool) (server : S) (owed : List Entry) (place : ℕ) (before made : Place)
    → (door : Door) (gone : Place) → h ≡ hall patience most dear now places turn served server owed → h.owed ≡ [] → IsOldestAt door places place
    → is_peer door ≡ false → before ≡ get_or places place before → before.asked ≡ false → frame_at rules.whole before ≡ None
    → gone ≡ get_or places place gone → made ≡ vacated gone → Adds old new (Dropped place)
    → Leads rules old new h (hall patience most dear now (slice_set places place made) turn served server owed)
drops_at rules old new h patience most dear now places turn served server owed place before made door gone is none oldest no_peer read stood no_frame read_gone same adds =
    let among = oldest.oldest in
    let there = read_at places place before among.there read in
    let through = among.of before there in
    puts_at rules old new (Dropped place) h patience most dear now places turn served server owed place (vacated before) made is adds
    (same ∙ ap vacated (read_gone ∙ get_or_from_slice_get places place before gone there)) refl
    (record {
      before = before;
      at = record {
        nothing_owed = subst (λ k. k.owed ≡ []) is none;
        there = there;
        live = subst (λ p. p.door ≡ door → p.live ≡ true) (sym read) (oldest.full place before among.there) through;
      };
      no_peer = subst (λ d. is_peer d ≡ false) (sym through) no_peer;
      full = subst (λ d. All (λ p. p.door ≡ d → p.live ≡ true) places) (sym through) oldest.full;
      oldest = subst (λ d. All (λ p. p.door ≡ d → before.since ≤ p.since) places) (sym through) (among.oldest before there);
      stood = stood;
      no_frame = no_frame;
      is = refl;
    })

pub no_frame_of : {A : Type 0} (r : Option A) (f : A → List ℕ) (o : Option (List ℕ)) → option_map f r ≡ o
    → false ≡ is_some r → o ≡ None
no_frame_of None f o is none = sym is
no_frame_of (Some x) f o is none = absurd (no_live (sym none))

-- a place that is closed has no frame
closed_no_frame : (whole : Door → List ℕ → Option ℕ) (places : List Place) (place : ℕ) (door : Door) (made : Place) → made ≡ empty_place door
    → All (HasNoFrame whole) places → All (HasNoFrame whole) (slice_set places place made)
closed_no_frame whole places place door made is all =
    All-set (HasNoFrame whole) places place made (dead_no_frame whole made (ap (λ p. p.live) is)) all

pub closed_served : {S : Type 0} (rules : Rules S) (h : Hall S)
    → (patience : Patience) (most dear now : ℕ) (places : List Place) (turn : ℕ) (served : Bool) (server : S) (owed : List Entry) (place : ℕ) (door : Door) (made : Place)
    → h ≡ hall patience most dear now places turn served server owed → made ≡ empty_place door
    → IsServed rules h → IsServed rules (hall patience most dear now (slice_set places place made) turn served server owed)
closed_served rules h patience most dear now places turn served server owed place door made is same was = after (subst (IsServed rules) is was)
  where
    after : IsServed rules (hall patience most dear now places turn served server owed)
        → IsServed rules (hall patience most dear now (slice_set places place made) turn served server owed)
    after (inl done) = inl done
    after (inr none) = inr (none.0, closed_no_frame rules.whole places place door made same none.1)

-- a look at a place
pub looks_at : {S : Type 0} (rules : Rules S) (old new : Option (List Event)) (h : Hall S)
    → (patience : Patience) (most dear now : ℕ) (places : List Place) (turn : ℕ) (served : Bool) (server : S) (owed : List Entry)
    → (place : ℕ) (before made : Place) (seen : Taken)
    → h ≡ hall patience most dear now places turn served server owed → h.owed ≡ [] → place < length h.places
    → before ≡ get_or places place before → before.live ≡ true → Looks old new place seen before made
    → Leads rules old new h (hall patience most dear now (slice_set places place made) turn served server owed)
looks_at rules old new h patience most dear now places turn served server owed place before made (Bytes n) is none lt read live looks =
    comes_at rules old new h patience most dear now places turn served server owed place before made looks.0 is none lt read live looks.2 looks.1
looks_at rules old new h patience most dear now places turn served server owed place before made Over is none lt read live looks =
    ends_at rules old new h patience most dear now places turn served server owed place before made is none lt read live looks.1 looks.0
looks_at rules old new h patience most dear now places turn served server owed place before made Pending is none lt read live looks =
    blocks_at rules old new h patience most dear now places turn served server owed place before made is none lt read live looks.0 looks.2 looks.1

-- a look leaves the door asked
look_asked : (p q : Place) → q.live ≡ p.live → q.door ≡ p.door → q.asked ≡ p.asked → IsAsked p → IsAsked q
look_asked p q live door same asks = λ free.
    same ∙ asks (sym (ap (λ b. not b || is_link q.door) live ∙ ap (λ d. not p.live || is_link d) door) ∙ free)

pub looked_at : (old new : Option (List Event)) (place : ℕ) (seen : Taken) (before made : Place)
    → Looks old new place seen before made → IsAsked before → IsLooked made
looked_at old new place (Bytes n) before made looks asks = (
  λ live. ap (λ p. p.due) looks.2,
  look_asked before made (ap (λ p. p.live) looks.2) (ap (λ p. p.door) looks.2) (ap (λ p. p.asked) looks.2) asks,
)
looked_at old new place Over before made looks asks = (
  λ live. ap (λ p. p.due) looks.1,
  look_asked before made (ap (λ p. p.live) looks.1) (ap (λ p. p.door) looks.1) (ap (λ p. p.asked) looks.1) asks,
)
looked_at old new place Pending before made looks asks = (
  λ live. ap (λ p. p.due) looks.2,
  look_asked before made (ap (λ p. p.live) looks.2) (ap (λ p. p.door) looks.2) (ap (λ p. p.asked) looks.2) asks,
)
