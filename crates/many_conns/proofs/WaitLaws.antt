-- Between two waits each connection is looked at.
use Rattle.std.proofs.Common.{◌≡◌, ℕ, zero, suc, ◌⊎◌, Bool, true, false, List, [], ◌∷◌, length, map, refl, sym, ap, ◌∙◌, subst, slice_set, get_or, inl, inr}
use Rattle.std.proofs.lemmas.Option.{get_or_from_slice_get, slice_get_cases}
use Rattle.std.specs.Prelude.{Option, Some, None, slice_get, ◌<◌, ◌≤◌}
use Rattle.many_words.specs.declared.door.Door.{Door}
use Rattle.many_words.specs.Events.{Event, Entry, Waited, Opened, Asked, Came, Ended, Blocked, Closed, Dropped, Logged, LogFailed, Unanswered, Sent, SentAgain}
use Rattle.many_conns.specs.declared.said.Key.{Key}
use Rattle.many_conns.specs.Rules.{Rules, Outcome, Answers, Lasts, Waits, Commands, Replies, Nothing}
use Rattle.many_conns.specs.Places.{Place, new_place, with_bytes, at_end, blocked, empty_place, vacated, waited, taken, finished, waiting_for, waits_for, released, released_if, replied}
use Rattle.many_conns.specs.Routes.{waiter, waiting_at, key_at, places_after, changed_at}
use Rattle.many_conns.specs.Batches.{put_some, all_taken}
use Rattle.many_conns.specs.Hall.{Hall, State, Runs, batch, outcome_for}
use Rattle.many_conns.specs.Hall.{Waits as HallWaits}
use Rattle.many_conns.specs.Waiting.{IsLook, Some_of, NoWait, AllLooked}

-- a connection stands there, and was looked at
abbrev At : List Place → ℕ → Type 0
At places k = (p : Place) × (slice_get places k ≡ Some p) × (p.live ≡ true) × (p.due ≡ false)

-- where a changed place was looked at it was so before
abbrev KeepsLook : (Place → Place) → Type 0
KeepsLook f = (p : Place) → ((f p).live ≡ true → p.live ≡ true) × ((f p).due ≡ false → p.due ≡ false)

same_some : (p q : Place) → Some p ≡ Some q → p ≡ q
same_some p q is = cc

none_some : (p : Place) → None ≡ Some p → ⊥
none_some p is = cc

no_true : true ≡ false → ⊥
no_true is = cc

get_set : (xs : List Place) (i k : ℕ) (y p : Place) → slice_get (slice_set xs i y) k ≡ Some p
    → ((i ≡ k) × (y ≡ p)) ⊎ (slice_get xs k ≡ Some p)
get_set [] i k y p got = inr got
get_set (x ∷ xs) zero zero y p got = inl (refl, same_some y p got)
get_set (x ∷ xs) zero (suc k) y p got = inr got
get_set (x ∷ xs) (suc i) zero y p got = inr got
get_set (x ∷ xs) (suc i) (suc k) y p got = next (get_set xs i k y p got)
  where
    next : ((i ≡ k) × (y ≡ p)) ⊎ (slice_get xs k ≡ Some p) → ((suc i ≡ suc k) × (y ≡ p)) ⊎ (slice_get xs k ≡ Some p)
    next (inl same) = inl (ap suc same.0, same.1)
    next (inr other) = inr other

get_map : (f : Place → Place) (xs : List Place) (k : ℕ) (p : Place) → slice_get (map f xs) k ≡ Some p
    → (q : Place) × (slice_get xs k ≡ Some q) × (f q ≡ p)
get_map f [] k p got = absurd (none_some p got)
get_map f (x ∷ xs) zero p got = (x, refl, same_some (f x) p got)
get_map f (x ∷ xs) (suc k) p got = get_map f xs k p got

-- what was put at a place was looked at, or what stood there before was
set_at : (places : List Place) (i k : ℕ) (made : Place) → At (slice_set places i made) k
    → ((i ≡ k) × (made.live ≡ true) × (made.due ≡ false)) ⊎ At places k
set_at places i k made at = by (get_set places i k made at.0 at.1)
  where
    by : ((i ≡ k) × (made ≡ at.0)) ⊎ (slice_get places k ≡ Some at.0) → ((i ≡ k) × (made.live ≡ true) × (made.due ≡ false)) ⊎ At places k
    by (inl here) = inl (here.0, ap (λ p. p.live) here.1 ∙ at.2, ap (λ p. p.due) here.1 ∙ at.3)
    by (inr there) = inr (at.0, there, at.2, at.3)

set_kept : (f : Place → Place) → KeepsLook f → (places : List Place) (i k : ℕ) (before : Place) → slice_get places i ≡ Some before
    → At (slice_set places i (f before)) k → At places k
set_kept f keeps places i k before there at = by (set_at places i k (f before) at)
  where
    by : ((i ≡ k) × ((f before).live ≡ true) × ((f before).due ≡ false)) ⊎ At places k → At places k
    by (inl here) = (before, subst (λ n. slice_get places n ≡ Some before) here.0 there, (keeps before).0 here.1, (keeps before).1 here.2)
    by (inr other) = other

put_kept : (f : Place → Place) → KeepsLook f → (places : List Place) (i k : ℕ) (o : Option Place) → slice_get places i ≡ o
    → At (put_some places i f o) k → At places k
put_kept f keeps places i k None there at = at
put_kept f keeps places i k (Some p) there at = set_kept f keeps places i k p there at

changed_kept : (f : Place → Place) → KeepsLook f → (o : Option ℕ) (places : List Place) (k : ℕ) → At (changed_at f o places) k → At places k
changed_kept f keeps None places k at = at
changed_kept f keeps (Some i) places k at = put_kept f keeps places i k (slice_get places i) refl at

map_kept : (f : Place → Place) → KeepsLook f → (places : List Place) (k : ℕ) → At (map f places) k → At places k
map_kept f keeps places k at =
    let was = get_map f places k at.0 at.1 in
    (was.0, was.1, (keeps was.0).0 (ap (λ p. p.live) was.2 ∙ at.2), (keeps was.0).1 (ap (λ p. p.due) was.2 ∙ at.3))

same : (f : Place → Place) → ((p : Place) → (f p).live ≡ p.live) → ((p : Place) → (f p).due ≡ p.due) → KeepsLook f
same f live due p = (λ is. sym (live p) ∙ is, λ is. sym (due p) ∙ is)

taken_kept : (now : ℕ) (entries : List Entry) (places : List Place) (k : ℕ) → At (all_taken now entries places) k → At places k
taken_kept now [] places k at = at
taken_kept now (e ∷ entries) places k at =
    put_kept (taken now (length e.frame)) (same (taken now (length e.frame)) (λ p. refl) (λ p. refl)) places e.place k (slice_get places e.place) refl
    (taken_kept now entries _ k at)

released_same : (b : Bool) (p : Place) → ((released_if b p).live ≡ p.live) × ((released_if b p).due ≡ p.due)
released_same true p = (refl, refl)
released_same false p = (refl, refl)

waiting_kept : (key : Option Key) (place : ℕ) (places : List Place) (k : ℕ) → At (waiting_at key place places) k → At places k
waiting_kept None place places k at = at
waiting_kept (Some key) place places k at =
    map_kept (released key) (same (released key) (λ p. (released_same (waits_for key p) p).0) (λ p. (released_same (waits_for key p) p).1)) places k
    (changed_kept (waiting_for key) (same (waiting_for key) (λ p. refl) (λ p. refl)) (Some place) (map (released key) places) k at)

after_kept : (now : ℕ) (door : Door) (place : ℕ) (outcome : Outcome) (places : List Place) (k : ℕ)
    → At (places_after now door place outcome places) k → At places k
after_kept now door place (Answers bytes) places k at = at
after_kept now door place (Lasts bytes) places k at = changed_kept finished (same finished (λ p. refl) (λ p. refl)) (Some place) places k at
after_kept now door place (Waits key) places k at = waiting_kept (key_at door (Some key)) place places k at
after_kept now door place (Commands key bytes) places k at = waiting_kept (key_at door key) place places k at
after_kept now door place (Replies key bytes) places k at = changed_kept (replied now) (same (replied now) (λ p. refl) (λ p. refl)) (waiter key 0 places) places k at
after_kept now door place Nothing places k at = at

-- a connection that was looked at behind these events was so by one of them, or before
looked_back : {S : Type 0} (rules : Rules S) (h : State S) (events : List Event) (t : State S) (k : ℕ) → Runs rules h events t → NoWait events
    → At t.hall.places k → Some_of (IsLook k) events ⊎ At h.hall.places k
looked_back rules h [] t k run none at = inr (subst (λ s. At s.hall.places k) run at)
looked_back rules h (Waited now ∷ events) t k run none at = absurd none
looked_back {S} rules h (Opened place door ∷ events) t k run none at = by (looked_back rules run.0 events t k run.2 none at)
  where
    or : (made : Place) → ((place ≡ k) × (made.live ≡ true) × (made.due ≡ false)) ⊎ At h.hall.places k → ((made.live ≡ true) → (made.due ≡ false) → ⊥)
        → Some_of (IsLook k) (Opened place door ∷ events) ⊎ At h.hall.places k
    or made (inl here) not_so = absurd (not_so here.1 here.2)
    or made (inr there) not_so = inr there

    by : Some_of (IsLook k) events ⊎ At run.0.hall.places k → Some_of (IsLook k) (Opened place door ∷ events) ⊎ At h.hall.places k
    by (inl later) = inl (inr later)
    by (inr now_at) = or (new_place door h.hall.now) (set_at h.hall.places place k (new_place door h.hall.now) (subst (λ s. At s k) (ap (λ s. s.places) run.1.acts.is) now_at)) (λ live seen. no_true seen)
looked_back {S} rules h (Asked place door ∷ events) t k run none at = by (looked_back rules run.0 events t k run.2 none at)
  where
    by : Some_of (IsLook k) events ⊎ At run.0.hall.places k → Some_of (IsLook k) (Asked place door ∷ events) ⊎ At h.hall.places k
    by (inl later) = inl (inr later)
    by (inr now_at) = inr (set_kept (λ p. record p { asked = true }) (same (λ p. record p { asked = true }) (λ p. refl) (λ p. refl)) h.hall.places place k run.1.acts.before run.1.acts.free.there (subst (λ s. At s k) (ap (λ s. s.places) run.1.acts.is) now_at))
looked_back {S} rules h (Came place bytes ∷ events) t k run none at = by (looked_back rules run.0 events t k run.2 none at)
  where
    or : (made : Place) → ((place ≡ k) × (made.live ≡ true) × (made.due ≡ false)) ⊎ At h.hall.places k → Some_of (IsLook k) (Came place bytes ∷ events) ⊎ At h.hall.places k
    or made (inl here) = inl (inl here.0)
    or made (inr there) = inr there

    by : Some_of (IsLook k) events ⊎ At run.0.hall.places k → Some_of (IsLook k) (Came place bytes ∷ events) ⊎ At h.hall.places k
    by (inl later) = inl (inr later)
    by (inr now_at) = or (with_bytes bytes run.1.acts.before) (set_at h.hall.places place k (with_bytes bytes run.1.acts.before) (subst (λ s. At s k) (ap (λ s. s.places) run.1.acts.is) now_at))
looked_back {S} rules h (Ended place ∷ events) t k run none at = by (looked_back rules run.0 events t k run.2 none at)
  where
    or : (made : Place) → ((place ≡ k) × (made.live ≡ true) × (made.due ≡ false)) ⊎ At h.hall.places k → Some_of (IsLook k) (Ended place ∷ events) ⊎ At h.hall.places k
    or made (inl here) = inl (inl here.0)
    or made (inr there) = inr there

    by : Some_of (IsLook k) events ⊎ At run.0.hall.places k → Some_of (IsLook k) (Ended place ∷ events) ⊎ At h.hall.places k
    by (inl later) = inl (inr later)
    by (inr now_at) = or (at_end run.1.acts.before) (set_at h.hall.places place k (at_end run.1.acts.before) (subst (λ s. At s k) (ap (λ s. s.places) run.1.acts.is) now_at))
looked_back {S} rules h (Blocked place ∷ events) t k run none at = by (looked_back rules run.0 events t k run.2 none at)
  where
    or : (made : Place) → ((place ≡ k) × (made.live ≡ true) × (made.due ≡ false)) ⊎ At h.hall.places k → Some_of (IsLook k) (Blocked place ∷ events) ⊎ At h.hall.places k
    or made (inl here) = inl (inl here.0)
    or made (inr there) = inr there

    by : Some_of (IsLook k) events ⊎ At run.0.hall.places k → Some_of (IsLook k) (Blocked place ∷ events) ⊎ At h.hall.places k
    by (inl later) = inl (inr later)
    by (inr now_at) = or (blocked run.1.acts.before) (set_at h.hall.places place k (blocked run.1.acts.before) (subst (λ s. At s k) (ap (λ s. s.places) run.1.acts.is) now_at))
looked_back {S} rules h (Closed place ∷ events) t k run none at = by (looked_back rules run.0 events t k run.2 none at)
  where
    or : (made : Place) → ((place ≡ k) × (made.live ≡ true) × (made.due ≡ false)) ⊎ At h.hall.places k → ((made.live ≡ true) → (made.due ≡ false) → ⊥)
        → Some_of (IsLook k) (Closed place ∷ events) ⊎ At h.hall.places k
    or made (inl here) not_so = absurd (not_so here.1 here.2)
    or made (inr there) not_so = inr there

    by : Some_of (IsLook k) events ⊎ At run.0.hall.places k → Some_of (IsLook k) (Closed place ∷ events) ⊎ At h.hall.places k
    by (inl later) = inl (inr later)
    by (inr now_at) = or (empty_place run.1.acts.before.door) (set_at h.hall.places place k (empty_place run.1.acts.before.door) (subst (λ s. At s k) (ap (λ s. s.places) run.1.acts.is) now_at)) (λ live seen. no_true (sym live))
looked_back {S} rules h (Dropped place ∷ events) t k run none at = by (looked_back rules run.0 events t k run.2 none at)
  where
    or : (made : Place) → ((place ≡ k) × (made.live ≡ true) × (made.due ≡ false)) ⊎ At h.hall.places k → ((made.live ≡ true) → (made.due ≡ false) → ⊥)
        → Some_of (IsLook k) (Dropped place ∷ events) ⊎ At h.hall.places k
    or made (inl here) not_so = absurd (not_so here.1 here.2)
    or made (inr there) not_so = inr there

    by : Some_of (IsLook k) events ⊎ At run.0.hall.places k → Some_of (IsLook k) (Dropped place ∷ events) ⊎ At h.hall.places k
    by (inl later) = inl (inr later)
    by (inr now_at) = or (vacated run.1.acts.before) (set_at h.hall.places place k (vacated run.1.acts.before) (subst (λ s. At s k) (ap (λ s. s.places) run.1.acts.is) now_at)) (λ live seen. no_true (sym live))
looked_back {S} rules h (Logged entries ∷ events) t k run none at = by (looked_back rules run.0 events t k run.2 none at)
  where
    by : Some_of (IsLook k) events ⊎ At run.0.hall.places k → Some_of (IsLook k) (Logged entries ∷ events) ⊎ At h.hall.places k
    by (inl later) = inl (inr later)
    by (inr now_at) = inr (taken_kept h.hall.now (batch rules h.hall) h.hall.places k (subst (λ s. At s k) (ap (λ s. s.places) run.1.acts.is) now_at))
looked_back {S} rules h (LogFailed ∷ events) t k run none at = by (looked_back rules run.0 events t k run.2 none at)
  where
    by : Some_of (IsLook k) events ⊎ At run.0.hall.places k → Some_of (IsLook k) (LogFailed ∷ events) ⊎ At h.hall.places k
    by (inl later) = inl (inr later)
    by (inr now_at) = inr (subst (λ s. At s k) (ap (λ s. s.places) run.1.acts.is) now_at)
looked_back {S} rules h (Unanswered place ∷ events) t k run none at = by (looked_back rules run.0 events t k run.2 none at)
  where
    by : Some_of (IsLook k) events ⊎ At run.0.hall.places k → Some_of (IsLook k) (Unanswered place ∷ events) ⊎ At h.hall.places k
    by (inl later) = inl (inr later)
    by (inr now_at) = inr (after_kept h.hall.now run.1.acts.first.door run.1.acts.first.place (outcome_for rules h.hall.server run.1.acts.first) h.hall.places k (subst (λ s. At s k) (ap (λ s. s.places) run.1.acts.is) now_at))
looked_back {S} rules h (Sent place bytes ∷ events) t k run none at = by (looked_back rules run.0 events t k run.2 none at)
  where
    by : Some_of (IsLook k) events ⊎ At run.0.hall.places k → Some_of (IsLook k) (Sent place bytes ∷ events) ⊎ At h.hall.places k
    by (inl later) = inl (inr later)
    by (inr now_at) = inr (after_kept h.hall.now run.1.acts.first.door run.1.acts.first.place (outcome_for rules h.hall.server run.1.acts.first) h.hall.places k (subst (λ s. At s k) (ap (λ s. s.places) run.1.acts.is) now_at))
looked_back {S} rules h (SentAgain place bytes ∷ events) t k run none at = by (looked_back rules run.0 events t k run.2 none at)
  where
    by : Some_of (IsLook k) events ⊎ At run.0.hall.places k → Some_of (IsLook k) (SentAgain place bytes ∷ events) ⊎ At h.hall.places k
    by (inl later) = inl (inr later)
    by (inr now_at) = inr (subst (λ s. At s.hall.places k) run.1.is now_at)

-- behind a wait no connection was looked at yet
none_yet : (places : List Place) (k : ℕ) → At (map waited places) k → ⊥
none_yet places k at =
    let was = get_map waited places k at.0 at.1 in
    no_true (ap (λ p. p.due) was.2 ∙ at.3)

looked_there : (places : List Place) (place : ℕ) (p : Place) → slice_get places place ≡ Some p
    → ((k : ℕ) (d : Place) → k < length places → (get_or places k d).live ≡ true → (get_or places k d).due ≡ false) → p.live ≡ true → p.due ≡ false
looked_there places place p got all live = there (slice_get_cases places place).1
  where
    there : ((x : Place) × (place < length places) × (slice_get places place ≡ Some x) × (get_or places place x ≡ x)) ⊎ ((length places ≤ place) × (slice_get places place ≡ None)) → p.due ≡ false
    there (inl found) =
        let is = get_or_from_slice_get places place p p got in
        sym (ap (λ q. q.due) is) ∙ all place p found.1 (ap (λ q. q.live) is ∙ live)
    there (inr none) = absurd (none_some p (sym none.1 ∙ got))

pub nobody_waits : {S : Type 0} (rules : Rules S) (h m : State S) (now later : ℕ) (between : List Event) (t : Hall S)
    → Runs rules h (Waited now ∷ between) m → NoWait between → HallWaits rules m.hall later t → AllLooked between m.hall.places
nobody_waits rules h m now later between t run none waits place p got live =
    by (looked_back rules run.0 between m place run.2 none
    (p, got, live, looked_there m.hall.places place p got (λ k d lt is. (waits.settled.looked k d lt).0 is) live))
  where
    by : Some_of (IsLook place) between ⊎ At run.0.hall.places place → Some_of (IsLook place) between
    by (inl looked) = looked
    by (inr before) = absurd (none_yet h.hall.places place (subst (λ s. At s place) (ap (λ s. s.places) run.1.acts.is) before))
