-- The frame that was logged first is taken.
use Rattle.std.proofs.Common.{◌≡◌, ◌<◌, ◌≤◌, ◌+◌, ℕ, List, [], ◌∷◌, drop, length, map, true, false, All, refl, sym, ap, ◌∙◌, subst, get_or, arith, inl, inr}
use Rattle.std.proofs.lemmas.List.Elements.{All-map, All-set}
use Rattle.std.proofs.Math.ListN.{drop_of_length-le}
use Rattle.std.specs.Prelude.{Bool, Option, Some, None, slice_get, slice_set}
use Rattle.many_words.specs.declared.door.Door.{Door}
use Rattle.many_words.specs.Events.{Event, Entry, Adds, Sent, Unanswered}
use Rattle.many_conns.specs.declared.said.Key.{Key}
use Rattle.many_conns.specs.declared.patience.Patience.{Patience}
use Rattle.many_conns.specs.Rules.{Rules, Outcome, Answers, Lasts, Waits, Commands, Replies, Nothing, after_noted}
use Rattle.many_conns.specs.Places.{Place, waits_for, waiting_for, released, released_if, replied, finished}
use Rattle.many_conns.specs.Batches.{put_some}
use Rattle.many_conns.specs.Routes.{Sending, sending, places_after, waiter, waiting_at, key_at, place_if, changed_at, Delivers}
use Rattle.many_conns.specs.Hall.{Hall, Leads, IsLooked, IsServed, outcome_for}
use Rattle.many_conns.proofs.LeadLaws.{leads_one}
use Rattle.many_conns.proofs.PlaceLaws.{hall}
use Rattle.many_conns.proofs.CommitLaws.{looked_there}
use Rattle.many_conns.proofs.ListLaws.{drop-next}

-- what becomes of it is sent
pub sends_first : {S : Type 0} (rules : Rules S) (old new : Option (List Event)) (h : Hall S)
    → (patience : Patience) (most dear now : ℕ) (places : List Place) (turn : ℕ) (served : Bool) (server : S) (owed rest : List Entry)
    → (first : Entry) (made : List Place) (after : S) (place : ℕ) (bytes : List ℕ)
    → h ≡ hall patience most dear now places turn served server owed → owed ≡ first ∷ rest
    → sending first.door first.place (outcome_for rules server first) places ≡ Some (record { place = place; bytes = bytes })
    → made ≡ places_after now first.door first.place (outcome_for rules server first) places → after ≡ after_noted rules server first.noted
    → Adds old new (Sent place bytes)
    → Leads rules old new h (hall patience most dear now made turn served after rest)
sends_first rules old new h patience most dear now places turn served server owed rest first made after place bytes is queue said done next adds =
    subst (λ k. Leads rules old new k (hall patience most dear now made turn served after rest)) (sym is)
    (leads_one rules old new _ _ (Sent place bytes) adds refl
    (record {
      first = first;
      rest = rest;
      owed = queue;
      said = said;
      is = ap (λ k. hall patience most dear now k turn served after rest) done
          ∙ ap (λ s. hall patience most dear now (places_after now first.door first.place (outcome_for rules server first) places) turn served s rest) next;
    }))

-- nothing is sent for it
pub leaves_first : {S : Type 0} (rules : Rules S) (old new : Option (List Event)) (h : Hall S)
    → (patience : Patience) (most dear now : ℕ) (places : List Place) (turn : ℕ) (served : Bool) (server : S) (owed rest : List Entry)
    → (first : Entry) (made : List Place) (after : S) (place : ℕ)
    → h ≡ hall patience most dear now places turn served server owed → owed ≡ first ∷ rest
    → sending first.door first.place (outcome_for rules server first) places ≡ None → first.place ≡ place
    → made ≡ places_after now first.door first.place (outcome_for rules server first) places → after ≡ after_noted rules server first.noted
    → Adds old new (Unanswered place)
    → Leads rules old new h (hall patience most dear now made turn served after rest)
leaves_first rules old new h patience most dear now places turn served server owed rest first made after place is queue said from done next adds =
    subst (λ k. Leads rules old new k (hall patience most dear now made turn served after rest)) (sym is)
    (leads_one rules old new _ _ (Unanswered place) adds refl
    (record {
      first = first;
      rest = rest;
      owed = queue;
      from = from;
      said = said;
      is = ap (λ k. hall patience most dear now k turn served after rest) done
          ∙ ap (λ s. hall patience most dear now (places_after now first.door first.place (outcome_for rules server first) places) turn served s rest) next;
    }))

same_sending : (d e : Door) (p q : ℕ) (o u : Outcome) (places : List Place) → d ≡ e → p ≡ q → o ≡ u
    → sending d p o places ≡ sending e q u places
same_sending d e p q o u places a b c =
    ap (λ k. sending k p o places) a ∙ (ap (λ k. sending e k o places) b ∙ ap (λ k. sending e q k places) c)

same_after : (now : ℕ) (d e : Door) (p q : ℕ) (o u : Outcome) (places : List Place) → d ≡ e → p ≡ q → o ≡ u
    → places_after now d p o places ≡ places_after now e q u places
same_after now d e p q o u places a b c =
    ap (λ k. places_after now k p o places) a ∙ (ap (λ k. places_after now e k o places) b ∙ ap (λ k. places_after now e q k places) c)

pub handles_first : {S : Type 0} (rules : Rules S) (old new : Option (List Event)) (h : Hall S)
    → (patience : Patience) (most dear now : ℕ) (places : List Place) (turn : ℕ) (served : Bool) (server : S) (owed rest : List Entry)
    → (first : Entry) (made : List Place) (after : S) (door : Door) (place : ℕ) (outcome : Outcome) (sent : Option Sending)
    → h ≡ hall patience most dear now places turn served server owed → owed ≡ first ∷ rest
    → door ≡ first.door → place ≡ first.place → outcome ≡ outcome_for rules server first
    → sent ≡ sending door place outcome places → made ≡ places_after now door place outcome places
    → after ≡ after_noted rules server first.noted → Delivers old new place sent
    → Leads rules old new h (hall patience most dear now made turn served after rest)
handles_first rules old new h patience most dear now places turn served server owed rest first made after door place outcome None is queue through from what said done next told =
    leaves_first rules old new h patience most dear now places turn served server owed rest first made after place is queue
    (sym (said ∙ same_sending _ _ _ _ _ _ places through from what)) (sym from)
    (done ∙ same_after now _ _ _ _ _ _ places through from what) next told
handles_first rules old new h patience most dear now places turn served server owed rest first made after door place outcome (Some sent) is queue through from what said done next told =
    sends_first rules old new h patience most dear now places turn served server owed rest first made after sent.place sent.bytes is queue
    (sym (said ∙ same_sending _ _ _ _ _ _ places through from what))
    (done ∙ same_after now _ _ _ _ _ _ places through from what) next told

-- what is said of an entry is said of its parts
pub says_of : {S : Type 0} (rules : Rules S) (s : S) (outcome : Outcome) (e : Entry) (door : Door) (frame : List ℕ) (noted : Option (List ℕ))
    → outcome ≡ rules.says s door frame noted → door ≡ e.door → frame ≡ e.frame → noted ≡ e.noted → outcome ≡ outcome_for rules s e
says_of rules s outcome e door frame noted is a b c =
    is ∙ (ap (λ d. rules.says s d frame noted) a ∙ (ap (λ f. rules.says s e.door f noted) b ∙ ap (λ n. rules.says s e.door e.frame n) c))

-- ---- each connection stays looked at

put_looked : (f : Place → Place) → ((p : Place) → IsLooked p → IsLooked (f p)) → (places : List Place) (place : ℕ) (o : Option Place)
    → slice_get places place ≡ o → All IsLooked places → All IsLooked (put_some places place f o)
put_looked f keeps places place None is all = all
put_looked f keeps places place (Some p) is all = All-set IsLooked places place (f p) (keeps p (looked_there places place p is all)) all

changed_looked : (f : Place → Place) → ((p : Place) → IsLooked p → IsLooked (f p)) → (place : Option ℕ) (places : List Place)
    → All IsLooked places → All IsLooked (changed_at f place places)
changed_looked f keeps None places all = all
changed_looked f keeps (Some place) places all = put_looked f keeps places place (slice_get places place) refl all

released_looked : (b : Bool) (p : Place) → IsLooked p → IsLooked (released_if b p)
released_looked true p is = is
released_looked false p is = is

waiting_looked : (key : Option Key) (place : ℕ) (places : List Place) → All IsLooked places → All IsLooked (waiting_at key place places)
waiting_looked None place places all = all
waiting_looked (Some key) place places all =
    changed_looked (waiting_for key) (λ p is. is) (Some place) (map (released key) places)
    (All-map IsLooked (released key) places (λ k d lt. released_looked (waits_for key (get_or places k d)) (get_or places k d) (all k d lt)))

pub handled_looked : (now : ℕ) (door : Door) (place : ℕ) (outcome : Outcome) (places : List Place) → All IsLooked places
    → All IsLooked (places_after now door place outcome places)
handled_looked now door place (Answers bytes) places all = all
handled_looked now door place (Lasts bytes) places all = changed_looked finished (λ p is. is) (Some place) places all
handled_looked now door place (Waits key) places all = waiting_looked (key_at door (Some key)) place places all
handled_looked now door place (Commands key bytes) places all = waiting_looked (key_at door key) place places all
handled_looked now door place (Replies key bytes) places all =
    changed_looked (replied now) (λ p is. is) (waiter key 0 places) places all
handled_looked now door place Nothing places all = all

-- ---- who waits

pub waiter-next : (key : Key) (places : List Place) (i : ℕ) (p : Place) (b : Bool) → i < length places → p ≡ get_or places i p
    → b ≡ waits_for key p → waiter key i (drop i places) ≡ place_if b i (waiter key (i + 1) (drop (i + 1) places))
waiter-next key places i p b lt read is =
    ap (waiter key i) (drop-next places i p lt read)
    ∙ ap (λ k. place_if k i (waiter key (i + 1) (drop (i + 1) places))) (sym is)

pub waiter-none : (key : Key) (places : List Place) (i : ℕ) → length places ≤ i → waiter key i (drop i places) ≡ None
waiter-none key places i past = ap (waiter key i) (drop_of_length-le places past)

-- where a frame was owed a batch was taken
pub kept_served : {S : Type 0} (rules : Rules S) (old new : Hall S) → new.served ≡ old.served → length new.owed < length old.owed
    → IsServed rules old → IsServed rules new
kept_served rules old new same fewer (inl served) = inl (same ∙ served)
kept_served rules old new same fewer (inr none) = absurd (omega (arith, ap length none.0))
