-- Replies are those of a server that takes the frames of the log one at a time.
use Rattle.std.proofs.Common.{inl, inr, suc, ◌+◌, arith, ◌≡◌, ℕ, List, [], ◌∷◌, ◌++◌, append_assoc, append-nil, refl, sym, ap, ◌∙◌, subst}
use Rattle.many_words.specs.Events.{Event, Entry, cons_some, records_of, Waited, Opened, Asked, Came, Ended, Blocked, Closed, Dropped, Logged, LogFailed, Unanswered, Sent, SentAgain}
use Rattle.std.specs.Prelude.{◌⊎◌, Bool, true, false, Option, Some, None}
use Rattle.many_conns.specs.Rules.{Rules, Outcome, Answers, Lasts, Waits, Commands, Replies, Nothing, after_noted}
use Rattle.many_conns.specs.declared.said.Key.{Key}
use Rattle.many_words.specs.declared.door.Door.{Door}
use Rattle.many_conns.specs.Places.{Place, waits_for}
use Rattle.many_conns.specs.Hall.{Hall, State, Runs, Sends, IsSomeAt, outcome_for}
use Rattle.many_conns.specs.Orders.{AnswersInOrder, FollowsItsLog, IsOfItsLog, IsOnItsPlace, IsAnswer, AreFor, IsFor, logged_of, sent_of, server_after, restored}
use Rattle.many_conns.specs.Routes.{Sending, sending, sending_to, answered_at, dialled, place_when, waiter, place_if}

-- an event that owes and answers nothing
quiet : {S : Type 0} (rules : Rules S) (h m t : Hall S) (e : Event) (events : List Event)
    → m.owed ≡ h.owed → m.server ≡ h.server → logged_of (e ∷ events) ≡ logged_of events
    → sent_of (e ∷ events) ≡ sent_of events → AnswersInOrder rules m events t
    → AnswersInOrder rules h (e ∷ events) t
quiet rules h m t e events owed server logs sends rest =
    record {
      taken = rest.taken;
      log = ap (λ k. h.owed ++ k) logs ∙ (ap (λ k. k ++ logged_of events) (sym owed) ∙ rest.log);
      sent = subst (λ s. AreFor rules s rest.taken (sent_of (e ∷ events))) server
          (subst (λ k. AreFor rules m.server rest.taken k) (sym sends) rest.sent);
      server = rest.server ∙ ap (λ s. server_after rules s rest.taken) server;
    }

-- what is sent of what becomes of a frame is for its place
is_for : (door : Door) (place : ℕ) (outcome : Outcome) (places : List Place) (sent : Option Sending) → sending door place outcome places ≡ sent
    → IsFor door place outcome sent
is_for door place (Answers bytes) places sent is = sym is
is_for door place (Lasts bytes) places sent is = sym is
is_for door place (Waits key) places sent is = sym is
is_for door place (Commands key bytes) places sent is = (places, sym is)
is_for door place (Replies key bytes) places sent is = (places, sym is)
is_for door place Nothing places sent is = sym is

-- a frame is taken
takes : {S : Type 0} (rules : Rules S) (h m t : Hall S) (e : Event) (events : List Event) (first : Entry) (left : List Entry)
    → (sent : Option Sending) → h.owed ≡ first ∷ left → m.owed ≡ left → m.server ≡ after_noted rules h.server first.noted
    → logged_of (e ∷ events) ≡ logged_of events → sent_of (e ∷ events) ≡ sent ∷ sent_of events
    → sending first.door first.place (outcome_for rules h.server first) h.places ≡ sent
    → AnswersInOrder rules m events t → AnswersInOrder rules h (e ∷ events) t
takes rules h m t e events first left sent queue owed server logs sends said rest =
    record {
      taken = first ∷ rest.taken;
      log = ap (λ k. h.owed ++ k) logs ∙ (ap (λ k. k ++ logged_of events) queue
          ∙ ap (λ k. first ∷ k) (ap (λ k. k ++ logged_of events) (sym owed) ∙ rest.log));
      sent = subst (λ k. AreFor rules h.server (first ∷ rest.taken) k) (sym sends) (
        is_for first.door first.place (outcome_for rules h.server first) h.places sent said,
        subst (λ s. AreFor rules s rest.taken (sent_of events)) server rest.sent,
      );
      server = rest.server ∙ ap (λ s. server_after rules s rest.taken) server;
    }

pub in_order : {S : Type 0} (rules : Rules S) (h : State S) (events : List Event) (t : State S)
    → Runs rules h events t → AnswersInOrder rules h.hall events t.hall
in_order rules h [] t run =
    record {
      taken = [];
      log = append-nil h.hall.owed ∙ ap (λ k. k.hall.owed) (sym run);
      sent = tt;
      server = ap (λ k. k.hall.server) run;
    }
in_order rules h (Waited now ∷ events) t run =
    quiet rules h.hall run.0.hall t.hall (Waited now) events (ap (λ k. k.owed) run.1.acts.is) (ap (λ k. k.server) run.1.acts.is) refl refl
    (in_order rules run.0 events t run.2)
in_order rules h (Opened place door ∷ events) t run =
    quiet rules h.hall run.0.hall t.hall (Opened place door) events (ap (λ k. k.owed) run.1.acts.is) (ap (λ k. k.server) run.1.acts.is) refl refl
    (in_order rules run.0 events t run.2)
in_order rules h (Asked place door ∷ events) t run =
    quiet rules h.hall run.0.hall t.hall (Asked place door) events (ap (λ k. k.owed) run.1.acts.is) (ap (λ k. k.server) run.1.acts.is) refl refl
    (in_order rules run.0 events t run.2)
in_order rules h (Came place bytes ∷ events) t run =
    quiet rules h.hall run.0.hall t.hall (Came place bytes) events (ap (λ k. k.owed) run.1.acts.is) (ap (λ k. k.server) run.1.acts.is) refl refl
    (in_order rules run.0 events t run.2)
in_order rules h (Ended place ∷ events) t run =
    quiet rules h.hall run.0.hall t.hall (Ended place) events (ap (λ k. k.owed) run.1.acts.is) (ap (λ k. k.server) run.1.acts.is) refl refl
    (in_order rules run.0 events t run.2)
in_order rules h (Blocked place ∷ events) t run =
    quiet rules h.hall run.0.hall t.hall (Blocked place) events (ap (λ k. k.owed) run.1.acts.is) (ap (λ k. k.server) run.1.acts.is) refl refl
    (in_order rules run.0 events t run.2)
in_order rules h (Closed place ∷ events) t run =
    quiet rules h.hall run.0.hall t.hall (Closed place) events (ap (λ k. k.owed) run.1.acts.is) (ap (λ k. k.server) run.1.acts.is) refl refl
    (in_order rules run.0 events t run.2)
in_order rules h (Dropped place ∷ events) t run =
    quiet rules h.hall run.0.hall t.hall (Dropped place) events (ap (λ k. k.owed) run.1.acts.is) (ap (λ k. k.server) run.1.acts.is) refl refl
    (in_order rules run.0 events t run.2)
in_order rules h (LogFailed ∷ events) t run =
    quiet rules h.hall run.0.hall t.hall LogFailed events (ap (λ k. k.owed) run.1.acts.is) (ap (λ k. k.server) run.1.acts.is) refl refl
    (in_order rules run.0 events t run.2)
in_order rules h (Logged entries ∷ events) t run =
    let rest = in_order rules run.0 events t run.2 in
    let owed = ap (λ k. k.owed) run.1.acts.is in
    record {
      taken = rest.taken;
      log = ap (λ k. k ++ (entries ++ logged_of events)) run.1.acts.nothing_owed
          ∙ (ap (λ k. k ++ logged_of events) (run.1.acts.written ∙ sym owed) ∙ rest.log);
      sent = subst (λ s. AreFor rules s rest.taken (sent_of events)) (ap (λ k. k.server) run.1.acts.is) rest.sent;
      server = rest.server ∙ ap (λ s. server_after rules s rest.taken) (ap (λ k. k.server) run.1.acts.is);
    }
in_order rules h (Unanswered place ∷ events) t run =
    takes rules h.hall run.0.hall t.hall (Unanswered place) events run.1.acts.first run.1.acts.rest None run.1.acts.owed (ap (λ k. k.owed) run.1.acts.is)
    (ap (λ k. k.server) run.1.acts.is) refl refl run.1.acts.said (in_order rules run.0 events t run.2)
in_order rules h (Sent place bytes ∷ events) t run =
    takes rules h.hall run.0.hall t.hall (Sent place bytes) events run.1.acts.first run.1.acts.rest (Some (record { place = place; bytes = bytes }))
    run.1.acts.owed (ap (λ k. k.owed) run.1.acts.is) (ap (λ k. k.server) run.1.acts.is) refl refl run.1.acts.said
    (in_order rules run.0 events t run.2)
in_order rules h (SentAgain place bytes ∷ events) t run =
    quiet rules h.hall run.0.hall t.hall (SentAgain place bytes) events (ap (λ k. k.hall.owed) run.1.is) (ap (λ k. k.hall.server) run.1.is) refl refl
    (in_order rules run.0 events t run.2)

none_some : (place : ℕ) → None ≡ Some place → ⊥
none_some place is = cc

none_sent : (sent : Sending) → None ≡ Some sent → ⊥
none_sent sent is = cc

same_some : (k place : ℕ) → Some k ≡ Some place → place ≡ k
same_some k place is = cc

same_place : (p q : Place) → Some p ≡ Some q → p ≡ q
same_place p q is = cc

same_sent : (a b : Sending) → Some a ≡ Some b → a ≡ b
same_sent a b is = cc

same_bytes : (a b : Sending) → Some a ≡ Some b → a.bytes ≡ b.bytes
same_bytes a b is = ap (λ s. s.bytes) (same_sent a b is)

same_to : (a b : Sending) → Some a ≡ Some b → a.place ≡ b.place
same_to a b is = ap (λ s. s.place) (same_sent a b is)

plus_none : (k : ℕ) → k ≡ k + 0
plus_none k = omega arith

zero_plus : (i : ℕ) → 0 + i ≡ i
zero_plus i = omega arith

plus_one : (k i : ℕ) → k + 1 + i ≡ k + suc i
plus_one k i = omega arith

first_run : {S : Type 0} (rules : Rules S) (h t : State S) (before after : List Event) → Runs rules h (before ++ after) t
    → (m : State S) × Runs rules h before m
first_run rules h t [] after run = (h, refl)
first_run rules h t (e ∷ before) after run =
    let later = first_run rules run.0 t before after run.2 in
    (later.0, (run.0, run.1, later.1))

pub follows : {S : Type 0} (rules : Rules S) (h t : State S) (before after : List Event) → h.hall.owed ≡ []
    → Runs rules h (before ++ after) t → FollowsItsLog rules h.hall.server before
follows rules h t before after none run =
    let one = first_run rules h t before after run in
    let order = in_order rules h before one.0 one.1 in
    record {
      taken = order.taken;
      later = one.0.hall.owed;
      logged = ap (λ k. k ++ logged_of before) (sym none) ∙ order.log;
      sent = order.sent;
    }

records_some : (o : Option (List ℕ)) (xs ys : List (List ℕ)) → cons_some o (xs ++ ys) ≡ cons_some o xs ++ ys
records_some None xs ys = refl
records_some (Some bytes) xs ys = refl

-- the records of some frames, and of others behind them
records_both : (xs ys : List Entry) → records_of (xs ++ ys) ≡ records_of xs ++ records_of ys
records_both [] ys = refl
records_both (e ∷ xs) ys =
    ap (cons_some e.noted) (records_both xs ys) ∙ records_some e.noted (records_of xs) (records_of ys)

restored_some : {S : Type 0} (rules : Rules S) (s : S) (o : Option (List ℕ)) (records : List (List ℕ))
    → restored rules (after_noted rules s o) records ≡ restored rules s (cons_some o records)
restored_some rules s None records = refl
restored_some rules s (Some bytes) records = refl

-- frames without records change nothing
restored_is : {S : Type 0} (rules : Rules S) (s : S) (entries : List Entry)
    → server_after rules s entries ≡ restored rules s (records_of entries)
restored_is rules s [] = refl
restored_is rules s (e ∷ entries) =
    restored_is rules (after_noted rules s e.noted) entries ∙ restored_some rules s e.noted (records_of entries)

pub of_its_log : {S : Type 0} (rules : Rules S) (h t : State S) (events : List Event) → h.hall.owed ≡ []
    → Runs rules h events t → IsOfItsLog rules h.hall.server events t.hall
of_its_log rules h t events none run =
    let order = in_order rules h events t run in
    record {
      taken = records_of order.taken;
      records = ap (λ k. records_of (k ++ logged_of events)) (sym none)
          ∙ (ap records_of order.log ∙ records_both order.taken t.hall.owed);
      is = order.server ∙ restored_is rules h.hall.server order.taken;
    }

-- the place that is found waits
abbrev Found : (key : Key) (k : ℕ) (places : List Place) (place : ℕ) → Type 0
Found key k places place = (i : ℕ) × (place ≡ k + i) × IsSomeAt places i (λ p. waits_for key p ≡ true)

found_here : (key : Key) (k : ℕ) (p : Place) (places : List Place) (place : ℕ) (b : Bool) → waits_for key p ≡ b
    → (waiter key (k + 1) places ≡ Some place → Found key (k + 1) places place)
    → place_if b k (waiter key (k + 1) places) ≡ Some place → Found key k (p ∷ places) place
found_here key k p places place true waits later same =
    (0, same_some k place same ∙ plus_none k, λ q got. subst (λ p. waits_for key p ≡ true) (same_place p q got) waits)
found_here key k p places place false waits later same =
    let there = later same in
    (suc there.0, there.1 ∙ plus_one k there.0, there.2)

waiter_is : (key : Key) (k : ℕ) (places : List Place) (place : ℕ) → waiter key k places ≡ Some place → Found key k places place
waiter_is key k [] place is = absurd (none_some place is)
waiter_is key k (p ∷ places) place is =
    found_here key k p places place (waits_for key p) refl (waiter_is key (k + 1) places place) is

-- where these bytes went
pub sent_where : (b : List ℕ) (o : Option ℕ) (place : ℕ) (bytes : List ℕ) → sending_to b o ≡ Some (record { place = place; bytes = bytes })
    → (o ≡ Some place) × (b ≡ bytes)
sent_where b None place bytes said = absurd (none_sent _ said)
sent_where b (Some q) place bytes said = (ap Some (same_to _ _ said), same_bytes _ _ said)

pub when_is : (b : Bool) (q place : ℕ) → place_when b q ≡ Some place → place ≡ q
when_is true q place is = same_some q place is
when_is false q place is = absurd (none_some place is)

pub on_its_place : {S : Type 0} (rules : Rules S) (h t : Hall S) (place : ℕ) (bytes : List ℕ) → Sends rules h place bytes t
    → IsOnItsPlace rules h place bytes
on_its_place rules h t place bytes sends = record {
  first = sends.first;
  rest = sends.rest;
  owed = sends.owed;
  for_it = by_outcome (outcome_for rules h.server sends.first) refl sends.said;
}
  where
    by_outcome : (o : Outcome) → outcome_for rules h.server sends.first ≡ o
        → sending sends.first.door sends.first.place o h.places ≡ Some (record { place = place; bytes = bytes })
        → (IsAnswer bytes (outcome_for rules h.server sends.first) × (place ≡ sends.first.place))
        ⊎ (((key : Key) × (outcome_for rules h.server sends.first ≡ Replies key bytes)
        × IsSomeAt h.places place (λ p. waits_for key p ≡ true))
        ⊎ ((key : Option Key) × (outcome_for rules h.server sends.first ≡ Commands key bytes) × (dialled h.places ≡ Some place)))
    by_outcome (Answers b) is said =
        let went = sent_where b (answered_at sends.first.door sends.first.place) place bytes said in
        inl (inl (is ∙ ap Answers went.1), when_is _ sends.first.place place went.0)
    by_outcome (Lasts b) is said =
        let went = sent_where b (answered_at sends.first.door sends.first.place) place bytes said in
        inl (inr (is ∙ ap Lasts went.1), when_is _ sends.first.place place went.0)
    by_outcome (Waits key) is said = absurd (none_sent _ said)
    by_outcome (Commands key b) is said =
        let went = sent_where b (dialled h.places) place bytes said in
        inr (inr (key, is ∙ ap (Commands key) went.1, went.0))
    by_outcome (Replies key b) is said =
        let went = sent_where b (waiter key 0 h.places) place bytes said in
        let found = waiter_is key 0 h.places place went.0 in
        inr (inl (
          key,
          is ∙ ap (Replies key) went.1,
          subst (λ k. IsSomeAt h.places k (λ p. waits_for key p ≡ true)) (sym (found.1 ∙ zero_plus found.0)) found.2,
        ))
    by_outcome Nothing is said = absurd (none_sent _ said)
