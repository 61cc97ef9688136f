-- Commands go out in order.
use Rattle.std.proofs.Common.{◌≡◌, ℕ, zero, suc, Bool, true, false, List, [], ◌∷◌, ◌++◌, append-nil, map, All, refl, sym, ap, ◌∙◌, subst, slice_set, arith}
use Rattle.std.proofs.lemmas.Bool.{eqb-true}
use Rattle.std.proofs.lemmas.List.Elements.{All-nil}
use Rattle.std.specs.Prelude.{Option, Some, None, ◌==◌, not, ◌&&◌, slice_get}
use Rattle.many_words.specs.declared.door.Door.{Door}
use Rattle.many_words.specs.declared.door.Door.TheVariants.{Dialled}
use Rattle.many_words.specs.Doors.{is_dialled}
use Rattle.many_words.specs.Events.{Event, Entry, Waited, Opened, Asked, Came, Ended, Blocked, Closed, Dropped, Logged, LogFailed, Unanswered, Sent, SentAgain}
use Rattle.many_conns.specs.Rules.{Rules, Outcome, Answers, Lasts, Waits, Commands, Replies, Nothing, after_noted}
use Rattle.many_conns.specs.Places.{Place, new_place, waited}
use Rattle.many_conns.specs.Routes.{Sending, sending, sending_to, answered_at, dialled, place_when, waiter, resent_at}
use Rattle.many_conns.specs.Hall.{Hall, State, Runs, batch, sending_of, outcome_for}
use Rattle.many_conns.specs.Orders.{logged_of, server_after}
use Rattle.many_conns.specs.Commands.{CommandsInOrder, Stays, bytes_if, dialled_bytes, dialled_again, issued, issued_by}
use Rattle.many_conns.proofs.DialledLaws.{IsHonest, dialled_set, dialled_other, dialled_map, dialled_taken, dialled_after, batch_honest, waiter_other}
use Rattle.many_conns.proofs.OrderLaws.{sent_where, when_is}

-- what went out behind a state, and what is still to
record Goes {S : Type 0} (rules : Rules S) (h : State S) (events : List Event) (t : State S) : Type 0 where
  taken : List Entry
  log : h.hall.owed ++ logged_of events ≡ taken ++ t.hall.owed
  is : t.hall.server ≡ server_after rules h.hall.server taken
  commands : dialled_bytes events ++ dialled_again t.again ≡ dialled_again h.again ++ issued rules h.hall.server taken

-- an event that sends nothing and takes nothing
quiet : {S : Type 0} (rules : Rules S) (h m t : State S) (e : Event) (events : List Event)
    → m.hall.owed ≡ h.hall.owed → m.hall.server ≡ h.hall.server → dialled_again m.again ≡ dialled_again h.again
    → logged_of (e ∷ events) ≡ logged_of events → dialled_bytes (e ∷ events) ≡ dialled_bytes events
    → Goes rules m events t → Goes rules h (e ∷ events) t
quiet rules h m t e events owed server again logs sends rest = record {
  taken = rest.taken;
  log = ap (λ k. h.hall.owed ++ k) logs ∙ (ap (λ k. k ++ logged_of events) (sym owed) ∙ rest.log);
  is = rest.is ∙ ap (λ s. server_after rules s rest.taken) server;
  commands = ap (λ k. k ++ dialled_again t.again) sends ∙ (rest.commands
      ∙ (ap (λ k. k ++ issued rules m.hall.server rest.taken) again ∙ ap (λ s. dialled_again h.again ++ issued rules s rest.taken) server));
}

-- a frame is taken
takes : {S : Type 0} (rules : Rules S) (h m t : State S) (e : Event) (events : List Event) (first : Entry) (left : List Entry)
    → h.again ≡ [] → m.again ≡ [] → h.hall.owed ≡ first ∷ left → m.hall.owed ≡ left → m.hall.server ≡ after_noted rules h.hall.server first.noted
    → logged_of (e ∷ events) ≡ logged_of events
    → dialled_bytes (e ∷ events) ≡ issued_by (outcome_for rules h.hall.server first) (dialled_bytes events)
    → Goes rules m events t → Goes rules h (e ∷ events) t
takes rules h m t e events first left none later queue owed server logs sends rest = record {
  taken = first ∷ rest.taken;
  log = ap (λ k. h.hall.owed ++ k) logs ∙ (ap (λ k. k ++ logged_of events) queue
      ∙ ap (λ k. first ∷ k) (ap (λ k. k ++ logged_of events) (sym owed) ∙ rest.log));
  is = rest.is ∙ ap (λ s. server_after rules s rest.taken) server;
  commands = ap (λ k. k ++ dialled_again t.again) sends
      ∙ (issued_both (outcome_for rules h.hall.server first) (dialled_bytes events) (dialled_again t.again)
      ∙ (ap (issued_by (outcome_for rules h.hall.server first)) (rest.commands
      ∙ (ap (λ k. dialled_again k ++ issued rules m.hall.server rest.taken) later ∙ ap (λ s. issued rules s rest.taken) server))
      ∙ ap (λ k. dialled_again k ++ issued rules h.hall.server (first ∷ rest.taken)) (sym none)));
}
  where
    issued_both : (o : Outcome) (xs ys : List (List ℕ)) → issued_by o xs ++ ys ≡ issued_by o (xs ++ ys)
    issued_both (Answers bytes) xs ys = refl
    issued_both (Lasts bytes) xs ys = refl
    issued_both (Waits key) xs ys = refl
    issued_both (Commands key bytes) xs ys = refl
    issued_both (Replies key bytes) xs ys = refl
    issued_both Nothing xs ys = refl

none_sent : (sent : Sending) → None ≡ Some sent → ⊥
none_sent sent is = cc

none_place : (place : ℕ) → None ≡ Some place → ⊥
none_place place is = cc

same_place : (k place : ℕ) → Some k ≡ Some place → place ≡ k
same_place k place is = cc

-- nothing is sent for no command
left_out : (outcome : Outcome) (door : Door) (place : ℕ) (places : List Place) (later : List (List ℕ)) → dialled places ≡ Some 0
    → sending door place outcome places ≡ None → later ≡ issued_by outcome later
left_out (Answers bytes) door place places later linked said = refl
left_out (Lasts bytes) door place places later linked said = refl
left_out (Waits key) door place places later linked said = refl
left_out (Commands key bytes) door place places later linked said =
    absurd (none_sent (record { place = 0; bytes = bytes }) (sym said ∙ ap (sending_to bytes) linked))
left_out (Replies key bytes) door place places later linked said = refl
left_out Nothing door place places later linked said = refl

elsewhere : (place : ℕ) (bytes : List ℕ) (later : List (List ℕ)) → (place ≡ 0 → ⊥) → bytes_if (place == 0) bytes later ≡ later
elsewhere place bytes later other = ap (λ b. bytes_if b bytes later) (by (place == 0) refl)
  where
    by : (b : Bool) → (place == 0) ≡ b → b ≡ false
    by true is = absurd (other (eqb-true place 0 is))
    by false is = refl

answered_other : (b : Bool) (place q : ℕ) → (place ≡ 0 → b ≡ true) → place_when (not b) place ≡ Some q → q ≡ 0 → ⊥
answered_other true place q honest is at_zero = none_place q is
answered_other false place q honest is at_zero = no_true (sym (honest (sym (same_place place q is) ∙ at_zero)))
  where
    no_true : true ≡ false → ⊥
    no_true is = cc

-- what goes to the connection that the server dialled is the command of the frame
sent_out : (outcome : Outcome) (first : Entry) (places : List Place) (place : ℕ) (bytes : List ℕ) (later : List (List ℕ)) → dialled places ≡ Some 0
    → IsHonest first → sending first.door first.place outcome places ≡ Some (record { place = place; bytes = bytes })
    → bytes_if (place == 0) bytes later ≡ issued_by outcome later
sent_out (Answers b) first places place bytes later linked honest said =
    elsewhere place bytes later (answered_other (is_dialled first.door) first.place place honest (sent_where b _ place bytes said).0)
sent_out (Lasts b) first places place bytes later linked honest said =
    elsewhere place bytes later (answered_other (is_dialled first.door) first.place place honest (sent_where b _ place bytes said).0)
sent_out (Waits key) first places place bytes later linked honest said = absurd (none_sent _ said)
sent_out (Commands key b) first places place bytes later linked honest said =
    let went = sent_where b (dialled places) place bytes said in
    ap (λ k. bytes_if (k == 0) bytes later) (same_place 0 place (sym linked ∙ went.0)) ∙ ap (λ k. k ∷ later) (sym went.1)
sent_out (Replies key b) first places place bytes later linked honest said =
    elsewhere place bytes later (waiter_other key places place linked (sent_where b (waiter key 0 places) place bytes said).0)
sent_out Nothing first places place bytes later linked honest said = absurd (none_sent _ said)

again_other : (place : ℕ) (commands : List (List ℕ)) → (place ≡ 0 → ⊥) → dialled_again (map (sending_of place) commands) ≡ []
again_other place [] other = refl
again_other place (bytes ∷ commands) other = elsewhere place bytes _ other ∙ again_other place commands other

again_same : (commands : List (List ℕ)) → dialled_again (map (sending_of 0) commands) ≡ commands
again_same [] = refl
again_same (bytes ∷ commands) = ap (λ k. bytes ∷ k) (again_same commands)

again_both : (b : Bool) (bytes : List ℕ) (xs ys : List (List ℕ)) → bytes_if b bytes xs ++ ys ≡ bytes_if b bytes (xs ++ ys)
again_both true bytes xs ys = refl
again_both false bytes xs ys = refl

none_again : (old new : List Sending) → old ≡ [] → new ≡ [] → dialled_again new ≡ dialled_again old
none_again old new one two = ap dialled_again (two ∙ sym one)

-- the same connection stands, and what is owed came through its door
abbrev Stands : {S : Type 0} → State S → Type 0
Stands h = (dialled h.hall.places ≡ Some 0) × All IsHonest h.hall.owed

stands_with : {S : Type 0} (h m : State S) → Stands h → dialled m.hall.places ≡ dialled h.hall.places → m.hall.owed ≡ h.hall.owed → Stands m
stands_with h m stands same owed = (same ∙ stands.0, subst (All IsHonest) (sym owed) stands.1)

first_of : (e : Entry) (entries owed : List Entry) → owed ≡ e ∷ entries → All IsHonest owed → IsHonest e
first_of e entries owed is all = (subst (All IsHonest) is all) zero e (omega arith)

rest_of : (e : Entry) (entries owed : List Entry) → owed ≡ e ∷ entries → All IsHonest owed → All IsHonest entries
rest_of e entries owed is all = λ k d lt. (subst (All IsHonest) is all) (suc k) d (omega arith)

goes_on : {S : Type 0} (rules : Rules S) (h : State S) (events : List Event) (t : State S) → Runs rules h events t → Stays 0 events → Stands h
    → Goes rules h events t
goes_on rules h [] t run stays stands = record {
  taken = [];
  log = append-nil h.hall.owed ∙ ap (λ k. k.hall.owed) (sym run);
  is = ap (λ k. k.hall.server) run;
  commands = ap (λ k. dialled_again k.again) run ∙ sym (append-nil (dialled_again h.again));
}
goes_on rules h (Waited now ∷ events) t run stays stands =
    let m = run.0 in let acts = run.1.acts in
    quiet rules h m t (Waited now) events (ap (λ k. k.owed) acts.is) (ap (λ k. k.server) acts.is) (none_again h.again m.again run.1.nothing_again run.1.again) refl refl
    (goes_on rules m events t run.2 stays (stands_with h m stands
    (ap (λ k. dialled k.places) acts.is ∙ dialled_map waited (λ p. refl) h.hall.places) (ap (λ k. k.owed) acts.is)))
goes_on rules h (Opened place door ∷ events) t run stays stands =
    let m = run.0 in let acts = run.1.acts in
    quiet rules h m t (Opened place door) events (ap (λ k. k.owed) acts.is) (ap (λ k. k.server) acts.is)
    (ap dialled_again run.1.again ∙ (again_other place (resent_at door (rules.outstanding h.hall.server)) stays.0 ∙ ap dialled_again (sym run.1.nothing_again))) refl refl
    (goes_on rules m events t run.2 stays.1 (stands_with h m stands
    (ap (λ k. dialled k.places) acts.is ∙ dialled_other h.hall.places place _ stays.0) (ap (λ k. k.owed) acts.is)))
goes_on rules h (Asked place door ∷ events) t run stays stands =
    let m = run.0 in let acts = run.1.acts in
    quiet rules h m t (Asked place door) events (ap (λ k. k.owed) acts.is) (ap (λ k. k.server) acts.is) (none_again h.again m.again run.1.nothing_again run.1.again) refl refl
    (goes_on rules m events t run.2 stays (stands_with h m stands
    (ap (λ k. dialled k.places) acts.is ∙ dialled_set h.hall.places place acts.before _ acts.free.there refl) (ap (λ k. k.owed) acts.is)))
goes_on rules h (Came place bytes ∷ events) t run stays stands =
    let m = run.0 in let acts = run.1.acts in
    quiet rules h m t (Came place bytes) events (ap (λ k. k.owed) acts.is) (ap (λ k. k.server) acts.is) (none_again h.again m.again run.1.nothing_again run.1.again) refl refl
    (goes_on rules m events t run.2 stays (stands_with h m stands
    (ap (λ k. dialled k.places) acts.is ∙ dialled_set h.hall.places place acts.before _ acts.at.there refl) (ap (λ k. k.owed) acts.is)))
goes_on rules h (Ended place ∷ events) t run stays stands =
    let m = run.0 in let acts = run.1.acts in
    quiet rules h m t (Ended place) events (ap (λ k. k.owed) acts.is) (ap (λ k. k.server) acts.is) (none_again h.again m.again run.1.nothing_again run.1.again) refl refl
    (goes_on rules m events t run.2 stays (stands_with h m stands
    (ap (λ k. dialled k.places) acts.is ∙ dialled_set h.hall.places place acts.before _ acts.at.there refl) (ap (λ k. k.owed) acts.is)))
goes_on rules h (Blocked place ∷ events) t run stays stands =
    let m = run.0 in let acts = run.1.acts in
    quiet rules h m t (Blocked place) events (ap (λ k. k.owed) acts.is) (ap (λ k. k.server) acts.is) (none_again h.again m.again run.1.nothing_again run.1.again) refl refl
    (goes_on rules m events t run.2 stays (stands_with h m stands
    (ap (λ k. dialled k.places) acts.is ∙ dialled_set h.hall.places place acts.before _ acts.at.there refl) (ap (λ k. k.owed) acts.is)))
goes_on rules h (Closed place ∷ events) t run stays stands =
    let m = run.0 in let acts = run.1.acts in
    quiet rules h m t (Closed place) events (ap (λ k. k.owed) acts.is) (ap (λ k. k.server) acts.is) (none_again h.again m.again run.1.nothing_again run.1.again) refl refl
    (goes_on rules m events t run.2 stays.1 (stands_with h m stands
    (ap (λ k. dialled k.places) acts.is ∙ dialled_other h.hall.places place _ stays.0) (ap (λ k. k.owed) acts.is)))
goes_on rules h (Dropped place ∷ events) t run stays stands =
    let m = run.0 in let acts = run.1.acts in
    quiet rules h m t (Dropped place) events (ap (λ k. k.owed) acts.is) (ap (λ k. k.server) acts.is) (none_again h.again m.again run.1.nothing_again run.1.again) refl refl
    (goes_on rules m events t run.2 stays.1 (stands_with h m stands
    (ap (λ k. dialled k.places) acts.is ∙ dialled_other h.hall.places place _ stays.0) (ap (λ k. k.owed) acts.is)))
goes_on rules h (LogFailed ∷ events) t run stays stands =
    let m = run.0 in let acts = run.1.acts in
    quiet rules h m t LogFailed events (ap (λ k. k.owed) acts.is) (ap (λ k. k.server) acts.is) (none_again h.again m.again run.1.nothing_again run.1.again) refl refl
    (goes_on rules m events t run.2 stays (stands_with h m stands (ap (λ k. dialled k.places) acts.is) (ap (λ k. k.owed) acts.is)))
goes_on rules h (Logged entries ∷ events) t run stays stands =
    let m = run.0 in let acts = run.1.acts in
    let rest = goes_on rules m events t run.2 stays (
      ap (λ k. dialled k.places) acts.is ∙ (dialled_taken h.hall.now (batch rules h.hall) h.hall.places ∙ stands.0),
      subst (All IsHonest) (sym (ap (λ k. k.owed) acts.is)) (batch_honest rules h.hall.server _ h.hall.turn h.hall.places stands.0),
    ) in
    record {
      taken = rest.taken;
      log = ap (λ k. k ++ (entries ++ logged_of events)) acts.nothing_owed
          ∙ (ap (λ k. k ++ logged_of events) (acts.written ∙ sym (ap (λ k. k.owed) acts.is)) ∙ rest.log);
      is = rest.is ∙ ap (λ s. server_after rules s rest.taken) (ap (λ k. k.server) acts.is);
      commands = rest.commands ∙ (ap (λ k. k ++ issued rules m.hall.server rest.taken) (none_again h.again m.again run.1.nothing_again run.1.again)
          ∙ ap (λ s. dialled_again h.again ++ issued rules s rest.taken) (ap (λ k. k.server) acts.is));
    }
goes_on rules h (Unanswered place ∷ events) t run stays stands =
    let m = run.0 in let acts = run.1.acts in
    takes rules h m t (Unanswered place) events acts.first acts.rest run.1.nothing_again run.1.again acts.owed (ap (λ k. k.owed) acts.is) (ap (λ k. k.server) acts.is) refl
    (left_out (outcome_for rules h.hall.server acts.first) acts.first.door acts.first.place h.hall.places (dialled_bytes events) stands.0 acts.said)
    (goes_on rules m events t run.2 stays (
      ap (λ k. dialled k.places) acts.is ∙ (dialled_after h.hall.now acts.first.door acts.first.place _ h.hall.places ∙ stands.0),
      subst (All IsHonest) (sym (ap (λ k. k.owed) acts.is)) (rest_of acts.first acts.rest h.hall.owed acts.owed stands.1),
    ))
goes_on rules h (Sent place bytes ∷ events) t run stays stands =
    let m = run.0 in let acts = run.1.acts in
    takes rules h m t (Sent place bytes) events acts.first acts.rest run.1.nothing_again run.1.again acts.owed (ap (λ k. k.owed) acts.is) (ap (λ k. k.server) acts.is) refl
    (sent_out (outcome_for rules h.hall.server acts.first) acts.first h.hall.places place bytes (dialled_bytes events) stands.0
    (first_of acts.first acts.rest h.hall.owed acts.owed stands.1) acts.said)
    (goes_on rules m events t run.2 stays (
      ap (λ k. dialled k.places) acts.is ∙ (dialled_after h.hall.now acts.first.door acts.first.place _ h.hall.places ∙ stands.0),
      subst (All IsHonest) (sym (ap (λ k. k.owed) acts.is)) (rest_of acts.first acts.rest h.hall.owed acts.owed stands.1),
    ))
goes_on rules h (SentAgain place bytes ∷ events) t run stays stands =
    let m = run.0 in
    let rest = goes_on rules m events t run.2 stays (stands_with h m stands (ap (λ k. dialled k.hall.places) run.1.is) (ap (λ k. k.hall.owed) run.1.is)) in
    record {
      taken = rest.taken;
      log = ap (λ k. k ++ logged_of events) (sym (ap (λ k. k.hall.owed) run.1.is)) ∙ rest.log;
      is = rest.is ∙ ap (λ s. server_after rules s rest.taken) (ap (λ k. k.hall.server) run.1.is);
      commands = again_both (place == 0) bytes (dialled_bytes events) (dialled_again t.again)
          ∙ (ap (bytes_if (place == 0) bytes) (rest.commands
          ∙ (ap (λ k. dialled_again k.again ++ issued rules m.hall.server rest.taken) run.1.is
          ∙ ap (λ k. dialled_again run.1.rest ++ issued rules k.hall.server rest.taken) run.1.is))
          ∙ (sym (again_both (place == 0) bytes (dialled_again run.1.rest) (issued rules h.hall.server rest.taken))
          ∙ ap (λ k. dialled_again k ++ issued rules h.hall.server rest.taken) (sym run.1.first)));
    }

same_dialled : (places : List Place) (before made : Place) (place : ℕ) → place ≡ 0 → made.live ≡ true → is_dialled made.door ≡ true
    → slice_get places place ≡ Some before → dialled (slice_set places place made) ≡ Some 0
same_dialled [] before made place at live door there = absurd (none_there before there)
  where
    none_there : (p : Place) → None ≡ Some p → ⊥
    none_there p is = cc
same_dialled (p ∷ places) before made zero at live door there =
    ap (λ b. place_when (b && is_dialled made.door) 0) live ∙ ap (λ b. place_when b 0) door
same_dialled (p ∷ places) before made (suc place) at live door there = absurd (omega (arith, at))

pub commands_in_order : {S : Type 0} (rules : Rules S) (h t : State S) (events : List Event) → Runs rules h (Opened 0 Dialled ∷ events) t
    → Stays 0 events → CommandsInOrder rules h.hall.server events t
commands_in_order rules h t events run stays =
    let m = run.0 in let acts = run.1.acts in
    let owed = ap (λ k. k.owed) acts.is ∙ acts.free.nothing_owed in
    let rest = goes_on rules m events t run.2 stays (
      ap (λ k. dialled k.places) acts.is ∙ same_dialled h.hall.places acts.before (new_place Dialled h.hall.now) 0 refl refl refl acts.free.there,
      subst (All IsHonest) (sym owed) (All-nil IsHonest),
    ) in
    record {
      taken = rest.taken;
      log = ap (λ k. k ++ logged_of events) (sym owed) ∙ rest.log;
      is = rest.is ∙ ap (λ s. server_after rules s rest.taken) (ap (λ k. k.server) acts.is);
      commands = rest.commands ∙ (ap (λ k. k ++ issued rules m.hall.server rest.taken)
          (ap dialled_again run.1.again ∙ again_same (rules.outstanding h.hall.server))
          ∙ ap (λ s. rules.outstanding h.hall.server ++ issued rules s rest.taken) (ap (λ k. k.server) acts.is));
    }
