-- A server whose steps are those of a gated one follows its log as that one does.
use Rattle.std.proofs.Common.{◌≡◌, ℕ, List, [], ◌∷◌, ◌++◌, refl, sym, ◌∙◌, ap, subst}
use Rattle.std.specs.Prelude.{Option, Some, None}
use Rattle.many_words.specs.declared.door.Door.{Door}
use Rattle.many_words.specs.Events.{Entry, Event, cons_some, records_of}
use Rattle.many_words.specs.Events.{Waited, Opened, Asked, Came, Ended, Blocked, Closed, Dropped, Logged}
use Rattle.many_words.specs.Events.{LogFailed, Unanswered, Sent, SentAgain}
use Rattle.many_conns.specs.Rules.{Rules}
use Rattle.many_conns.specs.Hall.{Runs, State}
use Rattle.many_conns.specs.Orders.{logged_of, restored}
use Rattle.many_conns.proofs.OrderLaws.{of_its_log}
use Rattle.lane_gate.specs.Gates.{GateState}
use Rattle.logged_hub.specs.Calls.{written}
use Rattle.logged_hub.proofs.RecordLaws.{records-append}
use Rattle.gated_runs.specs.Tickets.{AllCarry, CarriesTicket, LogsCarry}
use Rattle.gated_runs.proofs.Noting.{AreNoted, AllNoted, run-noted}

-- what the events logged
written-is : (events : List Event) → written events ≡ records_of (logged_of events)
written-is [] = refl
written-is (Waited now ∷ events) = written-is events
written-is (Opened place door ∷ events) = written-is events
written-is (Asked place door ∷ events) = written-is events
written-is (Came place bytes ∷ events) = written-is events
written-is (Ended place ∷ events) = written-is events
written-is (Blocked place ∷ events) = written-is events
written-is (Closed place ∷ events) = written-is events
written-is (Dropped place ∷ events) = written-is events
written-is (Logged entries ∷ events) =
    ap (λ (l : List (List ℕ)). records_of entries ++ l) (written-is events)
    ∙ sym (records-append entries (logged_of events))
written-is (LogFailed ∷ events) = written-is events
written-is (Unanswered place ∷ events) = written-is events
written-is (Sent place bytes ∷ events) = written-is events
written-is (SentAgain place bytes ∷ events) = written-is events

-- the server's step over this record is that of the gated one that it holds
abbrev pub IsStep : {S G : Type 0} → Rules S → (server : G → S) → (step : G → List ℕ → G) → List ℕ → Type 0
IsStep {S} {G} rules server step r = (g : G) → rules.after (server g) r ≡ server (step g r)

-- what was taken of what these events logged, but for what is owed; and what is so of it
pub record Follows (events : List Event) (owed : List Entry) (Is : List (List ℕ) → Type 0) : Type 0 where
  pub taken : List (List ℕ)
  pub logged : written events ≡ taken ++ records_of owed
  pub is : Is taken

-- A server of the loop holds a gated one, which steps over a record by itself, and over records by all their
-- steps.
module _ {S G : Type 0} (rules : Rules S) (server : G → S) (step : G → List ℕ → G) (steps : G → List (List ℕ)
    → G)
    (none : (g : G) → steps g [] ≡ g)
    (next : (g : G) (r : List ℕ) (records : List (List ℕ)) → steps g (r ∷ records) ≡ steps (step g r) records)
  where
    abbrev AreSteps : List (List ℕ) → Type 0
    AreSteps [] = Unit {0}
    AreSteps (r ∷ records) = IsStep rules server step r × AreSteps records

    first-steps : (xs ys : List (List ℕ)) → AreSteps (xs ++ ys) → AreSteps xs
    first-steps [] ys all = tt
    first-steps (r ∷ xs) ys all = (all.0, first-steps xs ys all.1)

    both-steps : (xs ys : List (List ℕ)) → AreSteps xs → AreSteps ys → AreSteps (xs ++ ys)
    both-steps [] ys one two = two
    both-steps (r ∷ xs) ys one two = (one.0, both-steps xs ys one.1 two)

    pub restored-is : (g : G) (records : List (List ℕ)) → AreSteps records
        → restored rules (server g) records ≡ server (steps g records)
    restored-is g [] all = ap server (sym (none g))
    restored-is g (r ∷ records) all =
        ap (λ (s : S). restored rules s records) (all.0 g) ∙ restored-is (step g r) records all.1
        ∙ ap server (sym (next g r records))

    -- every record that the server notes is such
    module _ (known : (g : G) (door : Door) (bytes noted : List ℕ)
        → rules.noted (server g) door bytes ≡ Some noted
        → IsStep rules server step noted) where
      some-step : (o : Option (List ℕ)) (records : List (List ℕ))
          → ((noted : List ℕ) → o ≡ Some noted → IsStep rules server step noted)
          → AreSteps records → AreSteps (cons_some o records)
      some-step None records one all = all
      some-step (Some noted) records one all = (one noted refl, all)

      entries-steps : (g : G) (entries : List Entry) → AreNoted rules (server g) entries
          → AreSteps (records_of entries)
      entries-steps g [] all = tt
      entries-steps g (e ∷ entries) all =
          some-step e.noted (records_of entries) (λ noted is. known g e.door e.frame noted (sym all.0 ∙ is))
          (entries-steps g entries all.1)

      later : (g : G) (entries : List Entry) (events : List Event) → AreNoted rules (server g) entries
          → AllNoted rules (restored rules (server g) (records_of entries)) events
          → AllNoted rules (server (steps g (records_of entries))) events
      later g entries events one rest =
          subst (λ (s : S). AllNoted rules s events)
          (restored-is g (records_of entries) (entries-steps g entries one)) rest

      events-steps : (g : G) (events : List Event) → AllNoted rules (server g) events
          → AreSteps (written events)
      events-steps g [] all = tt
      events-steps g (Waited now ∷ events) all = events-steps g events all
      events-steps g (Opened place door ∷ events) all = events-steps g events all
      events-steps g (Asked place door ∷ events) all = events-steps g events all
      events-steps g (Came place bytes ∷ events) all = events-steps g events all
      events-steps g (Ended place ∷ events) all = events-steps g events all
      events-steps g (Blocked place ∷ events) all = events-steps g events all
      events-steps g (Closed place ∷ events) all = events-steps g events all
      events-steps g (Dropped place ∷ events) all = events-steps g events all
      events-steps g (Logged entries ∷ events) all =
          both-steps (records_of entries) (written events) (entries-steps g entries all.0)
          (events-steps (steps g (records_of entries)) events (later g entries events all.0 all.1))
      events-steps g (LogFailed ∷ events) all = events-steps g events all
      events-steps g (Unanswered place ∷ events) all = events-steps g events all
      events-steps g (Sent place bytes ∷ events) all = events-steps g events all
      events-steps g (SentAgain place bytes ∷ events) all = events-steps g events all

      -- ---- what is taken

      pub followed : (g : G) (h t : State S) (events : List Event) → h.hall.server ≡ server g
          → h.hall.owed ≡ [] → Runs rules h events t
          → Follows events t.hall.owed (λ taken. t.hall.server ≡ server (steps g taken))
      followed g h t events is nothing run =
          let log = of_its_log rules h t events nothing run in
          let logged : written events ≡ log.taken ++ records_of t.hall.owed =
          written-is events ∙ log.records in
          let all = events-steps g events
          (subst (λ (s : S). AllNoted rules s events) is (run-noted rules h t events nothing run)) in
          record {
            taken = log.taken;
            logged = logged;
            is = log.is ∙ ap (λ (s : S). restored rules s log.taken) is
                ∙ restored-is g log.taken (first-steps log.taken (records_of t.hall.owed)
                (subst AreSteps logged all));
          }

      -- ---- what is logged

      -- what is noted of a client's frame carries its ticket
      module _ (gate : G → GateState) (carry : (g : G) (e : Entry)
          → e.noted ≡ rules.noted (server g) e.door e.frame → CarriesTicket (gate g) e) where
        entries-carry : (g : G) (entries : List Entry) → AreNoted rules (server g) entries
            → AllCarry (gate g) entries
        entries-carry g [] all = tt
        entries-carry g (e ∷ entries) all = (carry g e all.0, entries-carry g entries all.1)

        events-carry : (g : G) (events : List Event) → AllNoted rules (server g) events
            → LogsCarry gate steps g events
        events-carry g [] all = tt
        events-carry g (Waited now ∷ events) all = events-carry g events all
        events-carry g (Opened place door ∷ events) all = events-carry g events all
        events-carry g (Asked place door ∷ events) all = events-carry g events all
        events-carry g (Came place bytes ∷ events) all = events-carry g events all
        events-carry g (Ended place ∷ events) all = events-carry g events all
        events-carry g (Blocked place ∷ events) all = events-carry g events all
        events-carry g (Closed place ∷ events) all = events-carry g events all
        events-carry g (Dropped place ∷ events) all = events-carry g events all
        events-carry g (Logged entries ∷ events) all = (
          entries-carry g entries all.0,
          events-carry (steps g (records_of entries)) events (later g entries events all.0 all.1),
        )
        events-carry g (LogFailed ∷ events) all = events-carry g events all
        events-carry g (Unanswered place ∷ events) all = events-carry g events all
        events-carry g (Sent place bytes ∷ events) all = events-carry g events all
        events-carry g (SentAgain place bytes ∷ events) all = events-carry g events all

        pub run-carries : (g : G) (h t : State S) (events : List Event) → h.hall.server ≡ server g
            → h.hall.owed ≡ []
            → Runs rules h events t → LogsCarry gate steps g events
        run-carries g h t events is nothing run =
            events-carry g events (subst (λ (s : S). AllNoted rules s events) is
            (run-noted rules h t events nothing run))
