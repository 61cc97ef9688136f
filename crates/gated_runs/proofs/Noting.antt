-- What the log notes of a frame is what the server notes of it that all records before make.
use Rattle.std.proofs.Common.{◌≡◌, ℕ, ◌+◌, List, [], ◌∷◌, ◌++◌, take, drop, refl, sym, ◌∙◌, ap, subst}
use Rattle.std.specs.Prelude.{Bool, true, false, Option, Some, None}
use Rattle.many_words.specs.declared.door.Door.{Door}
use Rattle.many_words.specs.Events.{Entry, Event, cons_some, records_of}
use Rattle.many_words.specs.Events.{Waited, Opened, Asked, Came, Ended, Blocked, Closed, Dropped, Logged}
use Rattle.many_words.specs.Events.{LogFailed, Unanswered, Sent, SentAgain}
use Rattle.many_conns.specs.declared.batch.Budget.{Budget}
use Rattle.many_conns.specs.Rules.{Rules, after_noted}
use Rattle.many_conns.specs.Places.{Place}
use Rattle.many_conns.specs.Batches.{admitted, around, cons_if, entries_of, fits, frames_from, line, spent}
use Rattle.many_conns.specs.Batches.{weight_of, whole_from}
use Rattle.many_conns.specs.Hall.{Hall, Runs, State, batch, budget, waiting}
use Rattle.many_conns.specs.Orders.{restored, server_after}

-- ---- the frames that a round takes

module _ {S : Type 0} (rules : Rules S) (s : S) where
  abbrev pub IsNoted : Entry → Type 0
  IsNoted e = e.noted ≡ rules.noted s e.door e.frame

  abbrev pub AreNoted : List Entry → Type 0
  AreNoted [] = Unit {0}
  AreNoted (e ∷ entries) = IsNoted e × AreNoted entries

  both-noted : (xs ys : List Entry) → AreNoted xs → AreNoted ys → AreNoted (xs ++ ys)
  both-noted [] ys one two = two
  both-noted (e ∷ xs) ys one two = (one.0, both-noted xs ys one.1 two)

  entries-noted : (place : ℕ) (door : Door) (frames : List (List ℕ))
      → AreNoted (entries_of rules s place door frames)
  entries-noted place door [] = tt
  entries-noted place door (frame ∷ frames) = (refl, entries-noted place door frames)

  from-noted : (peers : Bool) (place : ℕ) (places : List Place)
      → AreNoted (whole_from rules s peers place places)
  from-noted peers place [] = tt
  from-noted peers place (p ∷ places) =
      both-noted (entries_of rules s place p.door (frames_from rules.whole peers p))
      (whole_from rules s peers (place + 1) places)
      (entries-noted place p.door (frames_from rules.whole peers p)) (from-noted peers (place + 1) places)

  line-noted : (turn : ℕ) (places : List Place) → AreNoted (line rules s turn places)
  line-noted turn places =
      both-noted (whole_from rules s true 0 places) (around rules s turn places) (from-noted true 0 places)
      (both-noted (whole_from rules s false turn (drop turn places))
      (whole_from rules s false 0 (take turn places))
      (from-noted false turn (drop turn places)) (from-noted false 0 (take turn places)))

  if-noted : (b : Bool) (e : Entry) (entries : List Entry) → IsNoted e → AreNoted entries
      → AreNoted (cons_if b e entries)
  if-noted true e entries one all = (one, all)
  if-noted false e entries one all = tt

  admitted-noted : (is_dear : Door → List ℕ → Bool) (left : Budget) (entries : List Entry) → AreNoted entries
      → AreNoted (admitted is_dear left entries)
  admitted-noted is_dear left [] all = tt
  admitted-noted is_dear left (e ∷ entries) all =
      let less = spent (weight_of is_dear e) left in
      if-noted (fits (weight_of is_dear e) left) e (admitted is_dear less entries) all.0
      (admitted-noted is_dear less entries all.1)

batch-noted : {S : Type 0} (rules : Rules S) (h : Hall S) → AreNoted rules h.server (batch rules h)
batch-noted rules h =
    admitted-noted rules h.server rules.is_dear (budget rules h) (waiting rules h)
    (line-noted rules h.server h.turn h.places)

-- ---- a run

-- each event of the log notes what the server notes that the records before make
abbrev pub AllNoted : {S : Type 0} → Rules S → S → List Event → Type 0
AllNoted rules s [] = Unit {0}
AllNoted rules s (Logged entries ∷ events) =
    AreNoted rules s entries × AllNoted rules (restored rules s (records_of entries)) events
AllNoted rules s (event ∷ events) = AllNoted rules s events

-- a server behind what it is still to take
abbrev behind : {S : Type 0} → Rules S → Hall S → S
behind rules h = server_after rules h.server h.owed

restored-some : {S : Type 0} (rules : Rules S) (s : S) (o : Option (List ℕ)) (records : List (List ℕ))
    → restored rules (after_noted rules s o) records ≡ restored rules s (cons_some o records)
restored-some rules s None records = refl
restored-some rules s (Some bytes) records = refl

restored-is : {S : Type 0} (rules : Rules S) (s : S) (entries : List Entry)
    → server_after rules s entries ≡ restored rules s (records_of entries)
restored-is rules s [] = refl
restored-is rules s (e ∷ entries) =
    restored-is rules (after_noted rules s e.noted) entries
    ∙ restored-some rules s e.noted (records_of entries)

module _ {S : Type 0} (rules : Rules S) (h m : Hall S) (events : List Event) where
  -- an event that owes and answers nothing
  quiet : m.owed ≡ h.owed → m.server ≡ h.server → AllNoted rules (behind rules m) events
      → AllNoted rules (behind rules h) events
  quiet owed server rest =
      subst (λ (s : S). AllNoted rules s events)
      (ap (λ (o : List Entry). server_after rules m.server o) owed
      ∙ ap (λ (s : S). server_after rules s h.owed) server) rest

  -- a frame is taken
  takes : (first : Entry) (left : List Entry) → h.owed ≡ first ∷ left → m.owed ≡ left
      → m.server ≡ after_noted rules h.server first.noted → AllNoted rules (behind rules m) events
      → AllNoted rules (behind rules h) events
  takes first left queue owed server rest =
      subst (λ (s : S). AllNoted rules s events)
      (ap (λ (o : List Entry). server_after rules m.server o) owed
      ∙ ap (λ (s : S). server_after rules s left) server
      ∙ ap (λ (o : List Entry). server_after rules h.server o) (sym queue)) rest

  logs : (entries : List Entry) → h.owed ≡ [] → entries ≡ batch rules h → m.owed ≡ batch rules h
      → m.server ≡ h.server
      → AllNoted rules (behind rules m) events → AllNoted rules (behind rules h) (Logged entries ∷ events)
  logs entries none written owed server rest =
      let here : behind rules h ≡ h.server = ap (λ (o : List Entry). server_after rules h.server o) none in
      let next : behind rules m ≡ restored rules h.server (records_of entries) =
      ap (λ (o : List Entry). server_after rules m.server o) (owed ∙ sym written)
      ∙ ap (λ (s : S). server_after rules s entries) server ∙ restored-is rules h.server entries in
      subst (λ (s : S). AllNoted rules s (Logged entries ∷ events)) (sym here) (
        subst (AreNoted rules h.server) (sym written) (batch-noted rules h),
        subst (λ (s : S). AllNoted rules s events) next rest,
      )

run-noted-from : {S : Type 0} (rules : Rules S) (h t : State S) (events : List Event) → Runs rules h events t
    → AllNoted rules (behind rules h.hall) events
run-noted-from rules h t [] run = tt
run-noted-from rules h t (Waited now ∷ events) run =
    quiet rules h.hall run.0.hall events (ap (λ k. k.owed) run.1.acts.is) (ap (λ k. k.server) run.1.acts.is)
    (run-noted-from rules run.0 t events run.2)
run-noted-from rules h t (Opened place door ∷ events) run =
    quiet rules h.hall run.0.hall events (ap (λ k. k.owed) run.1.acts.is) (ap (λ k. k.server) run.1.acts.is)
    (run-noted-from rules run.0 t events run.2)
run-noted-from rules h t (Asked place door ∷ events) run =
    quiet rules h.hall run.0.hall events (ap (λ k. k.owed) run.1.acts.is) (ap (λ k. k.server) run.1.acts.is)
    (run-noted-from rules run.0 t events run.2)
run-noted-from rules h t (Came place bytes ∷ events) run =
    quiet rules h.hall run.0.hall events (ap (λ k. k.owed) run.1.acts.is) (ap (λ k. k.server) run.1.acts.is)
    (run-noted-from rules run.0 t events run.2)
run-noted-from rules h t (Ended place ∷ events) run =
    quiet rules h.hall run.0.hall events (ap (λ k. k.owed) run.1.acts.is) (ap (λ k. k.server) run.1.acts.is)
    (run-noted-from rules run.0 t events run.2)
run-noted-from rules h t (Blocked place ∷ events) run =
    quiet rules h.hall run.0.hall events (ap (λ k. k.owed) run.1.acts.is) (ap (λ k. k.server) run.1.acts.is)
    (run-noted-from rules run.0 t events run.2)
run-noted-from rules h t (Closed place ∷ events) run =
    quiet rules h.hall run.0.hall events (ap (λ k. k.owed) run.1.acts.is) (ap (λ k. k.server) run.1.acts.is)
    (run-noted-from rules run.0 t events run.2)
run-noted-from rules h t (Dropped place ∷ events) run =
    quiet rules h.hall run.0.hall events (ap (λ k. k.owed) run.1.acts.is) (ap (λ k. k.server) run.1.acts.is)
    (run-noted-from rules run.0 t events run.2)
run-noted-from rules h t (LogFailed ∷ events) run =
    quiet rules h.hall run.0.hall events (ap (λ k. k.owed) run.1.acts.is) (ap (λ k. k.server) run.1.acts.is)
    (run-noted-from rules run.0 t events run.2)
run-noted-from rules h t (Logged entries ∷ events) run =
    logs rules h.hall run.0.hall events entries run.1.acts.nothing_owed run.1.acts.written
    (ap (λ k. k.owed) run.1.acts.is)
    (ap (λ k. k.server) run.1.acts.is) (run-noted-from rules run.0 t events run.2)
run-noted-from rules h t (Unanswered place ∷ events) run =
    takes rules h.hall run.0.hall events run.1.acts.first run.1.acts.rest run.1.acts.owed
    (ap (λ k. k.owed) run.1.acts.is)
    (ap (λ k. k.server) run.1.acts.is) (run-noted-from rules run.0 t events run.2)
run-noted-from rules h t (Sent place bytes ∷ events) run =
    takes rules h.hall run.0.hall events run.1.acts.first run.1.acts.rest run.1.acts.owed
    (ap (λ k. k.owed) run.1.acts.is)
    (ap (λ k. k.server) run.1.acts.is) (run-noted-from rules run.0 t events run.2)
run-noted-from rules h t (SentAgain place bytes ∷ events) run =
    quiet rules h.hall run.0.hall events (ap (λ k. k.hall.owed) run.1.is) (ap (λ k. k.hall.server) run.1.is)
    (run-noted-from rules run.0 t events run.2)

-- so of a server that owes nothing
pub run-noted : {S : Type 0} (rules : Rules S) (h t : State S) (events : List Event) → h.hall.owed ≡ []
    → Runs rules h events t
    → AllNoted rules h.hall.server events
run-noted rules h t events none run =
    subst (λ s. AllNoted rules s events) (ap (λ (o : List Entry). server_after rules h.hall.server o) none)
    (run-noted-from rules h t events run)
