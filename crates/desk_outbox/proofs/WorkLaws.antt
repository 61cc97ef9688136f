-- A step of a try, by what is noted, sent and heard, and steps one after another.
use Rattle.std.proofs.Common.{◌≡◌, ◌≢◌, ◌<◌, inl, inr, true, false, ℕ, List, Option, None, Result, Ok, Err, refl, sym, ap, ◌∙◌, subst}
use Rattle.express_words.specs.Calls.{Call}
use Rattle.express_words.specs.Seen.{Seen}
use Rattle.step_rules.specs.Client as steps
use Rattle.step_rules.specs.Client.{Client}
use Rattle.step_rules.specs.ClientAsks.{sends}
use Rattle.step_rules.specs.ClientReplies.{on_reply}
use Rattle.client_core.specs.Answers.{progress_in}
use Rattle.client_core.specs.declared.progress.Progress.{Progress}
use Rattle.client_core.specs.declared.progress.Progress.TheVariants as progress
use Rattle.kept_machine.specs.declared.fault.KeepFault.{KeepFault}
use Rattle.client_restart.specs.Keeps.{KeepsNote, sight}
use Rattle.client_restart.specs.Notes.{Heard}
use Rattle.client_restart.specs.Steps as kept
use Rattle.client_restart.specs.Steps.{CoreState}
use Rattle.node_client.proofs.TurnLaws.{steps_left, FaresBy, fares}
use Rattle.node_exchange.specs.Exchanging.{CountBy}
use Rattle.node_exchange.specs.declared.exchanging.Broken.{Broken}
use Rattle.node_exchange.specs.declared.exchanging.Broken.TheVariants as broken
use Rattle.node_journal.specs.Disk.{DiskSeen}
use Rattle.desk_tries.specs.declared.sending.Next.{Next}
use Rattle.desk_tries.specs.declared.sending.Next.TheVariants as next
use Rattle.desk_tries.specs.Steps.{turn_of}
use Rattle.kept_errands.specs.Steps.{NetFaultBy}
use Rattle.kept_errands.specs.declared.halt.Halt.{Halt}
use Rattle.kept_errands.specs.declared.halt.Halt.TheVariants as halt
use Rattle.kept_errands.proofs.OnwardLaws.{step_sends}
use Rattle.desk_outbox.specs.Answers.{answered, answer_to, halts, stop_to}
use Rattle.desk_outbox.specs.Outboxes.{OutboxState}
use Rattle.desk_outbox.specs.Places.{is_under_way}
use Rattle.desk_outbox.specs.declared.place.Place.{Place}
use Rattle.desk_outbox.specs.Works.{Does, DoesNext, Ends, GoesOn, Onward, then, Readies, Steps, Works, state_of, then_next}
use Rattle.desk_outbox.proofs.AnswerLaws.{goes_on_only, lost_again}

-- ---- the net's faults

net_then : {T : Type 0} (n : Next) (done : Result T KeepFault) (a b : ℕ) → b ≡ a → NetFaultBy (then_next n done) a b
net_then n (Ok x) a b e = e
net_then n (Err f) a b e = e

-- a stop that is no fault
net_stop : (p : Progress) (a b : ℕ) → b ≡ a → NetFaultBy {T = Next} (Err (halt.Stop (stop_to p))) a b
net_stop (progress.Later r) a b e = e
net_stop progress.Next a b e = e
net_stop (progress.Finished o) a b e = e
net_stop progress.Ignored a b e = e

told_net : (r q : Result Next Halt) (a b : ℕ) → r ≡ q → NetFaultBy q a b → NetFaultBy r a b
told_net r q a b e f = subst (λ (x : Result Next Halt). NetFaultBy x a b) (sym e) f

heard_net_by : {D : Type 0} (shows : D → DiskSeen) (counts : D → Seen) (bytes : List ℕ) (n : Next) (place : Place) (old new : OutboxState D) (r : Result Next Halt) (a b : ℕ)
    → DoesNext shows counts (Ok bytes) n place old new r → b ≡ a → NetFaultBy r a b
heard_net_by shows counts bytes next.GoOn place old new r a b d e = told_net r _ a b d.told (net_then next.GoOn d.heard a b e)
heard_net_by shows counts bytes next.SameAgain place old new r a b d e = told_net r _ a b d.1 (net_stop (progress_in (on_reply old.kept.core.client bytes).progress) a b e)
heard_net_by shows counts bytes next.NewTry place old new r a b d e = told_net r _ a b d.told (net_then place.next d.noted a b e)
heard_net_by shows counts bytes next.NextAddress place old new r a b d e = told_net r _ a b d.told (net_then place.next d.noted a b e)
heard_net_by shows counts bytes (next.Stop x) place old new r a b d e = told_net r _ a b d.told (net_then place.next d.noted a b e)

pub heard_net : {D : Type 0} (shows : D → DiskSeen) (counts : D → Seen) (bytes : List ℕ) (old new : OutboxState D) (r : Result Next Halt) (a b : ℕ)
    → Does shows counts (Ok bytes) old new r → b ≡ a → NetFaultBy r a b
heard_net shows counts bytes old new r a b d e = heard_net_by shows counts bytes _ _ old new r a b d e

wrong_net_by : {D : Type 0} (shows : D → DiskSeen) (counts : D → Seen) (why : Broken) (n : Next) (place : Place) (old new : OutboxState D) (r : Result Next Halt) (a b : ℕ)
    → NetFaultBy {T = Next} (Err (halt.Stop (halts old.kept.core.client (Err why)))) a b → DoesNext shows counts (Err why) n place old new r → b ≡ a → NetFaultBy r a b
wrong_net_by shows counts why next.GoOn place old new r a b f d e = told_net r _ a b d.1 f
wrong_net_by shows counts why next.SameAgain place old new r a b f d e = told_net r _ a b d.1 f
wrong_net_by shows counts why next.NewTry place old new r a b f d e = told_net r _ a b d.told (net_then place.next d.noted a b e)
wrong_net_by shows counts why next.NextAddress place old new r a b f d e = told_net r _ a b d.told (net_then place.next d.noted a b e)
wrong_net_by shows counts why (next.Stop x) place old new r a b f d e = told_net r _ a b d.told (net_then place.next d.noted a b e)

lost_so : {D : Type 0} (shows : D → DiskSeen) (counts : D → Seen) (why : Broken) (n : Next) (place : Place) (old new : OutboxState D) (r : Result Next Halt)
    → n ≡ next.SameAgain → DoesNext shows counts (Err why) n place old new r → r ≡ Err (halt.Stop (halts old.kept.core.client (Err why)))
lost_so shows counts why n place old new r e d = let so = subst (λ (x : Next). DoesNext shows counts (Err why) x place old new r) e d in so.1

pub missed_net : {D : Type 0} (shows : D → DiskSeen) (counts : D → Seen) (why : Broken) (old new : OutboxState D) (r : Result Next Halt) (a b : ℕ)
    → Does shows counts (Err why) old new r → CountBy (Err why) a b → NetFaultBy r a b
missed_net shows counts (broken.Fault count) old new r a b d e = told_net r _ a b (lost_so shows counts (broken.Fault count) _ _ old new r (lost_again (state_of old)) d) e
missed_net shows counts (broken.Early count) old new r a b d e = told_net r _ a b (lost_so shows counts (broken.Early count) _ _ old new r (lost_again (state_of old)) d) e
missed_net shows counts (broken.Wrong fault) old new r a b d e = wrong_net_by shows counts (broken.Wrong fault) _ _ old new r a b e d e

-- ---- a step after which the try goes on

-- a reply that fits was heard
pub record WentOn {D : Type 0} (n : Next) (answer : Result (List ℕ) Broken) (old new : OutboxState D) : Type 0 where
  pub bytes : List ℕ
  pub frame : answer ≡ Ok bytes
  pub on : n ≡ next.GoOn
  pub core : new.kept.core ≡ kept.heard old.kept.core bytes

not_then : {T : Type 0} (n : Next) (done : Result T KeepFault) → n ≢ next.GoOn → Ok next.GoOn ≡ then_next n done → ⊥
not_then n (Ok x) other e = let same : next.GoOn ≡ n = cc e in other (sym same)
not_then n (Err f) other e = absurd (cc e)

ended_not : {D : Type 0} (shows : D → DiskSeen) (counts : D → Seen) (n : Next) (place : Place) (old new : OutboxState D) → place.next ≡ n → n ≢ next.GoOn
    → Ends shows counts place old new (Ok next.GoOn) → ⊥
ended_not shows counts n place old new is other d = not_then place.next d.noted (λ e. other (sym is ∙ e)) d.told

on_core : {D : Type 0} (shows : D → DiskSeen) (counts : D → Seen) (bytes : List ℕ) (old new : OutboxState D) (done : Result Progress KeepFault)
    → (g : GoesOn shows counts bytes old new (Ok next.GoOn)) → g.heard ≡ done → Ok next.GoOn ≡ then_next next.GoOn done → new.kept.core ≡ kept.heard old.kept.core bytes
on_core shows counts bytes old new (Ok p) g is e = (subst (λ (x : Result Progress KeepFault). KeepsNote (Heard bytes) (sight shows counts old.kept) (sight shows counts new.kept) x) is g.keeps).step
on_core shows counts bytes old new (Err f) g is e = absurd (cc e)

went_on_by : {D : Type 0} (shows : D → DiskSeen) (counts : D → Seen) (answer : Result (List ℕ) Broken) (n : Next) (place : Place) (old new : OutboxState D)
    → place.next ≡ n → DoesNext shows counts answer n place old new (Ok next.GoOn) → WentOn n answer old new
went_on_by shows counts (Ok bytes) next.GoOn place old new is d =
    record { bytes = bytes; frame = refl; on = refl; core = on_core shows counts bytes old new d.heard d refl d.told }
went_on_by shows counts (Err why) next.GoOn place old new is d = let e = d.1 in absurd (cc e)
went_on_by shows counts answer next.SameAgain place old new is d = let e = d.1 in absurd (cc e)
went_on_by shows counts answer next.NewTry place old new is d = absurd (ended_not shows counts next.NewTry place old new is (λ e. absurd (cc e)) d)
went_on_by shows counts answer next.NextAddress place old new is d = absurd (ended_not shows counts next.NextAddress place old new is (λ e. absurd (cc e)) d)
went_on_by shows counts answer (next.Stop x) place old new is d = absurd (ended_not shows counts (next.Stop x) place old new is (λ e. absurd (cc e)) d)

steps_next : (p : steps.Progress) → progress_in p ≡ progress.Next → p ≡ steps.Next
steps_next steps.Next e = refl
steps_next (steps.Finished outcome) e = absurd (cc e)
steps_next (steps.Later refusal) e = absurd (cc e)
steps_next steps.Ignored e = absurd (cc e)

nearer_by : (c : Client) (bytes : List ℕ) → sends c ≢ None → (on_reply c bytes).progress ≡ steps.Next → steps_left (on_reply c bytes).client < steps_left c
nearer_by c bytes n e = (subst (λ (p : steps.Progress). FaresBy p c (on_reply c bytes).client) e (fares c bytes n)).1

-- the frame fitted, so the next step is nearer to the last
heard_nearer : {D : Type 0} (shows : D → DiskSeen) (counts : D → Seen) (bytes : List ℕ) (old new : OutboxState D) → sends old.kept.core.client ≢ None
    → (turn_of (state_of old) (answer_to (progress_in (on_reply old.kept.core.client bytes).progress))).next ≡ next.GoOn → new.kept.core ≡ kept.heard old.kept.core bytes
    → steps_left new.kept.core.client < steps_left old.kept.core.client
heard_nearer shows counts bytes old new n on core =
    let fits = steps_next _ (goes_on_only (state_of old) _ on) in
    subst (λ (k : CoreState). steps_left k.client < steps_left old.kept.core.client) (sym core) (nearer_by old.kept.core.client bytes n fits)

went_nearer : {D : Type 0} (shows : D → DiskSeen) (counts : D → Seen) (answer : Result (List ℕ) Broken) (old new : OutboxState D) → sends old.kept.core.client ≢ None
    → WentOn (turn_of (state_of old) (answered old.kept.core.client answer)).next answer old new → steps_left new.kept.core.client < steps_left old.kept.core.client
went_nearer shows counts answer old new n w =
    let on : (turn_of (state_of old) (answered old.kept.core.client (Ok w.bytes))).next ≡ next.GoOn
    = ap (λ (x : Result (List ℕ) Broken). (turn_of (state_of old) (answered old.kept.core.client x)).next) (sym w.frame) ∙ w.on in
    heard_nearer shows counts w.bytes old new n on w.core

readied_same : {D : Type 0} (shows : D → DiskSeen) (counts : D → Seen) (old sent : OutboxState D) → Readies shows counts old sent (Ok tt) → sent.kept.core.client ≡ old.kept.core.client
readied_same {D} shows counts old sent (inl (ok, same)) = ap (λ (o : OutboxState D). o.kept.core.client) same
readied_same shows counts old sent (inr first) = ap (λ (k : CoreState). k.client) first.notes.keeps.step

pub nearer : {D : Type 0} (shows : D → DiskSeen) (counts : D → Seen) (old new : OutboxState D) (a b : Option (List Call))
    → Steps shows counts old new (Ok next.GoOn) a b → steps_left new.kept.core.client < steps_left old.kept.core.client
nearer shows counts old new a b (inl miss) = let e = miss.told in absurd (cc e)
nearer shows counts old new a b (inr s) =
    let talk = s.talks.talked in
    let w = went_on_by shows counts s.talks.answer _ _ s.sent new refl s.talks.does in
    subst (λ (c : Client). steps_left new.kept.core.client < steps_left c) (readied_same shows counts old s.sent s.readied)
    (went_nearer shows counts s.talks.answer s.sent new (step_sends s.sent.kept.core.client talk.talk talk.is_step) w)

-- ---- steps one after another

pub worked_on : {D : Type 0} (shows : D → DiskSeen) (counts : D → Seen) (start o new : OutboxState D) (a b c : Option (List Call))
    → Onward shows counts start a o b → is_under_way o.place.next ≡ true → Steps shows counts o new (Ok next.GoOn) b c → Onward shows counts start a new c
worked_on shows counts start o new a b c w u s = then o new b c w u s

pub over_so : {D : Type 0} (shows : D → DiskSeen) (counts : D → Seen) (start o : OutboxState D) (a b : Option (List Call))
    → Onward shows counts start a o b → is_under_way o.place.next ≡ false → Works shows counts start o (Ok o.place.next) a b
over_so shows counts start o a b w u =
    record { last = o; mid = b; onward = w; ends = inl (record { over = u; told = refl; same = refl; silent = refl }) }

pub stops_so : {D : Type 0} (shows : D → DiskSeen) (counts : D → Seen) (start o new : OutboxState D) (r : Result Next Halt) (a b c : Option (List Call))
    → Onward shows counts start a o b → is_under_way o.place.next ≡ true → r ≢ Ok next.GoOn → Steps shows counts o new r b c → Works shows counts start new r a c
stops_so shows counts start o new r a b c w u other s =
    record { last = o; mid = b; onward = w; ends = inr (record { under_way = u; over = other; step = s }) }
