-- Events that lead from one state to another.
use Rattle.std.proofs.Common.{◌≡◌, ℕ, List, [], ◌∷◌, ◌++◌, append_assoc, append-nil, map, refl, sym, ap, ◌∙◌, subst}
use Rattle.std.specs.Prelude.{Option, Some, None}
use Rattle.many_words.specs.declared.door.Door.{Door}
use Rattle.many_words.specs.Events.{Event, Adds, Waited, Opened, Asked, Came, Ended, Blocked, Closed, Dropped, Logged, LogFailed, Unanswered, Sent, SentAgain}
use Rattle.many_conns.specs.Rules.{Rules}
use Rattle.many_conns.specs.Routes.{Resends, resent_at}
use Rattle.many_conns.specs.Hall.{Hall, State, Acts, Goes, Opens, Steps, Runs, Leads, again_after, idle, sending_of}

pub runs_then : {S : Type 0} (rules : Rules S) (h m t : State S) (xs ys : List Event)
    → Runs rules h xs m → Runs rules m ys t → Runs rules h (xs ++ ys) t
runs_then rules h m t [] ys one two = subst (λ k. Runs rules k ys t) one two
runs_then rules h m t (x ∷ xs) ys one two = (one.0, one.1, runs_then rules one.0 m t xs ys one.2 two)

step_of : {S : Type 0} (rules : Rules S) (s t : State S) (e : Event) → Goes rules s e t → Steps rules s e t
step_of rules s t (Waited now) goes = goes
step_of rules s t (Opened place door) goes = goes
step_of rules s t (Asked place door) goes = goes
step_of rules s t (Came place bytes) goes = goes
step_of rules s t (Ended place) goes = goes
step_of rules s t (Blocked place) goes = goes
step_of rules s t (Closed place) goes = goes
step_of rules s t (Dropped place) goes = goes
step_of rules s t (Logged entries) goes = goes
step_of rules s t LogFailed goes = goes
step_of rules s t (Unanswered place) goes = goes
step_of rules s t (Sent place bytes) goes = goes
step_of rules s t (SentAgain place bytes) goes = absurd goes.acts

pub leads_none : {S : Type 0} (rules : Rules S) (told : Option (List Event)) (h : Hall S)
    → Leads rules told told h h
leads_none rules None h = tt
leads_none rules (Some xs) h = ([], sym (append-nil xs), refl)

-- one event, behind which nothing is to be sent again
pub leads_one : {S : Type 0} (rules : Rules S) (old new : Option (List Event)) (h t : Hall S) (e : Event)
    → Adds old new e → again_after rules h.server e ≡ [] → Acts rules h e t → Leads rules old new h t
leads_one rules old None h t e adds none step = tt
leads_one rules None (Some new) h t e adds none step = adds
leads_one rules (Some old) (Some new) h t e adds none step = (
  e ∷ [],
  adds,
  (idle t, step_of rules (idle h) (idle t) e (record { nothing_again = refl; acts = step; again = sym none }), refl),
)

-- commands that are sent again, one after another
resend_runs : {S : Type 0} (rules : Rules S) (t : Hall S) (place : ℕ) (commands : List (List ℕ))
    → Runs rules (record { hall = t; again = map (sending_of place) commands }) (map (SentAgain place) commands) (idle t)
resend_runs rules t place [] = refl
resend_runs rules t place (bytes ∷ commands) = (
  record { hall = t; again = map (sending_of place) commands },
  record { rest = map (sending_of place) commands; first = refl; is = refl },
  resend_runs rules t place commands,
)

-- a connection is opened, and what is unanswered is sent again on it
pub leads_opened : {S : Type 0} (rules : Rules S) (old mid new : Option (List Event)) (h t : Hall S) (place : ℕ) (door : Door)
    → Adds old mid (Opened place door) → Opens h place door t → Resends mid new place (resent_at door (rules.outstanding h.server))
    → Leads rules old new h t
leads_opened rules old mid None h t place door adds opens resends = tt
leads_opened rules old None (Some new) h t place door adds opens resends = absurd resends
leads_opened rules None (Some mid) (Some new) h t place door adds opens resends = adds
leads_opened rules (Some old) (Some mid) (Some new) h t place door adds opens resends =
    let commands = resent_at door (rules.outstanding h.server) in (
      Opened place door ∷ map (SentAgain place) commands,
      resends ∙ (ap (λ k. k ++ map (SentAgain place) commands) adds ∙ append_assoc old (Opened place door ∷ []) (map (SentAgain place) commands)),
      (
        record { hall = t; again = map (sending_of place) commands },
        record { nothing_again = refl; acts = opens; again = refl },
        resend_runs rules t place commands,
      ),
    )

pub leads_then : {S : Type 0} (rules : Rules S) (old mid new : Option (List Event)) (h m t : Hall S)
    → Leads rules old mid h m → Leads rules mid new m t → Leads rules old new h t
leads_then rules old mid None h m t one two = tt
leads_then rules old None (Some new) h m t one two = absurd two
leads_then rules None (Some mid) (Some new) h m t one two = one
leads_then rules (Some old) (Some mid) (Some new) h m t one two = (
  one.0 ++ two.0,
  two.1 ∙ (ap (λ k. k ++ two.0) one.1 ∙ append_assoc old one.0 two.0),
  runs_then rules (idle h) (idle m) (idle t) one.0 two.0 one.2 two.2,
)
