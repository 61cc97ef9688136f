-- What holds of the events of a run that a hub tells.
use Rattle.std.proofs.Common.{◌≡◌, List, ◌∷◌, ◌++◌}
use Rattle.std.specs.Prelude.{Some}
use Rattle.many_words.specs.Events.{Event}
use Rattle.many_conns.specs.Rules.{Rules}
use Rattle.many_conns.specs.Hall.{Hall, Leads, Runs, idle}
use Rattle.gated_runs.specs.Tickets.{Since}

behind : (a b : Event) (xs ys zs : List Event) → b ∷ ys ≡ a ∷ (xs ++ zs) → ys ≡ xs ++ zs
behind a b xs ys zs is = cc

pub since : {S : Type 0} (rules : Rules S) (a b : Event) (xs ys : List Event) (h t : Hall S)
    → Leads rules (Some (a ∷ xs)) (Some (b ∷ ys)) h t → (P : List Event → Type 0)
    → ((events : List Event) → Runs rules (idle h) events (idle t) → P events) → Since xs ys P
since rules a b xs ys h t leads P each =
    (leads.0, behind a b xs ys leads.0 leads.1, each leads.0 leads.2)
