-- One call more.
use Rattle.std.proofs.Common.{◌≡◌, List, [], ◌∷◌, ◌++◌, refl, sym, ◌∙◌, ap}
use Rattle.many_words.specs.Events.{Event}
use Rattle.server_status.specs.declared.tally.Tally.{Tally}
use Rattle.server_status.specs.Tallies.{counted, none, tallied, tallied_from}

from_snoc : (t : Tally) (events : List Event) (e : Event)
    → tallied_from t (events ++ e ∷ []) ≡ counted (tallied_from t events) e
from_snoc t [] e = refl
from_snoc t (x ∷ events) e = from_snoc (counted t x) events e

pub tallied_snoc : (events : List Event) (e : Event) → tallied (events ++ e ∷ []) ≡ counted (tallied events) e
tallied_snoc events e = from_snoc none events e

-- a tally that goes on with the call
pub goes_on : (events now : List Event) (e : Event) (t u : Tally) → now ≡ events ++ e ∷ []
    → t ≡ tallied events → u ≡ counted t e → u ≡ tallied now
goes_on events now e t u is was counts =
    counts ∙ ap (λ k. counted k e) was ∙ sym (tallied_snoc events e) ∙ sym (ap tallied is)
