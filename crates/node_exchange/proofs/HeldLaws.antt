-- What is handed on of the bytes that a connection gave.
use Rattle.std.proofs.Common.{◌≡◌, ℕ, List, [], length, sym, ap, ◌∙◌, subst, arith}
use Rattle.std.proofs.lemmas.List.{append-nil, length-append}
use Rattle.frame_rules.specs.Gathering.{gathered, Gathers}
use Rattle.frame_rules.proofs.GatheringLaws.{gathers}
use Rattle.frame_rules.proofs.GrammarLaws.{decoded_whole}
use Rattle.frame_rules.proofs.Growing.{Settles, decoded_grows}
use Rattle.node_exchange.specs.Taking.{EndsBy}
use Rattle.node_exchange.specs.declared.reading.Reading.{Reading}

-- Bytes that were fed to what held nothing: those behind what is held change nothing.
pub ends_fed : (r : Reading) (given before held : List ℕ) → held ≡ gathered before given → before ≡ [] → EndsBy r given → EndsBy r held
unfolding Settles
ends_fed r given before held is none ends =
    let g : Gathers given held = subst (Gathers given) (sym (is ∙ ap (λ (x : List ℕ). gathered x given) none)) (gathers given) in
    grind (arith, decoded_grows held g.rest, append-nil held, decoded_whole held, ap length g.front, length-append held g.rest)
