use Rattle.std.proofs.Common.{◌≡◌, ℕ, ◌<◌, ◌++◌, List, get_or, take, drop, length, ap, ◌∙◌, arith, length-append, replicate}
use Rattle.std.proofs.lemmas.List.{get_or-map, get_or_append_left, get_or-take, length-take-le}
use Rattle.chacha_expand.specs.Challenges.{challenge_at}
use Rattle.write_sketch.proofs.eight.challenges_from.Goals as goal

pub returns : goal.returns
returns c j h there =
    let key = c.args.ckey.now in
    let places = c.args.addresses.now in
    let count = c.min-count.result in
    let front = c.copy_from_slice.new.self in
    let rest : List ℕ = drop count (replicate 8 0) in
    let few : j < count = omega (arith, c.min-count.ensures) in
    let copied : front ≡ take count places = c.copy_from_slice.ensures.after in
    let size : length front ≡ count = ap length copied ∙ length-take-le count places (omega (arith, c.min-count.ensures)) in
    let inside : j < length (front ++ rest) = omega (arith, length-append front rest) in
    ap (λ ps. get_or ps j (0, 0)) c.challenge8.ensures
    ∙ get_or-map (challenge_at key) (front ++ rest) j 0 (0, 0) inside
    ∙ ap (challenge_at key) (get_or_append_left front rest 0 j (omega arith) ∙ ap (λ (xs : List ℕ). get_or xs j 0) copied ∙ get_or-take count places j 0 few)
