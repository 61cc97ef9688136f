use Rattle.std.proofs.Common.{◌≡◌, ℕ, suc, ◌+◌, ◌<◌, Bool, true, false, cond, List, ◌∷◌, drop, length, get_or, Option, Some, sym, ap, ◌∙◌, arith, add-one}
use Rattle.std.specs.Prelude.{option_map}
use Rattle.std.proofs.Math.Seq.{drop-cons}
use Rattle.std.proofs.lemmas.List.{drop_all}
use Rattle.run_rules.specs.Letters as run
use Rattle.run_rules.specs.Run.{is_for, last_for}
use Rattle.replay_world.specs.declared.pool.Letter.{Letter}
use Rattle.replay_world.specs.Parts.{addressee_in, letter_in, pool_in}
use Rattle.replay_world.proofs.pool.last_for.Goals as goal
use Rattle.replay_world.proofs.pool.last_for.Goals.{then-is_for, else-is_for}

drops : (xs : List Letter) (i : ℕ) (x : Letter) → i < length xs → x ≡ get_or xs i x → drop i xs ≡ x ∷ drop (i + 1) xs
drops xs i x lt is = rw add-one (drop-cons xs i x lt ∙ ap (λ y. y ∷ drop (suc i) xs) (sym is))

next : (lane : ℕ) (found : Option run.Letter) (xs : List Letter) (i : ℕ) (x : Letter) (t : Bool) → i < length xs → x ≡ get_or xs i x → t ≡ is_for lane (addressee_in x.to)
    → last_for lane (cond t (Some (letter_in x)) found) (pool_in (drop (i + 1) xs)) ≡ last_for lane found (pool_in (drop i xs))
unfolding last_for
next lane found xs i x t lt is e =
    ap (λ b. last_for lane (cond b (Some (letter_in x)) found) (pool_in (drop (i + 1) xs))) e
    ∙ sym (ap (λ (ys : List Letter). last_for lane found (pool_in ys)) (drops xs i x lt is))

none_left : (lane : ℕ) (found : Option run.Letter) (xs : List Letter) (i : ℕ) → length xs ≡ i → last_for lane found (pool_in (drop i xs)) ≡ found
unfolding last_for
none_left lane found xs i e = ap (λ (ys : List Letter). last_for lane found (pool_in ys)) (drop_all i xs (omega arith))

pub loop-letter-preserved : goal.loop-letter-preserved
loop-letter-preserved c =
    let xs = c.args.letters.now in
    let i = c.loop-letter.letter-index in
    let found = option_map (λ l. letter_in l.now) c.loop-letter.found in
    let rest = pool_in (drop (i + 1) xs) in
    let step = λ (t : Bool) (e : t ≡ c.is_for.result). next c.args.lane found xs i c.letter-item.result t (omega arith) c.letter-item.is (e ∙ c.is_for.ensures) ∙ c.loop-letter.invariant in
    elim c.if-is_for.branch [
      | then-is_for w ↦ ap (λ o. last_for c.args.lane (option_map (λ l. letter_in l.now) o) rest) w.found-is ∙ step true (sym w.if-is_for.true)
      | else-is_for w ↦ ap (λ o. last_for c.args.lane (option_map (λ l. letter_in l.now) o) rest) w.found-is ∙ step false (sym w.if-is_for.false)
    ]

pub returns : goal.returns
returns c =
    sym (none_left c.args.lane (option_map (λ l. letter_in l.now) c.loop-letter.found) c.args.letters.now c.loop-letter.letter-index (omega arith))
    ∙ c.loop-letter.invariant
