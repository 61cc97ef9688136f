-- One part after another.
use Rattle.std.proofs.Common.{◌≡◌, ◌≤◌, ◌-◌, ◌+◌, ◌*◌, ◌&&◌, ℕ, suc, zero, List, take, drop, Bool, true, false, ap, sym, ◌∙◌, arith}
use Rattle.std.specs.List.{list_any}
use Rattle.letter_copies.specs.declared.standing.Standing.{Standing}
use Rattle.letter_copies.specs.Copies.{all_written, is_written}

-- whether each of these parts is written: the first, and each behind it
abbrev first_and_rest : (parts each : ℕ) → List Standing → Bool
first_and_rest parts each standings =
    list_any is_written (take each standings) && all_written parts each (drop each standings)

all_next : (parts each : ℕ) (standings : List Standing) → 1 ≤ parts
    → all_written parts each standings ≡ first_and_rest (parts - 1) each standings
unfolding all_written
all_next zero each standings some = absurd (omega (arith, some))
all_next (suc parts) each standings some =
    let one : parts ≡ suc parts - 1 = omega arith in
    ap (λ n. first_and_rest n each standings) one

-- the next part isn't written
pub all_without : (parts each : ℕ) (standings part : List Standing) → 1 ≤ parts → part ≡ take each standings
    → list_any is_written part ≡ false → all_written parts each standings ≡ false
all_without parts each standings part some is none =
    all_next parts each standings some
    ∙ ap (λ b. b && all_written (parts - 1) each (drop each standings)) (ap (list_any is_written) (sym is) ∙ none)

-- it is
pub all_with : (parts left each : ℕ) (standings part behind : List Standing) → parts ≡ left + 1
    → part ≡ take each standings → behind ≡ drop each standings → list_any is_written part ≡ true
    → all_written parts each standings ≡ all_written left each behind
all_with parts left each standings part behind count is rest some =
    all_next parts each standings (omega (arith, count))
    ∙ ap (λ b. b && all_written (parts - 1) each (drop each standings)) (ap (list_any is_written) (sym is) ∙ some)
    ∙ ap (λ n. all_written n each (drop each standings)) (let e : parts - 1 ≡ left = omega (arith, count) in e)
    ∙ ap (all_written left each) (sym rest)

-- how many copies the parts behind the first have
pub behind_length : (parts left each before behind : ℕ) → parts ≡ left + 1 → before ≡ parts * each
    → behind + each ≡ before → behind ≡ left * each
behind_length parts left each before behind count length_is rest =
    let all : before ≡ left * each + each =
    length_is ∙ ap (λ n. n * each) count ∙ grind arith in
    omega (arith, all, rest)
