-- The places of live boxes.
use Rattle.std.proofs.Common.{◌≡◌, ℕ, suc, ◌+◌, ◌-◌, ◌≤◌, Bool, List, [], ◌∷◌, ◌++◌, length, take, drop, ap}
use Rattle.std.proofs.Common.{◌∙◌, false, arith}
use Rattle.std.proofs.Math.Seq.{take-length}
use Rattle.std.proofs.lemmas.List.{append_assoc}
use Rattle.std.specs.Prelude.{get_or}
use Rattle.kept_ledger.specs.declared.entry.LedgerBox.{LedgerBox}
use Rattle.kept_ledger.specs.Tasks.{place_if, places_of}

abbrev pub no_box : LedgerBox
no_box = record { address = 0; number = 0; serial = 0; is_retired = false }

minus_one : (n : ℕ) → suc n - 1 ≡ n
minus_one n = omega arith

tail_is : (b : LedgerBox) (behind : List LedgerBox)
    → take (length (b ∷ behind) - 1) (drop 1 (b ∷ behind)) ≡ behind
tail_is b behind = ap (λ (n : ℕ). take n behind) (minus_one (length behind)) ∙ take-length behind

pub one_more_place : (is : LedgerBox → Bool) (own : ℕ) (live more all : List ℕ) (rest : List LedgerBox)
    (hit : Bool) → 1 ≤ length rest
    → hit ≡ is (get_or rest 0 no_box) → live ++ places_of is own rest ≡ all
    → more ≡ live ++ place_if hit own
    → more ++ places_of is (own + 1) (take (length rest - 1) (drop 1 rest)) ≡ all
one_more_place is own live more all [] hit some e same next = absurd (omega (arith, some))
one_more_place is own live more all (b ∷ behind) hit some e same next =
    let found : more ≡ live ++ place_if (is b) own = next ∙ ap (λ (x : Bool). live ++ place_if x own) e in
    ap (λ (l : List LedgerBox). more ++ places_of is (own + 1) l) (tail_is b behind)
    ∙ ap (λ (l : List ℕ). l ++ places_of is (own + 1) behind) found
    ∙ append_assoc live (place_if (is b) own) (places_of is (own + 1) behind) ∙ same

pub counted_on : (own all : ℕ) (rest : List LedgerBox) → 1 ≤ length rest → own + length rest ≡ all
    → own + 1 + length (take (length rest - 1) (drop 1 rest)) ≡ all
counted_on own all [] some e = absurd (omega (arith, some))
counted_on own all (b ∷ behind) some e =
    let n : length (take (length (b ∷ behind) - 1) (drop 1 (b ∷ behind))) ≡ length behind =
    ap (λ (l : List LedgerBox). length l) (tail_is b behind) in omega (arith, e, n)
