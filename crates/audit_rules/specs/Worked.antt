-- Three small sketches and one small proof, worked out.
use Rattle.std.specs.Prelude.{◌≡◌, ℕ, ◌^◌, ◌<◌, ◌↔◌, List, [], ◌∷◌, bit_xor}
use Rattle.tower_laws.specs.Polynomials.{times_of}
use Rattle.express_words.specs.declared.audit.ProofShare.{ProofShare}
use Rattle.express_words.specs.declared.audit.Openings.{Openings}
use Rattle.express_words.specs.declared.audit.Closing.{Closing}
use Rattle.audit_rules.specs.declared.sums.Sums.{Sums}
use Rattle.audit_rules.specs.Sketch as sketch
use Rattle.audit_rules.specs.Audit.{product, sums_of, f_of, g_of, bad_s, opening_of, closing_of}

-- ---- sketches

-- what the sketch of w comes to, under the challenge vectors r and s: a write passes where it is zero
abbrev pub verdict : List ℕ → List ℕ → List ℕ → ℕ
verdict w r s = sketch.verdict 0 bit_xor product w r s

abbrev pub three_ones : List ℕ
three_ones = 1 ∷ (1 ∷ (1 ∷ []))

abbrev pub one_two_zero : List ℕ
one_two_zero = 1 ∷ (2 ∷ (0 ∷ []))

-- a vector with three places that aren't zero is caught by two challenge vectors
abbrev pub ThreeOnesAreCaught : Type 0
ThreeOnesAreCaught =
    let s : List ℕ = 1 ∷ (0 ∷ (0 ∷ [])) in
    (sums_of three_ones one_two_zero s ≡ record { x = 3; y = 1; m = 1; z = 1 })
    × (verdict three_ones one_two_zero s ≡ 2)

-- the same vector passes where one challenge vector serves for both, so that squares are summed
abbrev pub SquaresHideThreeOnes : Type 0
SquaresHideThreeOnes =
    (sums_of three_ones one_two_zero one_two_zero ≡ record { x = 3; y = 3; m = 1; z = 2 })
    × (verdict three_ones one_two_zero one_two_zero ≡ 0)

-- for two ones, the bad value of s at the second is 1 where s at the first is 1
abbrev pub OneIsTheBadValue : Type 0
OneIsTheBadValue = (s1 : ℕ) → bad_s (1 ∷ (1 ∷ [])) (1 ∷ (s1 ∷ [])) 0 1 ≡ 1

-- and with it they pass, whatever r is
abbrev pub TwoOnesAreHidden : Type 0
TwoOnesAreHidden =
    (r0 r1 : ℕ) → r0 < 2 ^ 128 → r1 < 2 ^ 128 →
    verdict (1 ∷ (1 ∷ [])) (r0 ∷ (r1 ∷ [])) (1 ∷ (1 ∷ [])) ≡ 0

-- ---- a proof

-- the sums of a vector whose one value, 1, stands where the challenge is 2 and 3
abbrev pub worked_sums : Sums
worked_sums = record { x = 2; y = 3; m = 1; z = 1 }

-- a proof of them with no masks and a and b of 1: by this constant of h and this c
abbrev pub worked_share : ℕ → ℕ → ProofShare
worked_share constant c =
    record { u = 0; v = 0; h = constant ∷ (0 ∷ (0 ∷ (1 ∷ (0 ∷ [])))); a = 1; b = 1; c = c }

-- the product of f and g
abbrev pub worked_product : List ℕ
worked_product =
    times_of 0 bit_xor product (f_of worked_sums (worked_share 0 1)) (g_of worked_sums (worked_share 0 1))

-- what one server alone opens and closes of it at a point
abbrev pub worked_opening : ℕ → ℕ → ℕ → Openings
worked_opening constant c sigma = opening_of worked_sums (worked_share constant c) sigma

abbrev pub worked_closing : ℕ → ℕ → ℕ → Closing
worked_closing constant c sigma =
    closing_of 0 (worked_share constant c) sigma (worked_opening constant c sigma)

-- the right proof, whose h is the product of f and g, passes at 4
pub record RightProofPasses : Type 0 where
  pub product : worked_product ≡ (worked_share 0 1).h
  pub opened : worked_opening 0 1 4 ≡ record { d = 15; e = 6 }
  pub closed : worked_closing 0 1 4 ≡ record { o = 0; tau = 0 }

-- with another constant of h it doesn't
abbrev pub WrongConstantIsRefused : Type 0
WrongConstantIsRefused = worked_closing 1 1 4 ≡ record { o = 0; tau = 4 }

-- a wrong c hides that at 4, and at no other point
abbrev pub WrongTripleHidesAtOnePoint : Type 0
WrongTripleHidesAtOnePoint =
    (sigma : ℕ) → sigma < 2 ^ 128 → ((worked_closing 1 5 sigma).tau ≡ 0) ↔ (sigma ≡ 4)
