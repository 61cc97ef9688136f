-- The addresses of a sheet, one line after another.
use Rattle.std.proofs.Common.{◌≡◌, ℕ, suc, ◌+◌, ◌-◌, ◌<◌, List, [], ◌∷◌, ◌++◌, Result, Ok, Err, refl, sym, subst, arith}
use Rattle.std.specs.Prelude.{IsErrAnd}
use Rattle.express_texts.specs.Judging.{Gives}
use Rattle.express_texts.specs.declared.fault.TextFault.{TextFault}
use Rattle.express_texts.specs.declared.fault.TextFault.TheVariants.{Wrong, WrongKey, NoMemory}
use Rattle.desk_texts.specs.Sheets.{line_as, new_address, addresses_at}

pub step_ok : (count index place : ℕ) (said before : List ℕ) (lines : List (List ℕ)) (a : ℕ) (more : List ℕ)
    (rest : List (List ℕ)) → index < count → line_as place said (new_address before) lines ≡ Ok (a, more, rest)
    → addresses_at (count - index) place said before lines
    ≡ addresses_at (count - (index + 1)) (place + 1) more (before ++ a ∷ []) rest
unfolding addresses_at
step_ok count index place said before lines a more rest below is =
    let one : count - index ≡ suc (count - (index + 1)) = omega (arith, below) in rw (one, is) refl

pub step_err : (count index place : ℕ) (said before : List ℕ) (lines : List (List ℕ)) (n : ℕ) → index < count
    → line_as place said (new_address before) lines ≡ Err n
    → addresses_at (count - index) place said before lines ≡ Err n
unfolding addresses_at
step_err count index place said before lines n below is =
    let one : count - index ≡ suc (count - (index + 1)) = omega (arith, below) in rw (one, is) refl

pub end_ok : (room place : ℕ) (said before : List ℕ) (lines : List (List ℕ)) → room ≡ 0
    → addresses_at room place said before lines ≡ Ok before
unfolding addresses_at
end_ok room place said before lines none = rw none refl

-- a fault that is handed on
on_fault : {Y V W : Type 0} (other : V → W) (fault : TextFault) (r : Result Y ℕ) (s : Result W ℕ)
    → Gives (λ (y : Y). y) (Err fault) r → ((n : ℕ) → r ≡ Err n → s ≡ Err n) → Gives other (Err fault) s
on_fault other (Wrong n) r s h k = k n h
on_fault other (WrongKey key) r s h k = h
on_fault other NoMemory r s h k = tt

pub handed_on : {Y V W : Type 0} (other : V → W) (result : Result V TextFault) (fault : TextFault)
    (r : Result Y ℕ) (s : Result W ℕ) → IsErrAnd result (λ e. e ≡ fault) → Gives (λ (y : Y). y) (Err fault) r
    → ((n : ℕ) → r ≡ Err n → s ≡ Err n) → Gives other result s
handed_on other (Ok x) fault r s is h k = absurd is
handed_on {Y} {V} {W} other (Err e) fault r s is h k =
    on_fault other e r s (subst (λ (f : TextFault). Gives (λ (y : Y). y) (Err f) r) (sym is) h) k
