-- What the code read, in terms of spellings.
use Rattle.std.proofs.Common.{◌≡◌, ℕ, ◌<◌, ◌≤◌, List, length, take, drop, Result, Ok, Err, sym, ap, ◌∙◌, subst, arith}
use Rattle.std.specs.Prelude.{IfOk, IfErr}
use Rattle.std.proofs.lemmas.List.{take-append-drop, length-take, length-take-le}
use Rattle.frame_rules.specs.declared.frame.Frame.{Frame}
use Rattle.frame_rules.specs.declared.fault.FrameFault.{FrameFault}
use Rattle.frame_rules.specs.declared.fault.FrameFault.TheVariants.{Short}
use Rattle.frame_rules.specs.Frames.{PlainFrame, plain}
use Rattle.frame_rules.specs.Spelling.{Spells, spelling}
use Rattle.frame_rules.specs.Reading.{decoded, Reads}
use Rattle.frame_rules.specs.Fields.{fields, FirstWrong}
use Rattle.frame_rules.proofs.Digits.{IsBytes}
use Rattle.frame_rules.proofs.FieldLaws.{found}
use Rattle.frame_rules.proofs.GrammarLaws.{decoded_takes, spells_again}
use Rattle.frame_rules.proofs.Waiting.{decoded_short}

pub is_found : (bytes : List ℕ) (r : Result (Frame × ℕ) FrameFault) → IsBytes bytes → Reads r (decoded bytes) → IfOk r (λ x. Spells (plain x.0) (take x.1 bytes))
is_found bytes (Ok x) fits e = (decoded_takes bytes (plain x.0) x.1 fits e).spells
is_found bytes (Err d) fits e = tt

pub is_within : (bytes : List ℕ) (r : Result (Frame × ℕ) FrameFault) → IsBytes bytes → Reads r (decoded bytes) → IfOk r (λ x. (x.1 ≤ length bytes) × (x.1 ≤ 8213))
is_within bytes (Ok x) fits e = let d = decoded_takes bytes (plain x.0) x.1 fits e in (d.whole, d.most)
is_within bytes (Err d) fits e = tt

pub is_only : (bytes : List ℕ) (r : Result (Frame × ℕ) FrameFault) (f : PlainFrame) (len : ℕ) → len ≤ length bytes → Spells f (take len bytes) → Reads r (decoded bytes) → Reads r (Ok (f, len))
is_only bytes r f len le s e =
    let same : length (take len bytes) ≡ len = omega (arith, length-take len bytes) in
    let again : decoded bytes ≡ Ok (f, len) = ap decoded (sym (take-append-drop len bytes)) ∙ spells_again f (take len bytes) (drop len bytes) s ∙ ap (λ (n : ℕ). Ok (f, n)) same in
    subst (Reads r) again e

pub is_short : (r : Result (Frame × ℕ) FrameFault) → Reads r (Err Short) → r ≡ Err Short
is_short (Ok x) e = absurd cc
is_short (Err d) e = ap (λ x. Err x) (same d e) where
  same : (d : FrameFault) → (let r : Result (PlainFrame × ℕ) FrameFault = Err Short in r) ≡ Err d → d ≡ Short
  same d e = cc

pub is_long : (bytes : List ℕ) (r : Result (Frame × ℕ) FrameFault) → IsBytes bytes → Reads r (decoded bytes) → IfOk r (λ x. x.1 ≡ length (spelling (plain x.0)))
is_long bytes (Ok x) fits e =
    let d = decoded_takes bytes (plain x.0) x.1 fits e in
    sym (length-take-le x.1 bytes d.whole) ∙ ap length d.spells.spelled
is_long bytes (Err d) fits e = tt

pub is_wrong : (bytes : List ℕ) (r : Result (Frame × ℕ) FrameFault) → Reads r (decoded bytes) → IfErr r (λ d. (d ≡ Short → ⊥) → FirstWrong fields bytes d)
is_wrong bytes (Ok x) e = tt
is_wrong bytes (Err d) e = λ long. found bytes d e long

-- the only answer that a fault of the bytes has
pub is_only_wrong : (r : Result (Frame × ℕ) FrameFault) (d : FrameFault) → Reads r (Err d) → r ≡ Err d
is_only_wrong (Ok x) d e = absurd cc
is_only_wrong (Err c) d e = ap (λ x. Err x) (same c d e) where
  same : (c d : FrameFault) → (let r : Result (PlainFrame × ℕ) FrameFault = Err d in r) ≡ Err c → c ≡ d
  same c d e = cc

pub is_fewer : (bytes : List ℕ) (r : Result (Frame × ℕ) FrameFault) → Reads r (decoded bytes) → r ≡ Err Short → length bytes < 8213
is_fewer bytes (Ok x) e short = absurd cc
is_fewer bytes (Err d) e short = (decoded_short bytes (e ∙ ap (λ x. Err x) (same d short))).most where
  same : (d : FrameFault) → (let r : Result (Frame × ℕ) FrameFault = Err d in r) ≡ Err Short → d ≡ Short
  same d e = cc
