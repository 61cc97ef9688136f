-- A fault is told exactly where it is the first wrong field's.
use Rattle.std.proofs.Common.{◌≡◌, ℕ, ◌+◌, List, [], ◌∷◌, ◌++◌, drop, Result, Ok, Err, refl, sym, ap, ◌∙◌, subst, inl, inr}
use Rattle.std.specs.Prelude.{◌⊎◌}
use Rattle.frame_rules.specs.declared.fault.FrameFault.{FrameFault}
use Rattle.frame_rules.specs.declared.fault.FrameFault.TheVariants.{Short}
use Rattle.frame_rules.specs.Frames.{PlainFrame}
use Rattle.frame_rules.specs.Forms.{◌>>=◌}
use Rattle.frame_rules.specs.Bodies.{body_in}
use Rattle.frame_rules.specs.Reading.{Header, header_in, decoded}
use Rattle.frame_rules.specs.Fields.{Field, fields, front, FirstWrong}
use Rattle.frame_rules.proofs.FieldSteps.{AllPass, Waits, NoneWrong, Heads, Ends, pass_end, made_end, wrong_passes}
use Rattle.frame_rules.proofs.HeaderFields.{IsHead, header_fields, header_heads}
use Rattle.frame_rules.proofs.BodyEnds.{body_fields, body_end}

-- ---- more fields behind these

pass_on : {A : Type 0} (some more : List Field) (bytes : List ℕ) (r : Result A FrameFault) → AllPass some bytes → Ends more bytes r → Ends (some ++ more) bytes r
pass_on [] more bytes r p h = h
pass_on (field ∷ some) more bytes r p h = pass_end field (some ++ more) bytes r p.0 (pass_on some more bytes r p.1 h)

wrong_on : (some more : List Field) (bytes : List ℕ) (d : FrameFault) → FirstWrong some bytes d → FirstWrong (some ++ more) bytes d
unfolding FirstWrong
wrong_on [] more bytes d w = absurd w
wrong_on (field ∷ some) more bytes d w = elim w [ inl x ↦ inl x | inr y ↦ inr (y.0, wrong_on some more bytes d y.1) ]

wait_on : (some more : List Field) (bytes : List ℕ) → Waits some bytes → NoneWrong (some ++ more) bytes
unfolding FirstWrong
wait_on [] more bytes w d wrong = absurd w
wait_on (field ∷ some) more bytes w d wrong =
    elim w [
      | inl late ↦ elim wrong [ inl x ↦ late.1 x.0.1 | inr y ↦ late.1 (y.0 late.0).0 ]
      | inr later ↦ elim wrong [ inl x ↦ wrong_passes field bytes later.0 x.0 | inr y ↦ wait_on some more bytes later.1 d y.1 ]
    ]

head_then : {A B : Type 0} (some more : List Field) (bytes : List ℕ) (Is : A → Type 0) (first : Result A FrameFault) (next : A → Result B FrameFault) → Heads some bytes Is first
    → ((x : A) → Is x → Ends more bytes (next x)) → Ends (some ++ more) bytes (first >>= next)
unfolding Heads Ends
head_then some more bytes Is (Ok x) next h rest = pass_on some more bytes (next x) h.0 (rest x h.1)
head_then some more bytes Is (Err d) next h rest =
    elim h [
      | inl wrong ↦ inl (wrong_on some more bytes d wrong)
      | inr waits ↦ inr (waits.0, wait_on some more bytes waits.1)
    ]

-- ---- a frame

body_ends : (bytes : List ℕ) (h : Header) → IsHead bytes h → Ends body_fields bytes (body_in h.kind h.lane h.serial h.left (drop 20 bytes))
body_ends bytes h is =
    subst (λ lane. Ends body_fields bytes (body_in h.kind lane h.serial h.left (drop 20 bytes))) (sym is.lane)
    (subst (λ serial. Ends body_fields bytes (body_in h.kind (front bytes).lane serial h.left (drop 20 bytes))) (sym is.serial)
    (body_end bytes h.left (record { is_left = is.left; some = is.some; come = is.come }) h.kind is.kind))

pub decoded_ends : (bytes : List ℕ) → Ends fields bytes (decoded bytes)
unfolding decoded
decoded_ends bytes =
    head_then header_fields body_fields bytes (IsHead bytes) (header_in bytes)
    (λ h. body_in h.kind h.lane h.serial h.left (drop 20 bytes) >>= λ body. Ok (record { lane = h.lane; serial = h.serial; link = h.link; body = body }, 20 + h.left)) (header_heads bytes)
    (λ h is. made_end body_fields bytes (body_in h.kind h.lane h.serial h.left (drop 20 bytes)) (λ body. (record { lane = h.lane; serial = h.serial; link = h.link; body = body }, 20 + h.left)) (body_ends bytes h is))

-- ---- one fault

one_fault : (some : List Field) (bytes : List ℕ) (c d : FrameFault) → FirstWrong some bytes c → FirstWrong some bytes d → c ≡ d
unfolding FirstWrong
one_fault [] bytes c d v w = absurd v
one_fault (field ∷ some) bytes c d v w =
    elim v [
      | inl x ↦ elim w [ inl y ↦ x.1 ∙ sym y.1 | inr y ↦ absurd (wrong_passes field bytes y.0 x.0) ]
      | inr x ↦ elim w [ inl y ↦ absurd (wrong_passes field bytes x.0 y.0) | inr y ↦ one_fault some bytes c d x.1 y.1 ]
    ]

all_pass_none : (some : List Field) (bytes : List ℕ) → AllPass some bytes → NoneWrong some bytes
unfolding FirstWrong
all_pass_none [] bytes p d w = absurd w
all_pass_none (field ∷ some) bytes p d w = elim w [ inl x ↦ wrong_passes field bytes p.0 x.0 | inr y ↦ all_pass_none some bytes p.1 d y.1 ]

found_in : {A : Type 0} (bytes : List ℕ) (r : Result A FrameFault) (d : FrameFault) → Ends fields bytes r → r ≡ Err d → (d ≡ Short → ⊥) → FirstWrong fields bytes d
unfolding Ends
found_in bytes (Ok x) d h e long = absurd cc
found_in {A} bytes (Err c) d h e long =
    let same : c ≡ d = fault_is c d e in
    elim h [ inl wrong ↦ subst (FirstWrong fields bytes) same wrong | inr none ↦ absurd (long (sym same ∙ none.0)) ]
  where
    fault_is : (c d : FrameFault) → (let r : Result A FrameFault = Err c in r) ≡ Err d → c ≡ d
    fault_is c d e = cc

only_in : {A : Type 0} (bytes : List ℕ) (r : Result A FrameFault) (d : FrameFault) → Ends fields bytes r → FirstWrong fields bytes d → r ≡ Err d
unfolding Ends
only_in bytes (Ok x) d h w = absurd (all_pass_none fields bytes h d w)
only_in bytes (Err c) d h w = elim h [ inl wrong ↦ ap (λ f. Err f) (one_fault fields bytes c d wrong w) | inr none ↦ absurd (none.1 d w) ]

pub found : (bytes : List ℕ) (d : FrameFault) → decoded bytes ≡ Err d → (d ≡ Short → ⊥) → FirstWrong fields bytes d
found bytes d e long = found_in bytes (decoded bytes) d (decoded_ends bytes) e long

pub only : (bytes : List ℕ) (d : FrameFault) → FirstWrong fields bytes d → decoded bytes ≡ Err d
only bytes d w = only_in bytes (decoded bytes) d (decoded_ends bytes) w

-- ---- where none is wrong

none_in : {A : Type 0} (bytes : List ℕ) (r : Result A FrameFault) → Ends fields bytes r → ((d : FrameFault) → FirstWrong fields bytes d → ⊥) → (r ≡ Err Short) ⊎ ((x : A) × (r ≡ Ok x))
unfolding Ends
none_in bytes (Ok x) h none = inr (x, refl)
none_in bytes (Err c) h none = elim h [ inl wrong ↦ absurd (none c wrong) | inr short ↦ inl (ap (λ f. Err f) short.0) ]

pub none_wrong : (bytes : List ℕ) → ((d : FrameFault) → FirstWrong fields bytes d → ⊥) → (decoded bytes ≡ Err Short) ⊎ ((x : PlainFrame × ℕ) × (decoded bytes ≡ Ok x))
none_wrong bytes none = none_in bytes (decoded bytes) (decoded_ends bytes) none
