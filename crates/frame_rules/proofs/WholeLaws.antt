-- Bytes as exactly one frame, by what reading them gives.
use Rattle.std.proofs.Common.{◌≡◌, ◌<◌, ◌^◌, ℕ, Bool, true, false, cond, eqb, List, [], ◌++◌, length, take, Result, Ok, Err, refl, sym, ap, ◌∙◌, subst, arith, All}
use Rattle.std.specs.Prelude.{◌≢◌}
use Rattle.std.proofs.lemmas.Bool.{eqb-true, eq-eqb, ne_eqb}
use Rattle.std.proofs.lemmas.List.{take_all, append-nil, length-append, length-take, nil_from_length}
use Rattle.express_words.specs.declared.refusal.Refusal.{Refusal}
use Rattle.express_words.specs.declared.refusal.Refusal.TheVariants as refusal
use Rattle.frame_rules.specs.declared.fault.FrameFault.{FrameFault}
use Rattle.frame_rules.specs.declared.fault.FrameFault.TheVariants as fault
use Rattle.frame_rules.specs.Frames.{PlainFrame}
use Rattle.frame_rules.specs.Spelling.{IsFrame, Spells}
use Rattle.frame_rules.specs.Reading.{decoded}
use Rattle.frame_rules.specs.Whole.{whole, whole_of, refused_bytes}
use Rattle.frame_rules.proofs.GrammarLaws.{bytes_of, decoded_takes, spells_again, prefix_short}

-- ---- what each answer of reading comes to

pub whole_ok : (bytes : List ℕ) (f : PlainFrame) (len : ℕ) → decoded bytes ≡ Ok (f, len) → len ≡ length bytes → whole bytes ≡ Ok f
unfolding whole_of
whole_ok bytes f len e l = rw (e, eq-eqb len (length bytes) l) refl

pub whole_front : (bytes : List ℕ) (f : PlainFrame) (len : ℕ) → decoded bytes ≡ Ok (f, len) → len ≢ length bytes → whole bytes ≡ Err (refusal.Malformed len)
unfolding whole_of
whole_front bytes f len e l = rw (e, ne_eqb len (length bytes) l) refl

pub whole_short : (bytes : List ℕ) (d : FrameFault) → decoded bytes ≡ Err d → d ≡ fault.Short → whole bytes ≡ Err (refusal.Malformed (length bytes))
unfolding whole_of
whole_short bytes d e is = ap (whole_of (length bytes)) (e ∙ ap Err is)

pub whole_malformed : (bytes : List ℕ) (d : FrameFault) (place : ℕ) → decoded bytes ≡ Err d → d ≡ fault.Malformed place → whole bytes ≡ Err (refusal.Malformed place)
unfolding whole_of
whole_malformed bytes d place e is = ap (whole_of (length bytes)) (e ∙ ap Err is)

pub whole_version : (bytes : List ℕ) (d : FrameFault) (version : ℕ) → decoded bytes ≡ Err d → d ≡ fault.Version version → whole bytes ≡ Err (refusal.Version version)
unfolding whole_of
whole_version bytes d version e is = ap (whole_of (length bytes)) (e ∙ ap Err is)

-- ---- exactly the spellings

frame_is : (f g : PlainFrame) → (let r : Result PlainFrame Refusal = Ok f in r) ≡ Ok g → f ≡ g
frame_is f g e = cc

no_frame : (r : Refusal) (f : PlainFrame) → (let x : Result PlainFrame Refusal = Err r in x) ≡ Ok f → ⊥
no_frame r f e = cc

pub whole_read : (count : ℕ) (r : Result (PlainFrame × ℕ) FrameFault) (f : PlainFrame) → whole_of count r ≡ Ok f → r ≡ Ok (f, count)
unfolding whole_of
whole_read count (Err (fault.Version version)) f e = absurd (no_frame (refusal.Version version) f e)
whole_read count (Err (fault.Malformed place)) f e = absurd (no_frame (refusal.Malformed place) f e)
whole_read count (Err fault.Short) f e = absurd (no_frame (refusal.Malformed count) f e)
whole_read count (Ok found) f e = pick (eqb found.1 count) refl e where
  pick : (b : Bool) → eqb found.1 count ≡ b → cond b (Ok found.0) (Err (refusal.Malformed found.1)) ≡ Ok f → (let r : Result (PlainFrame × ℕ) FrameFault = Ok found in r) ≡ Ok (f, count)
  pick true t e = ap (λ n. Ok (found.0, n)) (eqb-true _ _ t) ∙ ap (λ (g : PlainFrame). Ok (g, count)) (frame_is found.0 f e)
  pick false t e = absurd (no_frame (refusal.Malformed found.1) f e)

pub whole_found : (bytes : List ℕ) (f : PlainFrame) → All (λ b. b < 256) bytes → whole bytes ≡ Ok f → Spells f bytes
whole_found bytes f all e =
    let d = decoded_takes bytes f (length bytes) (bytes_of bytes all) (whole_read (length bytes) (decoded bytes) f e) in
    subst (Spells f) (take_all (length bytes) bytes (omega arith)) d.spells

pub whole_only : (f : PlainFrame) (bytes : List ℕ) → Spells f bytes → whole bytes ≡ Ok f
whole_only f bytes s = whole_ok bytes f (length bytes) (ap decoded (sym (append-nil bytes)) ∙ spells_again f bytes [] s) refl

pub whole_early : (f : PlainFrame) (bytes : List ℕ) (n : ℕ) → Spells f bytes → n < length bytes → whole (take n bytes) ≡ Err (refusal.Malformed n)
whole_early f bytes n s lt =
    let count : length (take n bytes) ≡ n = omega (arith, length-take n bytes) in
    whole_short (take n bytes) fault.Short (prefix_short f bytes n s lt) refl ∙ ap (λ n. Err (refusal.Malformed n)) count

pub whole_behind : (f : PlainFrame) (bytes more : List ℕ) → Spells f bytes → more ≢ [] → whole (bytes ++ more) ≡ Err (refusal.Malformed (length bytes))
whole_behind f bytes more s some =
    whole_front (bytes ++ more) f (length bytes) (spells_again f bytes more s)
    (λ same. some (nil_from_length more (omega (arith, same, length-append bytes more))))

-- ---- what refuses them is a frame

pub malformed_frame : (place : ℕ) → place < 2 ^ 32 → IsFrame (refused_bytes (refusal.Malformed place))
malformed_frame place h = record { lane = omega arith; serial = omega arith; addressed = (refl, refl); link = omega arith; linked = refl; body = h }

pub version_frame : (version : ℕ) → version < 2 ^ 8 → IsFrame (refused_bytes (refusal.Version version))
version_frame version h = record { lane = omega arith; serial = omega arith; addressed = (refl, refl); link = omega arith; linked = refl; body = h }
