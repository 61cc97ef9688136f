-- What a body is at a path, and what is heard of a head with it.
use Rattle.std.proofs.Common.{◌≡◌, ℕ, ◌-◌, ◌<◌, ◌≤◌, Bool, true, false, eqb, List, length, take, drop, Ok, sym, ap, ◌∙◌, arith, length-drop}
use Rattle.std.proofs.lemmas.List.{take_all}
use Rattle.std.proofs.lemmas.Bool.{ne_eqb, eq-eqb}
use Rattle.std.proofs.lemmas.Bool.Decides.{nat_tests}
use Rattle.httparse.specs.Grammar.{RequestHead}
use Rattle.http1.specs.declared.framing.Framing.{Framing}
use Rattle.http_door.specs.Heads.{body_len}
use Rattle.http_door.specs.Fields.{keeps}
use Rattle.http_door.specs.Hearing.{PlainAsked, PlainHeard, asked_of, heard_with, heard_at, heard_of}

abbrev pub paired : PlainAsked → Bool → PlainHeard
paired asked kept = record { asked = asked; keeps = kept }

-- a body with more behind a digest is no lease
pub longer : (body rest more : List ℕ) → rest ≡ drop 16 body → more ≡ drop 32 rest → 1 ≤ length more
    → eqb (length body) 48 ≡ false
longer body rest more r m some =
    ne_eqb (length body) 48 (λ e. omega (arith, ap length r, ap length m, length-drop 16 body, length-drop 32 rest))

-- and one with nothing behind it is
pub exact : (body rest more : List ℕ) → rest ≡ drop 16 body → more ≡ drop 32 rest → 16 ≤ length body
    → 32 ≤ length rest → length more < 1 → (eqb (length body) 48 ≡ true) × (take 32 rest ≡ rest)
exact body rest more r m long enough none =
    let size : length rest ≡ 32 = omega (arith, ap length m, length-drop 32 rest) in (
      eq-eqb (length body) 48 (omega (arith, ap length r, length-drop 16 body)),
      take_all 32 rest (omega arith),
    )

-- all that stands behind a place
pub behind : (held : List ℕ) (at : ℕ) → take (length held - at) (drop at held) ≡ drop at held
behind held at = take_all (length held - at) (drop at held) (omega (arith, length-drop at held))

inside : (head : RequestHead) (after : List ℕ) (n : ℕ) → n ≤ length after
    → heard_with head after (Ok n) ≡ heard_of head (take n after)
inside head after n fits = grind (arith, nat_tests)

pub heard_when : (head : RequestHead) (framing : Framing) (after : List ℕ) (n : ℕ) (asked : PlainAsked) (kept : Bool)
    → body_len head.method framing ≡ Ok n → n ≤ length after → asked ≡ asked_of head (take n after)
    → kept ≡ keeps head → paired asked kept ≡ heard_at head framing after
heard_when head framing after n asked kept sized fits same keeping =
    (λ i. paired (same i) (keeping i)) ∙ sym (ap (heard_with head after) sized ∙ inside head after n fits)
