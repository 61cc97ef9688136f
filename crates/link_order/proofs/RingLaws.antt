-- Frames that stand in blocks used in turn.
use Rattle.std.proofs.Common.{◌≡◌, ◌≢◌, ℕ, ◌+◌, ◌-◌, ◌*◌, ◌/◌, ◌%◌, ◌<◌, ◌≤◌, List, [], ◌∷◌, ◌++◌, length, take, get_or, set, Some, suc, zero, refl, ap, ◌∙◌, inl, inr, add-zero, length-append, length-drop, arith}
use Rattle.std.specs.Prelude.{slice_get}
use Rattle.std.proofs.lemmas.List.{get_or-set_same, get_or-set_other}
use Rattle.std.proofs.lemmas.Nat.{div-add-mod', mod-mul-add, mod_below}
use Rattle.std.proofs.lemmas.Bool.{cases_lt}
use Rattle.std.proofs.Math.Seq.{take-append_seam}
use Rattle.circular_buffer.specs.Buffer.{keep_last}
use Rattle.link_order.specs.Link.{last}
use Rattle.link_order.specs.Ring.{frames_from}

pub length-frames_from : (blocks : List (List ℕ)) (w s : ℕ) (ls : List ℕ) → length (frames_from blocks w s ls) ≡ length ls
length-frames_from blocks w s [] = refl
length-frames_from blocks w s (l ∷ ls) = ap (λ n. suc n) (length-frames_from blocks w (s + 1) ls)

pub frame-at : (blocks : List (List ℕ)) (w s : ℕ) (ls : List ℕ) (k : ℕ) → k < length ls →
    slice_get (frames_from blocks w s ls) k ≡ Some (take (get_or ls k 0) (get_or blocks ((s + k) % w) []))
frame-at blocks w s [] k lt = absurd (omega arith)
frame-at blocks w s (l ∷ ls) zero lt = rw (add-zero s)
frame-at blocks w s (l ∷ ls) (suc k) lt =
    let here : s + suc k ≡ s + 1 + k = omega arith in
    rw here (frame-at blocks w (s + 1) ls k (omega arith))

-- two numbers that are less than w apart stand in different blocks
apart-low : (w q r d : ℕ) → 0 < d → r + d < w → r ≡ (q * w + (r + d)) % w → ⊥
apart-low w q r d pos low e = omega (arith, e, mod-mul-add q w (r + d) low)

apart-high : (w q r d : ℕ) → r < w → d < w → w ≤ r + d → r ≡ (q * w + (r + d)) % w → ⊥
apart-high w q r d below short high e =
    let over : q * w + (r + d) ≡ (q + 1) * w + (r + d - w) = omega arith in
    let e' = rw (over, mod-mul-add (q + 1) w (r + d - w) (omega arith)) at e in
    omega arith

pub apart : (w s d : ℕ) → 0 < d → d < w → s % w ≡ (s + d) % w → ⊥
apart w s d pos short e =
    let at : s + d ≡ s / w * w + (s % w + d) = omega (arith, div-add-mod' s w) in
    let e' = rw at at e in
    let below = mod_below s w (omega arith) in
    elim (cases_lt (s % w + d) w) [ inl low ↦ apart-low w (s / w) (s % w) d pos low e' | inr high ↦ apart-high w (s / w) (s % w) d below short high e' ]

-- one more frame in the next block
pub frames-pushed : (blocks : List (List ℕ)) (w s : ℕ) (ls : List ℕ) (n : ℕ) (bytes : List ℕ) → length ls < w → length blocks ≡ w →
    frames_from (set blocks ((s + length ls) % w) bytes) w s (ls ++ n ∷ []) ≡ frames_from blocks w s ls ++ take n bytes ∷ []
frames-pushed blocks w s [] n bytes lt count =
    let within : s % w < length blocks = omega (arith, mod_below s w (omega arith)) in
    rw (add-zero s, get_or-set_same)
frames-pushed blocks w s (l ∷ ls) n bytes lt count =
    let here : s + 1 + length ls ≡ s + suc (length ls) = omega arith in
    let rest = rw here at (frames-pushed blocks w (s + 1) ls n bytes (omega arith) count) in
    let other : s % w ≢ (s + suc (length ls)) % w = apart w s (suc (length ls)) (omega arith) (omega arith) in
    rw (get_or-set_other blocks ((s + suc (length ls)) % w) (s % w) bytes [] other)
    (ap (λ fs. take l (get_or blocks (s % w) []) ∷ fs) rest)

pub keep_last-all : (n : ℕ) (xs : List ℕ) → length xs ≤ n → keep_last n xs ≡ xs
keep_last-all n xs le = let none : length xs - n ≡ 0 = omega arith in rw none

pub last-all : (n : ℕ) (xs : List (List ℕ)) → length xs ≤ n → last n xs ≡ xs
last-all n xs le = let none : length xs - n ≡ 0 = omega arith in rw none

-- a frame that is read at a place: its number is the newest one's less the newer ones
pub frame-read : (blocks : List (List ℕ)) (w pushed : ℕ) (ls : List ℕ) (k length_read number : ℕ) (block : List ℕ) → k < length ls → length ls ≤ pushed →
    number ≡ pushed - (length ls - 1 - k) → length_read ≡ get_or ls k 0 → block ≡ get_or blocks (number % w) [] →
    slice_get (frames_from blocks w (pushed + 1 - length ls) ls) k ≡ Some (take length_read block)
frame-read blocks w pushed ls k length_read number block lt le at is_length is_block =
    let same : pushed + 1 - length ls + k ≡ number = omega arith in
    frame-at blocks w (pushed + 1 - length ls) ls k lt ∙ rw (same, is_length, is_block)

pushed-below : (blocks : List (List ℕ)) (w pushed : ℕ) (ls : List ℕ) (frame rest : List ℕ) → length blocks ≡ w → length ls < w → length ls ≤ pushed →
    frames_from (set blocks ((pushed + 1) % w) (frame ++ rest)) w (pushed + 1 + 1 - length (keep_last w (ls ++ length frame ∷ []))) (keep_last w (ls ++ length frame ∷ []))
    ≡ last w (frames_from blocks w (pushed + 1 - length ls) ls ++ frame ∷ [])
pushed-below blocks w pushed ls frame rest count lt le =
    let s : ℕ = pushed + 1 - length ls in
    let whole : keep_last w (ls ++ length frame ∷ []) ≡ ls ++ length frame ∷ [] = keep_last-all w (ls ++ length frame ∷ []) (simp length-append (omega arith)) in
    let start : pushed + 1 + 1 - length (ls ++ length frame ∷ []) ≡ pushed + 1 - length ls = simp length-append (omega arith) in
    let number : pushed + 1 ≡ pushed + 1 - length ls + length ls = omega arith in
    rw (whole, start, last-all w (frames_from blocks w (pushed + 1 - length ls) ls ++ frame ∷ []) (simp (length-append, length-frames_from) (omega arith)))
    (rw (← number, take-append_seam frame rest) at (frames-pushed blocks w (pushed + 1 - length ls) ls (length frame) (frame ++ rest) lt count))

pushed-full : (blocks : List (List ℕ)) (w pushed : ℕ) (l : ℕ) (ls : List ℕ) (frame rest : List ℕ) → length blocks ≡ w → suc (length ls) ≡ w → w ≤ pushed →
    frames_from (set blocks ((pushed + 1) % w) (frame ++ rest)) w (pushed + 1 + 1 - length (keep_last w (l ∷ ls ++ length frame ∷ []))) (keep_last w (l ∷ ls ++ length frame ∷ []))
    ≡ last w (frames_from blocks w (pushed + 1 - suc (length ls)) (l ∷ ls) ++ frame ∷ [])
pushed-full blocks w pushed l ls frame rest count full le =
    let s : ℕ = pushed + 1 - suc (length ls) in
    let one : suc (length (ls ++ length frame ∷ [])) - w ≡ 1 = simp length-append (omega arith) in
    let one' : suc (length (frames_from blocks w (s + 1) ls ++ frame ∷ [])) - w ≡ 1 = simp (length-append, length-frames_from) (omega arith) in
    let start : pushed + 1 + 1 - length (ls ++ length frame ∷ []) ≡ s + 1 = simp length-append (omega arith) in
    let number : pushed + 1 ≡ s + 1 + length ls = omega arith in
    rw (one, one', start)
    (rw (← number, take-append_seam frame rest) at (frames-pushed blocks w (s + 1) ls (length frame) (frame ++ rest) (omega arith) count))

pub ring-pushed : (blocks : List (List ℕ)) (w pushed : ℕ) (ls : List ℕ) (frame rest : List ℕ) → 1 ≤ w → length blocks ≡ w → length ls ≤ w → length ls ≤ pushed →
    frames_from (set blocks ((pushed + 1) % w) (frame ++ rest)) w (pushed + 1 + 1 - length (keep_last w (ls ++ length frame ∷ []))) (keep_last w (ls ++ length frame ∷ []))
    ≡ last w (frames_from blocks w (pushed + 1 - length ls) ls ++ frame ∷ [])
ring-pushed blocks w pushed [] frame rest pos count within le = pushed-below blocks w pushed [] frame rest count pos le
ring-pushed blocks w pushed (l ∷ ls) frame rest pos count within le =
    elim (cases_lt (suc (length ls)) w) [
      | inl low ↦ pushed-below blocks w pushed (l ∷ ls) frame rest count low le
      | inr high ↦ pushed-full blocks w pushed l ls frame rest count (omega arith) (omega arith)
    ]

pub length-kept : (n : ℕ) (xs : List ℕ) → length (keep_last n xs) ≤ n
length-kept n xs = omega (arith, length-drop (length xs - n) xs)

pub length-kept-le : (n : ℕ) (xs : List ℕ) → length (keep_last n xs) ≤ length xs
length-kept-le n xs = omega (arith, length-drop (length xs - n) xs)
