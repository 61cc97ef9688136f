-- Slices put one after another.
use Rattle.std.proofs.Common.{◌≡◌, ℕ, ◌+◌, ◌<◌, List, ◌++◌, length, take, drop, get_or, sym, ap, ◌∙◌, arith, length-append, append_assoc}
use Rattle.std.specs.Borrow.{Bor}
use Rattle.std.specs.Prelude.{Option, Some, None, IfSome, IfNone}
use Rattle.std.proofs.lemmas.List.{drop-drop}
use Rattle.http1.specs.Text.{concat_slices}
use Rattle.http1.proofs.TextLemmas.{flat_map-take_more, length-flat_map-take}
use Rattle.http_door.specs.Output.{IsPut, IsPutAt}

pub overflows : (parts : List (Bor (List ℕ))) (d : Bor (List ℕ)) (room from at i : ℕ) → i < length parts
    → at ≡ from + length (concat_slices (take i parts)) → room < at + length (get_or parts i d).now
    → room < from + length (concat_slices parts)
overflows parts d room from at i inside end over =
    omega (arith, length-flat_map-take (λ (p : Bor (List ℕ)). p.now) parts i d inside)

drop_later : (at n : ℕ) (xs ys : List ℕ) (k : ℕ) → n ≡ at + k → drop at xs ≡ drop at ys → drop n xs ≡ drop n ys
drop_later at n xs ys k split same =
    ap (λ m. drop m xs) split ∙ sym (drop-drop k at xs) ∙ ap (drop k) same ∙ drop-drop k at ys ∙ ap (λ m. drop m ys) (sym split)

pub put_more : (parts : List (Bor (List ℕ))) (d : Bor (List ℕ)) (old mid new : List ℕ) (from at n i : ℕ)
    → i < length parts → length mid ≡ length old → IsPutAt old mid from (concat_slices (take i parts)) at
    → IsPutAt mid new at (get_or parts i d).now n → IsPutAt old new from (concat_slices (take (i + 1) parts)) n
put_more parts d old mid new from at n i inside same before step =
    let part = (get_or parts i d).now in
    let done = concat_slices (take i parts) in
    let text : concat_slices (take (i + 1) parts) ≡ done ++ part =
    flat_map-take_more (λ (p : Bor (List ℕ)). p.now) parts i d inside in
    let end = step.end in
    let first = before.end in
    let fits = step.fits in
    record {
      end = omega (arith, ap length text, length-append done part);
      fits = omega arith;
      text =
          step.text ∙ ap (λ (t : List ℕ). t ++ part) before.text ∙ append_assoc (take from old) done part
          ∙ ap (λ (t : List ℕ). take from old ++ t) (sym text);
      behind = step.behind ∙ drop_later at n mid old (length part) end before.behind;
    }

-- what was put from the start on, and then what was put behind it
pub put_next : (old mid new x y : List ℕ) (at n : ℕ) → length mid ≡ length old → IsPut old mid x at
    → IsPutAt mid new at y n → IsPut old new (x ++ y) n
put_next old mid new x y at n same before step =
    let end = step.end in
    let first = before.end in
    let fits = step.fits in
    record {
      end = omega (arith, length-append x y);
      fits = omega arith;
      text = step.text ∙ ap (λ (t : List ℕ). t ++ y) before.text;
      behind = step.behind ∙ drop_later at n mid old (length y) end before.behind;
    }

pub put_first : (old new x : List ℕ) (n : ℕ) → IsPutAt old new 0 x n → IsPut old new x n
put_first old new x n step = let e = step.end in record { end = omega arith; fits = step.fits; text = step.text; behind = step.behind }

pub none_weaker : {A : Type 0} (r : Option A) (P Q : Type 0) → (P → Q) → IfNone r P → IfNone r Q
none_weaker None P Q f p = f p
none_weaker (Some a) P Q f p = p

pub some_weaker : {A : Type 0} (r : Option A) (P Q : A → Type 0) → ((a : A) → P a → Q a) → IfSome r P → IfSome r Q
some_weaker None P Q f p = p
some_weaker (Some a) P Q f p = f a p
