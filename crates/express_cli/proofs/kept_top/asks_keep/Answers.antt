use Rattle.std.proofs.Common.{sym, ◌∙◌, ◌≡◌, ◌↔◌, ℕ, ◌≤◌, ◌<◌, List, [], ◌∷◌, codes, string_bytes, length, map, get_or, arith, rules}
use Rattle.std.proofs.lemmas.Slice.Eq.{bytes_eq-Decides}
use Rattle.express_cli.proofs.kept_top.asks_keep.Goals as goal

one_word : {A : Type 0} (bytes : A → List ℕ) (items : List A) (w : A) (name : List ℕ) → 1 ≤ length items → length items < 2 → w ≡ get_or items 0 w
    → (bytes w ≡ name) ↔ (map bytes items ≡ name ∷ [])
one_word bytes [] w name least most is = absurd (omega (arith, least))
one_word bytes (x ∷ []) w name least most is = ((λ e. cc), (λ e. cc))
one_word bytes (x ∷ y ∷ rest) w name least most is = absurd (omega (arith, most))

pub returns-in-len1 : goal.returns-in-len1
returns-in-len1 c =
    let same = one_word string_bytes c.as_slice.result.now c.word-item.result (codes "keep") c.in-len1.len_at_least c.in-len1.len_below c.word-item.is in
    let decides = bytes_eq-Decides c.as_str.result.now (codes "keep") in
    rw (← c.as_slice.ensures.value) (
      (λ t. same.0 (sym c.as_str.ensures.value ∙ decides.0 (search (rules, c.eq.ensures)))),
      (λ e. let equal = decides.1 (c.as_str.ensures.value ∙ same.1 e) in search (rules, equal)),
    )
