-- A record alone is a batch of one.
use Rattle.std.proofs.Common.{◌≡◌, ◌⊎◌, inl, inr, ℕ, ◌+◌, List, [], ◌∷◌, ◌++◌, length, sym, ◌∙◌, ap, subst, arith, length-append}
use Rattle.std.proofs.lemmas.List.{append-nil}
use Rattle.node_journal.specs.Batches.{RestsBeforeOrAll, Spells}
use Rattle.node_journal.specs.Disk.{Within}
use Rattle.node_journal.specs.Records.{content, opened, body, EndsAt, RestsBeforeOrAfter}

pub spells_one : (bytes written : List ℕ) → written ≡ body bytes ++ 0 ∷ [] → Spells (bytes ∷ []) written
spells_one bytes written is =
    ap (λ (l : List ℕ). 1 ∷ l) is ∙ ap (λ (l : List ℕ). 1 ∷ (l ++ 0 ∷ [])) (sym (append-nil (body bytes)))

pub place_one : (end : ℕ) (bytes : List ℕ) → end + length (opened (bytes ∷ [])) ≡ end + 5 + length bytes
place_one end bytes = omega (arith, length-append (body bytes) [])

pub rests_one : (reads : List ℕ → Type 0) (end : ℕ) (bytes : List ℕ)
    → Within (RestsBeforeOrAll reads end (bytes ∷ [])) (RestsBeforeOrAfter reads end bytes)
rests_one reads end bytes c rests = (rests.0, rests.1, kept rests.2)
  where
    kept : (EndsAt end c × (content c ≡ content rests.0))
        ⊎ (EndsAt (end + length (opened (bytes ∷ []))) c × (content c ≡ content rests.0 ++ bytes ∷ []))
        → (EndsAt end c × (content c ≡ content rests.0))
        ⊎ (EndsAt (end + 5 + length bytes) c × (content c ≡ content rests.0 ++ bytes ∷ []))
    kept (inl before) = inl before
    kept (inr after) = inr (subst (λ (at : ℕ). EndsAt at c) (place_one end bytes) after.0, after.1)
