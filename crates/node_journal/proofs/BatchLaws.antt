-- What a batch spells, and what an append of it leaves.
use Rattle.std.proofs.Common.{◌≡◌, ◌≢◌, ◌⊎◌, inl, inr, ℕ, ◌+◌, ◌≤◌, List, [], ◌∷◌, ◌++◌, length, take, drop, refl, sym, ◌∙◌, ap, subst, arith, append_assoc, length-append, length-take, ◌-◌}
use Rattle.std.proofs.lemmas.List.{take_at, take-take}
use Rattle.node_journal.specs.Batches.{IsSpelled, Spells, RestsBeforeOrAll, LeavesBeforeOrAll, IsBeforeOrAll}
use Rattle.node_journal.specs.Disk.{Within}
use Rattle.node_journal.specs.Records.{content, opened, body, IsSized, EndsAt, IsUndamaged}
use Rattle.node_journal.proofs.Contents.{content_closed, opened_push, sized_push}
use Rattle.node_journal.proofs.Places.{undamaged_end}

pub spelled_content : (records : List (List ℕ)) (bytes : List ℕ) → IsSpelled records bytes → content bytes ≡ records
spelled_content records bytes is = ap content is.split ∙ content_closed records 0 [] is.sized (omega arith)

pub spelled_push : (records : List (List ℕ)) (bytes old new : List ℕ) → IsSpelled records old → IsSized bytes
    → new ≡ opened records ++ 1 ∷ (body bytes ++ 0 ∷ []) → IsSpelled (records ++ bytes ∷ []) new
spelled_push records bytes old new is sized split = record {
  sized = sized_push records bytes is.sized sized;
  split = split ∙ opened_push records bytes (0 ∷ []);
}

-- a closed gate gives way to an open one, and the record with a closed gate stands behind it
pub spelled_put : (records : List (List ℕ)) (used : ℕ) (bytes room gated staged put : List ℕ)
    → IsSpelled records (take used room) → used ≤ length room → IsSized bytes → used + 5 + length bytes ≤ length room
    → gated ≡ take (used - 1) room ++ 1 ∷ [] ++ drop (used - 1 + 1) room
    → staged ≡ body bytes ++ 0 ∷ [] → put ≡ take used gated ++ staged ++ drop (used + length staged) gated
    → IsSpelled (records ++ bytes ∷ []) (take (used + (5 + length bytes)) put)
spelled_put records used bytes room gated staged put is within sized fits gated_is staged_is put_is =
    spelled_push records bytes (take used room) (take (used + (5 + length bytes)) put) is sized
    (taken ∙ ap (λ (l : List ℕ). l ++ staged) front ∙ append_assoc (opened records) (1 ∷ []) staged ∙ ap (λ (l : List ℕ). opened records ++ 1 ∷ l) staged_is)
  where
    one : length (opened records) + 1 ≡ used
    one = omega (arith, within, ap length is.split, length-append (opened records) (0 ∷ []), length-take used room)

    before : take (used - 1) room ≡ opened records
    before = sym (take-take (used - 1) used room (omega arith)) ∙ ap (λ (l : List ℕ). take (used - 1) l) is.split
        ∙ take_at (opened records) (0 ∷ []) (used - 1) (omega (arith, one))

    front : take used gated ≡ opened records ++ 1 ∷ []
    front = ap (λ (l : List ℕ). take used l) (gated_is ∙ ap (λ (l : List ℕ). l ++ 1 ∷ [] ++ drop (used - 1 + 1) room) before)
        ∙ take_at (opened records ++ 1 ∷ []) (drop (used - 1 + 1) room) used (omega (arith, one, length-append (opened records) (1 ∷ [])))

    taken : take (used + (5 + length bytes)) put ≡ take used gated ++ staged
    taken = ap (λ (l : List ℕ). take (used + (5 + length bytes)) l) put_is
        ∙ take_at (take used gated ++ staged) (drop (used + length staged) gated) (used + (5 + length bytes))
        (omega (arith, one, ap length front, ap length staged_is, length-append (opened records) (1 ∷ []), length-append (take used gated) staged, length-append (body bytes) (0 ∷ [])))

-- what stands behind the first gate of a batch that isn't empty
pub spells_batch : (records : List (List ℕ)) → records ≢ [] → Spells records (drop 1 (opened records ++ 0 ∷ []))
spells_batch [] some = absurd (some refl)
spells_batch (r ∷ records) some = refl

-- What an append may leave is undamaged, where its records and a closed gate keep the limit.
pub rests_leaves_all : (limit end : ℕ) (added : List (List ℕ)) (reads : List ℕ → Type 0)
    → end + length (opened added) + 1 ≤ limit → Within (RestsBeforeOrAll reads end added) (LeavesBeforeOrAll limit reads added)
rests_leaves_all limit end added reads fits c rests = let k = kept rests.2 in (rests.0, rests.1, k.0, k.1)
  where
    kept : (EndsAt end c × (content c ≡ content rests.0)) ⊎ (EndsAt (end + length (opened added)) c × (content c ≡ content rests.0 ++ added))
        → IsBeforeOrAll (content rests.0) added c × IsUndamaged limit 0 c
    kept (inl before) = (inl before.1, undamaged_end limit end c before.0 (omega (arith, fits)))
    kept (inr after) = (inr after.1, undamaged_end limit (end + length (opened added)) c after.0 fits)
