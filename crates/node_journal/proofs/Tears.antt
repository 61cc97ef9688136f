-- What a crash leaves in each of the two writes of an append.
use Rattle.std.proofs.Common.{◌≡◌, ◌≢◌, ℕ, ◌+◌, List, [], ◌∷◌, ◌++◌, length, get_or, take, drop, refl, sym, ◌∙◌, ap, subst, arith, append_assoc, length-append, take-append-drop}
use Rattle.std.proofs.lemmas.List.{take_at, drop_at, drop_more}
use Rattle.node_journal.specs.Disk.{Torn}
use Rattle.node_journal.specs.Records.{content, opened, body, IsSized, AllSized, IsBeforeOrAfter}
use Rattle.node_journal.proofs.Contents.{content_closed, content_gate}

size_one : (front : List ℕ) (gate : ℕ) → length (front ++ gate ∷ []) ≡ length front + 1
size_one front gate = length-append front (gate ∷ [])

-- the gate with the front, and what is behind it
pub front_gate : (front : List ℕ) (gate : ℕ) (tail : List ℕ) → take (length front + 1) (front ++ gate ∷ tail) ≡ front ++ gate ∷ []
front_gate front gate tail =
    ap (λ (l : List ℕ). take (length front + 1) l) (sym (append_assoc front (gate ∷ []) tail)) ∙ take_at (front ++ gate ∷ []) tail (length front + 1) (size_one front gate)

pub back_gate : (front : List ℕ) (gate : ℕ) (tail : List ℕ) → drop (length front + 1) (front ++ gate ∷ tail) ≡ tail
back_gate front gate tail =
    ap (λ (l : List ℕ). drop (length front + 1) l) (sym (append_assoc front (gate ∷ []) tail)) ∙ drop_at (front ++ gate ∷ []) tail (length front + 1) (size_one front gate)

pub behind_whole : (front : List ℕ) (gate n : ℕ) (tail c : List ℕ) → Torn (length front + 1) n (front ++ gate ∷ tail) c → c ≡ front ++ gate ∷ drop (length front + 1) c
behind_whole front gate n tail c torn =
    let at = length front + 1 in
    sym (take-append-drop at c) ∙ ap (λ (l : List ℕ). l ++ drop at c) (torn.before ∙ front_gate front gate tail) ∙ append_assoc front (gate ∷ []) (drop at c)

pub behind_gate : (records : List (List ℕ)) (gate n : ℕ) (tail c : List ℕ) → AllSized records → gate ≢ 1
    → Torn (length (opened records) + 1) n (opened records ++ gate ∷ tail) c → content c ≡ records
behind_gate records gate n tail c sized shut torn =
    ap content (behind_whole (opened records) gate n tail c torn) ∙ content_closed records gate (drop (length (opened records) + 1) c) sized shut

pub at_whole : (front : List ℕ) (gate : ℕ) (behind c : List ℕ) → Torn (length front) 1 (front ++ gate ∷ behind) c → c ≡ front ++ get_or c (length front) 0 ∷ behind
at_whole front gate behind c torn =
    let at = length front in
    let long : length (front ++ gate ∷ behind) ≡ at + length (gate ∷ behind) = length-append front (gate ∷ behind) in
    let torn_gate = get_or c at 0 in
    let rest : drop at c ≡ torn_gate ∷ behind =
    drop_more c at 0 (omega (arith, torn.no_shorter, long)) ∙ ap (λ (l : List ℕ). torn_gate ∷ l) (torn.after ∙ back_gate front gate behind) in
    sym (take-append-drop at c) ∙ ap (λ (l : List ℕ). l ++ drop at c) (torn.before ∙ take_at front (gate ∷ behind) at refl) ∙ ap (λ (l : List ℕ). front ++ l) rest

pub at_gate : (records : List (List ℕ)) (added : List ℕ) (gate after : ℕ) (tail c : List ℕ) → AllSized records → IsSized added → after ≢ 1
    → Torn (length (opened records)) 1 (opened records ++ gate ∷ (body added ++ after ∷ tail)) c → IsBeforeOrAfter records added c
at_gate records added gate after tail c sized added_sized shut torn =
    let torn_gate = get_or c (length (opened records)) 0 in
    subst (IsBeforeOrAfter records added) (sym (at_whole (opened records) gate (body added ++ after ∷ tail) c torn)) (content_gate records added torn_gate after tail sized added_sized shut)
