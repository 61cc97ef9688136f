-- The two writes of a batch, over what a read gives and what a crash leaves.
use Rattle.std.proofs.Common.{◌≡◌, ◌⊎◌, inl, inr, get_or, ℕ, ◌+◌, ◌≤◌, List, [], ◌∷◌, ◌++◌, length, take, drop, refl, sym, ◌∙◌, ap, subst, arith, append_assoc, length-append}
use Rattle.std.proofs.lemmas.List.{take_at}
use Rattle.std.proofs.lemmas.Bool.{cases_eq}
use Rattle.node_journal.specs.Disk.{Torn, Holds, Follows, Within}
use Rattle.node_journal.specs.Records.{content, opened, AllSized, EndsAt, LeavesNoByte, RestsBeforeOrAfter, RestsNoneOrFirst}
use Rattle.node_journal.specs.Batches.{AppendedAll, RestsBeforeOrAll, Spells}
use Rattle.node_journal.proofs.Contents.{content_closed, opened-append, sized-append}
use Rattle.node_journal.proofs.Tears.{behind_whole, behind_gate, at_whole, front_gate, back_gate}

-- the records stand behind the gate but for their own first gate, and a closed gate behind them
pub record IsStaged (end : ℕ) (bytes old new : List ℕ) : Type 0 where
  pub records : List (List ℕ)
  pub sized : AllSized records
  pub same : content old ≡ records
  pub gate : ℕ
  pub tail : List ℕ
  pub split : new ≡ opened records ++ gate ∷ (bytes ++ tail)
  pub place : length (opened records) ≡ end

module _ (end : ℕ) (added : List (List ℕ)) (bytes : List ℕ) (fits : AllSized added) (spells : Spells added bytes) where
  stage_crash : (n : ℕ) (d c : List ℕ) → EndsAt end d → Torn (end + 1) n d c → EndsAt end c × (content c ≡ content d)
  stage_crash n d c e torn =
      let same : content d ≡ e.records = ap content e.split ∙ content_closed e.records e.gate e.tail e.sized e.closed in
      let moved = subst (λ (l : List ℕ). Torn (end + 1) n l c) e.split torn in
      let placed = subst (λ (at : ℕ). Torn (at + 1) n (opened e.records ++ e.gate ∷ e.tail) c) (sym e.place) moved in (
        record { records = e.records; sized = e.sized; gate = e.gate; closed = e.closed; tail = drop (length (opened e.records) + 1) c; split = behind_whole (opened e.records) e.gate n e.tail c placed; place = e.place },
        behind_gate e.records e.gate n e.tail c e.sized e.closed placed ∙ sym same,
      )

  stage_written : (d c : List ℕ) → EndsAt end d → Holds (end + 1) bytes d c → IsStaged end bytes d c
  stage_written d c e holds =
      let written = bytes in
      let front : take (end + 1) d ≡ opened e.records ++ e.gate ∷ [] =
      ap (λ (l : List ℕ). take (end + 1) l) e.split ∙ ap (λ (at : ℕ). take (at + 1) (opened e.records ++ e.gate ∷ e.tail)) (sym e.place) ∙ front_gate (opened e.records) e.gate e.tail in
      let tail = drop (end + 1 + length written) d in
      record {
        records = e.records;
        sized = e.sized;
        same = ap content e.split ∙ content_closed e.records e.gate e.tail e.sized e.closed;
        gate = e.gate;
        tail = tail;
        split = holds ∙ ap (λ (l : List ℕ). (l ++ written) ++ tail) front ∙ append_assoc (opened e.records ++ e.gate ∷ []) written tail
            ∙ append_assoc (opened e.records) (e.gate ∷ []) (written ++ tail);
        place = e.place;
      }

  -- the gate stands open
  gate_open : (d x c : List ℕ) (s : IsStaged end bytes d x) → c ≡ opened s.records ++ 1 ∷ (bytes ++ s.tail)
      → EndsAt (end + length (opened added)) c × (content c ≡ content d ++ added)
  gate_open d x c s whole =
      let shown : c ≡ opened (s.records ++ added) ++ 0 ∷ s.tail =
      whole ∙ ap (λ (l : List ℕ). opened s.records ++ (l ++ s.tail)) spells
      ∙ ap (λ (l : List ℕ). opened s.records ++ l) (append_assoc (opened added) (0 ∷ []) s.tail)
      ∙ sym (append_assoc (opened s.records) (opened added) (0 ∷ s.tail))
      ∙ ap (λ (l : List ℕ). l ++ 0 ∷ s.tail) (sym (opened-append s.records added)) in (
        record {
          records = s.records ++ added;
          sized = sized-append s.records added s.sized fits;
          gate = 0;
          closed = omega arith;
          tail = s.tail;
          split = shown;
          place = omega (arith, s.place, ap length (opened-append s.records added), length-append (opened s.records) (opened added));
        },
        ap content shown ∙ content_closed (s.records ++ added) 0 s.tail (sized-append s.records added s.sized fits) (omega arith)
            ∙ ap (λ (rs : List (List ℕ)). rs ++ added) (sym s.same),
      )

  gate_crash : (d x c : List ℕ) → IsStaged end bytes d x → Torn end 1 x c
      → (EndsAt end c × (content c ≡ content d)) ⊎ (EndsAt (end + length (opened added)) c × (content c ≡ content d ++ added))
  gate_crash d x c s torn =
      let behind = bytes ++ s.tail in
      let moved = subst (λ (l : List ℕ). Torn end 1 l c) s.split torn in
      let placed = subst (λ (at : ℕ). Torn at 1 (opened s.records ++ s.gate ∷ behind) c) (sym s.place) moved in
      let torn_gate = get_or c (length (opened s.records)) 0 in
      let whole : c ≡ opened s.records ++ torn_gate ∷ behind = at_whole (opened s.records) s.gate behind c placed in
      elim (cases_eq torn_gate 1) [
        | inl is_open ↦ inr (gate_open d x c s (whole ∙ ap (λ (g : ℕ). opened s.records ++ g ∷ behind) is_open))
        | inr is_shut ↦ inl (
          record { records = s.records; sized = s.sized; gate = torn_gate; closed = is_shut; tail = behind; split = whole; place = s.place },
          ap content whole ∙ content_closed s.records torn_gate behind s.sized is_shut ∙ sym s.same,
        )
      ]

  gate_written : (d x c : List ℕ) → IsStaged end bytes d x → Holds end (1 ∷ []) x c → EndsAt (end + length (opened added)) c × (content c ≡ content d ++ added)
  gate_written d x c s holds =
      let behind = bytes ++ s.tail in
      let front : take end x ≡ opened s.records = ap (λ (l : List ℕ). take end l) s.split ∙ take_at (opened s.records) (s.gate ∷ behind) end s.place in
      let back : drop (end + 1) x ≡ behind =
      ap (λ (l : List ℕ). drop (end + 1) l) s.split ∙ ap (λ (at : ℕ). drop (at + 1) (opened s.records ++ s.gate ∷ behind)) (sym s.place) ∙ back_gate (opened s.records) s.gate behind in
      gate_open d x c s (holds ∙ ap (λ (l : List ℕ). (l ++ 1 ∷ []) ++ drop (end + 1) x) front ∙ append_assoc (opened s.records) (1 ∷ []) (drop (end + 1) x) ∙ ap (λ (l : List ℕ). opened s.records ++ 1 ∷ l) back)

  pub staged_long : (d x : List ℕ) → IsStaged end bytes d x → end ≤ length x
  staged_long d x s = omega (arith, s.place, ap length s.split, length-append (opened s.records) (s.gate ∷ (bytes ++ s.tail)))

  module _ (reads may : List ℕ → Type 0) (ends : (c : List ℕ) → reads c → EndsAt end c) (durable : Within may reads) where
    abbrev pub P : List ℕ → Type 0
    P = RestsBeforeOrAll reads end added

    abbrev pub Staged : List ℕ → Type 0
    Staged c = (d : List ℕ) × reads d × IsStaged end bytes d c

    pub at_start : Within may P
    at_start c left = (c, durable c left, inl (ends c (durable c left), refl))

    pub first : (n : ℕ) (may_1 : List ℕ → Type 0) → Follows (Torn (end + 1) n) may may_1 → Within may_1 P
    first n may_1 follows c left =
        let from = follows c left in
        (from.0, durable from.0 from.1, inl (stage_crash n from.0 c (ends from.0 (durable from.0 from.1)) from.2))

    pub staged : (reads_1 : List ℕ → Type 0) → Follows (Holds (end + 1) bytes) reads reads_1 → Within reads_1 Staged
    staged reads_1 follows c read =
        let from = follows c read in
        (from.0, from.1, stage_written from.0 c (ends from.0 from.1) from.2)

    pub second : (may_2 may_3 : List ℕ → Type 0) → Within may_2 Staged → Follows (Torn end 1) may_2 may_3 → Within may_3 P
    second may_2 may_3 is_staged follows c left =
        let from = follows c left in
        let s = is_staged from.0 from.1 in
        (s.0, s.1, gate_crash s.0 from.0 c s.2 from.2)

    pub last : (reads_2 reads_3 : List ℕ → Type 0) → Within reads_2 Staged → Follows (Holds end (1 ∷ [])) reads_2 reads_3
        → (c : List ℕ) → reads_3 c → EndsAt (end + length (opened added)) c × AppendedAll reads added c
    last reads_2 reads_3 is_staged follows c read =
        let from = follows c read in
        let s = is_staged from.0 from.1 in
        let done = gate_written s.0 from.0 c s.2 from.2 in
        (done.0, (s.0, s.1, done.1))

-- a disk with no byte, after a closed gate was written at its front
pub first_gate : (reads reads_1 : List ℕ → Type 0) → ((c : List ℕ) → reads c → c ≡ []) → Follows (Holds 0 (0 ∷ [])) reads reads_1 → (c : List ℕ) → reads_1 c → c ≡ 0 ∷ []
first_gate reads reads_1 empty follows c read =
    let from = follows c read in
    from.2 ∙ ap (λ (l : List ℕ). (take 0 l ++ 0 ∷ []) ++ drop (0 + 1) l) (empty from.0 from.1)

pub ends_first : (c : List ℕ) → c ≡ 0 ∷ [] → EndsAt 0 c
ends_first c is = record { records = []; sized = tt; gate = 0; closed = omega arith; tail = []; split = is; place = refl }

-- what a crash leaves of a disk with no byte, and of a write of one byte to it
pub none_rests : (bytes : List ℕ) (may : List ℕ → Type 0) → LeavesNoByte may → Within may (RestsNoneOrFirst bytes)
none_rests bytes may none c left = let empty : length c ≡ 0 = ap length (none c left) in inl (omega (arith, empty))

pub torn_rests : (bytes : List ℕ) (may may_1 : List ℕ → Type 0) → LeavesNoByte may → Follows (Torn 0 1) may may_1 → Within may_1 (RestsNoneOrFirst bytes)
torn_rests bytes may may_1 none follows c left =
    let from = follows c left in
    let empty : length from.0 ≡ 0 = ap length (none from.0 from.1) in
    inl (omega (arith, empty, from.2.no_longer))

-- what an append to a closed gate alone leaves
pub first_rests : (bytes : List ℕ) (reads : List ℕ → Type 0) → ((c : List ℕ) → reads c → c ≡ 0 ∷ []) → Within (RestsBeforeOrAfter reads 0 bytes) (RestsNoneOrFirst bytes)
first_rests bytes reads gate c rests = kept rests.2
  where
    none : content rests.0 ≡ []
    none = ap content (gate rests.0 rests.1)

    kept : (EndsAt 0 c × (content c ≡ content rests.0)) ⊎ (EndsAt (0 + 5 + length bytes) c × (content c ≡ content rests.0 ++ bytes ∷ []))
        → RestsNoneOrFirst bytes c
    kept (inl before) = inr (inl (before.0, before.1 ∙ none))
    kept (inr after) = inr (inr (after.0, after.1 ∙ ap (λ (rs : List (List ℕ)). rs ++ bytes ∷ []) none))
