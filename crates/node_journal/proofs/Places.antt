-- A journal's place on its disk, before and after a call.
use Rattle.std.proofs.Common.{◌≡◌, ◌≢◌, ◌⊎◌, inl, inr, ℕ, ◌+◌, ◌≤◌, List, [], ◌∷◌, ◌++◌, length, take, drop, refl, sym, ◌∙◌, ap, subst, arith, length-append, length-take, append_assoc, Ok, Err, Some, None}
use Rattle.std.proofs.lemmas.List.{drop_at}
use Rattle.std.specs.Int.{w32, to_be_bytes}
use Rattle.node_journal.specs.Records.{content, records_from, opened, body, AllSized, IsBehind, EndsAt, IsUndamaged, IsBeforeOrAfter, RestsBeforeOrAfter, LeavesBeforeOrAfter, LeavesNoByte, RestsNoneOrFirst, LeavesNoneOrFirst}
use Rattle.node_journal.specs.Disk.{DiskSeen, Within, IsUntouched}
use Rattle.node_journal.specs.Journal.{JournalState, IsInPlace}
use Rattle.node_journal.specs.Next.{found}
use Rattle.node_journal.specs.declared.fault.JournalFault.TheVariants.{Damaged}
use Rattle.node_journal.proofs.Contents.{opened_push, opened_length, sized_push, content_closed}
use Rattle.node_journal.proofs.Found.{drop_both}
use Rattle.node_journal.proofs.Walks.{first_found, none_found, shut_found, whole_found}

pub behind_start : (c : List ℕ) → IsBehind 0 c
behind_start c = record { records = []; sized = tt; rest = c; split = refl; place = refl; there = λ some. absurd (omega arith) }

pub behind_end : (end : ℕ) (c : List ℕ) → EndsAt end c → IsBehind end c
behind_end end c e = record { records = e.records; sized = e.sized; rest = e.gate ∷ e.tail; split = e.split; place = e.place; there = λ some. omega arith }

pub undamaged_end : (limit end : ℕ) (c : List ℕ) → EndsAt end c → end + 1 ≤ limit → IsUndamaged limit 0 c
undamaged_end limit end c e fits =
    record { records = e.records; sized = e.sized; gate = e.gate; closed = e.closed; tail = e.tail; split = e.split; fits = omega (arith, e.place, fits) }

end_rest : (end : ℕ) (c : List ℕ) (e : EndsAt end c) → drop end c ≡ e.gate ∷ e.tail
end_rest end c e = ap (λ (l : List ℕ). drop end l) e.split ∙ drop_at (opened e.records) (e.gate ∷ e.tail) end e.place

behind_rest : (end : ℕ) (c : List ℕ) (b : IsBehind end c) → drop end c ≡ b.rest
behind_rest end c b = ap (λ (l : List ℕ). drop end l) b.split ∙ drop_at (opened b.records) b.rest end b.place

-- at a closed gate nothing is found
pub end_found : (end limit : ℕ) (c : List ℕ) → EndsAt end c → found end limit (drop end c) ≡ Ok None
end_found end limit c e = ap (λ (l : List ℕ). found end limit l) (end_rest end c e) ∙ shut_found end limit e.gate e.tail e.closed

-- behind a record, where nothing is found stands a closed gate
pub found_end : (end limit : ℕ) (c : List ℕ) → IsBehind end c → 1 ≤ end → found end limit (drop end c) ≡ Ok None → EndsAt end c
found_end end limit c b some is =
    let here = behind_rest end c b in
    let at = none_found end limit b.rest (subst (λ (l : List ℕ). found end limit l ≡ Ok None) here is) (b.there some) in
    record { records = b.records; sized = b.sized; gate = at.0; closed = at.3; tail = at.1; split = b.split ∙ ap (λ (l : List ℕ). opened b.records ++ l) at.2; place = b.place }

pub records_none : (end limit : ℕ) (c : List ℕ) → found end limit (drop end c) ≡ Ok None → records_from end c ≡ []
records_none end limit c is = none (drop end c) is
  where
    none : (rest : List ℕ) → found end limit rest ≡ Ok None → content rest ≡ []
    none [] is = refl
    none (g ∷ tail) is =
        let at = none_found end limit (g ∷ tail) is (omega arith) in
        ap content at.2 ∙ content_closed [] at.0 at.1 tt at.3

behind_drop : (end : ℕ) (r c : List ℕ) → drop (length r) (drop 5 (drop end c)) ≡ drop (end + 5 + length r) c
behind_drop end r c = ap (λ (l : List ℕ). drop (length r) l) (drop_both end 5 c) ∙ drop_both (end + 5) (length r) c

pub records_some : (end limit : ℕ) (r c : List ℕ) → found end limit (drop end c) ≡ Ok (Some r) → records_from end c ≡ r ∷ records_from (end + 5 + length r) c
records_some end limit r c is = (first_found end limit (drop end c) r is).records ∙ ap (λ (l : List ℕ). r ∷ content l) (behind_drop end r c)

-- behind the record that was found, if its length is spelled as an append spells it
pub behind_found : (end limit : ℕ) (r c : List ℕ) → IsBehind end c → found end limit (drop end c) ≡ Ok (Some r) → take 4 (drop 1 (drop end c)) ≡ to_be_bytes w32 (length r)
    → IsBehind (end + 5 + length r) c
behind_found end limit r c b is spelled =
    let first = first_found end limit (drop end c) r is in
    let after = drop (length r) (drop 5 (drop end c)) in
    let whole : b.rest ≡ 1 ∷ (body r ++ after) =
    sym (behind_rest end c b) ∙ first.split ∙ ap (λ (l : List ℕ). 1 ∷ (l ++ (r ++ after))) spelled ∙ ap (λ (l : List ℕ). 1 ∷ l) (sym (append_assoc (to_be_bytes w32 (length r)) r after)) in
    record {
      records = b.records ++ r ∷ [];
      sized = sized_push b.records r b.sized first.sized;
      rest = after;
      split = b.split ∙ ap (λ (l : List ℕ). opened b.records ++ l) whole ∙ opened_push b.records r after;
      place = omega (arith, b.place, opened_length b.records r);
      there = λ some. first.more;
    }

-- what is found where nothing is damaged
undamaged_found : (limit end : ℕ) (rest : List ℕ) (records : List (List ℕ)) (gate : ℕ) (tail : List ℕ) → AllSized records → gate ≢ 1 → rest ≡ opened records ++ gate ∷ tail
    → end + length (opened records) + 1 ≤ limit → (at : ℕ) → found end limit rest ≡ Err (Damaged at) → ⊥
undamaged_found limit end rest [] gate tail sized shut split fits at is =
    let none = ap (λ (l : List ℕ). found end limit l) split ∙ shut_found end limit gate tail shut in cc
undamaged_found limit end rest (r ∷ records) gate tail sized shut split fits at is =
    let after = opened records ++ gate ∷ tail in
    let whole : rest ≡ 1 ∷ (body r ++ after) = split ∙ ap (λ (l : List ℕ). 1 ∷ l) (append_assoc (body r) (opened records) (gate ∷ tail)) in
    let more = length-append (opened records) (gate ∷ tail) in
    let some = ap (λ (l : List ℕ). found end limit l) whole ∙ whole_found end limit r after sized.0 (omega (arith, more)) (omega (arith, fits, length-append (body r) (opened records))) in
    cc

pub never_damaged : (limit end : ℕ) (c : List ℕ) → IsUndamaged limit end c → (at : ℕ) → found end limit (drop end c) ≡ Err (Damaged at) → ⊥
never_damaged limit end c u at is = undamaged_found limit end (drop end c) u.records u.gate u.tail u.sized u.closed u.split u.fits at is

-- the rest stays undamaged
undamaged_rest : (limit end : ℕ) (x c : List ℕ) (records : List (List ℕ)) (gate : ℕ) (tail : List ℕ) → AllSized records → gate ≢ 1 → drop end c ≡ opened records ++ gate ∷ tail
    → end + length (opened records) + 1 ≤ limit → found end limit (drop end c) ≡ Ok (Some x) → IsUndamaged limit (end + 5 + length x) c
undamaged_rest limit end x c [] gate tail sized shut split fits is =
    let none = ap (λ (l : List ℕ). found end limit l) split ∙ shut_found end limit gate tail shut in absurd cc
undamaged_rest limit end x c (r ∷ records) gate tail sized shut split fits is =
    let after = opened records ++ gate ∷ tail in
    let whole : drop end c ≡ 1 ∷ (body r ++ after) = split ∙ ap (λ (l : List ℕ). 1 ∷ l) (append_assoc (body r) (opened records) (gate ∷ tail)) in
    let more = length-append (opened records) (gate ∷ tail) in
    let sizes = length-append (body r) (opened records) in
    let some = ap (λ (l : List ℕ). found end limit l) whole ∙ whole_found end limit r after sized.0 (omega (arith, more)) (omega (arith, fits, sizes)) in
    let same : x ≡ r = cc in
    let moved : drop (length r) (drop 5 (drop end c)) ≡ after = ap (λ (l : List ℕ). drop (length r) (drop 5 l)) whole ∙ drop_at r after (length r) refl in
    subst (λ (y : List ℕ). IsUndamaged limit (end + 5 + length y) c) (sym same)
    (record { records = records; sized = sized.1; gate = gate; closed = shut; tail = tail; split = sym (behind_drop end r c) ∙ moved; fits = omega (arith, fits, sizes) })

pub still_undamaged : (limit end : ℕ) (x c : List ℕ) → IsUndamaged limit end c → found end limit (drop end c) ≡ Ok (Some x) → IsUndamaged limit (end + 5 + length x) c
still_undamaged limit end x c u is = undamaged_rest limit end x c u.records u.gate u.tail u.sized u.closed u.split u.fits is

-- What an append may leave is undamaged, where its record and a closed gate keep the limit.
pub rests_leaves : (limit end : ℕ) (added : List ℕ) (reads : List ℕ → Type 0) → end + 5 + length added + 1 ≤ limit → Within (RestsBeforeOrAfter reads end added) (LeavesBeforeOrAfter limit reads added)
rests_leaves limit end added reads fits c rests = let k = kept rests.2 in (rests.0, rests.1, k.0, k.1)
  where
    kept : (EndsAt end c × (content c ≡ content rests.0)) ⊎ (EndsAt (end + 5 + length added) c × (content c ≡ content rests.0 ++ added ∷ []))
        → IsBeforeOrAfter (content rests.0) added c × IsUndamaged limit 0 c
    kept (inl before) = (inl before.1, undamaged_end limit end c before.0 (omega (arith, fits)))
    kept (inr after) = (inr after.1, undamaged_end limit (end + 5 + length added) c after.0 fits)

-- no byte is no record
pub blank_leaves : (limit : ℕ) (first : List ℕ) (may : List ℕ → Type 0) → LeavesNoByte may → Within may (LeavesNoneOrFirst limit first)
blank_leaves limit first may none c left =
    let empty : length c ≡ 0 = ap length (none c left) in
    (inl (ap content (none c left)), inl (omega (arith, empty)))

-- What the making of a journal may leave is undamaged behind its first byte, where the first record and a closed
-- gate keep the limit.
pub first_leaves : (limit : ℕ) (first : List ℕ) → 0 + 5 + length first + 1 ≤ limit → Within (RestsNoneOrFirst first) (LeavesNoneOrFirst limit first)
first_leaves limit first fits c (inl short) = (inl (no_record c short), inl short)
  where
    no_record : (bytes : List ℕ) → length bytes ≤ 1 → content bytes ≡ []
    no_record [] few = refl
    no_record (gate ∷ []) few = refl
    no_record (gate ∷ next ∷ rest) few = absurd (omega (arith, few))
first_leaves limit first fits c (inr (inl (ends, none))) = (inl none, inr (undamaged_end limit 0 c ends (omega (arith, fits))))
first_leaves limit first fits c (inr (inr (ends, one))) = (inr one, inr (undamaged_end limit (0 + 5 + length first) c ends fits))

-- A record of n bytes was read into the front of a buffer.
module _ (end limit n : ℕ) (out : List ℕ) (held : n ≤ length out) where
  size : length (take n out) ≡ n
  size = omega (arith, length-take n out)

  past : end + 5 + length (take n out) ≡ end + (5 + n)
  past = omega (arith, size)

  pub records_read : (c : List ℕ) → found end limit (drop end c) ≡ Ok (Some (take n out)) → records_from end c ≡ take n out ∷ records_from (end + (5 + n)) c
  records_read c is = records_some end limit (take n out) c is ∙ ap (λ (at : ℕ). take n out ∷ records_from at c) past

  pub undamaged_read : (c : List ℕ) → found end limit (drop end c) ≡ Ok (Some (take n out)) → IsUndamaged limit end c → IsUndamaged limit (end + (5 + n)) c
  undamaged_read c is u = subst (λ (at : ℕ). IsUndamaged limit at c) past (still_undamaged limit end (take n out) c u is)

  pub behind_read : (c : List ℕ) → found end limit (drop end c) ≡ Ok (Some (take n out)) → take 4 (drop 1 (drop end c)) ≡ to_be_bytes w32 n → IsBehind end c → IsBehind (end + (5 + n)) c
  behind_read c is spelled b =
      subst (λ (at : ℕ). IsBehind at c) past (behind_found end limit (take n out) c b is (spelled ∙ ap (λ (k : ℕ). to_be_bytes w32 k) (sym size)))

-- the journal after it
pub read_in_place : (j k : JournalState) (disk disk_now : DiskSeen) (n : ℕ) (out : List ℕ) → n ≤ length out
    → IsInPlace j disk → IsUntouched disk disk_now
    → k.end ≡ j.end + (5 + n) → k.limit ≡ j.limit → k.ready ≡ j.ready → j.end + 5 + n + 1 ≤ j.limit
    → ((c : List ℕ) → disk.reads c → found j.end j.limit (drop j.end c) ≡ Ok (Some (take n out)))
    → ((c : List ℕ) → disk.reads c → take 4 (drop 1 (drop j.end c)) ≡ to_be_bytes w32 n)
    → IsInPlace k disk_now
read_in_place j k disk disk_now n out held old same end_is limit_is ready_is fits some spelled = record {
  behind = λ c read.
      let before = same.gives c read in
      subst (λ (at : ℕ). IsBehind at c) (sym end_is) (behind_read j.end j.limit n out held c (some c before) (spelled c before) (old.behind c before));
  at_rest = λ ready c read.
      let before = same.gives c read in
      absurd (clash c (end_found j.end j.limit c (old.at_rest (sym ready_is ∙ ready) c before)) (some c before));
  fits = λ ready. omega (arith, end_is, limit_is, fits);
  durable = λ c left. same.still c (old.durable c (same.crash c left));
}
  where
    clash : (c : List ℕ) → found j.end j.limit (drop j.end c) ≡ Ok None → found j.end j.limit (drop j.end c) ≡ Ok (Some (take n out)) → ⊥
    clash c none one = cc
