-- What a crash may leave after one more write or sync, or none.
use Rattle.std.proofs.Common.{◌≡◌, ◌⊎◌, inl, inr, ⊎_elim, ℕ, suc, ◌+◌, ◌-◌, ◌≤◌, ◌<◌, List, [], ◌∷◌, ◌++◌, length, take, drop, refl, sym, ◌∙◌, ap, subst, arith, append_assoc, length-append, length-take, length-drop}
use Rattle.std.proofs.lemmas.List.{take_at, drop_at}
use Rattle.std.proofs.lemmas.Bool.{cases_lt}
use Rattle.std.proofs.lemmas.Bool.Decides.{nat_tests}
use Rattle.node_journal.specs.Disk.{Torn, Holds, Follows, Within, IsUntouched, Elapses}
use Rattle.node_journal.specs.History.{History, Change, Wrote, Synced, wrote, synced, overwritten, bytes_after, bytes_of, left_after, left_of, seen_of, Reads, MayLeave, MayLeaveAfter, LeftSince, moment_of}
use Rattle.node_journal.proofs.Found.{drop_both}

-- where the offset isn't past the end
pub over : (at : ℕ) (bytes old : List ℕ) → at ≤ length old → overwritten at bytes old ≡ take at old ++ bytes ++ drop (at + length bytes) old
over at bytes old le = grind (arith, nat_tests)

pub not_over : (at : ℕ) (bytes old : List ℕ) → length old < at → overwritten at bytes old ≡ old
not_over at bytes old past = grind (arith, nat_tests)

pub torn_same : (at n : ℕ) (c : List ℕ) → Torn at n c c
torn_same at n c = record { before = refl; after = refl; no_shorter = omega arith; no_longer = omega arith }

torn_over : (at n : ℕ) (bytes old : List ℕ) → at ≤ length old → length bytes ≤ n → Torn at n old (take at old ++ bytes ++ drop (at + length bytes) old)
torn_over at n bytes old le fits =
    let front = take at old ++ bytes in
    let back = drop (at + length bytes) old in
    let size : length (take at old) ≡ at = omega (arith, length-take at old) in
    let front_size : length front ≡ at + length bytes = omega (arith, length-append (take at old) bytes, size) in
    let whole_size = length-append front back in
    let back_size = length-drop (at + length bytes) old in
    let more = n - length bytes in
    let place : at + length bytes + more ≡ at + n = omega arith in
    record {
      before = ap (λ (l : List ℕ). take at l) (append_assoc (take at old) bytes back) ∙ take_at (take at old) (bytes ++ back) at size;
      after = ap (λ (k : ℕ). drop k (front ++ back)) (sym place) ∙ sym (drop_both (at + length bytes) more (front ++ back))
          ∙ ap (λ (l : List ℕ). drop more l) (drop_at front back (at + length bytes) front_size)
          ∙ drop_both (at + length bytes) more old ∙ ap (λ (k : ℕ). drop k old) place;
      no_shorter = omega (arith, whole_size, front_size, back_size);
      no_longer = omega (arith, whole_size, front_size, back_size, fits);
    }

pub torn_overwritten : (at n : ℕ) (bytes old : List ℕ) → length bytes ≤ n → Torn at n old (overwritten at bytes old)
torn_overwritten at n bytes old fits = elim (cases_lt (length old) at) [
  | inl past ↦ subst (λ (l : List ℕ). Torn at n old l) (sym (not_over at bytes old past)) (torn_same at n old)
  | inr le ↦ subst (λ (l : List ℕ). Torn at n old l) (sym (over at bytes old le)) (torn_over at n bytes old le fits)
]

pub longer_overwritten : (at : ℕ) (bytes old : List ℕ) → length (overwritten at bytes old) ≤ length old + length bytes
longer_overwritten at bytes old = elim (cases_lt (length old) at) [
  | inl past ↦ omega (arith, ap length (not_over at bytes old past))
  | inr le ↦ omega (arith, ap length (over at bytes old le), length-append (take at old ++ bytes) (drop (at + length bytes) old), length-append (take at old) bytes, length-take at old, length-drop (at + length bytes) old)
]

-- a read's content is one of those that a crash may leave
reads_may_after : (first : List ℕ) (changes : List Change) → MayLeaveAfter first changes (bytes_after first changes)
reads_may_after first [] = refl
reads_may_after first (Wrote at bytes ∷ before) =
    (bytes_after first before, reads_may_after first before, torn_overwritten at (length bytes) bytes (bytes_after first before) (omega arith))
reads_may_after first (Synced ∷ before) = refl

pub reads_may : (h : History) → MayLeave h (bytes_of h)
reads_may h = reads_may_after h.first h.changes

left_may_after : (arriving first : List ℕ) (changes : List Change) → MayLeaveAfter first changes (left_after arriving first changes)
left_may_after arriving first [] = refl
left_may_after arriving first (Wrote at bytes ∷ before) =
    (left_after arriving first before, left_may_after arriving first before, torn_overwritten at (length bytes) (take (length bytes) arriving) (left_after arriving first before) (omega (arith, length-take (length bytes) arriving)))
left_may_after arriving first (Synced ∷ before) = refl

pub left_may : (arriving : List ℕ) (h : History) → MayLeave h (left_of arriving h)
left_may arriving h = left_may_after arriving h.first h.changes

pub same_time : (h : History) → Elapses (seen_of h) (seen_of h)
same_time h = record { later = omega arith; nothing_else = λ t c le since. inl since; keeps = λ t c le past. past }

-- a moment of a longer history is now, or one of the history before
one_earlier : (first : List ℕ) (change : Change) (before : List Change) (m : ℕ) (c : List ℕ)
    → MayLeaveAfter first (drop (suc (length before) - m) (change ∷ before)) c
    → MayLeaveAfter first (drop (length before - m) before) c ⊎ MayLeaveAfter first (change ∷ before) c
one_earlier first change before m c left = elim (cases_lt (length before) m) [
  | inl past ↦
      let none : suc (length before) - m ≡ 0 = omega (arith, past) in
      inr (subst (λ k. MayLeaveAfter first (drop k (change ∷ before)) c) none left)
  | inr le ↦
      let one : suc (length before) - m ≡ suc (length before - m) = omega (arith, le) in
      inl (subst (λ k. MayLeaveAfter first (drop k (change ∷ before)) c) one left)
]

-- what a history might have left at a moment, it might have left at one that the longer history has
one_later : (first : List ℕ) (change : Change) (before : List Change) (t : ℕ) (c : List ℕ) → t ≤ length before
    → (m : ℕ) × (t ≤ m) × MayLeaveAfter first (drop (length before - m) before) c
    → (m : ℕ) × (t ≤ m) × MayLeaveAfter first (drop (suc (length before) - m) (change ∷ before)) c
one_later first change before t c le (m, from, left) = elim (cases_lt (length before) m) [
  | inl past ↦
      let none : length before - m ≡ 0 = omega (arith, past) in
      let one : suc (length before) - length before ≡ suc 0 = omega arith in (
        length before,
        le,
        subst (λ k. MayLeaveAfter first (drop k (change ∷ before)) c) (sym one)
            (subst (λ k. MayLeaveAfter first (drop k before) c) none left),
      )
  | inr le' ↦
      let one : suc (length before) - m ≡ suc (length before - m) = omega (arith, le') in
      (m, from, subst (λ k. MayLeaveAfter first (drop k (change ∷ before)) c) (sym one) left)
]

change_time : (h : History) (change : Change) (new : History) → new ≡ record { first = h.first; changes = change ∷ h.changes }
    → Elapses (seen_of h) (seen_of new)
change_time h change new is = subst (λ n. Elapses (seen_of h) (seen_of n)) (sym is) record {
  later = omega arith;
  nothing_else = λ t c le since. ⊎_elim (λ past. inl (since.0, since.1, past)) (λ now. inr now) (one_earlier h.first change h.changes since.0 c since.2);
  keeps = λ t c le past. one_later h.first change h.changes t c le past;
}

pub write_time : (h : History) (at : ℕ) (bytes : List ℕ) → Elapses (seen_of h) (seen_of (wrote at bytes h))
write_time h at bytes = change_time h (Wrote at bytes) (wrote at bytes h) refl

pub sync_time : (h : History) → Elapses (seen_of h) (seen_of (synced h))
sync_time h = change_time h Synced (synced h) refl

pub same_content : (h : History) → IsUntouched (seen_of h) (seen_of h)
same_content h = record { gives = λ c is. is; still = λ c is. is; crash = λ c left. left }

pub sync_content : (h : History) → IsUntouched (seen_of h) (seen_of (synced h))
sync_content h = record { gives = λ c is. is; still = λ c is. is; crash = λ c is. subst (MayLeave h) (sym is) (reads_may h) }

pub sync_durable : (h : History) → Within (MayLeave (synced h)) (Reads (synced h))
sync_durable h = λ c is. is

pub write_holds : (h : History) (at : ℕ) (bytes : List ℕ) → at ≤ length (bytes_of h) → Follows (Holds at bytes) (Reads h) (Reads (wrote at bytes h))
write_holds h at bytes le = λ c is. (bytes_of h, refl, is ∙ over at bytes (bytes_of h) le)

pub write_crash : (h : History) (at : ℕ) (bytes : List ℕ) → Follows (Torn at (length bytes)) (MayLeave h) (MayLeave (wrote at bytes h))
write_crash h at bytes = λ c left. left

pub no_crash : (h : History) (at n : ℕ) → Follows (Torn at n) (MayLeave h) (MayLeave h)
no_crash h at n = λ c left. (c, left, torn_same at n c)
