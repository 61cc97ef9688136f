-- What lists of calls leave of a link.
use Rattle.std.proofs.Common.{◌≡◌, ℕ, ◌+◌, ◌-◌, ◌<◌, ◌≤◌, ◌==◌, ◌&&◌, Bool, true, false, List, [], ◌∷◌, ◌++◌, length, drop, suc, zero, refl, sym, ap, ◌∙◌, arith, append_assoc, append-nil, add-zero, zero-add, length-append, nat_lt, cond}
use Rattle.std.proofs.Math.Seq.{drop-nil}
use Rattle.std.proofs.lemmas.List.{drop-drop, drop-append-le, length-drop}
use Rattle.std.proofs.lemmas.Bool.Decides.{nat_tests}
use Rattle.link_order.specs.Link.{Outstanding, Carried, last, with_issued, with_removed, with_carried, none_issued, none_carried}
use Rattle.link_order.specs.Calls.{KeepsTheLast, after_carries, Call, Issues, Acknowledges, is_full, is_oldest, called, after, issued_by, removed_by, issued, removed, numbers_from, IssuesInOrder}

-- ---- carrying

last-last : (n : ℕ) (xs : List (List ℕ)) (x : List ℕ) → last n (last n xs ++ x ∷ []) ≡ last n (xs ++ x ∷ [])
last-last n xs x =
    let k : ℕ = length xs - n in
    let whole : drop k xs ++ x ∷ [] ≡ drop k (xs ++ x ∷ []) = sym (drop-append-le k xs (x ∷ []) (omega arith)) in
    let same : k + (length (drop k (xs ++ x ∷ [])) - n) ≡ length (xs ++ x ∷ []) - n = simp (length-drop, length-append) (omega arith) in
    ap (last n) whole ∙ drop-drop (length (drop k (xs ++ x ∷ [])) - n) k (xs ++ x ∷ []) ∙ ap (λ i. drop i (xs ++ x ∷ [])) same

-- the link after these replies
abbrev carried_all : ℕ → ℕ → List (List ℕ) → Carried
carried_all window size replies = record { carried = length replies; window = window; size = size; replies = last window replies }

one-carried : (window size : ℕ) (before : List (List ℕ)) (reply : List ℕ) →
    with_carried (carried_all window size before) reply ≡ carried_all window size (before ++ reply ∷ [])
one-carried window size before reply =
    let count : length before + 1 ≡ length (before ++ reply ∷ []) = simp length-append in
    rw (count, last-last window before reply) refl

carried-from : (window size : ℕ) (before replies : List (List ℕ)) → after_carries (carried_all window size before) replies ≡ carried_all window size (before ++ replies)
carried-from window size before [] = ap (carried_all window size) (sym (append-nil before))
carried-from window size before (reply ∷ replies) =
    ap (λ link. after_carries link replies) (one-carried window size before reply)
    ∙ carried-from window size (before ++ reply ∷ []) replies
    ∙ ap (carried_all window size) (append_assoc before (reply ∷ []) replies)

pub keeps_the_last : KeepsTheLast
keeps_the_last window size replies =
    let none : carried_all window size [] ≡ none_carried window size = ap (λ rs. let l : Carried = record { carried = 0; window = window; size = size; replies = rs } in l) (drop-nil (0 - window)) in
    ap (λ link. after_carries link replies) (sym none) ∙ carried-from window size [] replies

-- ---- issuing

-- these were issued, and so many of them acknowledged
record Follows (link : Outstanding) (window size : ℕ) (sent : List (List ℕ)) (gone : ℕ) : Type 0 where
  next : link.next ≡ 1 + length sent
  window_same : link.window ≡ window
  size_same : link.size ≡ size
  frames : link.frames ≡ drop gone sent
  within : gone ≤ length sent

issue-follows : (link : Outstanding) (window size : ℕ) (sent : List (List ℕ)) (gone : ℕ) (frame : List ℕ) →
    Follows link window size sent gone → Follows (with_issued link frame) window size (sent ++ frame ∷ []) gone
issue-follows link window size sent gone frame f = record {
  next = simp length-append (omega (arith, f.next));
  window_same = f.window_same;
  size_same = f.size_same;
  frames = ap (λ fs. fs ++ frame ∷ []) f.frames ∙ sym (drop-append-le gone sent (frame ∷ []) f.within);
  within = simp length-append (omega (arith, f.within));
}

remove-follows : (link : Outstanding) (window size : ℕ) (sent : List (List ℕ)) (gone : ℕ) → 0 < length link.frames →
    Follows link window size sent gone → Follows (with_removed link) window size sent (gone + 1)
remove-follows link window size sent gone some f = record {
  next = f.next;
  window_same = f.window_same;
  size_same = f.size_same;
  frames = ap (drop 1) f.frames ∙ drop-drop 1 gone sent;
  within = omega (arith, ap length f.frames, length-drop gone sent, some);
}

numbers-append : (first m n : ℕ) → numbers_from first m ++ numbers_from (first + m) n ≡ numbers_from first (m + n)
numbers-append first zero n = ap (λ f. numbers_from f n) (add-zero first) ∙ ap (numbers_from first) (sym (zero-add n))
numbers-append first (suc m) n =
    let more : first + suc m ≡ first + 1 + m = omega arith in
    let longer : suc m + n ≡ suc (m + n) = omega arith in
    rw (more, longer) (ap (λ ns. first ∷ ns) (numbers-append (first + 1) m n))

-- what one call leaves of such a link
record Leaves (link : Outstanding) (window size : ℕ) (sent : List (List ℕ)) (gone : ℕ) (call : Call) : Type 0 where
  in_order : removed_by link call ≡ numbers_from (gone + 1) (length (removed_by link call))
  ends : Follows (called link call) window size (sent ++ issued_by link call) (gone + length (removed_by link call))

both-true : (n x y : ℕ) → (nat_lt 0 n && (x == y)) ≡ true → (0 < n) × (x ≡ y)
both-true n x y h = (grind (arith, nat_tests, h), grind (arith, nat_tests, h))

oldest : (link : Outstanding) (window size : ℕ) (sent : List (List ℕ)) (gone number : ℕ) → Follows link window size sent gone →
    (0 < length link.frames) × (number + length link.frames ≡ link.next) → number ≡ gone + 1
oldest link window size sent gone number f is =
    omega (arith, is.0, is.1, f.next, ap length f.frames, length-drop gone sent)

-- the same for an acknowledgement that is the oldest one's, or isn't
record Acknowledged (link : Outstanding) (window size : ℕ) (sent : List (List ℕ)) (gone number : ℕ) (b : Bool) : Type 0 where
  in_order : cond b (number ∷ []) [] ≡ numbers_from (gone + 1) (length (cond b (number ∷ []) []))
  ends : Follows (cond b (with_removed link) link) window size (sent ++ []) (gone + length (cond b (number ∷ []) []))

acknowledged : (link : Outstanding) (window size : ℕ) (sent : List (List ℕ)) (gone number : ℕ) → Follows link window size sent gone → (b : Bool) → is_oldest link number ≡ b → Acknowledged link window size sent gone number b
acknowledged link window size sent gone number f true e =
    let is = both-true (length link.frames) (number + length link.frames) link.next e in
    record {
      in_order = ap (λ n. n ∷ []) (oldest link window size sent gone number f is);
      ends = rw (append-nil sent) (remove-follows link window size sent gone is.0 f);
    }
acknowledged link window size sent gone number f false e = record { in_order = refl; ends = rw (append-nil sent, add-zero gone) f }

leaves : (link : Outstanding) (window size : ℕ) (sent : List (List ℕ)) (gone : ℕ) (call : Call) → Follows link window size sent gone → Leaves link window size sent gone call
leaves link window size sent gone (Issues frame) f = record {
  in_order = refl;
  ends = rw (add-zero gone)
      (elim (is_full link) as (λ b. Follows (cond b link (with_issued link frame)) window size (sent ++ cond b [] (frame ∷ [])) gone) [
        | true ↦ rw (append-nil sent) f
        | false ↦ issue-follows link window size sent gone frame f
      ]);
}
leaves link window size sent gone (Acknowledges number) f =
    let a = acknowledged link window size sent gone number f (is_oldest link number) refl in
    record { in_order = a.in_order; ends = a.ends }

-- what calls leave from such a link on
record Leads (link : Outstanding) (window size : ℕ) (sent : List (List ℕ)) (gone : ℕ) (calls : List Call) : Type 0 where
  in_order : removed link calls ≡ numbers_from (gone + 1) (length (removed link calls))
  ends : Follows (after link calls) window size (sent ++ issued link calls) (gone + length (removed link calls))

one-more : (link : Outstanding) (window size : ℕ) (sent : List (List ℕ)) (gone : ℕ) (call : Call) (calls : List Call) → Leaves link window size sent gone call →
    Leads (called link call) window size (sent ++ issued_by link call) (gone + length (removed_by link call)) calls → Leads link window size sent gone (call ∷ calls)
one-more link window size sent gone call calls one rest =
    let first = removed_by link call in
    let others = removed (called link call) calls in
    let start : gone + length first + 1 ≡ gone + 1 + length first = omega arith in
    let count : length (first ++ others) ≡ length first + length others = length-append first others in
    let sum : gone + length (first ++ others) ≡ gone + length first + length others = omega (arith, count) in
    record {
      in_order =
          ap (λ (ns : List ℕ). ns ++ others) one.in_order
          ∙ ap (λ (ns : List ℕ). numbers_from (gone + 1) (length first) ++ ns) (rest.in_order ∙ ap (λ f. numbers_from f (length others)) start)
          ∙ numbers-append (gone + 1) (length first) (length others)
          ∙ ap (numbers_from (gone + 1)) (sym count);
      ends = rw (sum, ← append_assoc sent (issued_by link call) (issued (called link call) calls)) rest.ends;
    }

leads : (link : Outstanding) (window size : ℕ) (sent : List (List ℕ)) (gone : ℕ) (calls : List Call) → Follows link window size sent gone → Leads link window size sent gone calls
leads link window size sent gone [] f = record {
  in_order = refl;
  ends = rw (append-nil sent, add-zero gone) f;
}
leads link window size sent gone (call ∷ calls) f =
    let one = leaves link window size sent gone call f in
    one-more link window size sent gone call calls one
    (leads (called link call) window size (sent ++ issued_by link call) (gone + length (removed_by link call)) calls one.ends)

link-of : (link : Outstanding) (window size : ℕ) (sent : List (List ℕ)) (gone : ℕ) → Follows link window size sent gone →
    link ≡ record { next = 1 + length sent; window = window; size = size; frames = drop gone sent }
link-of link window size sent gone f =
    let at : ℕ → ℕ → ℕ → List (List ℕ) → Outstanding = λ n w s fs. record { next = n; window = w; size = s; frames = fs } in
    let whole : at link.next link.window link.size link.frames ≡ at (1 + length sent) window size (drop gone sent) = cc (f.next, f.window_same, f.size_same, f.frames) in
    whole

pub goes_in_order : IssuesInOrder
goes_in_order window size calls =
    let start : Follows (none_issued window size) window size [] 0 = record { next = refl; window_same = refl; size_same = refl; frames = refl; within = omega arith } in
    let all = leads (none_issued window size) window size [] 0 calls start in
    record {
      in_order = all.in_order;
      left = link-of (after (none_issued window size) calls) window size (issued (none_issued window size) calls) (length (removed (none_issued window size) calls))
          (rw (zero-add (length (removed (none_issued window size) calls))) at all.ends);
    }
