-- The end of a ticket, as a function of the ends.
use Rattle.std.proofs.Common.{◌≡◌, ◌≢◌, ℕ, zero, suc, ◌+◌, ◌-◌, ◌<◌, ◌≤◌, List, [], ◌∷◌, ◌++◌, length, length-append, drop, Bool, true, false, slice_get, Option, Some, None, refl, sym, ◌∙◌, ap, subst, arith, if◌then◌else◌}
use Rattle.std.specs.Prelude.{bytes_eq}
use Rattle.std.proofs.lemmas.Slice.Eq.{bytes_eq-Decides}
use Rattle.std.proofs.lemmas.List.{drop-append-le}
use Rattle.circular_buffer.specs.Buffer.{keep_last}
use Rattle.lane_gate.specs.declared.ticket.TicketHash.{TicketHash}
use Rattle.lane_leases.specs.declared.ended.End.{End}
use Rattle.lane_leases.specs.declared.ended.Ended.{Ended}
use Rattle.lane_leases.specs.Ends.{NoneFrom, IsLastEnd, IsEndOf, end_if_of, later_or, last_end}

same-hash : (a b : TicketHash) → bytes_eq a.0 b.0 ≡ true → a ≡ b
same-hash a b is = ap (λ (bytes : List ℕ). let h : TicketHash = record { 0 = bytes } in h) ((bytes_eq-Decides a.0 b.0).0 is)

of-other : (hash : TicketHash) (ended : Ended) → ended.hash ≢ hash → end_if_of hash ended ≡ None
of-other hash ended other = by (bytes_eq ended.hash.0 hash.0) refl
  where
    by : (b : Bool) → bytes_eq ended.hash.0 hash.0 ≡ b → (if b then Some ended.end else None) ≡ None
    by true is = absurd (other (same-hash ended.hash hash is))
    by false is = refl

of-same : (hash : TicketHash) (end : End) → end_if_of hash (record { hash = hash; end = end }) ≡ Some end
of-same hash end =
    ap (λ (b : Bool). let o : Option End = if b then Some end else None in o) ((bytes_eq-Decides hash.0 hash.0).1 refl)

-- of those behind the first
none-behind : (ended : Ended) (ends : List Ended) (hash : TicketHash) (start : ℕ) → NoneFrom (start + 1) (ended ∷ ends) hash → NoneFrom start ends hash
none-behind ended ends hash start none place other from is = none (suc place) other (omega arith) is

no-first : (ended : Ended) → None ≡ Some ended → ⊥
no-first ended is = cc

-- where it is so of those behind the first, it is so with the first
with-first : (ended : Ended) (ends : List Ended) (hash : TicketHash) (end : End) (place : ℕ)
    → slice_get (ended ∷ ends) place ≡ Some (record { hash = hash; end = end }) → NoneFrom (place + 1) (ended ∷ ends) hash
    → ((other : Option End) → IsEndOf ends hash other → other ≡ last_end ends hash) → Some end ≡ last_end (ended ∷ ends) hash
with-first ended ends hash end zero at none behind =
    let first : ended ≡ record { hash = hash; end = end } = cc in
    let here : end_if_of hash ended ≡ Some end = ap (λ (e : Ended). end_if_of hash e) first ∙ of-same hash end in
    sym here ∙ ap (λ (o : Option End). later_or o (end_if_of hash ended)) (behind None (none-behind ended ends hash 0 none))
with-first ended ends hash end (suc place) at none behind =
    ap (λ (o : Option End). later_or o (end_if_of hash ended))
    (behind (Some end) (record { place = place; at = at; last = none-behind ended ends hash (place + 1) (λ spot other from is. none spot other (omega arith) is) }))

pub is-last-end : (ends : List Ended) (hash : TicketHash) (end : Option End) → IsEndOf ends hash end → end ≡ last_end ends hash
is-last-end [] hash None none = refl
is-last-end [] hash (Some end) last = absurd (no-first (record { hash = hash; end = end }) last.at)
is-last-end (ended ∷ ends) hash None none =
    let behind = is-last-end ends hash None (none-behind ended ends hash 0 (λ place other from is. none place other (omega arith) is)) in
    let here = of-other hash ended (none 0 ended (omega arith) refl) in
    sym here ∙ ap (λ (o : Option End). later_or o (end_if_of hash ended)) behind
is-last-end (ended ∷ ends) hash (Some end) last =
    with-first ended ends hash end last.place last.at last.last (λ other is. is-last-end ends hash other is)

behind-others : (ends : List Ended) (hash : TicketHash) (end : End) → last_end (ends ++ record { hash = hash; end = end } ∷ []) hash ≡ Some end
behind-others [] hash end = of-same hash end
behind-others (first ∷ ends) hash end = ap (λ (o : Option End). later_or o (end_if_of hash first)) (behind-others ends hash end)

-- the end that was remembered last
pub last-kept : (ends : List Ended) (hash : TicketHash) (end : End)
    → last_end (keep_last 4096 (ends ++ record { hash = hash; end = end } ∷ [])) hash ≡ Some end
last-kept ends hash end =
    let ended : Ended = record { hash = hash; end = end } in
    let all : List Ended = ends ++ ended ∷ [] in
    let count : length all ≡ length ends + 1 = length-append ends (ended ∷ []) in
    ap (λ (l : List Ended). last_end l hash) (drop-append-le (length all - 4096) ends (ended ∷ []) (omega (arith, count)))
    ∙ behind-others (drop (length all - 4096) ends) hash end
