-- The end that was found below a place.
use Rattle.std.proofs.Common.{◌≡◌, ◌≢◌, ℕ, zero, suc, ◌+◌, ◌<◌, ◌≤◌, ◌⊎◌, inl, inr, List, [], ◌∷◌, length, Bool, true, false, nat_lt, slice_get, Option, Some, None, refl, sym, ◌∙◌, ap, subst, arith}
use Rattle.std.proofs.lemmas.Bool.{ltb-true, ltb-false}
use Rattle.lane_gate.specs.declared.ticket.TicketHash.{TicketHash}
use Rattle.lane_leases.specs.declared.ended.End.{End}
use Rattle.lane_leases.specs.declared.ended.Ended.{Ended}
use Rattle.lane_leases.specs.Ends.{NoneFrom, IsEndOf, IsLater}

abbrev pub NoneBetween : ℕ → ℕ → List Ended → TicketHash → Type 0
NoneBetween start end ends hash =
    (place : ℕ) (ended : Ended) → start ≤ place → place < end → slice_get ends place ≡ Some ended → ended.hash ≢ hash

pub record IsLastBelow (end : ℕ) (ends : List Ended) (hash : TicketHash) (what : End) : Type 0 where
  pub place : ℕ
  pub at : slice_get ends place ≡ Some (record { hash = hash; end = what })
  pub last : NoneBetween (place + 1) end ends hash

abbrev pub FoundBelow : ℕ → List Ended → TicketHash → Option End → Type 0
FoundBelow end ends hash (Some what) = IsLastBelow end ends hash what
FoundBelow end ends hash None = NoneBetween 0 end ends hash

below : (other place : ℕ) → other < place + 1 → (other < place) ⊎ (other ≡ place)
below other place within = split (nat_lt other place) refl
  where
    split : (b : Bool) → nat_lt other place ≡ b → (other < place) ⊎ (other ≡ place)
    split true is = inl (ltb-true other place is)
    split false is = inr (let least = ltb-false other place is in omega arith)

-- none is, also with the one at the end
one-more : (start end : ℕ) (ends : List Ended) (hash : TicketHash) → NoneBetween start end ends hash →
    ((ended : Ended) → slice_get ends end ≡ Some ended → ended.hash ≢ hash) → NoneBetween start (end + 1) ends hash
one-more start end ends hash before here place ended from within is = elim (below place end within) [
  | inl less ↦ before place ended from less is
  | inr same ↦ here ended (subst (λ (n : ℕ). slice_get ends n ≡ Some ended) same is)
]

kept : (end : ℕ) (ends : List Ended) (hash : TicketHash) (found : Option End) → FoundBelow end ends hash found →
    ((ended : Ended) → slice_get ends end ≡ Some ended → ended.hash ≢ hash) → FoundBelow (end + 1) ends hash found
kept end ends hash (Some what) before here =
    record { place = before.place; at = before.at; last = one-more (before.place + 1) end ends hash before.last here }
kept end ends hash None before here = one-more 0 end ends hash before here

again : (end : ℕ) (ends : List Ended) (hash : TicketHash) (ended : Ended) → slice_get ends end ≡ Some ended → ended.hash ≡ hash →
    FoundBelow (end + 1) ends hash (Some ended.end)
again end ends hash ended is same = record {
  place = end;
  at = is ∙ ap (λ (h : TicketHash). let e : Ended = record { hash = h; end = ended.end } in Some e) same;
  last = λ place other from within. absurd (omega arith);
}

pub found-later : (end : ℕ) (ends : List Ended) (hash : TicketHash) (found : Option End) (at : Option Ended) (now : Option End) →
    slice_get ends end ≡ at → IsLater found at hash now → FoundBelow end ends hash found → FoundBelow (end + 1) ends hash now
found-later end ends hash found None now at later before =
    subst (λ (o : Option End). FoundBelow (end + 1) ends hash o) (sym later)
    (kept end ends hash found before (λ ended is. absurd (let both : None ≡ Some ended = sym at ∙ is in cc)))
found-later end ends hash found (Some ended) now at (inl w) before =
    subst (λ (o : Option End). FoundBelow (end + 1) ends hash o) (sym w.1) (again end ends hash ended at w.0)
found-later end ends hash found (Some ended) now at (inr w) before =
    subst (λ (o : Option End). FoundBelow (end + 1) ends hash o) (sym w.1)
    (kept end ends hash found before (λ other is. (let both : Some ended ≡ Some other = sym at ∙ is in let same : ended ≡ other = cc in subst (λ (e : Ended). e.hash ≢ hash) same w.0)))

get-within : (ends : List Ended) (place : ℕ) (ended : Ended) → slice_get ends place ≡ Some ended → place < length ends
get-within [] place ended is = cc
get-within (first ∷ ends) zero ended is = omega arith
get-within (first ∷ ends) (suc place) ended is = let w = get-within ends place ended is in omega arith

all-none : (start end : ℕ) (ends : List Ended) (hash : TicketHash) → length ends ≤ end → NoneBetween start end ends hash → NoneFrom start ends hash
all-none start end ends hash all none place ended from is =
    let within = get-within ends place ended is in none place ended from (omega arith) is

pub found-end : (end : ℕ) (ends : List Ended) (hash : TicketHash) (found : Option End) → length ends ≤ end → FoundBelow end ends hash found → IsEndOf ends hash found
found-end end ends hash (Some what) all found =
    record { place = found.place; at = found.at; last = all-none (found.place + 1) end ends hash all found.last }
found-end end ends hash None all found = all-none 0 end ends hash all found
