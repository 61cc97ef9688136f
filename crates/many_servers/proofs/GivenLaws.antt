-- Which lease a leader gives, as a function of it.
use Rattle.std.proofs.Common.{◌≡◌, ℕ, ◌-◌, ◌^◌, ◌≤◌, inl, inr, Bool, true, false, nat_lt, Option, Some, None, refl, sym, ◌∙◌, ap, arith}
use Rattle.std.proofs.lemmas.Bool.{ltb-true}
use Rattle.leader_core.specs.declared.standing.Standing.{Standing}
use Rattle.leader_core.specs.declared.standing.Standing.TheVariants.{Busy, Written, Other}
use Rattle.lane_gate.specs.declared.ticket.TicketHash.{TicketHash}
use Rattle.lane_gate.specs.Gates.{Answer, above_answer, lease_answer, number_answer, row_at}
use Rattle.lane_gate.specs.Holders.{last_serial}
use Rattle.lane_leases.specs.declared.ask.Ask.{Ask}
use Rattle.lane_leases.specs.declared.ask.Announced.{Announced}
use Rattle.lane_leases.specs.Choosing.{longest_of}
use Rattle.lane_leases.specs.Leases.{IsNext}
use Rattle.lane_leases.proofs.LongestLaws.{is-longest, none-longest}
use Rattle.gated_servers.specs.declared.leader.GatedLeader.{GatedLeader}
use Rattle.gated_servers.specs.declared.leader.NoLease.{NoLease}
use Rattle.gated_servers.specs.declared.leader.NoLease.TheVariants as lack
use Rattle.gated_servers.specs.Leaders.{Lacks, Leases, serial_behind, standing_of}
use Rattle.many_servers.specs.Leaders.{given_at, given_if, lease_given, lease_of, unless_busy}

-- ---- a lease

quiet : (standing : Standing) (lease : Option Announced) → (standing ≡ Busy → ⊥) → unless_busy standing lease ≡ lease
quiet Busy lease not = absurd (not refl)
quiet (Written serial) lease not = refl
quiet Other lease not = refl

next : (last : Option ℕ) (serial : ℕ) → IsNext last serial → serial_behind last ≡ serial
next None serial is = absurd is
next (Some last) serial is = sym is

abbrev made : ℕ → TicketHash → ℕ → Announced
made lane hash serial = record { lane = lane; serial = serial; hash = hash }

abbrev hashed : ℕ → ℕ → TicketHash → Announced
hashed lane serial hash = record { lane = lane; serial = serial; hash = hash }

same : (before : GatedLeader) (ask : Ask) (lease : Announced) (now : GatedLeader) → Leases before ask lease now → lease_of before lease.lane ask ≡ lease
same before ask lease now leases =
    let given = leases.given in
    ap (made lease.lane ask.helper) (next (last_serial (row_at before.leases.gate.rows lease.lane).holder) lease.serial given.next)
    ∙ ap (hashed lease.lane lease.serial) (sym given.announced)

pub of-lease : (before : GatedLeader) (ask : Ask) (lease : Announced) (now : GatedLeader) → Leases before ask lease now → lease_given before ask ≡ Some lease
of-lease before ask lease now leases =
    let given = leases.given in
    let lane = lease.lane in
    ap (λ (o : Option ℕ). given_at o before ask) (is-longest before.leases.gate.rows lane given.rested)
    ∙ quiet (standing_of before lane) (given_if (lease_answer before.leases.gate lane (lease_of before lane ask).serial) (lease_of before lane ask)) leases.quiet
    ∙ ap (λ (l : Announced). given_if (lease_answer before.leases.gate lane l.serial) l) (same before ask lease now leases)
    ∙ ap (λ (a : Answer). given_if a lease) given.taken

-- ---- none

-- no number is left for a lease
full : (last : Option ℕ) (serial leases : ℕ) (lease : Announced) → 2 ^ 64 - 1 ≤ leases → given_if (above_answer last serial leases) lease ≡ None
full None serial leases lease many = refl
full (Some before) serial leases lease many = above (nat_lt before serial) refl
  where
    number : (c : Bool) → nat_lt leases (2 ^ 64 - 1) ≡ c → given_if (number_answer leases) lease ≡ None
    number true is = let less = ltb-true leases (2 ^ 64 - 1) is in absurd (omega arith)
    number false is = rw is refl

    above : (c : Bool) → nat_lt before serial ≡ c → given_if (above_answer (Some before) serial leases) lease ≡ None
    above true is = rw is (number (nat_lt leases (2 ^ 64 - 1)) refl)
    above false is = rw is refl

nobody : (standing : Standing) (lease : Option Announced) → lease ≡ None → unless_busy standing lease ≡ None
nobody Busy lease is = refl
nobody (Written serial) lease is = is
nobody Other lease is = is

full-at : (found : Option ℕ) (s : GatedLeader) (ask : Ask) → 2 ^ 64 - 1 ≤ s.leases.gate.leases → given_at found s ask ≡ None
full-at None s ask many = refl
full-at (Some lane) s ask many =
    let lease = lease_of s lane ask in
    nobody (standing_of s lane) (given_if (lease_answer s.leases.gate lane lease.serial) lease)
    (full (last_serial (row_at s.leases.gate.rows lane).holder) lease.serial s.leases.gate.leases lease many)

busy-at : (standing : Standing) (lease : Option Announced) → standing ≡ Busy → unless_busy standing lease ≡ None
busy-at Busy lease is = refl
busy-at (Written serial) lease is = absurd (cc is)
busy-at Other lease is = absurd (cc is)

pub of-none : (s : GatedLeader) (ask : Ask) (why : NoLease) → Lacks s why → lease_given s ask ≡ None
of-none s ask lack.UsedUp (inl none) = ap (λ (o : Option ℕ). given_at o s ask) (none-longest s.leases.gate.rows none)
of-none s ask lack.UsedUp (inr many) = full-at (longest_of s.leases.gate.rows) s ask many
of-none s ask lack.Busy (lane, longest, busy) =
    let lease = lease_of s lane ask in
    ap (λ (o : Option ℕ). given_at o s ask) (is-longest s.leases.gate.rows lane longest)
    ∙ busy-at (standing_of s lane) (given_if (lease_answer s.leases.gate lane lease.serial) lease) busy
