-- What a lease makes of a leader, as a function of it.
use Rattle.std.proofs.Common.{◌≡◌, ℕ, ◌+◌, ◌-◌, ◌^◌, ◌≤◌, inl, inr, Bool, true, false, nat_lt, Option, Some, None, Result, Ok, Err, refl, sym, ◌∙◌, ap, subst, arith}
use Rattle.std.proofs.lemmas.Bool.{ltb-true}
use Rattle.leader_core.specs.declared.standing.Standing.{Standing}
use Rattle.leader_core.specs.declared.standing.Standing.TheVariants.{Busy, Written, Other}
use Rattle.lane_gate.specs.declared.fault.GateFault.{GateFault}
use Rattle.lane_gate.specs.declared.note.Note.TheVariants.{Lease}
use Rattle.lane_gate.specs.Gates.{Answer, above_answer, after_note, if_taken, lease_answer, number_answer, row_at}
use Rattle.lane_gate.specs.Holders.{last_serial}
use Rattle.lane_leases.specs.declared.ask.Ask.{Ask}
use Rattle.lane_leases.specs.declared.ask.Announced.{Announced}
use Rattle.lane_leases.specs.Choosing.{longest_of}
use Rattle.lane_leases.specs.Leases.{IsNext, IsUsedUp, LeasesState, with_gate}
use Rattle.lane_leases.proofs.LongestLaws.{is-longest, none-longest}
use Rattle.gated_servers.specs.declared.leader.GatedLeader.{GatedLeader}
use Rattle.gated_servers.specs.declared.leader.NoLease.{NoLease}
use Rattle.gated_servers.specs.declared.leader.NoLease.TheVariants as lack
use Rattle.gated_servers.specs.Leaders.{Leases, TellsLease, ended_in, leader_asked, leased_at, leased_if, serial_behind, standing_of, with_ended, with_leased}

-- ---- a lease

quiet : (standing : Standing) (leased s : GatedLeader) → (standing ≡ Busy → ⊥) → leased_if standing leased s ≡ leased
quiet Busy leased s not = absurd (not refl)
quiet (Written serial) leased s not = refl
quiet Other leased s not = refl

next : (last : Option ℕ) (serial : ℕ) → IsNext last serial → serial_behind last ≡ serial
next None serial is = absurd is
next (Some last) serial is = sym is

abbrev made : GatedLeader → ℕ → LeasesState → GatedLeader
made s lane leases = record s { leases = with_ended (ended_in (row_at s.leases.gate.rows lane).holder (standing_of s lane)) leases }

abbrev answered : GatedLeader → ℕ → Ask → ℕ → GatedLeader
answered s lane ask serial = if_taken (lease_answer s.leases.gate lane serial) (made s lane (with_gate s.leases (after_note s.leases.gate (Lease lane serial ask.own)))) s

of-lease : (before : GatedLeader) (ask : Ask) (lease : Announced) (now : GatedLeader) → Leases before ask lease now → now ≡ leader_asked before ask
of-lease before ask lease now leases =
    let given = leases.given in
    let lane = lease.lane in
    let serial = next (last_serial (row_at before.leases.gate.rows lane).holder) lease.serial given.next in
    leases.is
    ∙ ap (made before lane) given.leased
    ∙ sym (ap (λ (a : Answer). if_taken a (made before lane (with_gate before.leases (after_note before.leases.gate (Lease lane lease.serial ask.own)))) before) given.taken)
    ∙ sym (ap (answered before lane ask) serial)
    ∙ sym (quiet (standing_of before lane) (with_leased before lane ask) before leases.quiet)
    ∙ sym (ap (λ (o : Option ℕ). leased_at o before ask) (is-longest before.leases.gate.rows lane given.rested))

-- ---- none

-- no number is left for a lease
full : (last : Option ℕ) (serial leases : ℕ) (a b : GatedLeader) → 2 ^ 64 - 1 ≤ leases → if_taken (above_answer last serial leases) a b ≡ b
full None serial leases a b many = refl
full (Some before) serial leases a b many = above (nat_lt before serial) refl
  where
    number : (c : Bool) → nat_lt leases (2 ^ 64 - 1) ≡ c → if_taken (number_answer leases) a b ≡ b
    number true is = let less = ltb-true leases (2 ^ 64 - 1) is in absurd (omega arith)
    number false is = rw is refl

    above : (c : Bool) → nat_lt before serial ≡ c → if_taken (above_answer (Some before) serial leases) a b ≡ b
    above true is = rw is (number (nat_lt leases (2 ^ 64 - 1)) refl)
    above false is = rw is refl

same-if : (standing : Standing) (leased s : GatedLeader) → leased ≡ s → leased_if standing leased s ≡ s
same-if Busy leased s is = refl
same-if (Written serial) leased s is = is
same-if Other leased s is = is

full-at : (found : Option ℕ) (s : GatedLeader) (ask : Ask) → 2 ^ 64 - 1 ≤ s.leases.gate.leases → leased_at found s ask ≡ s
full-at None s ask many = refl
full-at (Some lane) s ask many =
    let holder = (row_at s.leases.gate.rows lane).holder in
    let serial = serial_behind (last_serial holder) in
    same-if (standing_of s lane) (with_leased s lane ask) s
    (full (last_serial holder) serial s.leases.gate.leases (made s lane (with_gate s.leases (after_note s.leases.gate (Lease lane serial ask.own)))) s many)

used-up : (s : GatedLeader) (ask : Ask) → IsUsedUp s.leases.gate → leader_asked s ask ≡ s
used-up s ask (inl none) = ap (λ (o : Option ℕ). leased_at o s ask) (none-longest s.leases.gate.rows none)
used-up s ask (inr many) = full-at (longest_of s.leases.gate.rows) s ask many

-- what is told of an ask says what it makes of the leader
pub asked_of : (before : GatedLeader) (ask : Ask) (told : Result Announced NoLease) (now : GatedLeader) → TellsLease before ask told now → now ≡ leader_asked before ask
asked_of before ask (Ok lease) now tells = of-lease before ask lease now tells
asked_of before ask (Err lack.UsedUp) now tells = tells.1 ∙ sym (used-up before ask tells.0)
asked_of before ask (Err lack.Busy) now tells =
    let busy = tells.0 in
    tells.1
    ∙ sym (ap (λ (o : Option ℕ). leased_at o before ask) (is-longest before.leases.gate.rows busy.0 busy.1)
    ∙ ap (λ (t : Standing). leased_if t (with_leased before busy.0 ask) before) busy.2)
