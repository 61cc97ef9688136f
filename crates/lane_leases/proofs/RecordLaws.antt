-- What a record is, and what its note makes of a leader's gate.
use Rattle.std.proofs.Common.{◌≡◌, ℕ, List, ◌++◌, length, take, Some, Result, Ok, Err, IfOk, OnOk, OnErr, ◌∙◌, ap, subst}
use Rattle.std.proofs.Math.Seq.{take-append_seam}
use Rattle.lane_gate.specs.declared.note.Note.{Note}
use Rattle.lane_gate.specs.Gates.{Answer, note_answer, with_note, if_taken}
use Rattle.lane_leases.specs.declared.ask.Ask.{Ask}
use Rattle.lane_leases.specs.declared.ask.Announced.{Announced}
use Rattle.lane_leases.specs.declared.fault.UsedUp.{UsedUp}
use Rattle.lane_leases.specs.declared.record.LeaderNote.TheVariants as leader
use Rattle.lane_leases.specs.Leases.{LeasesState, IsLeased, IsTold, IsUsedUp, with_gate}
use Rattle.lane_leases.specs.Machines.{IsStepOf}

-- the front of a room that a record was written to
pub front : (n : ℕ) (whole written rest : List ℕ) → written ≡ whole → length whole ≡ n → take n (written ++ rest) ≡ whole
front n whole written rest same long =
    ap (λ (l : List ℕ). take n (l ++ rest)) same
    ∙ subst (λ (k : ℕ). take k (whole ++ rest) ≡ whole) long (take-append_seam whole rest)

pub same-bytes : (a b : List ℕ) → Some a ≡ Some b → b ≡ a
same-bytes a b is = cc

pub told : (before : LeasesState) (ask : Ask) (result : Result Announced UsedUp) (now : LeasesState) →
    IfOk result (λ lease. IsLeased before ask lease now) → OnErr result (IsUsedUp before.gate) → OnErr result (now ≡ before) →
    IsTold before ask result now
told before ask (Ok lease) now leased used_up stays = leased
told before ask (Err fault) now leased used_up stays = (used_up, stays)

pub noted : (before now : LeasesState) (note : Note) (result : Answer) → result ≡ note_answer before.gate note →
    OnOk result (now ≡ with_gate before (with_note before.gate note)) → OnErr result (now ≡ before) →
    IsStepOf (leader.Row note) before now
noted before now note (Ok tt) answer taken stays =
    taken ∙ ap (λ (a : Answer). with_gate before (if_taken a (with_note before.gate note) before.gate)) answer
noted before now note (Err fault) answer taken stays =
    stays ∙ ap (λ (a : Answer). with_gate before (if_taken a (with_note before.gate note) before.gate)) answer
