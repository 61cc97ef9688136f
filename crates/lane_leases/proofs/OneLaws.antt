-- The same records give the same leader's gate.
use Rattle.std.proofs.Common.{◌≡◌, ℕ, ◌-◌, ◌^◌, ◌<◌, ◌≤◌, inl, inr, List, [], ◌∷◌, ◌++◌, length, take, drop, get_or, Bool, true, false, nat_lt, Option, Some, None, Result, Ok, Err, refl, sym, ◌∙◌, ap, subst, arith}
use Rattle.std.proofs.Math.Seq.{take-append_seam, drop-append_seam}
use Rattle.std.proofs.lemmas.Bool.{ltb-true}
use Rattle.kept_machine.specs.Machines.{Runs}
use Rattle.lane_gate.specs.declared.ticket.TicketHash.{TicketHash}
use Rattle.lane_gate.specs.declared.note.Note.{Note}
use Rattle.lane_gate.specs.declared.note.Note.TheVariants.{Key, Statement, Lease}
use Rattle.lane_gate.specs.declared.opening.GateOpening.{GateOpening}
use Rattle.lane_gate.specs.Gates.{row_at, above_answer, number_answer, after_note}
use Rattle.lane_gate.specs.Holders.{last_serial}
use Rattle.lane_gate.specs.Notes.{tag_in}
use Rattle.lane_gate.proofs.NoteLaws.{one_note, one_opening}
use Rattle.lane_leases.specs.declared.ask.Ask.{Ask}
use Rattle.lane_leases.specs.declared.ask.Announced.{Announced}
use Rattle.lane_leases.specs.declared.ended.End.{End}
use Rattle.lane_leases.specs.declared.ended.End.TheVariants.{Written, NotWritten}
use Rattle.lane_leases.specs.declared.ended.Ended.{Ended}
use Rattle.lane_leases.specs.declared.fault.UsedUp.{UsedUp}
use Rattle.lane_leases.specs.declared.record.LeaderNote.{LeaderNote}
use Rattle.lane_leases.specs.declared.record.LeaderNote.TheVariants as leader
use Rattle.lane_leases.specs.Leases.{LeasesState, IsLeased, IsNext, IsTold, IsUsedUp, opened_leases, with_gate}
use Rattle.lane_leases.specs.Machines.{leader_rules, IsStepOf, OpensLeases, StepsLeases}
use Rattle.lane_leases.specs.Records.{IsAsk, IsLeaderNote, ask_bytes, end_number, leader_record}
use Rattle.lane_leases.specs.Runs.{RecordsGiveOneLeader}
use Rattle.lane_leases.proofs.LeaseLaws.{one-rested-longest}

-- ---- one step

number-left : (last : Option ℕ) (serial leases : ℕ) → above_answer last serial leases ≡ Ok tt → leases < 2 ^ 64 - 1
number-left None serial leases taken = cc
number-left (Some before) serial leases taken = above (nat_lt before serial) refl taken
  where
    number : (b : Bool) → nat_lt leases (2 ^ 64 - 1) ≡ b → number_answer leases ≡ Ok tt → leases < 2 ^ 64 - 1
    number true is left = ltb-true leases (2 ^ 64 - 1) is
    number false is left = cc

    above : (b : Bool) → nat_lt before serial ≡ b → above_answer (Some before) serial leases ≡ Ok tt → leases < 2 ^ 64 - 1
    above true is left = number (nat_lt leases (2 ^ 64 - 1)) refl (let same : above_answer (Some before) serial leases ≡ number_answer leases = rw is refl in sym same ∙ left)
    above false is left = cc

not-used-up : (before now : LeasesState) (ask : Ask) (lease : Announced) → IsLeased before ask lease now → IsUsedUp before.gate → ⊥
not-used-up before now ask lease leased (inl none) =
    let both : None ≡ Some leased.rested.since = sym (none lease.lane) ∙ leased.rested.rests in cc
not-used-up before now ask lease leased (inr many) =
    let left = number-left (last_serial (row_at before.gate.rows lease.lane).holder) lease.serial before.gate.leases leased.taken in omega arith

one-next : (last : Option ℕ) (a b : ℕ) → IsNext last a → IsNext last b → a ≡ b
one-next None a b na nb = absurd na
one-next (Some last) a b na nb = na ∙ sym nb

one-told : (before a b : LeasesState) (ask : Ask) (ta tb : Result Announced UsedUp) → IsTold before ask ta a → IsTold before ask tb b → a ≡ b
one-told before a b ask (Ok la) (Ok lb) ia ib =
    let lane : la.lane ≡ lb.lane = one-rested-longest before.gate.rows la.lane lb.lane ia.rested ib.rested in
    let next : IsNext (last_serial (row_at before.gate.rows lb.lane).holder) la.serial =
    subst (λ (l : ℕ). IsNext (last_serial (row_at before.gate.rows l).holder) la.serial) lane ia.next in
    let serial : la.serial ≡ lb.serial = one-next _ la.serial lb.serial next ib.next in
    ia.leased
    ∙ ap (λ (l : ℕ). with_gate before (after_note before.gate (Lease l la.serial ask.own))) lane
    ∙ ap (λ (s : ℕ). with_gate before (after_note before.gate (Lease lb.lane s ask.own))) serial
    ∙ sym ib.leased
one-told before a b ask (Ok la) (Err fb) ia ib = absurd (not-used-up before a ask la ia ib.0)
one-told before a b ask (Err fa) (Ok lb) ia ib = absurd (not-used-up before b ask lb ib ia.0)
one-told before a b ask (Err fa) (Err fb) ia ib = ia.1 ∙ sym ib.1

one-step-of : (note : LeaderNote) (before a b : LeasesState) → IsStepOf note before a → IsStepOf note before b → a ≡ b
one-step-of (leader.Row note) before a b sa sb = sa ∙ sym sb
one-step-of (leader.Asked ask) before a b sa sb = one-told before a b ask sa.0 sb.0 sa.1 sb.1
one-step-of (leader.Ended ended) before a b sa sb = sa ∙ sym sb

-- ---- one note

tag-apart : (note : Note) (tag : ℕ) → 20 ≤ tag → tag_in note ≡ tag → ⊥
tag-apart (Key lane hash) tag least same = omega arith
tag-apart (Statement lane serial hash) tag least same = omega arith
tag-apart (Lease lane serial hash) tag least same = omega arith

front-one : (a b c d : List ℕ) → length a ≡ 32 → length c ≡ 32 → a ++ b ≡ c ++ d → a ≡ c
front-one a b c d la lc same =
    let at : (xs ys : List ℕ) → length xs ≡ 32 → take 32 (xs ++ ys) ≡ xs =
    λ xs ys long. subst (λ (n : ℕ). take n (xs ++ ys) ≡ xs) long (take-append_seam xs ys) in
    sym (at a b la) ∙ ap (take 32) same ∙ at c d lc

back-one : (a b c d : List ℕ) → length a ≡ 32 → length c ≡ 32 → a ++ b ≡ c ++ d → b ≡ d
back-one a b c d la lc same =
    let at : (xs ys : List ℕ) → length xs ≡ 32 → drop 32 (xs ++ ys) ≡ ys =
    λ xs ys long. subst (λ (n : ℕ). drop n (xs ++ ys) ≡ ys) long (drop-append_seam xs ys) in
    sym (at a b la) ∙ ap (drop 32) same ∙ at c d lc

abbrev hash_from : List ℕ → TicketHash
hash_from bytes = record { 0 = bytes }

abbrev ask_from : List ℕ → List ℕ → Ask
ask_from own helper = record { own = hash_from own; helper = hash_from helper }

one-ask : (a b : Ask) → IsAsk a → IsAsk b → ask_bytes a ≡ ask_bytes b → a ≡ b
one-ask a b ia ib same =
    let own = front-one a.own.0 a.helper.0 b.own.0 b.helper.0 ia.own ib.own same in
    let helper = back-one a.own.0 a.helper.0 b.own.0 b.helper.0 ia.own ib.own same in
    ap (λ (x : List ℕ). ask_from x a.helper.0) own ∙ ap (λ (x : List ℕ). ask_from b.own.0 x) helper

one-end : (a b : End) → end_number a ≡ end_number b → a ≡ b
one-end Written Written same = refl
one-end Written NotWritten same = absurd (omega arith)
one-end NotWritten Written same = absurd (omega arith)
one-end NotWritten NotWritten same = refl

abbrev ended_from : List ℕ → End → Ended
ended_from hash end = record { hash = hash_from hash; end = end }

one-ended : (a b : Ended) → end_number a.end ≡ end_number b.end → a.hash.0 ≡ b.hash.0 → a ≡ b
one-ended a b number hash =
    ap (λ (x : List ℕ). ended_from x a.end) hash ∙ ap (λ (e : End). ended_from b.hash.0 e) (one-end a.end b.end number)

one-leader-note : (a b : LeaderNote) → IsLeaderNote a → IsLeaderNote b → leader_record a ≡ leader_record b → a ≡ b
one-leader-note (leader.Row a) (leader.Row b) ia ib same = ap (λ (n : Note). leader.Row n) (one_note a b ia.0 ib.0 same)
one-leader-note (leader.Row a) (leader.Asked b) ia ib same = absurd (tag-apart a 20 (omega arith) (ap (λ (l : List ℕ). get_or l 0 0) same))
one-leader-note (leader.Row a) (leader.Ended b) ia ib same = absurd (tag-apart a 21 (omega arith) (ap (λ (l : List ℕ). get_or l 0 0) same))
one-leader-note (leader.Asked a) (leader.Row b) ia ib same = absurd (tag-apart b 20 (omega arith) (sym (ap (λ (l : List ℕ). get_or l 0 0) same)))
one-leader-note (leader.Asked a) (leader.Asked b) ia ib same = ap (λ (n : Ask). leader.Asked n) (one-ask a b ia ib (ap (λ (l : List ℕ). drop 1 l) same))
one-leader-note (leader.Asked a) (leader.Ended b) ia ib same = absurd (let tags : 20 ≡ 21 = ap (λ (l : List ℕ). get_or l 0 0) same in omega arith)
one-leader-note (leader.Ended a) (leader.Row b) ia ib same = absurd (tag-apart b 21 (omega arith) (sym (ap (λ (l : List ℕ). get_or l 0 0) same)))
one-leader-note (leader.Ended a) (leader.Asked b) ia ib same = absurd (let tags : 21 ≡ 20 = ap (λ (l : List ℕ). get_or l 0 0) same in omega arith)
one-leader-note (leader.Ended a) (leader.Ended b) ia ib same =
    ap (λ (n : Ended). leader.Ended n) (one-ended a b (ap (λ (l : List ℕ). get_or l 1 0) same) (ap (λ (l : List ℕ). drop 2 l) same))

-- ---- one gate

one-step : (bytes : List ℕ) (before a b : LeasesState) → StepsLeases bytes before a → StepsLeases bytes before b → a ≡ b
one-step bytes before a b sa sb =
    let same : sa.note ≡ sb.note = one-leader-note sa.note sb.note sa.whole sb.whole (sym sa.is ∙ sb.is) in
    one-step-of sb.note before a b (subst (λ (n : LeaderNote). IsStepOf n before a) same sa.step) sb.step

one-opened : (bytes : List ℕ) (a b : LeasesState) → OpensLeases bytes a → OpensLeases bytes b → a ≡ b
one-opened bytes a b oa ob =
    oa.opened
    ∙ ap (λ (o : GateOpening). opened_leases o.owners o.strangers) (one_opening oa.opening ob.opening oa.is_opening ob.is_opening (sym oa.is ∙ ob.is))
    ∙ sym ob.opened

one-run : (records : List (List ℕ)) (before a b : LeasesState) → Runs leader_rules before records a → Runs leader_rules before records b → a ≡ b
one-run [] before a b ra rb = ra ∙ sym rb
one-run (bytes ∷ records) before a b ra rb =
    let same : ra.0 ≡ rb.0 = one-step bytes before ra.0 rb.0 ra.1 rb.1 in
    one-run records rb.0 a b (subst (λ (l : LeasesState). Runs leader_rules l records a) same ra.2) rb.2

pub records-give-one-leader : RecordsGiveOneLeader
records-give-one-leader records a b ga gb =
    let split : ga.form.first ∷ ga.form.later ≡ gb.form.first ∷ gb.form.later = sym ga.form.split ∙ gb.form.split in
    let first : ga.form.first ≡ gb.form.first = cc in
    let later : ga.form.later ≡ gb.form.later = cc in
    let opened : ga.opened ≡ gb.opened =
    one-opened gb.form.first ga.opened gb.opened (subst (λ (bytes : List ℕ). OpensLeases bytes ga.opened) first ga.opens) gb.opens in
    let from : Runs leader_rules gb.opened ga.form.later ga.stepped =
    subst (λ (l : LeasesState). Runs leader_rules l ga.form.later ga.stepped) opened ga.runs in
    let stepped : ga.stepped ≡ gb.stepped =
    one-run gb.form.later gb.opened ga.stepped gb.stepped (subst (λ (rs : List (List ℕ)). Runs leader_rules gb.opened rs ga.stepped) later from) gb.runs in
    ga.same ∙ stepped ∙ sym gb.same
