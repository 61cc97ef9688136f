-- What a kept machine does is what a server whose frames are kept does.
use Rattle.std.proofs.Common.{◌≡◌, inl, inr, ℕ, ◌+◌, Bool, true, false, List, [], ◌∷◌, ◌++◌, drop, length, Result, Ok, Err, None, Some, Option, refl, sym, ◌∙◌, ap, subst, arith}
use Rattle.std.specs.Prelude.{is_ok, IfOk, OnErr}
use Rattle.frame_rules.specs.Whole.{whole}
use Rattle.express_words.specs.Seen.{Seen}
use Rattle.node_journal.specs.Disk.{DiskSeen}
use Rattle.node_journal.specs.Journal.{JournalState, HasSpace, LacksSpace, longer}
use Rattle.kept_machine.specs.declared.fault.KeepFault.{KeepFault}
use Rattle.kept_machine.specs.Faults.{OnStill}
use Rattle.kept_machine.specs.Keeps.{IsDurable, Keeps, KeepsInput, sight}
use Rattle.kept_machine.specs.Kept as kept
use Rattle.kept_machine.proofs.FaultLaws.{still_closed, still_full}
use Rattle.kept_machine.proofs.JournalLaws.{leaves_only}
use Rattle.node_restart.specs.declared.did.Did.{Did}
use Rattle.node_restart.specs.declared.machine.Server.{Server}
use Rattle.node_restart.specs.declared.opening.Opening.{Opening}
use Rattle.node_restart.specs.declared.server.Core.{Core}
use Rattle.node_restart.specs.Calls.{KeepsFrame}
use Rattle.node_restart.specs.Frames.{Handed, IsOneFrame, frame_record, records_of}
use Rattle.node_restart.specs.Kept.{HoldsFrames, KeptState, LeavesFrames, Stands, state_of}
use Rattle.node_restart.specs.Machines.{TellsStep, record_if, record_of, server_rules}
use Rattle.node_restart.specs.Openings.{IsOpening, opening_record}
use Rattle.node_restart.specs.Steps.{fold}
use Rattle.node_restart.proofs.FrameLaws.{one_list, one_or_not, records_push}
use Rattle.node_restart.proofs.MachineLaws.{stands_of}
use Rattle.node_restart.proofs.OpeningLaws.{one_opening}

-- what stands is the fold of the frames whose records it is
pub one_fold : (o p : Opening) (frames : List Handed) (core : Core) (reads : List ℕ → Type 0) (d : List ℕ) → reads d → IsOpening o → IsOpening p
    → Stands p core reads → HoldsFrames o frames reads → (p ≡ o) × (core ≡ fold o frames)
one_fold o p frames core reads d read io ip stands held =
    let both : records_of p stands.frames ≡ records_of o frames = sym (stands.held d read) ∙ held d read in
    let heads : opening_record p ≡ opening_record o = cc both in
    let same : p ≡ o = one_opening p o ip io heads in
    let frames_same : stands.frames ≡ frames = one_list stands.frames frames (ap (λ (l : List (List ℕ)). drop 1 l) both) in
    (same, stands.folded ∙ ap (λ (x : Opening). fold x stands.frames) same ∙ ap (λ (l : List Handed). fold o l) frames_same)

-- ---- a frame

-- what the call says of a frame that it took
pub record Took {D : Type 0} (shows : D → DiskSeen) (seen : D → Seen) (h : Handed) (old new : kept.KeptState Server D)
    (out out_new : List ℕ) (r : Result Did KeepFault) : Type 0 where
  pub keeps : KeepsInput server_rules shows seen (record_of h) old new r
  pub stays : OnStill r ((new.journal ≡ old.journal) × (new.disk ≡ old.disk))
  pub tells : IfOk r (λ did. TellsStep h old.machine new.machine did out out_new)
  pub silent : OnErr r (out_new ≡ out)
  pub durable : new.journal.closed ≡ false → IsDurable server_rules (sight shows seen new)

size : (h : Handed) → length (frame_record h) ≡ length h.frame + 1
size h = omega arith

record_one : (h : Handed) → IsOneFrame h.frame → record_of h ≡ Some (frame_record h)
record_one h one = ap (λ (b : Bool). record_if b h) one

record_none : (h : Handed) → (IsOneFrame h.frame → ⊥) → record_of h ≡ None
record_none h none = ap (λ (b : Bool). record_if b h) (not_true (is_ok (whole h.frame)) none)
  where
    not_true : (b : Bool) → (b ≡ true → ⊥) → b ≡ false
    not_true b other = grind arith

leaves_frames : (limit : ℕ) (o : Opening) (frames : List Handed) (h : Handed) (d : List ℕ)
    → kept.LeavesRecords limit (records_of o frames) (frame_record h) d → LeavesFrames limit o frames h d
leaves_frames limit o frames h d left =
    (elim left.0 [ inl same ↦ inl same | inr more ↦ inr (more ∙ sym (records_push o frames h)) ], left.1)

same_state : {D : Type 0} (old new : kept.KeptState Server D) → new.machine ≡ old.machine → new.journal ≡ old.journal → new.disk ≡ old.disk
    → state_of new ≡ state_of old
same_state {D} old new machine journal disk =
    let of : Server → JournalState → D → KeptState D = λ s j d. record { opening = s.opening; core = s.core; journal = j; disk = d } in
    ap (λ (s : Server). of s new.journal new.disk) machine
    ∙ ap (λ (j : JournalState). of old.machine j new.disk) journal
    ∙ ap (λ (d : D). of old.machine old.journal d) disk

with_frame : {D : Type 0} (shows : D → DiskSeen) (seen : D → Seen) (h : Handed) (old new : kept.KeptState Server D)
    (out out_new : List ℕ) (r : Result Did KeepFault) → IsOneFrame h.frame → Took shows seen h old new out out_new r
    → Keeps server_rules (frame_record h) (sight shows seen old) (sight shows seen new) r
    → KeepsFrame shows seen h (state_of old) (state_of new) out out_new r
with_frame shows seen h old new out out_new (Ok did) one t k = record {
  step = t.tells;
  no_step = tt;
  opening = k.step.opening;
  no_frame = λ none. absurd (none one);
  added = λ is frames held c read.
      k.added (records_of old.machine.opening frames) held c read ∙ sym (records_push old.machine.opening frames h)
      ∙ ap (λ (o : Opening). records_of o (frames ++ h ∷ [])) (sym k.step.opening);
  longer = λ is. k.longer ∙ ap (λ (n : ℕ). longer n old.journal) (size h);
  stands = λ still. stands_of new.machine (shows new.disk).reads (t.durable still).stands;
  durable = λ still. (t.durable still).durable;
  undamaged = λ still. (t.durable still).undamaged;
  any_moment = λ is still frames held.
      leaves_only (shows old.disk) (shows new.disk) _ _ (leaves_frames old.journal.limit old.machine.opening frames h)
      (k.any_moment still (records_of old.machine.opening frames) held);
  closed = λ is closed. let no = k.judged.closed closed in absurd (cc no);
  full = λ is still lacks. let no = k.judged.full still (subst (λ (n : ℕ). LacksSpace old.journal n) (sym (size h)) lacks) in absurd (cc no);
  fits = λ is still space. tt;
  broken = λ is still space. tt;
  counts = k.counts;
}
with_frame shows seen h old new out out_new (Err fault) one t k = record {
  step = tt;
  no_step = (ap (λ (s : Server). s.core) k.no_step, t.silent);
  opening = ap (λ (s : Server). s.opening) k.no_step;
  no_frame = λ none. absurd (none one);
  added = λ is. tt;
  longer = λ is. tt;
  stands = λ still. stands_of new.machine (shows new.disk).reads (t.durable still).stands;
  durable = λ still. (t.durable still).durable;
  undamaged = λ still. (t.durable still).undamaged;
  any_moment = λ is still frames held.
      leaves_only (shows old.disk) (shows new.disk) _ _ (leaves_frames old.journal.limit old.machine.opening frames h)
      (k.any_moment still (records_of old.machine.opening frames) held);
  closed = λ is closed.
      let e = k.judged.closed closed in
      let same = still_closed (Err fault) _ e t.stays in
      (e, same_state old new k.no_step same.0 same.1);
  full = λ is still lacks.
      let e = k.judged.full still (subst (λ (n : ℕ). LacksSpace old.journal n) (sym (size h)) lacks) in
      let same = still_full (Err fault) _ old.journal.end e t.stays in
      (e, same_state old new k.no_step same.0 same.1);
  fits = λ is still space. (k.judged.fits k.judged.memory still (subst (λ (n : ℕ). HasSpace old.journal n) (sym (size h)) space)).0;
  broken = λ is still space. (k.judged.fits k.judged.memory still (subst (λ (n : ℕ). HasSpace old.journal n) (sym (size h)) space)).1;
  counts = k.counts;
}

-- bytes that are no frame
without : {D : Type 0} (shows : D → DiskSeen) (seen : D → Seen) (h : Handed) (old new : kept.KeptState Server D)
    (out out_new : List ℕ) (r : Result Did KeepFault) → (IsOneFrame h.frame → ⊥) → Took shows seen h old new out out_new r
    → KeepsInput server_rules shows seen None old new r → KeepsFrame shows seen h (state_of old) (state_of new) out out_new r
without shows seen h old new out out_new (Err fault) none t k = absurd (cc (k.0))
without {D} shows seen h old new out out_new (Ok did) none t k = record {
  step = t.tells;
  no_step = tt;
  opening = ap (λ (x : kept.KeptState Server D). x.machine.opening) k.1;
  no_frame = λ is. (refl, ap (λ (x : kept.KeptState Server D). state_of x) k.1);
  added = λ is. absurd (none is);
  longer = λ is. absurd (none is);
  stands = λ still. stands_of new.machine (shows new.disk).reads (t.durable still).stands;
  durable = λ still. (t.durable still).durable;
  undamaged = λ still. (t.durable still).undamaged;
  any_moment = λ is. absurd (none is);
  closed = λ is. absurd (none is);
  full = λ is. absurd (none is);
  fits = λ is. absurd (none is);
  broken = λ is. absurd (none is);
  counts = ap (λ (x : kept.KeptState Server D). (seen x.disk).faults) k.1;
}

pub keeps_frame : {D : Type 0} (shows : D → DiskSeen) (seen : D → Seen) (h : Handed) (old new : kept.KeptState Server D)
    (out out_new : List ℕ) (r : Result Did KeepFault) → Took shows seen h old new out out_new r
    → KeepsFrame shows seen h (state_of old) (state_of new) out out_new r
keeps_frame shows seen h old new out out_new r t = elim (one_or_not h.frame) [
  | inl one ↦ with_frame shows seen h old new out out_new r one t
      (subst (λ (x : Option (List ℕ)). KeepsInput server_rules shows seen x old new r) (record_one h one) t.keeps)
  | inr none ↦ without shows seen h old new out out_new r none t
      (subst (λ (x : Option (List ℕ)). KeepsInput server_rules shows seen x old new r) (record_none h none) t.keeps)
]
