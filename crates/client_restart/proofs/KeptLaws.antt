-- What a kept machine does is what a client that remembers does.
use Rattle.std.proofs.Common.{◌≡◌, inl, inr, ℕ, List, drop, false, Result, Ok, Err, sym, ◌∙◌, ap, subst}
use Rattle.express_words.specs.Seen.{Seen}
use Rattle.node_journal.specs.Disk.{DiskSeen}
use Rattle.node_journal.specs.Journal.{JournalState}
use Rattle.kept_machine.specs.declared.fault.KeepFault.{KeepFault}
use Rattle.kept_machine.specs.declared.fault.KeepFault.TheVariants.{Journal, NoMemory, Foreign}
use Rattle.node_journal.specs.declared.fault.JournalFault.TheVariants.{Closed, NotEmpty, Full, Disk, Damaged}
use Rattle.kept_machine.specs.Faults.{OnStill}
use Rattle.kept_machine.specs.Keeps as machine
use Rattle.kept_machine.specs.Keeps.{IsDurable, Keeps}
use Rattle.kept_machine.specs.Kept as kept
use Rattle.kept_machine.proofs.JournalLaws.{leaves_only}
use Rattle.client_restart.specs.declared.machine.OpenedClient.{OpenedClient}
use Rattle.client_restart.specs.declared.opening.ClientOpening.{ClientOpening}
use Rattle.client_restart.specs.Cores.{TakesMemory, core_in}
use Rattle.client_restart.specs.Keeps.{CallKeeps}
use Rattle.client_restart.specs.Kept.{ClientState, HoldsNotes, LeavesNotes, StandsByNotes, state_of}
use Rattle.client_restart.specs.Machines.{IsSameClient, client_rules}
use Rattle.client_restart.specs.Notes.{IsNote, Noted, note_record}
use Rattle.client_restart.specs.Openings.{IsClientOpening, opening_record}
use Rattle.client_restart.specs.Records.{AllNotes, records_of}
use Rattle.client_restart.specs.Steps.{CoreState, fold, step_of}
use Rattle.client_restart.proofs.MachineLaws.{stands_of}
use Rattle.client_restart.proofs.NoteLaws.{one_list, one_note, records_push}
use Rattle.client_restart.proofs.OpeningLaws.{one_opening}

-- what stands is the fold of the notes whose records it is
pub one_fold : (o p : ClientOpening) (notes : List Noted) (core : CoreState) (reads : List ℕ → Type 0) (d : List ℕ) → reads d → IsClientOpening o → IsClientOpening p
    → StandsByNotes p core reads → AllNotes notes → HoldsNotes o notes reads → (p ≡ o) × (core ≡ fold o notes)
one_fold o p notes core reads d read io ip stands all held =
    let both : records_of p stands.notes ≡ records_of o notes = sym (stands.held d read) ∙ held d read in
    let heads : opening_record p ≡ opening_record o = cc both in
    let same : p ≡ o = one_opening p o ip io heads in
    let notes_same : stands.notes ≡ notes = one_list stands.notes notes stands.whole all (ap (λ (l : List (List ℕ)). drop 1 l) both) in
    (same, stands.folded ∙ ap (λ (x : ClientOpening). fold x stands.notes) same ∙ ap (λ (l : List Noted). fold o l) notes_same)

-- ---- a note

leaves_notes : (limit : ℕ) (o : ClientOpening) (notes : List Noted) (n : Noted) (d : List ℕ)
    → kept.LeavesRecords limit (records_of o notes) (note_record n) d → LeavesNotes limit o notes n d
leaves_notes limit o notes n d left =
    (elim left.0 [ inl same ↦ inl same | inr more ↦ inr (more ∙ sym (records_push o notes n)) ], left.1)

pub keeps_note : {D : Type 0} (shows : D → DiskSeen) (seen : D → Seen) (n : Noted) (old new : kept.KeptState OpenedClient D) (r : Result Unit KeepFault)
    → IsNote n → Keeps client_rules (note_record n) (machine.sight shows seen old) (machine.sight shows seen new) r
    → (new.journal.closed ≡ false → IsDurable client_rules (machine.sight shows seen new)) → CallKeeps shows seen n (state_of old) (state_of new) r
keeps_note shows seen n old new (Ok done) is k durable =
    let one : k.step.note ≡ n = one_note k.step.note n k.step.whole is (sym k.step.is) in
    record {
      opening = k.step.opening;
      step = k.step.step ∙ ap (λ (x : Noted). step_of (core_in old.machine.core) x) one;
      no_step = tt;
      added = λ notes held c read.
          k.added (records_of old.machine.opening notes) held c read ∙ sym (records_push old.machine.opening notes n);
      longer = k.longer;
      stands = λ still. subst (λ (o : ClientOpening). StandsByNotes o (core_in new.machine.core) (shows new.disk).reads) k.step.opening (stands_of new.machine (shows new.disk).reads (durable still).stands);
      durable = λ still. (durable still).durable;
      any_moment = λ still notes held.
          leaves_only (shows old.disk) (shows new.disk) _ _ (leaves_notes old.journal.limit old.machine.opening notes n)
          (k.any_moment still (records_of old.machine.opening notes) held);
      judged = record {
        closed = k.judged.closed;
        full = k.judged.full;
        memory = λ e. absurd (cc e);
        fits = k.judged.fits;
      };
      counts = k.counts;
    }
keeps_note shows seen n old new (Err fault) is k durable = record {
  opening = k.no_step.opening;
  step = tt;
  no_step = k.no_step.core;
  added = tt;
  longer = tt;
  stands = λ still. subst (λ (o : ClientOpening). StandsByNotes o (core_in new.machine.core) (shows new.disk).reads) k.no_step.opening (stands_of new.machine (shows new.disk).reads (durable still).stands);
  durable = λ still. (durable still).durable;
  any_moment = λ still notes held.
      leaves_only (shows old.disk) (shows new.disk) _ _ (leaves_notes old.journal.limit old.machine.opening notes n)
      (k.any_moment still (records_of old.machine.opening notes) held);
  judged = record {
    closed = k.judged.closed;
    full = k.judged.full;
    memory = λ e.
        let wants = k.judged.memory e in
        subst TakesMemory (one_note wants.note n wants.whole is (sym wants.is)) wants.memory;
    fits = k.judged.fits;
  };
  counts = k.counts;
}
