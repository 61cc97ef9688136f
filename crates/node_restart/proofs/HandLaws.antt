-- What one call of a server whose frames are kept says of the frame.
use Rattle.std.proofs.Common.{◌≡◌, ◌⊎◌, inl, inr, ℕ, ◌+◌, Bool, true, false, cond, List, [], ◌∷◌, ◌++◌, length, Result, Ok, Err, refl, sym, ap, ◌∙◌, subst, arith}
use Rattle.std.specs.Prelude.{is_ok, IfErr, OnOk}
use Rattle.std.proofs.lemmas.List.{append-nil}
use Rattle.frame_rules.specs.Whole.{whole}
use Rattle.express_words.specs.Seen.{Seen}
use Rattle.node_journal.specs.Disk.{DiskSeen}
use Rattle.node_journal.specs.Journal.{HasSpace, LacksSpace, broken}
use Rattle.node_journal.specs.declared.fault.JournalFault.TheVariants.{Closed, Full}
use Rattle.node_restart.specs.declared.opening.Opening.{Opening}
use Rattle.node_restart.specs.declared.did.Did.{Did}
use Rattle.kept_machine.specs.declared.fault.KeepFault.{KeepFault}
use Rattle.kept_machine.specs.declared.fault.KeepFault.TheVariants.{Journal}
use Rattle.node_restart.specs.Calls.{KeepsFrame}
use Rattle.kept_machine.specs.Faults.{IsOkOrDiskFault}
use Rattle.node_restart.specs.Frames.{Handed, IsOneFrame, records_of}
use Rattle.node_restart.specs.Kept.{KeptState, HoldsFrames, LeavesAround, LeavesFrames}
use Rattle.node_restart.specs.Keeping.{kept_of, Keeps, LeavesFirst, MayLeaveFirst, AddsFrames, IsCause, Refuses}
use Rattle.node_restart.proofs.FrameLaws.{one_or_not}
use Rattle.node_restart.proofs.KeepLaws.{adds_none}
use Rattle.kept_machine.proofs.JournalLaws.{leaves_only}

kept_one : (h : Handed) → IsOneFrame h.frame → kept_of (h ∷ []) ≡ h ∷ []
kept_one h one = ap (λ (b : Bool). cond b (h ∷ []) []) one

kept_apart : (h : Handed) → (IsOneFrame h.frame → ⊥) → kept_of (h ∷ []) ≡ []
kept_apart h apart = ap (λ (b : Bool). cond b (h ∷ []) []) (not_true (is_ok (whole h.frame)) apart)
  where
    not_true : (b : Bool) → (b ≡ true → ⊥) → b ≡ false
    not_true b other = grind arith

-- ---- what a crash leaves of one frame

first_frames : (limit : ℕ) (o : Opening) (before : List Handed) (h : Handed) (c : List ℕ) → LeavesFrames limit o before h c → LeavesFirst limit o before (h ∷ []) c
first_frames limit o before h c (inl same, undamaged) =
    record { first = []; rest = h ∷ []; split = refl; content = same ∙ ap (records_of o) (sym (append-nil before)); undamaged = undamaged }
first_frames limit o before h c (inr more, undamaged) = record { first = h ∷ []; rest = []; split = refl; content = more; undamaged = undamaged }

pub leaves_one : {D : Type 0} (shows : D → DiskSeen) (old new : KeptState D) (h : Handed) → old.journal.closed ≡ false → LeavesAround shows old new h
    → MayLeaveFirst shows old new (h ∷ [])
leaves_one shows old new h unclosed around = record {
  quiet = λ e. absurd (cc e);
  any_moment = λ some before holds.
      leaves_only (shows old.disk) (shows new.disk) _ _ (first_frames old.journal.limit old.opening before h) (around unclosed before holds);
}

-- ---- where it went well

adds_frame : {D : Type 0} (shows : D → DiskSeen) (seen : D → Seen)
    (x : Handed) (old new : KeptState D) (out out_new : List ℕ) (did : Did)
    → KeepsFrame shows seen x old new out out_new (Ok did) → IsOneFrame x.frame → AddsFrames shows old new (x ∷ [])
adds_frame shows seen x old new out out_new did h one =
    let unclosed : old.journal.closed ≡ false = grind (arith, h.closed one) in
    record {
      opening = h.opening;
      journal = h.longer one;
      unclosed = λ some. unclosed;
      held = λ before holds. subst (λ (o : Opening). HoldsFrames o (before ++ x ∷ []) (shows new.disk).reads) h.opening (h.added one before holds);
      durable = λ d. h.durable (grind (arith, h.longer one));
      leaves = leaves_one shows old new x unclosed (h.any_moment one);
    }

pub keeps_handed : {D : Type 0} (shows : D → DiskSeen) (seen : D → Seen)
    (x : Handed) (old new : KeptState D) (out out_new : List ℕ) (r : Result Did KeepFault)
    → KeepsFrame shows seen x old new out out_new r
    → OnOk r (Keeps shows old new (x ∷ []))
keeps_handed shows seen x old new out out_new (Err fault) h = tt
keeps_handed shows seen x old new out out_new (Ok did) h = record { steps = h.step.core; adds = adds (one_or_not x.frame) }
  where
    adds : IsOneFrame x.frame ⊎ (IsOneFrame x.frame → ⊥) → AddsFrames shows old new (kept_of (x ∷ []))
    adds (inl one) = subst (AddsFrames shows old new) (sym (kept_one x one)) (adds_frame shows seen x old new out out_new did h one)
    adds (inr apart) = subst (AddsFrames shows old new) (sym (kept_apart x apart)) (adds_none shows old new (h.no_frame apart).1)

-- ---- where it didn't

cause_of : {D : Type 0} (old new : KeptState D) (bytes : ℕ) (fault : KeepFault) → (let r : Result Did KeepFault = Err fault in
    (old.journal.closed ≡ true → (r ≡ Err (Journal Closed)) × (new ≡ old))
    → (old.journal.closed ≡ false → LacksSpace old.journal bytes → (r ≡ Err (Journal (Full old.journal.end))) × (new ≡ old))
    → (old.journal.closed ≡ false → HasSpace old.journal bytes → IsOkOrDiskFault r) → (old.journal.closed ≡ false → HasSpace old.journal bytes → new.journal ≡ broken old.journal)
    → IsCause fault bytes old new)
cause_of old new bytes fault closed full fits breaks = grind arith

pub refuses_handed : {D : Type 0} (shows : D → DiskSeen) (seen : D → Seen)
    (x : Handed) (old new : KeptState D) (out out_new : List ℕ) (r : Result Did KeepFault)
    → KeepsFrame shows seen x old new out out_new r
    → IfErr r (Refuses shows old new x)
refuses_handed shows seen x old new out out_new (Ok did) h = tt
refuses_handed shows seen x old new out out_new (Err fault) h =
    let one : IsOneFrame x.frame = elim (one_or_not x.frame) [ inl one ↦ one | inr apart ↦ absurd (cc ((h.no_frame apart).0)) ] in
    record {
      whole = one;
      cause = cause_of old new (length x.frame + 1) fault (h.closed one) (h.full one) (h.fits one) (h.broken one);
      opening = h.opening;
      no_step = h.no_step.0;
      any_moment = h.any_moment one;
    }
