-- What holds of a server as a machine, and what its records give.
use Rattle.std.proofs.Common.{◌≡◌, inl, inr, ℕ, ◌+◌, List, [], ◌∷◌, ◌++◌, map, length, refl, sym, ◌∙◌, ap, subst, arith, Bool, true, false, Some, None}
use Rattle.node_journal.specs.Disk.{DiskSeen, LeavesOnly}
use Rattle.node_journal.specs.Records.{records_from, LeavesNoneOrFirst}
use Rattle.std.specs.Prelude.{is_ok}
use Rattle.frame_rules.specs.Whole.{whole}
use Rattle.kept_machine.specs.Machines as machine
use Rattle.kept_machine.specs.Machines.{All, Gives, IsForm, RulesHold, Runs}
use Rattle.kept_machine.specs.Kept as kept
use Rattle.node_restart.specs.declared.machine.Server.{Server}
use Rattle.node_restart.specs.declared.opening.Opening.{Opening}
use Rattle.node_restart.specs.declared.server.Core.{Core}
use Rattle.node_restart.specs.Frames.{Handed, AllFrames, IsForeign, IsOneFrame, frame_record, records_of}
use Rattle.node_restart.specs.Kept.{HasBefore, IsDamagedAt, MakesOnly, Stands}
use Rattle.node_restart.specs.Machines.{IsFrameRecord, record_if, record_of, server_rules}
use Rattle.node_restart.specs.Openings.{IsOpening, opening_record}
use Rattle.node_restart.specs.Steps.{fold, fold_from}

-- ---- the frames that records are

pub frames_of : (records : List (List ℕ)) → All IsFrameRecord records → (frames : List Handed) × AllFrames frames × (records ≡ map frame_record frames)
frames_of [] all = ([], tt, refl)
frames_of (bytes ∷ records) all =
    let rest = frames_of records all.1 in
    let one = all.0 in (
      one.handed ∷ rest.0,
      (one.whole, rest.1),
      ap (λ (x : List ℕ). x ∷ records) one.is ∙ ap (λ (l : List (List ℕ)). frame_record one.handed ∷ l) rest.2,
    )

pub are_frames : (frames : List Handed) → AllFrames frames → All IsFrameRecord (map frame_record frames)
are_frames [] all = tt
are_frames (h ∷ frames) all = (record { handed = h; whole = all.0; is = refl }, are_frames frames all.1)

-- records of the form are those of an opening and of frames
pub record IsOf (records : List (List ℕ)) : Type 0 where
  pub opening : Opening
  pub is_opening : IsOpening opening
  pub frames : List Handed
  pub whole : AllFrames frames
  pub is : records ≡ records_of opening frames

pub of_form : (records : List (List ℕ)) → IsForm server_rules records → IsOf records
of_form records form =
    let first = form.is_opening in
    let later = frames_of form.later form.are_records in
    record {
      opening = first.opening;
      is_opening = first.is_opening;
      frames = later.0;
      whole = later.1;
      is = form.split ∙ ap (λ (x : List ℕ). x ∷ form.later) first.is ∙ ap (λ (l : List (List ℕ)). opening_record first.opening ∷ l) later.2;
    }

pub form_of : (o : Opening) (frames : List Handed) → IsOpening o → AllFrames frames → IsForm server_rules (records_of o frames)
form_of o frames is all = record {
  first = opening_record o;
  is_opening = record { opening = o; is_opening = is; is = refl };
  later = map frame_record frames;
  are_records = are_frames frames all;
  split = refl;
}

-- ---- records of another form

pub foreign_of : (n : ℕ) (records : List (List ℕ)) → machine.IsForeign server_rules n records → IsForeign n records
foreign_of n records (inl lacks) = inl (lacks.0, λ o rest is same. lacks.1 (opening_record o) rest (record { opening = o; is_opening = is; is = refl }) same)
foreign_of n records (inr f) =
    let of = of_form f.before f.form in
    inr (record {
      opening = of.opening;
      is_opening = of.is_opening;
      frames = of.frames;
      whole = of.whole;
      foreign = f.foreign;
      no_frame = λ h whole is. f.no_record (record { handed = h; whole = whole; is = is });
      rest = f.rest;
      split = f.split ∙ ap (λ (l : List (List ℕ)). l ++ f.foreign ∷ f.rest) of.is;
      place = f.place ∙ ap (λ (l : List (List ℕ)). length l) of.is ∙ counted of.opening of.frames;
    })
  where
    counted : (o : Opening) (frames : List Handed) → length (records_of o frames) ≡ length frames + 1
    counted o [] = refl
    counted o (h ∷ frames) = let rest = counted o frames in omega (arith, rest)

pub damaged_of : (limit n : ℕ) (c : List ℕ) → kept.IsDamagedAt server_rules limit n c → IsDamagedAt limit n c
damaged_of limit n c d = record { found = d.found; before = elim d.before [ inl front ↦ inl front | inr b ↦ inr (behind b) ] }
  where
    behind : kept.HasBefore server_rules n c → HasBefore n c
    behind b =
        let of = of_form b.before b.form in
        record {
          opening = of.opening;
          is_opening = of.is_opening;
          frames = of.frames;
          whole = of.whole;
          split = b.split ∙ ap (λ (l : List (List ℕ)). l ++ records_from n c) of.is;
        }

-- ---- the server that records give

runs_fold : (before : Server) (records : List (List ℕ)) (now : Server) → Runs server_rules before records now
    → (frames : List Handed) × AllFrames frames × (records ≡ map frame_record frames) × (now.core ≡ fold_from before.core frames) × (now.opening ≡ before.opening)
runs_fold before [] now runs = ([], tt, refl, ap (λ (s : Server). s.core) runs, ap (λ (s : Server). s.opening) runs)
runs_fold before (bytes ∷ records) now runs =
    let one = runs.1 in
    let h = one.handed in
    let rest = runs_fold runs.0 records now runs.2 in (
      h ∷ rest.0,
      (one.whole, rest.1),
      ap (λ (x : List ℕ). x ∷ records) one.is ∙ ap (λ (l : List (List ℕ)). frame_record h ∷ l) rest.2,
      rest.3 ∙ ap (λ (k : Core). fold_from k rest.0) one.step,
      rest.4 ∙ one.opening,
    )

pub stands_of : (s : Server) (reads : List ℕ → Type 0) → kept.Stands server_rules s reads → Stands s.opening s.core reads
stands_of s reads stands =
    let g = stands.gives in
    let runs = runs_fold g.opened g.form.later g.stepped g.runs in
    let opening : s.opening ≡ g.opened.opening = ap (λ (x : Server). x.opening) g.same ∙ runs.4 in
    let core : s.core ≡ fold_from g.opened.core runs.0 = ap (λ (x : Server). x.core) g.same ∙ runs.3 in
    record {
      frames = runs.0;
      whole = runs.1;
      folded = core ∙ ap (λ (k : Core). fold_from k runs.0) g.opens.core ∙ ap (λ (o : Opening). fold o runs.0) (sym opening);
      held = λ c read.
          stands.held c read ∙ g.form.split ∙ ap (λ (x : List ℕ). x ∷ g.form.later) (g.opens.is ∙ ap opening_record (sym opening))
          ∙ ap (λ (l : List (List ℕ)). opening_record s.opening ∷ l) runs.2;
    }

-- ---- the record of what a server is handed

pub recorded : (h : Handed) (bytes : List ℕ) → record_of h ≡ Some bytes → IsOneFrame h.frame × (bytes ≡ frame_record h)
recorded h bytes is = by (is_ok (whole h.frame)) is
  where
    by : (b : Bool) → record_if b h ≡ Some bytes → (b ≡ true) × (bytes ≡ frame_record h)
    by true is = let same : frame_record h ≡ bytes = cc is in (refl, sym same)
    by false is = absurd (cc is)

pub unrecorded : (h : Handed) → record_of h ≡ None → IsOneFrame h.frame → ⊥
unrecorded h is one = by (is_ok (whole h.frame)) is one
  where
    by : (b : Bool) → record_if b h ≡ None → b ≡ true → ⊥
    by true is one = absurd (cc is)
    by false is one = absurd (cc one)

-- ---- making

pub makes_of : (limit : ℕ) (o : Opening) (first : List ℕ) (old new : DiskSeen) → first ≡ opening_record o → kept.MakesOnly limit first old new
    → MakesOnly limit o old new
unfolding MakesOnly kept.MakesOnly
makes_of limit o first old new is left none = subst (λ (r : List ℕ). LeavesOnly old new (LeavesNoneOrFirst limit r)) is (left none)
