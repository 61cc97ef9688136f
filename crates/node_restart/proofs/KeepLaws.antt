-- What frames leave that were handed to a server one after another.
use Rattle.std.proofs.Common.{◌≡◌, ◌≢◌, inl, inr, ℕ, ◌+◌, List, [], ◌∷◌, ◌++◌, length, refl, sym, ap, ◌∙◌, subst, append_assoc, arith}
use Rattle.std.specs.Prelude.{is_ok}
use Rattle.std.proofs.lemmas.List.{append-nil}
use Rattle.std.proofs.lemmas.List.Elements.{filter-append}
use Rattle.frame_rules.specs.Whole.{whole}
use Rattle.node_journal.specs.Disk.{DiskSeen, LeavesOnly}
use Rattle.node_journal.specs.Journal.{JournalState, longer}
use Rattle.node_restart.specs.declared.opening.Opening.{Opening}
use Rattle.node_restart.specs.declared.server.Core.{Core}
use Rattle.node_restart.specs.Frames.{Handed, records_of}
use Rattle.node_restart.specs.Steps.{fold_from, step_of}
use Rattle.node_restart.specs.Kept.{KeptState, HoldsFrames}
use Rattle.node_restart.specs.Keeping.{kept_of, journal_after, LeavesFirst, MayLeaveFirst, AddsFrames, Keeps}

-- ---- folds of two lists

fold_both : (core : Core) (xs ys : List Handed) → fold_from core (xs ++ ys) ≡ fold_from (fold_from core xs) ys
fold_both core [] ys = refl
fold_both core (x ∷ xs) ys = fold_both (step_of core x.sender x.frame).core xs ys

journal_both : (j : JournalState) (xs ys : List Handed) → journal_after j (xs ++ ys) ≡ journal_after (journal_after j xs) ys
journal_both j [] ys = refl
journal_both j (x ∷ xs) ys = journal_both (longer (length x.frame + 1) j) xs ys

journal_limit : (j : JournalState) (xs : List Handed) → (journal_after j xs).limit ≡ j.limit
journal_limit j [] = refl
journal_limit j (x ∷ xs) = journal_limit (longer (length x.frame + 1) j) xs

kept_both : (xs ys : List Handed) → kept_of (xs ++ ys) ≡ kept_of xs ++ kept_of ys
kept_both xs ys = filter-append (λ (h : Handed). is_ok (whole h.frame)) xs ys

-- ---- what a crash leaves

leaves_both : (a b c : DiskSeen) (P Q R : List ℕ → Type 0) → ((x : List ℕ) → P x → R x) → ((x : List ℕ) → Q x → R x)
    → LeavesOnly a b P → LeavesOnly b c Q → LeavesOnly a c R
leaves_both a b c P Q R first second one two = record {
  later = omega (arith, one.later, two.later);
  each = λ x left. elim (two.before a.moment x one.later left) [ inl past ↦ first x (one.each x past) | inr now ↦ second x now ];
  before = λ t x earlier left. elim (two.before t x (omega (arith, earlier, one.later)) left) [
    | inl past ↦ elim (one.before t x earlier past) [ inl further ↦ inl further | inr now ↦ inr (first x now) ]
    | inr now ↦ inr (second x now)
  ];
}

first_of : (limit : ℕ) (o : Opening) (before xs ys : List Handed) (c : List ℕ) → LeavesFirst limit o before xs c → LeavesFirst limit o before (xs ++ ys) c
first_of limit o before xs ys c l = record {
  first = l.first;
  rest = l.rest ++ ys;
  split = ap (λ (x : List Handed). x ++ ys) l.split ∙ append_assoc l.first l.rest ys;
  content = l.content;
  undamaged = l.undamaged;
}

then_of : (limit : ℕ) (o : Opening) (before xs ys : List Handed) (c : List ℕ) → LeavesFirst limit o (before ++ xs) ys c → LeavesFirst limit o before (xs ++ ys) c
then_of limit o before xs ys c l = record {
  first = xs ++ l.first;
  rest = l.rest;
  split = ap (λ (x : List Handed). xs ++ x) l.split ∙ sym (append_assoc xs l.first l.rest);
  content = l.content ∙ ap (λ (x : List Handed). records_of o x) (append_assoc before xs l.first);
  undamaged = l.undamaged;
}

-- a crash on the way from a to c, where frames went to the disk up to b
moments : {D : Type 0} (shows : D → DiskSeen) (a b c : KeptState D) (f g : List Handed) → AddsFrames shows a b f → f ≢ [] → MayLeaveFirst shows b c g
    → (before : List Handed) → HoldsFrames a.opening before (shows a.disk).reads
    → LeavesOnly (shows a.disk) (shows c.disk) (LeavesFirst a.journal.limit a.opening before (f ++ g))
moments {D} shows a b c f [] one some two before held =
    let Of : KeptState D → List Handed → Type 0 = λ k x. LeavesOnly (shows a.disk) (shows k.disk) (LeavesFirst a.journal.limit a.opening before x) in
    subst (Of c) (sym (append-nil f)) (subst (λ k. Of k f) (sym (two.quiet refl)) (one.leaves.any_moment some before held))
moments {D} shows a b c f (h ∷ g) one some two before held =
    let From : ℕ → Opening → Type 0 = λ n o. HoldsFrames o (before ++ f) (shows b.disk).reads
    → LeavesOnly (shows b.disk) (shows c.disk) (LeavesFirst n o (before ++ f) (h ∷ g)) in
    let limit : b.journal.limit ≡ a.journal.limit = ap (λ (j : JournalState). j.limit) one.journal ∙ journal_limit a.journal f in
    let second : From a.journal.limit a.opening = subst (λ o. From a.journal.limit o) one.opening (subst (λ n. From n b.opening) limit (two.any_moment (λ e. absurd (cc e)) (before ++ f))) in
    leaves_both (shows a.disk) (shows b.disk) (shows c.disk) _ _ _
    (first_of a.journal.limit a.opening before f (h ∷ g)) (then_of a.journal.limit a.opening before f (h ∷ g))
    (one.leaves.any_moment some before held) (second (one.held before held))

pub leaves_then : {D : Type 0} (shows : D → DiskSeen) (a b c : KeptState D) (f g : List Handed) → AddsFrames shows a b f → MayLeaveFirst shows b c g → MayLeaveFirst shows a c (f ++ g)
leaves_then shows a b c [] g one two = subst (λ k. MayLeaveFirst shows k c g) (one.leaves.quiet refl) two
leaves_then shows a b c (h ∷ f) g one two = record { quiet = λ e. absurd (cc e); any_moment = λ some. moments shows a b c (h ∷ f) g one (λ e. absurd (cc e)) two }

-- ---- no frame, and two lists of frames

pub adds_none : {D : Type 0} (shows : D → DiskSeen) (old new : KeptState D) → new ≡ old → AddsFrames shows old new []
adds_none shows old new same = subst (λ k. AddsFrames shows old k []) (sym same) (record {
  opening = refl;
  journal = refl;
  unclosed = λ some. absurd (some refl);
  held = λ before holds. subst (λ l. HoldsFrames old.opening l (shows old.disk).reads) (sym (append-nil before)) holds;
  durable = λ durable. durable;
  leaves = record { quiet = λ e. refl; any_moment = λ some. absurd (some refl) };
})

adds_both : {D : Type 0} (shows : D → DiskSeen) (a b c : KeptState D) (f g : List Handed) → AddsFrames shows a b f → AddsFrames shows b c g → AddsFrames shows a c (f ++ g)
adds_both shows a b c [] g one two = subst (λ k. AddsFrames shows k c g) (one.leaves.quiet refl) two
adds_both {D} shows a b c (h ∷ f) g one two = record {
  opening = two.opening ∙ one.opening;
  journal = two.journal ∙ ap (λ (j : JournalState). journal_after j g) one.journal ∙ sym (journal_both a.journal (h ∷ f) g);
  unclosed = λ some. one.unclosed (λ e. absurd (cc e));
  held = λ before holds.
      let Of : Opening → Type 0 = λ o. HoldsFrames o (before ++ h ∷ f) (shows b.disk).reads → HoldsFrames o ((before ++ h ∷ f) ++ g) (shows c.disk).reads in
      subst (λ x. HoldsFrames a.opening x (shows c.disk).reads) (append_assoc before (h ∷ f) g) (subst Of one.opening (two.held (before ++ h ∷ f)) (one.held before holds));
  durable = λ durable. two.durable (one.durable durable);
  leaves = leaves_then shows a b c (h ∷ f) g one two.leaves;
}

pub keeps_none : {D : Type 0} (shows : D → DiskSeen) (k : KeptState D) → Keeps shows k k []
keeps_none shows k = record { steps = refl; adds = adds_none shows k k refl }

pub keeps_both : {D : Type 0} (shows : D → DiskSeen) (a b c : KeptState D) (f g : List Handed)
    → Keeps shows a b f → Keeps shows b c g
    → Keeps shows a c (f ++ g)
keeps_both shows a b c f g one two = record {
  steps = two.steps ∙ ap (λ (x : Core). fold_from x g) one.steps ∙ sym (fold_both a.core f g);
  adds = subst (AddsFrames shows a c) (sym (kept_both f g)) (adds_both shows a b c (kept_of f) (kept_of g) one.adds two.adds);
}
