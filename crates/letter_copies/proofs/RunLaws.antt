-- What every run of tries keeps.
use Rattle.std.proofs.Common.{◌≡◌, ◌⊎◌, inl, inr, ℕ, ◌*◌, ◌<◌, ◌≤◌, false, List, [], ◌∷◌, length, get_or, set, replicate, Option, Some, None, position, refl, sym, subst, ◌∙◌, arith}
use Rattle.std.specs.Prelude.{slice_get}
use Rattle.std.proofs.lemmas.Bool.{cases_eq, cases_lt}
use Rattle.std.proofs.lemmas.List.{length-set, length-replicate, get_or-replicate, get_or-set_same, get_or-set_other, get_or_past}
use Rattle.std.proofs.lemmas.Option.{get_or_from_slice_get, slice_get_within}
use Rattle.letter_copies.specs.declared.copies.Try.{Try}
use Rattle.letter_copies.specs.declared.heard.Answer.{Answer}
use Rattle.letter_copies.specs.declared.heard.Fate.{Fate}
use Rattle.letter_copies.specs.declared.heard.Fate.TheVariants as fate
use Rattle.letter_copies.specs.declared.standing.Standing.{Standing}
use Rattle.letter_copies.specs.declared.standing.Standing.TheVariants.{Waits, Written, Unknown}
use Rattle.letter_copies.specs.Copies.{CopiesState, IsPresent, begun_at, is_waiting, tried_again, turn_by, written_nothing}
use Rattle.letter_copies.specs.Fate.{fate_by}
use Rattle.letter_copies.specs.Laws.{IsAccepted}
use Rattle.letter_copies.specs.Runs.{CopyTry, CopyEvent, Begins, ProofGoes, Hears, Run, after_event, follows, may_be_accepted, opened, run_from, run_of, try_of}
use Rattle.letter_copies.proofs.FateLaws.{excluded, told_not, told_written}
use Rattle.letter_copies.proofs.StandingLaws.{found_waits}
use Rattle.letter_copies.proofs.TryLaws.{SaysSo, behind_nothing, behind_unknown, behind_written, other_try}

-- of each copy its standing says what became of its tries before the present one
pub record Good (parts each : ℕ) (run : Run) : Type 0 where
  pub parts_are : run.state.parts ≡ parts
  pub each_is : run.state.each ≡ each
  pub length_is : length run.state.standings ≡ parts * each
  pub present_is : IsPresent run.state.standings run.state.present
  pub says : (copy : ℕ) → SaysSo (get_or run.state.standings copy Unknown) copy run.before

-- ---- the try is over

module _ (n e : ℕ) (run : Run) (t : Try) (answers : List Answer) (g : Good n e run)
    (waits : (further : ℕ) × (slice_get run.state.standings t.copy ≡ Some (Waits further))) where
  abbrev over_run : Standing → Run
  over_run standing = record {
    state = record run.state { standings = set run.state.standings t.copy standing; present = None };
    answers = [];
    before = try_of t answers ∷ run.before;
  }

  waited : SaysSo (Waits waits.0) t.copy run.before
  waited =
      subst (λ (s : Standing). SaysSo s t.copy run.before)
      (get_or_from_slice_get run.state.standings t.copy (Waits waits.0) Unknown waits.1) (g.says t.copy)

  good_over : (standing : Standing) → SaysSo standing t.copy (try_of t answers ∷ run.before)
      → Good n e (over_run standing)
  good_over standing says = record {
    parts_are = g.parts_are;
    each_is = g.each_is;
    length_is = length-set run.state.standings t.copy standing ∙ g.length_is;
    present_is = tt;
    says = λ copy. at_copy copy (cases_eq t.copy copy);
  }
    where
      at_copy : (copy : ℕ) → (t.copy ≡ copy) ⊎ (t.copy ≡ copy → ⊥)
          → SaysSo (get_or (set run.state.standings t.copy standing) copy Unknown) copy
          (try_of t answers ∷ run.before)
      at_copy copy (inl same) =
          subst (λ (c : ℕ). SaysSo (get_or (set run.state.standings t.copy standing) c Unknown) c
          (try_of t answers ∷ run.before)) same
          (subst (λ (s : Standing). SaysSo s t.copy (try_of t answers ∷ run.before))
          (sym (get_or-set_same run.state.standings t.copy standing Unknown
          (slice_get_within run.state.standings t.copy (Waits waits.0) waits.1))) says)
      at_copy copy (inr other) =
          subst (λ (s : Standing). SaysSo s copy (try_of t answers ∷ run.before))
          (sym (get_or-set_other run.state.standings t.copy copy standing Unknown (λ is. other (sym is))))
          (other_try (get_or run.state.standings copy Unknown) copy (try_of t answers) run.before other (g.says copy))

  good_nothing : may_be_accepted (try_of t answers) ≡ false → Good n e (over_run (tried_again (Waits waits.0)))
  good_nothing none =
      good_over (tried_again (Waits waits.0))
      (behind_nothing waits.0 t.copy (try_of t answers) run.before refl waited none)

  same_run : Good n e (record run { answers = answers })
  same_run = record {
    parts_are = g.parts_are;
    each_is = g.each_is;
    length_is = g.length_is;
    present_is = g.present_is;
    says = g.says;
  }

  pub good_follows : (told : Fate) → (told ≡ fate.NotWritten → may_be_accepted (try_of t answers) ≡ false)
      → (told ≡ fate.Written → IsAccepted (try_of t answers))
      → Good n e (follows run t answers (turn_by run.state t.copy told).state (turn_by run.state t.copy told).next)
  unfolding turn_by
  good_follows fate.GoesOn none accepted = same_run
  good_follows fate.Again none accepted = same_run
  good_follows fate.NotWritten none accepted =
      subst (λ (found : Option Standing). Good n e
      (follows run t answers (written_nothing run.state t.copy found).state (written_nothing run.state t.copy found).next))
      (sym waits.1) (good_nothing (none refl))
  good_follows fate.Unknown none accepted =
      good_over Unknown (behind_unknown waits.0 t.copy (try_of t answers) run.before refl waited)
  good_follows fate.Written none accepted =
      good_over Written (behind_written waits.0 t.copy (try_of t answers) run.before refl waited (accepted refl))

-- ---- an event

abbrev run_with : CopiesState → Option Try → List Answer → List CopyTry → Run
run_with s present answers before =
    record { state = record s { present = present }; answers = answers; before = before }

-- a try's answers as they tell of it
none_by : (t : Try) (a : Answer) (answers : List Answer) → fate_by t.proof_out a ≡ fate.NotWritten
    → may_be_accepted (try_of t (a ∷ answers)) ≡ false
none_by t a answers told = excluded t.proof_out a answers (told_not t.proof_out a told)

accepted_by : (t : Try) (a : Answer) (answers : List Answer) → fate_by t.proof_out a ≡ fate.Written
    → IsAccepted (try_of t (a ∷ answers))
accepted_by t a answers told =
    let is = told_written t.proof_out a told in
    record { proof_out = is.0; last = a; earlier = answers; heard = refl; told = is.1 }

good_begun : (n e : ℕ) (s : CopiesState) (answers : List Answer) (before : List CopyTry)
    → Good n e (run_with s None answers before) → (found : Option ℕ) → position is_waiting s.standings ≡ found
    → Good n e (record { state = begun_at (record s { present = None }) found; answers = []; before = before })
good_begun n e s answers before g None is = record {
  parts_are = g.parts_are;
  each_is = g.each_is;
  length_is = g.length_is;
  present_is = tt;
  says = g.says;
}
good_begun n e s answers before g (Some copy) is = record {
  parts_are = g.parts_are;
  each_is = g.each_is;
  length_is = g.length_is;
  present_is = found_waits s.standings copy is;
  says = g.says;
}

good_event : (n e : ℕ) (s : CopiesState) (present : Option Try) (answers : List Answer) (before : List CopyTry)
    (event : CopyEvent) → Good n e (run_with s present answers before)
    → Good n e (after_event (run_with s present answers before) event)
unfolding after_event
good_event n e s None answers before Begins g =
    good_begun n e s answers before g (position is_waiting s.standings) refl
good_event n e s (Some t) answers before Begins g = g
good_event n e s None answers before ProofGoes g = g
good_event n e s (Some t) answers before ProofGoes g = record {
  parts_are = g.parts_are;
  each_is = g.each_is;
  length_is = g.length_is;
  present_is = g.present_is;
  says = g.says;
}
good_event n e s None answers before (Hears a) g = g
good_event n e s (Some t) answers before (Hears a) g =
    good_follows n e (run_with s (Some t) answers before) t (a ∷ answers) g g.present_is (fate_by t.proof_out a)
    (none_by t a answers) (accepted_by t a answers)

good_from : (n e : ℕ) (run : Run) (events : List CopyEvent) → Good n e run → Good n e (run_from run events)
unfolding run_from
good_from n e run [] g = g
good_from n e run (event ∷ events) g =
    good_from n e (after_event run event) events
    (good_event n e run.state run.state.present run.answers run.before event g)

good_start : (n e : ℕ) → Good n e (opened n e)
good_start n e = record {
  parts_are = refl;
  each_is = refl;
  length_is = length-replicate (n * e) (Waits 5);
  present_is = tt;
  says = λ copy. at_standing copy (get_or (replicate (n * e) (Waits 5)) copy Unknown) (at_first copy);
}
  where
    at_first : (copy : ℕ) → (get_or (replicate (n * e) (Waits 5)) copy Unknown ≡ Waits 5)
        ⊎ (get_or (replicate (n * e) (Waits 5)) copy Unknown ≡ Unknown)
    at_first copy = by_place (cases_lt copy (n * e))
      where
        by_place : (copy < n * e) ⊎ (n * e ≤ copy)
            → (get_or (replicate (n * e) (Waits 5)) copy Unknown ≡ Waits 5)
            ⊎ (get_or (replicate (n * e) (Waits 5)) copy Unknown ≡ Unknown)
        by_place (inl within) = inl (get_or-replicate (n * e) copy (Waits 5) Unknown within)
        by_place (inr past) =
            inr (get_or_past (replicate (n * e) (Waits 5)) copy Unknown
            (let is = length-replicate (n * e) (Waits 5) in omega (arith, is, past)))

    at_standing : (copy : ℕ) (s : Standing) → (s ≡ Waits 5) ⊎ (s ≡ Unknown) → SaysSo s copy []
    at_standing copy s (inl is) = subst (λ (s : Standing). SaysSo s copy []) (sym is) (refl, omega arith)
    at_standing copy s (inr is) = subst (λ (s : Standing). SaysSo s copy []) (sym is) (omega arith, omega arith)

pub good_run : (n e : ℕ) (events : List CopyEvent) → Good n e (run_of n e events)
good_run n e events = good_from n e (opened n e) events (good_start n e)
