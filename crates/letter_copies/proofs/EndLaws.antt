-- What an end says of the tries.
use Rattle.std.proofs.Common.{◌≡◌, ◌⊎◌, inl, inr, ℕ, zero, suc, ◌+◌, ◌*◌, ◌<◌, ◌≤◌, Bool, true, false, cond, ◌&&◌, ◌||◌, List, [], ◌∷◌, ◌++◌, length, take, drop, get_or, Option, Some, None, refl, ap, sym, subst, ◌∙◌, arith}
use Rattle.std.specs.Prelude.{not, slice_get}
use Rattle.std.specs.List.{list_all, list_any}
use Rattle.std.proofs.Math.Nat.{mul-le-mul_right}
use Rattle.std.proofs.lemmas.Bool.{cases_eq}
use Rattle.std.proofs.lemmas.List.{drop-drop, get_or-drop, get_or-take, length-drop, length-take, length-take-le}
use Rattle.std.proofs.lemmas.List.Folds.{list_all_at, list_any_at}
use Rattle.std.proofs.lemmas.Option.{get_or_from_slice_get, slice_get_within}
use Rattle.letter_copies.specs.declared.copies.LetterEnd.TheVariants as end
use Rattle.letter_copies.specs.declared.copies.Try.{Try}
use Rattle.letter_copies.specs.declared.standing.Standing.{Standing}
use Rattle.letter_copies.specs.declared.standing.Standing.TheVariants.{Waits, Written, NotWritten, Unknown}
use Rattle.letter_copies.specs.Copies.{CopiesState, IsPresent, all_written, end_of, is_proof_out, is_unknown, is_unwritten, is_waiting, is_written, may_be_written}
use Rattle.letter_copies.specs.Laws.{GivenUpIsNowhere, IsCopyOf, IsPartNowhere, IsPartWritten, NotWrittenIsTrue, TriesAreFew, WrittenIsTrue, WrittenOnce}
use Rattle.letter_copies.specs.Runs.{CopyTry, Run, accepted_at, excludes, present_try, run_of, tries, tries_at, try_of}
use Rattle.letter_copies.proofs.RunLaws.{Good, good_run}
use Rattle.letter_copies.proofs.TryLaws.{SaysSo, WasAccepted, accepted_cons, adds_elsewhere, adds_none, adds_one, counts_elsewhere, counts_one, few_before, once_before, tries_cons}

-- ---- lists

abbrev Passes : (Standing → Bool) → List Standing → Type 0
Passes p xs = (i : ℕ) × (i < length xs) × ((d : Standing) → p (get_or xs i d) ≡ true)

first_or_later : (p : Standing → Bool) (x : Standing) (xs : List Standing) → (list_any p xs ≡ true → Passes p xs)
    → (b : Bool) → p x ≡ b → (b || list_any p xs) ≡ true → Passes p (x ∷ xs)
first_or_later p x xs later true is h = (0, omega arith, λ d. is)
first_or_later p x xs later false is h =
    let found = later h in
    let within = found.1 in
    (suc found.0, omega (arith, within), found.2)

any_found : (p : Standing → Bool) (xs : List Standing) → list_any p xs ≡ true → Passes p xs
any_found p [] h = cc
any_found p (x ∷ xs) h = first_or_later p x xs (λ later. any_found p xs later) (p x) refl h

-- where none passes, the one at a place doesn't
none_at : (p : Standing → Bool) (xs : List Standing) (i : ℕ) (d : Standing) → list_any p xs ≡ false
    → i < length xs → p (get_or xs i d) ≡ false
none_at p xs i d none within = at_test (p (get_or xs i d)) refl
  where
    at_test : (b : Bool) → p (get_or xs i d) ≡ b → b ≡ false
    at_test false is = refl
    at_test true is = sym (list_any_at p xs i d within is) ∙ none

-- where all pass, the one at a place does
each_at : (p : Standing → Bool) (xs : List Standing) (i : ℕ) (d : Standing) → list_all p xs ≡ true
    → i < length xs → p (get_or xs i d) ≡ true
each_at p xs i d all within = at_test (p (get_or xs i d)) refl
  where
    at_test : (b : Bool) → p (get_or xs i d) ≡ b → b ≡ true
    at_test true is = refl
    at_test false is = sym (list_all_at p xs i d within is) ∙ all

and_first : (b c : Bool) → (b && c) ≡ true → b ≡ true
and_first true c h = refl
and_first false c h = h

and_second : (b c : Bool) → (b && c) ≡ true → c ≡ true
and_second true c h = h
and_second false c h = cc

-- ---- parts

abbrev part_of : (each part : ℕ) → List Standing → List Standing
part_of each part xs = take each (drop (part * each) xs)

behind_first : (each part : ℕ) (xs : List Standing) → part_of each part (drop each xs) ≡ part_of each (suc part) xs
behind_first each part xs =
    ap (take each) (drop-drop (part * each) each xs ∙ ap (λ n. drop n xs) next)
  where
    next : each + part * each ≡ suc part * each
    next = grind arith

first_is : (each : ℕ) (xs : List Standing) → part_of each 0 xs ≡ take each xs
first_is each xs = ap (λ n. take each (drop n xs)) (let none : 0 * each ≡ 0 = grind arith in none)

each_part : (parts each part : ℕ) (xs : List Standing) → all_written parts each xs ≡ true → part < parts
    → list_any is_written (part_of each part xs) ≡ true
unfolding all_written
each_part zero each part xs all within = absurd (omega (arith, within))
each_part (suc parts) each zero xs all within =
    ap (list_any is_written) (first_is each xs)
    ∙ and_first (list_any is_written (take each xs)) (all_written parts each (drop each xs)) all
each_part (suc parts) each (suc part) xs all within =
    ap (list_any is_written) (sym (behind_first each part xs))
    ∙ each_part parts each part (drop each xs)
    (and_second (list_any is_written (take each xs)) (all_written parts each (drop each xs)) all)
    (omega (arith, within))

abbrev HasNone : (parts each : ℕ) → List Standing → Type 0
HasNone parts each xs = (part : ℕ) × (part < parts) × (list_any is_written (part_of each part xs) ≡ false)

this_or_later : (parts each : ℕ) (xs : List Standing)
    → (all_written parts each (drop each xs) ≡ false → HasNone parts each (drop each xs))
    → (b : Bool) → list_any is_written (take each xs) ≡ b
    → (b && all_written parts each (drop each xs)) ≡ false → HasNone (suc parts) each xs
this_or_later parts each xs later false is none =
    (0, omega arith, ap (list_any is_written) (first_is each xs) ∙ is)
this_or_later parts each xs later true is none =
    let found = later none in
    let within = found.1 in
    (suc found.0, omega (arith, within), ap (list_any is_written) (sym (behind_first each found.0 xs)) ∙ found.2)

some_part : (parts each : ℕ) (xs : List Standing) → all_written parts each xs ≡ false → HasNone parts each xs
unfolding all_written
some_part zero each xs none = cc
some_part (suc parts) each xs none =
    this_or_later parts each xs (λ later. some_part parts each (drop each xs) later)
    (list_any is_written (take each xs)) refl none

in_part : (parts each part k : ℕ) → part < parts → k < each → part * each + k < parts * each
in_part parts each part k within less =
    let more : (part + 1) * each ≤ parts * each = mul-le-mul_right each (omega (arith, within)) in
    let split : (part + 1) * each ≡ part * each + each = grind arith in
    omega (arith, more, split, less)

-- the copy of a part, as it stands
part_at : (each part k : ℕ) (xs : List Standing) (d : Standing) → k < each
    → get_or (part_of each part xs) k d ≡ get_or xs (part * each + k) d
part_at each part k xs d less =
    get_or-take each (drop (part * each) xs) k d less ∙ get_or-drop (part * each) xs k d

-- ---- ends

written_only : (waiting written unknown : Bool)
    → cond waiting None (Some (cond written end.Written (cond unknown end.MaybeWritten end.NotWritten))) ≡ Some end.Written
    → written ≡ true
written_only true written unknown h = cc
written_only false true unknown h = refl
written_only false false true h = cc
written_only false false false h = cc

none_only : (waiting written unknown : Bool)
    → cond waiting None (Some (cond written end.Written (cond unknown end.MaybeWritten end.NotWritten))) ≡ Some end.NotWritten
    → (waiting ≡ false) × (written ≡ false) × (unknown ≡ false)
none_only true written unknown h = cc
none_only false true unknown h = cc
none_only false false true h = cc
none_only false false false h = (refl, refl, refl)

told_written : (s : CopiesState) → end_of s ≡ Some end.Written → all_written s.parts s.each s.standings ≡ true
unfolding end_of
told_written s h =
    written_only (list_any is_waiting s.standings) (all_written s.parts s.each s.standings)
    (list_any is_unknown s.standings) h

told_none : (s : CopiesState) → end_of s ≡ Some end.NotWritten → (list_any is_waiting s.standings ≡ false)
    × (all_written s.parts s.each s.standings ≡ false) × (list_any is_unknown s.standings ≡ false)
unfolding end_of
told_none s h =
    none_only (list_any is_waiting s.standings) (all_written s.parts s.each s.standings)
    (list_any is_unknown s.standings) h

-- ---- how often

module _ (n e : ℕ) (run : Run) (g : Good n e run) where
  waited_before : (t : Try) (further : ℕ) → slice_get run.state.standings t.copy ≡ Some (Waits further)
      → SaysSo (Waits further) t.copy run.before
  waited_before t further is =
      subst (λ (s : Standing). SaysSo s t.copy run.before)
      (get_or_from_slice_get run.state.standings t.copy (Waits further) Unknown is) (g.says t.copy)

  once_at : (copy : ℕ) (present : Option Try) → IsPresent run.state.standings present
      → accepted_at copy (present_try present run.answers ++ run.before) ≤ 1
  once_at copy None is = once_before (get_or run.state.standings copy Unknown) copy run.before (g.says copy)
  once_at copy (Some t) (further, is) = at_copy (cases_eq t.copy copy)
    where
      at_copy : (t.copy ≡ copy) ⊎ (t.copy ≡ copy → ⊥)
          → accepted_at copy (try_of t run.answers ∷ run.before) ≤ 1
      at_copy (inl same) =
          let says = subst (λ (c : ℕ). accepted_at c run.before ≡ 0) same (waited_before t further is).0 in
          let one = adds_one copy (try_of t run.answers) in
          let sum = accepted_cons copy (try_of t run.answers) run.before in omega (arith, says, one, sum)
      at_copy (inr other) =
          let none = adds_elsewhere copy (try_of t run.answers) other in
          let once = once_before (get_or run.state.standings copy Unknown) copy run.before (g.says copy) in
          let sum = accepted_cons copy (try_of t run.answers) run.before in omega (arith, none, once, sum)

  few_at : (copy : ℕ) (present : Option Try) → IsPresent run.state.standings present
      → tries_at copy (present_try present run.answers ++ run.before) ≤ 6
  few_at copy None is = few_before (get_or run.state.standings copy Unknown) copy run.before (g.says copy)
  few_at copy (Some t) (further, is) = at_copy (cases_eq t.copy copy)
    where
      at_copy : (t.copy ≡ copy) ⊎ (t.copy ≡ copy → ⊥)
          → tries_at copy (try_of t run.answers ∷ run.before) ≤ 6
      at_copy (inl same) =
          let says = subst (λ (c : ℕ). tries_at c run.before + further ≤ 5) same (waited_before t further is).1 in
          let one = counts_one copy (try_of t run.answers) in
          let sum = tries_cons copy (try_of t run.answers) run.before in omega (arith, says, one, sum)
      at_copy (inr other) =
          let none = counts_elsewhere copy (try_of t run.answers) other in
          let few = few_before (get_or run.state.standings copy Unknown) copy run.before (g.says copy) in
          let sum = tries_cons copy (try_of t run.answers) run.before in omega (arith, none, few, sum)

  pub once_of : (copy : ℕ) → accepted_at copy (tries run) ≤ 1
  once_of copy = once_at copy run.state.present g.present_is

  pub few_of : (copy : ℕ) → tries_at copy (tries run) ≤ 6
  few_of copy = few_at copy run.state.present g.present_is

pub written_once : WrittenOnce
written_once n e events some = once_of n e (run_of n e events) (good_run n e events)

pub tries_are_few : TriesAreFew
tries_are_few n e events some = few_of n e (run_of n e events) (good_run n e events)

-- ---- what is told is so

accepted_there : (s : Standing) (copy : ℕ) (before : List CopyTry) → is_written s ≡ true → SaysSo s copy before
    → WasAccepted copy before
accepted_there (Waits further) copy before is says = cc
accepted_there Written copy before is says = says.2
accepted_there NotWritten copy before is says = cc
accepted_there Unknown copy before is says = cc

nowhere_there : (s : Standing) (copy : ℕ) (before : List CopyTry) → is_waiting s ≡ false → is_written s ≡ false
    → is_unknown s ≡ false → SaysSo s copy before → accepted_at copy before ≡ 0
nowhere_there (Waits further) copy before w n u says = cc
nowhere_there Written copy before w n u says = cc
nowhere_there NotWritten copy before w n u says = says.0
nowhere_there Unknown copy before w n u says = cc

unwritten_there : (s : Standing) (copy : ℕ) (before : List CopyTry) → is_unwritten s ≡ true → SaysSo s copy before
    → accepted_at copy before ≡ 0
unwritten_there (Waits further) copy before is says = says.0
unwritten_there Written copy before is says = cc
unwritten_there NotWritten copy before is says = says.0
unwritten_there Unknown copy before is says = cc

module _ (n e : ℕ) (run : Run) (g : Good n e run) where
  length_of_part : (part : ℕ) → length (part_of e part run.state.standings) ≤ e
  length_of_part part =
      let is = length-take e (drop (part * e) run.state.standings) in omega (arith, is)

  part_written : (part : ℕ) → list_any is_written (part_of e part run.state.standings) ≡ true
      → IsPartWritten e part run
  part_written part some =
      let found = any_found is_written (part_of e part run.state.standings) some in
      let within = found.1 in
      let most = length_of_part part in
      let less : found.0 < e = omega (arith, within, most) in
      let copy : ℕ = part * e + found.0 in
      let is : is_written (get_or run.state.standings copy Unknown) ≡ true =
      ap is_written (sym (part_at e part found.0 run.state.standings Unknown less)) ∙ found.2 Unknown in
      let was = accepted_there (get_or run.state.standings copy Unknown) copy run.before is (g.says copy) in
      record {
        accepted = was.accepted;
        is_copy = (found.0, less, was.is_copy);
        is_accepted = was.is_accepted;
        tried = was.tried;
      }

  pub written_of : end_of run.state ≡ Some end.Written → (part : ℕ) → part < n → IsPartWritten e part run
  written_of told part within =
      let all : all_written n e run.state.standings ≡ true =
      ap (λ p. all_written p e run.state.standings) (sym g.parts_are)
      ∙ ap (λ c. all_written run.state.parts c run.state.standings) (sym g.each_is)
      ∙ told_written run.state told in
      part_written part (each_part n e part run.state.standings all within)

  -- where no copy waits, no try is under way
  none_present : (present : Option Try) → IsPresent run.state.standings present
      → list_any is_waiting run.state.standings ≡ false → present_try present run.answers ≡ []
  none_present None is none = refl
  none_present (Some t) (further, is) none =
      let waits = get_or_from_slice_get run.state.standings t.copy (Waits further) Unknown is in
      let not_waiting = none_at is_waiting run.state.standings t.copy Unknown none
      (slice_get_within run.state.standings t.copy (Waits further) is) in
      absurd (true_not (sym (ap is_waiting waits) ∙ not_waiting))
    where
      true_not : true ≡ false → ⊥
      true_not h = cc

  nowhere_at : (part : ℕ) → part < n → list_any is_waiting run.state.standings ≡ false
      → list_any is_unknown run.state.standings ≡ false
      → list_any is_written (part_of e part run.state.standings) ≡ false
      → (copy : ℕ) → IsCopyOf e part copy → accepted_at copy (tries run) ≡ 0
  nowhere_at part within waiting unknown written copy (k, less, is) =
      ap (λ now. accepted_at copy (now ++ run.before)) (none_present run.state.present g.present_is waiting)
      ∙ nowhere_there (get_or run.state.standings copy Unknown) copy run.before
      (none_at is_waiting run.state.standings copy Unknown waiting there)
      (ap (λ c. is_written (get_or run.state.standings c Unknown)) is
      ∙ ap is_written (sym (part_at e part k run.state.standings Unknown less))
      ∙ none_at is_written (part_of e part run.state.standings) k Unknown written in_this)
      (none_at is_unknown run.state.standings copy Unknown unknown there) (g.says copy)
    where
      there : copy < length run.state.standings
      there =
          let in_all = in_part n e part k within less in
          let all = g.length_is in omega (arith, in_all, all, is)

      in_this : k < length (part_of e part run.state.standings)
      in_this =
          let more : (part + 1) * e ≤ n * e = mul-le-mul_right e (omega (arith, within)) in
          let split : (part + 1) * e ≡ part * e + e = grind arith in
          let all = g.length_is in
          let left = length-drop (part * e) run.state.standings in
          let whole = length-take-le e (drop (part * e) run.state.standings) (omega (arith, more, split, all, left)) in
          omega (arith, whole, less)

  pub not_written_of : end_of run.state ≡ Some end.NotWritten
      → (part : ℕ) × (part < n) × IsPartNowhere e run part
  not_written_of told =
      let no = told_none run.state told in
      let none : all_written n e run.state.standings ≡ false =
      ap (λ p. all_written p e run.state.standings) (sym g.parts_are)
      ∙ ap (λ c. all_written run.state.parts c run.state.standings) (sym g.each_is)
      ∙ no.1 in
      let found = some_part n e run.state.standings none in (
        found.0,
        found.1,
        record {
          none = nowhere_at found.0 found.1 no.0 no.2 found.2;
        },
      )

  given_up_at : (copy : ℕ) → copy < n * e → (present : Option Try) → list_all is_unwritten run.state.standings ≡ true
      → is_proof_out present ≡ false → accepted_at copy (present_try present run.answers ++ run.before) ≡ 0
  given_up_at copy within None all out = before_is_none
    where
      before_is_none : accepted_at copy run.before ≡ 0
      before_is_none =
          unwritten_there (get_or run.state.standings copy Unknown) copy run.before
          (each_at is_unwritten run.state.standings copy Unknown all
          (let is = g.length_is in omega (arith, within, is))) (g.says copy)
  given_up_at copy within (Some t) all out =
      let before =
      unwritten_there (get_or run.state.standings copy Unknown) copy run.before
      (each_at is_unwritten run.state.standings copy Unknown all
      (let is = g.length_is in omega (arith, within, is))) (g.says copy) in
      let none = adds_none copy (try_of t run.answers) (ap (λ b. b && not (list_any excludes run.answers)) out) in
      let sum = accepted_cons copy (try_of t run.answers) run.before in omega (arith, before, none, sum)

  pub given_up_of : may_be_written run.state ≡ false → (copy : ℕ) → copy < n * e
      → accepted_at copy (tries run) ≡ 0
  given_up_of none copy within =
      let no = neither (list_all is_unwritten run.state.standings) (is_proof_out run.state.present) none in
      given_up_at copy within run.state.present no.0 no.1
    where
      neither : (all out : Bool) → (not all || out) ≡ false → (all ≡ true) × (out ≡ false)
      neither true true h = cc
      neither true false h = (refl, refl)
      neither false out h = cc

pub written_is_true : WrittenIsTrue
written_is_true n e events some = written_of n e (run_of n e events) (good_run n e events)

pub not_written_is_true : NotWrittenIsTrue
not_written_is_true n e events some = not_written_of n e (run_of n e events) (good_run n e events)

pub given_up_is_nowhere : GivenUpIsNowhere
given_up_is_nowhere n e events some = given_up_of n e (run_of n e events) (good_run n e events)
