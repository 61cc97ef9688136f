-- What a client was asked before a finish of it has its outcomes at the end, whatever comes after.
use Rattle.std.proofs.Common.{◌≡◌, ◌∙◌, ◌<◌, ◌≤◌, ℕ, zero, suc, Bool, true, false, cond, nat_eq, List, [], ◌∷◌, ◌++◌, length, Some, slice_get, refl, sym, ap, subst, arith, append_assoc, length-append}
use Rattle.std.proofs.lemmas.Bool.{eqb-true}
use Rattle.express_words.specs.declared.settings.Settings.{Settings}
use Rattle.token_rules.specs.Tokens as token
use Rattle.token_rules.specs.Tokens.{Oracle, oracle_of, start}
use Rattle.token_rules.specs.Laws.{asks_of, outcomes_of}
use Rattle.token_rules.proofs.Outcomes.{outcomes_numbered}
use Rattle.run_rules.specs.Letters as run
use Rattle.run_rules.specs.Letters.{FrameWorld, opened}
use Rattle.run_rules.specs.Run as rules
use Rattle.run_rules.specs.Run.{Event, Finish}
use Rattle.run_rules.specs.Book.{Book}
use Rattle.run_rules.specs.Acts.{AreFitting, ended_of, history_of}
use Rattle.run_rules.specs.EveryEnd.{FinishAnswers}
use Rattle.run_rules.specs.Follows.{AreOutcomes, Follows, IsOutcome}
use Rattle.run_rules.specs.History.{frame_run, token_events, token_run}
use Rattle.run_rules.proofs.ForeignFollows.{foreign_runs_agree}
use Rattle.run_rules.proofs.OutcomesGrow.{run_grows}
use Rattle.run_rules.proofs.WholeFinish.{finish_always_ends, same_count}

-- ---- the events before the finish and after it

run_parts : (f : FrameWorld) (xs ys : List Event) → rules.run f (xs ++ ys) ≡ rules.run (rules.run f xs) ys
unfolding rules.run
run_parts f [] ys = refl
run_parts f (x ∷ xs) ys = run_parts (rules.happens f x) xs ys

pub front_fits : (settings : Settings) (foreign : ℕ → Bool) (xs ys : List Event) → AreFitting settings foreign (xs ++ ys)
    → AreFitting settings foreign xs
front_fits settings foreign [] ys h = tt
front_fits settings foreign (x ∷ xs) ys h = (h.0, front_fits settings foreign xs ys h.1)

-- ---- places of a client's outcomes

-- where the outcome of a client's request stands
record Found (xs : List token.Outcome) (c : ℕ) (x : token.Outcome) : Type 0 where
  pub place : ℕ
  pub is : slice_get xs place ≡ Some x
  pub client : x.client ≡ c

by_test : (c : ℕ) (y : token.Outcome) (xs : List token.Outcome) (x : token.Outcome)
    → ((k : ℕ) → slice_get (outcomes_of c xs) k ≡ Some x → Found xs c x) → (t : Bool) → nat_eq y.client c ≡ t → (k : ℕ)
    → slice_get (cond t (y ∷ outcomes_of c xs) (outcomes_of c xs)) k ≡ Some x → Found (y ∷ xs) c x
by_test c y xs x next true is zero e =
    let same : y ≡ x = cc in record { place = 0; is = e; client = ap (λ (o : token.Outcome). o.client) (sym same) ∙ eqb-true y.client c is }
by_test c y xs x next true is (suc k) e = let f = next k e in record { place = suc f.place; is = f.is; client = f.client }
by_test c y xs x next false is k e = let f = next k e in record { place = suc f.place; is = f.is; client = f.client }

find : (c : ℕ) (xs : List token.Outcome) (x : token.Outcome) (k : ℕ) → slice_get (outcomes_of c xs) k ≡ Some x → Found xs c x
find c [] x k e = absurd (cc e)
find c (y ∷ xs) x k e = by_test c y xs x (find c xs x) (nat_eq y.client c) refl k e

there : (xs : List token.Outcome) (k : ℕ) → k < length xs → (x : token.Outcome) × (slice_get xs k ≡ Some x)
there [] k h = absurd (omega (arith, h))
there (x ∷ xs) zero h = (x, refl)
there (x ∷ xs) (suc k) h = there xs k (omega (arith, h))

across : (b : Book) (xs : List token.Outcome) (ys : List run.Outcome) (i : ℕ) (x : token.Outcome) → AreOutcomes b xs ys
    → slice_get xs i ≡ Some x → (y : run.Outcome) × ((slice_get ys i ≡ Some y) × IsOutcome b x y)
across b (z ∷ xs) (y ∷ ys) zero x h e = let same : z ≡ x = cc in (y, (refl, subst (λ x. IsOutcome b x y) same h.0))
across b (z ∷ xs) (y ∷ ys) (suc i) x h e = across b xs ys i x h.1 e
across b [] ys i x h e = absurd (cc e)
across b (z ∷ xs) [] i x h e = absurd h

in_front : (xs ys : List run.Outcome) (i : ℕ) (y : run.Outcome) → slice_get xs i ≡ Some y → slice_get (xs ++ ys) i ≡ Some y
in_front [] ys i y e = absurd (cc e)
in_front (x ∷ xs) ys zero y e = e
in_front (x ∷ xs) ys (suc i) y e = in_front xs ys i y e

pub finish_answers : FinishAnswers
finish_answers settings seed foreign before after c number limits fit honest few small =
    let first = before ++ Finish c ∷ [] in
    let joined : before ++ Finish c ∷ after ≡ first ++ after = sym (append_assoc before (Finish c ∷ []) after) in
    let fits = front_fits settings foreign first after (subst (AreFitting settings foreign) joined fit) in
    let size = length-append before (Finish c ∷ after) in
    let size_first = length-append before (Finish c ∷ []) in
    let many : length first ≤ 20000 = omega (arith, few, size, size_first) in
    let s = ended_of settings seed foreign first in
    let o : Oracle = oracle_of s.acts in
    let v = token_run o settings foreign first in
    let b = history_of settings seed foreign s in
    let f = frame_run settings seed first in
    let h : Follows b f v = foreign_runs_agree settings seed foreign first limits fits many in
    let ends = finish_always_ends settings seed foreign before c limits (front_fits settings foreign before (Finish c ∷ []) fits) honest (omega (arith, few, size)) in
    let numbered = outcomes_numbered o settings.width settings.boxes settings.window foreign (token_events first) (omega (arith, limits.3.0)) c in
    let count : length (outcomes_of c v.outcomes) ≡ asks_of c (token_events before) =
    sym (same_count b c v.outcomes f.outcomes h.outcomes) ∙ ends.outcomes in
    let x = there (outcomes_of c v.outcomes) number (omega (arith, small, count)) in
    let found = find c v.outcomes x.0 number x.1 in
    let y = across b v.outcomes f.outcomes found.place x.0 h.outcomes found.is in
    let grown = run_grows f after in
    let all : frame_run settings seed (before ++ Finish c ∷ after) ≡ rules.run f after =
    ap (frame_run settings seed) joined ∙ run_parts (opened settings seed) first after in
    record {
      place = found.place;
      outcome = y.0;
      is =
          ap (λ (g : FrameWorld). slice_get g.outcomes found.place) all
          ∙ ap (λ os. slice_get os found.place) grown.outcomes ∙ in_front f.outcomes grown.more found.place y.0 y.1.0;
      client = y.1.1.client ∙ found.client;
      request = y.1.1.request ∙ numbered.numbers number x.0 x.1;
    }
