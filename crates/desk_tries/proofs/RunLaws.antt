-- What every run of tries keeps.
use Rattle.std.proofs.Common.{◌≡◌, ◌⊎◌, inl, inr, ℕ, ◌+◌, ◌<◌, ◌≤◌, eqb, Bool, true, false, cond, ◌&&◌, ◌||◌, List, [], ◌∷◌, Option, Some, None, length, refl, ap, sym, subst, ◌∙◌, arith}
use Rattle.std.specs.Prelude.{All, not}
use Rattle.std.specs.List.{list_any}
use Rattle.std.proofs.lemmas.Bool.{ne_eqb, eqb-true, eqb-false, cases_eq}
use Rattle.std.proofs.lemmas.List.Elements.{All-nil, All-cons}
use Rattle.std.proofs.lemmas.List.Sums.{sum_by-cons}
use Rattle.express_words.specs.declared.refusal.Refusal.{Refusal}
use Rattle.express_words.specs.declared.refusal.Refusal.TheVariants as refusal
use Rattle.desk_tries.specs.declared.heard.Answer.{Answer}
use Rattle.desk_tries.specs.declared.heard.Answer.TheVariants as answer
use Rattle.desk_tries.specs.declared.heard.Fate.{Fate}
use Rattle.desk_tries.specs.declared.heard.Fate.TheVariants.{GoesOn, Again, NotWritten, Unknown, Written}
use Rattle.desk_tries.specs.declared.sending.LetterEnd.{LetterEnd}
use Rattle.desk_tries.specs.declared.sending.LetterEnd.TheVariants as end
use Rattle.desk_tries.specs.declared.sending.Next.TheVariants.{NewTry, NextAddress, Stop}
use Rattle.desk_tries.specs.Fate.{by_proof, fate_by_refusal, fate_by}
use Rattle.desk_tries.specs.Servers.{closes, excludes}
use Rattle.desk_tries.specs.Steps.{SendingState, may_be_written, turn, after_proof, new_try, end_of, again_at_address, elsewhere, turn_by}
use Rattle.desk_tries.specs.Runs.{Try, fresh, may_be_accepted, may_be_accepted_at, accepted_at, TryEvent, ProofGoes, Hears, Run, tries, opened, hears, follows_turn, goes_on, if_open, after_event, run_from, run_of}
use Rattle.desk_tries.specs.Laws.{GivenUpIsNowhere, WrittenOnce, NotWrittenIsTrue, IsAccepted, WrittenIsTrue, AreFew, TriesAreFew}

-- ---- what an answer tells

by_proof_not : (out : Bool) (t : Fate) → by_proof out t ≡ NotWritten → (t ≡ NotWritten → ⊥) → out ≡ false
by_proof_not true t h other = absurd (other h)
by_proof_not false t h other = refl

-- a try writes nothing only where its last proof didn't go out, or the answer excludes it
refused_not : (out : Bool) (r : Refusal) → fate_by_refusal out r ≡ NotWritten → (out ≡ false) ⊎ (closes r ≡ true)
unfolding fate_by_refusal
refused_not out (refusal.Again number) h = cc
refused_not out (refusal.LinkDown count) h = cc
refused_not out (refusal.Rejected o0 o1 t0 t1) h = inr refl
refused_not out refusal.NotProved h = inr refl
refused_not out refusal.NoDeposit h = inr refl
refused_not out (refusal.Malformed place) h = inl (by_proof_not out Again h (λ e. cc))
refused_not out (refusal.Version version) h = inl (by_proof_not out Again h (λ e. cc))
refused_not out (refusal.Stale serial) h = inl (by_proof_not out Unknown h (λ e. cc))
refused_not out (refusal.Phase phase) h = inl (by_proof_not out Unknown h (λ e. cc))
refused_not out (refusal.Lane limit) h = inl (by_proof_not out Unknown h (λ e. cc))
refused_not out (refusal.Taken n) h = inl (by_proof_not out Unknown h (λ e. cc))
refused_not out (refusal.Full limit) h = inl (by_proof_not out Unknown h (λ e. cc))
refused_not out (refusal.NoBox n) h = inl (by_proof_not out Unknown h (λ e. cc))
refused_not out (refusal.BadToken n) h = inl (by_proof_not out Unknown h (λ e. cc))

told_not : (out : Bool) (a : Answer) → fate_by out a ≡ NotWritten → (out ≡ false) ⊎ (excludes a ≡ true)
unfolding fate_by
told_not out answer.Lost h = cc
told_not out answer.Fits h = cc
told_not out answer.Accepted h = inl (by_proof_not out Written h (λ e. cc))
told_not out (answer.Refused r) h = refused_not out r h
told_not out answer.Other h = inl (by_proof_not out Again h (λ e. cc))

refused_written : (out : Bool) (r : Refusal) → fate_by_refusal out r ≡ Written → ⊥
unfolding fate_by_refusal
refused_written true (refusal.Again number) h = cc
refused_written true (refusal.LinkDown count) h = cc
refused_written true (refusal.Rejected o0 o1 t0 t1) h = cc
refused_written true refusal.NotProved h = cc
refused_written true refusal.NoDeposit h = cc
refused_written true (refusal.Malformed place) h = cc
refused_written true (refusal.Version version) h = cc
refused_written true (refusal.Stale serial) h = cc
refused_written true (refusal.Phase phase) h = cc
refused_written true (refusal.Lane limit) h = cc
refused_written true (refusal.Taken n) h = cc
refused_written true (refusal.Full limit) h = cc
refused_written true (refusal.NoBox n) h = cc
refused_written true (refusal.BadToken n) h = cc
refused_written false (refusal.Again number) h = cc
refused_written false (refusal.LinkDown count) h = cc
refused_written false (refusal.Rejected o0 o1 t0 t1) h = cc
refused_written false refusal.NotProved h = cc
refused_written false refusal.NoDeposit h = cc
refused_written false (refusal.Malformed place) h = cc
refused_written false (refusal.Version version) h = cc
refused_written false (refusal.Stale serial) h = cc
refused_written false (refusal.Phase phase) h = cc
refused_written false (refusal.Lane limit) h = cc
refused_written false (refusal.Taken n) h = cc
refused_written false (refusal.Full limit) h = cc
refused_written false (refusal.NoBox n) h = cc
refused_written false (refusal.BadToken n) h = cc

told_written : (out : Bool) (a : Answer) → fate_by out a ≡ Written → (out ≡ true) × (a ≡ answer.Accepted)
unfolding fate_by
told_written out answer.Lost h = cc
told_written out answer.Fits h = cc
told_written true answer.Accepted h = (refl, refl)
told_written false answer.Accepted h = cc
told_written out (answer.Refused r) h = absurd (refused_written out r h)
told_written true answer.Other h = cc
told_written false answer.Other h = cc

-- ---- one try

-- a try that heard such an answer can't have been accepted
excluded : (out : Bool) (a : Answer) (answers : List Answer) → (out ≡ false) ⊎ (excludes a ≡ true)
    → (out && not (list_any excludes (a ∷ answers))) ≡ false
excluded out a answers (inl none) = ap (λ t. t && not (list_any excludes (a ∷ answers))) none
excluded out a answers (inr closed) =
    ap (λ t. out && not (t || list_any excludes answers)) closed ∙ none out
  where
    none : (t : Bool) → (t && false) ≡ false
    none true = refl
    none false = refl

-- what one try adds to how many may have been accepted at an address
abbrev adds : ℕ → Try → ℕ
adds address t = cond (may_be_accepted_at address t) 1 0

accepted_cons : (address : ℕ) (t : Try) (before : List Try)
    → accepted_at address (t ∷ before) ≡ adds address t + accepted_at address before
accepted_cons address t before = sum_by-cons (λ x. cond (may_be_accepted_at address x) 1 0) t before

adds_one : (address : ℕ) (t : Try) → adds address t ≤ 1
adds_one address t = at_test (may_be_accepted_at address t)
  where
    at_test : (b : Bool) → cond b 1 0 ≤ 1
    at_test true = omega arith
    at_test false = omega arith

adds_elsewhere : (address : ℕ) (t : Try) → (t.address ≡ address → ⊥) → adds address t ≡ 0
adds_elsewhere address t other =
    ap (λ b. cond (b && may_be_accepted t) 1 0) (ne_eqb t.address address other)

abbrev counts : Bool → Bool → ℕ
counts b c = cond (b && c) 1 0

adds_none : (address : ℕ) (t : Try) → may_be_accepted t ≡ false → adds address t ≡ 0
adds_none address t none =
    ap (counts (eqb t.address address)) none ∙ at_test (eqb t.address address)
  where
    at_test : (b : Bool) → counts b false ≡ 0
    at_test true = refl
    at_test false = refl

-- ---- what a run keeps

abbrev pub EndIs : Option LetterEnd → SendingState → Try → Type 0
EndIs None s t = Unit {0}
EndIs (Some end.Written) s t = IsAccepted t
EndIs (Some end.NotWritten) s t = (s.address ≡ 0) × (may_be_accepted t ≡ false)
EndIs (Some end.MaybeWritten) s t = Unit {0}

pub record Keeps (addresses : ℕ) (s : SendingState) (t : Try) (before : List Try) : Type 0 where
  pub addresses_are : s.addresses ≡ addresses
  pub there : s.address < addresses
  pub address_is : t.address ≡ s.address
  pub proof_is : t.proof_out ≡ s.proof_out
  pub few : length before + s.further ≤ 5
  pub those : All (λ t. t.address < addresses) before
  -- at the present address and those to come no earlier try may have been accepted
  pub clear : (a : ℕ) → s.address ≤ a → accepted_at a before ≡ 0
  pub once : (a : ℕ) → accepted_at a before ≤ 1

pub record Good (addresses : ℕ) (run : Run) : Type 0 where
  pub keeps : Keeps addresses run.state run.now run.before
  pub end_is : EndIs run.end run.state run.now

-- a new try at the same address, behind one that can't have been accepted
same_address : (n : ℕ) (s : SendingState) (t : Try) (before : List Try) → Keeps n s t before → may_be_accepted t ≡ false
    → (s.further ≡ 0 → ⊥) → Keeps n (new_try s s.address) (fresh s.address) (t ∷ before)
same_address n s t before k none left = record {
  addresses_are = k.addresses_are;
  there = k.there;
  address_is = refl;
  proof_is = refl;
  few = (let f = k.few in omega (arith, f, left));
  those = All-cons (λ t. t.address < n) t before (let e = k.address_is in let h = k.there in omega (arith, e, h)) k.those;
  clear = λ a le. (let e = adds_none a t none in let c = k.clear a le in let s = accepted_cons a t before in omega (arith, e, c, s));
  once = λ a. (let e = adds_none a t none in let c = k.once a in let s = accepted_cons a t before in omega (arith, e, c, s));
}

-- a new try at the next address
next_address : (n : ℕ) (s : SendingState) (t : Try) (before : List Try) → Keeps n s t before → (s.further ≡ 0 → ⊥)
    → (s.address + 1 ≡ s.addresses → ⊥) → Keeps n (new_try s (s.address + 1)) (fresh (s.address + 1)) (t ∷ before)
next_address n s t before k left more = record {
  addresses_are = k.addresses_are;
  there = (let e = k.addresses_are in let h = k.there in omega (arith, e, h, more));
  address_is = refl;
  proof_is = refl;
  few = (let f = k.few in omega (arith, f, left));
  those = All-cons (λ t. t.address < n) t before (let e = k.address_is in let h = k.there in omega (arith, e, h)) k.those;
  clear = λ a le.
      (let other : t.address ≡ a → ⊥ = λ e. (let same = k.address_is in omega (arith, e, same, le)) in
      let e = adds_elsewhere a t other in let c = k.clear a (omega (arith, le)) in let s = accepted_cons a t before in omega (arith, e, c, s));
  once = λ a. at_address a (cases_eq t.address a);
}
  where
    at_address : (a : ℕ) → (t.address ≡ a) ⊎ (t.address ≡ a → ⊥) → accepted_at a (t ∷ before) ≤ 1
    at_address a (inl same) =
        let e = adds_one a t in let is = k.address_is in
        let c = k.clear a (omega (arith, same, is)) in let s = accepted_cons a t before in omega (arith, e, c, s)
    at_address a (inr other) =
        let e = adds_elsewhere a t other in let c = k.once a in let s = accepted_cons a t before in omega (arith, e, c, s)

-- what is kept says the same of a try that heard one more answer
heard : (n : ℕ) (s : SendingState) (t : Try) (before : List Try) (a : Answer) → Keeps n s t before → Keeps n s (hears t a) before
heard n s t before a k = record {
  addresses_are = k.addresses_are;
  there = k.there;
  address_is = k.address_is;
  proof_is = k.proof_is;
  few = k.few;
  those = k.those;
  clear = k.clear;
  once = k.once;
}

-- behind an answer, by what it told
module _ (n : ℕ) (run : Run) (t : Try) (k : Keeps n run.state t run.before) (open_is : run.end ≡ None) where
  going : (s : SendingState) (now : Try) → EndIs run.end s now
  going s now = subst (λ (e : Option LetterEnd). EndIs e s now) (sym open_is) tt

  at_end : (b : Bool) → eqb run.state.address 0 ≡ b → may_be_accepted t ≡ false
      → EndIs (Some (cond b end.NotWritten end.MaybeWritten)) run.state t
  at_end true e none = (eqb-true run.state.address 0 e, none)
  at_end false e none = tt

  on_again : may_be_accepted t ≡ false → Good n (follows_turn run t (again_at_address run.state))
  unfolding again_at_address
  on_again none = at_further (eqb run.state.further 0) refl
    where
      at_further : (b : Bool) → eqb run.state.further 0 ≡ b
          → Good n (follows_turn run t
          (cond b (turn (Stop (end_of run.state)) run.state) (turn NewTry (new_try run.state run.state.address))))
      at_further true e = record { keeps = k; end_is = at_end (eqb run.state.address 0) refl none }
      at_further false e = record {
        keeps = same_address n run.state t run.before k none (eqb-false run.state.further 0 e);
        end_is = going (new_try run.state run.state.address) (fresh run.state.address);
      }

  on_elsewhere : Good n (follows_turn run t (elsewhere run.state))
  unfolding elsewhere
  on_elsewhere = at_further (eqb run.state.further 0) (eqb (run.state.address + 1) run.state.addresses) refl refl
    where
      next : ℕ
      next = run.state.address + 1

      at_further : (b c : Bool) → eqb run.state.further 0 ≡ b → eqb (run.state.address + 1) run.state.addresses ≡ c
          → Good n (follows_turn run t
          (cond (b || c) (turn (Stop end.MaybeWritten) run.state) (turn NextAddress (new_try run.state (run.state.address + 1)))))
      at_further true c e f = record { keeps = k; end_is = tt }
      at_further false true e f = record { keeps = k; end_is = tt }
      at_further false false e f = record {
        keeps = next_address n run.state t run.before k (eqb-false run.state.further 0 e)
            (eqb-false (run.state.address + 1) run.state.addresses f);
        end_is = going (new_try run.state (run.state.address + 1)) (fresh (run.state.address + 1));
      }

  on_told : (told : Fate) → (told ≡ NotWritten → may_be_accepted t ≡ false) → (told ≡ Written → IsAccepted t)
      → Good n (follows_turn run t (turn_by run.state told))
  unfolding turn_by
  on_told GoesOn none written = record { keeps = k; end_is = going run.state t }
  on_told Again none written = record { keeps = k; end_is = going run.state t }
  on_told NotWritten none written = on_again (none refl)
  on_told Unknown none written = on_elsewhere
  on_told Written none written = record { keeps = k; end_is = written refl }

-- a try's answers as they tell of it
none_by : (out : Bool) (t : Try) (a : Answer) → t.proof_out ≡ out → fate_by out a ≡ NotWritten
    → may_be_accepted (hears t a) ≡ false
none_by out t a is told =
    ap (λ b. b && not (list_any excludes (a ∷ t.answers))) is ∙ excluded out a t.answers (told_not out a told)

accepted_by : (out : Bool) (t : Try) (a : Answer) → t.proof_out ≡ out → fate_by out a ≡ Written
    → IsAccepted (hears t a)
accepted_by out t a is told =
    let w = told_written out a told in
    record { proof_out = is ∙ w.0; earlier = t.answers; accepted = ap (λ x. x ∷ t.answers) w.1 }

-- ---- one event, and a run

proof_kept : (n : ℕ) (s : SendingState) (t : Try) (before : List Try) → Keeps n s t before
    → Keeps n (after_proof s) (record t { proof_out = true }) before
proof_kept n s t before k = record {
  addresses_are = k.addresses_are;
  there = k.there;
  address_is = k.address_is;
  proof_is = refl;
  few = k.few;
  those = k.those;
  clear = k.clear;
  once = k.once;
}

good_next : (n : ℕ) (run : Run) (event : TryEvent) → run.end ≡ None → Good n run → Good n (goes_on run event)
good_next n run ProofGoes open_is g = record {
  keeps = proof_kept n run.state run.now run.before g.keeps;
  end_is = subst (λ (e : Option LetterEnd). EndIs e (after_proof run.state) (record run.now { proof_out = true })) (sym open_is) tt;
}
good_next n run (Hears a) open_is g =
    let out : Bool = run.state.proof_out in
    on_told n run (hears run.now a) (heard n run.state run.now run.before a g.keeps) open_is (fate_by out a)
    (λ told. none_by out run.now a g.keeps.proof_is told)
    (λ told. accepted_by out run.now a g.keeps.proof_is told)

good_after : (n : ℕ) (run : Run) (event : TryEvent) → Good n run → Good n (after_event run event)
unfolding after_event
good_after n run event g = at_end run.end refl
  where
    at_end : (e : Option LetterEnd) → run.end ≡ e → Good n (if_open e (goes_on run event) run)
    at_end None is = good_next n run event is g
    at_end (Some other) is = g

good_from : (n : ℕ) (run : Run) (events : List TryEvent) → Good n run → Good n (run_from run events)
unfolding run_from
good_from n run [] g = g
good_from n run (event ∷ events) g = good_from n (after_event run event) events (good_after n run event g)

good_start : (n : ℕ) → 1 ≤ n → Good n (opened n)
good_start n h = record {
  keeps = record {
    addresses_are = refl;
    there = omega (arith, h);
    address_is = refl;
    proof_is = refl;
    few = omega arith;
    those = All-nil (λ t. t.address < n);
    clear = λ a le. refl;
    once = λ a. omega arith;
  };
  end_is = tt;
}

-- ---- the laws

good_run : (n : ℕ) (events : List TryEvent) → 1 ≤ n → Good n (run_of n events)
good_run n events h = good_from n (opened n) events (good_start n h)

once_of : (n a : ℕ) (run : Run) → Good n run → accepted_at a (tries run) ≤ 1
once_of n a run g = at_address (cases_eq run.now.address a)
  where
    at_address : (run.now.address ≡ a) ⊎ (run.now.address ≡ a → ⊥) → accepted_at a (run.now ∷ run.before) ≤ 1
    at_address (inl same) =
        let e = adds_one a run.now in
        let is = g.keeps.address_is in
        let c = g.keeps.clear a (omega (arith, same, is)) in
        let s = accepted_cons a run.now run.before in omega (arith, e, c, s)
    at_address (inr other) =
        let e = adds_elsewhere a run.now other in
        let c = g.keeps.once a in
        let s = accepted_cons a run.now run.before in omega (arith, e, c, s)

pub written_once : WrittenOnce
written_once n events a h = once_of n a (run_of n events) (good_run n events h)

none_of : (n a : ℕ) (run : Run) → Good n run → run.end ≡ Some end.NotWritten → accepted_at a (tries run) ≡ 0
none_of n a run g is =
    let ended = subst (λ (e : Option LetterEnd). EndIs e run.state run.now) is g.end_is in
    let e = adds_none a run.now ended.1 in
    let first = ended.0 in
    let c = g.keeps.clear a (omega (arith, first)) in
    let s = accepted_cons a run.now run.before in omega (arith, e, c, s)

pub not_written_is_true : NotWrittenIsTrue
not_written_is_true n events a h is = none_of n a (run_of n events) (good_run n events h) is

pub written_is_true : WrittenIsTrue
written_is_true n events h is =
    let run : Run = run_of n events in
    subst (λ (e : Option LetterEnd). EndIs e run.state run.now) is (good_run n events h).end_is

-- no try can have written it
neither : (out : Bool) (first : Bool) → (out || not first) ≡ false → (out ≡ false) × (first ≡ true)
neither true first is = cc
neither false true is = (refl, refl)
neither false false is = cc

given_up_of : (n a : ℕ) (run : Run) → Good n run → may_be_written run.state ≡ false → accepted_at a (tries run) ≡ 0
given_up_of n a run g is =
    let no = neither run.state.proof_out (eqb run.state.address 0) is in
    let none = ap (λ b. b && not (list_any excludes run.now.answers)) (g.keeps.proof_is ∙ no.0) in
    let e = adds_none a run.now none in
    let first = eqb-true run.state.address 0 no.1 in
    let c = g.keeps.clear a (omega (arith, first)) in
    let s = accepted_cons a run.now run.before in omega (arith, e, c, s)

pub given_up_is_nowhere : GivenUpIsNowhere
given_up_is_nowhere n events a h is = given_up_of n a (run_of n events) (good_run n events h) is

few_of : (n : ℕ) (run : Run) → Good n run → AreFew n run
few_of n run g = record {
  few = (let f = g.keeps.few in omega (arith, f));
  there = All-cons (λ t. t.address < n) run.now run.before
      (let e = g.keeps.address_is in let h = g.keeps.there in omega (arith, e, h)) g.keeps.those;
}

pub tries_are_few : TriesAreFew
tries_are_few n events h = few_of n (run_of n events) (good_run n events h)
