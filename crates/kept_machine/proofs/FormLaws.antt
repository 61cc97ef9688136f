-- Records of a machine, one more of them, and what is none.
use Rattle.std.proofs.Common.{◌≡◌, inl, inr, ℕ, List, [], ◌∷◌, ◌++◌, drop, refl, sym, ◌∙◌, ap, subst}
use Rattle.kept_machine.specs.Machines.{Rules, RulesHold, All, Runs, IsForm, Gives, IsForeign}

-- ---- one record more

pub all_push : (Is : List ℕ → Type 0) (records : List (List ℕ)) (bytes : List ℕ) → All Is records → Is bytes → All Is (records ++ bytes ∷ [])
all_push Is [] bytes all one = (one, tt)
all_push Is (x ∷ records) bytes all one = (all.0, all_push Is records bytes all.1 one)

pub runs_push : {M : Type 0} (rules : Rules M) (before : M) (records : List (List ℕ)) (then : M) (bytes : List ℕ) (now : M)
    → Runs rules before records then → rules.steps bytes then now → Runs rules before (records ++ bytes ∷ []) now
runs_push rules before [] then bytes now runs step = (now, subst (λ m. rules.steps bytes m now) runs step, refl)
runs_push rules before (x ∷ records) then bytes now runs step = (runs.0, runs.1, runs_push rules runs.0 records then bytes now runs.2 step)

pub gives_opened : {M : Type 0} (rules : Rules M) (first : List ℕ) (machine : M) → RulesHold rules → rules.is_opening first → rules.opens first machine
    → Gives rules (first ∷ []) machine
gives_opened rules first machine hold is opens = record {
  form = record { first = first; is_opening = is; later = []; are_records = tt; split = refl };
  opened = machine;
  opens = opens;
  stepped = machine;
  runs = refl;
  same = hold.itself machine;
}

pub gives_same : {M : Type 0} (rules : Rules M) (records : List (List ℕ)) (before now : M) → RulesHold rules → rules.is_same before now
    → Gives rules records before → Gives rules records now
gives_same rules records before now hold same g = record {
  form = g.form;
  opened = g.opened;
  opens = g.opens;
  stepped = g.stepped;
  runs = g.runs;
  same = hold.then_same g.stepped before now g.same same;
}

pub gives_push : {M : Type 0} (rules : Rules M) (records : List (List ℕ)) (before : M) (bytes : List ℕ) (now : M) → RulesHold rules
    → Gives rules records before → rules.is_record bytes → rules.steps bytes before now → Gives rules (records ++ bytes ∷ []) now
gives_push rules records before bytes now hold g is step = record {
  form = record {
    first = g.form.first;
    is_opening = g.form.is_opening;
    later = g.form.later ++ bytes ∷ [];
    are_records = all_push rules.is_record g.form.later bytes g.form.are_records is;
    split = ap (λ (l : List (List ℕ)). l ++ bytes ∷ []) g.form.split;
  };
  opened = g.opened;
  opens = g.opens;
  stepped = now;
  runs = runs_push rules g.opened g.form.later g.stepped bytes now g.runs (hold.then_steps bytes g.stepped before now g.same step);
  same = hold.itself now;
}

-- ---- no record among those of a machine is foreign

all_at : (Is : List ℕ → Type 0) (before : List (List ℕ)) (bytes : List ℕ) (rest : List (List ℕ)) → All Is (before ++ bytes ∷ rest) → Is bytes
all_at Is [] bytes rest all = all.0
all_at Is (x ∷ before) bytes rest all = all_at Is before bytes rest all.1

pub never_foreign : {M : Type 0} (rules : Rules M) (n : ℕ) (records : List (List ℕ)) → IsForm rules records → IsForeign rules n records → ⊥
never_foreign rules n records form (inl lacks) = lacks.1 form.first form.later form.is_opening form.split
never_foreign rules n records form (inr f) =
    let both : form.first ∷ form.later ≡ (f.form.first ∷ f.form.later) ++ f.foreign ∷ f.rest =
    sym form.split ∙ f.split ∙ ap (λ (l : List (List ℕ)). l ++ f.foreign ∷ f.rest) f.form.split in
    let tails : form.later ≡ f.form.later ++ f.foreign ∷ f.rest = ap (λ (l : List (List ℕ)). drop 1 l) both in
    f.no_record (all_at rules.is_record f.form.later f.foreign f.rest (subst (All rules.is_record) tails form.are_records))
