-- What words ask for.
use Rattle.std.proofs.Common.{◌≡◌, ◌∙◌, ◌⊎◌, ℕ, Bool, Bor, true, false, not, List, [], ◌∷◌, Contains, Some, None, inl, inr, lit<, refl, sym, subst}
use Rattle.std.proofs.lemmas.List.Elements.{All-contains, All-from_recursion}
use Rattle.clap.specs.Words.{Text}
use Rattle.desk_words.specs.CommandLine.{AskSome, IsAsked}
use Rattle.desk_words.specs.declared.task.DeskTask.{DeskTask}
use Rattle.desk_words.specs.declared.task.DeskTask.TheVariants as task
use Rattle.desk_run.specs.Quiet.{AskServers, is_quiet}
use Rattle.desk_run.specs.Statuses.{EndsAsAsked, IsInUse, MayEnd}
use Rattle.express_words.specs.Seen.{Seen}
use Rattle.node_journal.specs.Disk.{DiskSeen}
use Rattle.desk_run.specs.Scenes.{Scene}
use Rattle.desk_run.specs.Words.{DoneAsAsked, DoneBy}
use Rattle.desk_run.proofs.StatusLaws.{may_undone}

pub asked_none : (words : List Text) → IsAsked words None → AskSome words → ⊥
asked_none words none (t, inl help) = none.0 help.0
asked_none words none (t, inr asks) = none.1 t asks

pub asked_some : (words : List Text) (t : DeskTask) → IsAsked words (Some t) → (AskSome words → ⊥) → ⊥
asked_some words t is none = none (t, is)

if_false : (b : Bool) → (b ≡ false → ⊥) → b ≡ true
if_false true other = refl
if_false false other = absurd (other refl)

pub quiet : (words : List Text) (t : DeskTask) → IsAsked words (Some t) → (AskServers words → ⊥) → is_quiet t ≡ true
quiet words t is none = if_false (is_quiet t) (λ loud. none (t, is, loud))

pub ends : (words : List Text) (t : DeskTask) (n : ℕ) → IsAsked words (Some t)
    → MayEnd t n ⊎ IsInUse t n → EndsAsAsked words n
ends words t n is among = record { task = t; asked = is; among = among }

pub ends_undone : (words : List Text) (n : ℕ) → AskSome words → n ≡ 1 → EndsAsAsked words n
ends_undone words n (t, is) undone = record { task = t; asked = is; among = inl (may_undone t n undone) }

pub done : {D : Type 0} (shows : D → DiskSeen) (counts : D → Seen) (words : List Text) (t : DeskTask) (n : ℕ) (old new : Scene D)
    → IsAsked words (Some t) → DoneBy shows counts t n old new → DoneAsAsked shows counts words n old new
done shows counts words t n old new is does = record { task = t; asked = is; done = does }

-- a word that isn't done says nothing of it
pub done_undone : {D : Type 0} (shows : D → DiskSeen) (counts : D → Seen) (words : List Text) (n : ℕ) (old new : Scene D)
    → AskSome words → n ≡ 1 → DoneAsAsked shows counts words n old new
done_undone shows counts words n old new (t, is) undone = record {
  task = t;
  asked = is;
  done = record { done = λ zero. cc; met = λ five. cc };
}

-- a task for which the servers are asked
pub loud : {P : Type 0} (t known : DeskTask) → t ≡ known → is_quiet known ≡ false → is_quiet t ≡ true → P
loud t known is other quiet_one =
    let wrong = sym other ∙ subst (λ (x : DeskTask). is_quiet x ≡ true) is quiet_one in
    absurd (cc wrong)

from_not : (b : Bool) → not b ≡ true → b ≡ false
from_not true h = absurd (cc h)
from_not false h = refl

-- one that only closes boxes
pub closes : (t : DeskTask) (name : Bor (List ℕ)) (now : Bool) → t ≡ task.Retire name now → is_quiet t ≡ true → now ≡ false
closes t name now is quiet_one = from_not now (subst (λ (x : DeskTask). is_quiet x ≡ true) is quiet_one)

-- ---- wrong words

abbrev pub Other : ℕ → ℕ → Type 0
Other m n = n ≡ m → ⊥

pub not_refused : (m n : ℕ) → Other m 2 → Other m 1 → Contains (2 ∷ 1 ∷ []) n → n ≡ m → ⊥
not_refused m n two one among =
    All-contains (Other m) (2 ∷ 1 ∷ []) n (All-from_recursion (Other m) (2 ∷ 1 ∷ []) (two, (one, tt))) among

pub refused_one : (n : ℕ) → n ≡ 1 → Contains (2 ∷ 1 ∷ []) n
refused_one n is = subst (Contains (2 ∷ 1 ∷ [])) (sym is) (1, lit< tt, refl)
