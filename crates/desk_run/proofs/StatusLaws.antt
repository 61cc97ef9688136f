-- The statuses of words.
use Rattle.std.proofs.Common.{◌≡◌, ◌≢◌, ◌⊎◌, inl, inr, ℕ, zero, suc, arith, Result, Bool, true, false, if◌then◌else◌, List, [], ◌∷◌, All, Contains, Option, Ok, Err, IfErr, lit<, refl, sym, subst}
use Rattle.std.proofs.lemmas.List.Elements.{All-contains, All-from_recursion}
use denote.Bor.{Bor}
use Rattle.desk_tries.specs.declared.sending.LetterEnd as letters
use Rattle.desk_tries.specs.declared.sending.LetterEnd.TheVariants as letter
use Rattle.desk_texts.specs.declared.day.Day.{Day}
use Rattle.desk_words.specs.declared.task.DeskTask.{DeskTask}
use Rattle.desk_words.specs.declared.task.DeskTask.TheVariants as task
use Rattle.desk_run.specs.declared.ending.WordEnd.{WordEnd}
use Rattle.desk_run.specs.declared.ending.WordEnd.TheVariants as end
use Rattle.desk_run.specs.declared.trouble.Trouble.{Trouble}
use Rattle.desk_run.specs.declared.trouble.Trouble.TheVariants as trouble
use Rattle.desk_run.specs.Ends.{IsOfName, IsOfPaper, IsUndone, Unfailed, status_by, status_of}
use Rattle.desk_run.specs.LetterEnds.{resume_end, word_end}
use Rattle.desk_run.specs.Statuses.{IsInUse, MayEnd, statuses_of}

has_done : (t : DeskTask) → Contains (statuses_of t) 0
unfolding statuses_of
has_done (task.Open pair) = (0, lit< tt, refl)
has_done (task.Box name count until) = (0, lit< tt, refl)
has_done (task.Card name) = (0, lit< tt, refl)
has_done (task.Letters out) = (0, lit< tt, refl)
has_done (task.Send card file) = (0, lit< tt, refl)
has_done task.Resume = (0, lit< tt, refl)
has_done (task.Retire name now) = (0, lit< tt, refl)
has_done task.Forget = (0, lit< tt, refl)
has_done task.Status = (0, lit< tt, refl)
has_done task.Help = (0, lit< tt, refl)
has_done (task.Discard number) = (0, lit< tt, refl)
has_done task.Adopt = (0, lit< tt, refl)

has_undone : (t : DeskTask) → Contains (statuses_of t) 1
unfolding statuses_of
has_undone (task.Open pair) = (1, lit< tt, refl)
has_undone (task.Box name count until) = (1, lit< tt, refl)
has_undone (task.Card name) = (1, lit< tt, refl)
has_undone (task.Letters out) = (1, lit< tt, refl)
has_undone (task.Send card file) = (1, lit< tt, refl)
has_undone task.Resume = (1, lit< tt, refl)
has_undone (task.Retire name now) = (1, lit< tt, refl)
has_undone task.Forget = (1, lit< tt, refl)
has_undone task.Status = (1, lit< tt, refl)
has_undone task.Help = (1, lit< tt, refl)
has_undone (task.Discard number) = (1, lit< tt, refl)
has_undone task.Adopt = (1, lit< tt, refl)

may_zero : (t : DeskTask) → MayEnd t 0
unfolding MayEnd
may_zero t = has_done t

may_one : (t : DeskTask) → MayEnd t 1
unfolding MayEnd
may_one t = has_undone t

pub may_undone : (t : DeskTask) (n : ℕ) → n ≡ 1 → MayEnd t n
may_undone t n is = subst (λ (x : ℕ). MayEnd t x) (sym is) (may_one t)

-- a task that is known ends as it may
pub ends_as : (t known : DeskTask) (n : ℕ) → t ≡ known → MayEnd known n → MayEnd t n
ends_as t known n is may = subst (λ (x : DeskTask). MayEnd x n) (sym is) may

-- ---- words at which no letters meet

by_end : (t : DeskTask) (r : Result WordEnd Trouble) → ((e : Trouble) → r ≡ Err e → MayEnd t (status_by e)) → r ≢ Ok end.Met
    → MayEnd t (status_of r)
by_end t (Ok end.Done) troubles not_met = may_zero t
by_end t (Ok end.NotWritten) troubles not_met = may_one t
by_end t (Ok end.Met) troubles not_met = absurd (not_met refl)
by_end t (Err e) troubles not_met = troubles e refl

err_in : (P : Trouble → Type 0) (r : Result WordEnd Trouble) (e : Trouble) → IfErr r P → r ≡ Err e → P e
err_in P r e all is = subst (λ (x : Result WordEnd Trouble). IfErr x P) is all

pub quiet_ends : (t : DeskTask) (r : Result WordEnd Trouble) → IfErr r IsUndone → r ≢ Ok end.Met → MayEnd t (status_of r)
quiet_ends t r undone not_met = by_end t r (λ e is. may_undone t (status_by e) (err_in IsUndone r e undone is)) not_met

open_three : (pair : Bor (List ℕ)) → MayEnd (task.Open pair) 3
unfolding statuses_of MayEnd
open_three pair = (2, lit< tt, refl)

send_three : (card : Bor (List ℕ)) (file : Option (Bor (List ℕ))) → MayEnd (task.Send card file) 3
unfolding statuses_of MayEnd
send_three card file = (2, lit< tt, refl)

box_two : (name : Bor (List ℕ)) (count : ℕ) (until : Option Day) → MayEnd (task.Box name count until) 2
unfolding statuses_of MayEnd
box_two name count until = (2, lit< tt, refl)

discard_two : (number : Option ℕ) → MayEnd (task.Discard number) 2
unfolding statuses_of MayEnd
discard_two number = (2, lit< tt, refl)

one_or : (t : DeskTask) (n other : ℕ) → MayEnd t other → (n ≡ 1) ⊎ (n ≡ other) → MayEnd t n
one_or t n other may (inl is) = may_undone t n is
one_or t n other may (inr is) = subst (λ (x : ℕ). MayEnd t x) (sym is) may

pub open_ends : (pair : Bor (List ℕ)) (r : Result WordEnd Trouble) → IfErr r IsOfPaper → r ≢ Ok end.Met
    → MayEnd (task.Open pair) (status_of r)
open_ends pair r trouble not_met = by_end (task.Open pair) r
    (λ e is. one_or (task.Open pair) (status_by e) 3 (open_three pair) (err_in IsOfPaper r e trouble is)) not_met

pub send_ends : (card : Bor (List ℕ)) (file : Option (Bor (List ℕ))) (r : Result WordEnd Trouble) → IfErr r IsOfPaper
    → r ≢ Ok end.Met → MayEnd (task.Send card file) (status_of r)
send_ends card file r trouble not_met = by_end (task.Send card file) r
    (λ e is. one_or (task.Send card file) (status_by e) 3 (send_three card file) (err_in IsOfPaper r e trouble is)) not_met

pub box_ends : (name : Bor (List ℕ)) (count : ℕ) (until : Option Day) (r : Result WordEnd Trouble) → IfErr r IsOfName
    → r ≢ Ok end.Met → MayEnd (task.Box name count until) (status_of r)
box_ends name count until r trouble not_met = by_end (task.Box name count until) r
    (λ e is. one_or (task.Box name count until) (status_by e) 2 (box_two name count until) (err_in IsOfName r e trouble is)) not_met

pub discard_ends : (number : Option ℕ) (r : Result WordEnd Trouble) → IfErr r IsOfName → r ≢ Ok end.Met
    → MayEnd (task.Discard number) (status_of r)
discard_ends number r trouble not_met = by_end (task.Discard number) r
    (λ e is. one_or (task.Discard number) (status_by e) 2 (discard_two number) (err_in IsOfName r e trouble is)) not_met

-- ---- words that show letters

any_end : (t : DeskTask) (r : Result WordEnd Trouble) → MayEnd t 5 → IfErr r IsUndone → MayEnd t (status_of r)
any_end t (Ok end.Done) five undone = may_zero t
any_end t (Ok end.NotWritten) five undone = may_one t
any_end t (Ok end.Met) five undone = five
any_end t (Err e) five undone = may_undone t (status_by e) undone

letters_five : (out : Option (Bor (List ℕ))) → MayEnd (task.Letters out) 5
unfolding statuses_of MayEnd
letters_five out = (2, lit< tt, refl)

retire_five : (name : Bor (List ℕ)) (now : Bool) → MayEnd (task.Retire name now) 5
unfolding statuses_of MayEnd
retire_five name now = (2, lit< tt, refl)

forget_five : MayEnd task.Forget 5
unfolding statuses_of MayEnd
forget_five = (2, lit< tt, refl)

pub letters_ends : (out : Option (Bor (List ℕ))) (r : Result WordEnd Trouble) → IfErr r IsUndone
    → MayEnd (task.Letters out) (status_of r)
letters_ends out r undone = any_end (task.Letters out) r (letters_five out) undone

pub retire_ends : (name : Bor (List ℕ)) (now : Bool) (r : Result WordEnd Trouble) → IfErr r IsUndone
    → MayEnd (task.Retire name now) (status_of r)
retire_ends name now r undone = any_end (task.Retire name now) r (retire_five name now) undone

pub forget_ends : (r : Result WordEnd Trouble) → IfErr r IsUndone → MayEnd task.Forget (status_of r)
forget_ends r undone = any_end task.Forget r forget_five undone

-- the end is one of letters that met only where they did
pub met_of : (met : Bool) (e : WordEnd) (r : Result WordEnd Trouble) → e ≡ (if met then end.Met else end.Done) → r ≡ Ok e
    → r ≡ Ok end.Met → met ≡ true
met_of true e r is ok so = refl
met_of false e r is ok so = cc

-- ---- a desk in use

abbrev pub NotFour : ℕ → Type 0
NotFour n = n ≡ 4 → ⊥

none_four : (t : DeskTask) → All NotFour (statuses_of t)
unfolding statuses_of
none_four (task.Open pair) = All-from_recursion NotFour (0 ∷ 1 ∷ 3 ∷ []) ((λ e. cc), ((λ e. cc), ((λ e. cc), tt)))
none_four (task.Box name count until) = All-from_recursion NotFour (0 ∷ 1 ∷ 2 ∷ []) ((λ e. cc), ((λ e. cc), ((λ e. cc), tt)))
none_four (task.Card name) = All-from_recursion NotFour (0 ∷ 1 ∷ []) ((λ e. cc), ((λ e. cc), tt))
none_four (task.Letters out) = All-from_recursion NotFour (0 ∷ 1 ∷ 5 ∷ []) ((λ e. cc), ((λ e. cc), ((λ e. cc), tt)))
none_four (task.Send card file) = All-from_recursion NotFour (0 ∷ 1 ∷ 3 ∷ []) ((λ e. cc), ((λ e. cc), ((λ e. cc), tt)))
none_four task.Resume = All-from_recursion NotFour (0 ∷ 1 ∷ []) ((λ e. cc), ((λ e. cc), tt))
none_four (task.Retire name now) = All-from_recursion NotFour (0 ∷ 1 ∷ 5 ∷ []) ((λ e. cc), ((λ e. cc), ((λ e. cc), tt)))
none_four task.Forget = All-from_recursion NotFour (0 ∷ 1 ∷ 5 ∷ []) ((λ e. cc), ((λ e. cc), ((λ e. cc), tt)))
none_four task.Status = All-from_recursion NotFour (0 ∷ 1 ∷ []) ((λ e. cc), ((λ e. cc), tt))
none_four task.Help = All-from_recursion NotFour (0 ∷ 1 ∷ []) ((λ e. cc), ((λ e. cc), tt))
none_four (task.Discard number) = All-from_recursion NotFour (0 ∷ 1 ∷ 2 ∷ []) ((λ e. cc), ((λ e. cc), ((λ e. cc), tt)))
none_four task.Adopt = All-from_recursion NotFour (0 ∷ 1 ∷ []) ((λ e. cc), ((λ e. cc), tt))

pub not_four : (t : DeskTask) (n : ℕ) → MayEnd t n → n ≡ 4 → ⊥
unfolding MayEnd
not_four t n among = All-contains NotFour (statuses_of t) n (none_four t) among

-- each word but the help asks for the desk
pub in_use_of : (t : DeskTask) (n : ℕ) → (t ≡ task.Help → ⊥) → MayEnd t n ⊎ (n ≡ 4) → MayEnd t n ⊎ IsInUse t n
in_use_of t n other (inl may) = inl may
in_use_of t n other (inr four) = inr (four, other)

-- ---- what is told of an end

one_or_not : (n : ℕ) → (n ≡ 1) ⊎ (n ≢ 1)
one_or_not zero = inr (λ e. cc)
one_or_not (suc zero) = inl refl
one_or_not (suc (suc n)) = inr (λ e. absurd (omega (arith, e)))

-- what can't be told is told as a word that isn't done
pub only_one : (n : ℕ) → (n ≢ 1 → n ≡ 1) → n ≡ 1
only_one n told = elim (one_or_not n) [
  | inl one ↦ one
  | inr other ↦ told other
]

in_use_so : (t : DeskTask) (n s : ℕ) → n ≡ s → MayEnd t s ⊎ IsInUse t s
    → MayEnd t n ⊎ IsInUse t n
in_use_so t n s same may = subst (λ (x : ℕ). MayEnd t x ⊎ IsInUse t x) (sym same) may

pub ends_so : (t : DeskTask) (n s : ℕ) → MayEnd t s ⊎ IsInUse t s → (n ≢ 1 → n ≡ s)
    → MayEnd t n ⊎ IsInUse t n
ends_so t n s may told = elim (one_or_not n) [
  | inl undone ↦ inl (may_undone t n undone)
  | inr other ↦ in_use_so t n s (told other) may
]

no_five : (t : Trouble) → status_by t ≡ 5 → ⊥
no_five (trouble.Name fault) is = cc
no_five trouble.InUse is = cc
no_five _ is = cc

pub only_met : (r : Result WordEnd Trouble) → status_of r ≡ 5 → r ≡ Ok end.Met
only_met (Ok end.Done) is = cc
only_met (Ok end.NotWritten) is = cc
only_met (Ok end.Met) is = refl
only_met (Err t) is = absurd (no_five t is)

pub word_not_met : (e : letters.LetterEnd) → word_end e ≡ end.Met → ⊥
word_not_met letter.Written is = cc
word_not_met letter.NotWritten is = cc
word_not_met letter.MaybeWritten is = cc

pub resume_not_met : (all_written : Bool) → resume_end all_written ≡ end.Met → ⊥
resume_not_met true is = cc
resume_not_met false is = cc

-- ---- faults

-- behind a word that isn't told as undone there was none
pub unfailed_told : (r : Result WordEnd Trouble) (old new : ℕ) → status_of r ≢ 1 → Unfailed old new r → new ≡ old
unfailed_told (Ok end.Done) old new other same = same
unfailed_told (Ok end.NotWritten) old new other same = same
unfailed_told (Ok end.Met) old new other same = same
unfailed_told (Err t) old new other same = same other
