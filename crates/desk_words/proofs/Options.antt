-- Values with an option that name no task.
use Rattle.std.proofs.Common.{◌≡◌, ◌∙◌, refl, ℕ, true, false, Option, Some, None, codes, sym, ap}
use Rattle.clap.specs.Words.{Text}
use Rattle.desk_texts.specs.Days.{SpellsDay}
use Rattle.desk_texts.specs.declared.day.Day.{Day}
use Rattle.desk_words.specs.CommandLine.{NamesBoxes, Said}
use Rattle.desk_words.specs.Tasks.{IsTaskOf}
use Rattle.desk_words.specs.declared.task.DeskTask.TheVariants as task
use Rattle.desk_words.proofs.Named.{some_is, word_is}

-- ---- a value that is there, where a task has none

out_none : {P : Type 0} (s t : Said) (x : Text) → s.out ≡ Some x → t.out ≡ None → s ≡ t → P
out_none s t x is none same = let wrong : Some x ≡ None = sym is ∙ ap (λ (u : Said). u.out) same ∙ none in absurd (cc wrong)

until_none : {P : Type 0} (s t : Said) (x : Text) → s.until ≡ Some x → t.until ≡ None → s ≡ t → P
until_none s t x is none same = let wrong : Some x ≡ None = sym is ∙ ap (λ (u : Said). u.until) same ∙ none in absurd (cc wrong)

now_none : {P : Type 0} (s t : Said) → s.at_once ≡ true → t.at_once ≡ false → s ≡ t → P
now_none s t is none same = let wrong : true ≡ false = sym is ∙ ap (λ (u : Said). u.at_once) same ∙ none in absurd (cc wrong)

-- ---- --out

abbrev pub IsBareLetters : Said → Text → Type 0
IsBareLetters s word =
    (word ≡ codes "letters") × (s.first ≡ None) × (s.second ≡ None) × (s.until ≡ None) × (s.at_once ≡ false)

pub none_out : (s : Said) (word out : Text) → s.word ≡ Some word → s.out ≡ Some out → (IsBareLetters s word → ⊥) → IsTaskOf s None
none_out s word out w o other (task.Open pair) is = out_none _ _ out o refl is
none_out s word out w o other (task.Box name count until) is = out_none _ _ out o refl is.values
none_out s word out w o other (task.Card name) is = out_none _ _ out o refl is
none_out s word out w o other (task.Letters folder) is = other (
  word_is s word (task.Letters folder) w is,
  ap (λ (u : Said). u.first) is,
  ap (λ (u : Said). u.second) is,
  ap (λ (u : Said). u.until) is,
  ap (λ (u : Said). u.at_once) is,
)
none_out s word out w o other (task.Send card file) is = out_none _ _ out o refl is
none_out s word out w o other (task.Discard number) is = out_none _ _ out o refl is.values
none_out s word out w o other task.Resume is = out_none _ _ out o refl is
none_out s word out w o other task.Adopt is = out_none _ _ out o refl is
none_out s word out w o other (task.Retire name at_once) is = out_none _ _ out o refl is
none_out s word out w o other task.Forget is = out_none _ _ out o refl is
none_out s word out w o other task.Status is = out_none _ _ out o refl is
none_out s word out w o other task.Help is = out_none _ _ out o refl is

-- ---- --until

abbrev pub IsDatedBox : Said → (word until : Text) → Type 0
IsDatedBox s word until =
    (word ≡ codes "box") × (s.at_once ≡ false) × ((name : Text) × (s.first ≡ Some name)) × ((day : Day) × SpellsDay day until)

dated : {P : Type 0} (s : Said) (word text name : Text) (count : ℕ) (until : Option Day) → word ≡ codes "box" → s.until ≡ Some text
    → (IsDatedBox s word text → ⊥) → NamesBoxes s name count until → P
dated s word text name count (Some day) w u other is = absurd (other (
  w,
  ap (λ (v : Said). v.at_once) is.values,
  (name, ap (λ (v : Said). v.first) is.values),
  (day, record { day = is.dated; text_is = some_is _ _ (sym u ∙ ap (λ (v : Said). v.until) is.values) }),
))
dated s word text name count None w u other is = until_none _ _ text u refl is.values

pub none_until : (s : Said) (word text : Text) → s.word ≡ Some word → s.until ≡ Some text → (IsDatedBox s word text → ⊥) → IsTaskOf s None
none_until s word text w u other (task.Open pair) is = until_none _ _ text u refl is
none_until s word text w u other (task.Box name count until) is =
    dated s word text name.now count until (word_is s word (task.Box name count until) w is) u other is
none_until s word text w u other (task.Card name) is = until_none _ _ text u refl is
none_until s word text w u other (task.Letters folder) is = until_none _ _ text u refl is
none_until s word text w u other (task.Send card file) is = until_none _ _ text u refl is
none_until s word text w u other (task.Discard number) is = until_none _ _ text u refl is.values
none_until s word text w u other task.Resume is = until_none _ _ text u refl is
none_until s word text w u other task.Adopt is = until_none _ _ text u refl is
none_until s word text w u other (task.Retire name at_once) is = until_none _ _ text u refl is
none_until s word text w u other task.Forget is = until_none _ _ text u refl is
none_until s word text w u other task.Status is = until_none _ _ text u refl is
none_until s word text w u other task.Help is = until_none _ _ text u refl is

-- ---- --now

abbrev pub IsOneRetire : Said → Text → Type 0
IsOneRetire s word = (word ≡ codes "retire") × ((name : Text) × (s.first ≡ Some name)) × (s.second ≡ None)

pub none_now : (s : Said) (word : Text) → s.word ≡ Some word → s.at_once ≡ true → (IsOneRetire s word → ⊥) → IsTaskOf s None
none_now s word w n other (task.Open pair) is = now_none _ _ n refl is
none_now s word w n other (task.Box name count until) is = now_none _ _ n refl is.values
none_now s word w n other (task.Card name) is = now_none _ _ n refl is
none_now s word w n other (task.Letters folder) is = now_none _ _ n refl is
none_now s word w n other (task.Send card file) is = now_none _ _ n refl is
none_now s word w n other (task.Discard number) is = now_none _ _ n refl is.values
none_now s word w n other task.Resume is = now_none _ _ n refl is
none_now s word w n other task.Adopt is = now_none _ _ n refl is
none_now s word w n other (task.Retire name at_once) is = other (
  word_is s word (task.Retire name at_once) w is,
  (name.now, ap (λ (u : Said). u.first) is),
  ap (λ (u : Said). u.second) is,
)
none_now s word w n other task.Forget is = now_none _ _ n refl is
none_now s word w n other task.Status is = now_none _ _ n refl is
none_now s word w n other task.Help is = now_none _ _ n refl is
