-- What values name no task.
use Rattle.std.proofs.Common.{◌≡◌, ◌≢◌, ◌∙◌, refl, true, false, Option, Some, None, codes, sym, ap}
use Rattle.std.specs.Prelude.{bytes_eq}
use Rattle.std.proofs.lemmas.Slice.Eq.{bytes_eq-Decides}
use Rattle.clap.specs.Words.{Text}
use Rattle.desk_words.specs.CommandLine.{Names, Said, said, said_boxes}
use Rattle.desk_words.specs.Tasks.{IsCountOf, IsNumberOf, IsTaskOf}
use Rattle.desk_words.specs.declared.task.DeskTask.{DeskTask}
use Rattle.desk_words.specs.declared.task.DeskTask.TheVariants as task

pub some_is : (x y : Text) → Some x ≡ Some y → x ≡ y
some_is x y h = cc

no_some : (x : Text) → Some x ≡ None → ⊥
no_some x h = cc

-- each task has its word
abbrev pub word_of : DeskTask → Text
word_of (task.Open pair) = codes "open"
word_of (task.Box name count until) = codes "box"
word_of (task.Card name) = codes "card"
word_of (task.Letters out) = codes "letters"
word_of (task.Send card file) = codes "send"
word_of (task.Discard number) = codes "discard"
word_of task.Resume = codes "resume"
word_of task.Adopt = codes "adopt"
word_of (task.Retire name at_once) = codes "retire"
word_of task.Forget = codes "forget"
word_of task.Status = codes "status"
word_of task.Help = codes "help"

says : (s : Said) (t : DeskTask) → Names s t → s.word ≡ Some (word_of t)
says s (task.Open pair) is = ap (λ (u : Said). u.word) is
says s (task.Box name count until) is = ap (λ (u : Said). u.word) is.values
says s (task.Card name) is = ap (λ (u : Said). u.word) is
says s (task.Letters out) is = ap (λ (u : Said). u.word) is
says s (task.Send card file) is = ap (λ (u : Said). u.word) is
says s (task.Discard number) is = ap (λ (u : Said). u.word) is.values
says s task.Resume is = ap (λ (u : Said). u.word) is
says s task.Adopt is = ap (λ (u : Said). u.word) is
says s (task.Retire name at_once) is = ap (λ (u : Said). u.word) is
says s task.Forget is = ap (λ (u : Said). u.word) is
says s task.Status is = ap (λ (u : Said). u.word) is
says s task.Help is = ap (λ (u : Said). u.word) is

pub word_is : (s : Said) (word : Text) (t : DeskTask) → s.word ≡ Some word → Names s t → word ≡ word_of t
word_is s word t is named = some_is _ _ (sym is ∙ says s t named)

-- values of which the first is there where the other's isn't, or the other way round
pub no_first : (s t : Said) (x : Text) → s.first ≡ Some x → t.first ≡ None → s ≡ t → ⊥
no_first s t x is none same = no_some x (sym is ∙ ap (λ (u : Said). u.first) same ∙ none)

pub no_second : (s t : Said) (x : Text) → s.second ≡ Some x → t.second ≡ None → s ≡ t → ⊥
no_second s t x is none same = no_some x (sym is ∙ ap (λ (u : Said). u.second) same ∙ none)

pub none_bare : (word : Text) → word ≢ codes "letters" → word ≢ codes "discard" → word ≢ codes "resume" → word ≢ codes "adopt" → word ≢ codes "forget"
    → word ≢ codes "status" → word ≢ codes "help" → IsTaskOf (said word None None) None
none_bare word l d r a f s h (task.Open pair) is = no_first _ _ pair.now refl refl (sym is)
none_bare word l d r a f s h (task.Box name count until) is = no_first _ _ name.now refl refl (sym is.values)
none_bare word l d r a f s h (task.Card name) is = no_first _ _ name.now refl refl (sym is)
none_bare word l d r a f s h (task.Letters out) is = l (word_is _ word (task.Letters out) refl is)
none_bare word l d r a f s h (task.Send card file) is = no_first _ _ card.now refl refl (sym is)
none_bare word l d r a f s h (task.Discard number) is = d (word_is _ word (task.Discard number) refl is)
none_bare word l d r a f s h task.Resume is = r (word_is _ word task.Resume refl is)
none_bare word l d r a f s h task.Adopt is = a (word_is _ word task.Adopt refl is)
none_bare word l d r a f s h (task.Retire name at_once) is = no_first _ _ name.now refl refl (sym is)
none_bare word l d r a f s h task.Forget is = f (word_is _ word task.Forget refl is)
none_bare word l d r a f s h task.Status is = s (word_is _ word task.Status refl is)
none_bare word l d r a f s h task.Help is = h (word_is _ word task.Help refl is)

pub none_of_one : (word value : Text) → word ≢ codes "box" → word ≢ codes "discard" → word ≢ codes "open" → word ≢ codes "card" → word ≢ codes "send"
    → word ≢ codes "retire" → IsTaskOf (said word (Some value) None) None
none_of_one word value b d o c s r (task.Open pair) is = o (word_is _ word (task.Open pair) refl is)
none_of_one word value b d o c s r (task.Box name count until) is = b (word_is _ word (task.Box name count until) refl is)
none_of_one word value b d o c s r (task.Card name) is = c (word_is _ word (task.Card name) refl is)
none_of_one word value b d o c s r (task.Letters out) is = no_first _ _ value refl refl is
none_of_one word value b d o c s r (task.Send card file) is = s (word_is _ word (task.Send card file) refl is)
none_of_one word value b d o c s r (task.Discard number) is = d (word_is _ word (task.Discard number) refl is)
none_of_one word value b d o c s r task.Resume is = no_first _ _ value refl refl is
none_of_one word value b d o c s r task.Adopt is = no_first _ _ value refl refl is
none_of_one word value b d o c s r (task.Retire name at_once) is = r (word_is _ word (task.Retire name at_once) refl is)
none_of_one word value b d o c s r task.Forget is = no_first _ _ value refl refl is
none_of_one word value b d o c s r task.Status is = no_first _ _ value refl refl is
none_of_one word value b d o c s r task.Help is = no_first _ _ value refl refl is

pub none_of_two : (word first second : Text) → word ≢ codes "send" → word ≢ codes "box" → IsTaskOf (said word (Some first) (Some second)) None
none_of_two word first second s b (task.Open pair) is = no_second _ _ second refl refl is
none_of_two word first second s b (task.Box name count until) is = b (word_is _ word (task.Box name count until) refl is)
none_of_two word first second s b (task.Card name) is = no_second _ _ second refl refl is
none_of_two word first second s b (task.Letters out) is = no_first _ _ first refl refl is
none_of_two word first second s b (task.Send card file) is = s (word_is _ word (task.Send card file) refl is)
none_of_two word first second s b (task.Discard number) is = no_second _ _ second refl refl is.values
none_of_two word first second s b task.Resume is = no_first _ _ first refl refl is
none_of_two word first second s b task.Adopt is = no_first _ _ first refl refl is
none_of_two word first second s b (task.Retire name at_once) is = no_second _ _ second refl refl is
none_of_two word first second s b task.Forget is = no_first _ _ first refl refl is
none_of_two word first second s b task.Status is = no_first _ _ first refl refl is
none_of_two word first second s b task.Help is = no_first _ _ first refl refl is

pub none_second : (word second : Text) → IsTaskOf (said word None (Some second)) None
none_second word second (task.Open pair) is = no_second _ _ second refl refl is
none_second word second (task.Box name count until) is = no_first _ _ name.now refl refl (sym is.values)
none_second word second (task.Card name) is = no_second _ _ second refl refl is
none_second word second (task.Letters out) is = no_second _ _ second refl refl is
none_second word second (task.Send card file) is = no_first _ _ card.now refl refl (sym is)
none_second word second (task.Discard number) is = no_second _ _ second refl refl is.values
none_second word second task.Resume is = no_second _ _ second refl refl is
none_second word second task.Adopt is = no_second _ _ second refl refl is
none_second word second (task.Retire name at_once) is = no_second _ _ second refl refl is
none_second word second task.Forget is = no_second _ _ second refl refl is
none_second word second task.Status is = no_second _ _ second refl refl is
none_second word second task.Help is = no_second _ _ second refl refl is

-- ---- words with one task only

-- two words that differ
pub apart : {P : Type 0} (x y : Text) → bytes_eq x y ≡ false → x ≡ y → P
apart x y differ same = let equal : bytes_eq x y ≡ true = (bytes_eq-Decides x y).1 same in absurd (cc (equal, differ))

pub none_unnumbered : (value : Text) → IsNumberOf 8 value None → IsTaskOf (said (codes "discard") (Some value) None) None
none_unnumbered value none (task.Open pair) is = apart _ _ refl (word_is _ (codes "discard") (task.Open pair) refl is)
none_unnumbered value none (task.Box name count until) is = apart _ _ refl (word_is _ (codes "discard") (task.Box name count until) refl is)
none_unnumbered value none (task.Card name) is = apart _ _ refl (word_is _ (codes "discard") (task.Card name) refl is)
none_unnumbered value none (task.Letters out) is = apart _ _ refl (word_is _ (codes "discard") (task.Letters out) refl is)
none_unnumbered value none (task.Send card file) is = apart _ _ refl (word_is _ (codes "discard") (task.Send card file) refl is)
none_unnumbered value none (task.Discard (Some n)) is = none n is.numbered (some_is _ _ (ap (λ (u : Said). u.first) is.values))
none_unnumbered value none (task.Discard None) is = no_first _ _ value refl refl is.values
none_unnumbered value none task.Resume is = apart _ _ refl (word_is _ (codes "discard") task.Resume refl is)
none_unnumbered value none task.Adopt is = apart _ _ refl (word_is _ (codes "discard") task.Adopt refl is)
none_unnumbered value none (task.Retire name at_once) is = apart _ _ refl (word_is _ (codes "discard") (task.Retire name at_once) refl is)
none_unnumbered value none task.Forget is = apart _ _ refl (word_is _ (codes "discard") task.Forget refl is)
none_unnumbered value none task.Status is = apart _ _ refl (word_is _ (codes "discard") task.Status refl is)
none_unnumbered value none task.Help is = apart _ _ refl (word_is _ (codes "discard") task.Help refl is)

pub none_uncounted : (name digits until : Option Text) → IsCountOf digits None → IsTaskOf (said_boxes name digits until) None
none_uncounted name digits until none (task.Open pair) is = apart _ _ refl (word_is _ (codes "box") (task.Open pair) refl is)
none_uncounted name digits until none (task.Box other count day) is =
    none count is.counted
none_uncounted name digits until none (task.Card other) is = apart _ _ refl (word_is _ (codes "box") (task.Card other) refl is)
none_uncounted name digits until none (task.Letters out) is = apart _ _ refl (word_is _ (codes "box") (task.Letters out) refl is)
none_uncounted name digits until none (task.Send card file) is = apart _ _ refl (word_is _ (codes "box") (task.Send card file) refl is)
none_uncounted name digits until none (task.Discard number) is = apart _ _ refl (word_is _ (codes "box") (task.Discard number) refl is)
none_uncounted name digits until none task.Resume is = apart _ _ refl (word_is _ (codes "box") task.Resume refl is)
none_uncounted name digits until none task.Adopt is = apart _ _ refl (word_is _ (codes "box") task.Adopt refl is)
none_uncounted name digits until none (task.Retire other at_once) is = apart _ _ refl (word_is _ (codes "box") (task.Retire other at_once) refl is)
none_uncounted name digits until none task.Forget is = apart _ _ refl (word_is _ (codes "box") task.Forget refl is)
none_uncounted name digits until none task.Status is = apart _ _ refl (word_is _ (codes "box") task.Status refl is)
none_uncounted name digits until none task.Help is = apart _ _ refl (word_is _ (codes "box") task.Help refl is)
