-- What words ask for.
use Rattle.std.proofs.Common.{◌≡◌, ◌≢◌, ◌∙◌, ◌↔◌, inl, inr, refl, IsTrue, Bool, List, [], ◌∷◌, length, get_or, map, codes, Some, None, sym, ap, subst, arith, option_map}
use Rattle.clap.specs.Words.{Text, fault_of}
use Rattle.desk_words.specs.CommandLine.{AskSome, Asks, IsAsked, IsHelpWord, Names, Said, WantHelp, desk_app, is_set, said_in, value_of}
use Rattle.desk_words.specs.Places.{said_at}
use Rattle.desk_words.specs.declared.given.Given.{Given}
use Rattle.desk_words.specs.Tasks.{IsTaskOf}
use Rattle.desk_words.specs.declared.task.DeskTask.{DeskTask}

-- what words ask for that clap reads
pub asks : (words : List Text) (s : Said) (t : DeskTask) → s ≡ said_in words → fault_of desk_app words ≡ [] → Names s t → Asks words t
asks words s t is read named = record { read = read; named = subst (λ v. Names v t) is named }

pub asks_nothing : (words : List Text) (s : Said) → s ≡ said_in words → (WantHelp words → ⊥) → IsTaskOf s None → IsAsked words None
asks_nothing words s is no_help none = (no_help, λ t h. none t (subst (λ v. Names v t) (sym is) h.named))

pub refused : (words : List Text) → (WantHelp words → ⊥) → fault_of desk_app words ≢ [] → IsAsked words None
refused words no_help bad = (no_help, λ t h. bad h.read)

pub said_of : (g : Given) (words : List Text) → option_map (λ s. s.now) g.word ≡ value_of (codes "WORD") words
    → option_map (λ s. s.now) g.first ≡ value_of (codes "FIRST") words
    → option_map (λ s. s.now) g.second ≡ value_of (codes "SECOND") words
    → option_map (λ s. s.now) g.out ≡ value_of (codes "OUT") words
    → option_map (λ s. s.now) g.until ≡ value_of (codes "UNTIL") words
    → g.at_once ≡ is_set (codes "NOW") words → said_at g ≡ said_in words
said_of g words w f s o u n = rw (w, f, s, o, u, n) refl

-- words for which nothing is asked are no desk's, and those for which something is are
pub none_asked : (words : List Text) → IsAsked words None → AskSome words → ⊥
none_asked words none (t, inl help) = none.0 help.0
none_asked words none (t, inr asks) = none.1 t asks

pub some_asked : (words : List Text) (t : DeskTask) → IsAsked words (Some t) → (AskSome words → ⊥) → ⊥
some_asked words t is none = none (t, is)

-- ---- the help

one_text : {A : Type 0} (f : A → Text) (xs : List A) (w : A) → length xs ≡ 1 → w ≡ get_or xs 0 w
    → map f xs ≡ f w ∷ []
one_text f [] w one is = cc
one_text f (x ∷ []) w one is = ap (λ v. f v ∷ []) (sym is)
one_text f (x ∷ y ∷ xs) w one is = absurd (omega (arith, one))

alone : (t u : Text) → t ∷ [] ≡ u ∷ [] → t ≡ u
alone t u same = cc

pub one_word : {A : Type 0} (f : A → Text) (xs : List A) (w : A) (b : Bool) → length xs ≡ 1 → w ≡ get_or xs 0 w
    → (IsTrue b ↔ IsHelpWord (f w)) → (IsTrue b ↔ WantHelp (map f xs))
one_word f xs w b one is says =
    let texts = one_text f xs w one is in (
      λ yes. elim (says.0 yes) [
        | inl long ↦ inl (texts ∙ ap (λ t. t ∷ []) long)
        | inr short ↦ inr (texts ∙ ap (λ t. t ∷ []) short)
      ],
      λ wants. says.1 (elim wants [
        | inl long ↦ inl (alone _ _ (sym texts ∙ long))
        | inr short ↦ inr (alone _ _ (sym texts ∙ short))
      ]),
    )
