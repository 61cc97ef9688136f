-- What words ask for.
use Rattle.std.proofs.Common.{◌≡◌, ◌≢◌, ◌∙◌, ◌↔◌, inl, inr, IsTrue, Bool, List, [], ◌∷◌, length, get_or, map, Option, Some, None, sym, ap, arith}
use Rattle.clap.specs.Words.{Text, fault_of}
use Rattle.server_words.specs.CommandLine.{AreAlone, Asks, IsAsked, IsEither, WantHelp, WantVersion, named, server_app}
use Rattle.server_words.specs.declared.task.ServerTask.{ServerTask}

-- ---- one word alone

one_text : {A : Type 0} (f : A → Text) (xs : List A) (w : A) → length xs ≡ 1 → w ≡ get_or xs 0 w
    → map f xs ≡ f w ∷ []
one_text f [] w one is = cc
one_text f (x ∷ []) w one is = ap (λ v. f v ∷ []) (sym is)
one_text f (x ∷ y ∷ xs) w one is = absurd (omega (arith, one))

alone : (t u : Text) → t ∷ [] ≡ u ∷ [] → t ≡ u
alone t u same = cc

pub one_word : {A : Type 0} (f : A → Text) (long short : Text) (xs : List A) (w : A) (b : Bool) → length xs ≡ 1 → w ≡ get_or xs 0 w
    → (IsTrue b ↔ IsEither long short (f w)) → (IsTrue b ↔ AreAlone long short (map f xs))
one_word f long short xs w b one is says =
    let texts = one_text f xs w one is in (
      λ yes. elim (says.0 yes) [
        | inl first ↦ inl (texts ∙ ap (λ t. t ∷ []) first)
        | inr second ↦ inr (texts ∙ ap (λ t. t ∷ []) second)
      ],
      λ are. says.1 (elim are [
        | inl first ↦ inl (alone _ _ (sym texts ∙ first))
        | inr second ↦ inr (alone _ _ (sym texts ∙ second))
      ]),
    )

-- ---- what is asked for

pub asked : (words : List Text) (found task : Option ServerTask) → (WantHelp words → ⊥) → (WantVersion words → ⊥) → fault_of server_app words ≡ [] → found ≡ named words → task ≡ found → IsAsked words task
asked words found (Some task) no_help no_version taken found_is is = inr (inr (record { taken = taken; is = sym found_is ∙ sym is }))
asked words found None no_help no_version taken found_is is = λ task asks. not task asks
  where
    not : (task : ServerTask) → Asks words task → ⊥
    not task (inl help) = no_help help.0
    not task (inr (inl version)) = no_version version.0
    not task (inr (inr names)) = let is_some : Some task ≡ None = sym names.is ∙ sym found_is ∙ sym is in cc

pub refused : (words : List Text) → (WantHelp words → ⊥) → (WantVersion words → ⊥) → fault_of server_app words ≢ [] → IsAsked words None
refused words no_help no_version bad task (inl help) = no_help help.0
refused words no_help no_version bad task (inr (inl version)) = no_version version.0
refused words no_help no_version bad task (inr (inr names)) = bad names.taken
