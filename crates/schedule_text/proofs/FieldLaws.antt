-- A field is found exactly where it is spelled so.
use Rattle.std.proofs.Common.{◌≡◌, ℕ, ◌<◌, ◌^◌, ◌⊎◌, inl, inr, List, ◌++◌, Option, Some, None, codes, ◌∙◌, ap}
use Rattle.std.specs.Fmt.{decimal}
use Rattle.express_texts.specs.LineFields.{after}
use Rattle.express_texts.specs.Numbers.{number_at}
use Rattle.express_texts.proofs.NumberLaws.{number_found}
use Rattle.express_texts.proofs.FieldLaws.{after_found}
use Rattle.schedule_text.specs.Fields.{or_else}

pub or_else_some : {A : Type 0} (r s : Option A) (y : A) → or_else r s ≡ Some y → (r ≡ Some y) ⊎ (s ≡ Some y)
or_else_some None s y h = inr h
or_else_some (Some x) s y h = inl h

-- a number and a space, and what follows
pub spaced : (low high : ℕ) (bytes : List ℕ) (found : ℕ × List ℕ) (rest : List ℕ) → high < 2 ^ 64
    → number_at low high bytes ≡ Some found → after (codes " ") found.1 ≡ Some rest
    → bytes ≡ decimal found.0 ++ (codes " " ++ rest)
spaced low high bytes found rest small h k = (number_found low high bytes found small h).text
    ∙ ap (λ r. decimal found.0 ++ r) (after_found (codes " ") found.1 rest k)
