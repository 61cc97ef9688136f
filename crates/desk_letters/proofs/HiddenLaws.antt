-- Which characters aren't hidden.
use Rattle.std.proofs.Common.{◌≡◌, ℕ, ◌<◌, ◌≤◌, Bool, true, false, not, ◌||◌, refl, ap, sym, ◌∙◌, arith}
use Rattle.std.proofs.lemmas.Bool.Decides.{nat_tests}
use Rattle.ucd_table.proofs.Facts.{Stepped-below}
use Rattle.ucd_category.specs.GeneralCategory.{general_category}
use Rattle.ucd_category.proofs.GeneralCategoryLemmas.{general_category_stepped}
use Rattle.ucd_category.proofs.Computing.{ucd_category}
use Rattle.ucd_derived.specs.Binary.{is_default_ignorable_code_point}
use Rattle.ucd_derived.proofs.BinaryLemmas.{is_default_ignorable_code_point_stepped}
use Rattle.ucd_derived.proofs.Computing.{ucd_derived}
use Rattle.desk_letters.specs.Hidden.{formats, is_format, is_hidden}

abbrev pub Shows : ℕ → Type 0
Shows c = is_hidden c ≡ false

-- a printed character of ASCII
abbrev pub IsPlain : ℕ → Type 0
IsPlain c = (32 ≤ c) × (c < 127)

pub refuted : (b : Bool) → not b ≡ true → b ≡ false
refuted true h = sym h
refuted false h = refl

neither : (a b : Bool) → a ≡ false → b ≡ false → (a || b) ≡ false
neither a b p q = ap (λ t. t || b) p ∙ q

no_formatting : (c : ℕ) → c < 128 → formats (general_category c) ≡ false
unfolding ucd_category
no_formatting c h =
    refuted _ (Stepped-below general_category general_category_stepped (λ x v. not (formats v)) 128 refl c h)

not_ignored : (c : ℕ) → c < 128 → is_default_ignorable_code_point c ≡ false
unfolding ucd_derived
not_ignored c h =
    refuted _ (Stepped-below is_default_ignorable_code_point is_default_ignorable_code_point_stepped (λ x v. not v) 128 refl c h)

not_format : (c : ℕ) → c < 128 → is_format c ≡ false
not_format c h = neither _ _ (no_formatting c h) (not_ignored c h)

pub plain_shows : (c : ℕ) → IsPlain c → Shows c
unfolding is_hidden
plain_shows c h = neither _ _ (grind (arith, nat_tests)) (not_format c (omega arith))

pub newline_shows : Shows 10
unfolding is_hidden
newline_shows = neither _ _ refl (not_format 10 (omega arith))
