-- The characters of a letter that a screen gets spelled out.
use Rattle.std.specs.Prelude.{ℕ, ◌==◌, ◌&&◌, ◌||◌, not, Bool, true, false}
use Rattle.std.specs.Char.{is_control}
use Rattle.ucd_derived.specs.Binary.{is_default_ignorable_code_point}
use Rattle.ucd_category.specs.GeneralCategory.{general_category}
use Rattle.ucd_category.specs.declared.GeneralCategory.{GeneralCategory}
use Rattle.ucd_category.specs.declared.GeneralCategory.TheVariants.{Format, LineSeparator, ParagraphSeparator}

-- Unicode's categories Cf, Zl and Zp
abbrev pub formats : GeneralCategory → Bool
formats Format = true
formats LineSeparator = true
formats ParagraphSeparator = true
formats _ = false

-- changes how what is beside it is shown, or is itself shown as nothing, by what Unicode says
abbrev pub is_format : ℕ → Bool
is_format c = formats (general_category c) || is_default_ignorable_code_point c

-- such a character, or a control character (Cc) other than tab and newline
unfoldable pub is_hidden : ℕ → Bool
is_hidden c = (is_control c && not (c == 9 || c == 10)) || is_format c
