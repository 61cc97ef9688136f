-- A text that toml refuses has no table.
use Rattle.std.proofs.Common.{◌≡◌, ℕ, Bool, true, false, cond, List, codes, Some, None, Ok, Err, refl}
use Rattle.std.proofs.lemmas.Str.{IsUtf8-from_is_utf8, is_utf8-from_IsUtf8}
use Rattle.std.specs.Option.{ok_or}
use Rattle.std.specs.Str.{IsUtf8, is_utf8}
use Rattle.toml.specs.Data.{Members}
use Rattle.toml.specs.Parse.{parse_document}
use Rattle.settings_text.specs.Tables.{read_table}

pub table_read : (text : List ℕ) (table : Members) → IsUtf8 text → parse_document text ≡ Some table → read_table text ≡ Ok table
unfolding read_table
table_read text table utf8 parsed = rw (is_utf8-from_IsUtf8 text utf8, parsed) refl

pub table_refused : (text : List ℕ) → (IsUtf8 text → parse_document text ≡ None) → read_table text ≡ Err (codes "toml")
unfolding read_table
table_refused text refused = at_test (is_utf8 text) refl
  where
    at_test : (t : Bool) → is_utf8 text ≡ t → ok_or (cond t (parse_document text) None) (codes "toml") ≡ Err (codes "toml")
    at_test true e = rw (refused (IsUtf8-from_is_utf8 text e)) refl
    at_test false e = refl
