-- A text that toml refuses has no table.
use Rattle.std.proofs.Common.{◌≡◌, ℕ, Bool, true, false, cond, List, None, Some, Ok, Err, refl}
use Rattle.std.proofs.lemmas.Str.{IsUtf8-from_is_utf8, is_utf8-from_IsUtf8}
use Rattle.std.specs.Option.{ok_or}
use Rattle.std.specs.Str.{IsUtf8, is_utf8}
use Rattle.toml.specs.Data.{Members}
use Rattle.toml.specs.Parse.{parse_document}
use Rattle.server_settings.specs.declared.fault.BadSettings.TheVariants.{NotToml}
use Rattle.server_settings.specs.Files.{table_in}

pub table_read : (text : List ℕ) (table : Members) → IsUtf8 text → parse_document text ≡ Some table → table_in text ≡ Ok table
unfolding table_in
table_read text table utf8 parsed = rw (is_utf8-from_IsUtf8 text utf8, parsed) refl

pub table_refused : (text : List ℕ) → (IsUtf8 text → parse_document text ≡ None) → table_in text ≡ Err NotToml
unfolding table_in
table_refused text refused = at_test (is_utf8 text) refl
  where
    at_test : (t : Bool) → is_utf8 text ≡ t → ok_or (cond t (parse_document text) None) NotToml ≡ Err NotToml
    at_test true e = rw (refused (IsUtf8-from_is_utf8 text e)) refl
    at_test false e = refl
