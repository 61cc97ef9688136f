-- A name is ASCII, and bytes are a text or none.
use Rattle.std.proofs.Common.{◌≡◌, ℕ, zero, suc, ◌<◌, Bool, true, false, List, [], ◌∷◌, refl, arith}
use Rattle.std.specs.Prelude.{nat_le, length, ◌≤◌}
use Rattle.std.specs.List.{list_all}
use Rattle.std.specs.Str.{IsAscii, IsUtf8, is_utf8}
use Rattle.std.proofs.lemmas.Bool.{and_parts}
use Rattle.std.proofs.lemmas.Bool.Decides.{nat_tests}
use Rattle.std.proofs.lemmas.Str.{IsUtf8-from_ascii, IsUtf8-from_is_utf8, is_utf8-from_IsUtf8}
use Rattle.kept_ledger.specs.Names.{is_name_byte, is_name}

byte_ascii : (b : ℕ) → is_name_byte b ≡ true → b < 128
byte_ascii b h = grind (arith, nat_tests)

all_ascii : (text : List ℕ) → list_all is_name_byte text ≡ true → IsAscii text
all_ascii [] h i = omega arith
all_ascii (b ∷ text) h zero = byte_ascii b (and_parts (is_name_byte b) (list_all is_name_byte text) h).0
all_ascii (b ∷ text) h (suc i) = all_ascii text (and_parts (is_name_byte b) (list_all is_name_byte text) h).1 i

name_bytes : (text : List ℕ) → is_name text ≡ true → list_all is_name_byte text ≡ true
unfolding is_name
name_bytes text h =
    let p = and_parts _ _ h in
    (and_parts _ (list_all is_name_byte text) p.1).1

pub name_utf8 : (text : List ℕ) → is_name text ≡ true → IsUtf8 text
name_utf8 text h = IsUtf8-from_ascii text (all_ascii text (name_bytes text h))

pub name_short : (text : List ℕ) → is_name text ≡ true → length text ≤ 32
unfolding is_name
name_short text h =
    let p = and_parts _ _ h in
    let few = (and_parts (nat_le (length text) 32) (list_all is_name_byte text) p.1).0 in
    grind (arith, nat_tests)

-- ---- texts

pub some_text : (bytes : List ℕ) → IsUtf8 bytes → is_utf8 bytes ≡ true
some_text bytes is = is_utf8-from_IsUtf8 bytes is

pub no_text : (bytes : List ℕ) → (IsUtf8 bytes → ⊥) → is_utf8 bytes ≡ false
no_text bytes none = by_test (is_utf8 bytes) refl
  where
    by_test : (b : Bool) → is_utf8 bytes ≡ b → b ≡ false
    by_test true e = absurd (none (IsUtf8-from_is_utf8 bytes e))
    by_test false e = refl
