-- A place is ASCII.
use Rattle.std.proofs.Common.{◌≡◌, ℕ, zero, suc, ◌<◌, true, List, [], ◌∷◌, arith}
use Rattle.std.specs.List.{list_all}
use Rattle.std.specs.Str.{IsAscii, IsUtf8}
use Rattle.std.proofs.lemmas.Bool.{and_parts}
use Rattle.std.proofs.lemmas.Bool.Decides.{nat_tests}
use Rattle.std.proofs.lemmas.Str.{IsUtf8-from_ascii}
use Rattle.desk_texts.specs.Places.{is_place_byte, behind_colon, is_port, is_place}

pub byte_ascii : (b : ℕ) → is_place_byte b ≡ true → b < 128
byte_ascii b h = grind (arith, nat_tests)

all_ascii : (text : List ℕ) → list_all is_place_byte text ≡ true → IsAscii text
all_ascii [] h i = omega arith
all_ascii (b ∷ text) h zero = byte_ascii b (and_parts (is_place_byte b) (list_all is_place_byte text) h).0
all_ascii (b ∷ text) h (suc i) = all_ascii text (and_parts (is_place_byte b) (list_all is_place_byte text) h).1 i

pub place_bytes : (text : List ℕ) → is_place text ≡ true → list_all is_place_byte text ≡ true
unfolding is_place
place_bytes text h =
    let p = and_parts _ _ h in
    let q = and_parts _ _ p.1 in
    (and_parts (list_all is_place_byte text) (is_port (behind_colon text)) q.1).0

pub place_utf8 : (text : List ℕ) → is_place text ≡ true → IsUtf8 text
place_utf8 text h = IsUtf8-from_ascii text (all_ascii text (place_bytes text h))
