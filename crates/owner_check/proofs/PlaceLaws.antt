-- A place of a server is a value of a header field.
use Rattle.std.proofs.Common.{◌≡◌, ℕ, ◌≤◌, ◌<◌, nat_le, nat_lt, not, ◌&&◌, true, false, List, [], ◌∷◌, length, refl, arith}
use Rattle.std.specs.Char.{is_ascii_graphic}
use Rattle.std.specs.List.{list_all}
use Rattle.std.proofs.lemmas.Bool.{and_parts}
use Rattle.std.proofs.lemmas.Bool.Decides.{nat_tests}
use Rattle.http_door.specs.Values.{is_value}
use Rattle.desk_texts.specs.Places.{is_place_byte, behind_colon, is_port, begins_with_colon, is_place}
use Rattle.desk_texts.proofs.TextLaws.{place_bytes}

graphic : (b : ℕ) → is_place_byte b ≡ true → is_ascii_graphic b ≡ true
graphic b h = grind (arith, nat_tests)

all_graphic : (text : List ℕ) → list_all is_place_byte text ≡ true → list_all is_ascii_graphic text ≡ true
all_graphic [] h = refl
all_graphic (b ∷ text) h =
    let p = and_parts (is_place_byte b) (list_all is_place_byte text) h in
    rw (graphic b p.0, all_graphic text p.1) refl

not_empty : (text : List ℕ) → is_port (behind_colon text) ≡ true → nat_lt 0 (length text) ≡ true
unfolding behind_colon
not_empty [] h = cc
not_empty (b ∷ text) h = grind arith

pub place_is_value : (text : List ℕ) → is_place text ≡ true → is_value text ≡ true
unfolding is_place
place_is_value text h =
    let p = and_parts (nat_le (length text) 255) _ h in
    let q = and_parts (not (begins_with_colon text)) _ p.1 in
    let port = (and_parts (list_all is_place_byte text) (is_port (behind_colon text)) q.1).1 in
    rw (not_empty text port, p.0, all_graphic text (place_bytes text h)) refl
