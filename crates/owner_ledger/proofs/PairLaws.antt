-- The pair of a pair file is one that a ledger is opened with.
use Rattle.std.proofs.Common.{◌≡◌, ◌∙◌, ◌≤◌, ◌<◌, ◌+◌, ◌*◌, ◌^◌, ℕ, zero, suc, Bool, true, false, List, [], ◌∷◌, ◌++◌}
use Rattle.std.proofs.Common.{length, refl, sym, ap, subst, arith}
use Rattle.std.specs.Prelude.{◌||◌, ◌&&◌, not, nat_le, codes}
use Rattle.std.specs.List.{list_all}
use Rattle.std.specs.Str.{IsAscii, is_utf8}
use Rattle.std.proofs.lemmas.Bool.{and_parts}
use Rattle.std.proofs.lemmas.Bool.Decides.{nat_tests}
use Rattle.std.proofs.lemmas.List.{length-append}
use Rattle.std.proofs.lemmas.Str.{IsUtf8-from_ascii, is_utf8-from_IsUtf8}
use Rattle.hex.specs.Hex.{encode_with, lower_digits}
use Rattle.hex.proofs.HexLemmas.{decode_sized-ok}
use Rattle.express_words.specs.Limits.{IsWidth}
use Rattle.express_words.specs.Seen.{Seen}
use Rattle.desk_texts.specs.Places.{begins_with_colon, behind_colon, is_place, is_place_byte, is_port}
use Rattle.lane_gate.specs.declared.ticket.Ticket.{Ticket}
use Rattle.desk_sheets.specs.Keys.{key_digits}
use Rattle.desk_sheets.specs.Spelling as sheet
use Rattle.desk_sheets.specs.Spelling.{SpellsSheet}
use Rattle.desk_sheets.specs.declared.sheet.OwnersServer.{OwnersServer}
use Rattle.desk_sheets.specs.declared.sheet.Pair.{Pair}
use Rattle.desk_sheets.specs.declared.sheet.Sheet.TheVariants as sheets
use Rattle.kept_ledger.specs.Notes as ledger
use Rattle.kept_ledger.specs.Notes.{IsOpening, Opening}
use Rattle.desk_around.specs.Reading.{IsWholePaper}
use Rattle.owner_ledger.specs.Desks.{IsOfFile}

-- ---- places

byte_ascii : (b : ℕ) → is_place_byte b ≡ true → b < 128
byte_ascii b h = grind (arith, nat_tests)

all_ascii : (text : List ℕ) → list_all is_place_byte text ≡ true → IsAscii text
all_ascii [] h i = omega arith
all_ascii (b ∷ text) h zero = byte_ascii b (and_parts (is_place_byte b) (list_all is_place_byte text) h).0
all_ascii (b ∷ text) h (suc i) =
    all_ascii text (and_parts (is_place_byte b) (list_all is_place_byte text) h).1 i

place_parts : (text : List ℕ) → is_place text ≡ true
    → (nat_le (length text) 255 ≡ true) × (list_all is_place_byte text ≡ true)
unfolding is_place
place_parts text h =
    let outer = and_parts (nat_le (length text) 255) _ h in
    let inner = and_parts (not (begins_with_colon text)) _ outer.1 in
    (outer.0, (and_parts (list_all is_place_byte text) (is_port (behind_colon text)) inner.1).0)

pub place_utf8 : (text : List ℕ) → is_place text ≡ true → is_utf8 text ≡ true
place_utf8 text h =
    is_utf8-from_IsUtf8 text (IsUtf8-from_ascii text (all_ascii text (place_parts text h).1))

pub place_short : (text : List ℕ) → is_place text ≡ true → length text ≤ 255
place_short text h = let few = (place_parts text h).0 in grind (arith, nat_tests)

-- ---- pairs

pub is_width : (pair : Pair) → sheet.IsPair pair → IsWidth pair.width
is_width pair is = (omega (arith, is.head.width.least), is.head.width.most, is.head.width.sixteens)

encoded_long : (digits bytes : List ℕ) → length (encode_with digits bytes) ≡ 2 * length bytes
unfolding encode_with
encoded_long digits [] = refl
encoded_long digits (b ∷ bytes) = let ih = encoded_long digits bytes in omega (arith, ih)

key_long : (key : Ticket) → sheet.IsKey key → length key.0 ≡ 16
key_long key is =
    let digits = decode_sized-ok (key_digits key) 16 key.0 is in
    let twice = encoded_long lower_digits key.0 in omega (arith, digits, twice)

a_server : (s : OwnersServer) → sheet.IsServer s → ledger.IsServer s
a_server s is = record {
  text = place_utf8 s.place is.place;
  few = place_short s.place is.place;
  key = key_long s.key is.key;
}

a_pair : (pair : Pair) → sheet.IsPair pair → ledger.IsPair pair
a_pair pair is = record {
  width = is_width pair is;
  some = is.head.some;
  boxes = is.head.few;
  lane = omega (arith, is.head.lane);
  leader = a_server pair.leader is.leader;
  helper = a_server pair.helper is.helper;
}

pub an_opening : (pair : Pair) (seed : List ℕ) (first : ℕ) (o : Opening) → sheet.IsPair pair
    → length seed ≡ 32 → 1 ≤ first → first < 2 ^ 32 → o ≡ record { pair = pair; seed = seed; first_serial = first } → IsOpening o
an_opening pair seed first o is long some few same = subst IsOpening (sym same) (record {
  pair = a_pair pair is;
  seed = long;
  serial = some;
  unspent = few;
})

pub of_file : {P : Type 0} (papers : P → Seen) (pair : Pair) (text : List ℕ) → IsWholePaper papers text
    → SpellsSheet (sheets.Pair pair) text → IsOfFile papers pair
of_file papers pair text whole spells = record { text = text; whole = whole; spells = spells }
