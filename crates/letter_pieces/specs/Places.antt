-- The places of a letter: a card's addresses, by number from 0, in an order that is drawn of the letter's
-- id. Each piece is written to three of them, and whoever reads takes a piece that came alone out of the
-- boxes where it met others: coded random access (Casini, De Gaudenzi and Herrero, "Contention Resolution
-- Diversity Slotted ALOHA", 2007). A table that is peeled so is an invertible Bloom lookup table (Goodrich
-- and Mitzenmacher, 2011).
use Rattle.std.specs.Prelude.{ℕ, zero, suc, ◌+◌, ◌*◌, ◌%◌, ◌^◌, List, [], ◌∷◌, ◌++◌, swap, take, drop}
use Rattle.std.specs.Int.{w64, to_be_bytes}
use Rattle.sha2.specs.Sha256.{sha256}
use Rattle.rand_chacha.specs.ChaCha.{ChaCha, key_of, word_at}
use Rattle.letter_pieces.specs.Sizes.{copies}
use Rattle.letter_pieces.specs.Pieces.{Piece}

-- the key of a letter's draws: the SHA-256 digest of its id, which is big-endian
abbrev pub draw_key : ℕ → List ℕ
draw_key id = key_of (sha256 (to_be_bytes w64 id))

-- a letter's stream of ChaCha20 (RFC 8439), where draw i begins
abbrev pub at_draw : ℕ → ℕ → ChaCha
at_draw id i = record { key = draw_key id; stream = 0; word_pos = 2 * i }

-- draw i of a letter: 64 bits of that stream, the low half first
unfoldable pub drawn : ℕ → ℕ → ℕ
drawn id i = word_at 10 (draw_key id) 0 (2 * i) + word_at 10 (draw_key id) 0 (2 * i + 1) * 2 ^ 32

-- The shuffle of Fisher and Yates (Knuth, The Art of Computer Programming, volume 2, section 3.4.2,
-- algorithm P), from the inside out: each further address is put last, and changes places with one of all so
-- far. Draw n is taken modulo n + 1, at most 64, so each of them comes up with a probability within 2^-64 of
-- the others'.
unfoldable pub places : ℕ → ℕ → List ℕ
places id zero = []
places id (suc n) = swap (places id n ++ n ∷ []) n (drawn id n % suc n)

-- the places of a part of a letter, on a card of so many addresses
abbrev pub part_places : ℕ → ℕ → ℕ → List ℕ
part_places addresses id part = take copies (drop (part * copies) (places id addresses))

-- the places of a piece: to these addresses it is written, and to no other
abbrev pub places_of : ℕ → Piece → List ℕ
places_of addresses p = part_places addresses p.letter p.part
