-- What stands where in a piece's box, and that bytes whose fields are a piece's hold it.
use Rattle.std.proofs.Common.{◌≡◌, ℕ, zero, suc, ◌-◌, ◌<◌, ◌≤◌, ◌^◌, true, List, [], ◌∷◌, ◌++◌, length}
use Rattle.std.proofs.Common.{get_or, take, drop, replicate, refl, ap, sym, subst, ◌∙◌, arith}
use Rattle.std.specs.Int.{w16, w64, from_be_bytes}
use Rattle.std.proofs.lemmas.Nat.{from_be_bytes-to_be_bytes_2, from_be_bytes-to_be_bytes_8}
use Rattle.std.proofs.lemmas.Bool.{eqb-true, and_parts}
use Rattle.std.proofs.lemmas.List.{take_at, drop_at, length-append, length-replicate, length-take}
use Rattle.std.proofs.lemmas.List.{length-drop, take-take, take-append-drop, drop-take, get_or-take}
use Rattle.sha2.specs.Sha256.{sha256}
use Rattle.sha2.proofs.Facts256.{length-sha256}
use Rattle.file_carry.specs.Boxes.{is_zeros}
use Rattle.file_carry.specs.Parts.{IsPartWidth, filled}
use Rattle.file_carry.proofs.CutLaws.{zeros_are}
use Rattle.letter_pieces.specs.Sizes.{room}
use Rattle.letter_pieces.specs.Pieces.{Piece, front, digest_of, header, encoded, Fits, Spells, IsNoPiece}
use Rattle.letter_pieces.specs.Fields.{length_in, letter_in, IsWritten}
use Rattle.letter_pieces.specs.Laws.{EncodedHold, OnePiece, EncodedDiffer, EmptyHoldNone}

length-digest : (p : Piece) → length (digest_of p) ≡ 16
unfolding digest_of
length-digest p =
    let m : List ℕ = front p ++ p.text in
    omega (arith, length-take 16 (sha256 m), length-sha256 m)

length-header : (p : Piece) → length (header p) ≡ 28
length-header p = omega (arith, length-digest p, length-append (front p) (digest_of p))

length-filled : (n : ℕ) (text : List ℕ) → length text ≤ n → length (filled n text) ≡ n
length-filled n text h =
    omega (
      arith,
      length-append text (replicate (n - length text) 0),
      length-replicate {A = ℕ} (n - length text) 0,
    )

length-encoded : (width : ℕ) (p : Piece) → Fits width p → length (encoded width p) ≡ width
unfolding encoded
length-encoded width p f =
    let wide : 32 ≤ width = f.width_is.0 in
    omega (
      arith,
      wide,
      length-header p,
      length-filled (room width) p.text f.most,
      length-append (header p) (filled (room width) p.text),
    )

-- the piece that the fields of a box spell
abbrev pub decoded : List ℕ → Piece
decoded bytes = record {
  letter = letter_in bytes;
  part = get_or bytes 10 0;
  parts = get_or bytes 11 0;
  text = take (length_in bytes) (drop 28 bytes);
}

abbrev pub piece_by : ℕ → ℕ → ℕ → List ℕ → Piece
piece_by letter part parts text = record { letter = letter; part = part; parts = parts; text = text }

pub same_piece : (p q : Piece) → p.letter ≡ q.letter → p.part ≡ q.part → p.parts ≡ q.parts
    → p.text ≡ q.text → p ≡ q
same_piece p q letter part parts text =
    ap (λ n. piece_by n p.part p.parts p.text) letter
    ∙ ap (λ n. piece_by q.letter n p.parts p.text) part
    ∙ ap (λ n. piece_by q.letter q.part n p.text) parts
    ∙ ap (λ (t : List ℕ). piece_by q.letter q.part q.parts t) text

module _ (width : ℕ) (p : Piece) (f : Fits width p) where
  back : drop 28 (encoded width p) ≡ filled (room width) p.text
  unfolding encoded
  back = drop_at (header p) (filled (room width) p.text) 28 (length-header p)

  head : take 28 (encoded width p) ≡ header p
  unfolding encoded
  head = take_at (header p) (filled (room width) p.text) 28 (length-header p)

  used_read : length_in (encoded width p) ≡ length p.text
  unfolding encoded
  used_read =
      let narrow : width ≤ 4096 = f.width_is.1.1 in
      from_be_bytes-to_be_bytes_2 (length p.text) (omega (arith, f.most, narrow))

  letter_read : letter_in (encoded width p) ≡ p.letter
  unfolding encoded
  letter_read = from_be_bytes-to_be_bytes_8 p.letter f.letter_fits

  part_read : get_or (encoded width p) 10 0 ≡ p.part
  unfolding encoded
  part_read = refl

  parts_read : get_or (encoded width p) 11 0 ≡ p.parts
  unfolding encoded
  parts_read = refl

  text_read : take (length_in (encoded width p)) (drop 28 (encoded width p)) ≡ p.text
  text_read =
      ap (λ n. take n (drop 28 (encoded width p))) used_read
      ∙ ap (take (length p.text)) back
      ∙ take_at p.text (replicate (room width - length p.text) 0) (length p.text) refl

  rest_read : drop (length_in (encoded width p)) (drop 28 (encoded width p))
      ≡ replicate (room width - length p.text) 0
  rest_read =
      ap (λ n. drop n (drop 28 (encoded width p))) used_read
      ∙ ap (drop (length p.text)) back
      ∙ drop_at p.text (replicate (room width - length p.text) 0) (length p.text) refl

  decoded_is : decoded (encoded width p) ≡ p
  decoded_is = same_piece (decoded (encoded width p)) p letter_read part_read parts_read text_read

-- what bytes hold is what their fields spell
pub spelled_is : (p : Piece) (bytes : List ℕ) → Spells p bytes → p ≡ decoded bytes
spelled_is p bytes s = sym (decoded_is (length bytes) p s.fits) ∙ ap decoded (sym s.is)

pub used_is : (p : Piece) (bytes : List ℕ) → Spells p bytes → length_in bytes ≡ length p.text
used_is p bytes s = ap length_in s.is ∙ used_read (length bytes) p s.fits

-- the bytes in front of the text and behind it
pub written_of : (p : Piece) (bytes : List ℕ) → Spells p bytes
    → IsWritten p (take 28 bytes) (drop (length_in bytes) (drop 28 bytes))
written_of p bytes s =
    let rest = λ (b : List ℕ). drop (length_in b) (drop 28 b) in
    record {
      some = s.fits.some;
      part_fits = s.fits.part_fits;
      zeros = ap (λ (b : List ℕ). is_zeros (rest b)) s.is
          ∙ ap is_zeros (rest_read (length bytes) p s.fits)
          ∙ zeros_are (room (length bytes) - length p.text);
      header_is = ap (take 28) s.is ∙ head (length bytes) p s.fits;
    }

-- ---- bytes that hold a piece

zeros_is : (bytes : List ℕ) → is_zeros bytes ≡ true → bytes ≡ replicate (length bytes) 0
zeros_is [] h = refl
zeros_is (b ∷ bytes) h =
    let p = and_parts _ (is_zeros bytes) h in
    ap (λ (n : ℕ). n ∷ bytes) (eqb-true b 0 p.0) ∙ ap (λ (t : List ℕ). 0 ∷ t) (zeros_is bytes p.1)

-- bytes with a piece's header, its text and zeros behind it hold it
pub spelled : (p : Piece) (used : ℕ) (bytes : List ℕ) → IsPartWidth (length bytes)
    → p.letter < 2 ^ 64 → p.parts < 256 → used ≤ length bytes - 28 → p.text ≡ take used (drop 28 bytes)
    → IsWritten p (take 28 bytes) (drop used (drop 28 bytes)) → Spells p bytes
unfolding encoded
spelled p used bytes wide letter parts most text w =
    let body : List ℕ = drop 28 bytes in
    let len : length p.text ≡ used =
    ap length text ∙ omega (arith, length-take used body, length-drop 28 bytes) in
    let left : room (length bytes) - length p.text ≡ length (drop used body) =
    omega (arith, len, length-drop used body, length-drop 28 bytes) in
    let back : filled (room (length bytes)) p.text ≡ body =
    ap (λ n. p.text ++ replicate n 0) left
    ∙ ap (λ (t : List ℕ). p.text ++ t) (sym (zeros_is (drop used body) w.zeros))
    ∙ ap (λ (t : List ℕ). t ++ drop used body) text
    ∙ take-append-drop used body in
    record {
      fits = record {
        width_is = wide;
        letter_fits = letter;
        parts_fit = parts;
        part_fits = w.part_fits;
        some = w.some;
        most = omega (arith, len, most);
      };
      is = sym (ap (λ (t : List ℕ). header p ++ t) back
          ∙ ap (λ (t : List ℕ). t ++ body) (sym w.header_is)
          ∙ take-append-drop 28 bytes);
    }

-- the fields of the first 28 bytes are those of all
pub length_front : (bytes : List ℕ) → length_in (take 28 bytes) ≡ length_in bytes
length_front bytes = ap (from_be_bytes w16) (take-take 2 28 bytes (omega arith))

pub letter_front : (bytes : List ℕ) → letter_in (take 28 bytes) ≡ letter_in bytes
letter_front bytes =
    ap (from_be_bytes w64) (ap (take 8) (drop-take 2 26 bytes) ∙ take-take 8 26 (drop 2 bytes) (omega arith))

-- a piece by the fields that were read of a box, one by one
pub record IsRead (p : Piece) (used : ℕ) (head rest bytes : List ℕ) : Type 0 where
  pub used_is : used ≡ length_in head
  pub letter : p.letter ≡ letter_in head
  pub part : p.part ≡ get_or head 10 0
  pub parts : p.parts ≡ get_or head 11 0
  pub text : p.text ≡ take used (drop 28 bytes)
  pub head_is : head ≡ take 28 bytes
  pub rest_is : rest ≡ drop used (drop 28 bytes)

module _ (p : Piece) (used : ℕ) (head rest bytes : List ℕ) (r : IsRead p used head rest bytes) where
  pub used_in : used ≡ length_in bytes
  used_in = r.used_is ∙ ap length_in r.head_is ∙ length_front bytes

  in_head : (i : ℕ) → i < 28 → get_or head i 0 ≡ get_or bytes i 0
  in_head i h = ap (λ (t : List ℕ). get_or t i 0) r.head_is ∙ get_or-take 28 bytes i 0 h

  pub read_is : p ≡ decoded bytes
  read_is =
      same_piece p (decoded bytes)
      (r.letter ∙ ap letter_in r.head_is ∙ letter_front bytes)
      (r.part ∙ in_head 10 (omega arith))
      (r.parts ∙ in_head 11 (omega arith))
      (r.text ∙ ap (λ n. take n (drop 28 bytes)) used_in)

  -- it is held where the rest is so too
  pub read_held : IsPartWidth (length bytes) → p.letter < 2 ^ 64 → p.parts < 256 → used ≤ length bytes - 28
      → IsWritten p head rest → Spells p bytes
  read_held wide letter parts most w =
      spelled p used bytes wide letter parts most r.text
      (subst (λ (t : List ℕ). IsWritten p (take 28 bytes) t) r.rest_is
      (subst (λ (t : List ℕ). IsWritten p t rest) r.head_is w))

  -- and where it isn't, no piece is held
  pub read_none : (IsWritten p head rest → ⊥) → IsNoPiece bytes
  read_none fails q s =
      let same : q ≡ p = spelled_is q bytes s ∙ sym read_is in
      let behind : drop (length_in bytes) (drop 28 bytes) ≡ rest =
      ap (λ n. drop n (drop 28 bytes)) (sym used_in) ∙ sym r.rest_is in
      fails (subst (λ (x : Piece). IsWritten x head rest) same
      (subst (λ (t : List ℕ). IsWritten q t rest) (sym r.head_is)
      (subst (λ (t : List ℕ). IsWritten q (take 28 bytes) t) behind (written_of q bytes s))))

-- ---- laws

pub encoded_hold : EncodedHold
encoded_hold width p f =
    let w : length (encoded width p) ≡ width = length-encoded width p f in
    record {
      fits = subst (λ n. Fits n p) (sym w) f;
      is = ap (λ n. encoded n p) (sym w);
    }

pub one_piece : OnePiece
one_piece p q bytes s t = spelled_is p bytes s ∙ sym (spelled_is q bytes t)

pub encoded_differ : EncodedDiffer
encoded_differ width p q f g e =
    one_piece p q (encoded width p) (encoded_hold width p f)
    (subst (Spells q) (sym e) (encoded_hold width q g))

zero_at : (n i : ℕ) → get_or {A = ℕ} (replicate n 0) i 0 ≡ 0
zero_at zero i = refl
zero_at (suc n) zero = refl
zero_at (suc n) (suc i) = zero_at n i

pub empty_hold_none : EmptyHoldNone
empty_hold_none p n s =
    let parts : p.parts ≡ 0 = ap (λ (q : Piece). q.parts) (spelled_is p (replicate n 0) s) ∙ zero_at n 11 in
    let below = s.fits.part_fits in
    omega (arith, parts, below)
