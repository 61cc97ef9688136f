-- How many parts a letter has, and that they are its text.
use Rattle.std.proofs.Common.{◌≡◌, ℕ, zero, suc, ◌+◌, ◌*◌, ◌^◌, ◌<◌, ◌≤◌, max, inl, inr, List}
use Rattle.std.proofs.Common.{[], ◌∷◌, ◌++◌, length, take, drop, ap, sym, ◌∙◌, arith}
use Rattle.std.specs.List.{range_with_len, flat_map}
use Rattle.std.specs.Int.{div_ceil}
use Rattle.std.proofs.lemmas.Nat.{mul-le}
use Rattle.std.proofs.lemmas.Bool.{cases_lt, cases_eq}
use Rattle.std.proofs.lemmas.Grind.{div_ceil_times}
use Rattle.std.proofs.lemmas.List.{append-nil, map-id, take_all, take-take, take-append-drop, drop-take}
use Rattle.std.proofs.lemmas.List.Concat.{flat_map-append}
use Rattle.std.proofs.lemmas.List.Folds.{flat_map-map}
use Rattle.std.proofs.lemmas.List.FromFn.{map-range_with_len_more}
use Rattle.file_carry.specs.Parts.{IsPartWidth, count_of}
use Rattle.file_carry.proofs.CutLaws.{covers, reaches, last_used, content_length}
use Rattle.letter_pieces.specs.Sizes.{IsCard, room, most_parts, most_text}
use Rattle.letter_pieces.specs.Pieces.{Piece, Fits, parts_of, piece_of}
use Rattle.letter_pieces.specs.Laws.{PartsFit, PartsHavePlaces, PiecesJoin}

-- where so many parts of one size hold a text, it is cut into no more
pub count_most : (len size most : ℕ) → 0 < size → 1 ≤ most → len ≤ most * size → count_of len size ≤ most
unfolding count_of
count_most len size most some least fits =
    let c : ℕ = div_ceil len size in
    let b : c * size < len + size = (div_ceil_times len size some).1 in
    elim (cases_lt most c) as (λ _. max 1 c ≤ most) [
      | inl more ↦ (
          let le : (most + 1) * size ≤ c * size =
          mul-le (most + 1) size c size (omega arith) (omega arith) in
          absurd (let no : ⊥ = omega (arith, b, le, fits) in no))
      | inr few ↦ omega (arith, few)
    ]

pub parts_most : (addresses width len : ℕ) → IsCard addresses width → len ≤ most_text addresses width
    → parts_of width len ≤ most_parts addresses
parts_most addresses width len card fits =
    let wide : 32 ≤ width = card.width_is.0 in
    count_most len (room width) (most_parts addresses) (omega (arith, wide)) (omega arith) fits

pub few_parts : (addresses width : ℕ) → IsCard addresses width → most_parts addresses ≤ 21
few_parts addresses width card = omega (arith, card.most)

-- each part of a text begins within it
pub begins : (len size part : ℕ) → 0 < size → 1 ≤ len → part < count_of len size → part * size < len
begins len size zero some least below = omega arith
begins len size (suc k) some least below =
    elim (cases_eq (suc k + 1) (count_of len size)) as (λ _. suc k * size < len) [
      | inl last ↦ last_used len size (suc k) some last (omega arith)
      | inr more ↦ (
          let whole = reaches len size (suc k) some (omega (arith, below, more)) in
          omega (arith, whole, some))
    ]

pub range_more : (n : ℕ) → range_with_len 0 (suc n) ≡ range_with_len 0 n ++ n ∷ []
range_more n =
    let next : suc n ≡ n + 1 = omega arith in
    ap (range_with_len 0) next
    ∙ sym (map-id (range_with_len 0 (n + 1)))
    ∙ map-range_with_len_more (λ (x : ℕ). x) 0 n n (omega arith)
    ∙ ap (λ (t : List ℕ). t ++ n ∷ []) (map-id (range_with_len 0 n))

take_add : (m n : ℕ) (xs : List ℕ) → take m xs ++ take n (drop m xs) ≡ take (m + n) xs
take_add m n xs =
    sym (ap (λ (t : List ℕ). t ++ drop m (take (m + n) xs)) (take-take m (m + n) xs (omega arith))
    ∙ ap (λ (t : List ℕ). take m xs ++ t) (drop-take m n xs))
    ∙ take-append-drop m (take (m + n) xs)

-- the first blocks of a list, of one size, are its front
pub blocks_join : (size : ℕ) (xs : List ℕ) (n : ℕ)
    → flat_map (λ k. take size (drop (k * size) xs)) (range_with_len 0 n) ≡ take (n * size) xs
blocks_join size xs zero = let none : 0 ≡ 0 * size = omega arith in ap (λ k. take k xs) none
blocks_join size xs (suc n) =
    let block = λ (k : ℕ). take size (drop (k * size) xs) in
    let next : n * size + size ≡ suc n * size = omega arith in
    ap (flat_map block) (range_more n)
    ∙ flat_map-append block (range_with_len 0 n) (n ∷ [])
    ∙ ap (λ (t : List ℕ). t ++ (block n ++ [])) (blocks_join size xs n)
    ∙ ap (λ (t : List ℕ). take (n * size) xs ++ t) (append-nil (block n))
    ∙ take_add (n * size) size xs
    ∙ ap (λ k. take k xs) next

-- ---- laws

pub parts_have_places : PartsHavePlaces
parts_have_places addresses width id text l =
    parts_most addresses width (length text) l.card l.length_fits.most

-- each part of a letter is a piece, where their number is a byte
pub part_fits : (width id : ℕ) (text : List ℕ) (part : ℕ) → IsPartWidth width → id < 2 ^ 64 → 1 ≤ length text
    → parts_of width (length text) < 256 → part < parts_of width (length text)
    → Fits width (piece_of width id text part)
part_fits width id text part wide id_fits least few below =
    let size : ℕ = room width in
    let most : 32 ≤ width = wide.0 in
    let some : 0 < size = omega (arith, most) in
    let begin = begins (length text) size part some least below in
    let len = content_length text size part in
    record {
      width_is = wide;
      letter_fits = id_fits;
      parts_fit = few;
      part_fits = below;
      some = omega (arith, begin, len, some);
      most = omega (arith, len);
    }

pub parts_fit : PartsFit
parts_fit addresses width id text part l below =
    let count = parts_have_places addresses width id text l in
    let few = few_parts addresses width l.card in
    part_fits width id text part l.card.width_is l.id_fits l.length_fits.some
    (omega (arith, count, few)) below

pub pieces_join : PiecesJoin
pieces_join addresses width id text l =
    let wide : 32 ≤ width = l.card.width_is.0 in
    let size : ℕ = room width in
    let count : ℕ = parts_of width (length text) in
    let all : length text ≤ count * size = covers (length text) size (omega (arith, wide)) in
    flat_map-map (λ (p : Piece). p.text) (piece_of width id text) (range_with_len 0 count)
    ∙ blocks_join size text count
    ∙ take_all (count * size) text all
