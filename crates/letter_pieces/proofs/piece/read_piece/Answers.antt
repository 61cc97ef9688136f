use Rattle.std.proofs.Common.{◌≡◌, ◌∙◌, ℕ, List, get_or, take, drop, ap, refl, arith}
use Rattle.std.proofs.lemmas.List.{get_or-take}
use Rattle.letter_pieces.specs.Fields.{length_in}
use Rattle.letter_pieces.specs.Pieces.{Piece}
use Rattle.letter_pieces.proofs.PieceLemmas.{IsRead, length_front, piece_by, used_is, read_held, read_none}
use Rattle.letter_pieces.proofs.piece.read_piece.Goals as goal

pub returns-then-used-body : goal.returns-then-used-body
returns-then-used-body c p s =
    let bytes : List ℕ = c.args.bytes.now in
    let used : c.from-used.result ≡ length_in bytes =
    c.from-used.ensures ∙ c.length_in.ensures ∙ ap length_in c.split_at.ensures.front ∙ length_front bytes in
    let is = used_is p bytes s in
    let most = s.fits.most in
    omega (arith, used, is, most, c.split_at.ensures.back_len)

pub returns-then-is_written : goal.returns-then-is_written
returns-then-is_written c =
    let bytes : List ℕ = c.args.bytes.now in
    let head : List ℕ = c.split_at.result.0.now in
    let used : ℕ = c.from-used.result in
    let p : Piece =
    piece_by c.letter_in.result.0 (get_or head 10 0) (get_or head 11 0) c.split_at-2.result.0.now in
    let read : IsRead p used head c.split_at-2.result.1.now bytes = record {
      used_is = c.from-used.ensures ∙ c.length_in.ensures;
      letter = c.letter_in.ensures;
      part = refl;
      parts = refl;
      text = c.split_at-2.ensures.front ∙ ap (take used) c.split_at.ensures.back;
      head_is = c.split_at.ensures.front;
      rest_is = c.split_at-2.ensures.back ∙ ap (drop used) c.split_at.ensures.back;
    } in
    let parts : get_or head 11 0 ≡ get_or bytes 11 0 =
    ap (λ (t : List ℕ). get_or t 11 0) c.split_at.ensures.front ∙ get_or-take 28 bytes 11 0 (omega arith) in
    read_held p used head c.split_at-2.result.1.now bytes read
    (c.is_width.ensures.0 c.if-not-is_width.false) (omega arith) (omega (arith, parts, c.type_inv.bytes 11))
    (omega (arith, c.split_at.ensures.back_len)) (c.is_written.ensures.0 c.if-is_written.true)

pub returns-else-is_written : goal.returns-else-is_written
returns-else-is_written c =
    let bytes : List ℕ = c.args.bytes.now in
    let head : List ℕ = c.split_at.result.0.now in
    let used : ℕ = c.from-used.result in
    let p : Piece =
    piece_by c.letter_in.result.0 (get_or head 10 0) (get_or head 11 0) c.split_at-2.result.0.now in
    let read : IsRead p used head c.split_at-2.result.1.now bytes = record {
      used_is = c.from-used.ensures ∙ c.length_in.ensures;
      letter = c.letter_in.ensures;
      part = refl;
      parts = refl;
      text = c.split_at-2.ensures.front ∙ ap (take used) c.split_at.ensures.back;
      head_is = c.split_at.ensures.front;
      rest_is = c.split_at-2.ensures.back ∙ ap (drop used) c.split_at.ensures.back;
    } in
    read_none p used head c.split_at-2.result.1.now bytes read
    (λ w. let no = c.is_written.ensures.1 w in let f = c.if-is_written.false in cc)
