use Rattle.std.proofs.Common.{◌≡◌, ◌∙◌, ℕ, List, take, drop, ap, sym, subst, arith}
use Rattle.std.proofs.lemmas.Grind.{get_or_default_zero}
use Rattle.file_carry.specs.Boxes.{is_zeros}
use Rattle.desk_letters.specs.Letters.{digest_of, length_in, id_in, Spells}
use Rattle.desk_letters.proofs.LetterLaws.{length_front, id_front, no_length, no_rest, no_digest, spelled}
use Rattle.desk_letters.proofs.letter.letter_in.Goals as goal

pub returns-then-used-eq0 : goal.returns-then-used-eq0
returns-then-used-eq0 c =
    no_length c.from-used.result c.args.bytes.now
    (c.from-used.ensures ∙ c.length_in.ensures ∙ ap length_in c.split_at.ensures.front ∙ length_front c.args.bytes.now)
    (λ some most. omega arith)

pub returns-then-used-body : goal.returns-then-used-body
returns-then-used-body c =
    no_length c.from-used.result c.args.bytes.now
    (c.from-used.ensures ∙ c.length_in.ensures ∙ ap length_in c.split_at.ensures.front ∙ length_front c.args.bytes.now)
    (λ some most. omega (arith, c.split_at.ensures.back_len))

pub returns-then-not-is_zeros : goal.returns-then-not-is_zeros
returns-then-not-is_zeros c =
    no_rest c.from-used.result c.args.bytes.now
    (c.from-used.ensures ∙ c.length_in.ensures ∙ ap length_in c.split_at.ensures.front ∙ length_front c.args.bytes.now)
    (sym (c.is_zeros.ensures ∙ ap is_zeros (c.split_at-2.ensures.back ∙ ap (drop c.from-used.result) c.split_at.ensures.back))
    ∙ c.if-not-is_zeros.true)

pub returns-then-has_digest : goal.returns-then-has_digest
returns-then-has_digest c =
    let bytes : List ℕ = c.args.bytes.now in
    let used : ℕ = c.from-used.result in
    let id : ℕ = c.id_in-id.result in
    let used_is : used ≡ length_in bytes =
    c.from-used.ensures ∙ c.length_in.ensures ∙ ap length_in c.split_at.ensures.front ∙ length_front bytes in
    let id_is : id ≡ id_in bytes = c.id_in-id.ensures ∙ ap id_in c.split_at.ensures.front ∙ id_front bytes in
    let text_is : c.split_at-2.result.0.now ≡ take used (drop 26 bytes) =
    c.split_at-2.ensures.front ∙ ap (take used) c.split_at.ensures.back in
    let zeros = sym (c.is_zeros.ensures ∙ ap is_zeros (c.split_at-2.ensures.back ∙ ap (drop used) c.split_at.ensures.back))
    ∙ c.if-not-is_zeros.false in
    let digest : drop 10 (take 26 bytes) ≡ digest_of id (take used (drop 26 bytes)) =
    ap (drop 10) (sym c.split_at.ensures.front) ∙ c.has_digest.ensures.0 c.if-has_digest.true ∙ ap (digest_of id) text_is in
    subst (λ (t : List ℕ). Spells id t bytes) (sym text_is)
    (spelled id used bytes (λ k d below. rw (get_or_default_zero bytes k d below) (omega (arith, c.type_inv.bytes k))) c.requires (omega arith) (omega arith) (omega arith) (omega (arith, c.split_at.ensures.back_len)) used_is id_is zeros digest)

pub returns-else-has_digest : goal.returns-else-has_digest
returns-else-has_digest c =
    let bytes : List ℕ = c.args.bytes.now in
    let used : ℕ = c.from-used.result in
    let id : ℕ = c.id_in-id.result in
    let used_is : used ≡ length_in bytes =
    c.from-used.ensures ∙ c.length_in.ensures ∙ ap length_in c.split_at.ensures.front ∙ length_front bytes in
    let id_is : id ≡ id_in bytes = c.id_in-id.ensures ∙ ap id_in c.split_at.ensures.front ∙ id_front bytes in
    let text_is : c.split_at-2.result.0.now ≡ take used (drop 26 bytes) =
    c.split_at-2.ensures.front ∙ ap (take used) c.split_at.ensures.back in
    no_digest id used bytes used_is id_is
    (λ e. let no = c.has_digest.ensures.1 (ap (drop 10) c.split_at.ensures.front ∙ e ∙ sym (ap (digest_of id) text_is)) in
    let f = c.if-has_digest.false in cc)
