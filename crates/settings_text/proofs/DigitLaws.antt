-- A message has its width.
use Rattle.std.proofs.Common.{◌≡◌, ℕ, List, length, Option, Some, None, sym, ◌∙◌, arith}
use Rattle.std.specs.Prelude.{IfSome}
use Rattle.hex.proofs.HexLemmas.{decode_of-ok, decode_sized-ok, decode_sized-twice}
use Rattle.express_texts.specs.LineFields.{message_of}
use Rattle.express_texts.proofs.FieldLaws.{message_found}

pub message_width : (width : ℕ) (digits message : List ℕ) → message_of width digits ≡ Some message
    → length message ≡ width
message_width width digits message found =
    let decoded = message_found width digits message found in
    let long = decode_sized-ok digits width message decoded in
    let whole = decode_of-ok digits message (sym (decode_sized-twice digits width long) ∙ decoded) in
    omega (arith, whole.2)

pub has_width : (width : ℕ) (digits : List ℕ) (found : Option (List ℕ)) → found ≡ message_of width digits
    → IfSome found (λ bytes. length bytes ≡ width)
has_width width digits None is = tt
has_width width digits (Some message) is = message_width width digits message (sym is)
