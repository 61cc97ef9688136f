use Rattle.std.proofs.Common.{◌≡◌, ◌∙◌, sym}
use Rattle.std.proofs.lemmas.Bool.Decides.{Decides-eqb}
use Rattle.std.proofs.lemmas.List.{take_rest}
use Rattle.std.proofs.lemmas.Slice.Eq.{slice_eq-Decides}
use Rattle.desk_letters.specs.Letters.{digest_of}
use Rattle.desk_letters.proofs.letter.has_digest.Goals as goal

pub returns : goal.returns
returns c =
    let same = slice_eq-Decides Decides-eqb _ _ _ c.eq.ensures in
    let digest : c.as_slice.result.now ≡ digest_of c.args.id c.args.text.now = c.as_slice.ensures ∙ c.digest-digest.ensures in
    let kept = take_rest c.args.head.now 10 in
    (λ h. sym kept ∙ same.0 h ∙ digest, λ h. same.1 (kept ∙ h ∙ sym digest))
