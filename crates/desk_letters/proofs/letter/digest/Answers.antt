use Rattle.std.proofs.Common.{◌∙◌, ◌++◌, ℕ, List, take, ap, ap₂}
use Rattle.sha2.specs.Sha256.{sha256}
use Rattle.desk_letters.specs.Letters.{digest_of}
use Rattle.desk_letters.proofs.letter.digest.Goals as goal

pub returns : goal.returns
unfolding digest_of
returns c =
    let whole = c.finalize-whole.ensures _ (c.update-3.ensures _ (c.update-2.ensures _ (c.update.ensures _ c.new-hasher.ensures))) in
    c.copy_from_slice.ensures.after
    ∙ ap (take 16) (whole ∙ ap sha256 (ap₂ (λ (a b : List ℕ). (a ++ b) ++ c.args.text.now) c.to_be_bytes.ensures c.to_be_bytes-2.ensures))
