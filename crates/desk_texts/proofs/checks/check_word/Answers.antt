use Rattle.std.proofs.Common.{◌≡◌}
use Rattle.sha2.specs.Sha256.{sha256}
use Rattle.desk_texts.specs.Checks.{with_content}
use Rattle.desk_texts.proofs.CheckLaws.{word_is}
use Rattle.desk_texts.proofs.checks.check_word.Goals as goal

pub returns : goal.returns
returns c =
    let whole = c.finalize-digest.ensures _ (c.update-3.ensures _ (c.update-2.ensures _ (c.update.ensures _ c.new-hasher.ensures))) in
    let is : c.finalize-digest.result ≡ sha256 (with_content c.args.said.now c.args.content.now) = whole in
    let word = word_is c.finalize-digest.result (with_content c.args.said.now c.args.content.now) is in
    cc word
