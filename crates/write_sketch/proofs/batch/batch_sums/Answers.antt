use Rattle.std.proofs.Common.{◌≡◌, length, sym, ◌∙◌, ap}
use Rattle.audit_rules.specs.Audit.{sums_of}
use Rattle.audit_rules.proofs.ChallengeLemmas.{length-challenge_rs, length-challenge_ss}
use Rattle.write_sketch.proofs.Batches.{dot_whole, dot3_whole}
use Rattle.write_sketch.proofs.batch.batch_sums.Goals as goal

pub returns : goal.returns
unfolding sums_of
returns c =
    let places = c.args.addresses.now in
    let key = c.args.ckey.now in
    let copied = c.copy_from_slice.ensures.after in
    let leaves = c.copy_from_slice.new.self in
    let rs = c.challenges_of.result.0 in
    let ss = c.challenges_of.result.1 in
    let many : 256 ≡ length leaves = sym (ap length copied ∙ c.requires.states) in
    let many_rs : 256 ≡ length rs = sym (ap length c.challenges_of.ensures.r ∙ length-challenge_rs key places ∙ c.requires.addresses) in
    let many_ss : 256 ≡ length ss = sym (ap length c.challenges_of.ensures.s ∙ length-challenge_ss key places ∙ c.requires.addresses) in
    let x = c.sums_of_256-products.ensures.x ∙ dot_whole 256 leaves rs many many_rs in
    let y = c.sums_of_256-products.ensures.y ∙ dot_whole 256 leaves ss many many_ss in
    let z = c.sums_of_256-products.ensures.z ∙ dot3_whole 256 leaves rs ss many many_rs many_ss in
    let m = c.total_of.ensures in
    let r_is = c.challenges_of.ensures.r in
    let s_is = c.challenges_of.ensures.s in
    cc
