use Rattle.std.proofs.Common.{◌≤◌, ◌⊎◌, ℕ, List, length, subst, lit<}
use Rattle.std.proofs.lemmas.List.{length-map}
use Rattle.dpf_rules.specs.Walk.{leaf_of}
use Rattle.dpf_rules.specs.Evaluation.{leaves}
use Rattle.audit_rules.specs.BadWrites.{HasTwo, IsBadChallenge}
use Rattle.audit_rules.specs.Challenges.{challenge_rs, challenge_ss}
use Rattle.audit_rules.proofs.LeafLemmas.{leaves-in_range, difference-leaves}
use Rattle.snip_proof.proofs.Writes.{few_points}
use Rattle.snip_proof.proofs.keys.bad_keys_are_caught.Goals as goal

pub returns : goal.returns
returns c =
    let part = c.args.keys.part.now in
    let places = c.args.addresses.now in
    let rs = challenge_rs c.args.ckey.now places in
    let ss = challenge_ss c.args.ckey.now places in
    let points = c.args.points.now in
    let Goal : List ℕ → Type 0 = λ w. HasTwo w → IsBadChallenge w rs ss ⊎ (length points ≤ 5) in
    record {
      caught =
          subst Goal (difference-leaves part c.args.keys.root0 c.args.keys.root1 places)
          (few_points c.args.ckey.now places (leaves part 0 c.args.keys.root0 places) (leaves part 1 c.args.keys.root1 places) c.args.shares.zero.now c.args.shares.one.now points
          (leaves-in_range part 0 c.args.keys.root0 places c.read_bytes.ensures.in_range (lit< tt) (c.read_words.ensures.in_range 0 0 (lit< tt)))
          (leaves-in_range part 1 c.args.keys.root1 places c.read_bytes.ensures.in_range (lit< tt) (c.read_words.ensures.in_range 1 0 (lit< tt)))
          (length-map places (leaf_of part 0 c.args.keys.root0)) (length-map places (leaf_of part 1 c.args.keys.root1))
          c.read_share.ensures.in_range c.read_share-2.ensures.in_range c.read_words-2.ensures.in_range c.requires.distinct c.requires.accepted)
          c.requires.two;
    }
