use Rattle.std.proofs.Common.{◌≡◌, ◌≢◌, ℕ, ◌+◌, ◌-◌, ◌<◌, ◌≤◌, ◌∙◌, slice_index, arith}
use Rattle.std.proofs.lemmas.List.{length_push}
use Rattle.dpf_rules.specs.Evaluation.{prefix}
use Rattle.dpf_eval.proofs.SplitLemmas.{first_more, joined_more, apart_more}
use Rattle.dpf_eval.proofs.splits.split_into.Goals as goal
use Rattle.dpf_eval.proofs.splits.split_into.Goals.{then-k-eq0, else-k-eq0}

pub loop-k-preserved : goal.loop-k-preserved
loop-k-preserved c =
    let addresses = c.args.addresses.now in
    let splits = c.loop-k.splits.items in
    let k = c.loop-k.k in
    let level = c.if-k-eq0.level in
    let many = c.loop-k.invariant.length in
    let starts : k ≡ 0 → level ≡ 0 = λ begins. elim c.if-k-eq0.branch [
      | then-k-eq0 w ↦ w.level-is
      | else-k-eq0 w ↦ absurd (w.if-k-eq0.false begins)
    ] in
    let joined : (j i : ℕ) → j + 1 ≡ k → i < level → i ≤ 128 → prefix i (slice_index addresses j) ≡ prefix i (slice_index addresses (j + 1)) =
    λ j i here early most. elim c.if-k-eq0.branch [
      | then-k-eq0 w ↦ let begins : k ≡ 0 = w.if-k-eq0.true in absurd (omega arith)
      | else-k-eq0 w ↦
          let back : k - 1 ≡ j = omega arith in
          rw (here, ← back) (w.split-level.ensures.joined i (rw w.level-is at early) most)
    ] in
    let apart : (j i : ℕ) → j + 1 ≡ k → level ≤ i → i ≤ 128 → prefix i (slice_index addresses j) ≢ prefix i (slice_index addresses (j + 1)) =
    λ j i here past most. elim c.if-k-eq0.branch [
      | then-k-eq0 w ↦ let begins : k ≡ 0 = w.if-k-eq0.true in absurd (omega arith)
      | else-k-eq0 w ↦
          let back : k - 1 ≡ j = omega arith in
          rw (here, ← back) (w.split-level.ensures.apart i (rw w.level-is at past) most)
    ] in
    record {
      length = rw c.push_reserved.ensures.items (length_push splits level ∙ omega arith);
      first = rw c.push_reserved.ensures.items (first_more addresses splits k level many starts c.loop-k.invariant.first);
      joined = rw c.push_reserved.ensures.items (joined_more addresses splits k level many c.loop-k.invariant.joined joined);
      apart = rw c.push_reserved.ensures.items (apart_more addresses splits k level many c.loop-k.invariant.apart apart);
      room = c.push_reserved.ensures.capacity ∙ c.loop-k.invariant.room;
    }
