use Rattle.std.proofs.Common.{◌≡◌, ◌<◌, ◌∙◌, length, get_or, sym, [], ap, ℕ, List, arith}
use Rattle.std.specs.List.{refill}
use Rattle.std.proofs.lemmas.List.{length-set}
use Rattle.express_words.specs.Bytes.{xor_bytes}
use Rattle.dpf_rules.specs.Walk.{leaf_bytes}
use Rattle.block_region.specs.Region.{Blocks}
use Rattle.share_store.specs.Marks.{shares_in}
use Rattle.share_store.proofs.ShareLemmas.{length-shares_in, added_live, added_retired, lent_back}
use Rattle.share_store.proofs.store.add_leaves.Goals as goal
use Rattle.share_store.proofs.store.add_leaves.Goals.{then-live-k, else-live-k}

pub loop-k-preserved : goal.loop-k-preserved
loop-k-preserved c =
    let live = c.args.live.now in
    let first = shares_in live c.args.shares.now.blocks in
    let blocks = c.loop-k.shares.blocks in
    let k = c.loop-k.k in
    let inside : k < length live = omega (arith, c.requires.count) in
    let many : k < length first = omega (arith, length-shares_in live c.args.shares.now.blocks c.requires.marks) in
    elim c.if-live-k.branch [
      | then-live-k w ↦
          let there : refill (length (get_or blocks k [])) (get_or blocks k []) w.output_through.new.out
          ≡ xor_bytes (get_or blocks k []) (leaf_bytes c.args.part.now (get_or c.args.leaves.now k 0)) =
          lent_back (get_or blocks k []) w.get_mut.result.now w.output_through.new.out w.get_mut.ensures.value w.output_through.auto.out
          ∙ w.output_through.ensures
          ∙ ap (λ (xs : List ℕ). xor_bytes xs (leaf_bytes c.args.part.now (get_or c.args.leaves.now k 0))) w.get_mut.ensures.value in
          record {
            size = ap (λ (b : Blocks). b.size) w.shares-is ∙ c.loop-k.invariant.size;
            room = ap length w.room-is ∙ w.output_through.auto.room ∙ c.loop-k.invariant.room;
            marks = c.loop-k.invariant.marks
                ∙ sym (ap (λ (b : Blocks). length b.blocks) w.shares-is
                ∙ length-set blocks k (refill (length (get_or blocks k [])) (get_or blocks k []) w.output_through.new.out));
            added = rw w.shares-is (rw there
                (added_live c.args.part.now c.args.leaves.now live first blocks k _ c.loop-k.invariant.marks inside (omega arith) many
                c.loop-k.invariant.added w.if-live-k.true));
          }
      | else-live-k w ↦ record {
        size = ap (λ (b : Blocks). b.size) w.shares-is ∙ c.loop-k.invariant.size;
        room = ap length w.room-is ∙ c.loop-k.invariant.room;
        marks = c.loop-k.invariant.marks ∙ ap (λ (b : Blocks). length b.blocks) (sym w.shares-is);
        added = rw w.shares-is
            (added_retired c.args.part.now c.args.leaves.now live first blocks k _ c.loop-k.invariant.marks inside (omega arith) many
            c.loop-k.invariant.added w.if-live-k.false);
      }
    ]
