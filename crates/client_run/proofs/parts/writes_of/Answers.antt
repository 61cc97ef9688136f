use Rattle.std.proofs.Common.{ℕ, List, ap, arith}
use Rattle.std.specs.Prelude.{slice_index}
use Rattle.file_carry.specs.Parts.{part_of}
use Rattle.settings_text.specs.declared.requests.Asking.TheVariants.{Write}
use Rattle.client_run.proofs.PartLaws.{one_more}
use Rattle.client_run.proofs.parts.writes_of.Goals as goal

pub loop-index-preserved : goal.loop-index-preserved
loop-index-preserved c =
    let addresses = c.args.addresses.now in
    let file = c.args.file.now in
    let ask = ap (λ (bytes : List ℕ). Write (slice_index addresses c.loop-index.index) bytes) c.in_ok-part.ensures in
    record {
      within = omega (arith, c.loop-index-test.true);
      items = one_more (λ (i : ℕ). Write (slice_index addresses i) (part_of file c.args.id c.args.width i)) _ _ c.loop-index.index _ ask c.in_ok-push.ensures.items c.loop-index.invariant.items;
    }
