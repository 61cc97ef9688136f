use Rattle.std.proofs.Common.{◌≡◌, ◌≤◌, length, map}
use Rattle.std.specs.Prelude.{slice_index}
use Rattle.std.specs.List.{range_with_len}
use Rattle.file_carry.specs.Parts.{part_of}
use Rattle.settings_text.specs.declared.requests.Asking.TheVariants.{Write}
use Rattle.client_run.proofs.parts.writes_of.Given as goal

abbrev pub invariant-loop-index : goal.invariant-loop-index
invariant-loop-index l = record {
  within : l.index ≤ length l.addresses;
  items : l.askings.items ≡ map (λ i. Write (slice_index l.addresses i) (part_of l.file l.id l.width i)) (range_with_len 0 l.index);
}
