use Rattle.std.proofs.Common.{◌≡◌, take, map, length}
use Rattle.std.specs.List.{All}
use Rattle.told_letters.specs.Parts.{contents, parts_in}
use Rattle.told_letters.proofs.partial.with_counts.Given as goal

abbrev pub invariant-loop-heading : goal.invariant-loop-heading
invariant-loop-heading l = record {
  headings : map (λ q. q.heading) l.partial.items ≡ take l.heading-index l.headings;
  counts : All (λ q. q.known ≡ length (parts_in (contents l.known) q.heading)) l.partial.items;
}
