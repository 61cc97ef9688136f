use Rattle.std.proofs.Common.{◌≡◌, ◌-◌, length, ◌*◌}
use Rattle.letter_copies.specs.Copies.{all_written}
use Rattle.letter_copies.proofs.copies.Copies.is_all_written.Given as goal

abbrev pub invariant-parts : goal.invariant-parts
invariant-parts l =
    (length l.rest ≡ (l.end - l.counter) * l.each)
    × (all_written l.self.parts l.self.each l.self.standings ≡ all_written (l.end - l.counter) l.each l.rest)
