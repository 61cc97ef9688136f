use Rattle.std.proofs.Common.{◌≡◌, ◌≤◌, ◌+◌, length, map}
use Rattle.std.specs.List.{filter}
use Rattle.kept_ledger.specs.declared.entry.Handling.TheVariants.{Shown}
use Rattle.owner_mail.specs.News.{is_due}
use Rattle.owner_mail.proofs.counts.count_new.Given as goal

abbrev pub invariant-loop-rest : goal.invariant-loop-rest
invariant-loop-rest l = record {
  sum : l.count + length (filter (is_due Shown l.ledger.state.marks) (map (λ x. x.now) l.rest))
      ≡ length (filter (is_due Shown l.ledger.state.marks) (map (λ x. x.now) l.letters));
  few : l.count + length l.rest ≤ length l.letters;
}

abbrev pub decreases-loop-rest : goal.decreases-loop-rest
decreases-loop-rest l = length l.rest
