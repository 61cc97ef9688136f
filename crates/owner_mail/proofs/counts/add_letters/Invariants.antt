use Rattle.std.proofs.Common.{◌≡◌, ◌++◌, length, map}
use Rattle.owner_mail.proofs.counts.add_letters.Given as goal

abbrev pub invariant-loop-rest : goal.invariant-loop-rest
invariant-loop-rest l =
    map (λ x. x.now) l.letters.items ++ l.rest ≡ map (λ x. x.now) l.fn.letters.items ++ l.mail.letters

abbrev pub decreases-loop-rest : goal.decreases-loop-rest
decreases-loop-rest l = length l.rest
