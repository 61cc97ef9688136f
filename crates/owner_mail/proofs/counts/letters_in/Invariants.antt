use Rattle.std.proofs.Common.{◌≡◌, ◌++◌, length, map}
use Rattle.owner_mail.specs.Mail.{all_letters}
use Rattle.owner_mail.proofs.counts.letters_in.Given as goal

abbrev pub invariant-loop-rest : goal.invariant-loop-rest
invariant-loop-rest l = map (λ x. x.now) l.letters.items ++ all_letters l.rest ≡ all_letters l.mails

abbrev pub decreases-loop-rest : goal.decreases-loop-rest
decreases-loop-rest l = length l.rest
