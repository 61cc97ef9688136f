use Rattle.std.proofs.Common.{take}
use Rattle.std.specs.List.{AllZip}
use Rattle.kept_ledger.specs.declared.entry.NamedBoxes.{NamedBoxes}
use Rattle.owner_mail.specs.Mail.{IsMailOf, NamedMail}
use Rattle.owner_mail.proofs.mail.mails_of.Given as goal

abbrev pub invariant-loop-named : goal.invariant-loop-named
invariant-loop-named l =
    AllZip (λ (n : NamedBoxes) (m : NamedMail). IsMailOf l.ledger.state n.name m)
    (take l.named-index l.names) l.mails.items
