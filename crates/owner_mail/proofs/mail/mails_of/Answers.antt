use Rattle.std.proofs.Common.{◌∙◌, ◌+◌, ℕ, List, subst, sym, take}
use Rattle.std.specs.List.{AllZip}
use Rattle.std.proofs.lemmas.List.{take_all}
use Rattle.kept_ledger.specs.declared.entry.NamedBoxes.{NamedBoxes}
use Rattle.owner_mail.specs.Mail.{IsMailOf, NamedMail}
use Rattle.owner_mail.proofs.MailLaws.{zip_more}
use Rattle.owner_mail.proofs.mail.mails_of.Goals as goal

pub loop-named-preserved : goal.loop-named-preserved
loop-named-preserved c =
    let names : List NamedBoxes = c.named-names.result.now in
    let i : ℕ = c.loop-named.named-index in
    subst (λ (l : List NamedMail). AllZip (λ (n : NamedBoxes) (m : NamedMail). IsMailOf
    c.args.ledger.now.state
    n.name m) (take (i + 1) names) l) (sym c.in_ok-push.ensures.items)
    (zip_more (λ (n : NamedBoxes) (m : NamedMail). IsMailOf c.args.ledger.now.state n.name m) names
    c.loop-named.mails.items i c.named-item.result c.in_ok-mail.mail c.loop-named-test.true c.named-item.is
    c.loop-named.invariant
    (subst (λ (n : List ℕ). IsMailOf c.args.ledger.now.state n c.in_ok-mail.mail) c.as_str.ensures
    c.in_ok-mail.ensures))

pub returns : goal.returns
returns c =
    subst (λ (l : List NamedBoxes). AllZip (λ (n : NamedBoxes) (m : NamedMail). IsMailOf
    c.args.ledger.now.state
    n.name m) l c.loop-named.mails.items)
    (take_all c.loop-named.named-index c.named-names.result.now c.loop-named-test.false ∙
    c.named-names.ensures)
    c.loop-named.invariant
