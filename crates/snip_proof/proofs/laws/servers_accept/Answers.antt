use Rattle.std.proofs.Common.{◌≡◌, ◌∙◌, ap, sym, subst}
use Rattle.std.specs.Prelude.{IsTrue}
use Rattle.audit_rules.specs.declared.sums.Sums.{Sums}
use Rattle.audit_rules.specs.Audit.{IsAccepted, PassesAt, ServersAccept, difference, whole_sums, whole_proof}
use Rattle.audit_rules.specs.Challenges.{sums_under}
use Rattle.audit_rules.proofs.ValueLemmas.{through_both}
use Rattle.snip_proof.proofs.Steps.{judged}
use Rattle.snip_proof.proofs.Writes.{whole_under}
use Rattle.snip_proof.proofs.laws.servers_accept.Goals as goal

pub returns-clause-accept : goal.returns-clause-accept
returns-clause-accept c =
    let sums0 = c.sums-sums0.result in
    let sums1 = c.sums-sums1.result in
    let share0 = c.args.shares.zero.now in
    let share1 = c.args.shares.one.now in
    let sigma = c.args.sigma in
    let accept : IsAccepted c.close_share-closing0.result c.close_share-closing1.result ≡ ServersAccept sums0 sums1 share0 share1 sigma =
    judged sums0 sums1 share0 share1 sigma c.open_share-opening0.ensures.openings c.open_share-opening1.ensures.openings c.close_share-closing0.ensures.closing c.close_share-closing1.ensures.closing in
    let under : ServersAccept sums0 sums1 share0 share1 sigma ≡ ServersAccept (sums_under c.args.ckey.now c.args.addresses.now c.args.leaves.zero.now) (sums_under c.args.ckey.now c.args.addresses.now c.args.leaves.one.now) share0 share1 sigma =
    ap (λ t. ServersAccept t sums1 share0 share1 sigma) c.sums-sums0.ensures.sums
    ∙ ap (λ t. ServersAccept (sums_under c.args.ckey.now c.args.addresses.now c.args.leaves.zero.now) t share0 share1 sigma) c.sums-sums1.ensures.sums in
    let P : Type 0 → Type 0 = λ A. (IsTrue c.judge.result → A) × (A → IsTrue c.judge.result) in
    subst P (accept ∙ under) c.judge.ensures.accepted

pub returns-clause-passes : goal.returns-clause-passes
returns-clause-passes c =
    let sums0 = c.sums-sums0.result in
    let sums1 = c.sums-sums1.result in
    let share0 = c.args.shares.zero.now in
    let share1 = c.args.shares.one.now in
    let sigma = c.args.sigma in
    let key = c.args.ckey.now in
    let places = c.args.addresses.now in
    let v = c.args.leaves.zero.now in
    let w = c.args.leaves.one.now in
    let accept : IsAccepted c.close_share-closing0.result c.close_share-closing1.result ≡ ServersAccept sums0 sums1 share0 share1 sigma =
    judged sums0 sums1 share0 share1 sigma c.open_share-opening0.ensures.openings c.open_share-opening1.ensures.openings c.close_share-closing0.ensures.closing c.close_share-closing1.ensures.closing in
    let whole : whole_sums sums0 sums1 ≡ sums_under key places (difference v w) =
    ap (λ t. whole_sums t sums1) c.sums-sums0.ensures.sums ∙ ap (whole_sums (sums_under key places v)) c.sums-sums1.ensures.sums
    ∙ whole_under key places v w c.read_words.ensures.in_range c.read_words-2.ensures.in_range (c.requires.zero ∙ sym c.requires.one) in
    let P : Type 0 → Type 0 = λ A. (IsTrue c.judge.result → A) × (A → IsTrue c.judge.result) in
    let Q : Sums → Type 0 = λ t. P (PassesAt t (whole_proof share0 share1) sigma) in
    subst Q whole (through_both (subst P accept c.judge.ensures.accepted) c.servers_accept_what_passes.ensures.passes)
