use Rattle.std.proofs.Common.{◌≡◌, ◌∙◌}
use Rattle.std.specs.Prelude.{◌==◌, if◌then◌else◌}
use Rattle.audit_rules.specs.Audit.{product}
use Rattle.snip_proof.proofs.Steps.{closed, both_at_zero, both_elsewhere}
use Rattle.snip_proof.proofs.servers.close_share.Goals as goal
use Rattle.snip_proof.proofs.servers.close_share.Goals.{then-server-eq0, else-server-eq0}

pub returns : goal.returns
returns c =
    let opened = c.args.opened.now in
    let crossed = product opened.d opened.e in
    let both : c.if-server-eq0.both ≡ (if c.args.server == 0 then crossed else 0) =
    elim c.if-server-eq0.branch [
      | then-server-eq0 w ↦ w.both-is ∙ w.mul_fast-both.ensures ∙ both_at_zero c.args.server crossed w.if-server-eq0.true
      | else-server-eq0 w ↦ w.both-is ∙ both_elsewhere c.args.server crossed c.requires.server w.if-server-eq0.false
    ] in
    record {
      closing =
          closed c.args.server c.args.share.now c.args.sigma opened c.value_of.ensures.value c.value_of-2.ensures.value
          c.mul_fast.ensures c.mul_fast-2.ensures c.value_of-of_h.ensures.value c.mul_fast-3.ensures both;
    }
