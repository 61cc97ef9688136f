use Rattle.std.proofs.Common.{refl, arith}
use Rattle.step_rules.specs.Helper.{opened_server}
use Rattle.helper_core.proofs.helper.Helper.open.Goals as goal

pub invariant_of-result : goal.invariant_of-result
unfolding opened_server
invariant_of-result c =
    let kept = c.in_ok-link.ensures.link in
    rw (c.in_ok-server.ensures, c.in_ok-link.ensures.opened)
    (record { window = refl; size = refl; kept = rw c.in_ok-link.ensures.opened at kept; draws = omega arith; mask = let e = c.in-Ok.ensures.len in omega arith })
