use Rattle.std.proofs.Common.{List, ℕ, take, drop, refl, sym, ap, ◌∙◌, arith}
use Rattle.gated_servers.proofs.OpeningLaws.{server_part, gate_part, same_lanes, same_rows}
use Rattle.gated_servers.proofs.opening.GatedOpening.of.Goals as goal

pub returns-in_err-server-clause-none : goal.returns-in_err-server-clause-none
returns-in_err-server-clause-none c = λ no o is same.
    c.in_err-server.ensures.none refl o.server is.server (c.split_at.ensures.front ∙ ap (λ (l : List ℕ). take 45 l) same ∙ server_part o is)

pub returns-in_err-gate-clause-none : goal.returns-in_err-gate-clause-none
returns-in_err-gate-clause-none c = λ no o is same.
    c.in_err-gate.ensures.none refl o.gate is.gate (c.split_at.ensures.back ∙ ap (λ (l : List ℕ). drop 45 l) same ∙ gate_part o is)

pub returns-then-gate-server-clause-none : goal.returns-then-gate-server-clause-none
returns-then-gate-server-clause-none c = λ no o is same.
    let server = sym c.in_ok-server.ensures.is ∙ c.split_at.ensures.front ∙ ap (λ (l : List ℕ). take 45 l) same ∙ server_part o is in
    let gate = sym c.in_ok-gate.ensures.is ∙ c.split_at.ensures.back ∙ ap (λ (l : List ℕ). drop 45 l) same ∙ gate_part o is in
    let lanes = same_lanes c.in_ok-server.server o.server server in
    let rows = same_rows c.in_ok-gate.gate o.gate c.in_ok-gate.ensures.some is.gate gate in
    let total = is.lanes in
    let other = c.if-gate-server.true in
    omega (arith, lanes, rows, total, other)
