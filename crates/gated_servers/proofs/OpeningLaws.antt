-- A gated server's opening record is cut in two at its 45th byte.
use Rattle.std.proofs.Common.{◌≡◌, ◌<◌, ◌^◌, ℕ, ◌+◌, List, ◌++◌, length, take, drop, sym, ap, subst, ◌∙◌, arith}
use Rattle.std.proofs.Math.Seq.{take-append_seam, drop-append_seam}
use Rattle.std.proofs.lemmas.Nat.{from_be_bytes-to_be_bytes_2}
use Rattle.std.specs.Int.{w16, to_be_bytes, from_be_bytes}
use Rattle.lane_gate.specs.declared.opening.GateOpening.{GateOpening}
use Rattle.lane_gate.specs.Openings as gate
use Rattle.lane_gate.specs.Openings.{IsGateOpening}
use Rattle.node_restart.specs.declared.opening.Opening.{Opening}
use Rattle.node_restart.specs.Openings as server
use Rattle.node_restart.specs.Openings.{IsOpening}
use Rattle.gated_servers.specs.declared.opening.GatedOpening.{GatedOpening}
use Rattle.gated_servers.specs.Openings.{IsGatedOpening, gated_record}

sized : (o : Opening) → IsOpening o → length (server.opening_record o) ≡ 45
sized o is = let seed = is.seed in omega (arith, seed)

front : (n : ℕ) (a b : List ℕ) → length a ≡ n → take n (a ++ b) ≡ a
front n a b is = subst (λ (m : ℕ). take m (a ++ b) ≡ a) is (take-append_seam a b)

back : (n : ℕ) (a b : List ℕ) → length a ≡ n → drop n (a ++ b) ≡ b
back n a b is = subst (λ (m : ℕ). drop m (a ++ b) ≡ b) is (drop-append_seam a b)

-- before it stands the server's, behind it the gate's
pub server_part : (o : GatedOpening) → IsGatedOpening o → take 45 (gated_record o) ≡ server.opening_record o.server
server_part o is = front 45 (server.opening_record o.server) (gate.opening_record o.gate) (sized o.server is.server)

pub gate_part : (o : GatedOpening) → IsGatedOpening o → drop 45 (gated_record o) ≡ gate.opening_record o.gate
gate_part o is = back 45 (server.opening_record o.server) (gate.opening_record o.gate) (sized o.server is.server)

-- ---- the numbers of lanes that records tell

short_one : (a b : ℕ) → a < 2 ^ 16 → b < 2 ^ 16 → to_be_bytes w16 a ≡ to_be_bytes w16 b → a ≡ b
short_one a b fa fb is = sym (from_be_bytes-to_be_bytes_2 a fa) ∙ ap (from_be_bytes w16) is ∙ from_be_bytes-to_be_bytes_2 b fb

pub same_lanes : (a b : Opening) → server.opening_record a ≡ server.opening_record b → a.settings.lanes ≡ b.settings.lanes
same_lanes a b is =
    let s = a.settings in
    let t = b.settings in
    short_one s.lanes t.lanes (omega (arith, s.limits.2.1)) (omega (arith, t.limits.2.1)) (ap (λ (l : List ℕ). take 2 (drop 10 l)) is)

pub same_rows : (a b : GateOpening) → IsGateOpening a → IsGateOpening b → gate.opening_record a ≡ gate.opening_record b → a.owners + a.strangers ≡ b.owners + b.strangers
same_rows a b few also is =
    let owners = short_one a.owners b.owners (omega (arith, few)) (omega (arith, also)) (ap (λ (l : List ℕ). take 2 (drop 1 l)) is) in
    let strangers = short_one a.strangers b.strangers (omega (arith, few)) (omega (arith, also)) (ap (λ (l : List ℕ). drop 3 l) is) in
    omega (arith, owners, strangers)
