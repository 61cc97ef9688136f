use Rattle.std.proofs.Common.{◌≡◌, length, take, drop, sym, ap, subst, ◌∙◌}
use Rattle.step_rules.specs.Leader.{Leader, written}
use Rattle.step_rules.specs.LeaderClients.{on_client}
use Rattle.step_rules.specs.Refusals.{TurnLeaves}
use Rattle.step_rules.proofs.LeaderRefusals.{clients}
use Rattle.leader_core.specs.Awaited.{RowsAwait, TellsAwaited}
use Rattle.leader_core.specs.Told.{turned}
use Rattle.leader_core.proofs.ClientAwaits.{client_awaits, client_tells}
use Rattle.leader_core.proofs.leader.Leader.hear_client.Goals as goal

pub returns-clause-turn : goal.returns-clause-turn
returns-clause-turn g c =
    let a = c.args.self.now in
    let bytes = c.args.received.now in
    let out = c.args.out.now in
    let out_new = c.hear_client.new.out in
    let is = c.self.view_is in
    let did = c.hear_client.ensures.does in
    let new = did.leader ∙ ap (λ (x : Leader). (on_client x bytes).leader) is in
    let told = did.told.turn ∙ ap (λ (x : Leader). turned (on_client x bytes).answer) is in
    record {
      leader = new;
      refused = subst (λ (x : Leader). TurnLeaves (on_client a bytes).answer a x) (sym new) (clients a bytes);
      answer = told;
      written = subst (λ (x : Leader). take (length (written (on_client x bytes).answer)) out_new ≡ written (on_client x bytes).answer) is did.told.bytes.front;
      rest = subst (λ (x : Leader). drop (length (written (on_client x bytes).answer)) out_new ≡ drop (length (written (on_client x bytes).answer)) out) is did.told.bytes.rest;
      awaits = subst (TellsAwaited a bytes) (sym told) (client_tells a bytes (subst RowsAwait is c.self.invariant.rows));
      rows = subst RowsAwait (sym did.leader) (client_awaits _ bytes c.self.invariant.rows);
      settings = c.hear_client.ensures.settings ∙ ap (λ (x : Leader). x.settings) is;
    }

pub invariant_of-self : goal.invariant_of-self
invariant_of-self g c =
    let bytes = c.args.received.now in
    record { core = c.hear_client.ensures.does.is; rows = subst RowsAwait (sym c.hear_client.ensures.does.leader) (client_awaits _ bytes c.self.invariant.rows) }
