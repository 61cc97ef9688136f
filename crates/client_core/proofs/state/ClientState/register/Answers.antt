use Rattle.std.proofs.Common.{◌∙◌, ap, sym, None, ℕ, ◌+◌, [], ◌∷◌, ◌++◌}
use Rattle.step_rules.specs.Client.{Client}
use Rattle.step_rules.specs.ClientAsks.{owned_by}
use Rattle.step_rules.specs.ClientReplies.{on_registered}
use Rattle.client_core.specs.States.{client_in}
use Rattle.client_core.proofs.state.ClientState.register.Goals as goal

pub returns-clause-client : goal.returns-clause-client
unfolding on_registered
returns-clause-client c =
    let old = client_in c.args.self.now in
    ap client_in (sym c.finish.ensures.rest)
    ∙ (ap (λ (d : Client). record d { current = None; serial = d.serial + 1 }) c.add_box.ensures.added
    ∙ ap (λ (k : ℕ). record old { owned = old.owned ++ owned_by old c.args.number k ∷ []; current = None; serial = old.serial + 1 }) c.current_serial-serial.ensures)
