use Rattle.std.proofs.Common.{◌≡◌, ◌∙◌, map, ap, sym, subst}
use Rattle.node_client.specs.declared.peers.Peers.{Peers}
use Rattle.client_run.specs.Accounts.{Account, AreAt, account_in, client_account, opened, request_of}
use Rattle.client_core.specs.Requests.{plain_request}
use Rattle.client_run.proofs.FitLaws.{askings_fit, lent_fit}
use Rattle.client_run.proofs.RunLaws.{client_comes, client_wants}
use Rattle.client_run.proofs.client.run_client.Goals as goal

pub returns-in_err-requests-clause-comes : goal.returns-in_err-requests-clause-comes
returns-in_err-requests-clause-comes g c =
    let peers : Peers = record { leader = c.as_str.result; helper = c.as_str-2.result } in
    client_wants c.args.settings.now c.args.seed.now peers _ _ (record { leads = c.as_str.ensures; helps = c.as_str-2.ensures }) c.from_residual.ensures.1

pub returns-in_err-worker-clause-comes : goal.returns-in_err-worker-clause-comes
returns-in_err-worker-clause-comes g c =
    let peers : Peers = record { leader = c.as_str.result; helper = c.as_str-2.result } in
    client_wants c.args.settings.now c.args.seed.now peers _ _ (record { leads = c.as_str.ensures; helps = c.as_str-2.ensures }) c.from_residual-in_err-worker.ensures.1

pub tell_off-end-requires-clause-fits : goal.tell_off-end-requires-clause-fits
tell_off-end-requires-clause-fits g c =
    let settings = c.args.settings.now in
    let width : c.in_ok-worker.worker.client.width ≡ settings.width = c.in_ok-worker.ensures.width ∙ ap (λ (a : Account). a.width) c.client_account.ensures in
    lent_fit settings.width _ settings.requests _ _ _ width c.as_slice.ensures c.as_slice-2.ensures.value c.in_ok-requests.ensures (askings_fit settings.width settings.requests c.requires.settings.requests)

pub returns-clause-comes : goal.returns-clause-comes
returns-clause-comes g c =
    let settings = c.args.settings.now in
    let start = c.in_ok-worker.ensures.opened ∙ ap opened c.client_account.ensures in
    let requests = ap (map plain_request) c.as_slice-2.ensures.value ∙ c.in_ok-requests.ensures ∙ ap (map request_of) c.as_slice.ensures in
    let at : AreAt c.in_ok-worker.worker.peers settings.leader settings.helper
    = subst (λ (p : Peers). AreAt p settings.leader settings.helper) (sym c.in_ok-worker.ensures.peers) (record { leads = c.as_str.ensures; helps = c.as_str-2.ensures }) in
    client_comes settings c.args.seed.now c.in_ok-worker.worker.peers _ _ _ _ _ _ start requests at c.tell_off-end.ensures.tells c.said.ensures
