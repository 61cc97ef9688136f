use Rattle.std.proofs.Common.{◌≡◌, ◌∙◌, length, map, ap, sym, subst, refl, arith}
use Rattle.client_core.specs.Requests.{plain_request}
use Rattle.node_client.specs.declared.peers.Peers.{Peers}
use Rattle.client_run.specs.Accounts.{Account, AreAt, account_in, opened, request_of}
use Rattle.client_run.specs.Carrying.{carry_account, askings_of}
use Rattle.client_run.proofs.FitLaws.{lent_fit, as_many}
use Rattle.client_run.proofs.PartLaws.{fetch_count, job_fits}
use Rattle.client_run.proofs.RunLaws.{carry_wants, fetch_wants, fetched, sent}
use Rattle.client_run.proofs.carry.run_carry.Goals as goal

pub returns-in_err-askings-clause-comes : goal.returns-in_err-askings-clause-comes
returns-in_err-askings-clause-comes g c =
    let peers : Peers = record { leader = c.as_str.result; helper = c.as_str-2.result } in
    carry_wants c.args.settings.now c.args.seed.now peers _ _ (record { leads = c.as_str.ensures; helps = c.as_str-2.ensures }) c.from_residual.ensures.1

pub returns-in_err-requests-clause-comes : goal.returns-in_err-requests-clause-comes
returns-in_err-requests-clause-comes g c =
    let peers : Peers = record { leader = c.as_str.result; helper = c.as_str-2.result } in
    carry_wants c.args.settings.now c.args.seed.now peers _ _ (record { leads = c.as_str.ensures; helps = c.as_str-2.ensures }) c.from_residual-in_err-requests.ensures.1

pub returns-in_err-worker-clause-comes : goal.returns-in_err-worker-clause-comes
returns-in_err-worker-clause-comes g c =
    let peers : Peers = record { leader = c.as_str.result; helper = c.as_str-2.result } in
    carry_wants c.args.settings.now c.args.seed.now peers _ _ (record { leads = c.as_str.ensures; helps = c.as_str-2.ensures }) c.from_residual-in_err-worker.ensures.1

pub send-requires-clause-fits : goal.send-requires-clause-fits
send-requires-clause-fits g c =
    let settings = c.args.settings.now in
    let width : c.in_ok-worker.worker.client.width ≡ settings.width = c.in_ok-worker.ensures.width ∙ ap (λ (a : Account). a.width) c.carry_account.ensures in
    lent_fit settings.width _ (askings_of settings.width settings.owned settings.job) _ _ _ width (c.as_slice.ensures.value ∙ c.in_ok-askings.ensures) c.as_slice-in-Send.ensures.value c.in_ok-requests.ensures
    (job_fits settings.width settings.owned settings.job (omega (arith, c.requires.settings.width.0)))

pub fetch-requires-clause-few : goal.fetch-requires-clause-few
fetch-requires-clause-few g c =
    let settings = c.args.settings.now in
    let many : length c.in_ok-requests.requests.items ≡ length (askings_of settings.width settings.owned settings.job)
    = as_many _ _ c.in_ok-requests.ensures ∙ ap length (c.as_slice.ensures.value ∙ c.in_ok-askings.ensures) in
    fetch_count settings.width (length c.as_slice-in-Fetch.result.now) settings.owned settings.job c.in-Fetch.is (omega (arith, many, ap length c.as_slice-in-Fetch.ensures.value))

pub fetch-requires-clause-fits : goal.fetch-requires-clause-fits
fetch-requires-clause-fits g c =
    let settings = c.args.settings.now in
    let width : c.in_ok-worker.worker.client.width ≡ settings.width = c.in_ok-worker.ensures.width ∙ ap (λ (a : Account). a.width) c.carry_account.ensures in
    lent_fit settings.width _ (askings_of settings.width settings.owned settings.job) _ _ _ width (c.as_slice.ensures.value ∙ c.in_ok-askings.ensures) c.as_slice-in-Fetch.ensures.value c.in_ok-requests.ensures
    (job_fits settings.width settings.owned settings.job (omega (arith, c.requires.settings.width.0)))

pub returns-in-Send-clause-comes : goal.returns-in-Send-clause-comes
returns-in-Send-clause-comes g c =
    let settings = c.args.settings.now in
    let start = c.in_ok-worker.ensures.opened ∙ ap opened c.carry_account.ensures in
    let requests = ap (map plain_request) c.as_slice-in-Send.ensures.value ∙ c.in_ok-requests.ensures ∙ ap (map request_of) (c.as_slice.ensures.value ∙ c.in_ok-askings.ensures) in
    let at : AreAt c.in_ok-worker.worker.peers settings.leader settings.helper
    = subst (λ (p : Peers). AreAt p settings.leader settings.helper) (sym c.in_ok-worker.ensures.peers) (record { leads = c.as_str.ensures; helps = c.as_str-2.ensures }) in
    sent settings c.args.seed.now c.in_ok-worker.worker.peers _ _ _ _ _ _ _ _ _ start requests at c.in-Send.is (ap length c.as_slice-parts.ensures) c.send.ensures.sends
