use Rattle.std.proofs.Common.{◌≡◌, ◌∙◌, ap, sym, subst, Err, Result}
use Rattle.std.specs.Prelude.{option_map, IsOk}
use Rattle.step_rules.specs.Client.{Client}
use Rattle.step_rules.specs.ClientAsks.{asked}
use Rattle.client_core.specs.declared.request.AskFault.{AskFault}
use Rattle.client_core.specs.Requests.{plain_request, fault_in}
use Rattle.client_restart.specs.declared.machine.OpenedClient.{OpenedClient}
use Rattle.client_restart.specs.Keeps.{KeepsNote, sight}
use Rattle.client_restart.specs.Kept.{ClientState}
use Rattle.client_restart.specs.Notes.{Asked, Noted}
use Rattle.client_restart.proofs.CallLaws.{refused_is, taken_is, keeps_err, one_answer}
use Rattle.client_restart.proofs.kept.KeptClient.ask.Goals as goal

pub returns-in-Some-clause-refused : goal.returns-in-Some-clause-refused
returns-in-Some-clause-refused g c =
    let request = plain_request c.args.request.now in
    subst (λ (x : Client). asked x request ≡ Err (fault_in c.in-Some.fault)) (ap (λ (m : OpenedClient). m.core.client) c.machine.ensures.value ∙ ap (λ (k : ClientState g.row.D.Denot). k.core.client) c.self.view_is)
    (refused_is c.machine.result.now.core.client request (fault_in c.in-Some.fault) (sym (ap (option_map fault_in) c.in-Some.is) ∙ c.fault_at.ensures))

pub returns-in-Some-clause-keeps : goal.returns-in-Some-clause-keeps
returns-in-Some-clause-keeps g c taken =
    absurd (one_answer (asked c.args.self.now.core.client (plain_request c.args.request.now)) (fault_in c.in-Some.fault) taken (returns-in-Some-clause-refused g c))

pub returns-in-Ok-clause-taken : goal.returns-in-Ok-clause-taken
returns-in-Ok-clause-taken g c =
    let request = plain_request c.args.request.now in
    subst (λ (x : Client). IsOk (asked x request)) (ap (λ (m : OpenedClient). m.core.client) c.machine.ensures.value ∙ ap (λ (k : ClientState g.row.D.Denot). k.core.client) c.self.view_is)
    (taken_is c.machine.result.now.core.client request (sym (ap (option_map fault_in) c.in-None.is) ∙ c.fault_at.ensures))

pub returns-in-Err-clause-not_kept : goal.returns-in-Err-clause-not_kept
returns-in-Err-clause-not_kept g c =
    let request = plain_request c.args.request.now in
    subst (λ (x : Client). IsOk (asked x request)) (ap (λ (m : OpenedClient). m.core.client) c.machine.ensures.value ∙ ap (λ (k : ClientState g.row.D.Denot). k.core.client) c.self.view_is)
    (taken_is c.machine.result.now.core.client request (sym (ap (option_map fault_in) c.in-None.is) ∙ c.fault_at.ensures))

pub returns-in-Err-clause-keeps : goal.returns-in-Err-clause-keeps
returns-in-Err-clause-keeps g c taken =
    let old = sight g.D.Disk.disk g.D.Counted.seen c.args.self.now in
    let new = sight g.D.Disk.disk g.D.Counted.seen c.take.new.self in
    keeps_err (Unit {0}) (Result (Unit {0}) AskFault) (Asked (plain_request c.args.request.now)) old new c.in-Err.fault
    (subst (λ (n : Noted). KeepsNote {T = Unit {0}} n old new (Err c.in-Err.fault)) c.asked_note.ensures.note c.in-Err.ensures.keeps)
