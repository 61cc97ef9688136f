use Rattle.std.proofs.Common.{Some, ap, sym, ◌∙◌}
use Rattle.std.specs.Prelude.{option_map}
use Rattle.client_core.specs.Requests.{plain_request}
use Rattle.desk_outbox.proofs.TryLaws.{written}
use Rattle.desk_outbox.proofs.reopening.written_len.Goals as goal

pub returns-in-Some-Write-clause-some : goal.returns-in-Some-Write-clause-some
returns-in-Some-Write-clause-some g c =
    let is = c.in-Some-Write.is ∙ ap Some c.in-Some-Write.field-0-is in
    written _ _ _ (sym (ap (option_map plain_request) is) ∙ c.request.ensures)
