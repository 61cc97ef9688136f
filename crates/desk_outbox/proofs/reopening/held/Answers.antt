use Rattle.std.proofs.Common.{ℕ, List, sym, ◌∙◌, subst}
use Rattle.client_restart.specs.declared.opening.ClientOpening.{ClientOpening}
use Rattle.desk_outbox.specs.Outboxes.{IsTry}
use Rattle.desk_outbox.specs.Reopening.{Tells}
use Rattle.desk_outbox.proofs.ReopenLaws.{begun_of}
use Rattle.desk_outbox.proofs.reopening.held.Goals as goal

pub returns-in_default-clause-nothing : goal.returns-in_default-clause-nothing
returns-in_default-clause-nothing g c = (c.into_disk.ensures, c.written_len.ensures.none c.in_default.is)

pub returns-then-not-is_try-clause-foreign : goal.returns-then-not-is_try-clause-foreign
returns-then-not-is_try-clause-foreign g c = λ some card place t try.
    let w = c.in-Some.ensures.some in
    let told = subst (λ (r : List (List ℕ)). Tells r c.in-Ok.card c.in-Ok.place) c.remarks.ensures c.in-Ok.ensures.told in
    let is = subst (λ (o : ClientOpening). IsTry o card place c.args.client.core.client.current) (sym c.opening.ensures.value) try in
    let begun = begun_of _ c.in-Ok.card card c.in-Ok.place place c.in-Some.len w.message _ _ c.sheet_is_read_exactly.ensures.only c.opening.ensures.is w w.fits told t is in
    let yes = (c.is_try.ensures w.message w.fits).1 begun in
    absurd (cc (sym yes ∙ c.if-not-is_try.true))

pub returns-in-Err-clause-foreign : goal.returns-in-Err-clause-foreign
returns-in-Err-clause-foreign g c = λ some card place t try. c.in-Err.ensures.foreign some card place (subst (λ (r : List (List ℕ)). Tells r card place) (sym c.remarks.ensures) t)
