use Rattle.std.proofs.Common.{◌≡◌, ◌∙◌, ◌+◌, ◌-◌, ap, sym, arith, Ok}
use Rattle.desk_texts.specs.Lines.{lines_in}
use Rattle.desk_texts.proofs.LoopLaws.{step_ok, step_err, end_ok, handed_on}
use Rattle.desk_texts.proofs.reading.addresses_at.Goals as goal

pub returns-in_err-address : goal.returns-in_err-address
returns-in_err-address c =
    handed_on (λ addresses. addresses) c.from_residual.result c.in_err-address.field-0.0 _ _ c.from_residual.ensures.1 c.in_err-address.ensures
    (λ n is.
    sym c.loop-index.invariant
    ∙ step_err c.args.count c.loop-index.index (c.args.place + c.loop-index.index) c.loop-index.said.items c.loop-index.addresses.items (lines_in c.loop-index.rest.now) n c.loop-index-test.true (rw c.deref.ensures.value at is))

pub loop-index-preserved : goal.loop-index-preserved
loop-index-preserved c =
    let step = step_ok c.args.count c.loop-index.index (c.args.place + c.loop-index.index) c.loop-index.said.items c.loop-index.addresses.items (lines_in c.loop-index.rest.now) c.in_ok-address.address c.address_at.new.said.items (lines_in c.in_ok-address.behind.now) c.loop-index-test.true (rw c.deref.ensures.value at c.in_ok-address.ensures) in
    let place : c.args.place + (c.loop-index.index + 1) ≡ c.args.place + c.loop-index.index + 1 = omega arith in
    rw (c.in_ok-push.ensures.items, place) (sym step ∙ c.loop-index.invariant)

pub returns : goal.returns
returns c =
    sym c.loop-index.invariant
    ∙ end_ok (c.args.count - c.loop-index.index) (c.args.place + c.loop-index.index) c.loop-index.said.items c.loop-index.addresses.items (lines_in c.loop-index.rest.now) (omega arith)
    ∙ ap Ok (sym c.from_vec.ensures)
