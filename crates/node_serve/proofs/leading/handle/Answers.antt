use Rattle.std.proofs.Common.{[], refl, sym, ap, ◌∙◌, inl, inr, take}
use Rattle.node_restart.specs.declared.server.Core.{Core}
use Rattle.node_restart.specs.declared.frames.Sender.TheVariants.{Client}
use Rattle.node_restart.specs.Frames.{handed}
use Rattle.node_restart.specs.Steps.{step_of}
use Rattle.node_serve.specs.Draining.{begun, took, DrainsOn}
use Rattle.node_serve.specs.Handing.{answer_of}
use Rattle.node_serve.specs.Outcomes.{drain_ways, handle_ways}
use Rattle.node_serve.specs.Responding.{InDrain}
use Rattle.node_serve.proofs.ReachLaws.{begins, breaks_in, broke_more, comes_more, goes_on, refused_behind, refuses_in}
use Rattle.node_serve.proofs.leading.handle.Goals as goal

pub returns-in-Err-clause-ends : goal.returns-in-Err-clause-ends
returns-in-Err-clause-ends g c =
    let log = g.S.Logged.log in
    let start = begun (log.core c.args.server.now) in
    let bytes = c.args.received.now in
    let D = InDrain bytes start in
    let out = c.drain.new.out in
    broke_more _ _ (drain_ways start [] out) (handle_ways start bytes out) c.in-Err.why _ _ (breaks_in (DrainsOn start) D (λ p on. inl on)) (λ end h stops. inl (refuses_in (DrainsOn start) D (λ p on. inl on) end h stops))
    (c.in-Err.ensures.ends _ _ start (begins log c.args.peer.now c.args.server.now _ (g.met.S.Logged.none c.args.server.now)))

pub returns-in-Ok-step-clause-ends : goal.returns-in-Ok-step-clause-ends
returns-in-Ok-step-clause-ends g c =
    let log = g.S.Logged.log in
    let start = begun (log.core c.args.server.now) in
    let bytes = c.args.received.now in
    let D = InDrain bytes start in
    let one = c.in-Ok.ensures.ends _ _ start (begins log c.args.peer.now c.args.server.now _ (g.met.S.Logged.none c.args.server.now)) in
    let tells = c.in-Ok-step.ensures.steps in
    let between = took one.0 Client bytes in
    let told = sym (tells.answer ∙ ap (λ (x : Core). answer_of (step_of x Client bytes)) one.2.core) in
    let out = c.drain-in-Ok-step.new.out in
    comes_more _ _ (drain_ways between (take c.in-Ok-step.stepped.told c.step.new.out) out) (handle_ways start bytes out) c.drain-in-Ok-step.result _ _ (λ n end is. (record { before = one.0; first = one.1.0; second = is.0 }, is.1 told))
    (breaks_in (DrainsOn between) D (λ p on. inr (one.0, one.1.0, on))) (λ end h stops. inl (refuses_in (DrainsOn between) D (λ p on. inr (one.0, one.1.0, on)) end h stops))
    (c.drain-in-Ok-step.ensures.ends _ _ between (goes_on log _ _ _ _ _ one.0 Client bytes g.met.S.Logged.both one.2 tells.core_is c.in-Ok-step.ensures.takes))

pub returns-in-Err-step-clause-ends : goal.returns-in-Err-step-clause-ends
returns-in-Err-step-clause-ends g c =
    let log = g.S.Logged.log in
    let one = c.in-Ok.ensures.ends _ _ (begun (log.core c.args.server.now)) (begins log c.args.peer.now c.args.server.now _ (g.met.S.Logged.none c.args.server.now)) in
    let off = c.in-Err-step.ensures in
    let client = handed Client c.args.received.now in (
      one.0,
      (
        client,
        inr (one.1.0, refl),
        record {
          core = off.no_step ∙ one.2.core;
          stops = refused_behind log _ _ _ one.0.frames client _ g.met.S.Logged.halts one.2.takes off.stops;
          made = one.2.made;
        },
      ),
    )
