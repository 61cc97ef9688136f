use Rattle.std.proofs.Common.{◌≡◌, None, List, ℕ, take, refl, sym, subst, ◌∙◌, arith, rules}
use Rattle.node_restart.specs.declared.server.Core.{Core}
use Rattle.node_restart.specs.Steps.{resent_by}
use Rattle.node_serve.specs.Draining.{Course, IsOldest, DrainsOn, none}
use Rattle.node_serve.specs.Outcomes.{exchange_ways, drain_ways}
use Rattle.node_serve.proofs.ReachLaws.{breaks_in, broke_more, drains_more, refuses_in}
use Rattle.node_serve.proofs.draining.drain.Goals as goal

pub draining-init : goal.draining-init
draining-init g c = record {
  room = c.requires.room;
  answer_room = c.requires.answer_room;
  within = c.requires.within;
  drains = λ first before p r. (p, none, r, λ told. told);
  count = refl;
  failures = refl;
  door = refl;
}

pub draining-preserved : goal.draining-preserved
draining-preserved g c =
    let sent : List ℕ = take c.in-Some.size c.oldest.new.out in
    record {
      room = omega (arith, c.draining.invariant.room, c.oldest.auto.out, c.exchange_one.auto.out);
      answer_room = omega (arith, c.draining.invariant.answer_room, c.exchange_one.auto.answer);
      within = c.in-Ok.ensures.within;
      drains = λ first before p r.
          let at = c.draining.invariant.drains first before p r in
          let next = c.in-Ok.ensures.ends first before at.0 at.2 in
          let oldest = subst (λ (x : Core). IsOldest x sent) at.2.core c.in-Some.ensures.written in
          (next.0, drains_more p at.0 next.0 sent _ at.1 oldest next.1, next.2, λ told. next.1.reply_is);
      count = c.in-Ok.ensures.fault ∙ c.draining.invariant.count;
      failures = c.in-Ok.ensures.counts ∙ c.draining.invariant.failures;
      door = c.exchange_one.ensures.door ∙ c.draining.invariant.door;
    }

pub returns-in-Err-clause-ends : goal.returns-in-Err-clause-ends
returns-in-Err-clause-ends g c = λ first before p r.
    let at = c.draining.invariant.drains first before p r in
    let wider : (q : Course) → q ≡ at.0 → DrainsOn p q = λ q is. subst (DrainsOn p) (sym is) at.1 in
    let out = c.exchange_one.new.out in
    broke_more _ _ (exchange_ways at.0 (take c.in-Some.size c.oldest.new.out) out) (drain_ways p (take c.args.told c.args.out.now) out) c.in-Err.why _ _ (breaks_in _ (DrainsOn p) wider) (refuses_in _ (DrainsOn p) wider) (c.in-Err.ensures.ends first before at.0 at.2)

pub returns-clause-ends : goal.returns-clause-ends
returns-clause-ends g c = λ first before p r.
    let core = g.S.Logged.log.core in
    let empty : resent_by (core c.draining.server) ≡ None = search rules in
    let same : c.oldest.new.out ≡ c.draining.out = search rules in
    let at = c.draining.invariant.drains first before p r in
    rw same (at.0, (record { drains = at.1; empty = subst (λ (x : Core). resent_by x ≡ None) at.2.core empty }, at.3), at.2)
