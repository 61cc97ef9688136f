use Rattle.std.proofs.Common.{◌≡◌, ◌≤◌, ◌-◌, ◌+◌, ℕ, List, suc, refl, sym, ap, subst, length, drop, arith}
use Rattle.std.proofs.lemmas.List.{length-drop}
use Rattle.std.specs.Prelude.{None, Some}
use Rattle.many_conns.specs.Places.{frames_of}
use Rattle.many_conns.proofs.BatchLaws.{offered_same, frames_none, frames_end, offered_no, offered_by, offered_next, offered_stop}
use Rattle.many_conns.proofs.filling.offer_frames.Goals as goal

minus_zero : (n : ℕ) → n - 0 ≡ n
minus_zero n = omega arith

shorter : (n : ℕ) (xs : List ℕ) → length xs ≤ 16384 → length (drop n xs) ≤ 16384
shorter n xs le = simp length-drop (omega arith)

pub loop-init : goal.loop-init
loop-init g c = record {
  room = c.requires;
  goes_on = λ b stop offered. offered_same g.S.Answering.rules c.args.server.now c.args.place c.args.door c.args.door _ _ _ b stop refl
      (ap (λ n. frames_of (g.S.Answering.rules.whole c.args.door) n c.args.held.now) (minus_zero (length c.args.held.now))) offered;
}

pub returns-in_default : goal.returns-in_default
returns-in_default g c =
    let rules = g.S.Answering.rules in
    c.loop.invariant.goes_on _ None
    (offered_no rules c.args.server.now c.args.place c.args.door _ c.loop.batch
    (frames_none (rules.whole c.args.door) _ c.loop.rest.now (sym c.in_default.ensures.exact)))

pub returns-then-not-offer_frame : goal.returns-then-not-offer_frame
returns-then-not-offer_frame g c =
    let rules = g.S.Answering.rules in
    let more : length c.args.held.now - c.loop.counter ≡ suc (length c.args.held.now - (c.loop.counter + 1)) = omega arith in
    c.loop.invariant.goes_on _ (Some c.args.place)
    (offered_stop rules c.args.server.now c.args.place c.args.door _ _ c.loop.rest.now _ _ _ _ more (sym c.in-Some.ensures.exact) c.split_at.ensures.front
    (offered_by rules c.args.server.now c.args.place c.args.door _ _ _ _ c.if-not-offer_frame.ensures.fits c.if-not-offer_frame.ensures.offered))

pub loop-preserved : goal.loop-preserved
loop-preserved g c =
    let rules = g.S.Answering.rules in
    let more : length c.args.held.now - c.loop.counter ≡ suc (length c.args.held.now - (c.loop.counter + 1)) = omega arith in
    record {
      room = subst (λ k. length k ≤ 16384) (sym c.split_at.ensures.back) (shorter _ c.loop.rest.now c.loop.invariant.room);
      goes_on = λ b stop later. c.loop.invariant.goes_on b stop
          (offered_next rules c.args.server.now c.args.place c.args.door _ _ c.loop.rest.now _ _ _ _ _ _ _ more (sym c.in-Some.ensures.exact)
          c.split_at.ensures.front c.split_at.ensures.back
          (offered_by rules c.args.server.now c.args.place c.args.door _ _ _ _ c.if-not-offer_frame.ensures.fits c.if-not-offer_frame.ensures.offered)
          later);
    }

pub returns : goal.returns
returns g c =
    let rules = g.S.Answering.rules in
    c.loop.invariant.goes_on _ None
    (offered_no rules c.args.server.now c.args.place c.args.door _ c.loop.batch
    (frames_end (rules.whole c.args.door) _ c.loop.rest.now (omega arith)))
