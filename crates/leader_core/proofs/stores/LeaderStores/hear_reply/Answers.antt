use Rattle.std.proofs.Common.{refl, sym, ap, subst, ◌∙◌}
use Rattle.frame_rules.specs.Frames.{plain}
use Rattle.step_rules.specs.Leader as steps
use Rattle.step_rules.specs.LeaderReplies.{if_fits, ignored}
use Rattle.leader_core.specs.State.{leader_in, oldest_in}
use Rattle.leader_core.specs.Told.{DoesAck}
use Rattle.leader_core.proofs.LinkLemmas.{a_reply, first_in, ignores, its, no_reply, none_waits, not_its}
use Rattle.leader_core.proofs.stores.LeaderStores.hear_reply.Goals as goal

pub returns-in_default-clause-does : goal.returns-in_default-clause-does
returns-in_default-clause-does c =
    let s = c.args.self.now in
    ignores s _ c.args.out.now c.requires.is (no_reply (leader_in s) _ (sym c.in_default.ensures.exact))

pub returns-in_default-oldest-clause-does : goal.returns-in_default-oldest-clause-does
returns-in_default-oldest-clause-does c =
    let s = c.args.self.now in
    let f = plain c.in-Some.reply in
    ignores s _ c.args.out.now c.requires.is
    (a_reply (leader_in s) _ f (sym c.in-Some.ensures.exact) ∙ none_waits (leader_in s) f s.link.frames (c.in_default-oldest.ensures.none refl))

pub returns-then-not-is_answered_by-clause-does : goal.returns-then-not-is_answered_by-clause-does
returns-then-not-is_answered_by-clause-does c =
    let s = c.args.self.now in
    let f = plain c.in-Some.reply in
    ignores s _ c.args.out.now c.requires.is
    (a_reply (leader_in s) _ f (sym c.in-Some.ensures.exact)
    ∙ not_its (leader_in s) f (oldest_in s) c.in-Some-oldest.command _ (first_in s.link.frames (c.in-Some-oldest.ensures.some refl)) c.in-Some-oldest.ensures.issued (sym c.is_answered_by.ensures ∙ c.if-not-is_answered_by.true))

pub returns-in-Nothing-clause-does : goal.returns-in-Nothing-clause-does
returns-in-Nothing-clause-does c =
    let s = c.args.self.now in
    let f = plain c.in-Some.reply in
    let issued = c.in-Some-oldest.ensures.issued in
    ignores c.apply.new.self _ c.args.out.now c.apply.ensures.kept.is
    (a_reply (leader_in s) _ f (sym c.in-Some.ensures.exact)
    ∙ (its (leader_in s) f (oldest_in s) c.in-Some-oldest.command _ (first_in s.link.frames (c.in-Some-oldest.ensures.some refl)) issued (sym c.is_answered_by.ensures ∙ c.if-not-is_answered_by.false)
    ∙ (ap (if_fits (leader_in s)) (c.in-Nothing.ensures.fits (oldest_in s) issued) ∙ ap ignored (sym (c.in-Nothing.ensures.same refl)))))

pub returns-in-Kept-clause-does : goal.returns-in-Kept-clause-does
returns-in-Kept-clause-does c =
    let s = c.args.self.now in
    let f = plain c.in-Some.reply in
    let issued = c.in-Some-oldest.ensures.issued in
    subst (λ (t : steps.AckTurn). DoesAck t c.tell_lane.new.self c.tell_lane.result c.args.out.now c.tell_lane.new.out)
    (sym (a_reply (leader_in s) _ f (sym c.in-Some.ensures.exact)
    ∙ (its (leader_in s) f (oldest_in s) c.in-Some-oldest.command _ (first_in s.link.frames (c.in-Some-oldest.ensures.some refl)) issued (sym c.is_answered_by.ensures ∙ c.if-not-is_answered_by.false)
    ∙ ap (if_fits (leader_in s)) (c.in-Kept.ensures.fits (oldest_in s) issued)))) (c.tell_lane.ensures.does (oldest_in s) issued)

pub returns-in-Settles-clause-does : goal.returns-in-Settles-clause-does
returns-in-Settles-clause-does c =
    let s = c.args.self.now in
    let f = plain c.in-Some.reply in
    let issued = c.in-Some-oldest.ensures.issued in
    subst (λ (t : steps.AckTurn). DoesAck t c.settle.new.self c.settle.result c.args.out.now c.settle.new.out)
    (sym (a_reply (leader_in s) _ f (sym c.in-Some.ensures.exact)
    ∙ (its (leader_in s) f (oldest_in s) c.in-Some-oldest.command _ (first_in s.link.frames (c.in-Some-oldest.ensures.some refl)) issued (sym c.is_answered_by.ensures ∙ c.if-not-is_answered_by.false)
    ∙ ap (if_fits (leader_in s)) (c.in-Settles.ensures.fits (oldest_in s) issued)))) (c.settle.ensures.does (oldest_in s) issued)
