use Rattle.std.proofs.Common.{◌≡◌, ◌<◌, ◌≤◌, ◌+◌, ◌⊎◌, ◌++◌, Some, length, take, drop, sym, ap, subst, ◌∙◌, arith}
use Rattle.std.specs.Prelude.{option_map, slice_get}
use Rattle.frame_rules.specs.Frames.{plain}
use Rattle.frame_rules.specs.Whole.{is_command, linked}
use Rattle.step_rules.specs.Helper.{Helper, LinkTurn}
use Rattle.step_rules.specs.HelperCommands.{carried_with, carries_out}
use Rattle.step_rules.specs.Refusals.{AnswerLeaves}
use Rattle.step_rules.proofs.HelperRefusals.{commands}
use Rattle.helper_core.specs.Turns.{DoesLink}
use Rattle.helper_core.specs.declared.helper.LinkTurn.TheVariants as turn
use Rattle.helper_core.proofs.LinkLemmas.{nothing_turn, passed_turn, kept_turn, next_turn, does_nothing, does_again}
use Rattle.helper_core.proofs.helper.Helper.hear_link.Goals as goal

pub returns-in_default-clause-turn : goal.returns-in_default-clause-turn
returns-in_default-clause-turn g c =
    let h = c.args.self.now in
    let bytes = c.args.received.now in
    let width : linked is_command c.width.result bytes ≡ linked is_command h.server.settings.width bytes =
    ap (λ w. linked is_command w bytes) (c.width.ensures ∙ ap (λ (x : Helper). x.server.settings.width) c.self.view_is) in
    let p = nothing_turn h bytes (sym width ∙ (sym c.command.ensures.exact ∙ ap (option_map plain) c.in_default.is)) in
    subst (λ (t : LinkTurn). DoesLink t h h turn.Ignored c.args.out.now c.args.out.now) (sym p.0) (does_nothing h c.args.out.now)

pub returns-in_default-clause-steps : goal.returns-in_default-clause-steps
returns-in_default-clause-steps g c =
    let h = c.args.self.now in
    let bytes = c.args.received.now in
    let width : linked is_command c.width.result bytes ≡ linked is_command h.server.settings.width bytes =
    ap (λ w. linked is_command w bytes) (c.width.ensures ∙ ap (λ (x : Helper). x.server.settings.width) c.self.view_is) in
    let p = nothing_turn h bytes (sym width ∙ (sym c.command.ensures.exact ∙ ap (option_map plain) c.in_default.is)) in
    let none = p.1 in
    omega (arith, none)

pub returns-in-Passed-clause-turn : goal.returns-in-Passed-clause-turn
returns-in-Passed-clause-turn g c =
    let h = c.args.self.now in
    let bytes = c.args.received.now in
    let width : linked is_command c.width.result bytes ≡ linked is_command h.server.settings.width bytes =
    ap (λ w. linked is_command w bytes) (c.width.ensures ∙ ap (λ (x : Helper). x.server.settings.width) c.self.view_is) in
    let f = plain c.in-Some.command in
    let found = sym width ∙ (sym c.command.ensures.exact ∙ ap (option_map plain) c.in-Some.is) in
    let p = passed_turn h bytes f found (subst (λ (x : Helper). (x.carried + 1 < f.link) ⊎ (f.link + length x.replies ≤ x.carried)) c.self.view_is c.in-Passed.ensures.which) in
    subst (λ (t : LinkTurn). DoesLink t h h turn.Ignored c.args.out.now c.args.out.now) (sym p.0) (does_nothing h c.args.out.now)

pub returns-in-Passed-clause-steps : goal.returns-in-Passed-clause-steps
returns-in-Passed-clause-steps g c =
    let h = c.args.self.now in
    let bytes = c.args.received.now in
    let width : linked is_command c.width.result bytes ≡ linked is_command h.server.settings.width bytes =
    ap (λ w. linked is_command w bytes) (c.width.ensures ∙ ap (λ (x : Helper). x.server.settings.width) c.self.view_is) in
    let f = plain c.in-Some.command in
    let found = sym width ∙ (sym c.command.ensures.exact ∙ ap (option_map plain) c.in-Some.is) in
    let p = passed_turn h bytes f found (subst (λ (x : Helper). (x.carried + 1 < f.link) ⊎ (f.link + length x.replies ≤ x.carried)) c.self.view_is c.in-Passed.ensures.which) in
    let none = p.1 in
    omega (arith, none)

pub returns-in-Kept-clause-turn : goal.returns-in-Kept-clause-turn
returns-in-Kept-clause-turn g c =
    let h = c.args.self.now in
    let bytes = c.args.received.now in
    let width : linked is_command c.width.result bytes ≡ linked is_command h.server.settings.width bytes =
    ap (λ w. linked is_command w bytes) (c.width.ensures ∙ ap (λ (x : Helper). x.server.settings.width) c.self.view_is) in
    let f = plain c.in-Some.command in
    let found = sym width ∙ (sym c.command.ensures.exact ∙ ap (option_map plain) c.in-Some.is) in
    let which = c.in-Kept.ensures.which in
    let reply = c.in-Kept.reply.now in
    let p = kept_turn h bytes f which.0 reply found
    (subst (λ (x : Helper). which.0 < length x.replies) c.self.view_is which.1.0)
    (subst (λ (x : Helper). f.link + length x.replies ≡ x.carried + 1 + which.0) c.self.view_is which.1.1)
    (subst (λ (x : Helper). slice_get x.replies which.0 ≡ Some reply) c.self.view_is which.2) in
    subst (λ (t : LinkTurn). DoesLink t h h (turn.Repeated (length reply)) c.args.out.now (c.copy_from_slice.new.self ++ drop (length reply) c.args.out.now)) (sym p.0)
    (does_again h reply c.copy_from_slice.new.self c.args.out.now c.copy_from_slice.ensures.after)

pub returns-in-Kept-clause-steps : goal.returns-in-Kept-clause-steps
returns-in-Kept-clause-steps g c =
    let h = c.args.self.now in
    let bytes = c.args.received.now in
    let width : linked is_command c.width.result bytes ≡ linked is_command h.server.settings.width bytes =
    ap (λ w. linked is_command w bytes) (c.width.ensures ∙ ap (λ (x : Helper). x.server.settings.width) c.self.view_is) in
    let f = plain c.in-Some.command in
    let found = sym width ∙ (sym c.command.ensures.exact ∙ ap (option_map plain) c.in-Some.is) in
    let which = c.in-Kept.ensures.which in
    let reply = c.in-Kept.reply.now in
    let p = kept_turn h bytes f which.0 reply found
    (subst (λ (x : Helper). which.0 < length x.replies) c.self.view_is which.1.0)
    (subst (λ (x : Helper). f.link + length x.replies ≡ x.carried + 1 + which.0) c.self.view_is which.1.1)
    (subst (λ (x : Helper). slice_get x.replies which.0 ≡ Some reply) c.self.view_is which.2) in
    let none = p.1 in
    omega (arith, none)

pub returns-in-Next-clause-turn : goal.returns-in-Next-clause-turn
returns-in-Next-clause-turn g c =
    let h = c.args.self.now in
    let bytes = c.args.received.now in
    let width : linked is_command c.width.result bytes ≡ linked is_command h.server.settings.width bytes =
    ap (λ w. linked is_command w bytes) (c.width.ensures ∙ ap (λ (x : Helper). x.server.settings.width) c.self.view_is) in
    let f = plain c.in-Some.command in
    let found = sym width ∙ (sym c.command.ensures.exact ∙ ap (option_map plain) c.in-Some.is) in
    let p = next_turn h bytes f found (subst (λ (x : Helper). f.link ≡ x.carried + 1) c.self.view_is c.in-Next.ensures.which) in
    let t = carried_with h f (carries_out h.server f) in
    let did = c.carry.ensures in
    let does : DoesLink t h c.carry.new.self (turn.Carried c.carry.result) c.args.out.now c.carry.new.out = record {
      helper = did.helper;
      refused = subst (λ (x : Helper). AnswerLeaves t.answer h x) (sym did.helper) (subst (λ (u : LinkTurn). AnswerLeaves u.answer h u.helper) p.0 (commands h bytes));
      answer = ap turn.Carried did.length;
      written = ap (λ n. take n c.carry.new.out) (sym did.length) ∙ did.written;
      rest = ap (λ n. drop n c.carry.new.out) (sym did.length) ∙ (did.rest ∙ ap (λ n. drop n c.args.out.now) did.length);
      settings = did.settings;
      frame = did.frame;
    } in
    subst (λ (u : LinkTurn). DoesLink u h c.carry.new.self (turn.Carried c.carry.result) c.args.out.now c.carry.new.out) (sym p.0) does

pub returns-in-Next-clause-steps : goal.returns-in-Next-clause-steps
returns-in-Next-clause-steps g c =
    let h = c.args.self.now in
    let bytes = c.args.received.now in
    let width : linked is_command c.width.result bytes ≡ linked is_command h.server.settings.width bytes =
    ap (λ w. linked is_command w bytes) (c.width.ensures ∙ ap (λ (x : Helper). x.server.settings.width) c.self.view_is) in
    let f = plain c.in-Some.command in
    let found = sym width ∙ (sym c.command.ensures.exact ∙ ap (option_map plain) c.in-Some.is) in
    let p = next_turn h bytes f found (subst (λ (x : Helper). f.link ≡ x.carried + 1) c.self.view_is c.in-Next.ensures.which) in
    c.carry.ensures.steps ∙ ap (λ n. c.args.steps.now + n) (sym p.1)
