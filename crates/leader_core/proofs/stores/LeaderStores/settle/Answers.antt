use Rattle.std.proofs.Common.{◌≡◌, sym, ap, ◌∙◌, arith}
use Rattle.frame_rules.specs.Frames as frame
use Rattle.frame_rules.specs.Frames.{PlainFrame, PlainBody, plain, plain_body}
use Rattle.frame_rules.specs.Spelling.{spelling}
use Rattle.frame_rules.specs.Whole.{on_link}
use Rattle.link_order.specs.Link.{Outstanding}
use Rattle.leader_core.specs.Commands.{frame_for, with_command}
use Rattle.leader_core.proofs.LinkLemmas.{settled_does}
use Rattle.leader_core.proofs.stores.LeaderStores.settle.Goals as goal

pub returns-clause-does : goal.returns-clause-does
returns-clause-does c f issued =
    let s = c.args.self.now in
    let i = c.args.command.now in
    let d = c.drop_oldest.new.self in
    let b = frame.LinkSettle c.args.own in
    let command = frame_for i.lane i.serial d.next b in
    let next : d.next ≡ s.link.next = ap (λ (l : Outstanding). l.next) c.drop_oldest.ensures.link in
    let command_is : command ≡ on_link f s.link.next b = ap (λ n. frame_for n i.serial d.next b) (sym issued.lane)
    ∙ (ap (λ n. frame_for f.lane n d.next b) (sym issued.serial)
    ∙ ap (λ n. frame_for f.lane f.serial n b) next) in
    settled_does s c.issue-length.new.self f command c.args.own c.next-number.result c.issue-length.result c.args.out.now c.issue-length.new.out c.requires.is c.requires.some c.requires.audit
    (omega (arith, issued.lane, c.requires.lane)) (omega (arith, issued.serial, c.requires.serial)) command_is c.issue-length.ensures.is_frame
    (c.issue-length.ensures.link ∙ ap (λ (l : Outstanding). with_command l (spelling command)) c.drop_oldest.ensures.link) c.issue-length.ensures.order (c.next-number.ensures.number ∙ next)
    c.issue-length.ensures.length c.issue-length.ensures.front
