use Rattle.std.proofs.Common.{◌≡◌, ℕ, ◌≤◌, List, [], ◌∷◌, ◌++◌, length, map, ◌-◌, ◌<◌, sym, ap, subst, ◌∙◌, arith, rules}
use Rattle.std.proofs.lemmas.List.{length-append, length-map, map-append}
use Rattle.frame_rules.specs.Frames.{plain_body}
use Rattle.frame_rules.specs.Spelling.{spelling, IsFrame}
use Rattle.frame_rules.proofs.GrammarLaws.{spelling_limit}
use Rattle.circular_buffer.specs.Buffer.{keep_last}
use Rattle.link_order.specs.Link.{Outstanding}
use Rattle.leader_core.specs.declared.issued.Issued.{Issued}
use Rattle.leader_core.specs.Commands.{frame_for, issued_at, issued_in, with_command}
use Rattle.leader_core.proofs.IssueLemmas.{frame_is}
use Rattle.leader_core.proofs.commands.Commands.issue.Goals as goal

keep_last-all : (n : ℕ) (xs : List Issued) → length xs ≤ n → keep_last n xs ≡ xs
keep_last-all n xs few = let none : length xs - n ≡ 0 = omega arith in rw none

pub encode_into-length-requires-clause-room : goal.encode_into-length-requires-clause-room
encode_into-length-requires-clause-room c =
    let command = frame_for c.args.lane c.args.serial c.next-link.result (plain_body c.args.body.now) in
    let is : IsFrame command = search rules in
    let l = spelling_limit command is in
    omega (arith, l, c.requires.room)

pub invariant_of-self : goal.invariant_of-self
invariant_of-self c =
    let i = c.self.inside in
    let v = c.self.invariant in
    let command = frame_for c.args.lane c.args.serial c.next-link.result (plain_body c.args.body.now) in
    let is : IsFrame command = search rules in
    let now : c.issue.new.self ≡ with_command i.link (spelling command) = search rules in
    let more = issued_in command in
    let made : Issued = record { lane = c.args.lane; serial = c.args.serial; link = c.next-link.result; order = c.order_in-order.result } in
    let same : made ≡ more = ap (λ o. let x : Issued = record { lane = c.args.lane; serial = c.args.serial; link = c.next-link.result; order = o } in x) c.order_in-order.ensures in
    let frames = i.link.frames in
    let free = subst (λ (l : Outstanding). length l.frames < l.window) (sym c.self.view_is) c.requires.free in
    let count : length i.issued.items ≡ length frames = ap length (sym v.beside) ∙ length-map frames issued_at in
    let few : length (i.issued.items ++ made ∷ []) ≤ i.issued.capacity = simp length-append (omega (arith, count, free, v.room)) in
    rw c.push_back.ensures.items (record {
      order = c.issue.ensures.link;
      room = v.room ∙ sym (ap (λ (l : Outstanding). l.window) now);
      beside =
          ap (λ (l : Outstanding). map issued_at l.frames) now
          ∙ (map-append issued_at frames (spelling command ∷ [])
          ∙ (ap (λ x. map issued_at frames ++ x ∷ []) (ap issued_in (frame_is command is) ∙ sym same)
          ∙ (ap (λ xs. xs ++ made ∷ []) v.beside
          ∙ sym (keep_last-all i.issued.capacity (i.issued.items ++ made ∷ []) few))));
    })
