use Rattle.std.proofs.Common.{◌≡◌, ◌∙◌, ◌-◌, ◌<◌, List, ℕ, length, take, drop, min, sym, ap, arith}
use Rattle.std.proofs.lemmas.List.{take_all, length-drop}
use Rattle.frame_rules.specs.Gathering.{gathered}
use Rattle.frame_rules.proofs.GatheringLaws.{gathered_taken}
use Rattle.frame_rules.proofs.Filling.{gathered_cut, gathered_near}
use Rattle.wire_frames.proofs.gathering.take_from.Goals as goal

pub returns-then-len-ge-JUDGED-clause-held : goal.returns-then-len-ge-JUDGED-clause-held
returns-then-len-ge-JUDGED-clause-held c =
    let held : List ℕ = c.args.held.now.items in
    let piece : List ℕ = c.args.piece.now in
    let front : ℕ = c.min-front.result in
    let rest : take (length piece - front) (drop front piece) ≡ drop front piece = take_all (length piece - front) (drop front piece) (omega (arith, length-drop front piece)) in
    c.take_missing.ensures.held ∙ ap (gathered c.take_each.new.held.items) rest
    ∙ ap (λ (h : List ℕ). gathered h (drop front piece)) c.take_each.ensures.held ∙ sym (gathered_cut held piece front)

pub returns-else-len-ge-JUDGED-clause-held : goal.returns-else-len-ge-JUDGED-clause-held
returns-else-len-ge-JUDGED-clause-held c =
    let held : List ℕ = c.args.held.now.items in
    let piece : List ℕ = c.args.piece.now in
    let front : ℕ = c.min-front.result in
    let judged : front ≡ min (22 - length held) (length piece) = omega (arith, c.min-front.ensures, c.saturating_sub.ensures, c.len.ensures, c.args.held.now.ok) in
    let few : length (gathered held (take front piece)) < 22 = omega (arith, c.if-len-ge-JUDGED.false, c.len-2.ensures, c.take_each.new.held.ok, ap length c.take_each.ensures.held) in
    c.take_each.ensures.held ∙ sym (gathered_near held piece front judged few)

pub returns-then-len-ge-JUDGED-clause-grows : goal.returns-then-len-ge-JUDGED-clause-grows
returns-then-len-ge-JUDGED-clause-grows c =
    (gathered_taken c.args.held.now.items c.args.piece.now c.take_missing.new.held.items (returns-then-len-ge-JUDGED-clause-held c)).0

pub returns-else-len-ge-JUDGED-clause-grows : goal.returns-else-len-ge-JUDGED-clause-grows
returns-else-len-ge-JUDGED-clause-grows c =
    (gathered_taken c.args.held.now.items c.args.piece.now c.take_each.new.held.items (returns-else-len-ge-JUDGED-clause-held c)).0
