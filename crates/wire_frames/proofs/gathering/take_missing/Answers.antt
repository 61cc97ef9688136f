use Rattle.std.proofs.Common.{◌≡◌, ◌∙◌, List, ℕ, length, min, sym, ap, arith}
use Rattle.std.proofs.lemmas.List.{length-take}
use Rattle.frame_rules.specs.Gathering.{missing}
use Rattle.frame_rules.proofs.Filling.{gathered_missing, missing_room}
use Rattle.wire_frames.proofs.gathering.take_missing.Goals as goal

pub push_all-requires : goal.push_all-requires
push_all-requires c =
    let held : List ℕ = c.args.held.now.items in
    let piece : List ℕ = c.args.piece.now in
    let count : ℕ = c.min-count.result in
    let lacks : c.missing_from.result ≡ missing held = c.missing_from.ensures.exact ∙ ap missing c.deref.ensures.value in
    omega (arith, length-take count piece, c.min-count.ensures, lacks, missing_room held, c.requires.room, c.args.held.now.ok)

pub returns-clause-held : goal.returns-clause-held
returns-clause-held c =
    let held : List ℕ = c.args.held.now.items in
    let piece : List ℕ = c.args.piece.now in
    let count : ℕ = c.min-count.result in
    let lacks : c.missing_from.result ≡ missing held = c.missing_from.ensures.exact ∙ ap missing c.deref.ensures.value in
    let is : count ≡ min (missing held) (length piece) = c.min-count.ensures ∙ ap (λ n. min n (length piece)) lacks in
    c.push_all.ensures.held ∙ sym (gathered_missing held piece count c.requires.judged is)
