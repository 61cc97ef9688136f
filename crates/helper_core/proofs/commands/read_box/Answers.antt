use Rattle.std.proofs.Common.{List, sym, ap, ◌∙◌}
use Rattle.std.specs.Prelude.{slice_get}
use Rattle.express_words.specs.Bytes.{xor_bytes}
use Rattle.frame_rules.specs.Frames.{plain}
use Rattle.dpf_rules.specs.Expansion.{mask, token}
use Rattle.server_boxes.specs.Held.{Holdings}
use Rattle.step_rules.specs.Boxes.{Box, with_read}
use Rattle.helper_core.proofs.AuditLemmas.{found, live_of, not_found, reads_none, reads_retired, reads_badly, reads_well}
use Rattle.helper_core.proofs.commands.read_box.Goals as goal

pub returns-in_default-clause-reading : goal.returns-in_default-clause-reading
returns-in_default-clause-reading c h boxes_are width_is =
    reads_none h (plain c.args.frame.now) c.args.stays c.args.number c.args.held c.args.boxes.now.boxes boxes_are c.args.masked.now
    (ap (λ (xs : List Box). slice_get xs c.args.number) boxes_are ∙ not_found (slice_get c.args.boxes.now.boxes c.args.number) (c.key_of.ensures.key ∙ c.in_default.is))

pub returns-then-not-is_live-clause-reading : goal.returns-then-not-is_live-clause-reading
returns-then-not-is_live-clause-reading c h boxes_are width_is =
    let b = found (slice_get c.args.boxes.now.boxes c.args.number) c.in-Some.key (c.key_of.ensures.key ∙ c.in-Some.is) in
    let here = ap (λ (xs : List Box). slice_get xs c.args.number) boxes_are ∙ b.1 in
    reads_retired h (plain c.args.frame.now) c.args.stays c.args.number c.args.held c.args.boxes.now.boxes boxes_are b.0 c.args.masked.now here
    (live_of (slice_get c.args.boxes.now.boxes c.args.number) b.0 c.is_live.result b.1 c.is_live.ensures ∙ c.if-not-is_live.true)

pub returns-then-held-token-clause-reading : goal.returns-then-held-token-clause-reading
returns-then-held-token-clause-reading c h boxes_are width_is =
    let b = found (slice_get c.args.boxes.now.boxes c.args.number) c.in-Some.key (c.key_of.ensures.key ∙ c.in-Some.is) in
    let here = ap (λ (xs : List Box). slice_get xs c.args.number) boxes_are ∙ b.1 in
    reads_badly h (plain c.args.frame.now) c.args.stays c.args.number c.args.held c.args.boxes.now.boxes boxes_are b.0 c.args.masked.now here
    (live_of (slice_get c.args.boxes.now.boxes c.args.number) b.0 c.is_live.result b.1 c.is_live.ensures ∙ c.if-not-is_live.false)
    (λ e. c.if-held-token.true (e ∙ (ap (λ k. token k c.args.frame.now.lane c.args.frame.now.serial) b.2 ∙ sym c.token.ensures)))

pub returns-clause-reading : goal.returns-clause-reading
returns-clause-reading c h boxes_are width_is =
    let b = found (slice_get c.args.boxes.now.boxes c.args.number) c.in-Some.key (c.key_of.ensures.key ∙ c.in-Some.is) in
    let here = ap (λ (xs : List Box). slice_get xs c.args.number) boxes_are ∙ b.1 in
    reads_well h (plain c.args.frame.now) c.args.stays c.args.number c.args.held c.args.boxes.now.boxes boxes_are b.0 c.read.new.masked c.read.new.self.boxes here
    (live_of (slice_get c.args.boxes.now.boxes c.args.number) b.0 c.is_live.result b.1 c.is_live.ensures ∙ c.if-not-is_live.false)
    (c.if-held-token.false ∙ (c.token.ensures ∙ ap (λ k. token k c.args.frame.now.lane c.args.frame.now.serial) (sym b.2)))
    (ap (λ (x : Holdings). x.boxes) (c.read.ensures.cleared b.0 b.1)
    ∙ (ap (λ w. with_read w c.args.stays c.args.number b.0 c.args.boxes.now.boxes) (sym width_is) ∙ ap (λ (xs : List Box). with_read h.settings.width c.args.stays c.args.number b.0 xs) (sym boxes_are)))
    (c.read.ensures.masked b.0 b.1 ∙ ap (λ w. xor_bytes b.0.share (mask b.0.key c.args.frame.now.lane c.args.frame.now.serial w)) (sym width_is))
