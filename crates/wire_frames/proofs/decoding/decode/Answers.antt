use Rattle.std.proofs.Common.{ap, ◌∙◌, subst, length, arith}
use Rattle.frame_rules.specs.Reading.{decoded, Reads}
use Rattle.frame_rules.proofs.FieldLaws.{only}
use Rattle.frame_rules.proofs.GrammarLaws.{prefix_short}
use Rattle.wire_frames.proofs.Spelled.{is_found, is_within, is_long, is_only, is_short, is_fewer, is_wrong, is_only_wrong}
use Rattle.wire_frames.proofs.decoding.decode.Goals as goal

pub returns-clause-found : goal.returns-clause-found
returns-clause-found c = is_found c.args.bytes.now c.frame_in.result (λ i. omega (arith, c.type_inv.bytes i)) c.frame_in.ensures

pub returns-clause-within : goal.returns-clause-within
returns-clause-within c = is_within c.args.bytes.now c.frame_in.result (λ i. omega (arith, c.type_inv.bytes i)) c.frame_in.ensures

pub returns-clause-only : goal.returns-clause-only
returns-clause-only c f len le s = is_only c.args.bytes.now c.frame_in.result f len le s c.frame_in.ensures

pub returns-clause-short : goal.returns-clause-short
returns-clause-short c f whole s lt front =
    is_short c.frame_in.result (subst (Reads c.frame_in.result) (ap decoded front ∙ prefix_short f whole (length c.args.bytes.now) s lt) c.frame_in.ensures)

pub returns-clause-length : goal.returns-clause-length
returns-clause-length c = is_long c.args.bytes.now c.frame_in.result (λ i. omega (arith, c.type_inv.bytes i)) c.frame_in.ensures

pub returns-clause-fewer : goal.returns-clause-fewer
returns-clause-fewer c e = is_fewer c.args.bytes.now c.frame_in.result c.frame_in.ensures e

pub returns-clause-wrong : goal.returns-clause-wrong
returns-clause-wrong c = is_wrong c.args.bytes.now c.frame_in.result c.frame_in.ensures

pub returns-clause-only_wrong : goal.returns-clause-only_wrong
returns-clause-only_wrong c fault first = is_only_wrong c.frame_in.result fault (subst (Reads c.frame_in.result) (only c.args.bytes.now fault first) c.frame_in.ensures)
