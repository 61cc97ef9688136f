use Rattle.std.proofs.Common.{sym, ap, ◌∙◌, List, ◌++◌, ℕ, Ok, arith}
use Rattle.frame_rules.specs.Frames.{plain}
use Rattle.frame_rules.specs.Reading.{decoded}
use Rattle.frame_rules.proofs.GrammarLaws.{decoded_again, spelling_limit}
use Rattle.wire_frames.proofs.Writes.{front_end, front, behind}
use Rattle.wire_frames.proofs.encoding.encode_into.Goals as goal

pub returns-clause-length : goal.returns-clause-length
returns-clause-length c = front_end c.put_frame.ensures

pub returns-clause-spelled : goal.returns-clause-spelled
returns-clause-spelled c = record { is_frame = c.requires.is_frame; spelled = front c.put_frame.ensures }

pub returns-clause-rest : goal.returns-clause-rest
returns-clause-rest c = behind c.put_frame.ensures

pub returns-clause-again : goal.returns-clause-again
returns-clause-again c rest =
    ap (λ (t : List ℕ). decoded (t ++ rest)) (front c.put_frame.ensures) ∙ decoded_again (plain c.args.frame.now) rest c.requires.is_frame ∙ ap (λ (n : ℕ). Ok (plain c.args.frame.now, n)) (sym (front_end c.put_frame.ensures))

pub returns-clause-most : goal.returns-clause-most
returns-clause-most c = omega (arith, front_end c.put_frame.ensures, spelling_limit (plain c.args.frame.now) c.requires.is_frame)
