use Rattle.kept_letter.proofs.DrawLaws.{tries_share_no_draw}
use Rattle.kept_letter.proofs.laws.tries_share_no_draw.Goals as goal

pub returns : goal.returns
returns c = tries_share_no_draw
