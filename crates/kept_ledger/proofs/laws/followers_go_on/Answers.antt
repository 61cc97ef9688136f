use Rattle.kept_ledger.proofs.FollowLaws.{followers_own_the_live_boxes, next_serial_is_new}
use Rattle.kept_ledger.proofs.laws.followers_go_on.Goals as goal

pub returns : goal.returns
returns c = record { boxes = followers_own_the_live_boxes; serial = next_serial_is_new }
