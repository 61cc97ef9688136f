use Rattle.std.proofs.Common.{◌∙◌, ap}
use Rattle.server_settings.proofs.UnknownLaws.{first_unknown, first_is}
use Rattle.server_settings.proofs.unknown.unknown_in.Goals as goal

pub loop-name-init : goal.loop-name-init
loop-name-init c = ap first_unknown (c.into_iter-name-iterator.ensures.into_iter_gives ∙ c.keys-name-items.ensures.rest) ∙ first_is c.args.table.now.entries
