use Rattle.express_texts.proofs.GameLaws.{game_found, game_only, bad_game_found, bad_game_only}
use Rattle.express_texts.proofs.cloak.game_is_read_exactly.Goals as goal

pub returns-clause-found : goal.returns-clause-found
returns-clause-found c = game_found

pub returns-clause-only : goal.returns-clause-only
returns-clause-only c = game_only

pub returns-clause-bad : goal.returns-clause-bad
returns-clause-bad c = bad_game_found

pub returns-clause-only_bad : goal.returns-clause-only_bad
returns-clause-only_bad c = bad_game_only
