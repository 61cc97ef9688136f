use Rattle.std.proofs.Common.{◌≡◌, ◌≢◌, ℕ, ◌≤◌, List, length, AllPairs, Contains, Result, Ok, Err, arith, sym, ◌∙◌}
use Rattle.std.specs.Prelude.{IfOk}
use Rattle.hex.specs.Hex.{decode_sized}
use Rattle.hex.proofs.HexLemmas.{decode_sized-ok, decode_sized-twice, decode_of-ok}
use Rattle.express_words.specs.Limits.{IsWidth}
use Rattle.express_texts.specs.declared.fault.TextFault.{TextFault}
use Rattle.express_texts.specs.declared.fault.TextFault.TheVariants.{Wrong, WrongKey, NoMemory}
use Rattle.express_texts.specs.declared.cloak.CloakGame.{CloakGame}
use Rattle.express_texts.specs.GameLines.{game_of}
use Rattle.express_texts.specs.Judging.{Gives}
use Rattle.express_texts.specs.GameJudging.{JudgesGame}
use Rattle.express_texts.specs.GameSpelling.{SpellsGame}
use Rattle.express_texts.proofs.GameLaws.{game_found, bad_game_found}
use Rattle.express_texts.proofs.cloak.read_cloak.Goals as goal

judged : (text : List ℕ) (r : Result CloakGame TextFault) → Gives (λ game. game) r (game_of text) → JudgesGame text r
judged text (Ok game) h = game_found text game h
judged text (Err (Wrong n)) h = bad_game_found text n h
judged text (Err (WrongKey key)) h = absurd h
judged text (Err NoMemory) h = tt

-- what holds of each game that a text spells
of_games : (text : List ℕ) (Law : CloakGame → Type 0) → ((game : CloakGame) → SpellsGame game text → Law game) → (r : Result CloakGame TextFault) → JudgesGame text r → IfOk r Law
of_games text Law law (Ok game) h = law game h
of_games text Law law (Err fault) h = tt

decoded_length : (digits message : List ℕ) (width : ℕ) → decode_sized digits width ≡ Ok message → length message ≡ width
decoded_length digits message width h =
    let long = decode_sized-ok digits width message h in
    let whole = decode_of-ok digits message (sym (decode_sized-twice digits width long) ∙ h) in
    omega (arith, long, whole.2)

pub returns-clause-judges : goal.returns-clause-judges
returns-clause-judges c = judged _ _ c.read_game.ensures

pub returns-clause-viewer : goal.returns-clause-viewer
returns-clause-viewer c =
    of_games c.args.text.now (λ game. game.viewer ≤ 1) (λ game s. s.form.header.viewer) _ (judged _ _ c.read_game.ensures)

pub returns-clause-width : goal.returns-clause-width
returns-clause-width c =
    of_games c.args.text.now (λ game. IsWidth game.width) (λ game s. (s.form.header.least, s.form.header.most, s.form.header.sixteens)) _ (judged _ _ c.read_game.ensures)

pub returns-clause-old_message : goal.returns-clause-old_message
returns-clause-old_message c =
    of_games c.args.text.now (λ game. length game.old_aim.message ≡ game.width) (λ game s. decoded_length s.form.from_spelled.message game.old_aim.message game.width s.form.from_spelled.message_spelled) _ (judged _ _ c.read_game.ensures)

pub returns-clause-new_message : goal.returns-clause-new_message
returns-clause-new_message c =
    of_games c.args.text.now (λ game. length game.new_aim.message ≡ game.width) (λ game s. decoded_length s.form.to_spelled.message game.new_aim.message game.width s.form.to_spelled.message_spelled) _ (judged _ _ c.read_game.ensures)

pub returns-clause-distinct : goal.returns-clause-distinct
returns-clause-distinct c =
    of_games c.args.text.now (λ game. AllPairs (λ p q. p ≢ q) game.addresses) (λ game s. s.form.distinct) _ (judged _ _ c.read_game.ensures)

pub returns-clause-old_registered : goal.returns-clause-old_registered
returns-clause-old_registered c =
    of_games c.args.text.now (λ game. Contains game.addresses game.old_aim.address) (λ game s. s.from_registered) _ (judged _ _ c.read_game.ensures)

pub returns-clause-new_registered : goal.returns-clause-new_registered
returns-clause-new_registered c =
    of_games c.args.text.now (λ game. Contains game.addresses game.new_aim.address) (λ game s. s.to_registered) _ (judged _ _ c.read_game.ensures)
