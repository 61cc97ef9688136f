-- The text that a cloak writes: what one server sees of a write, and of another under the moved choice.
use Rattle.std.specs.Prelude.{◌≡◌, ℕ, ◌-◌, List, [], ◌∷◌, ◌++◌, map, take, drop, slice_index, codes, flat_map}
use Rattle.std.specs.List.{range_with_len}
use Rattle.hex.specs.Hex.{encode_lower}
use Rattle.express_words.specs.declared.audit.ProofShare.{ProofShare}
use Rattle.dpf_rules.specs.Bytes.{number_of}
use Rattle.dpf_rules.specs.Expansion.{draw32, choice}
use Rattle.replay_world.specs.Output.{number_text}
use Rattle.write_hiding.specs.declared.choice.View.{View}
use Rattle.write_hiding.specs.Choices.{PlainChoice, PlainAim, PlainGame}
use Rattle.write_hiding.specs.Views.{view}
use Rattle.write_hiding.specs.Moved.{moved}
use Rattle.express_texts.specs.declared.cloak.AimText.{AimText}
use Rattle.express_texts.specs.declared.cloak.CloakGame.{CloakGame}

-- ---- what is drawn from the seed

-- the sixteen words of a write
unfoldable pub drawn_words : List ℕ → List ℕ
drawn_words seed = map (choice seed 0) (range_with_len 0 16)

-- the two words of a draw
unfoldable pub drawn_pair : List ℕ → ℕ → ℕ × ℕ
drawn_pair seed i = (number_of (take 16 (draw32 seed i)), number_of (take 16 (drop 16 (draw32 seed i))))

-- the bytes of the draws from one up to another
unfoldable pub draws : List ℕ → ℕ → ℕ → List ℕ
draws seed from to = flat_map (draw32 seed) (range_with_len from (to - from))

-- as many bytes of the draws 129, 130 and so on, one after the other; a message has at most 128 draws' bytes
unfoldable pub drawn_block : List ℕ → ℕ → List ℕ
drawn_block seed width = take width (draws seed 129 257)

-- both roots, a pair for each level, the last block, and the fourteen words of the proof
unfoldable pub drawn_choice : List ℕ → ℕ → PlainChoice
drawn_choice seed width = record {
  own_root = slice_index (drawn_words seed) 0;
  other_root = slice_index (drawn_words seed) 1;
  other = record { pairs = map (drawn_pair seed) (range_with_len 1 128); block = drawn_block seed width };
  words = take 14 (drop 2 (drawn_words seed));
}

-- ---- the game

abbrev pub aim_in : AimText → PlainAim
aim_in aim = record { target = aim.address; message = aim.message }

abbrev pub game_in : CloakGame → PlainGame
game_in game = record { addresses = game.addresses; ckey = game.ckey; sigma = game.sigma }

-- what the viewer sees of the write `from`
unfoldable pub old_view : CloakGame → View
old_view game = view game.viewer (drawn_choice game.seed game.width) (aim_in game.old_aim) (game_in game)

-- what it sees of the write `to` under the moved choice
unfoldable pub new_view : CloakGame → View
new_view game =
    let choice = drawn_choice game.seed game.width in
    let gone = moved game.viewer choice (aim_in game.old_aim) (aim_in game.new_aim) (game_in game) in
    view game.viewer gone (aim_in game.new_aim) (game_in game)

-- ---- the text

-- each number behind a space
abbrev pub numbers_text : List ℕ → List ℕ
numbers_text numbers = flat_map (λ number. codes " " ++ number_text number) numbers

-- u, v, h from the constant upwards, a, b and c
abbrev pub numbers_of : ProofShare → List ℕ
numbers_of share = share.u ∷ (share.v ∷ (share.h ++ (share.a ∷ (share.b ∷ (share.c ∷ [])))))

-- four lines: the root, the public part, the share of the proof, and what the other server opens and closes
unfoldable pub view_text : View → List ℕ
view_text v =
    codes "root " ++ (number_text v.own_root
    ++ (codes "\npublic " ++ (encode_lower v.public
    ++ (codes "\nproof" ++ (numbers_text (numbers_of v.proof)
    ++ (codes "\nother" ++ (numbers_text (v.opened.d ∷ (v.opened.e ∷ (v.closed.o ∷ (v.closed.tau ∷ []))))
    ++ codes "\n")))))))

unfoldable pub cloak_text : CloakGame → List ℕ
cloak_text game = view_text (old_view game) ++ (view_text (new_view game) ++ codes "end\n")

-- the viewer can't tell the writes apart, and this is the text of both views
abbrev pub IsCloakText : CloakGame → List ℕ → Type 0
IsCloakText game text = (new_view game ≡ old_view game) × (text ≡ cloak_text game)
