-- The text of a game, as a function from its bytes: the game, or the number of the line that is named.
use Rattle.std.specs.Prelude.{ℕ, ◌+◌, ◌==◌, if◌then◌else◌, List, [], ◌∷◌, ◌++◌, length, codes}
use Rattle.std.specs.Prelude.{Option, Some, None, Result, Ok, Err}
use Rattle.express_texts.specs.declared.cloak.CloakGame.{CloakGame}
use Rattle.express_texts.specs.Fields.{value_line, key_line}
use Rattle.express_texts.specs.Games.{game_header_of, aim_of, is_among, address_behind}
use Rattle.express_texts.specs.Lines.{lines_of}

-- one line, and then the next
infixl 10 ◌>>=◌
abbrev pub ◌>>=◌ : {A B : Type 0} → Result A ℕ → (A → Result B ℕ) → Result B ℕ
(Ok x) >>= f = f x
(Err bad) >>= f = Err bad

-- goes on with what was found on line n
abbrev pub found_or : {A B : Type 0} → ℕ → Option A → (A → Result B ℕ) → Result B ℕ
found_or n None f = Err n
found_or n (Some a) f = f a

-- What line n says, and the lines behind it. A line that is missing is bad.
unfoldable pub line_at : {A : Type 0} → ℕ → (List ℕ → Option A) → List (List ℕ) → Result (A × List (List ℕ)) ℕ
line_at n read [] = Err n
line_at n read (line ∷ lines) = found_or n (read line) (λ a. Ok (a, lines))

-- the addresses of these lines, behind those that were read
unfoldable pub addresses_on : List ℕ → List (List ℕ) → Result (List ℕ) ℕ
addresses_on before [] = if length before == 0 then Err 6 else Ok before
addresses_on before (line ∷ lines) =
    found_or (length before + 6) (address_behind before line) (λ a. addresses_on (before ++ a ∷ []) lines)

-- the game, or the first line with a fault of form
unfoldable pub form_of : List (List ℕ) → Result CloakGame ℕ
form_of lines = do
  header ← line_at 1 game_header_of lines
  ckey ← line_at 2 (key_line (codes "ckey ")) header.1
  sigma ← line_at 3 (value_line (codes "sigma ")) ckey.1
  old_aim ← line_at 4 (aim_of (codes "from ") header.0.width) sigma.1
  new_aim ← line_at 5 (aim_of (codes "to ") header.0.width) old_aim.1
  addresses ← addresses_on [] new_aim.1
  Ok (record {
    viewer = header.0.viewer;
    width = header.0.width;
    seed = header.0.seed;
    ckey = ckey.0;
    sigma = sigma.0;
    old_aim = old_aim.0;
    new_aim = new_aim.0;
    addresses = addresses;
  })

-- the game where both of its targets are registered
unfoldable pub registered : CloakGame → Result CloakGame ℕ
registered game =
    if is_among game.old_aim.address game.addresses then
    (if is_among game.new_aim.address game.addresses then Ok game else Err 5)
    else Err 4

abbrev pub game_of : List ℕ → Result CloakGame ℕ
game_of text = form_of (lines_of text) >>= registered
