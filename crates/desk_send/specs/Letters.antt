-- Which letter it is, and a letter as it is made.
use Rattle.std.specs.Prelude.{◌≡◌, ◌⊎◌, ℕ, List, length, None}
use Rattle.rand_core.specs.Stream.{Stream, fill_bytes, next_u64}
use Rattle.desk_sheets.specs.declared.sheet.Card.{Card}
use Rattle.kept_letter.specs.declared.plan.Plan.{Plan}
use Rattle.kept_letter.specs.Letters.{LetterState}
use Rattle.kept_letter.specs.Plans.{each_of, parts_for}
use Rattle.letter_copies.specs.Copies.{started}

-- it has this text, and goes out with this card
pub record Carries (card : Card) (text : List ℕ) (s : LetterState) : Type 0 where
  pub same_card : s.plan.card ≡ card
  pub same_text : s.text ≡ text

-- ---- what is drawn for a letter

-- its seed, and behind that its id
abbrev pub seed_of : Stream → List ℕ
seed_of draws = (fill_bytes 32 draws).0

abbrev pub id_of : Stream → ℕ
id_of draws = (next_u64 (fill_bytes 32 draws).1).0

abbrev pub behind_letter : Stream → Stream
behind_letter draws = (next_u64 (fill_bytes 32 draws).1).1

-- nothing was drawn, or what one letter has of them
abbrev pub DrawsOne : (old new : Stream) → Type 0
DrawsOne old new = (new ≡ old) ⊎ (new ≡ behind_letter old)

-- ---- a letter as it is made

abbrev pub plan_with : Card → (text : List ℕ) → Plan
plan_with card text = record { card = card; count = length text }

-- its text is whole, and no try of it has begun
abbrev pub new_letter : Card → (text : List ℕ) → Stream → LetterState
new_letter card text draws = record {
  seed = seed_of draws;
  id = id_of draws;
  plan = plan_with card text;
  text = text;
  tries = 0;
  copies = started (parts_for (plan_with card text) (length text)) (each_of (plan_with card text));
  client = None;
  key = None;
}
