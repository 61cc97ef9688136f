-- What a trouble says of a card and a text.
use Rattle.std.proofs.Common.{◌≡◌, ℕ, List, Option, arith}
use Rattle.express_words.specs.Seen.{Seen}
use Rattle.express_words.specs.Streams.{Stream}
use Rattle.desk_sheets.specs.declared.sheet.Card.{Card}
use Rattle.letter_pieces.specs.declared.fault.LetterFault.{LetterFault}
use Rattle.desk_around.specs.Ends.{IsUndone}
use Rattle.desk_around.specs.declared.trouble.Trouble.{Trouble}
use Rattle.desk_around.specs.declared.trouble.Trouble.TheVariants as trouble
use Rattle.desk_send.specs.Cards.{ReadsCard, ReadsText, Refuses, RefusesCard, RefusesDay}
use Rattle.desk_send.specs.Cards.{RefusesText}

wrong : {P : Type 0} → ◌≡◌ {A = ℕ} 3 1 → P
wrong is = absurd (omega (arith, is))

pub undone_card : {Q : Type 0} (papers : Q → Seen) (path : List ℕ) (t : Trouble) → IsUndone t
    → RefusesCard papers path t
undone_card papers path (trouble.Earlier named) is = wrong is
undone_card papers path (trouble.BadLine named line) is = wrong is
undone_card papers path (trouble.NoCard named) is = wrong is
undone_card papers path (trouble.NoLetter fault) is = wrong is
undone_card papers path (trouble.Old day) is = wrong is
undone_card papers path t is = tt

pub undone_day : (card : Card) (t : Trouble) → IsUndone t → RefusesDay card t
undone_day card (trouble.Earlier named) is = wrong is
undone_day card (trouble.BadLine named line) is = wrong is
undone_day card (trouble.NoCard named) is = wrong is
undone_day card (trouble.NoLetter fault) is = wrong is
undone_day card (trouble.Old day) is = wrong is
undone_day card t is = tt

module _ {Q A : Type 0} (papers : Q → Seen) (path : List ℕ) (file : Option A) (from to : Option Stream) where
  pub undone_letter : (t : Trouble) → IsUndone t → Refuses papers path file from to t
  undone_letter (trouble.Earlier named) is = wrong is
  undone_letter (trouble.BadLine named line) is = wrong is
  undone_letter (trouble.NoCard named) is = wrong is
  undone_letter (trouble.NoLetter fault) is = wrong is
  undone_letter (trouble.Old day) is = wrong is
  undone_letter t is = tt

  pub by_card : (t : Trouble) → RefusesCard papers path t → Refuses papers path file from to t
  by_card (trouble.Earlier named) is = is
  by_card (trouble.BadLine named line) is = is
  by_card (trouble.NoCard named) is = is
  by_card (trouble.NoLetter fault) is = absurd is
  by_card (trouble.Old day) is = absurd is
  by_card t is = tt

  pub by_text : (card : Card) (text : List ℕ) (t : Trouble) → ReadsCard papers card
      → ReadsText papers file from to text
      → (fault : LetterFault) × (t ≡ trouble.NoLetter fault) × RefusesText card text fault
      → Refuses papers path file from to t
  by_text card text t is_card is_text (fault, is, refuses) =
      rw is (record { card = card; is_card = is_card; text = text; is_text = is_text; refuses = refuses })

  pub by_day : (card : Card) (t : Trouble) → ReadsCard papers card → RefusesDay card t
      → Refuses papers path file from to t
  by_day card (trouble.Earlier named) is_card is = absurd is
  by_day card (trouble.BadLine named line) is_card is = absurd is
  by_day card (trouble.NoCard named) is_card is = absurd is
  by_day card (trouble.NoLetter fault) is_card is = absurd is
  by_day card (trouble.Old day) is_card is = record { card = card; is_card = is_card; last = is }
  by_day card t is_card is = tt
