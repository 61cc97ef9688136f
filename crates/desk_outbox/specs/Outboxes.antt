-- A try, and its card.
use Rattle.std.specs.Prelude.{◌≡◌, ◌<◌, ◌≤◌, ℕ, List, [], Option, Some, None, length, Result, MatchResult}
use Rattle.mailbox_rules.specs.Requests.{Request, Register, Write, Read, Retire}
use Rattle.step_rules.specs.Client.{Current, Step}
use Rattle.client_restart.specs.declared.opening.ClientOpening.{ClientOpening}
use Rattle.client_restart.specs.Kept.{ClientState}
use Rattle.desk_texts.specs.declared.sheet.CardHead.{CardHead}
use Rattle.desk_texts.specs.declared.sheet.Head.TheVariants.{Card}
use Rattle.desk_texts.specs.declared.sheet.Sheet.{Sheet}
use Rattle.desk_texts.specs.Spelling.{IsSheet}
use Rattle.desk_outbox.specs.declared.place.Place.{Place}

-- a client that remembers, the card, and where the try stands
pub record OutboxState (D : Type 0) : Type 0 where
  pub kept : ClientState D
  pub card : Sheet
  pub place : Place

-- P of the disk that comes back, in a try or beside a fault
abbrev pub OnDisk : {D E : Type 0} → Result (OutboxState D) (E × D) → (D → Type 0) → Type 0
OnDisk result P = MatchResult result (λ o. P o.kept.disk) (λ x. P x.1)

-- a card and no pair file
pub record IsCardSheet (s : Sheet) : Type 0 where
  pub sheet : IsSheet s
  pub card : CardHead
  pub is_card : s.head ≡ Card card

-- ---- a whole try

-- the bytes of the write that is current
abbrev pub message_of : Request → List ℕ
message_of (Register address) = []
message_of (Write target message) = message
message_of (Read own) = []
message_of (Retire own) = []

abbrev pub message_in : Option Current → List ℕ
message_in None = []
message_in (Some now) = message_of now.request

-- a write of so many bytes is current
pub record IsWrite (width : ℕ) (now : Option Current) : Type 0 where
  pub target : ℕ
  pub message : List ℕ
  pub step : Step
  pub is : now ≡ Some (record { request = Write target message; step = step })
  pub fits : length message ≡ width

-- the try's boxes are as wide as the card says, and its lane is one of the card's
pub record IsOnCard (o : ClientOpening) (card : Sheet) : Type 0 where
  pub sheet : IsSheet card
  pub head : CardHead
  pub is_card : card.head ≡ Card head
  pub width : o.width ≡ head.width
  pub from : head.from ≤ o.lane
  pub to : o.lane ≤ head.to

-- A try is a write, on a lane of its card, and stands at one of the card's addresses.
pub record IsTry (o : ClientOpening) (card : Sheet) (place : Place) (now : Option Current) : Type 0 where
  pub on_card : IsOnCard o card
  pub first : place.first < length card.addresses
  pub address : place.address < length card.addresses
  pub few : length card.addresses ≤ 64
  pub write : IsWrite o.width now
