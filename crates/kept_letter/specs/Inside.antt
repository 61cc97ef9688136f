-- A letter read from what holds it.
use Rattle.std.specs.Prelude.{◌≡◌, ◌≢◌, ◌≤◌, ◌<◌, ◌^◌, length, take, IfSome, None}
use Rattle.file_carry.specs.Parts.{IsPartWidth}
use Rattle.step_rules.specs.Client.{Client}
use Rattle.kept_letter.specs.declared.letter.LetterOnItsWay.TheInside.{Inside}
use Rattle.kept_letter.specs.declared.plan.Plan.{Plan}
use Rattle.kept_letter.specs.Letters.{LetterState}

abbrev pub letter_in : Inside → LetterState
letter_in a = record {
  seed = a.seed;
  id = a.id.0;
  plan = a.plan;
  text = take a.filled a.text.items;
  tries = a.tries;
  copies = a.copies;
  client = a.client;
  key = a.key;
}

-- a client for these boxes, which has a request
pub record IsClientFor (plan : Plan) (c : Client) : Type 0 where
  pub width : c.width ≡ plan.card.width
  pub busy : c.current ≢ None
  pub unspent : c.serial < 2 ^ 32

pub record IsInside (a : Inside) : Type 0 where
  pub width : IsPartWidth a.plan.card.width
  pub few : length a.plan.card.addresses ≤ 64
  pub room : length a.text.items ≡ a.plan.count
  pub filled : a.filled ≤ a.plan.count
  pub client : IfSome a.client (IsClientFor a.plan)
