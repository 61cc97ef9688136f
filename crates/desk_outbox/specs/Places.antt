-- Where a try stands, and the record of it.
use Rattle.std.specs.Prelude.{◌≢◌, ℕ, ◌+◌, ◌%◌, Bool, true, false, List, [], ◌∷◌}
use Rattle.std.specs.Prelude.{Option, Some, None}
use Rattle.std.specs.Int.{w32, to_be_bytes}
use Rattle.desk_tries.specs.declared.sending.LetterEnd.TheVariants as end
use Rattle.desk_tries.specs.declared.sending.Next.{Next}
use Rattle.desk_tries.specs.declared.sending.Next.TheVariants as next
use Rattle.desk_tries.specs.Steps.{SendingState}
use Rattle.desk_outbox.specs.declared.place.Place.{Place}

abbrev pub bit_of : Bool → ℕ
bit_of false = 0
bit_of true = 1

abbrev pub code_of : Next → ℕ
code_of next.GoOn = 0
code_of next.SameAgain = 0
code_of next.NewTry = 1
code_of next.NextAddress = 2
code_of (next.Stop end.Written) = 3
code_of (next.Stop end.NotWritten) = 4
code_of (next.Stop end.MaybeWritten) = 5

-- the same frame again isn't noted: a try under way stands at its next step
abbrev pub IsNoted : Next → Type 0
IsNoted n = n ≢ next.SameAgain

abbrev pub is_under_way : Next → Bool
is_under_way next.GoOn = true
is_under_way next.SameAgain = false
is_under_way next.NewTry = false
is_under_way next.NextAddress = false
is_under_way (next.Stop e) = false

abbrev pub named_bytes : Option ℕ → List ℕ
named_bytes None = 0 ∷ 0 ∷ 0 ∷ 0 ∷ 0 ∷ []
named_bytes (Some serial) = 1 ∷ to_be_bytes w32 serial

abbrev pub place_record : Place → List ℕ
place_record p =
    p.first ∷ p.address ∷ p.further ∷ bit_of p.proof_out ∷ code_of p.next ∷ named_bytes p.named

-- where a first try stands
abbrev pub first_place : ℕ → Place
first_place first = record {
  first = first;
  address = 0;
  further = 5;
  proof_out = false;
  next = next.GoOn;
  named = None;
}

-- where the next one begins
abbrev pub next_place : Place → Place
next_place p = record p { next = next.GoOn; named = None }

-- the sending of the letter, as it stands there, over a card of so many addresses
abbrev pub state_at : ℕ → Place → SendingState
state_at addresses p = record {
  addresses = addresses;
  address = p.address;
  further = p.further;
  proof_out = p.proof_out;
}

-- which address of the card is tried
abbrev pub address_at : ℕ → Place → ℕ
address_at addresses p = (p.first + p.address) % addresses

-- a new try follows
abbrev pub is_followed : Next → Bool
is_followed next.GoOn = false
is_followed next.SameAgain = false
is_followed next.NewTry = true
is_followed next.NextAddress = true
is_followed (next.Stop e) = false
