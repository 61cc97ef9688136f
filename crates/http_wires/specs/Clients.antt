-- One connection of the clients' door.
use Rattle.std.specs.Prelude.{◌≡◌, ℕ, ◌⊎◌, Bool, true, false, ◌&&◌, not, List, [], ◌++◌, length, take, drop, min, Option, ◌==◌}
use Rattle.httparse.specs.Grammar.{RequestHead}
use Rattle.http_door.specs.declared.fault.DoorFault.{DoorFault}
use Rattle.http_door.specs.Heads.{HasNoHead, HoldsRequest, HoldsUnsized, IsHeadCause, LacksBody, LacksHead, NeverTakes}
use Rattle.http_door.specs.Hearing.{PlainHeard, closed, heard_of}
use Rattle.door_asks.specs.Asks.{LacksRoom, ask_bytes}
use Rattle.many_words.specs.declared.door.Door.{Door}
use Rattle.many_words.specs.declared.hub.Taken.{Taken}
use Rattle.many_words.specs.declared.hub.Taken.TheVariants.{Bytes, Over, Pending}
use Rattle.many_words.specs.Doors.{is_client, is_dialled}
use Rattle.many_words.specs.Events.{Event, Adds, Came, Ended, Blocked}
use Rattle.http_wires.specs.declared.client.Turn.{Turn}
use Rattle.http_wires.specs.declared.client.Turn.TheVariants as turn

-- what came and wasn't asked yet, what is still to be given of the ask under way, and what is to come
pub record Client : Type 0 where
  pub held : List ℕ
  pub coming : List ℕ
  pub turn : Turn

abbrev pub raw_client : Client
raw_client = record { held = []; coming = []; turn = turn.Raw }

abbrev pub first_turn : Bool → Turn
first_turn true = turn.Client
first_turn false = turn.Raw

-- a connection that came through this door
abbrev pub opened : Door → Client
opened door = record { held = []; coming = []; turn = first_turn (is_client door) }

abbrev pub is_http_turn : Turn → Bool
is_http_turn turn.Raw = false
is_http_turn turn.Client = true
is_http_turn (turn.Server keeps) = true
is_http_turn turn.Over = true

abbrev pub is_http : Client → Bool
is_http c = is_http_turn c.turn

-- ---- what is asked

-- these bytes are as many as are waited for
pub record IsWhole (held : List ℕ) : Type 0 where
  pub body : LacksBody held → ⊥
  pub head : HasNoHead held → NeverTakes held

-- what bytes that can't become a request are heard as: refused, for its cause
abbrev pub IsRefusal : List ℕ → PlainHeard → Type 0
IsRefusal held heard = (why : DoorFault) × (heard ≡ closed why) × IsHeadCause why held

-- What is heard of bytes, and what follows it: their first request as it is, or a refusal of all of them.
pub record Hears (held : List ℕ) (heard : PlainHeard) (rest : List ℕ) : Type 0 where
  pub request : (head : RequestHead) (body after : List ℕ)
      → HoldsRequest held head body after → (heard ≡ heard_of head body) × (rest ≡ after)
  pub unsized : (why : DoorFault) → HoldsUnsized held why → (heard ≡ closed why) × (rest ≡ [])
  pub headless : HasNoHead held → IsRefusal held heard × (rest ≡ [])
  pub whole : IsWhole held

-- a request was heard: it is asked, and behind it stands the rest
abbrev pub asking : PlainHeard → List ℕ → Client → Client
asking heard rest c = record { held = rest; coming = ask_bytes heard.asked; turn = turn.Server heard.keeps }

-- it is asked; or it is longer than an ask is, and nothing more is heard
abbrev pub IsAsked : PlainHeard → List ℕ → Client → Client → Type 0
IsAsked heard rest p q =
    (q ≡ asking heard rest p) ⊎ (LacksRoom heard.asked 8265 × (q ≡ record p { turn = turn.Over }))

-- whatever is heard, an ask has room for it
abbrev pub EachAskHasRoom : Type 0
EachAskHasRoom =
    (held : List ℕ) (heard : PlainHeard) (rest : List ℕ) → Hears held heard rest → LacksRoom heard.asked 8265 → ⊥

-- more must come
abbrev pub Lacks : List ℕ → Type 0
Lacks held = LacksHead held ⊎ LacksBody held

-- The first request is asked, or more must come.
abbrev pub HearsNext : Client → Client → Type 0
HearsNext p q =
    (Lacks p.held × (q ≡ p)) ⊎ ((heard : PlainHeard) × (rest : List ℕ) × Hears p.held heard rest × IsAsked heard rest p q)

abbrev pub GoesBy : Turn → Client → Client → Type 0
GoesBy turn.Raw p q = q ≡ p
GoesBy turn.Client p q = HearsNext p q
GoesBy (turn.Server keeps) p q = q ≡ p
GoesBy turn.Over p q = q ≡ record p { held = [] }

-- where it is the client's turn its next request is asked, and behind the last one all is dropped
abbrev pub GoesOn : Client → Client → Type 0
GoesOn p q = GoesBy p.turn p q

-- ---- what is taken

-- what the wires gave of the connection, behind what is held
abbrev pub with_bytes : List ℕ → Client → Client
with_bytes bytes c = record c { held = c.held ++ bytes }

abbrev pub Fills : (old new : Option (List Event)) → (place : ℕ) → Door → Taken → (p q : Client) → Type 0
Fills old new place door (Bytes n) p q = (bytes : List ℕ) × Adds old new (Came place bytes) × (q ≡ with_bytes bytes p)
Fills old new place door Over p q = Adds old new (Ended place) × (q ≡ p)
Fills old new place door Pending p q = (is_dialled door ≡ false) × Adds old new (Blocked place) × (q ≡ p)

-- so many of the ask's next bytes stand in the buffer's front: as many as there are, or as have room
pub record Gives (p : Client) (n : ℕ) (buf : List ℕ) (q : Client) : Type 0 where
  pub count : n ≡ min (length p.coming) (length buf)
  pub bytes : take n buf ≡ take n p.coming
  pub rest : q ≡ record p { coming = drop n p.coming }

-- Nothing more is asked: the answer to the last request went out, or the client has no more and no request is left.
abbrev pub IsDone : Taken → Client → Type 0
IsDone seen c = (c.turn ≡ turn.Over) ⊎ ((seen ≡ Over) × (c.coming ≡ []) × Lacks c.held)

-- something more may be asked
pub record Stays (seen : Taken) (c : Client) : Type 0 where
  pub turn : c.turn ≡ turn.Over → ⊥
  pub whole : seen ≡ Over → c.coming ≡ [] → IsWhole c.held

-- what a take gives where no ask is under way, once the connection went on
abbrev pub Answers : Taken → Client → Taken → List ℕ → Client → Type 0
Answers seen p (Bytes n) buf q = Stays seen p × Gives p n buf q
Answers seen p Over buf q = IsDone seen p × (q ≡ p)
Answers seen p Pending buf q = ⊥

-- it goes on, and gives of what is asked then
abbrev pub AsksNext : Taken → Client → Taken → List ℕ → Client → Type 0
AsksNext seen p result buf q = (mid : Client) × GoesOn p mid × Answers seen mid result buf q

-- the same, unless output is pending
abbrev pub TakesBy : Taken → Client → Taken → List ℕ → Client → Type 0
TakesBy (Bytes n) p result buf q = AsksNext (Bytes n) p result buf q
TakesBy Over p result buf q = AsksNext Over p result buf q
TakesBy Pending p result buf q = (result ≡ Pending) × (q ≡ p)

abbrev pub GivesOnly : Client → Taken → List ℕ → Client → Type 0
GivesOnly p (Bytes n) buf q = Gives p n buf q
GivesOnly p Over buf q = ⊥
GivesOnly p Pending buf q = ⊥

-- an ask is under way
abbrev pub is_asking : Client → Bool
is_asking c = not (length c.coming == 0)

-- A take gives more of the ask that is under way; or where there is none it takes once of the wires, and goes on with
-- what came.
pub data Takes (old new : Option (List Event)) (place : ℕ) (door : Door) (p : Client) (result : Taken) (buf : List ℕ)
    (q : Client) : Type 0 where
  More : is_asking p ≡ true → (same : new ≡ old) → GivesOnly p result buf q
      → Takes old new place door p result buf q
  Next : is_asking p ≡ false → (seen : Taken) → (mid : Client) → Fills old new place door seen p mid
      → TakesBy seen mid result buf q → Takes old new place door p result buf q

-- ---- what is answered

abbrev pub keeps_at : Turn → Bool
keeps_at turn.Raw = false
keeps_at turn.Client = false
keeps_at (turn.Server keeps) = keeps
keeps_at turn.Over = false

-- the connection is kept behind this answer: it is one to a whole ask, whose request keeps it
abbrev pub is_kept : Client → Bool
is_kept c = keeps_at c.turn && not (is_asking c)

abbrev pub next_turn : Bool → Turn
next_turn true = turn.Client
next_turn false = turn.Over

abbrev pub answered : Bool → Client → Client
answered keeps c = record c { turn = next_turn keeps }
