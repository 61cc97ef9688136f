-- What each call does at all places, and below.
use Rattle.std.specs.Prelude.{◌≡◌, ℕ, ◌⊎◌, Bool, true, false, List, take, Option, Some, None, slice_get, slice_set}
use Rattle.many_words.specs.declared.door.Door.{Door}
use Rattle.many_words.specs.declared.hub.Taken.{Taken}
use Rattle.many_words.specs.declared.hub.Taken.TheVariants.{Bytes, Over, Pending}
use Rattle.many_words.specs.Events.{Event, Adds, Opened, Asked, Came, Ended, Blocked}
use Rattle.many_words.specs.Takes.{Gives}
use Rattle.http_door.specs.Replies.{PlainReply, reply_text}
use Rattle.door_asks.specs.Answers.{answer_in}
use Rattle.http_wires.specs.Clients.{Client, Takes, answered, is_http, is_kept, opened}
use Rattle.http_wires.specs.Replies.{NoResponse}
use Rattle.http_wires.specs.Views.{View}

abbrev pub http_if : Bool → Client → Option Client
http_if true c = Some c
http_if false c = None

abbrev pub http_client : Option Client → Option Client
http_client None = None
http_client (Some c) = http_if (is_http c) c

-- the connection of the clients' door that a place has
abbrev pub client_at : List Client → ℕ → Option Client
client_at clients place = http_client (slice_get clients place)

abbrev pub open_some : List Client → ℕ → Door → Option Client → List Client
open_some clients place door None = clients
open_some clients place door (Some c) = slice_set clients place (opened door)

-- a connection of this door came to a place: nothing is held of it
abbrev pub open_at : List Client → ℕ → Door → List Client
open_at clients place door = open_some clients place door (slice_get clients place)

-- ---- takes

abbrev pub TakesSome : Option Client → (old new : Option (List Event)) → ℕ → Door → Taken → List ℕ
    → (clients later : List Client) → Type 0
TakesSome None old new place door result buf clients later = Gives old new place door result buf × (later ≡ clients)
TakesSome (Some p) old new place door result buf clients later =
    (q : Client) × Takes old new place door p result buf q × (later ≡ slice_set clients place q)

-- a take at a place: of asks where HTTP is spoken, else of bytes as they are
abbrev pub TakesAt : (old new : Option (List Event)) → ℕ → Door → Taken → List ℕ → (clients later : List Client) → Type 0
TakesAt old new place door result buf clients later =
    TakesSome (client_at clients place) old new place door result buf clients later

-- the call that a take is, by what it gave
abbrev pub taken_event : ℕ → Taken → List ℕ → Event
taken_event place (Bytes n) buf = Came place (take n buf)
taken_event place Over buf = Ended place
taken_event place Pending buf = Blocked place

-- ---- answers

-- the response of the answer goes out by this call, and the connection is kept behind it as its request said
abbrev pub SendsResponse : (old new : Option (List Event)) → (List ℕ → Event) → List ℕ → Option (List ℕ) → Client → Client
    → Type 0
SendsResponse old new sent answer origin p q =
    (reply : PlainReply) × (answer_in answer ≡ Some reply)
    × Adds old new (sent (reply_text reply origin (is_kept p))) × (q ≡ answered (is_kept p) p)

-- there is none, and nothing more is asked
abbrev pub SendsNothing : (old new : Option (List Event)) → List ℕ → Option (List ℕ) → Client → Client → Type 0
SendsNothing old new answer origin p q = NoResponse answer origin (is_kept p) × (new ≡ old) × (q ≡ answered false p)

abbrev pub SendsSome : Option Client → (old new : Option (List Event)) → ℕ → (List ℕ → Event) → List ℕ → Option (List ℕ)
    → (clients later : List Client) → Type 0
SendsSome None old new place sent bytes origin clients later = Adds old new (sent bytes) × (later ≡ clients)
SendsSome (Some p) old new place sent bytes origin clients later =
    (q : Client) × (SendsResponse old new sent bytes origin p q ⊎ SendsNothing old new bytes origin p q)
    × (later ≡ slice_set clients place q)

-- bytes that are sent at a place: an answer where HTTP is spoken, which goes out as its response; else as they are
abbrev pub SendsAt : (old new : Option (List Event)) → ℕ → (List ℕ → Event) → List ℕ → Option (List ℕ)
    → (clients later : List Client) → Type 0
SendsAt old new place sent bytes origin clients later =
    SendsSome (client_at clients place) old new place sent bytes origin clients later

-- ---- the calls, with what they do below; `told` is what the wires below tell

-- the same call is made below, and no place changes
abbrev pub Passes : {W : Type 0} → (told : W → Option (List Event)) → View W → View W → Event → Type 0
Passes told h k event =
    Adds (told h.wires) (told k.wires) event × (k.clients ≡ h.clients) × (k.origin ≡ h.origin)

abbrev pub OpensBy : {W : Type 0} → Bool → (told : W → Option (List Event)) → View W → View W → ℕ → Door → Type 0
OpensBy true told h k place door =
    Adds (told h.wires) (told k.wires) (Opened place door) × (k.clients ≡ open_at h.clients place door)
    × (k.origin ≡ h.origin)
OpensBy false told h k place door = Passes told h k (Asked place door)

abbrev pub TakesBelow : {W : Type 0} → (told : W → Option (List Event)) → View W → View W → ℕ → Door → Taken → List ℕ
    → Type 0
TakesBelow told h k place door result buf =
    TakesAt (told h.wires) (told k.wires) place door result buf h.clients k.clients × (k.origin ≡ h.origin)

abbrev pub SendsBelow : {W : Type 0} → (told : W → Option (List Event)) → View W → View W → ℕ → (List ℕ → Event) → List ℕ
    → Type 0
SendsBelow told h k place sent bytes =
    SendsAt (told h.wires) (told k.wires) place sent bytes h.origin h.clients k.clients × (k.origin ≡ h.origin)
