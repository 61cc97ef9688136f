-- The history of a whole run without content, and what it draws: from these and the seeds all content
-- follows.
use Rattle.std.specs.Prelude.{ℕ, nat_eq, if◌then◌else◌, Bool, true, false, List, [], length, map, take}
use Rattle.std.specs.Prelude.{filter, position, Option, Some, None, slice_get, slice_index_or}
use Rattle.express_words.specs.declared.settings.Settings.{Settings}
use Rattle.express_words.specs.declared.audit.ProofShare.{ProofShare}
use Rattle.dpf_rules.specs.Expansion.{draw32, owner_key}
use Rattle.mailbox_rules.specs.Requests.{Request, Register, Write, Read, Retire, request_at, Command}
use Rattle.mailbox_rules.specs.Requests.{Registers, Begins, Audits, Settles, Reads, Retires, Line, Entry}
use Rattle.mailbox_rules.specs.Requests.{Operation, BeginWrite}
use Rattle.mailbox_rules.specs.Tables.{Mailbox, Table, table_after, no_writes}
use Rattle.mailbox_rules.specs.Owned.{own_below}
use Rattle.token_rules.specs.Run.{line_of}
use Rattle.step_rules.specs.Client.{Client, Owned}
use Rattle.lane_table.specs.declared.row.Want.TheVariants as want
use Rattle.lane_table.specs.declared.row.Want.{Want}
use Rattle.run_rules.specs.Letters.{leader_seed, client_seed, helper_seed, capacity}

-- What frames of foreign lanes brought, by lane and serial: keys, roots and proofs by server, public parts,
-- and the addresses and boxes that their commands name.
pub record Brought : Type 0 where
  pub key : ℕ → ℕ → ℕ → List ℕ
  pub root : ℕ → ℕ → ℕ → ℕ
  pub share : ℕ → ℕ → ℕ → ProofShare
  pub part : ℕ → ℕ → List ℕ
  pub address : ℕ → ℕ → ℕ
  pub number : ℕ → ℕ → ℕ

-- the requests that each client sent, the commands issued, and the entries of those carried out
pub record Book : Type 0 where
  pub settings : Settings
  pub seed : List ℕ
  pub foreign : ℕ → Bool
  pub sent : ℕ → List Request
  pub commands : List Line
  pub entries : List Entry
  pub brought : Brought

-- the table of boxes after the first i entries, with no writes in it
abbrev pub table_at : Book → ℕ → Table
table_at b i = table_after b.settings.boxes b.settings.width no_writes (take i b.entries)

abbrev pub request_of : Book → ℕ → ℕ → Option Request
request_of b c serial = request_at b.sent c serial

-- what a request asks for
abbrev pub wants : Option Request → Want
wants (Some (Register address)) = want.Register
wants (Some (Write target message)) = want.Write
wants (Some (Read own)) = want.Read
wants (Some (Retire own)) = want.Read
wants None = want.Nothing

abbrev pub target_of : Option Request → ℕ
target_of (Some (Write target message)) = target
target_of request = 0

abbrev pub message_of : Option Request → List ℕ
message_of (Some (Write target message)) = message
message_of request = []

-- A client as it stands at its request of a serial. Its boxes are those that it registered with serials
-- below.

abbrev pub serial_of : Option Mailbox → ℕ
serial_of (Some box) = box.serial
serial_of None = 0

abbrev pub all_boxes : Book → List Mailbox
all_boxes b = (table_at b (length b.entries)).boxes

abbrev pub owned_box : Book → ℕ → ℕ → Owned
owned_box b c n =
    let serial = serial_of (slice_get (all_boxes b) n) in
    let seed = client_seed b.seed c in
    record { number = n; key0 = owner_key seed serial 0; key1 = owner_key seed serial 1 }

-- the boxes that a client registered with serials below one
unfoldable pub own_boxes : Book → ℕ → ℕ → List Owned
own_boxes b c serial = map (owned_box b c) (own_below c serial 0 (all_boxes b))

abbrev pub client_at : Book → ℕ → ℕ → Client
client_at b c serial = record {
  lane = c;
  seed = client_seed b.seed c;
  width = b.settings.width;
  capacity = capacity b.settings;
  owned = own_boxes b c serial;
  serial = serial;
  current = None;
}

-- the client's own box that a read or retire names, and its number
abbrev pub own_of : Option Request → ℕ
own_of (Some (Read own)) = own
own_of (Some (Retire own)) = own
own_of request = 0

unfoldable pub box_of : Book → ℕ → ℕ → ℕ
box_of b c serial = slice_index_or (own_below c serial 0 (all_boxes b)) (own_of (request_of b c serial)) 0

-- Draws

abbrev pub same_command : Command → Command → Bool
same_command Registers Registers = true
same_command Begins Begins = true
same_command Audits Audits = true
same_command Settles Settles = true
same_command Reads Reads = true
same_command Retires Retires = true
same_command x y = false

abbrev pub same_line : Line → Line → Bool
same_line x y =
    if nat_eq x.lane y.lane
    then (if nat_eq x.serial y.serial then same_command x.command y.command else false)
    else false

abbrev pub place_or : ℕ → Option ℕ → ℕ
place_or n (Some place) = place
place_or n None = n

-- the place of a command among all that were issued; its number is one more
unfoldable pub place : Book → ℕ → ℕ → Command → ℕ
place b c serial command =
    place_or (length b.commands) (position (λ x. same_line x (line_of c serial command)) b.commands)

-- begins and audits take a draw of the leader's seed, begins that got a count one of the helper's
abbrev pub is_drawn : Line → Bool
is_drawn x = if same_command x.command Begins then true else same_command x.command Audits

abbrev pub has_begun : Operation → Bool
has_begun BeginWrite = true
has_begun does = false

abbrev pub drawn_in : List Line → ℕ
drawn_in commands = length (filter (λ x. is_drawn x) commands)

abbrev pub begun_in : List Entry → ℕ
begun_in entries = length (filter (λ e. has_begun e.does) entries)

abbrev pub leaders_draw : Book → ℕ → List ℕ
leaders_draw b i = draw32 (leader_seed b.seed) (drawn_in (take i b.commands))

abbrev pub helpers_draw : Book → ℕ → List ℕ
helpers_draw b i = draw32 (helper_seed b.seed) (begun_in (take i b.entries))
