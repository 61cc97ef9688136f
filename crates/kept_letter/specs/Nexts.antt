-- What is asked of the servers next.
use Rattle.std.specs.Prelude.{ℕ, ◌-◌, ◌==◌, ◌&&◌, not, if◌then◌else◌, List, length, Option, Some, None}
use Rattle.express_words.specs.declared.role.Role.{Role}
use Rattle.express_words.specs.declared.role.Role.TheVariants.{Leader, Helper}
use Rattle.dpf_rules.specs.Expansion.{choice}
use Rattle.dpf_rules.specs.Keys.{honest_keys}
use Rattle.frame_rules.specs.Spelling.{spelling}
use Rattle.mailbox_rules.specs.Requests.{Request, Register, Write, Read, Retire}
use Rattle.step_rules.specs.Client.{Client}
use Rattle.step_rules.specs.ClientAsks.{Sent, sends}
use Rattle.client_core.specs.LastProof.{at_last_proof}
use Rattle.lane_gate.specs.Statements.{statement_hash}
use Rattle.lane_gate.specs.Tickets.{ticket_hash}
use Rattle.lane_gate.specs.declared.statement.StatementHash.{StatementHash}
use Rattle.lane_gate.specs.declared.ticket.Ticket.{Ticket}
use Rattle.letter_copies.specs.declared.copies.LetterEnd.{LetterEnd}
use Rattle.letter_copies.specs.declared.copies.Try.{Try}
use Rattle.letter_copies.specs.Copies.{end_of}
use Rattle.kept_letter.specs.declared.next.LetterNext.{LetterNext}
use Rattle.kept_letter.specs.declared.next.LetterNext.TheVariants as next
use Rattle.kept_letter.specs.declared.next.Sending.{Sending}
use Rattle.kept_letter.specs.Draws.{helper_ticket, leader_ticket}
use Rattle.kept_letter.specs.Letters.{LetterState, is_text_whole, present_seed, write_of}

-- the hash of the statement of a write: the key of its challenges, and the public part that is made of its
-- client's first two words
abbrev pub hash_of : (seed : List ℕ) (serial : ℕ) (ckey : List ℕ) → Request → Option StatementHash
hash_of seed serial ckey (Write target message) =
    Some (statement_hash ckey (honest_keys target message (choice seed serial 0) (choice seed serial 1)))
hash_of seed serial ckey (Register address) = None
hash_of seed serial ckey (Read own) = None
hash_of seed serial ckey (Retire own) = None

abbrev pub statement_by : (seed : List ℕ) (serial : ℕ) → Option (List ℕ) → Option Request
    → Option StatementHash
statement_by seed serial None request = None
statement_by seed serial (Some ckey) None = None
statement_by seed serial (Some ckey) (Some request) = hash_of seed serial ckey request

-- that of the present try's write, once the key came
unfoldable pub statement_of : LetterState → (copy serial : ℕ) → Option StatementHash
statement_of s copy serial = statement_by (present_seed s) serial s.key (write_of s copy)

abbrev pub role_of : ℕ → Role
role_of server = if server == 0 then Leader else Helper

abbrev pub ticket_for : LetterState → Role → Ticket
ticket_for s Leader = leader_ticket s.seed (s.tries - 1)
ticket_for s Helper = helper_ticket s.seed (s.tries - 1)

abbrev pub sending : LetterState → (copy : ℕ) → Client → Sent → Sending
sending s copy c sent = record {
  to = role_of sent.server;
  ticket = ticket_for s (role_of sent.server);
  statement = statement_of s copy c.serial;
  len = length (spelling sent.frame);
}

abbrev pub end_or_begin : Option LetterEnd → LetterNext
end_or_begin None = next.Begin
end_or_begin (Some end) = next.Ended end

-- a client has a request, so there is always a frame
abbrev pub send_at : LetterState → (copy : ℕ) → Client → Option Sent → LetterNext
send_at s copy c None = next.Begin
send_at s copy c (Some sent) = next.Send (sending s copy c sent)

abbrev pub next_at : LetterState → Option Try → Option Client → LetterNext
next_at s None now = end_or_begin (end_of s.copies)
next_at s (Some t) None =
    next.Lease (leader_ticket s.seed (s.tries - 1)) (ticket_hash (helper_ticket s.seed (s.tries - 1)))
next_at s (Some t) (Some c) =
    if at_last_proof c.current && not t.proof_out then next.NoteProof else send_at s t.copy c (sends c)

-- The text is missing; the letter's end; a try is to begin; it asks for a lease; its last proof is to be
-- noted; or the frame of its client's step goes out, with the ticket for its server, and a proof with the
-- hash of its statement.
unfoldable pub next_of : LetterState → LetterNext
next_of s = if is_text_whole s then next_at s s.copies.present s.client else next.Text

-- the frame that goes out
abbrev pub sent_at : LetterNext → Option Client → Option Sent
sent_at (next.Send sending) (Some c) = sends c
sent_at asked now = None
