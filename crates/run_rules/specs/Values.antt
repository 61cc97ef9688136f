-- What the requests of a run hold: keys, writes, proofs, openings and closings, and the shares of the boxes.
use Rattle.std.specs.Prelude.{ℕ, if◌then◌else◌, Bool, List, length, map, take}
use Rattle.express_words.specs.declared.audit.ProofShare.{ProofShare}
use Rattle.express_words.specs.declared.audit.Openings.{Openings}
use Rattle.express_words.specs.declared.audit.Closing.{Closing}
use Rattle.dpf_rules.specs.Expansion.{owner_key, choice}
use Rattle.dpf_rules.specs.Walk.{write_bytes}
use Rattle.audit_rules.specs.Audit.{opened_of, closing_of}
use Rattle.mailbox_rules.specs.Requests.{Begins, Audits}
use Rattle.mailbox_rules.specs.Tables.{Mailbox, Table, Writes, table_after, addresses}
use Rattle.step_rules.specs.Boxes.{Box}
use Rattle.audit_rules.specs.Values.{Write, opens, accepts, ckey_of, sigma_of}
use Rattle.step_rules.specs.ClientAsks.{public_part, share_for}
use Rattle.run_rules.specs.Letters.{client_seed}
use Rattle.run_rules.specs.Book.{Book, table_at, request_of, target_of, message_of, client_at, place}
use Rattle.run_rules.specs.Book.{leaders_draw, helpers_draw}

-- a server's key of the box that a lane registers with a serial
abbrev pub key_at : Book → ℕ → ℕ → ℕ → List ℕ
key_at b server c serial =
    if b.foreign c then b.brought.key server c serial else owner_key (client_seed b.seed c) serial server

abbrev pub target_at : Book → ℕ → ℕ → ℕ
target_at b c serial = target_of (request_of b c serial)

abbrev pub message_at : Book → ℕ → ℕ → List ℕ
message_at b c serial = message_of (request_of b c serial)

-- A write. Its key of the challenges is the sum of both servers' draws at its begin.

abbrev pub root_at : Book → ℕ → ℕ → ℕ → ℕ
root_at b server c serial =
    if b.foreign c then b.brought.root server c serial else choice (client_seed b.seed c) serial server

abbrev pub part_at : Book → ℕ → ℕ → List ℕ
part_at b c serial =
    if b.foreign c then b.brought.part c serial
    else public_part (client_at b c serial) (target_at b c serial) (message_at b c serial)

unfoldable pub ckey_at : Book → ℕ → ℕ → List ℕ
ckey_at b c serial =
    let begin = place b c serial Begins in
    ckey_of (leaders_draw b begin) (helpers_draw b begin)

-- the addresses of the boxes when it began
abbrev pub counted_at : Book → ℕ → ℕ → List ℕ
counted_at b c serial = addresses (table_at b (place b c serial Begins)).boxes

unfoldable pub write_at : Book → ℕ → ℕ → ℕ → Write
write_at b server c serial = record {
  root = root_at b server c serial;
  part = part_at b c serial;
  count = length (counted_at b c serial);
  ckey = ckey_at b c serial;
}

-- Its audit

unfoldable pub share_at : Book → ℕ → ℕ → ℕ → ProofShare
share_at b server c serial =
    if b.foreign c then b.brought.share server c serial
    else
    share_for (client_at b c serial) (target_at b c serial) (message_at b c serial) (ckey_at b c serial)
    server

unfoldable pub sigma_at : Book → ℕ → ℕ → ℕ
sigma_at b c serial = sigma_of (leaders_draw b (place b c serial Audits))

unfoldable pub opened_at : Book → ℕ → ℕ → ℕ → Openings
opened_at b server c serial =
    opens server (write_at b server c serial) (counted_at b c serial) (share_at b server c serial)
    (sigma_at b c serial)

unfoldable pub closing_at : Book → ℕ → ℕ → ℕ → Closing
closing_at b server c serial =
    closing_of server (share_at b server c serial) (sigma_at b c serial)
    (opened_of (opened_at b 0 c serial) (opened_at b 1 c serial))

abbrev pub accepted_at : Book → ℕ → ℕ → Bool
accepted_at b c serial = accepts (closing_at b 0 c serial) (closing_at b 1 c serial)

-- A server's shares of the boxes

abbrev pub writes_at : Book → ℕ → Writes
writes_at b server = record {
  accepts = λ c serial. accepted_at b c serial;
  adds = λ c serial address. write_bytes (part_at b c serial) server (root_at b server c serial) address;
}

-- after the first i entries
unfoldable pub shares_at : Book → ℕ → ℕ → Table
shares_at b server i = table_after b.settings.boxes b.settings.width (writes_at b server) (take i b.entries)

abbrev pub box_at : Book → ℕ → Mailbox → Box
box_at b server box =
    record {
      address = box.address;
      key = key_at b server box.lane box.serial;
      share = box.bytes;
      live = box.live;
    }

abbrev pub boxes_at : Book → ℕ → ℕ → List Box
boxes_at b server i = map (λ box. box_at b server box) (shares_at b server i).boxes
