-- What a machine wants next, and how it hears an answer.
use Rattle.std.specs.Prelude.{◌≡◌, ◌≤◌, ℕ, List, length, Option, Some, None}
use Rattle.std.specs.Borrow.{Bor}
use Rattle.express_words.specs.declared.role.Role.{Role}
use Rattle.http_door.specs.Heads.{body_max}
use Rattle.http_door.specs.Replies.{PlainReply}
use Rattle.http_door.specs.Requests.{PlainRequest, plain_request, request_body}
use Rattle.kept_machine.specs.Machines.{Rules}
use Rattle.node_journal.specs.Records.{IsSized}
use Rattle.door_work.specs.declared.next.Next.{Next}
use Rattle.door_work.specs.declared.next.Next.TheVariants as next

-- what a machine wants next, without where its bytes lie in memory
pub data PlainNext : Type 0 where
  Rest : PlainNext
  Note : (record_bytes : List ℕ) → PlainNext
  Ask : (to : Role) (request : PlainRequest) → PlainNext

abbrev pub plain_next : Next → PlainNext
plain_next next.Rest = Rest
plain_next (next.Note bytes) = Note bytes.now
plain_next (next.Ask to request) = Ask to (plain_request request)

abbrev pub record_in : Option (Bor (List ℕ)) → Option (List ℕ)
record_in None = None
record_in (Some bytes) = Some bytes.now

-- What a machine wants next; and the record by which it hears an answer to that, if the answer brings it on.
pub record Asking (M : Type 0) : Type 0 where
  pub next_of : M → PlainNext
  pub heard_as : M → PlainReply → Option (List ℕ)

-- memory that was taken ahead changes neither
pub record AskingHolds {M : Type 0} (rules : Rules M) (asking : Asking M) : Type 0 where
  pub same_next : (a b : M) → rules.is_same a b → asking.next_of b ≡ asking.next_of a
  pub same_heard : (a b : M) (reply : PlainReply) → rules.is_same a b
      → asking.heard_as b reply ≡ asking.heard_as a reply

-- what is noted is a record of the machine's, and what is asked has a body that a door takes
abbrev pub CanBeDone : (List ℕ → Type 0) → PlainNext → Type 0
CanBeDone is_record Rest = Unit {0}
CanBeDone is_record (Note bytes) = is_record bytes × IsSized bytes
CanBeDone is_record (Ask to request) = length (request_body request) ≤ body_max

-- each record that has a record's length is an input, and is its own record
pub record TakesRecords {M : Type 0} (rules : Rules M) (is_input : List ℕ → Type 0)
    (record_of : List ℕ → Option (List ℕ)) (most : ℕ) : Type 0 where
  pub input : (bytes : List ℕ) → rules.is_record bytes → IsSized bytes → is_input bytes
  pub itself : (bytes : List ℕ) → record_of bytes ≡ Some bytes
  pub no_room : most ≡ 0
