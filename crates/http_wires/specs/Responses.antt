-- What a connection of the clients' door sends for an answer.
use Rattle.std.specs.Prelude.{◌≡◌, ℕ, false, List, Option}
use Rattle.http_wires.specs.Clients.{Client, answered, is_kept}
use Rattle.http_wires.specs.Replies.{IsResponse, NoResponse}

-- the response stands in the buffer's front, and the connection is kept behind it as its request said
abbrev pub Responds : List ℕ → Option (List ℕ) → ℕ → List ℕ → Client → Client → Type 0
Responds answer origin n out p q = IsResponse answer origin (is_kept p) n out × (q ≡ answered (is_kept p) p)

-- there is no response, and nothing more is asked
abbrev pub NothingGoes : List ℕ → Option (List ℕ) → Client → Client → Type 0
NothingGoes answer origin p q = NoResponse answer origin (is_kept p) × (q ≡ answered false p)
