-- The calls that a ledger holds: an entry for each, the texts of all one after another,
-- and the closed connections.
use Rattle.std.specs.Prelude.{ℕ, ◌+◌, Bool, List, [], ◌∷◌, take, drop}
use Rattle.express_words.specs.Calls.{Call, Listened, Accepted, Dialled}
use Rattle.express_words.specs.Memory.{ConnState, close_of}
use Rattle.express_words.specs.declared.outside.net_ledger.Door.{Door}
use Rattle.express_words.specs.declared.outside.net_ledger.Door.TheVariants.{Listen, Accept, Dial}
use Rattle.express_words.specs.declared.outside.net_ledger.Entry.{Entry}
use Rattle.express_words.specs.declared.outside.net_ledger.Entry.TheVariants.{Opened, Closed}

abbrev pub call_of : Door → List ℕ → Bool → Call
call_of Listen text fails = Listened text fails
call_of Accept text fails = Accepted fails
call_of Dial text fails = Dialled text fails

abbrev pub calls_of : List Entry → List ℕ → List ConnState → List Call
calls_of [] texts closed = []
calls_of (Opened door bytes fails ∷ entries) texts closed =
    call_of door (take bytes texts) fails ∷ calls_of entries (drop bytes texts) closed
calls_of (Closed ∷ entries) texts [] = calls_of entries texts []
calls_of (Closed ∷ entries) texts (conn ∷ closed) = close_of conn ∷ calls_of entries texts closed

-- how many bytes of text the entries have
abbrev pub text_bytes : List Entry → ℕ
text_bytes [] = 0
text_bytes (Opened door bytes fails ∷ entries) = bytes + text_bytes entries
text_bytes (Closed ∷ entries) = text_bytes entries

-- how many of the entries are closes
abbrev pub closes : List Entry → ℕ
closes [] = 0
closes (Opened door bytes fails ∷ entries) = closes entries
closes (Closed ∷ entries) = 1 + closes entries
