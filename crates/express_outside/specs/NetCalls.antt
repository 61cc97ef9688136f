-- The calls that a net's log holds, each with the connection that it closed.
use Rattle.std.specs.Prelude.{◌≡◌, ℕ, ◌==◌, true, List, [], map, Option, Some, None}
use Rattle.express_words.specs.Calls.{Call}
use Rattle.express_words.specs.Calls as call
use Rattle.express_outside.specs.declared.adapter.Adapter.{Adapter}
use Rattle.express_outside.specs.declared.patience.Timed.{Timed}
use Rattle.express_outside.specs.declared.net_log.Entry.{Entry}
use Rattle.express_outside.specs.declared.net_log.Entry.TheVariants.{Listened, Accepted, Dialled, Closed}

-- a call of its entry and of the connection that it closed, by what a socket gave and took
abbrev pub call_of : {S : Type 0} → (given taken : S → List ℕ) → Entry × Option (Adapter (Timed S)) → Call
call_of given taken (Listened at failed, closed) = call.Listened at failed
call_of given taken (Accepted failed, closed) = call.Accepted failed
call_of given taken (Dialled peer failed, closed) = call.Dialled peer failed
call_of given taken (Closed, Some conn) =
    call.Closed (given conn.inner.socket) (taken conn.inner.socket) (conn.faults == 0)
call_of given taken (Closed, None) = call.Closed [] [] true

abbrev pub calls_of : {S : Type 0} → (given taken : S → List ℕ) → List (Entry × Option (Adapter (Timed S)))
    → Option (List Call)
calls_of given taken items = Some (map (call_of given taken) items)

-- nothing was given and nothing taken yet
abbrev pub IsFresh : (given taken : List ℕ) → Type 0
IsFresh given taken = (given ≡ []) × (taken ≡ [])
