-- What a net tells whose dials may go through a proxy, and what its connections tell.
use Rattle.std.specs.Prelude.{ℕ, ◌==◌, nat_le, if◌then◌else◌, List, [], ◌∷◌, length, drop, Option, Some, None}
use Rattle.express_words.specs.Calls.{Call}
use Rattle.express_words.specs.Calls as call
use Rattle.express_words.specs.Seen.{Seen, streaming}
use Rattle.express_words.specs.Streams.{Stream}
use Rattle.socks_proxy.specs.declared.net_log.Entry.{Entry}
use Rattle.socks_proxy.specs.declared.proxied_net.ProxiedNet.{ProxiedNet}
use Rattle.socks_proxy.specs.declared.tunnel.Tunnel.{Tunnel}
use Rattle.socks_proxy.specs.declared.net_log.Entry.TheVariants.{Listened, Accepted, Dialled, Closed}

-- ---- a connection, from when its user has it

-- what it gave since, where it told its bytes then
abbrev pub given_since : (was now : Option Stream) → Option Stream
given_since None now = None
given_since (Some was) None = None
given_since (Some was) (Some now) =
    if nat_le (length was.given) (length now.given)
    then Some (record { given = drop (length was.given) now.given; left = now.left })
    else None

-- what it took since, where it told that then
abbrev pub taken_since : (was now : Option (List ℕ)) → Option (List ℕ)
taken_since None now = None
taken_since (Some was) None = None
taken_since (Some was) (Some now) =
    if nat_le (length was) (length now) then Some (drop (length was) now) else None

abbrev pub content_at : {C : Type 0} → (C → Seen) → List (C × Unit {0}) → Option Stream
content_at seen [] = None
content_at seen ((conn, noted) ∷ more) = (seen conn).content

abbrev pub written_at : {C : Type 0} → (C → Seen) → List (C × Unit {0}) → Option (List ℕ)
written_at seen [] = None
written_at seen ((conn, noted) ∷ more) = (seen conn).written

-- what a connection shows its user, who got it as it was noted first
abbrev pub shown_since : {C : Type 0} → (C → Seen) → (noted : List (C × Unit {0})) → Seen → Seen
shown_since seen noted now =
    streaming (given_since (content_at seen noted) now.content) (taken_since (written_at seen noted) now.written)
    now.faults

abbrev pub tunnel_seen : {C : Type 0} → (C → Seen) → Tunnel C → Seen
tunnel_seen seen t = shown_since seen t.noted.items (seen t.below)

-- ---- the net

-- the close of a connection that tells its bytes
abbrev pub close_of : Option Stream → Option (List ℕ) → ℕ → Option Call
close_of None written faults = None
close_of (Some content) None faults = None
close_of (Some content) (Some written) faults = Some (call.Closed content.given written (faults == 0))

-- a call of its entry and of the connection that it closed
abbrev pub call_of : {T : Type 0} → (T → Seen) → Entry × Option T → Option Call
call_of seen (Listened at failed, closed) = Some (call.Listened at failed)
call_of seen (Accepted failed, closed) = Some (call.Accepted failed)
call_of seen (Dialled peer failed, closed) = Some (call.Dialled peer failed)
call_of seen (Closed, None) = None
call_of seen (Closed, Some conn) = close_of (seen conn).content (seen conn).written (seen conn).faults

-- A net that tells its calls now told them before.
abbrev pub WasTold : (old new : Option (List Call)) → Type 0
WasTold old None = Unit {0}
WasTold None (Some new) = ⊥
WasTold (Some old) (Some new) = Unit {0}

-- A connection of a net that tells its calls tells what it gave and what it took.
abbrev pub TellsBoth : Option (List Call) → Option Stream → Option (List ℕ) → Type 0
TellsBoth None content written = Unit {0}
TellsBoth (Some calls) None written = ⊥
TellsBoth (Some calls) (Some content) None = ⊥
TellsBoth (Some calls) (Some content) (Some written) = Unit {0}

-- both, where both are told
abbrev pub in_front : Option Call → Option (List Call) → Option (List Call)
in_front None calls = None
in_front (Some call) None = None
in_front (Some call) (Some calls) = Some (call ∷ calls)

abbrev pub all_calls : {T : Type 0} → (T → Seen) → List (Entry × Option T) → Option (List Call)
all_calls seen [] = Some []
all_calls seen (item ∷ items) = in_front (call_of seen item) (all_calls seen items)

-- A net over one that tells its calls tells its own, where each connection that it closed told its bytes.
abbrev pub calls_over : {T : Type 0} → (T → Seen) → (below : Option (List Call)) → List (Entry × Option T)
    → Option (List Call)
calls_over seen None items = None
calls_over seen (Some below) items = all_calls seen items

abbrev pub net_calls : {N C : Type 0} → (N → Seen) → (C → Seen) → ProxiedNet N C → Option (List Call)
net_calls seen conn_seen net = calls_over (tunnel_seen conn_seen) (seen net.below).calls net.log.items
