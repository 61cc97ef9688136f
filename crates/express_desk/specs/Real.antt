-- What the system's own objects tell around a word of a desk: what their calls were asked and answered.
use Rattle.std.specs.Prelude.{ℕ, List, Option, Some}
use Rattle.express_words.specs.Calls.{Call}
use Rattle.express_words.specs.Seen.{Seen, streaming}
use Rattle.desk_outside.specs.Calls.{FolderCall}
use Rattle.desk_run.specs.Scenes.{Scene}
use Rattle.express_outside.specs.Calls.{told}
use Rattle.express_outside.specs.NetCalls.{calls_of}
use Rattle.express_outside.specs.declared.adapter.Adapter.{Adapter}
use Rattle.express_outside.specs.declared.patience.Timed.{Timed}
use Rattle.express_outside.specs.declared.tcp_net.TcpNet.{TcpNet}
use Rattle.express_outside.specs.declared.tcp_ports.TcpSocket.{TcpSocket}
use Rattle.socks_proxy.specs.Telling.{calls_over, tunnel_seen}
use Rattle.socks_proxy.specs.declared.proxied_net.ProxiedNet.{ProxiedNet}

-- a connection of the net below: the bytes that the reads of its socket gave and that the writes took
abbrev pub conn_seen : {R L S : Type 0} → Adapter (Timed (TcpSocket R L S)) → Seen
conn_seen conn = streaming (told conn.inner.socket.given) (Some conn.inner.socket.taken) conn.faults

-- the net's calls, and what passed on each connection that it closed, behind the talk with a proxy
abbrev pub real_calls : {P R L S : Type 0}
    → ProxiedNet (TcpNet P (TcpSocket R L S)) (Adapter (Timed (TcpSocket R L S))) → Option (List Call)
real_calls {P} {R} {L} {S} net = calls_over (tunnel_seen (conn_seen {R = R} {L = L} {S = S}))
    (calls_of (λ socket. socket.given) (λ socket. socket.taken) net.below.log.items) net.log.items

-- the text that standard output took, the calls on the net, and those on the folder
abbrev pub real_scene : {D : Type 0} → (taken : List ℕ) → Option (List Call) → List (FolderCall D) → Scene D
real_scene taken calls files = record { written = Some taken; calls = calls; files = Some files }
