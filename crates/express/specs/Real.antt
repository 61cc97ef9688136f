-- What the system's own objects tell around a run: what their calls were asked and answered.
use Rattle.std.specs.Prelude.{ℕ, List, Some}
use Rattle.express_words.specs.Seen.{Seen, streaming, netted, silent}
use Rattle.express_cli.specs.Around.{Around, Shown, Streams}
use Rattle.express_outside.specs.Calls.{told}
use Rattle.express_outside.specs.NetCalls.{calls_of}
use Rattle.express_outside.specs.declared.adapter.Adapter.{Adapter}
use Rattle.express_outside.specs.declared.calls.Direct.{Direct}
use Rattle.express_outside.specs.declared.file_disk.FileDisk.{FileDisk}
use Rattle.express_outside.specs.declared.patience.Timed.{Timed}
use Rattle.express_outside.specs.declared.tcp_net.TcpNet.{TcpNet}
use Rattle.express_outside.specs.declared.tcp_ports.TcpSocket.{TcpSocket}

-- an input or an output: the bytes that its reads gave and that its writes took
abbrev pub stream_seen : {T : Type 0} → Adapter (Direct T) → Seen
stream_seen stream = streaming (told stream.inner.given) (Some stream.inner.taken) stream.faults

-- a connection: the bytes that the reads of its socket gave and that the writes took
abbrev pub conn_seen : {R L S : Type 0} → Adapter (Timed (TcpSocket R L S)) → Seen
conn_seen conn = streaming (told conn.inner.socket.given) (Some conn.inner.socket.taken) conn.faults

-- the net: its calls
abbrev pub net_seen : {P R L S : Type 0} → TcpNet P (TcpSocket R L S) → Seen
net_seen net = netted (calls_of (λ socket. socket.given) (λ socket. socket.taken) net.log.items) net.faults net.doors

abbrev pub real_streams : {I O : Type 0} → (input input_now : Adapter (Direct I)) → (out out_now : Adapter (Direct O))
    → Streams
real_streams input input_now out out_now = record {
  input = stream_seen input;
  input_now = stream_seen input_now;
  out = stream_seen out;
  out_now = stream_seen out_now;
}

-- the seed, the net before and now, and what its connections show
abbrev pub real_around : {P R L S : Type 0} → (seed : List ℕ) → (old new : TcpNet P (TcpSocket R L S)) → Around
real_around {P} {R} {L} {S} seed old new = record {
  seed = seed;
  before = net_seen old;
  now = net_seen new;
  shown = Shown (conn_seen {R = R} {L = L} {S = S});
}
