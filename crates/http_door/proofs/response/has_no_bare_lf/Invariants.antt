use Rattle.std.proofs.Common.{◌≡◌, drop}
use Rattle.http1.specs.Text.{lf_follows_cr}
use Rattle.http_door.proofs.response.has_no_bare_lf.Given as goal

abbrev pub invariant-loop-byte : goal.invariant-loop-byte
invariant-loop-byte l = lf_follows_cr l.before (drop l.byte-index l.bytes) ≡ lf_follows_cr 0 l.bytes
