-- The texts of a proxy's faults.
use Rattle.std.specs.Prelude.{ℕ, ◌==◌, ◌||◌, if◌then◌else◌, List, codes}
use Rattle.socks_proxy.specs.declared.fault.ProxyFault.{ProxyFault}
use Rattle.socks_proxy.specs.declared.fault.ProxyFault.TheVariants as fault

-- by the code of a reply (RFC 1928, section 6; from 240 on Tor's, proposal 304)
abbrev pub refusal_text : ℕ → List ℕ
refusal_text code =
    if code == 2 then codes "the proxy's rules forbid this connection"
    else if code == 3 || (code == 4 || code == 6)
    then codes "the server isn't reached: it is down, or the network is"
    else if code == 5 then codes "the server is reached, but refuses the connection"
    else if code == 240 || (code == 242 || (code == 243 || code == 247))
    then codes "nobody serves the card's onion address now"
    else if code == 244 || code == 245 then codes "the onion service lets in only those who have its key"
    else if code == 241 || code == 246
    then codes "the card's address is no onion address: a letter of it is wrong"
    else codes "the proxy couldn't reach the server: it is down, or its address is wrong"

abbrev pub fault_text : ProxyFault → List ℕ
fault_text fault.NoTor = codes "Tor isn't running: nobody listens at 127.0.0.1:9050, nor at 127.0.0.1:9150"
fault_text fault.NoProxy = codes "nobody listens at the proxy's place"
fault_text fault.Place = codes "the server's place is no onion address, or none that a proxy takes"
fault_text fault.NotSocks = codes "what answers at the proxy's place isn't Tor"
fault_text fault.NoNames = codes "the proxy takes no user names, by which Tor keeps letters apart"
fault_text fault.NeedsPassword = codes "the proxy wants a user name and a password of its own"
fault_text (fault.Refused code) = refusal_text code
fault_text fault.Ended = codes "the proxy ended the connection before it had answered"
fault_text fault.Failed = codes "the proxy didn't answer in time, or its connection broke"
fault_text fault.Spent = codes "this run has used up its names for connections"
fault_text fault.NoMemory = codes "there is no memory left"
