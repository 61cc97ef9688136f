-- Exchanges with two servers, one after another.
use Rattle.std.specs.Prelude.{◌≡◌, ℕ, zero, suc, List, [], ◌∷◌, Option}
use Rattle.express_words.specs.Calls.{Call}
use Rattle.node_exchange.specs.Exchanging.{Exchange, ExchangeOn}
use Rattle.node_client.specs.declared.peers.Peers.{Peers}

-- the leader is 0, the helper 1
abbrev pub address_of : Peers → ℕ → List ℕ
address_of peers zero = peers.leader.now
address_of peers (suc n) = peers.helper.now

-- an exchange with a server
pub record Talk : Type 0 where
  pub server : ℕ
  pub exchange : Exchange

-- from one state of a net to another this exchange was made, and nothing else
abbrev pub TalkOn : Peers → Talk → Option (List Call) → Option (List Call) → Type 0
TalkOn peers t before now = ExchangeOn (address_of peers t.server) t.exchange before now

-- these exchanges were made in order, and nothing else
abbrev pub TalksOn : Peers → List Talk → Option (List Call) → Option (List Call) → Type 0
TalksOn peers [] before now = now ≡ before
TalksOn peers (t ∷ others) before now =
    (next : Option (List Call)) × TalkOn peers t before next × TalksOn peers others next now
