-- A server whose frames go nowhere.
use Rattle.std.specs.Prelude.{◌≡◌, ℕ, List, []}
use Rattle.node_restart.specs.declared.server.Core.{Core}
use Rattle.node_restart.specs.declared.server.Core.TheVariants.{Lead, Help}
use Rattle.node_serve.specs.declared.never.Never.{Never}
use Rattle.node_serve.specs.declared.node.Node.{Node}
use Rattle.node_serve.specs.declared.node.Node.TheVariants as node
use Rattle.node_serve.specs.Logs.{Log}

-- every frame is taken, and none is refused
abbrev pub no_log : {S : Type 0} → (S → Core) → Log S Never
no_log core =
    record { core = core; takes = λ old new frames. Unit {0}; stops = λ old new frames refused why. ⊥ }

-- which of the two servers a node is
abbrev pub core_of : Node → Core
core_of (node.Lead a peer) = Lead a
core_of (node.Help h) = Help h

-- where a leader's helper listens; a helper has none
abbrev pub peer_of : Node → List ℕ
peer_of (node.Lead a peer) = peer
peer_of (node.Help h) = []

-- so of a node, whose peer stays
abbrev pub node_log : Log Node Never
node_log = record {
  core = core_of;
  takes = λ old new frames. peer_of new ≡ peer_of old;
  stops = λ old new frames refused why. ⊥;
}
