-- What servers and clients draw at any state: slices of their seeds' streams, each of its own.
use Rattle.std.specs.Prelude.{◌≡◌, ℕ, ◌*◌, ◌<◌, slice_index_or}
use Rattle.dpf_rules.specs.Expansion.{stream_bytes, stream_number}
use Rattle.step_rules.specs.Client.{Client}
use Rattle.step_rules.specs.ClientAsks as client
use Rattle.step_rules.specs.ClientAsks.{owned_by, words}
use Rattle.step_rules.specs.Helper.{Server}
use Rattle.step_rules.specs.HelperCommands as helper
use Rattle.step_rules.specs.Leader.{Leader}
use Rattle.step_rules.specs.LeaderClients as leader

-- A server's draw is of a stream of its seed that no other count of draws has.
pub record ServersDrawAfresh : Type 0 where
  pub stream : ℕ → ℕ
  pub distinct : (n m : ℕ) → stream n ≡ stream m → n ≡ m
  pub leader : (a : Leader) → leader.draw a ≡ stream_bytes a.seed (stream a.draws) 0 32
  pub helper : (h : Server) → helper.draw h ≡ stream_bytes h.seed (stream h.draws) 0 32

-- A client's words and keys are of a stream of its seed that no other serial has. Word k is the k-th sixteen
-- bytes of it, and the roots are words 0 and 1; the keys of a box are 32 bytes each, one behind the other.
pub record ClientsDrawAfresh : Type 0 where
  pub stream : ℕ → ℕ
  pub distinct : (s t : ℕ) → stream s ≡ stream t → s ≡ t
  pub word : (c : Client) (k : ℕ) → k < 16
      → slice_index_or (words c) k 0 ≡ stream_number c.seed (stream c.serial) (16 * k)
  pub root : (c : Client) (server : ℕ) → server < 2
      → client.root c server ≡ slice_index_or (words c) server 0
  pub key0 : (c : Client) (n serial : ℕ)
      → (owned_by c n serial).key0 ≡ stream_bytes c.seed (stream serial) 0 32
  pub key1 : (c : Client) (n serial : ℕ)
      → (owned_by c n serial).key1 ≡ stream_bytes c.seed (stream serial) 32 32
