-- What a server does with a frame that it is handed, by the tables of the leader and of the helper.
use Rattle.std.specs.Prelude.{◌≡◌, ℕ, ◌+◌, List, [], ◌∷◌, length, take, drop, Option, None}
use Rattle.express_words.specs.declared.settings.Settings.{Settings}
use Rattle.frame_rules.specs.Frames.{PlainFrame}
use Rattle.frame_rules.specs.Spelling.{spelling}
use Rattle.step_rules.specs.Leader as leader
use Rattle.step_rules.specs.LeaderClients as leader_clients
use Rattle.step_rules.specs.LeaderReplies.{on_reply_bytes, resent}
use Rattle.step_rules.specs.Helper as helper
use Rattle.step_rules.specs.HelperClients as helper_clients
use Rattle.step_rules.specs.HelperCommands.{on_link_bytes}
use Rattle.leader_core.specs.Told as told
use Rattle.leader_core.specs.State as leader_state
use Rattle.helper_core.specs.State as helper_state
use Rattle.node_restart.specs.declared.server.Core.{Core}
use Rattle.node_restart.specs.declared.server.Core.TheVariants.{Lead, Help}
use Rattle.node_restart.specs.declared.did.Did.{Did}
use Rattle.node_restart.specs.declared.did.Did.TheVariants as did
use Rattle.node_restart.specs.declared.frames.Sender.{Sender}
use Rattle.node_restart.specs.declared.frames.Sender.TheVariants.{Client, Peer}
use Rattle.node_restart.specs.declared.opening.Opening.{Opening}
use Rattle.express_words.specs.declared.role.Role.{Role}
use Rattle.express_words.specs.declared.role.Role.TheVariants as role
use Rattle.node_restart.specs.Frames.{Handed}

-- the server after a step, what it did, and the bytes that it wrote
pub record Step : Type 0 where
  pub core : Core
  pub did : Did
  pub written : List ℕ

unfoldable pub lead_client : leader.Leader → List ℕ → Step
lead_client a bytes =
    let turn = leader_clients.on_client a bytes in
    record {
      core = Lead turn.leader;
      did = did.Lead (told.turned turn.answer);
      written = leader.written turn.answer;
    }

unfoldable pub lead_peer : leader.Leader → List ℕ → Step
lead_peer a bytes =
    let turn = on_reply_bytes a bytes in
    record {
      core = Lead turn.leader;
      did = did.Acked (told.acked turn.ack);
      written = told.acked_bytes turn.ack;
    }

unfoldable pub help_client : helper.Helper → List ℕ → Step
help_client h bytes =
    let turn = helper_clients.on_client h bytes in
    record {
      core = Help turn.helper;
      did = did.Replied (length (spelling turn.reply));
      written = spelling turn.reply;
    }

unfoldable pub help_peer : helper.Helper → List ℕ → Step
help_peer h bytes =
    let turn = on_link_bytes h bytes in
    record {
      core = Help turn.helper;
      did = did.Linked (helper_state.turned turn.answer);
      written = helper.written turn.answer;
    }

abbrev pub step_of : Core → Sender → List ℕ → Step
step_of (Lead a) Client bytes = lead_client a bytes
step_of (Lead a) Peer bytes = lead_peer a bytes
step_of (Help h) Client bytes = help_client h bytes
step_of (Help h) Peer bytes = help_peer h bytes

-- A call took this step: the server, what it told, and what stands at the front of the buffer.
pub record Takes (s : Step) (after : Core) (told : Did) (old new : List ℕ) : Type 0 where
  pub core : after ≡ s.core
  pub did : told ≡ s.did
  pub written : take (length s.written) new ≡ s.written
  pub rest : drop (length s.written) new ≡ drop (length s.written) old

-- ---- the server that an opening and a list of frames give

abbrev pub opened_as : Role → Settings → List ℕ → Core
opened_as role.Leader settings seed = Lead (leader.opened_leader settings seed)
opened_as role.Helper settings seed = Help (helper.opened_helper settings seed)

abbrev pub opened : Opening → Core
opened o = opened_as o.role o.settings o.seed

abbrev pub fold_from : Core → List Handed → Core
fold_from core [] = core
fold_from core (h ∷ frames) = fold_from (step_of core h.sender h.frame).core frames

abbrev pub fold : Opening → List Handed → Core
fold o frames = fold_from (opened o) frames

-- ---- what a server shows

abbrev pub role_of : Core → Role
role_of (Lead a) = role.Leader
role_of (Help h) = role.Helper

abbrev pub settings_of : Core → Settings
settings_of (Lead a) = a.settings
settings_of (Help h) = h.server.settings

abbrev pub share_in : Core → ℕ → List ℕ
share_in (Lead a) number = leader_state.share_in a number
share_in (Help h) number = helper_state.share_in h.server number

-- the oldest outstanding command; a helper has none
abbrev pub resent_by : Core → Option PlainFrame
resent_by (Lead a) = resent a
resent_by (Help h) = None

-- the number of the oldest outstanding command
abbrev pub IsOldest : Core → ℕ → Type 0
IsOldest (Lead a) number = number + length a.outstanding ≡ a.next
IsOldest (Help h) number = ⊥
