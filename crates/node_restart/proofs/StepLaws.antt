-- What a step leaves, and the fold of one frame more.
use Rattle.std.proofs.Common.{◌≡◌, ℕ, Bool, List, [], ◌∷◌, ◌++◌, refl, ap, Option, Some, None, Result, Ok, Err}
use Rattle.std.specs.Prelude.{IsOk}
use Rattle.express_words.specs.declared.refusal.Refusal.{Refusal}
use Rattle.frame_rules.specs.Frames.{PlainFrame, PlainBody}
use Rattle.frame_rules.specs.Whole.{whole, linked, if_linked, is_command, is_reply}
use Rattle.step_rules.specs.Helper.{Helper as HelperState, Server, opened_server}
use Rattle.step_rules.specs.HelperClients as helper_clients
use Rattle.step_rules.specs.HelperCommands.{if_command}
use Rattle.step_rules.specs.Leader.{Leader as LeaderState, opened_leader}
use Rattle.step_rules.specs.LeaderClients as leader_clients
use Rattle.step_rules.specs.LeaderReplies.{if_reply}
use Rattle.node_restart.specs.declared.server.Core.{Core}
use Rattle.node_restart.specs.declared.server.Core.TheVariants.{Lead, Help}
use Rattle.node_restart.specs.declared.frames.Sender.{Sender}
use Rattle.node_restart.specs.declared.frames.Sender.TheVariants.{Client, Peer}
use Rattle.node_restart.specs.Frames.{Handed, IsOneFrame}
use Rattle.node_restart.specs.Steps.{step_of, lead_client, lead_peer, help_client, help_peer, fold_from, opened, opened_as, settings_of, role_of}
use Rattle.node_restart.specs.declared.opening.Opening.{Opening}
use Rattle.express_words.specs.declared.role.Role.{Role}
use Rattle.express_words.specs.declared.role.Role.TheVariants.{Leader, Helper}
use Rattle.express_words.specs.declared.settings.Settings.{Settings}

lead_stays : (a : LeaderState) (w : Result PlainFrame Refusal) → (IsOk w → ⊥) → (leader_clients.on_whole a w).leader ≡ a
unfolding leader_clients.on_whole
lead_stays a (Err r) apart = refl
lead_stays a (Ok f) apart = absurd (apart refl)

help_stays : (h : Server) (w : Result PlainFrame Refusal) → (IsOk w → ⊥) → (helper_clients.on_whole h w).server ≡ h
unfolding helper_clients.on_whole
help_stays h (Err r) apart = refl
help_stays h (Ok f) apart = absurd (apart refl)

not_linked : (class : PlainBody → Bool) (width : ℕ) (w : Result PlainFrame Refusal) → (IsOk w → ⊥) → if_linked class width w ≡ None
not_linked class width (Err r) apart = refl
not_linked class width (Ok f) apart = absurd (apart refl)

no_command : (h : HelperState) (given : Option PlainFrame) → given ≡ None → (if_command h given).helper ≡ h
unfolding if_command
no_command h None is = refl
no_command h (Some f) is = absurd (cc)

no_reply : (a : LeaderState) (given : Option PlainFrame) → given ≡ None → (if_reply a given).leader ≡ a
unfolding if_reply
no_reply a None is = refl
no_reply a (Some f) is = absurd (cc)

-- bytes that aren't exactly one frame change nothing
pub no_frame_stays : (core : Core) (sender : Sender) (bytes : List ℕ) → (IsOneFrame bytes → ⊥) → (step_of core sender bytes).core ≡ core
unfolding lead_client lead_peer help_client help_peer linked
no_frame_stays (Lead a) Client bytes apart = ap Lead (lead_stays a (whole bytes) apart)
no_frame_stays (Lead a) Peer bytes apart = ap Lead (no_reply a (linked is_reply a.settings.width bytes) (not_linked is_reply a.settings.width (whole bytes) apart))
no_frame_stays (Help h) Client bytes apart = ap (λ (s : Server). Help (record h { server = s })) (help_stays h.server (whole bytes) apart)
no_frame_stays (Help h) Peer bytes apart = ap Help (no_command h (linked is_command h.server.settings.width bytes) (not_linked is_command h.server.settings.width (whole bytes) apart))

pub fold_push : (core : Core) (frames : List Handed) (h : Handed) → fold_from core (frames ++ h ∷ []) ≡ (step_of (fold_from core frames) h.sender h.frame).core
fold_push core [] h = refl
fold_push core (x ∷ frames) h = fold_push (step_of core x.sender x.frame).core frames h

opened_as_settings : (role : Role) (settings : Settings) (seed : List ℕ) → settings_of (opened_as role settings seed) ≡ settings
unfolding opened_leader opened_server
opened_as_settings Leader settings seed = refl
opened_as_settings Helper settings seed = refl

opened_as_role : (role : Role) (settings : Settings) (seed : List ℕ) → role_of (opened_as role settings seed) ≡ role
opened_as_role Leader settings seed = refl
opened_as_role Helper settings seed = refl

pub opened_role : (o : Opening) → role_of (opened o) ≡ o.role
opened_role o = opened_as_role o.role o.settings o.seed

pub opened_settings : (o : Opening) → settings_of (opened o) ≡ o.settings
opened_settings o = opened_as_settings o.role o.settings o.seed
