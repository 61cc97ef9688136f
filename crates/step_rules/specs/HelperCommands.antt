-- The helper's steps at commands of the leader. In each function the first line that applies is taken.
use Rattle.std.specs.Prelude.{ℕ, ◌+◌, ◌-◌, nat_le, ◌==◌, if◌then◌else◌, Bool, true, false, List, [], ◌∷◌}
use Rattle.std.specs.Prelude.{◌++◌, length, take, drop, Option, Some, None, slice_get, slice_index_or}
use Rattle.express_words.specs.Bytes.{xor_bytes}
use Rattle.express_words.specs.declared.audit.ProofShare.{ProofShare}
use Rattle.express_words.specs.declared.audit.Openings.{Openings}
use Rattle.express_words.specs.declared.audit.Closing.{Closing}
use Rattle.express_words.specs.declared.refusal.Refusal.{Refusal}
use Rattle.express_words.specs.declared.refusal.Refusal.TheVariants as refusal
use Rattle.frame_rules.specs.declared.frame.DepositBody.TheVariants as deposit
use Rattle.frame_rules.specs.Frames as frame
use Rattle.frame_rules.specs.Frames.{PlainFrame, PlainBody, PlainReply}
use Rattle.frame_rules.specs.Spelling.{spelling}
use Rattle.dpf_rules.specs.Evaluation.{prefix_count}
use Rattle.dpf_rules.specs.Expansion.{draw32, token, mask}
use Rattle.lane_table.specs.declared.row.Want.{Want}
use Rattle.lane_table.specs.declared.row.Want.TheVariants.{Register, Write as Writes, Read}
use Rattle.step_rules.specs.Boxes.{Box, addresses_of, place_of, with_new, with_write, with_read}
use Rattle.audit_rules.specs.Audit.{accepts}
use Rattle.audit_rules.specs.Values.{Write, Values, values, ckey_of}
use Rattle.frame_rules.specs.Whole.{is_command, linked, on_link}
use Rattle.step_rules.specs.Helper.{Server, Helper, Row, Stage, Idle, Deposited, Begun, Proved, Audited, Done}
use Rattle.step_rules.specs.Helper.{row, row_at, with_row, Carried, Repeated, Ignored, LinkTurn}

-- what carrying a command out leaves, before its reply is kept
pub record Effect : Type 0 where
  pub server : Server
  pub body : PlainBody

abbrev pub effect : Server → PlainBody → Effect
effect h body = record { server = h; body = body }

abbrev pub replies_with : Server → PlainReply → Effect
replies_with h reply = effect h (frame.LinkReply reply)

abbrev pub refuses : Server → Refusal → Effect
refuses h r = replies_with h (frame.ReplyRefused r)

abbrev pub no_deposit : Server → Effect
no_deposit h = refuses h refusal.NoDeposit

abbrev pub done : Server → PlainFrame → Want → Server
done h f want = with_row h f.lane (row f.serial (Done want))

-- the stage of the lane's row, where the row has the command's serial
abbrev pub stage_for : Row → ℕ → Stage
stage_for r serial = if r.serial == serial then r.stage else Idle

-- what the row holds for a register, a begin, an audit, a settle, and a read or retire; None where it
-- isn't at that point
abbrev pub held_key : Stage → Option (List ℕ)
held_key (Deposited (deposit.Register key)) = Some key
held_key stage = None

abbrev pub held_root : Stage → Option ℕ
held_root (Deposited (deposit.Write root)) = Some root
held_root stage = None

-- the write, and its proof share if it has come
abbrev pub held_proof : Stage → Option (Option (Write × ProofShare))
held_proof (Begun w) = Some None
held_proof (Proved w share) = Some (Some (w, share))
held_proof stage = None

abbrev pub held_closing : Stage → Option (Write × Closing)
held_closing (Audited w own) = Some (w, own)
held_closing stage = None

abbrev pub held_token : Stage → Option ℕ
held_token (Deposited (deposit.Read token)) = Some token
held_token stage = None

-- ---- LinkRegister

unfoldable pub register_at : Server → PlainFrame → ℕ → List ℕ → Option ℕ → Effect
register_at h f address key (Some n) = refuses (done h f Register) (refusal.Taken n)
register_at h f address key None =
    if nat_le h.settings.boxes (length h.boxes)
    then refuses (done h f Register) (refusal.Full h.settings.boxes) else
    replies_with (record (done h f Register) { boxes = with_new h.settings.width address key h.boxes })
    (frame.ReplyRegistered (length h.boxes))

unfoldable pub register : Server → PlainFrame → ℕ → Option (List ℕ) → Effect
register h f address (Some key) = register_at h f address key (place_of address h.boxes)
register h f address None = no_deposit h

-- ---- LinkBegin

-- the helper's next draw
abbrev pub draw : Server → List ℕ
draw h = draw32 h.seed h.draws

abbrev pub begun : Server → List ℕ → List ℕ → ℕ → Write
begun h leaders part root =
    record { root = root; part = part; count = length h.boxes; ckey = ckey_of leaders (draw h) }

unfoldable pub begin : Server → PlainFrame → List ℕ → List ℕ → Option ℕ → Effect
begin h f leaders part (Some root) =
    let next = with_row h f.lane (row f.serial (Begun (begun h leaders part root))) in
    effect (record next { draws = h.draws + 1 })
    (frame.LinkBegun (length h.boxes) (draw h))
begin h f leaders part None = no_deposit h

-- ---- LinkAudit

-- the addresses of a write's boxes
abbrev pub counted : Server → Write → List ℕ
counted h w = take w.count (addresses_of h.boxes)

abbrev pub audit_values : Server → Write → ProofShare → ℕ → Openings → Values
audit_values h w share sigma other = values 1 w (counted h w) share sigma other

abbrev pub audited : Server → PlainFrame → Write → Values → Effect
audited h f w v =
    replies_with (with_row h f.lane (row f.serial (Audited w v.closing)))
    (frame.ReplyAudited v.opened v.closing)

unfoldable pub audit : Server → PlainFrame → ℕ → Openings → Option (Option (Write × ProofShare)) → Effect
audit h f sigma other (Some None) = refuses (done h f Writes) refusal.NotProved
audit h f sigma other (Some (Some p)) = audited h f p.0 (audit_values h p.0 p.1 sigma other)
audit h f sigma other None = no_deposit h

-- ---- LinkSettle

abbrev pub settled : Server → Write → Server
settled h w = record h { boxes = with_write w.part 1 w.root w.count h.boxes }

unfoldable pub settle : Server → PlainFrame → Closing → Option (Write × Closing) → Effect
settle h f leaders (Some a) =
    if accepts leaders a.1 then replies_with (settled (done h f Writes) a.0) frame.ReplyAccepted else
    replies_with (done h f Writes) frame.ReplyRejected
settle h f leaders None = no_deposit h

-- ---- LinkRead and LinkRetire

abbrev pub masked : Server → PlainFrame → Box → List ℕ
masked h f box = xor_bytes box.share (mask box.key f.lane f.serial h.settings.width)

-- a box of this number that is live; a read leaves it live, a retire doesn't
unfoldable pub read_live : Server → PlainFrame → Bool → ℕ → ℕ → Box → Effect
read_live h f stays number held box =
    if held == token box.key f.lane f.serial
    then
    replies_with (record (done h f Read) { boxes = with_read h.settings.width stays number box h.boxes })
    (frame.ReplyMasked (masked h f box))
    else refuses (done h f Read) (refusal.BadToken number)

unfoldable pub read_at : Server → PlainFrame → Bool → ℕ → ℕ → Option Box → Effect
read_at h f stays number held None = refuses (done h f Read) (refusal.NoBox number)
read_at h f stays number held (Some box) =
    if box.live then read_live h f stays number held box else refuses (done h f Read) (refusal.NoBox number)

unfoldable pub read : Server → PlainFrame → Bool → ℕ → Option ℕ → Effect
read h f stays number (Some held) = read_at h f stays number held (slice_get h.boxes number)
read h f stays number None = no_deposit h

-- ---- any command

unfoldable pub command : Server → PlainFrame → PlainBody → Stage → Effect
command h f (frame.LinkRegister address) stage = register h f address (held_key stage)
command h f (frame.LinkBegin leaders part) stage = begin h f leaders part (held_root stage)
command h f (frame.LinkAudit sigma opened) stage = audit h f sigma opened (held_proof stage)
command h f (frame.LinkSettle leaders) stage = settle h f leaders (held_closing stage)
command h f (frame.LinkRead number) stage = read h f true number (held_token stage)
command h f (frame.LinkRetire number) stage = read h f false number (held_token stage)
command h f body stage = no_deposit h

unfoldable pub carries_out : Server → PlainFrame → Effect
carries_out h f =
    if nat_le h.settings.lanes f.lane then refuses h (refusal.Lane h.settings.lanes) else
    command h f f.body (stage_for (row_at h f.lane) f.serial)

-- ---- how many nodes of the tree are expanded: one for each distinct proper prefix of an audited write's
-- addresses

unfoldable pub audit_steps : Server → Option (Option (Write × ProofShare)) → ℕ
audit_steps h (Some (Some p)) = prefix_count (counted h p.0)
audit_steps h (Some None) = 0
audit_steps h None = 0

unfoldable pub command_steps : Server → PlainBody → Stage → ℕ
command_steps h (frame.LinkAudit sigma opened) stage = audit_steps h (held_proof stage)
command_steps h body stage = 0

unfoldable pub carry_steps : Server → PlainFrame → ℕ
carry_steps h f =
    if nat_le h.settings.lanes f.lane
    then 0
    else command_steps h f.body (stage_for (row_at h f.lane) f.serial)

-- ---- the link

-- the last n of a list
abbrev pub last : ℕ → List (List ℕ) → List (List ℕ)
last n xs = drop (length xs - n) xs

-- the reply is kept among the last ones, as many as the window
abbrev pub keeps : Helper → Server → PlainFrame → Helper
keeps h server reply =
    record {
      server = server;
      carried = h.carried + 1;
      replies = last h.server.settings.window (h.replies ++ spelling reply ∷ []);
    }

abbrev pub carried_with : Helper → PlainFrame → Effect → LinkTurn
carried_with h f e =
    let reply = on_link f f.link e.body in
    record { helper = keeps h e.server reply; answer = Carried reply }

-- the kept reply to a number: the last of them is that of the last number carried
abbrev pub kept_for : Helper → ℕ → List ℕ
kept_for h number = slice_index_or h.replies (number + length h.replies - (h.carried + 1)) []

-- commands are carried out in the order of their numbers alone
unfoldable pub arrives : Helper → PlainFrame → LinkTurn
arrives h f =
    if f.link == h.carried + 1 then carried_with h f (carries_out h.server f) else
    if nat_le f.link h.carried then
    (if nat_le (h.carried + 1) (f.link + length h.replies)
    then record { helper = h; answer = Repeated (kept_for h f.link) }
    else record { helper = h; answer = Ignored })
    else record { helper = h; answer = Ignored }

unfoldable pub if_command : Helper → Option PlainFrame → LinkTurn
if_command h (Some f) = arrives h f
if_command h None = record { helper = h; answer = Ignored }

-- a command that isn't the next one expands nothing
unfoldable pub arrival_steps : Helper → Option PlainFrame → ℕ
arrival_steps h None = 0
arrival_steps h (Some f) = if f.link == h.carried + 1 then carry_steps h.server f else 0

abbrev pub link_steps : Helper → List ℕ → ℕ
link_steps h bytes = arrival_steps h (linked is_command h.server.settings.width bytes)

abbrev pub on_link_bytes : Helper → List ℕ → LinkTurn
on_link_bytes h bytes = if_command h (linked is_command h.server.settings.width bytes)
