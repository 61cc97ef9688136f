-- A helper's step depends on the boxes' shares in the share that it masks alone, and on its lane's row alone.
use Rattle.std.proofs.Common.{◌≡◌, ◌∙◌, ◌<◌, ℕ, Bool, true, false, cond, nat_le, nat_eq, List, length, position, take, Option, Some, None, slice_get, slice_set, slice_index_or, refl, sym, ap, ap₂}
use Rattle.std.specs.Option.{option_map}
use Rattle.std.proofs.lemmas.List.{get_or-set_same}
use Rattle.express_words.specs.declared.audit.ProofShare.{ProofShare}
use Rattle.express_words.specs.declared.audit.Openings.{Openings}
use Rattle.express_words.specs.declared.audit.Closing.{Closing}
use Rattle.audit_rules.specs.Audit.{accepts}
use Rattle.audit_rules.specs.Values.{Write, Values, values, ckey_of}
use Rattle.dpf_rules.specs.Expansion.{token}
use Rattle.frame_rules.specs.Frames as frame
use Rattle.frame_rules.specs.Frames.{PlainFrame, PlainBody}
use Rattle.step_rules.specs.Boxes.{Box, addresses_of, place_of}
use Rattle.step_rules.specs.Helper.{Audited, Begun, Row, Server, Stage, idle, row, row_at}
use Rattle.step_rules.specs.HelperCommands.{Effect, audit, begin, carries_out, command, draw, held_closing, held_key, held_proof, held_root, held_token, read, read_at, read_live, register, register_at, settle, stage_for}
use Rattle.run_hiding.specs.Flow.{shareless}
use Rattle.run_hiding.proofs.LikeBoxes.{bare_box, bares, same_addresses, same_box, same_count}

-- a lane's row and the reply
pub record Seen : Type 0 where
  pub row : Row
  pub body : PlainBody

abbrev pub seen : Row → PlainBody → Seen
seen r body = record { row = r; body = body }

module _ (h : Server) (boxes : List Box) (rows : List Row) (f : PlainFrame) (like : bares boxes ≡ bares h.boxes)
    (low : f.lane < length h.rows) (few : f.lane < length rows) (same : slice_index_or rows f.lane idle ≡ row_at h f.lane) where
  abbrev other : Server
  other = record h { boxes = boxes; rows = rows }

  abbrev of : Effect → Seen
  of e = seen (row_at e.server f.lane) (shareless e.body)

  addresses : addresses_of boxes ≡ addresses_of h.boxes
  addresses = same_addresses boxes h.boxes like

  count : length boxes ≡ length h.boxes
  count = same_count boxes h.boxes like

  sets : (r s : Row) (x y : PlainBody) → r ≡ s → x ≡ y
      → seen (slice_index_or (slice_set rows f.lane r) f.lane idle) x ≡ seen (slice_index_or (slice_set h.rows f.lane s) f.lane idle) y
  sets r s x y p q = ap₂ (λ r b. seen r b) (get_or-set_same rows f.lane r idle few ∙ p ∙ sym (get_or-set_same h.rows f.lane s idle low)) q

  stays : (x : PlainBody) → seen (slice_index_or rows f.lane idle) x ≡ seen (row_at h f.lane) x
  stays x = ap (λ r. seen r x) same

  choose : (t u : Bool) (x x' y y' : Effect) → t ≡ u → of x ≡ of x' → of y ≡ of y' → of (cond t x y) ≡ of (cond u x' y')
  choose true true x x' y y' e p q = p
  choose false false x x' y y' e p q = q
  choose true false x x' y y' e p q = absurd (cc e)
  choose false true x x' y y' e p q = absurd (cc e)

  like_registered : (address : ℕ) (key : List ℕ) (found : Option ℕ) → of (register_at other f address key found) ≡ of (register_at h f address key found)
  unfolding register_at
  like_registered address key (Some n) = sets _ _ _ _ refl refl
  like_registered address key None =
      choose (nat_le h.settings.boxes (length boxes)) (nat_le h.settings.boxes (length h.boxes)) _ _ _ _ (ap (λ n. nat_le h.settings.boxes n) count)
      (sets _ _ _ _ refl refl) (sets _ _ _ _ refl (ap (λ n. frame.LinkReply (frame.ReplyRegistered n)) count))

  like_register : (address : ℕ) (key : Option (List ℕ)) → of (register other f address key) ≡ of (register h f address key)
  unfolding register
  like_register address (Some key) =
      ap (λ (ps : List ℕ). of (register_at other f address key (position (λ n. nat_eq n address) ps))) addresses
      ∙ like_registered address key (place_of address h.boxes)
  like_register address None = stays _

  like_begin : (leaders part : List ℕ) (root : Option ℕ) → of (begin other f leaders part root) ≡ of (begin h f leaders part root)
  unfolding begin
  like_begin leaders part (Some root) = sets _ _ _ _
      (ap (λ n. row f.serial (Begun (record { root = root; part = part; count = n; ckey = ckey_of leaders (draw h) }))) count)
      (ap (λ n. frame.LinkBegun n (draw h)) count)
  like_begin leaders part None = stays _

  like_audit : (sigma : ℕ) (others : Openings) (held : Option (Option (Write × ProofShare))) → of (audit other f sigma others held) ≡ of (audit h f sigma others held)
  unfolding audit
  like_audit sigma others (Some None) = sets _ _ _ _ refl refl
  like_audit sigma others (Some (Some p)) =
      let v : List ℕ → Values = λ ps. values 1 p.0 (take p.0.count ps) p.1 sigma others in
      sets _ _ _ _ (ap (λ ps. row f.serial (Audited p.0 (v ps).closing)) addresses) (ap (λ ps. frame.LinkReply (frame.ReplyAudited (v ps).opened (v ps).closing)) addresses)
  like_audit sigma others None = stays _

  like_settle : (leaders : Closing) (held : Option (Write × Closing)) → of (settle other f leaders held) ≡ of (settle h f leaders held)
  unfolding settle
  like_settle leaders (Some a) =
      choose (accepts leaders a.1) (accepts leaders a.1) _ _ _ _ refl (sets _ _ _ _ refl refl) (sets _ _ _ _ refl refl)
  like_settle leaders None = stays _

  like_live : (keeps : Bool) (n held : ℕ) (box theirs : Box) → bare_box box ≡ bare_box theirs
      → of (read_live other f keeps n held box) ≡ of (read_live h f keeps n held theirs)
  unfolding read_live
  like_live keeps n held box theirs e =
      choose (nat_eq held (token box.key f.lane f.serial)) (nat_eq held (token theirs.key f.lane f.serial)) _ _ _ _
      (ap (λ (x : Box). nat_eq held (token x.key f.lane f.serial)) e) (sets _ _ _ _ refl refl) (sets _ _ _ _ refl refl)

  like_found : (keeps : Bool) (n held : ℕ) (box theirs : Option Box) → option_map (λ box. bare_box box) box ≡ option_map (λ box. bare_box box) theirs
      → of (read_at other f keeps n held box) ≡ of (read_at h f keeps n held theirs)
  unfolding read_at
  like_found keeps n held None None e = sets _ _ _ _ refl refl
  like_found keeps n held (Some box) (Some theirs) e =
      let one : bare_box box ≡ bare_box theirs = cc e in
      choose box.live theirs.live _ _ _ _ (ap (λ (x : Box). x.live) one) (like_live keeps n held box theirs one) (sets _ _ _ _ refl refl)
  like_found keeps n held None (Some theirs) e = absurd (cc e)
  like_found keeps n held (Some box) None e = absurd (cc e)

  like_read : (keeps : Bool) (n : ℕ) (held : Option ℕ) → of (read other f keeps n held) ≡ of (read h f keeps n held)
  unfolding read
  like_read keeps n (Some held) = like_found keeps n held (slice_get boxes n) (slice_get h.boxes n) (same_box boxes h.boxes n like)
  like_read keeps n None = stays _

  like_command : (body : PlainBody) (stage : Stage) → of (command other f body stage) ≡ of (command h f body stage)
  unfolding command
  like_command (frame.LinkRegister address) stage = like_register address (held_key stage)
  like_command (frame.LinkBegin leaders part) stage = like_begin leaders part (held_root stage)
  like_command (frame.LinkAudit sigma others) stage = like_audit sigma others (held_proof stage)
  like_command (frame.LinkSettle leaders) stage = like_settle leaders (held_closing stage)
  like_command (frame.LinkRead n) stage = like_read true n (held_token stage)
  like_command (frame.LinkRetire n) stage = like_read false n (held_token stage)
  like_command body stage = stays _

  pub carries_alike : of (carries_out other f) ≡ of (carries_out h f)
  unfolding carries_out
  carries_alike =
      choose (nat_le h.settings.lanes f.lane) (nat_le h.settings.lanes f.lane) _ _ _ _ refl (stays _)
      (ap (λ r. of (command other f f.body (stage_for r f.serial))) same ∙ like_command f.body (stage_for (row_at h f.lane) f.serial))
