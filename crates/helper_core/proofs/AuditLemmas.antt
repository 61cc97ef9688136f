-- An audit, a settle and a read: what they leave of the helper, and what is said.
use Rattle.std.proofs.Common.{◌≡◌, ℕ, Bool, true, false, cond, List, take, set, Option, Some, None, refl, sym, ap, ◌∙◌}
use Rattle.std.specs.Prelude.{option_map, slice_get}
use Rattle.std.proofs.lemmas.Bool.{eq-eqb, ne_eqb}
use Rattle.express_words.specs.Bytes.{xor_bytes}
use Rattle.express_words.specs.declared.settings.Settings.{Settings}
use Rattle.express_words.specs.declared.audit.ProofShare.{ProofShare}
use Rattle.express_words.specs.declared.audit.Openings.{Openings}
use Rattle.express_words.specs.declared.audit.Closing.{Closing}
use Rattle.express_words.specs.declared.refusal.Refusal.TheVariants as refusal
use Rattle.lane_table.specs.declared.row.Want.TheVariants.{Write as Writes, Read}
use Rattle.frame_rules.specs.Frames as frame
use Rattle.frame_rules.specs.Frames.{PlainFrame}
use Rattle.audit_rules.specs.Audit.{accepts, closing_of, opened_of}
use Rattle.audit_rules.specs.Values.{Write, opens, values}
use Rattle.dpf_rules.specs.Expansion.{mask, token}
use Rattle.server_boxes.specs.Held.{Holdings, with_boxes}
use Rattle.step_rules.specs.Boxes.{Box, addresses_of, with_read, with_write}
use Rattle.step_rules.specs.Helper as steps
use Rattle.step_rules.specs.HelperCommands.{audit, read, read_at, read_live, settle, replies_with, refuses, done}
use Rattle.helper_core.specs.declared.slot.HelperSlot.{HelperSlot}
use Rattle.helper_core.specs.declared.said.SaidToLeader.{SaidToLeader}
use Rattle.helper_core.specs.declared.said.SaidToLeader.TheVariants as said
use Rattle.helper_core.specs.Said.{effect_in, reading_in}
use Rattle.helper_core.specs.Slots.{row_in}
use Rattle.helper_core.specs.State.{server_in, IsServer}
use Rattle.helper_core.proofs.RegisterLemmas.{done_is}
use Rattle.helper_core.proofs.CommandLemmas.{row_set}

module _ (settings : Settings) (held : Holdings) (slots : List HelperSlot) (draws : ℕ) (seed : List ℕ) (is : IsServer settings held slots) where
  -- ---- an audit

  pub audit_is : (f : PlainFrame) (w : Write) (share : ProofShare) (sigma : ℕ) (other : Openings) (i : ℕ) (s : HelperSlot) (own : Openings) (closed : Closing) (masked : List ℕ) → i ≡ f.lane →
      own ≡ opens 1 w (take w.count (addresses_of held.boxes)) share sigma → closed ≡ closing_of 1 share sigma (opened_of other own) →
      row_in s ≡ steps.row f.serial (steps.Audited w closed) →
      audit (server_in settings held slots draws seed) f sigma other (Some (Some (w, share))) ≡ effect_in (server_in settings held (set slots i s) draws seed) (said.Audited own closed) masked
  unfolding audit values
  audit_is f w share sigma other i s own closed masked at own_is closed_is row_is =
      let h = server_in settings held slots draws seed in
      ap (λ (o : Openings). replies_with (steps.with_row h f.lane (steps.row f.serial (steps.Audited w (closing_of 1 share sigma (opened_of other o))))) (frame.ReplyAudited o (closing_of 1 share sigma (opened_of other o)))) (sym own_is)
      ∙ (ap (λ (k : Closing). replies_with (steps.with_row h f.lane (steps.row f.serial (steps.Audited w k))) (frame.ReplyAudited own k)) (sym closed_is)
      ∙ ap (λ (d : steps.Server). replies_with d (frame.ReplyAudited own closed)) (row_set settings held slots draws seed f.lane i s (steps.row f.serial (steps.Audited w closed)) at row_is))

  pub not_proved : (f : PlainFrame) (sigma : ℕ) (other : Openings) (i : ℕ) (s : HelperSlot) (masked : List ℕ) → i ≡ f.lane → row_in s ≡ steps.row f.serial (steps.Done Writes) →
      audit (server_in settings held slots draws seed) f sigma other (Some None) ≡ effect_in (server_in settings held (set slots i s) draws seed) (said.Refused refusal.NotProved) masked
  unfolding audit
  not_proved f sigma other i s masked at row_is = ap (λ (d : steps.Server). refuses d refusal.NotProved) (done_is settings held slots draws seed is f i s Writes at row_is)

  -- ---- a settle

  pub settle_accepts : (f : PlainFrame) (leaders own : Closing) (w : Write) (i : ℕ) (s : HelperSlot) (after : Holdings) (masked : List ℕ) → i ≡ f.lane → row_in s ≡ steps.row f.serial (steps.Done Writes) →
      accepts leaders own ≡ true → after ≡ with_boxes held (with_write w.part 1 w.root w.count held.boxes) →
      settle (server_in settings held slots draws seed) f leaders (Some (w, own)) ≡ effect_in (server_in settings after (set slots i s) draws seed) said.Accepted masked
  unfolding settle
  settle_accepts f leaders own w i s after masked at row_is sure after_is =
      rw sure
      (ap (λ (d : steps.Server). replies_with (record d { boxes = with_write w.part 1 w.root w.count held.boxes }) frame.ReplyAccepted) (done_is settings held slots draws seed is f i s Writes at row_is)
      ∙ ap (λ (x : Holdings). effect_in (server_in settings x (set slots i s) draws seed) said.Accepted masked) (sym after_is))

  pub settle_rejects : (f : PlainFrame) (leaders own : Closing) (w : Write) (i : ℕ) (s : HelperSlot) (masked : List ℕ) → i ≡ f.lane → row_in s ≡ steps.row f.serial (steps.Done Writes) →
      accepts leaders own ≡ false → settle (server_in settings held slots draws seed) f leaders (Some (w, own)) ≡ effect_in (server_in settings held (set slots i s) draws seed) said.Rejected masked
  unfolding settle
  settle_rejects f leaders own w i s masked at row_is never =
      rw never (ap (λ (d : steps.Server). replies_with d frame.ReplyRejected) (done_is settings held slots draws seed is f i s Writes at row_is))

  -- ---- a read

  pub read_is : (f : PlainFrame) (stays : Bool) (number token_held i : ℕ) (s : HelperSlot) (after : Holdings) (x : SaidToLeader) (masked : List ℕ) → i ≡ f.lane → row_in s ≡ steps.row f.serial (steps.Done Read) →
      read_at (server_in settings held slots draws seed) f stays number token_held (slice_get held.boxes number) ≡ reading_in (server_in settings held slots draws seed) f after.boxes x masked →
      read (server_in settings held slots draws seed) f stays number (Some token_held) ≡ effect_in (server_in settings after (set slots i s) draws seed) x masked
  unfolding read
  read_is f stays number token_held i s after x masked at row_is reads =
      reads ∙ ap (λ (d : steps.Server). effect_in (record d { boxes = after.boxes }) x masked) (done_is settings held slots draws seed is f i s Read at row_is)

-- ---- what reading a box comes to

-- the box whose key is found
pub found : (o : Option Box) (k : List ℕ) → option_map (λ (b : Box). b.key) o ≡ Some k → (b : Box) × (o ≡ Some b) × (b.key ≡ k)
found (Some b) k e = (b, refl, (let z : b.key ≡ k = cc in z))
found None k e = absurd (cc e)

pub not_found : (o : Option Box) → option_map (λ (b : Box). b.key) o ≡ None → o ≡ None
not_found (Some b) e = absurd (cc e)
not_found None e = refl

pub live_of : (o : Option Box) (b : Box) (l : Bool) → o ≡ Some b → option_map (λ (x : Box). x.live) o ≡ Some l → b.live ≡ l
live_of (Some x) b l e f = let same : x ≡ b = cc in let own : x.live ≡ l = cc in ap (λ (y : Box). y.live) (sym same) ∙ own
live_of None b l e f = absurd (cc e)

module _ (h : steps.Server) (f : PlainFrame) (stays : Bool) (n token_held : ℕ) (bs : List Box) (boxes_are : h.boxes ≡ bs) where
  same : done h f Read ≡ record (done h f Read) { boxes = bs }
  same = ap (λ (xs : List Box). record (done h f Read) { boxes = xs }) boxes_are

  pub reads_none : (masked : List ℕ) → slice_get h.boxes n ≡ None →
      read_at h f stays n token_held (slice_get h.boxes n) ≡ reading_in h f bs (said.Refused (refusal.NoBox n)) masked
  unfolding read_at
  reads_none masked none = rw none (ap (λ (d : steps.Server). refuses d (refusal.NoBox n)) same)

  pub reads_retired : (b : Box) (masked : List ℕ) → slice_get h.boxes n ≡ Some b → b.live ≡ false →
      read_at h f stays n token_held (slice_get h.boxes n) ≡ reading_in h f bs (said.Refused (refusal.NoBox n)) masked
  unfolding read_at
  reads_retired b masked some dead = rw (some, dead) (ap (λ (d : steps.Server). refuses d (refusal.NoBox n)) same)

  pub reads_badly : (b : Box) (masked : List ℕ) → slice_get h.boxes n ≡ Some b → b.live ≡ true → (token_held ≡ token b.key f.lane f.serial → ⊥) →
      read_at h f stays n token_held (slice_get h.boxes n) ≡ reading_in h f bs (said.Refused (refusal.BadToken n)) masked
  unfolding read_at read_live
  reads_badly b masked some live wrong =
      rw (some, live, ne_eqb token_held (token b.key f.lane f.serial) wrong) (ap (λ (d : steps.Server). refuses d (refusal.BadToken n)) same)

  pub reads_well : (b : Box) (masked : List ℕ) (after : List Box) → slice_get h.boxes n ≡ Some b → b.live ≡ true → token_held ≡ token b.key f.lane f.serial →
      after ≡ with_read h.settings.width stays n b h.boxes → masked ≡ xor_bytes b.share (mask b.key f.lane f.serial h.settings.width) →
      read_at h f stays n token_held (slice_get h.boxes n) ≡ reading_in h f after said.Masked masked
  unfolding read_at read_live
  reads_well b masked after some live right after_is masked_is =
      let sum = xor_bytes b.share (mask b.key f.lane f.serial h.settings.width) in
      ap (λ (o : Option Box). read_at h f stays n token_held o) some
      ∙ (ap (λ (t : Bool). cond t (read_live h f stays n token_held b) (refuses (done h f Read) (refusal.NoBox n))) live
      ∙ (ap (λ (t : Bool). cond t (replies_with (record (done h f Read) { boxes = with_read h.settings.width stays n b h.boxes }) (frame.ReplyMasked sum)) (refuses (done h f Read) (refusal.BadToken n)))
      (eq-eqb token_held (token b.key f.lane f.serial) right)
      ∙ (ap (λ (xs : List Box). replies_with (record (done h f Read) { boxes = xs }) (frame.ReplyMasked sum)) (sym after_is)
      ∙ ap (λ (m : List ℕ). replies_with (record (done h f Read) { boxes = after }) (frame.ReplyMasked m)) (sym masked_is))))
