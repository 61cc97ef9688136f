-- What a lane's stage makes of a reply.
use Rattle.std.proofs.Common.{◌≡◌, ◌≢◌, ◌<◌, ℕ, Bool, true, false, cond, List, length, get_or, Option, Some, None, Ok, Err, refl, sym, ap, ◌∙◌}
use Rattle.std.specs.Prelude.{◌==◌, ◌&&◌, if◌then◌else◌, nat_le, not, is_none, Result}
use Rattle.std.proofs.lemmas.Bool.{eq-eqb, ne_eqb}
use Rattle.audit_rules.specs.Audit.{accepts}
use Rattle.audit_rules.specs.Values.{ckey_of}
use Rattle.box_registry.specs.declared.fault.RegFault.{RegFault}
use Rattle.box_registry.specs.declared.fault.RegFault.TheVariants.{Full}
use Rattle.box_registry.specs.Boxes.{answer_at}
use Rattle.express_words.specs.declared.audit.Openings.{Openings}
use Rattle.express_words.specs.declared.audit.Closing.{Closing}
use Rattle.express_words.specs.declared.refusal.Refusal.TheVariants as refusal
use Rattle.frame_rules.specs.Frames as frame
use Rattle.frame_rules.specs.Frames.{PlainFrame}
use Rattle.lane_table.specs.declared.row.Want.TheVariants.{Register, Write as Writes}
use Rattle.server_boxes.specs.Held.{write_in}
use Rattle.server_boxes.specs.declared.room.Begun.{Begun}
use Rattle.server_boxes.specs.declared.room.Proof.{Proof}
use Rattle.step_rules.specs.Boxes.{place_of, with_new}
use Rattle.step_rules.specs.Leader as steps
use Rattle.step_rules.specs.Leader.{Leader, AckTurn}
use Rattle.step_rules.specs.LeaderReplies.{registered, began, begun, audited, accepted, rejected, challenges, done, own_closing, settled, settles}
use Rattle.leader_core.specs.declared.asked.Asked.TheVariants as asked
use Rattle.leader_core.specs.declared.slot.LeaderSlot.{LeaderSlot}
use Rattle.leader_core.specs.declared.slot.LeaderStage.{LeaderStage}
use Rattle.leader_core.specs.declared.slot.LeaderStage.TheVariants as stage
use Rattle.leader_core.specs.Replies.{key_at, writing_at, auditing_at, settling_at}
use Rattle.leader_core.specs.Slots.{row_in, rows_in, stage_in, stage_with}
use Rattle.leader_core.proofs.ClientLemmas.{row_of}

-- the stage of a lane is that of its slot
pub stage_there : (slots : List LeaderSlot) (i lane : ℕ) (cur : LeaderSlot) → i < length slots → i ≡ lane → cur ≡ get_or slots i cur → (get_or (rows_in slots) lane steps.idle).stage ≡ stage_in cur
stage_there slots i lane cur inside at value = ap (λ (r : steps.Row). r.stage) (row_of slots i lane cur inside at ∙ ap row_in (sym value))

-- ---- a register

abbrev registering : Leader → PlainFrame → ℕ → List ℕ → ℕ → Option AckTurn
registering a c address key n =
    if (n == length a.boxes) && (is_none (place_of address a.boxes) && not (nat_le a.settings.boxes (length a.boxes)))
    then Some (done (record a { boxes = with_new a.settings.width address key a.boxes }) c Register (frame.Registered n))
    else None

module _ (a : Leader) (c : PlainFrame) (part own other : List ℕ) where
  pub registers_not : (address n : ℕ) (st : LeaderStage) → key_at st ≡ None → registered a c address (stage_with st part own other) n ≡ None
  unfolding registered
  registers_not address n (stage.Waiting k (asked.Registering x key)) e = absurd (cc e)
  registers_not address n st e = refl

  registers : (address n : ℕ) (key : List ℕ) (st : LeaderStage) → key_at st ≡ Some key → registered a c address (stage_with st part own other) n ≡ registering a c address key n
  unfolding registered
  registers address n key (stage.Waiting k (asked.Registering x y)) e = let same : y ≡ key = cc in ap (λ (z : List ℕ). registering a c address z n) same
  registers address n key st e = absurd (cc e)

  pub registers_elsewhere : (address n : ℕ) (key : List ℕ) (st : LeaderStage) → key_at st ≡ Some key → n ≢ length a.boxes → registered a c address (stage_with st part own other) n ≡ None
  registers_elsewhere address n key st e wrong = registers address n key st e ∙ rw (ne_eqb n (length a.boxes) wrong) refl

  when_none : (same : Bool) (p : Option ℕ) (full : Bool) (limit count : ℕ) (r : RegFault) (result : Option AckTurn) → nat_le limit count ≡ full → answer_at limit count p ≡ Err r →
      cond (same && (is_none p && not full)) result None ≡ None
  when_none false p full limit count r result f e = refl
  when_none true (Some b) full limit count r result f e = refl
  when_none true None true limit count r result f e = refl
  when_none true None false limit count r result f e = absurd (not_err (rw f at e))
    where
      not_err : (let x : Result ℕ RegFault = Ok count in x) ≡ Err r → ⊥
      not_err e = cc e

  pub registers_nowhere : (address n : ℕ) (key : List ℕ) (st : LeaderStage) (r : RegFault) → key_at st ≡ Some key → answer_at a.settings.boxes (length a.boxes) (place_of address a.boxes) ≡ Err r →
      registered a c address (stage_with st part own other) n ≡ None
  registers_nowhere address n key st r e answer =
      registers address n key st e ∙ when_none (n == length a.boxes) (place_of address a.boxes) (nat_le a.settings.boxes (length a.boxes)) a.settings.boxes (length a.boxes) r _ refl answer

  when_added : (p : Option ℕ) (full : Bool) (limit count m : ℕ) (result : Option AckTurn) → nat_le limit count ≡ full → answer_at limit count p ≡ Ok m → cond (true && (is_none p && not full)) result None ≡ result
  when_added (Some b) full limit count m result f e = absurd (cc e)
  when_added None true limit count m result f e = absurd (not_ok (rw f at e))
    where
      not_ok : (let x : Result ℕ RegFault = Err (Full limit) in x) ≡ Ok m → ⊥
      not_ok e = cc e
  when_added None false limit count m result f e = refl

  pub registers_here : (address n m : ℕ) (key : List ℕ) (st : LeaderStage) → key_at st ≡ Some key → n ≡ length a.boxes → answer_at a.settings.boxes (length a.boxes) (place_of address a.boxes) ≡ Ok m →
      registered a c address (stage_with st part own other) n ≡ Some (done (record a { boxes = with_new a.settings.width address key a.boxes }) c Register (frame.Registered n))
  registers_here address n m key st e right answer =
      let result : Option AckTurn = Some (done (record a { boxes = with_new a.settings.width address key a.boxes }) c Register (frame.Registered n)) in
      registers address n key st e
      ∙ (ap (λ (b : Bool). cond (b && (is_none (place_of address a.boxes) && not (nat_le a.settings.boxes (length a.boxes)))) result None) (eq-eqb n (length a.boxes) right)
      ∙ when_added (place_of address a.boxes) (nat_le a.settings.boxes (length a.boxes)) a.settings.boxes (length a.boxes) m result refl answer)

  -- ---- a begin

  pub begins_not : (count : ℕ) (helpers : List ℕ) (st : LeaderStage) → writing_at st ≡ None → began a c (stage_with st part own other) count helpers ≡ None
  unfolding began
  begins_not count helpers (stage.Waiting k (asked.Writing root draw)) e = absurd (cc e)
  begins_not count helpers st e = refl

  begins : (count : ℕ) (helpers : List ℕ) (root : ℕ) (draw : List ℕ) (st : LeaderStage) → writing_at st ≡ Some (root, draw) →
      began a c (stage_with st part own other) count helpers ≡ cond (count == length a.boxes) (Some (challenges a c (begun root part (ckey_of draw helpers) count))) None
  unfolding began
  begins count helpers root draw (stage.Waiting k (asked.Writing x y)) e =
      let both : (let p : ℕ × List ℕ = (x, y) in p) ≡ (root, draw) = cc in
      rw (ap (λ (p : ℕ × List ℕ). p.0) both, ap (λ (p : ℕ × List ℕ). p.1) both) refl
  begins count helpers root draw st e = absurd (cc e)

  pub begins_elsewhere : (count : ℕ) (helpers : List ℕ) (root : ℕ) (draw : List ℕ) (st : LeaderStage) → writing_at st ≡ Some (root, draw) → count ≢ length a.boxes →
      began a c (stage_with st part own other) count helpers ≡ None
  begins_elsewhere count helpers root draw st e wrong = begins count helpers root draw st e ∙ rw (ne_eqb count (length a.boxes) wrong) refl

  pub begins_here : (count : ℕ) (helpers : List ℕ) (root : ℕ) (draw ckey : List ℕ) (st : LeaderStage) → writing_at st ≡ Some (root, draw) → count ≡ length a.boxes → ckey ≡ ckey_of draw helpers →
      began a c (stage_with st part own other) count helpers ≡ Some (challenges a c (begun root part ckey count))
  begins_here count helpers root draw ckey st e right key =
      begins count helpers root draw st e
      ∙ (ap (λ (b : Bool). cond b (Some (challenges a c (begun root part (ckey_of draw helpers) count))) None) (eq-eqb count (length a.boxes) right)
      ∙ ap (λ (k : List ℕ). Some (challenges a c (begun root part k count))) (sym key))

  -- ---- an audit

  pub audits_not : (opened : Openings) (closed : Closing) (st : LeaderStage) → auditing_at st ≡ None → audited a c (stage_with st part own other) opened closed ≡ None
  unfolding audited
  audits_not opened closed (stage.Auditing k b proof o) e = absurd (cc e)
  audits_not opened closed st e = refl

  pub audits_here : (opened : Openings) (closed ours : Closing) (b : Begun) (proof : Proof) (o : Openings) (st : LeaderStage) → auditing_at st ≡ Some (b, proof, o) → ours ≡ own_closing proof.share proof.sigma o opened →
      audited a c (stage_with st part own other) opened closed ≡ Some (settles a c (frame.LinkSettle ours) (steps.Settling a.next (write_in b part) ours closed))
  unfolding audited
  audits_here opened closed ours b proof o (stage.Auditing k x y z) e ours_is =
      let all : (let p : Begun × Proof × Openings = (x, y, z) in p) ≡ (b, proof, o) = cc in
      rw (ap (λ (p : Begun × Proof × Openings). p.0) all, ap (λ (p : Begun × Proof × Openings). p.1) all, ap (λ (p : Begun × Proof × Openings). p.2) all) (ap (λ (k : Closing). Some (settles a c (frame.LinkSettle k) (steps.Settling a.next (write_in b part) k closed))) (sym ours_is))
  audits_here opened closed ours b proof o st e ours_is = absurd (cc e)

  -- ---- a settle

  pub settles_not : (st : LeaderStage) → settling_at st ≡ None → (accepted a c (stage_with st part own other) ≡ None) × (rejected a c (stage_with st part own other) ≡ None)
  unfolding accepted rejected
  settles_not (stage.Settling k b x y) e = absurd (cc e)
  settles_not st e = (refl, refl)

  pub accepts_not : (b : Begun) (ours theirs : Closing) (st : LeaderStage) → settling_at st ≡ Some (b, ours, theirs) → accepts ours theirs ≡ false → accepted a c (stage_with st part own other) ≡ None
  unfolding accepted
  accepts_not b ours theirs (stage.Settling k w x y) e never =
      let all : (let p : Begun × Closing × Closing = (w, x, y) in p) ≡ (b, ours, theirs) = cc in
      rw (ap (λ (p : Begun × Closing × Closing). p.1) all, ap (λ (p : Begun × Closing × Closing). p.2) all, never) refl
  accepts_not b ours theirs st e never = absurd (cc e)

  pub accepts_here : (b : Begun) (ours theirs : Closing) (st : LeaderStage) → settling_at st ≡ Some (b, ours, theirs) → accepts ours theirs ≡ true →
      accepted a c (stage_with st part own other) ≡ Some (done (settled a (write_in b part)) c Writes frame.Accepted)
  unfolding accepted
  accepts_here b ours theirs (stage.Settling k w x y) e result =
      let all : (let p : Begun × Closing × Closing = (w, x, y) in p) ≡ (b, ours, theirs) = cc in
      rw (ap (λ (p : Begun × Closing × Closing). p.0) all, ap (λ (p : Begun × Closing × Closing). p.1) all, ap (λ (p : Begun × Closing × Closing). p.2) all, result) refl
  accepts_here b ours theirs st e result = absurd (cc e)

  pub rejects_not : (b : Begun) (ours theirs : Closing) (st : LeaderStage) → settling_at st ≡ Some (b, ours, theirs) → accepts ours theirs ≡ true → rejected a c (stage_with st part own other) ≡ None
  unfolding rejected
  rejects_not b ours theirs (stage.Settling k w x y) e result =
      let all : (let p : Begun × Closing × Closing = (w, x, y) in p) ≡ (b, ours, theirs) = cc in
      rw (ap (λ (p : Begun × Closing × Closing). p.1) all, ap (λ (p : Begun × Closing × Closing). p.2) all, result) refl
  rejects_not b ours theirs st e result = absurd (cc e)

  pub rejects_here : (b : Begun) (ours theirs : Closing) (st : LeaderStage) → settling_at st ≡ Some (b, ours, theirs) → accepts ours theirs ≡ false →
      rejected a c (stage_with st part own other) ≡ Some (done a c Writes (frame.Refused (refusal.Rejected ours.o theirs.o ours.tau theirs.tau)))
  unfolding rejected
  rejects_here b ours theirs (stage.Settling k w x y) e never =
      let all : (let p : Begun × Closing × Closing = (w, x, y) in p) ≡ (b, ours, theirs) = cc in
      rw (ap (λ (p : Begun × Closing × Closing). p.1) all, ap (λ (p : Begun × Closing × Closing). p.2) all, never) refl
  rejects_here b ours theirs st e never = absurd (cc e)
