-- A client's proof comes to the leader, in both runs: the audit is issued.
use Rattle.std.proofs.Common.{◌≡◌, ℕ, zero, suc, ◌<◌, ◌≤◌, ◌*◌, ◌+◌, ◌-◌, ◌^◌, cond, nat_eq, nat_lt, nat_le, true, false, Bool, List, [], ◌∷◌, ◌++◌, length, take, map, Ok, Some, slice_get, refl, sym, ap, ◌∙◌, subst, inl, inr, arith, lit<}
use Rattle.std.proofs.lemmas.Bool.{eqb-true, leb-true, ltb-true, false_from_ne_true}
use Rattle.express_words.specs.declared.audit.ProofShare.{ProofShare}
use Rattle.express_words.specs.Ranges.{IsOpenings}
use Rattle.express_words.specs.declared.refusal.Refusal.TheVariants as refusal
use Rattle.frame_rules.specs.Frames as frame
use Rattle.frame_rules.specs.Frames.{PlainFrame, PlainBody}
use Rattle.frame_rules.specs.Whole.{whole}
use Rattle.lane_table.specs.Gates.{closing_gate, same_want}
use Rattle.lane_table.specs.declared.gate.Gate.TheVariants.{Same, Stale, Phase}
use Rattle.lane_table.specs.declared.row.Want.TheVariants as want
use Rattle.audit_rules.specs.Values.{Write, opens, sigma_of}
use Rattle.mailbox_rules.specs.Requests.{Begins, Audits, Settles, Line}
use Rattle.mailbox_rules.specs.Tables.{Mailbox, addresses}
use Rattle.token_rules.specs.Tokens as token
use Rattle.token_rules.specs.Tokens.{World}
use Rattle.token_rules.specs.Run.{line_of, is_full, sends, kept}
use Rattle.token_rules.specs.Stages.{Stage, Asked, Noted, Heard, Opening, Opened, Invited, Proving, Shown, Trusted, Checking, Checked, Settling, Settled, Served, Rested, Fits, far, rest}
use Rattle.token_rules.specs.Laws.{LeaderTakesProof}
use Rattle.token_rules.specs.Invariant.{Claims, State, state, Has, Made}
use Rattle.token_rules.proofs.Lists.{get_more}
use Rattle.token_rules.proofs.Cases.{leader_proof_comes, proof_at_leader, issues_for, comes_is, comes_by}
use Rattle.step_rules.specs.Boxes.{Box, addresses_of}
use Rattle.step_rules.specs.Leader as leader
use Rattle.step_rules.specs.Leader.{Leader, Row, row, row_at, want_of, phase_of}
use Rattle.step_rules.specs.LeaderClients as steps
use Rattle.step_tokens.specs.LeaderRows.{bare_phase}
use Rattle.run_rules.specs.Letters.{ToLeader, FrameWorld}
use Rattle.run_rules.specs.Run as frames
use Rattle.run_rules.specs.Book.{Book, request_of, wants, place, leaders_draw}
use Rattle.run_rules.specs.Values.{write_at, share_at, sigma_at, opened_at, counted_at, box_at, boxes_at, shares_at}
use Rattle.run_rules.specs.Frames.{frame_with, frame_of, proof_at, command_body}
use Rattle.run_rules.specs.Follows.{Spelled, LeaderHolds, LeaderRow, Within, Sound, Follows}
use Rattle.run_rules.specs.Known.{Known}
use Rattle.run_rules.specs.Laws.{ComesFollows}
use Rattle.run_rules.proofs.Basics.{whole_spelled}
use Rattle.run_rules.proofs.Contents.{from_client_is, proof_is}
use Rattle.run_rules.proofs.HelperRuns.{Came, same_wants}
use Rattle.run_rules.proofs.LeaderClients.{posts_follow, issues_follow, row_of, full_is, later_frame, stale_frame, again_frame, again_follows}
use Rattle.run_rules.proofs.WriteLeaderCounts.{place_in, shares_addresses, addresses_stay}
use Rattle.run_rules.proofs.WriteLeaderRanges.{WriteIs, sigma_small, opened_is}
use Rattle.run_rules.proofs.WriteLeaderReplies.{command_there}
use Rattle.run_rules.proofs.WriteLeaderSubmits.{drawn_more, draw_is, issued_there, issued_place, issued_few}

-- ---- the boxes of the audit

server_addresses : (b : Book) (server : ℕ) (ms : List Mailbox) → addresses_of (map (λ m. box_at b server m) ms) ≡ addresses ms
server_addresses b server [] = refl
server_addresses b server (m ∷ ms) = ap (λ xs. m.address ∷ xs) (server_addresses b server ms)

-- the leader counts the boxes that there were when the write began
pub counted_is : (b : Book) (c s j : ℕ) (boxes : List Box) → boxes ≡ boxes_at b 0 j → place b c s Begins ≤ j
    → take (write_at b 0 c s).count (addresses_of boxes) ≡ counted_at b c s
unfolding write_at
counted_is b c s j boxes e low =
    ap (λ xs. take (length (counted_at b c s)) (addresses_of xs)) e
    ∙ ap (take (length (counted_at b c s))) (server_addresses b 0 (shares_at b 0 j).boxes ∙ shares_addresses b 0 j)
    ∙ addresses_stay b (place b c s Begins) j low

-- ---- the proof

pub proof_turn : (f : FrameWorld) (c s : ℕ) (share : ProofShare) (bytes : List ℕ) → whole bytes ≡ Ok (frame_with c s 0 (frame.Proof share))
    → frames.comes f ToLeader bytes ≡ frames.to_leader f (steps.on_proof f.leader (frame_with c s 0 (frame.Proof share)) share)
unfolding frames.comes steps.on_whole steps.by_kind
proof_turn f c s share bytes e = rw e refl

-- a proof that is sent finds the challenge given
rests : (n : ℕ) → 0 < n → LeaderTakesProof (rest n)
rests zero h = absurd (omega arith)
rests (suc n) h = tt

takes_at : (lane : token.Lane) (x : Stage) (s : ℕ) → Fits lane x → 32 * s + 9 ≤ far lane x → s ≡ lane.leader.serial
    → 0 < s → LeaderTakesProof lane.leader.phase
takes_at lane Asked s f l e first = let d = f.leader_serial in rw f.leader_phase (rests _ (omega (arith, d, e, first)))
takes_at lane Noted s f l e first = let d = f.leader_serial in rw f.leader_phase (rests _ (omega (arith, d, e, first)))
takes_at lane Heard s f l e first = let d = f.leader_serial in rw f.leader_phase (rests _ (omega (arith, d, e, first)))
takes_at lane Rested s f l e first = let d = f.leader_serial in rw f.leader_phase (rests _ (omega (arith, d, e, first)))
takes_at lane Opening s f l e first = let d = f.leader_serial in absurd (omega (arith, d, e, l))
takes_at lane Opened s f l e first = let d = f.leader_serial in absurd (omega (arith, d, e, l))
takes_at lane Invited s f l e first = rw f.leader_phase tt
takes_at lane Proving s f l e first = rw f.leader_phase tt
takes_at lane Shown s f l e first = rw f.leader_phase tt
takes_at lane Trusted s f l e first = rw f.leader_phase tt
takes_at lane Checking s f l e first = rw f.leader_phase tt
takes_at lane Checked s f l e first = rw f.leader_phase tt
takes_at lane Settling s f l e first = rw f.leader_phase tt
takes_at lane Settled s f l e first = rw f.leader_phase tt
takes_at lane Served s f l e first = rw f.leader_phase tt

-- ---- where the write stands

no_rest : (n : ℕ) → rest n ≡ token.Challenged → ⊥
no_rest zero e = cc e
no_rest (suc n) e = cc e

challenged_at : (st : State) (c s : ℕ) (lane : token.Lane) (x : Stage) → Fits lane x → Made st c lane x
    → lane.leader.serial ≡ s → lane.leader.phase ≡ token.Challenged → Has st (line_of c s Begins)
challenged_at st c s lane Invited f m e phase = subst (λ n. Has st (line_of c n Begins)) (sym f.leader_serial ∙ e) m
challenged_at st c s lane Proving f m e phase = subst (λ n. Has st (line_of c n Begins)) (sym f.leader_serial ∙ e) m
challenged_at st c s lane Shown f m e phase = subst (λ n. Has st (line_of c n Begins)) (sym f.leader_serial ∙ e) m
challenged_at st c s lane Trusted f m e phase = subst (λ n. Has st (line_of c n Begins)) (sym f.leader_serial ∙ e) m
challenged_at st c s lane Asked f m e phase = absurd (no_rest _ (sym f.leader_phase ∙ phase))
challenged_at st c s lane Noted f m e phase = absurd (no_rest _ (sym f.leader_phase ∙ phase))
challenged_at st c s lane Heard f m e phase = absurd (no_rest _ (sym f.leader_phase ∙ phase))
challenged_at st c s lane Rested f m e phase = absurd (no_rest _ (sym f.leader_phase ∙ phase))
challenged_at st c s lane Opening f m e phase = let never = sym f.leader_phase ∙ phase in absurd (cc never)
challenged_at st c s lane Opened f m e phase = let never = sym f.leader_phase ∙ phase in absurd (cc never)
challenged_at st c s lane Checking f m e phase = let never = sym f.leader_phase ∙ phase in absurd (cc never)
challenged_at st c s lane Checked f m e phase = let never = sym f.leader_phase ∙ phase in absurd (cc never)
challenged_at st c s lane Settling f m e phase = let never = sym f.leader_phase ∙ phase in absurd (cc never)
challenged_at st c s lane Settled f m e phase = let never = sym f.leader_phase ∙ phase in absurd (cc never)
challenged_at st c s lane Served f m e phase = let never = sym f.leader_phase ∙ phase in absurd (cc never)

-- ---- the audit is issued

audit_is : (b : Book) (c s n : ℕ)
    → frame_of b (token.Ordered n (line_of c s Audits)) ≡ Some (frame_with c s n (frame.LinkAudit (sigma_at b c s) (opened_at b 0 c s)))
unfolding frame_of command_body
audit_is b c s n = refl

-- where there is room
pub room_follows : (b : Book) (f : FrameWorld) (w x : World) (c s : ℕ) (body : PlainBody) (turn : leader.Turn) → Sound b → Within b w
    → w.acknowledged ≤ length w.commands → Follows b f w → Came b c s
    → (Within b x → Follows b (frames.to_leader f turn) x)
    → Within b (cond (is_full w) (sends w (token.Later c s)) x)
    → Follows b (frames.to_leader f (steps.if_room f.leader (frame_with c s 0 body) turn)) (cond (is_full w) (sends w (token.Later c s)) x)
room_follows b f w x c s body turn sound within few h came issued after =
    let e = h.leader.next in
    let n = sound.numbers in
    let small = issued_few b w within in
    let numbers : nat_lt (2 ^ 64 - 65) f.leader.next ≡ false = false_from_ne_true _ (λ t. let l = ltb-true _ _ t in omega (arith, e, n, small, l)) in
    let full = full_is b f w h few in
    rw (numbers, full) (at_test (is_full w) after)
  where
    at_test : (t : Bool) → Within b (cond t (sends w (token.Later c s)) x)
        → Follows b (frames.to_leader f (cond t (leader.refuses f.leader (frame_with c s 0 body) (refusal.Again (steps.oldest f.leader))) turn)) (cond t (sends w (token.Later c s)) x)
    at_test true there =
        let e = h.leader.next in
        let n = sound.numbers in
        let small = issued_few b w within in
        posts_follow b f w _ _ h (later_frame b c s (refusal.Again (steps.oldest f.leader)) came tt (again_frame b c s _ came (omega (arith, e, n, small))))
    at_test false there = issued there

pub sigma_of_draw : (b : Book) (c s : ℕ) (d : List ℕ) → d ≡ leaders_draw b (place b c s Audits) → sigma_of d ≡ sigma_at b c s
unfolding sigma_at
sigma_of_draw b c s d e = ap sigma_of e

pub opened_eq : (b : Book) (c s : ℕ) (x : Write) (xs : List ℕ) (sigma : ℕ) → x ≡ write_at b 0 c s → xs ≡ counted_at b c s → sigma ≡ sigma_at b c s
    → opens 0 x xs (share_at b 0 c s) sigma ≡ opened_at b 0 c s
unfolding opened_at
opened_eq b c s x xs sigma e k l =
    ap (λ y. opens 0 y xs (share_at b 0 c s) sigma) e
    ∙ ap (λ ys. opens 0 (write_at b 0 c s) ys (share_at b 0 c s) sigma) k
    ∙ ap (opens 0 (write_at b 0 c s) (counted_at b c s) (share_at b 0 c s)) l

module _ (b : Book) (f : FrameWorld) (v w : World) (c s : ℕ)
    (k : Known b v w) (h : Follows b f w) (came : Came b c s) (write : WriteIs b c s) where
  abbrev share : ProofShare
  share = share_at b 0 c s

  abbrev pub g : PlainFrame
  g = frame_with c s 0 (frame.Proof share)

  few : w.acknowledged ≤ length w.commands
  few = let ok = k.lawful.coherent in let i = ok.acknowledged in let j = ok.carried in omega (arith, i, j)

  honest : w.foreign c ≡ false
  honest = ap (λ foreign. foreign c) h.foreign ∙ write.honest

  hr : LeaderRow b c (row_at f.leader c) (w.lanes c).leader
  hr = row_of b f w c h write.honest came.there

  -- no settle is issued yet
  unsettled : Within b (issues_for w c s token.Auditing Audits) → (i : ℕ)
      → slice_get (w.commands ++ line_of c s Audits ∷ []) i ≡ Some (line_of c s Settles) → ⊥
  unsettled after i e =
      let whole = k.whole in
      let order = whole.lawful.commands_order in
      let hon : v.foreign c ≡ false = ap (λ f. f c) whole.foreign ∙ write.honest in
      let last = ap (λ xs. slice_get xs (length w.commands)) whole.commands ∙ issued_there b w c s token.Auditing Audits after in
      elim (get_more w.commands (line_of c s Audits) i (line_of c s Settles) e) [
        | inl before ↦
            let here = ap (λ xs. slice_get xs i) whole.commands ∙ command_there b w i (line_of c s Settles) k.within before.1 in
            elim (order i (length w.commands) (line_of c s Settles) (line_of c s Audits) before.0 here last refl hon) [
              | inl less ↦ omega (arith, less)
              | inr same ↦ let never = same.1 in omega (arith, never)
            ]
        | inr same ↦ let never : Audits ≡ Settles = ap (λ (x : Line). x.command) same.1 in cc never
      ]

  audit_issued : (held : Write) → held ≡ write_at b 0 c s → (w.lanes c).leader.serial ≡ s → (w.lanes c).leader.phase ≡ token.Challenged
      → Within b (issues_for w c s token.Auditing Audits)
      → Follows b (frames.to_leader f (steps.audits f.leader g held share)) (issues_for w c s token.Auditing Audits)
  audit_issued held held_is serial phase after =
      let a = f.leader in
      let ok = k.lawful.coherent in
      let next = h.leader.next in
      let n = k.sound.numbers in
      let small = issued_few b w k.within in
      let has = challenged_at (state w k.lawful.stages) c s (w.lanes c) (k.lawful.stages c) (ok.fits c honest) (ok.made c honest) serial phase in
      let begun = place_in b v c s has.place Begins k.whole write.honest (command_there b w has.place (line_of c s Begins) k.within has.is) in
      let past = has.acknowledged in
      let before : place b c s Begins ≤ w.acknowledged = omega (arith, begun, past) in
      let at = issued_place b v w c s token.Auditing Audits k.whole write.honest after in
      let sigma_is : steps.sigma a ≡ sigma_at b c s = sigma_of_draw b c s (steps.draw a) (draw_is b f w h k.within ∙ ap (leaders_draw b) (sym at)) in
      let counted = counted_is b c s w.acknowledged a.boxes h.leader.boxes before in
      let opened = opens 0 held (steps.counted a held) share (steps.sigma a) in
      let opened_same : opened ≡ opened_at b 0 c s = opened_eq b c s held (steps.counted a held) (steps.sigma a) held_is (ap (λ (x : Write). take x.count (addresses_of a.boxes)) held_is ∙ counted) sigma_is in
      let command = frame_with c s a.next (frame.LinkAudit (steps.sigma a) opened) in
      issues_follow b f w c s (a.draws + 1) token.Auditing Audits (row s (leader.Auditing a.next held share (steps.sigma a) opened)) command h write.honest came.there few
      (record { bare = refl; small = came.serial; want = λ pos. sym (ap wants write.is); holds = (held_is, refl, sigma_is, opened_same) })
      (ap (λ m. m + 1) h.leader.draws ∙ sym (drawn_more w.commands (line_of c s Audits) refl))
      (audit_is b c s (length w.commands + 1) ∙ ap (λ m. Some (frame_with c s m (frame.LinkAudit (sigma_at b c s) (opened_at b 0 c s)))) (sym next)
      ∙ ap (λ x. Some (frame_with c s a.next (frame.LinkAudit x (opened_at b 0 c s)))) (sym sigma_is) ∙ ap (λ x. Some (frame_with c s a.next (frame.LinkAudit (steps.sigma a) x))) (sym opened_same))
      (record {
        lane = came.lane;
        serial = came.serial;
        addressed = came.first;
        link = omega (arith, next, n, small);
        linked = omega (arith, next);
        body = (subst (λ x. x < 2 ^ 128) (sym sigma_is) (sigma_small b c s write), subst IsOpenings (sym opened_same) (opened_is b c s write 0 (lit< tt)));
      })
      (unsettled after)

  -- at the row's stage
  proof_row : (stage : leader.Stage) → LeaderHolds b c s stage → LeaderTakesProof (bare_phase stage)
      → (w.lanes c).leader.serial ≡ s → (w.lanes c).leader.phase ≡ bare_phase stage
      → Within b (proof_at_leader w c s (bare_phase stage))
      → Follows b (frames.to_leader f (steps.proof_in f.leader g share stage)) (proof_at_leader w c s (bare_phase stage))
  unfolding steps.proof_in steps.again_at proof_at_leader
  proof_row (leader.Challenged held kept) holds takes serial phase after =
      room_follows b f w (issues_for w c s token.Auditing Audits) c s (frame.Proof share) (steps.audits f.leader g held share) k.sound k.within few h came
      (audit_issued held holds.0 serial phase) after
  proof_row (leader.Auditing number held before sigma opened) holds takes serial phase after =
      again_follows b f w c s (frame.Proof share) (leader.Auditing number held before sigma opened) h came holds
  proof_row (leader.Settling number held own other) holds takes serial phase after =
      again_follows b f w c s (frame.Proof share) (leader.Settling number held own other) h came holds
  proof_row (leader.Done asked kept) holds takes serial phase after =
      again_follows b f w c s (frame.Proof share) (leader.Done asked kept) h came holds
  proof_row leader.Idle holds takes serial phase after = absurd takes
  proof_row (leader.Waiting number asked) holds takes serial phase after = absurd takes

  cases : (same wanted : Bool) → (same ≡ true → s ≡ (row_at f.leader c).serial) → (same ≡ true → wanted ≡ true)
      → (s ≡ (w.lanes c).leader.serial → LeaderTakesProof (w.lanes c).leader.phase)
      → Within b (cond same (proof_at_leader w c s (w.lanes c).leader.phase) (sends w (token.Later c s)))
      → Follows b (frames.to_leader f (steps.proof_at f.leader g share (cond same (cond wanted Same (Phase (phase_of (row_at f.leader c).stage))) (Stale (row_at f.leader c).serial))))
      (cond same (proof_at_leader w c s (w.lanes c).leader.phase) (sends w (token.Later c s)))
  unfolding steps.proof_at
  cases false wanted is one takes after =
      posts_follow b f w _ _ h (later_frame b c s (refusal.Stale (row_at f.leader c).serial) came tt (stale_frame b c s _ came hr.small))
  cases true false is one takes after = absurd (cc (one refl))
  cases true true is one takes after =
      let serial : (row_at f.leader c).serial ≡ (w.lanes c).leader.serial = ap (λ x. x.serial) hr.bare in
      let phase : bare_phase (row_at f.leader c).stage ≡ (w.lanes c).leader.phase = ap (λ x. x.phase) hr.bare in
      let mine = is refl in
      let holds = subst (λ n. LeaderHolds b c n (row_at f.leader c).stage) (sym mine) hr.holds in
      subst (λ x. Follows b (frames.to_leader f (steps.proof_in f.leader g share (row_at f.leader c).stage)) (proof_at_leader w c s x)) phase
      (proof_row (row_at f.leader c).stage holds (subst LeaderTakesProof (sym phase) (takes (mine ∙ serial))) (sym (mine ∙ serial)) (sym phase)
      (subst (λ x. Within b (proof_at_leader w c s x)) (sym phase) after))

  pub proof_follows : Claims (state w k.lawful.stages) (token.ProofToLeader c s) → Within b (leader_proof_comes w c s)
      → Follows b (frames.to_leader f (steps.on_proof f.leader g share)) (leader_proof_comes w c s)
  unfolding steps.on_proof closing_gate leader_proof_comes
  proof_follows claim after =
      let r = row_at f.leader c in
      let first = came.first in
      let there : nat_le f.leader.settings.lanes c ≡ false = let e = h.leader.settings in let low = came.there in false_from_ne_true _ (λ t. let l = leb-true _ _ t in omega (arith, ap (λ s. s.lanes) e, low, l)) in
      let serial : r.serial ≡ (w.lanes c).leader.serial = ap (λ x. x.serial) hr.bare in
      let wanted : s ≡ r.serial → same_want want.Write (want_of r.stage) ≡ true = λ same.
      same_wants _ _ (sym (ap wants write.is) ∙ ap (λ n. wants (request_of b c n)) same ∙ sym (hr.want (omega (arith, first, same)))) in
      let takes : s ≡ (w.lanes c).leader.serial → LeaderTakesProof (w.lanes c).leader.phase = λ same.
      takes_at (w.lanes c) (k.lawful.stages c) s (k.lawful.coherent.fits c honest) claim.1 same (omega (arith, first)) in
      let either = cases (nat_eq s r.serial) (same_want want.Write (want_of r.stage)) (λ t. eqb-true s r.serial t) (λ t. wanted (eqb-true s r.serial t)) takes in
      rw (there) (at_serial r.serial (w.lanes c).leader.serial serial either after)
    where
      at_serial : (m n : ℕ) → m ≡ n
          → (Within b (cond (nat_eq s m) (proof_at_leader w c s (w.lanes c).leader.phase) (sends w (token.Later c s)))
          → Follows b (frames.to_leader f (steps.proof_at f.leader g share (cond (nat_eq s (row_at f.leader c).serial) (cond (same_want want.Write (want_of (row_at f.leader c).stage)) Same (Phase (phase_of (row_at f.leader c).stage))) (Stale (row_at f.leader c).serial))))
          (cond (nat_eq s m) (proof_at_leader w c s (w.lanes c).leader.phase) (sends w (token.Later c s))))
          → Within b (cond (nat_eq s n) (proof_at_leader w c s (w.lanes c).leader.phase) (sends w (token.Later c s)))
          → Follows b (frames.to_leader f (steps.proof_at f.leader g share (cond (nat_eq s (row_at f.leader c).serial) (cond (same_want want.Write (want_of (row_at f.leader c).stage)) Same (Phase (phase_of (row_at f.leader c).stage))) (Stale (row_at f.leader c).serial))))
          (cond (nat_eq s n) (proof_at_leader w c s (w.lanes c).leader.phase) (sends w (token.Later c s)))
      at_serial m n e k = subst (λ i. Within b (cond (nat_eq s i) (proof_at_leader w c s (w.lanes c).leader.phase) (sends w (token.Later c s)))
          → Follows b (frames.to_leader f (steps.proof_at f.leader g share (cond (nat_eq s (row_at f.leader c).serial) (cond (same_want want.Write (want_of (row_at f.leader c).stage)) Same (Phase (phase_of (row_at f.leader c).stage))) (Stale (row_at f.leader c).serial))))
          (cond (nat_eq s i) (proof_at_leader w c s (w.lanes c).leader.phase) (sends w (token.Later c s)))) e k

-- it comes
pub write_proved : (b : Book) (c s : ℕ) → WriteIs b c s → ComesFollows b (token.ProofToLeader c s)
unfolding frame_of comes_by
write_proved b c s write o f v w i l k after e h carries =
    let claim = k.lawful.coherent.pool i (token.ProofToLeader c s) e in
    let m = from_client_is c s (proof_at b 0 c s) carries.frame carries.is in
    let proof = proof_is b 0 c s m.body write.honest m.is in
    let is : carries.frame ≡ frame_with c s 0 (frame.Proof (share_at b 0 c s)) = sym m.frame ∙ ap (frame_with c s 0) (sym proof.is) ∙ ap (λ x. frame_with c s 0 (frame.Proof x)) proof.share_is in
    let spelled = subst (Spelled l ToLeader) is carries.spelled in
    let fr = spelled.is_frame in
    let came : Came b c s = record { there = carries.lane; lane = fr.lane; serial = fr.serial; first = fr.addressed } in
    rw (spelled.at, spelled.bytes, proof_turn f c s (share_at b 0 c s) _ (whole_spelled _ fr), comes_is o w (token.ProofToLeader c s))
    (proof_follows b f v w c s k h came write claim (subst (Within b) (comes_is o w (token.ProofToLeader c s)) after.within))
