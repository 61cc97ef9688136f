-- A request that is asked and finished while the system is quiet: what it leaves, exactly.
use Rattle.std.proofs.Common.{◌≡◌, ℕ, zero, suc, ◌+◌, ◌-◌, ◌*◌, ◌<◌, true, false, cond, nat_eq, nat_lt, ◌&&◌, ◌||◌, List, [], ◌∷◌, ◌++◌, length, ◌⊎◌, inl, inr, drop, Some, None, slice_get, arith, refl, sym, ◌∙◌, ap, append_assoc, length-append}
use Rattle.std.proofs.lemmas.Bool.{eq-eqb, ne_eqb, lt-ltb, lt-leb, le-ltb}
use Rattle.std.proofs.Math.Seq.{drop-append_seam}
use Rattle.mailbox_rules.specs.Requests.{Command, Audits, Settles, Entry, Line, Operation, Request, entry}
use Rattle.mailbox_rules.specs.Tables.{Table, after_line, no_writes}
use Rattle.token_rules.specs.Tokens.{Answer, Answered, Auditing, Begun, Challenge, Challenged, Deposit, Deposited, Done, HeldDeposit, HeldProof, Lane, Later, Oracle, Ordered, Phase, ProofToHelper, ProofToLeader, Proved, Replied, Row, Submission, Token, Waiting, World, put, row}
use Rattle.token_rules.specs.Rows.{arrival_of, carried_phase, carried_row}
use Rattle.token_rules.specs.Run.{asked_operation, carries_next, client_sends, comes, command_comes, delivers, delivers_at, drain_round, drained, drains, finish_round, finished, finishes, goes_on, notes, waits, frame_of, handed_last, is_for, is_full, issues, kept, last_for, line_of, reply_applied, reply_comes, resends, sends, sent_and_drained, ticks, with_lane}
use Rattle.token_rules.proofs.Cases.{acks, acks_is, answer_comes, answers, comes_by, comes_is, deposit_comes, finished_request, helper_proof_comes, leader_proof_comes, proof_at_helper, proof_at_leader, steps_on, submission_comes}
use Rattle.token_rules.proofs.Lists.{get_end}
use Rattle.token_rules.proofs.Drain.{delivers_is}
use Rattle.token_rules.proofs.Finish.{put_at}
use Rattle.replay_world.proofs.Clients.{put_put}

-- what a request changes until it is answered
pub record Parts : Type 0 where
  pub lane : Lane
  pub commands : List Line
  pub carried : ℕ
  pub acknowledged : ℕ
  pub journal : List Entry
  pub table : Table
  pub pool : List Token

abbrev pub now : World → ℕ → Parts → World
now w c p = record w {
  lanes = put w.lanes c p.lane;
  commands = p.commands;
  carried = p.carried;
  acknowledged = p.acknowledged;
  journal = p.journal;
  table = p.table;
  pool = p.pool;
}

-- a lane changes
lane_now : (w : World) (c : ℕ) (p : Parts) (lane : Lane) → with_lane (now w c p) c lane ≡ now w c (record p { lane = lane })
lane_now w c p lane = ap (λ lanes. record (now w c p) { lanes = lanes }) (put_put w.lanes c p.lane lane)

comes_ordered : (o : Oracle) (w : World) (n : ℕ) (x : Line) → comes o w (Ordered n x) ≡ command_comes o w n x (arrival_of w.window w.carried n)
unfolding comes
comes_ordered o w n x = refl

comes_replied : (o : Oracle) (w : World) (n : ℕ) (x : Line) → comes o w (Replied n x) ≡ reply_comes o w n x
unfolding comes
comes_replied o w n x = refl

-- nothing is outstanding, and the client is at that step of its request
pub record IsAt (s : ℕ) (k : Command) (p : Parts) (step : ℕ) : Type 0 where
  pub none : length p.commands ≡ p.acknowledged
  pub carried : p.carried ≡ p.acknowledged
  pub at : p.lane.step ≡ step
  pub serial : p.lane.serial ≡ s
  pub opening : p.lane.opening ≡ k

module _ (o : Oracle) (w : World) (c s : ℕ) (k : Command) (hon : w.foreign c ≡ false) where
  here : nat_eq c c ≡ true
  here = eq-eqb c c refl

  mine : nat_eq s s ≡ true
  mine = eq-eqb s s refl

  lane_of : (p : Parts) → (now w c p).lanes c ≡ p.lane
  lane_of p = put_at w.lanes c p.lane

  -- nothing is outstanding
  drained_now : (v : World) → length v.commands ≡ v.acknowledged → drained o v ≡ v
  unfolding drained drains
  drained_now v e = let n : 2 * (length v.commands - v.acknowledged) ≡ 0 = omega (arith, e) in ap (λ n. drains o n v) n

  -- the last token for the client is handed over
  handed : (v : World) (before ts : List Token) → v.pool ≡ before ++ ts → handed_last o v c (length before) ≡ delivers o v (last_for c None ts)
  unfolding handed_last
  handed v before ts e = ap (λ pool. delivers o v (last_for c None (drop (length before) pool))) e ∙ ap (λ ts. delivers o v (last_for c None ts)) (drop-append_seam before ts)

  -- the client's frame is sent and comes
  sent_now : (p : Parts) (n : ℕ) (t : Token) → p.lane.step ≡ n → frame_of n c p.lane.serial p.lane.opening ≡ t ∷ []
      → delivers_at o (client_sends (now w c p) c) (length p.pool) ≡ comes o (now w c (record p { pool = p.pool ++ t ∷ [] })) t
  unfolding client_sends
  sent_now p n t step frame =
      let sent : client_sends (now w c p) c ≡ now w c (record p { pool = p.pool ++ t ∷ [] }) =
      rw (hon, lane_of p, step, frame) refl in
      ap (λ v. delivers_at o v (length p.pool)) sent
      ∙ delivers_is o (now w c (record p { pool = p.pool ++ t ∷ [] })) (length p.pool) t (get_end p.pool t)

  -- ---- the deposit

  deposit_now : (p : Parts) → p.lane.helper.serial < s
      → comes o (now w c p) (Deposit c s)
      ≡ now w c (record p { lane = record p.lane { helper = row s Deposited }; pool = p.pool ++ HeldDeposit c s ∷ [] })
  unfolding comes_by deposit_comes
  deposit_now p low =
      let a : nat_lt s p.lane.helper.serial ≡ false = le-ltb _ _ (omega (arith, low)) in
      let b : nat_eq s p.lane.helper.serial ≡ false = ne_eqb _ _ (λ e. absurd (omega (arith, low, e))) in
      comes_is o (now w c p) (Deposit c s)
      ∙ rw (lane_of p, a, b) (ap (λ v. sends v (HeldDeposit c s)) (lane_now w c p (record p.lane { helper = row s Deposited })))

  -- a client hears what moves it on
  hears_now : (p : Parts) (t : Token) (n : ℕ) → comes_by o (now w c p) t ≡ steps_on (now w c p) c s n → p.lane.serial ≡ s → p.lane.step ≡ n
      → comes o (now w c p) t ≡ now w c (record p { lane = record p.lane { step = n + 1 } })
  unfolding steps_on
  hears_now p t n is serial step =
      let a : nat_eq s p.lane.serial ≡ true = eq-eqb _ _ (sym serial) in
      let b : nat_eq p.lane.step n ≡ true = eq-eqb _ _ step in
      comes_is o (now w c p) t ∙ is ∙ rw (lane_of p, a, b) (lane_now w c p (record p.lane { step = n + 1 }))

  -- ---- a command is issued

  submission_now : (p : Parts) → p.lane.leader.serial < s → is_full (now w c p) ≡ false
      → comes o (now w c p) (Submission c s k)
      ≡ now w c (record p {
        lane = record p.lane { leader = row s Waiting };
        commands = p.commands ++ line_of c s k ∷ [];
        pool = p.pool ++ Ordered (length p.commands + 1) (line_of c s k) ∷ [];
      })
  unfolding comes_by submission_comes
  submission_now p low room =
      let a : nat_lt s p.lane.leader.serial ≡ false = le-ltb _ _ (omega (arith, low)) in
      let b : nat_eq s p.lane.leader.serial ≡ false = ne_eqb _ _ (λ e. absurd (omega (arith, low, e))) in
      comes_is o (now w c p) (Submission c s k)
      ∙ rw (lane_of p, a, b, room) (ap (λ v. issues v (line_of c s k)) (lane_now w c p (record p.lane { leader = row s Waiting })))

  proof_b_now : (p : Parts) → p.lane.helper ≡ row s Begun
      → comes o (now w c p) (ProofToHelper c s)
      ≡ now w c (record p { lane = record p.lane { helper = row s Proved }; pool = p.pool ++ HeldProof c s ∷ [] })
  unfolding comes_by helper_proof_comes proof_at_helper
  proof_b_now p at =
      let v = now w c p in
      comes_is o v (ProofToHelper c s)
      ∙ ap (λ (r : Row). cond (nat_eq s r.serial) (proof_at_helper v c s r.phase) (sends v (Later c s))) (ap (λ (l : Lane). l.helper) (lane_of p) ∙ at)
      ∙ rw (mine, lane_of p) (ap (λ v. sends v (HeldProof c s)) (lane_now w c p (record p.lane { helper = row s Proved })))

  proof_a_now : (p : Parts) → p.lane.leader ≡ row s Challenged → is_full (now w c p) ≡ false
      → comes o (now w c p) (ProofToLeader c s)
      ≡ now w c (record p {
        lane = record p.lane { leader = row s Auditing };
        commands = p.commands ++ line_of c s Audits ∷ [];
        pool = p.pool ++ Ordered (length p.commands + 1) (line_of c s Audits) ∷ [];
      })
  unfolding comes_by leader_proof_comes proof_at_leader
  proof_a_now p at room =
      let v = now w c p in
      comes_is o v (ProofToLeader c s)
      ∙ ap (λ (r : Row). cond (nat_eq s r.serial) (proof_at_leader v c s r.phase) (sends v (Later c s))) (ap (λ (l : Lane). l.leader) (lane_of p) ∙ at)
      ∙ rw (mine, room, lane_of p) (ap (λ v. issues v (line_of c s Audits)) (lane_now w c p (record p.lane { leader = row s Auditing })))

  -- ---- a round of a drain

  -- what the helper does at the next command
  unfoldable pub does_now : Parts → Command → Operation
  does_now p x = asked_operation (now w c p) (line_of c s x)

  unfoldable pub carried_now : Parts → Command → Parts
  carried_now p x = record p {
    lane = record p.lane { helper = carried_row (line_of c s x) };
    carried = p.carried + 1;
    journal = p.journal ++ entry (line_of c s x) (does_now p x) ∷ [];
    table = after_line w.limit w.width no_writes p.table (line_of c s x) (does_now p x);
    pool = (p.pool ++ Ordered (p.acknowledged + 1) (line_of c s x) ∷ []) ++ Replied (p.carried + 1) (line_of c s x) ∷ [];
  }

  round_now : (p : Parts) (x : Command) → slice_get p.commands p.acknowledged ≡ Some (line_of c s x) → p.carried ≡ p.acknowledged → p.acknowledged < length p.commands
      → drain_round o (now w c p) ≡ acks (now w c (carried_now p x)) c s x
  unfolding drain_round ticks resends arrival_of command_comes carries_next reply_comes reply_applied carried_now does_now
  round_now p x is car low =
      let line = line_of c s x in
      let t = Ordered (p.acknowledged + 1) line in
      let p1 : Parts = record p { pool = p.pool ++ t ∷ [] } in
      let p2 = carried_now p x in
      let u = now w c p1 in
      let v = now w c p2 in
      let next : nat_eq (p.acknowledged + 1) (p.carried + 1) ≡ true = eq-eqb _ _ (ap (λ n. n + 1) (sym car)) in
      let first : ticks (now w c p) ≡ u = ap (resends (now w c p)) is in
      let second : delivers_at o u (length p.pool) ≡ comes o u t = delivers_is o u (length p.pool) t (get_end p.pool t) in
      let third : comes o u t ≡ v =
      comes_ordered o u (p.acknowledged + 1) line ∙ rw (next, hon, lane_of p1) (ap (λ lanes. record v { lanes = lanes }) (put_put w.lanes c p.lane (record p.lane { helper = carried_row line }))) in
      let size : length p1.pool ≡ length p.pool + 1 = length-append p.pool (t ∷ []) in
      let r = Replied (p.carried + 1) line in
      let there : slice_get p2.pool (length p.pool + 1) ≡ Some r = ap (slice_get p2.pool) (sym size) ∙ get_end p1.pool r in
      let a : nat_eq (p.carried + 1) (p.acknowledged + 1) ≡ true = eq-eqb _ _ (ap (λ n. n + 1) car) in
      let b : nat_lt p.acknowledged (length p.commands) ≡ true = lt-ltb _ _ low in
      let fourth : comes o v r ≡ acks v c s x = comes_replied o v (p.carried + 1) line ∙ rw (a, b, hon) (acks_is v c s x) in
      ap (λ v. delivers_at o (delivers_at o v (length p.pool)) (length p.pool + 1)) first
      ∙ ap (λ v. delivers_at o v (length p.pool + 1)) (second ∙ third)
      ∙ delivers_is o v (length p.pool + 1) r there
      ∙ fourth

  -- ---- rounds of a finish

  quiet_round : (v : World) → length v.commands ≡ v.acknowledged → finish_round o v c ≡ handed_last o (drained o (delivers_at o (client_sends v c) (length v.pool))) c (length v.pool)
  unfolding finish_round sent_and_drained
  quiet_round v e = ap (λ u. handed_last o (drained o (delivers_at o (client_sends u c) (length u.pool))) c (length u.pool)) (drained_now v e)

  -- the deposit is sent, and held
  unfoldable pub after_deposit : Parts → Parts
  after_deposit p = record p { lane = record p.lane { helper = row s Deposited; step = 2 }; pool = p.pool ++ Deposit c s ∷ HeldDeposit c s ∷ [] }

  two : {X : Type 0} (xs : List X) (x y : X) → (xs ++ x ∷ []) ++ y ∷ [] ≡ xs ++ x ∷ y ∷ []
  two xs x y = append_assoc xs (x ∷ []) (y ∷ [])

  deposit_round : (p : Parts) → length p.commands ≡ p.acknowledged → p.lane.step ≡ 1 → p.lane.serial ≡ s → p.lane.helper.serial < s
      → finish_round o (now w c p) c ≡ now w c (after_deposit p)
  unfolding after_deposit last_for delivers is_for frame_of comes_by
  deposit_round p none step serial low =
      let d = Deposit c s in
      let h = HeldDeposit c s in
      let p1 : Parts = record p { pool = p.pool ++ d ∷ [] } in
      let p2 : Parts = record p { lane = record p.lane { helper = row s Deposited }; pool = p1.pool ++ h ∷ [] } in
      let p3 : Parts = record p { lane = record p.lane { helper = row s Deposited }; pool = p.pool ++ d ∷ h ∷ [] } in
      let frame : frame_of 1 c p.lane.serial p.lane.opening ≡ d ∷ [] = ap (λ n. Deposit c n ∷ []) serial in
      let sent = sent_now p 1 d step frame ∙ deposit_now p1 low in
      let same : now w c p2 ≡ now w c p3 = ap (λ pool. record (now w c p2) { pool = pool }) (two p.pool d h) in
      quiet_round (now w c p) none
      ∙ ap (λ v. handed_last o (drained o v) c (length p.pool)) (sent ∙ same)
      ∙ ap (λ v. handed_last o v c (length p.pool)) (drained_now (now w c p3) none)
      ∙ handed (now w c p3) p.pool (d ∷ h ∷ []) refl
      ∙ rw here (hears_now p3 h 1 refl serial step)

  -- ---- a drain of one command, and of an audit with its settle

  drained_once : (v u : World) → length v.commands ≡ v.acknowledged + 1 → drain_round o v ≡ u → length u.commands ≡ u.acknowledged → drained o v ≡ u
  unfolding drained drains
  drained_once v u one is none =
      let n : 2 * (length v.commands - v.acknowledged) ≡ 2 = omega (arith, one) in
      let busy : nat_lt v.acknowledged (length v.commands) ≡ true = lt-ltb _ _ (omega (arith, one)) in
      let idle : nat_lt u.acknowledged (length u.commands) ≡ false = le-ltb _ _ (omega (arith, none)) in
      ap (λ n. drains o n v) n ∙ rw busy (ap (λ u. drains o 1 u) is ∙ rw idle refl)

  drained_twice : (v u z : World) → length v.commands ≡ v.acknowledged + 1 → drain_round o v ≡ u → length u.commands ≡ u.acknowledged + 1 → drain_round o u ≡ z → drained o v ≡ z
  unfolding drained drains
  drained_twice v u z one is two then =
      let n : 2 * (length v.commands - v.acknowledged) ≡ 2 = omega (arith, one) in
      let busy : nat_lt v.acknowledged (length v.commands) ≡ true = lt-ltb _ _ (omega (arith, one)) in
      let busy2 : nat_lt u.acknowledged (length u.commands) ≡ true = lt-ltb _ _ (omega (arith, two)) in
      ap (λ n. drains o n v) n ∙ rw busy (ap (λ u. drains o 1 u) is ∙ rw busy2 then)

  answered_now : (p : Parts) (x : Phase) → answers (now w c p) c s x
      ≡ now w c (record p { lane = record p.lane { leader = row s x }; acknowledged = p.acknowledged + 1; pool = p.pool ++ kept c s x })
  answered_now p x =
      rw (lane_of p) (ap (λ lanes. record (now w c p) { lanes = lanes; acknowledged = p.acknowledged + 1; pool = p.pool ++ kept c s x }) (put_put w.lanes c p.lane (record p.lane { leader = row s x })))

  -- the window has room where nothing is outstanding
  has_room : (p : Parts) → 0 < w.window → length p.commands ≡ p.acknowledged → is_full (now w c p) ≡ false
  has_room p wide none = lt-leb _ _ (omega (arith, wide, none))

  at_end : (xs : List Line) (x : Line) (n : ℕ) → length xs ≡ n → slice_get (xs ++ x ∷ []) n ≡ Some x
  at_end xs x n e = ap (slice_get (xs ++ x ∷ [])) (sym e) ∙ get_end xs x

  -- ---- the submission of a request with one command, or of a write

  -- the command that is issued is carried out and acknowledged, and the row keeps the reply
  unfoldable pub worked : Parts → Phase → Parts
  worked p x = record p {
    lane = record p.lane { leader = row s x; helper = carried_row (line_of c s k) };
    commands = p.commands ++ line_of c s k ∷ [];
    carried = p.carried + 1;
    acknowledged = p.acknowledged + 1;
    journal = p.journal ++ entry (line_of c s k) (does_now p k) ∷ [];
    table = after_line w.limit w.width no_writes p.table (line_of c s k) (does_now p k);
    pool = p.pool
        ++ Submission c s k
        ∷ Ordered (length p.commands + 1) (line_of c s k)
        ∷ Ordered (p.acknowledged + 1) (line_of c s k)
        ∷ Replied (p.carried + 1) (line_of c s k)
        ∷ kept c s x;
  }

  submission_drained : (p : Parts) (x : Phase) → IsAt s k p 2 → p.lane.leader.serial < s → 0 < w.window → ((v : World) → acks v c s k ≡ answers v c s x)
      → drained o (delivers_at o (client_sends (now w c p) c) (length p.pool)) ≡ now w c (worked p x)
  unfolding worked carried_now frame_of does_now
  submission_drained p x h low wide answer =
      let line = line_of c s k in
      let t = Submission c s k in
      let none = h.none in
      let p1 : Parts = record p { pool = p.pool ++ t ∷ [] } in
      let p2 : Parts = record p1 {
        lane = record p1.lane { leader = row s Waiting };
        commands = p1.commands ++ line ∷ [];
        pool = p1.pool ++ Ordered (length p.commands + 1) line ∷ [];
      } in
      let p3 = carried_now p2 k in
      let p4 : Parts = record p3 { lane = record p3.lane { leader = row s x }; acknowledged = p3.acknowledged + 1; pool = p3.pool ++ kept c s x } in
      let frame : frame_of 2 c p.lane.serial p.lane.opening ≡ t ∷ [] = ap (λ n. Submission c n p.lane.opening ∷ []) h.serial ∙ ap (λ y. Submission c s y ∷ []) h.opening in
      let sent = sent_now p 2 t h.at frame ∙ submission_now p1 low (has_room p1 wide none) in
      let size : length p2.commands ≡ p2.acknowledged + 1 = length-append p.commands (line ∷ []) ∙ ap (λ n. n + 1) none in
      let round = round_now p2 k (at_end p.commands line p.acknowledged none) h.carried (omega (arith, size)) in
      let all : drain_round o (now w c p2) ≡ now w c p4 = round ∙ answer (now w c p3) ∙ answered_now p3 x in
      let pool : p4.pool ≡ (worked p x).pool = simp append_assoc in
      ap (λ v. drained o v) sent
      ∙ drained_once (now w c p2) (now w c p4) size all size
      ∙ ap (λ pool. record (now w c p4) { pool = pool }) pool

  -- the request is answered
  unfoldable pub ended : Parts → List Request → World
  ended p rest = record (now w c (record p { lane = record p.lane { step = 0 } })) {
    requests = put w.requests c (record (w.requests c) { waiting = rest; told = (w.requests c).told + 1 });
    outcomes = w.outcomes ++ record { client = c; request = (w.requests c).told; told = Answered s k } ∷ [];
  }

  answer_now : (p : Parts) (n : ℕ) → p.lane.serial ≡ s → p.lane.opening ≡ k → p.lane.step ≡ n → (n ≡ 2) ⊎ (n ≡ 4) → (w.requests c).waiting ≡ []
      → comes o (now w c p) (Answer c s) ≡ ended p []
  unfolding comes_by answer_comes goes_on ended
  answer_now p n serial opening at last waiting =
      let v = now w c p in
      let a : nat_eq s p.lane.serial ≡ true = eq-eqb _ _ (sym serial) in
      let b : nat_eq n 2 || nat_eq n 4 ≡ true = elim last [ inl e ↦ rw e refl | inr e ↦ rw e refl ] in
      let u = notes v c (Answered s k) in
      let told : finished_request v c s ≡ waits u c [] =
      ap (λ y. goes_on (notes v c (Answered s y)) c (w.requests c).waiting) (ap (λ (l : Lane). l.opening) (lane_of p) ∙ opening) ∙ ap (goes_on u c) waiting in
      let lane = record p.lane { step = 0 } in
      let asks = record (w.requests c) { told = (w.requests c).told + 1 } in
      let same : waits u c [] ≡ ended p [] =
      rw (lane_of p, put_at w.requests c asks)
      (ap (λ lanes. record u { lanes = lanes; requests = put (put w.requests c asks) c (record asks { waiting = [] }) }) (put_put w.lanes c p.lane lane)
      ∙ ap (λ requests. record u { lanes = put w.lanes c lane; requests = requests }) (put_put w.requests c asks (record asks { waiting = [] }))) in
      comes_is o v (Answer c s)
      ∙ ap (λ (l : Lane). cond (nat_eq s l.serial && (nat_eq l.step 2 || nat_eq l.step 4)) (finished_request v c s) v) (lane_of p)
      ∙ ap (λ m. cond (nat_eq s p.lane.serial && (nat_eq m 2 || nat_eq m 4)) (finished_request v c s) v) at
      ∙ rw (a, b) (told ∙ same)

  -- ---- rounds of a finish

  short_round : (p : Parts) → IsAt s k p 2 → p.lane.leader.serial < s → 0 < w.window → (w.requests c).waiting ≡ [] → ((v : World) → acks v c s k ≡ answers v c s Done)
      → finish_round o (now w c p) c ≡ ended (worked p Done) []
  unfolding last_for delivers is_for worked
  short_round p h low wide waiting answer =
      let ts = Submission c s k ∷ Ordered (length p.commands + 1) (line_of c s k) ∷ Ordered (p.acknowledged + 1) (line_of c s k) ∷ Replied (p.carried + 1) (line_of c s k) ∷ Answer c s ∷ [] in
      quiet_round (now w c p) h.none
      ∙ ap (λ v. handed_last o v c (length p.pool)) (submission_drained p Done h low wide answer)
      ∙ handed (now w c (worked p Done)) p.pool ts refl
      ∙ rw here (answer_now (worked p Done) 2 h.serial h.opening h.at (inl refl) waiting)

  begin_round : (p : Parts) → IsAt s k p 2 → p.lane.leader.serial < s → 0 < w.window → ((v : World) → acks v c s k ≡ answers v c s Challenged)
      → finish_round o (now w c p) c ≡ now w c (record (worked p Challenged) { lane = record (worked p Challenged).lane { step = 3 } })
  unfolding last_for delivers is_for worked comes_by
  begin_round p h low wide answer =
      let ts = Submission c s k ∷ Ordered (length p.commands + 1) (line_of c s k) ∷ Ordered (p.acknowledged + 1) (line_of c s k) ∷ Replied (p.carried + 1) (line_of c s k) ∷ Challenge c s ∷ [] in
      quiet_round (now w c p) h.none
      ∙ ap (λ v. handed_last o v c (length p.pool)) (submission_drained p Challenged h low wide answer)
      ∙ handed (now w c (worked p Challenged)) p.pool ts refl
      ∙ rw here (hears_now (worked p Challenged) (Challenge c s) 2 refl h.serial h.at)

  unfoldable pub shown : Parts → Parts
  shown p = record p { lane = record p.lane { helper = row s Proved; step = 4 }; pool = p.pool ++ ProofToHelper c s ∷ HeldProof c s ∷ [] }

  proof_b_round : (p : Parts) → IsAt s k p 3 → p.lane.helper ≡ row s Begun
      → finish_round o (now w c p) c ≡ now w c (shown p)
  unfolding shown last_for delivers is_for frame_of comes_by
  proof_b_round p h at =
      let d = ProofToHelper c s in
      let e = HeldProof c s in
      let p1 : Parts = record p { pool = p.pool ++ d ∷ [] } in
      let p2 : Parts = record p { lane = record p.lane { helper = row s Proved }; pool = p1.pool ++ e ∷ [] } in
      let p3 : Parts = record p { lane = record p.lane { helper = row s Proved }; pool = p.pool ++ d ∷ e ∷ [] } in
      let frame : frame_of 3 c p.lane.serial p.lane.opening ≡ d ∷ [] = ap (λ n. ProofToHelper c n ∷ []) h.serial in
      let sent = sent_now p 3 d h.at frame ∙ proof_b_now p1 at in
      let same : now w c p2 ≡ now w c p3 = ap (λ pool. record (now w c p2) { pool = pool }) (two p.pool d e) in
      quiet_round (now w c p) h.none
      ∙ ap (λ v. handed_last o (drained o v) c (length p.pool)) (sent ∙ same)
      ∙ ap (λ v. handed_last o v c (length p.pool)) (drained_now (now w c p3) h.none)
      ∙ handed (now w c p3) p.pool (d ∷ e ∷ []) refl
      ∙ rw here (hears_now p3 e 3 refl h.serial h.at)

  -- the audit's reply has the settle issued
  audits_now : (p : Parts) → acks (now w c p) c s Audits
      ≡ now w c (record p {
        lane = record p.lane { leader = row s Auditing };
        acknowledged = p.acknowledged + 1;
        commands = p.commands ++ line_of c s Settles ∷ [];
        pool = p.pool ++ Ordered (length p.commands + 1) (line_of c s Settles) ∷ [];
      })
  unfolding acks
  audits_now p =
      rw (lane_of p) (ap (λ lanes. issues (record (now w c p) { lanes = lanes; acknowledged = p.acknowledged + 1 }) (line_of c s Settles)) (put_put w.lanes c p.lane (record p.lane { leader = row s Auditing })))

  settles_now : (p : Parts) → acks (now w c p) c s Settles ≡ answers (now w c p) c s Done
  unfolding acks
  settles_now p = refl

  -- audit and settle are carried out and acknowledged
  unfoldable pub audited : Parts → Parts
  audited p = record p {
    lane = record p.lane { leader = row s Auditing; helper = carried_row (line_of c s Audits) };
    commands = p.commands ++ line_of c s Audits ∷ line_of c s Settles ∷ [];
    carried = p.carried + 1;
    acknowledged = p.acknowledged + 1;
    journal = p.journal ++ entry (line_of c s Audits) (does_now p Audits) ∷ [];
    table = after_line w.limit w.width no_writes p.table (line_of c s Audits) (does_now p Audits);
    pool = p.pool
        ++ ProofToLeader c s
        ∷ Ordered (length p.commands + 1) (line_of c s Audits)
        ∷ Ordered (p.acknowledged + 1) (line_of c s Audits)
        ∷ Replied (p.carried + 1) (line_of c s Audits)
        ∷ Ordered (length (p.commands ++ line_of c s Audits ∷ []) + 1) (line_of c s Settles)
        ∷ [];
  }

  unfoldable pub settled : Parts → Parts
  settled p = record p {
    lane = record p.lane { leader = row s Done; helper = carried_row (line_of c s Settles) };
    carried = p.carried + 1;
    acknowledged = p.acknowledged + 1;
    journal = p.journal ++ entry (line_of c s Settles) (does_now p Settles) ∷ [];
    table = after_line w.limit w.width no_writes p.table (line_of c s Settles) (does_now p Settles);
    pool = p.pool
        ++ Ordered (p.acknowledged + 1) (line_of c s Settles)
        ∷ Replied (p.carried + 1) (line_of c s Settles)
        ∷ Answer c s
        ∷ [];
  }

  proof_a_drained : (p : Parts) → IsAt s k p 4 → p.lane.leader ≡ row s Challenged → 0 < w.window
      → drained o (delivers_at o (client_sends (now w c p) c) (length p.pool)) ≡ now w c (settled (audited p))
  unfolding audited settled carried_now frame_of does_now
  proof_a_drained p h at wide =
      let x = line_of c s Audits in
      let y = line_of c s Settles in
      let t = ProofToLeader c s in
      let none = h.none in
      let p1 : Parts = record p { pool = p.pool ++ t ∷ [] } in
      let p2 : Parts = record p1 {
        lane = record p1.lane { leader = row s Auditing };
        commands = p1.commands ++ x ∷ [];
        pool = p1.pool ++ Ordered (length p.commands + 1) x ∷ [];
      } in
      let p3 = carried_now p2 Audits in
      let p4 : Parts = record p3 {
        lane = record p3.lane { leader = row s Auditing };
        acknowledged = p3.acknowledged + 1;
        commands = p3.commands ++ y ∷ [];
        pool = p3.pool ++ Ordered (length p3.commands + 1) y ∷ [];
      } in
      let q = audited p in
      let r = settled q in
      let r3 = carried_now q Settles in
      let r4 : Parts = record r3 { lane = record r3.lane { leader = row s Done }; acknowledged = r3.acknowledged + 1; pool = r3.pool ++ Answer c s ∷ [] } in
      let frame : frame_of 4 c p.lane.serial p.lane.opening ≡ t ∷ [] = ap (λ n. ProofToLeader c n ∷ []) h.serial in
      let sent = sent_now p 4 t h.at frame ∙ proof_a_now p1 at (has_room p1 wide none) in
      let size : length p2.commands ≡ p2.acknowledged + 1 = length-append p.commands (x ∷ []) ∙ ap (λ n. n + 1) none in
      let more : length q.commands ≡ q.acknowledged + 1 = let e = length-append p.commands (x ∷ y ∷ []) in omega (arith, e, none) in
      let pools : p4.pool ≡ q.pool = simp append_assoc in
      let commands : p4.commands ≡ q.commands = two p.commands x y in
      let same : now w c p4 ≡ now w c q = ap (λ pool. record (now w c p4) { pool = pool }) pools ∙ ap (λ commands. record (now w c p4) { pool = q.pool; commands = commands }) commands in
      let first : drain_round o (now w c p2) ≡ now w c q =
      round_now p2 Audits (at_end p.commands x p.acknowledged none) h.carried (omega (arith, size)) ∙ audits_now p3 ∙ same in
      let next : slice_get q.commands q.acknowledged ≡ Some y =
      ap (λ xs. slice_get xs q.acknowledged) (sym commands) ∙ at_end p3.commands y q.acknowledged (size) in
      let ends : r4.pool ≡ r.pool = simp append_assoc in
      let second : drain_round o (now w c q) ≡ now w c r =
      round_now q Settles next (ap (λ n. n + 1) h.carried) (omega (arith, more)) ∙ settles_now r3 ∙ answered_now r3 Done ∙ ap (λ pool. record (now w c r4) { pool = pool }) ends in
      ap (λ v. drained o v) sent
      ∙ drained_twice (now w c p2) (now w c q) (now w c r) size first more second

  proof_a_round : (p : Parts) → IsAt s k p 4 → p.lane.leader ≡ row s Challenged → 0 < w.window → (w.requests c).waiting ≡ []
      → finish_round o (now w c p) c ≡ ended (settled (audited p)) []
  unfolding last_for delivers is_for audited settled
  proof_a_round p h at wide waiting =
      let ts = ProofToLeader c s
      ∷ Ordered (length p.commands + 1) (line_of c s Audits)
      ∷ Ordered (p.acknowledged + 1) (line_of c s Audits)
      ∷ Replied (p.carried + 1) (line_of c s Audits)
      ∷ Ordered (length (p.commands ++ line_of c s Audits ∷ []) + 1) (line_of c s Settles)
      ∷ Ordered (p.acknowledged + 1 + 1) (line_of c s Settles)
      ∷ Replied (p.carried + 1 + 1) (line_of c s Settles)
      ∷ Answer c s
      ∷ [] in
      let all : (settled (audited p)).pool ≡ p.pool ++ ts = append_assoc p.pool _ _ in
      quiet_round (now w c p) h.none
      ∙ ap (λ v. handed_last o v c (length p.pool)) (proof_a_drained p h at wide)
      ∙ handed (now w c (settled (audited p))) p.pool ts all
      ∙ rw here (answer_now (settled (audited p)) 4 h.serial h.opening h.at (inr refl) waiting)

  -- ---- the whole finish

  goes_round : (n r : ℕ) (p : Parts) (v : World) → p.lane.step ≡ suc n → finish_round o (now w c p) c ≡ v → finishes o (suc r) (now w c p) c ≡ finishes o r v c
  unfolding finishes
  goes_round n r p v step is =
      let busy : nat_eq p.lane.step 0 ≡ false = ne_eqb _ _ (λ e. absurd (omega (arith, step, e))) in
      rw (lane_of p, busy) (ap (λ v. finishes o r v c) is)

  ended_rests : (r : ℕ) (p : Parts) (rest : List Request) → finishes o r (ended p rest) c ≡ ended p rest
  unfolding finishes ended
  ended_rests zero p rest = refl
  ended_rests (suc r) p rest = rw (put_at w.lanes c (record p.lane { step = 0 })) refl

  four : (v : World) → (v.requests c).waiting ≡ [] → finished o v c ≡ finishes o 4 v c
  unfolding finished
  four v e = ap (λ (rs : List Request). finishes o (4 * (length rs + 1)) v c) e

  pub short_finish : (p : Parts) → IsAt s k p 1 → p.lane.leader.serial < s → p.lane.helper.serial < s → 0 < w.window → (w.requests c).waiting ≡ [] → ((v : World) → acks v c s k ≡ answers v c s Done)
      → finished o (now w c p) c ≡ ended (worked (after_deposit p) Done) []
  unfolding after_deposit
  short_finish p h low lower wide waiting answer =
      let q = after_deposit p in
      let at : IsAt s k q 2 = record { none = h.none; carried = h.carried; at = refl; serial = h.serial; opening = h.opening } in
      four (now w c p) waiting
      ∙ goes_round 0 3 p (now w c q) h.at (deposit_round p h.none h.at h.serial lower)
      ∙ goes_round 1 2 q (ended (worked q Done) []) refl (short_round q at low wide waiting answer)
      ∙ ended_rests 2 (worked q Done) []

  pub write_finish : (p : Parts) → IsAt s k p 1 → p.lane.leader.serial < s → p.lane.helper.serial < s → 0 < w.window → (w.requests c).waiting ≡ []
      → ((v : World) → acks v c s k ≡ answers v c s Challenged) → carried_phase k ≡ Begun
      → finished o (now w c p) c ≡ ended (settled (audited (shown (record (worked (after_deposit p) Challenged) { lane = record (worked (after_deposit p) Challenged).lane { step = 3 } })))) []
  unfolding after_deposit worked shown
  write_finish p h low lower wide waiting answer begins =
      let q = after_deposit p in
      let at : IsAt s k q 2 = record { none = h.none; carried = h.carried; at = refl; serial = h.serial; opening = h.opening } in
      let q3 : Parts = record (worked q Challenged) { lane = record (worked q Challenged).lane { step = 3 } } in
      let size : length q3.commands ≡ q3.acknowledged = length-append p.commands (line_of c s k ∷ []) ∙ ap (λ n. n + 1) h.none in
      let at3 : IsAt s k q3 3 = record { none = size; carried = ap (λ n. n + 1) h.carried; at = refl; serial = h.serial; opening = h.opening } in
      let q4 = shown q3 in
      let at4 : IsAt s k q4 4 = record { none = size; carried = at3.carried; at = refl; serial = h.serial; opening = h.opening } in
      four (now w c p) waiting
      ∙ goes_round 0 3 p (now w c q) h.at (deposit_round p h.none h.at h.serial lower)
      ∙ goes_round 1 2 q (now w c q3) refl (begin_round q at low wide answer)
      ∙ goes_round 2 1 q3 (now w c q4) refl (proof_b_round q3 at3 (ap (row s) begins))
      ∙ goes_round 3 0 q4 (ended (settled (audited q4)) []) refl (proof_a_round q4 at4 refl wide waiting)
      ∙ ended_rests 0 (settled (audited q4)) []
