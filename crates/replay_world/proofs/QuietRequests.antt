-- A client is asked and its requests are worked off, while the system rests: what comes of it.
use Rattle.std.proofs.Common.{◌≡◌, ◌≢◌, ℕ, ◌+◌, ◌-◌, ◌<◌, ◌≤◌, inl, inr, true, false, nat_eq, List, [], ◌∷◌, ◌++◌, length, Some, slice_get, arith, refl, sym, ◌∙◌, ap, subst, length-append, append_assoc}
use Rattle.std.proofs.lemmas.Bool.{cases_eq, eq-eqb, ne_eqb}
use Rattle.mailbox_rules.specs.Requests.{AuditWrite, BeginWrite, Command, Begins, Audits, Settles, Entry, Line, Request, SettleWrite, Write, entry, opening_of, operation_of, request_at}
use Rattle.mailbox_rules.specs.Tables.{Table, after_line, no_writes}
use Rattle.token_rules.specs.Tokens.{Answered, Challenged, Done, Lane, Oracle, Outcome, Requests, World, put}
use Rattle.token_rules.specs.Run.{Ask, Finish, asks, finished, goes_on, happens, is_refused, line_of}
use Rattle.token_rules.proofs.Cases.{acks, answers}
use Rattle.token_rules.proofs.Lists.{get_end}
use Rattle.token_rules.proofs.Finish.{put_at}
use Rattle.token_rules.proofs.Drain.{put_other}
use Rattle.replay_world.proofs.QuietRounds.{IsAt, Parts, after_deposit, audited, does_now, ended, now, settled, shown, short_finish, worked, write_finish}

pub record LaneRests (l : Lane) (r : Requests) : Type 0 where
  pub step : l.step ≡ 0
  pub leader : l.leader.serial ≤ l.serial
  pub helper : l.helper.serial ≤ l.serial
  pub waiting : r.waiting ≡ []
  pub sent : length r.sent ≡ l.serial

-- no command is outstanding, no client has a request, and no lane is foreign
pub record Rests (w : World) : Type 0 where
  pub none : length w.commands ≡ w.acknowledged
  pub carried : w.carried ≡ w.acknowledged
  pub wide : 0 < w.window
  pub free : (c : ℕ) → w.foreign c ≡ false
  pub lanes : (c : ℕ) → LaneRests (w.lanes c) (w.requests c)

-- the entries of a request, where the client got these boxes
abbrev pub entries_of : ℕ → ℕ → List ℕ → Request → List Entry
entries_of c s got (Write target message) =
    entry (line_of c s Begins) BeginWrite ∷ entry (line_of c s Audits) AuditWrite ∷ entry (line_of c s Settles) SettleWrite ∷ []
entries_of c s got r = entry (line_of c s (opening_of r)) (operation_of got (opening_of r) (Some r)) ∷ []

abbrev pub table_by : ℕ → ℕ → Table → List Entry → Table
table_by limit width t [] = t
table_by limit width t (e ∷ es) = table_by limit width (after_line limit width no_writes t e.line e.does) es

-- what a request leaves that is worked off
pub record Leaves (w v : World) (c : ℕ) (r : Request) : Type 0 where
  pub rests : Rests v
  pub limit : v.limit ≡ w.limit
  pub width : v.width ≡ w.width
  pub journal : v.journal ≡ w.journal ++ entries_of c ((w.lanes c).serial + 1) (w.table.got c) r
  pub table : v.table ≡ table_by w.limit w.width w.table (entries_of c ((w.lanes c).serial + 1) (w.table.got c) r)
  pub outcomes : v.outcomes ≡ w.outcomes ++ record { client = c; request = (w.requests c).told; told = Answered ((w.lanes c).serial + 1) (opening_of r) } ∷ []

put_elsewhere : {X : Type 0} (f : ℕ → X) (c : ℕ) (x : X) (d : ℕ) → d ≢ c → put f c x d ≡ f d
unfolding put
put_elsewhere f c x d n = let t : nat_eq d c ≡ false = ne_eqb d c n in rw t refl

module _ (o : Oracle) (w : World) (c : ℕ) (r : Request) (h : Rests w) (taken : is_refused w c r ≡ false) where
  abbrev s : ℕ
  s = (w.lanes c).serial + 1

  abbrev asks_for : Requests
  asks_for = record (w.requests c) { sent = (w.requests c).sent ++ r ∷ []; waiting = [] }

  abbrev base : World
  base = record w { requests = put w.requests c asks_for }

  abbrev first : Parts
  first = record {
    lane = record (w.lanes c) { step = 1; serial = s; opening = opening_of r };
    commands = w.commands;
    carried = w.carried;
    acknowledged = w.acknowledged;
    journal = w.journal;
    table = w.table;
    pool = w.pool;
  }

  was : LaneRests (w.lanes c) (w.requests c)
  was = h.lanes c

  asked_now : happens o w (Ask c r) ≡ now base c first
  unfolding happens asks goes_on
  asked_now =
      let idle : nat_eq (w.lanes c).step 0 ≡ true = eq-eqb _ _ was.step in
      rw (h.free c, idle) (ap (λ rs. goes_on w c (rs ++ r ∷ [])) was.waiting ∙ rw taken refl)

  -- the client's requests as they were asked
  asked_there : base.requests c ≡ asks_for
  asked_there = put_at w.requests c asks_for

  quiet : (base.requests c).waiting ≡ []
  quiet = ap (λ (x : Requests). x.waiting) asked_there

  its_request : request_at (λ d. (base.requests d).sent) c s ≡ Some r
  its_request =
      let n : (w.lanes c).serial + 1 - 1 ≡ length (w.requests c).sent = let e = was.sent in omega (arith, e) in
      ap (λ (x : Requests). slice_get x.sent (s - 1)) asked_there ∙ ap (slice_get ((w.requests c).sent ++ r ∷ [])) n ∙ get_end (w.requests c).sent r

  -- what is left rests
  rests_after : (k : Command) (p : Parts) → length p.commands ≡ p.acknowledged → p.carried ≡ p.acknowledged → p.lane.serial ≡ s
      → p.lane.leader.serial ≤ s → p.lane.helper.serial ≤ s → Rests (ended o base c s k (h.free c) p [])
  unfolding ended
  rests_after k p none carried serial leader helper = record {
    none = none;
    carried = carried;
    wide = h.wide;
    free = h.free;
    lanes = λ d. elim (cases_eq d c) [
      | inl e ↦
          let l : Lane = record p.lane { step = 0 } in
          let x : Requests = record (base.requests c) { waiting = []; told = (base.requests c).told + 1 } in
          let size = length-append (w.requests c).sent (r ∷ []) in
          let before = was.sent in
          let sent : length x.sent ≡ p.lane.serial = ap (λ (x : Requests). length x.sent) asked_there ∙ omega (arith, size, before, serial) in
          let here : LaneRests l x = record { step = refl; leader = omega (arith, leader, serial); helper = omega (arith, helper, serial); waiting = refl; sent = sent } in
          subst (λ d. LaneRests (put w.lanes c l d) (put base.requests c x d)) (sym e)
          (subst (λ y. LaneRests (put w.lanes c l c) y) (sym (put_at base.requests c x)) (subst (λ m. LaneRests m x) (sym (put_at w.lanes c l)) here))
      | inr n ↦
          let l : Lane = record p.lane { step = 0 } in
          let x : Requests = record (base.requests c) { waiting = []; told = (base.requests c).told + 1 } in
          let requests : put base.requests c x d ≡ w.requests d = put_elsewhere base.requests c x d n ∙ put_elsewhere w.requests c asks_for d n in
          subst (λ m. LaneRests m (put base.requests c x d)) (sym (put_other w.lanes c l d n)) (subst (λ y. LaneRests (w.lanes d) y) (sym requests) (h.lanes d))
    ];
  }

  abbrev k : Command
  k = opening_of r

  low : (w.lanes c).leader.serial < s
  low = let e = was.leader in omega (arith, e)

  lower : (w.lanes c).helper.serial < s
  lower = let e = was.helper in omega (arith, e)

  begins_at : IsAt s k first 1
  begins_at = record { none = h.none; carried = h.carried; at = refl; serial = refl; opening = refl }

  -- the client's commands do what it asked
  does_it : (p : Parts) (x : Command) → p.table.got c ≡ w.table.got c → does_now o base c s k (h.free c) p x ≡ operation_of (w.table.got c) x (Some r)
  unfolding does_now
  does_it p x e = ap (λ got. operation_of got x (request_at (λ d. (base.requests d).sent) c s)) e ∙ ap (operation_of (w.table.got c) x) its_request

  told_same : (os : List Outcome) → os ++ record { client = c; request = (base.requests c).told; told = Answered s k } ∷ [] ≡ os ++ record { client = c; request = (w.requests c).told; told = Answered s k } ∷ []
  told_same os = ap (λ (x : Requests). os ++ record { client = c; request = x.told; told = Answered s k } ∷ []) asked_there

  -- a request with one command
  pub short_leaves : ((v : World) → acks v c s k ≡ answers v c s Done) → entries_of c s (w.table.got c) r ≡ entry (line_of c s k) (operation_of (w.table.got c) k (Some r)) ∷ []
      → Leaves w (happens o (happens o w (Ask c r)) (Finish c)) c r
  unfolding happens ended worked after_deposit
  short_leaves answer entries =
      let q = worked o base c s k (h.free c) (after_deposit o base c s k (h.free c) first) Done in
      let v = ended o base c s k (h.free c) q [] in
      let does = does_it (after_deposit o base c s k (h.free c) first) k refl in
      let es : entry (line_of c s k) (does_now o base c s k (h.free c) (after_deposit o base c s k (h.free c) first) k) ∷ [] ≡ entries_of c s (w.table.got c) r =
      ap (λ d. entry (line_of c s k) d ∷ []) does ∙ sym entries in
      let size : length q.commands ≡ q.acknowledged = length-append w.commands (line_of c s k ∷ []) ∙ ap (λ n. n + 1) h.none in
      let all : finished o (happens o w (Ask c r)) c ≡ v = ap (λ v. finished o v c) asked_now ∙ short_finish o base c s k (h.free c) first begins_at low lower h.wide quiet answer in
      subst (λ v. Leaves w v c r) (sym all) (record {
        rests = rests_after k q size (ap (λ n. n + 1) h.carried) refl (omega arith) (omega arith);
        limit = refl;
        width = refl;
        journal = ap (λ es. w.journal ++ es) es;
        table = ap (λ es. table_by w.limit w.width w.table es) es;
        outcomes = told_same w.outcomes;
      })

-- a write
pub write_leaves : (o : Oracle) (w : World) (c target : ℕ) (message : List ℕ) (h : Rests w)
    → Leaves w (happens o (happens o w (Ask c (Write target message))) (Finish c)) c (Write target message)
unfolding happens ended worked after_deposit shown audited settled after_line acks is_refused does_now
write_leaves o w c target message h =
    let r = Write target message in
    let sn = (w.lanes c).serial + 1 in
    let b : World = record w { requests = put w.requests c (record (w.requests c) { sent = (w.requests c).sent ++ r ∷ []; waiting = [] }) } in
    let f = h.free c in
    let p0 = first o w c r h refl in
    let x : Line = line_of c sn Begins in
    let y : Line = line_of c sn Audits in
    let z : Line = line_of c sn Settles in
    let q0 = after_deposit o b c sn Begins f p0 in
    let q1 = worked o b c sn Begins f q0 Challenged in
    let q2 : Parts = record q1 { lane = record q1.lane { step = 3 } } in
    let q3 = shown o b c sn Begins f q2 in
    let q4 = audited o b c sn Begins f q3 in
    let q5 = settled o b c sn Begins f q4 in
    let v = ended o b c sn Begins f q5 [] in
    let d0 : does_now o b c sn Begins f q0 Begins ≡ BeginWrite = does_it o w c r h refl q0 Begins refl in
    let t1 : q1.table ≡ after_line w.limit w.width no_writes w.table x BeginWrite = ap (after_line w.limit w.width no_writes w.table x) d0 in
    let g1 : q1.table.got c ≡ w.table.got c = ap (λ (t : Table). t.got c) t1 in
    let d1 : does_now o b c sn Begins f q3 Audits ≡ AuditWrite = does_it o w c r h refl q3 Audits g1 in
    let t2 : q4.table ≡ q1.table = ap (after_line w.limit w.width no_writes q1.table y) d1 in
    let g2 : q4.table.got c ≡ w.table.got c = ap (λ (t : Table). t.got c) t2 ∙ g1 in
    let d2 : does_now o b c sn Begins f q4 Settles ≡ SettleWrite = does_it o w c r h refl q4 Settles g2 in
    let es : List Entry = entry x BeginWrite ∷ entry y AuditWrite ∷ entry z SettleWrite ∷ [] in
    let journal : q5.journal ≡ w.journal ++ es =
    simp append_assoc (ap (λ d. w.journal ++ entry x d ∷ entry y (does_now o b c sn Begins f q3 Audits) ∷ entry z (does_now o b c sn Begins f q4 Settles) ∷ []) d0
    ∙ ap (λ d. w.journal ++ entry x BeginWrite ∷ entry y d ∷ entry z (does_now o b c sn Begins f q4 Settles) ∷ []) d1
    ∙ ap (λ d. w.journal ++ entry x BeginWrite ∷ entry y AuditWrite ∷ entry z d ∷ []) d2) in
    let table : q5.table ≡ table_by w.limit w.width w.table es =
    ap (after_line w.limit w.width no_writes q4.table z) d2 ∙ ap (λ t. after_line w.limit w.width no_writes t z SettleWrite) (t2 ∙ t1) in
    let one = length-append w.commands (x ∷ []) in
    let more = length-append (w.commands ++ x ∷ []) (y ∷ z ∷ []) in
    let none = h.none in
    let size : length q5.commands ≡ q5.acknowledged = omega (arith, one, more, none) in
    let all : finished o (happens o w (Ask c r)) c ≡ v =
    ap (λ v. finished o v c) (asked_now o w c r h refl)
    ∙ write_finish o b c sn Begins f p0 (begins_at o w c r h refl) (low o w c r h refl) (lower o w c r h refl) h.wide (quiet o w c r h refl) (λ v. refl) refl in
    subst (λ v. Leaves w v c r) (sym all) (record {
      rests = rests_after o w c r h refl Begins q5 size (ap (λ n. n + 1 + 1 + 1) h.carried) refl (omega arith) (omega arith);
      limit = refl;
      width = refl;
      journal = journal;
      table = table;
      outcomes = told_same o w c r h refl w.outcomes;
    })
