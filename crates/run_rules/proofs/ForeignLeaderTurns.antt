-- A foreign lane's frame comes to the leader, in both runs: its command is issued, or it is answered alone.
use Rattle.std.proofs.Common.{◌≡◌, ℕ, suc, ◌<◌, ◌≤◌, ◌+◌, ◌-◌, true, List, [], ◌∷◌, ◌++◌, length, drop, Some, slice_set, slice_index_or, refl, sym, ap, ◌∙◌, subst, inl, inr, arith, length-append, length-drop}
use Rattle.std.proofs.lemmas.Bool.{cases_eq}
use Rattle.std.proofs.lemmas.List.{length-set, get_or-set_same, get_or-set_other}
use Rattle.frame_rules.specs.Frames.{PlainFrame}
use Rattle.frame_rules.specs.Spelling.{IsFrame}
use Rattle.mailbox_rules.specs.Requests.{Command, Line}
use Rattle.token_rules.specs.Tokens.{World, Lane, put}
use Rattle.token_rules.specs.Run.{line_of, issues, with_leader}
use Rattle.token_rules.proofs.Lists.{get_more}
use Rattle.step_rules.specs.Leader.{Row, idle, row_at}
use Rattle.step_tokens.specs.LeaderRows.{bare}
use Rattle.run_rules.specs.Letters.{FrameWorld}
use Rattle.run_rules.specs.Run as frames
use Rattle.run_rules.specs.Book.{Book, drawn_in}
use Rattle.run_rules.specs.Follows.{ForeignLeaderRow, LeaderRowAt, ForeignOrder, IsCommand, IsUnissued, StillToIssue, ForeignCommands, WasBegun, Awaits, Follows}
use Rattle.run_rules.proofs.Basics.{put_here, put_other, put_part, pools_append}
use Rattle.run_rules.proofs.ForeignCommands.{still_more}
use Rattle.run_rules.proofs.ForeignLeaderCounts.{was_begun_set, not_foreign, awaited_other, awaited_issue}
use Rattle.run_rules.proofs.LeaderClients.{rows_set, issued_set, issued_more, commands_more, drop_more, issued_with}

-- ---- a foreign lane's row changes, and its next command is issued

pub foreign_next : (b : Book) (rows : List Row) (commands : List Line) (c s : ℕ) (y : Command) (r : Row) → length rows ≡ b.settings.lanes
    → c < b.settings.lanes → b.foreign c ≡ true → r.serial ≡ s → (slice_index_or rows c idle).serial ≤ s
    → IsUnissued commands c s y → StillToIssue (commands ++ line_of c s y ∷ []) c r.serial r.stage
    → ForeignCommands b rows commands → ForeignCommands b (slice_set rows c r) (commands ++ line_of c s y ∷ [])
foreign_next b rows commands c s y r count low foreign serial later new still h = record {
  once = λ i k x e f other. elim (get_more commands (line_of c s y) i x e) [
    | inl m ↦ elim (get_more commands (line_of c s y) k x f) [
      | inl n ↦ h.once i k x m.1 n.1 other
      | inr n ↦ absurd (new i (m.1 ∙ ap Some (sym n.1)))
    ]
    | inr m ↦ elim (get_more commands (line_of c s y) k x f) [
      | inl n ↦ absurd (new k (n.1 ∙ ap Some (sym m.1)))
      | inr n ↦ m.0 ∙ sym n.0
    ]
  ];
  there = λ k x e other. elim (get_more commands (line_of c s y) k x e) [
    | inl m ↦ before x (h.there k x m.1 other)
    | inr m ↦
        let lane : c ≡ x.lane = ap (λ (z : Line). z.lane) m.1 in
        let mine : s ≡ x.serial = ap (λ (z : Line). z.serial) m.1 in
        let got : slice_index_or (slice_set rows c r) x.lane idle ≡ r = ap (λ d. slice_index_or (slice_set rows c r) d idle) (sym lane) ∙ get_or-set_same rows c r idle (omega (arith, count, low)) in
        rw got (omega (arith, lane, low), omega (arith, mine, serial))
  ];
  still = λ d there other. elim (cases_eq d c) [
    | inl e ↦
        let got : slice_index_or (slice_set rows c r) d idle ≡ r = ap (λ d. slice_index_or (slice_set rows c r) d idle) e ∙ get_or-set_same rows c r idle (omega (arith, count, low)) in
        rw got (subst (λ d. StillToIssue (commands ++ line_of c s y ∷ []) d r.serial r.stage) (sym e) still)
    | inr n ↦
        let got : slice_index_or (slice_set rows c r) d idle ≡ slice_index_or rows d idle = get_or-set_other rows c d r idle n in
        rw got (still_more commands (line_of c s y) d _ _ n (h.still d there other))
  ];
}
  where
    before : (x : Line) → (x.lane < b.settings.lanes) × (x.serial ≤ (slice_index_or rows x.lane idle).serial)
        → (x.lane < b.settings.lanes) × (x.serial ≤ (slice_index_or (slice_set rows c r) x.lane idle).serial)
    before x k = elim (cases_eq x.lane c) [
      | inl e ↦
          let got : slice_index_or (slice_set rows c r) x.lane idle ≡ r = ap (λ d. slice_index_or (slice_set rows c r) d idle) e ∙ get_or-set_same rows c r idle (omega (arith, count, low)) in
          let same : (slice_index_or rows x.lane idle).serial ≡ (slice_index_or rows c idle).serial = ap (λ d. (slice_index_or rows d idle).serial) e in
          let l = k.1 in
          rw got (k.0, omega (arith, l, same, later, serial))
      | inr n ↦
          let got : slice_index_or (slice_set rows c r) x.lane idle ≡ slice_index_or rows x.lane idle = get_or-set_other rows c x.lane r idle n in
          rw got k
    ]

pub foreign_issues_follow : (b : Book) (f : FrameWorld) (w : World) (c s draws moment : ℕ) (y : Command) (r : Row) (command : PlainFrame)
    → Follows b f w → b.foreign c ≡ true → c < b.settings.lanes → w.acknowledged ≤ length w.commands
    → ForeignLeaderRow b c r (bare r) → r.serial ≡ s → (row_at f.leader c).serial ≤ s → IsUnissued w.commands c s y
    → StillToIssue (w.commands ++ line_of c s y ∷ []) c r.serial r.stage → WasBegun b w.acknowledged c r.serial r.stage
    → ((z : Command) → Awaits z (row_at f.leader c).stage → ⊥) → Awaits y r.stage
    → draws ≡ drawn_in (w.commands ++ line_of c s y ∷ [])
    → command.link ≡ length w.commands + 1 → command.lane ≡ c → command.serial ≡ s
    → ForeignOrder b (length w.commands) (line_of c s y) command.body → IsFrame command
    → Follows b (frames.to_leader f (issued_with f.leader c r draws command)) (issues (with_leader (record w { moment = moment }) c (bare r)) (line_of c s y))
foreign_issues_follow b f w c s draws moment y r command h foreign low few hr serial later new still begun free waits drawn link lane_is serial_is order fr =
    let line = line_of c s y in
    let lane : Lane = record (w.lanes c) { leader = bare r } in
    let fresh = put w.lanes c lane in
    let hh = h.helper in
    let la = h.leader in
    let next = la.next in
    let number : suc w.acknowledged + length (drop w.acknowledged w.commands) ≡ length w.commands + 1 = let e = length-drop w.acknowledged w.commands in omega (arith, e, few) in
    let at : length w.commands + 1 - 1 ≡ length w.commands = omega arith in
    let mine : ForeignOrder b (length w.commands + 1 - 1) line command.body = subst (λ i. ForeignOrder b i line command.body) (sym at) order in
    let one : IsCommand b (b.foreign c) (suc w.acknowledged + length (drop w.acknowledged w.commands)) line command =
    rw (foreign, number) (link, lane_is, serial_is, mine) in
    let more : length (w.commands ++ line ∷ []) ≡ length w.commands + 1 = length-append w.commands (line ∷ []) in
    record {
      limit = h.limit;
      width = h.width;
      window = h.window;
      foreign = h.foreign;
      helper = record {
        settings = hh.settings;
        seed = hh.seed;
        count = hh.count;
        rows = λ d there. rw (put_part (λ l. l.helper) w.lanes c lane refl d) (hh.rows d there);
        boxes = hh.boxes;
        draws = hh.draws;
        number = hh.number;
        kept = hh.kept;
        window = hh.window;
        most = hh.most;
        begun = hh.begun;
      };
      leader = record {
        settings = la.settings;
        seed = la.seed;
        count = length-set f.leader.rows c r ∙ la.count;
        rows = rows_set b f.leader.rows w.lanes fresh c r (bare r) la.count low la.rows
            (ap (λ l. l.leader) (put_here w.lanes c lane)) (λ d n. ap (λ l. l.leader) (put_other w.lanes c lane d n))
            (subst (λ t. LeaderRowAt b c t r (bare r)) (sym foreign) hr);
        boxes = la.boxes;
        draws = drawn;
        next = ap (λ n. n + 1) next ∙ ap (λ n. n + 1) (sym more);
        outstanding = rw (drop_more w.acknowledged w.commands (line ∷ []) few) (commands_more b (suc w.acknowledged) (drop w.acknowledged w.commands) f.leader.outstanding line command la.outstanding one fr low);
        issued = issued_set b f.leader.rows w.commands (w.commands ++ line ∷ []) c r la.count low la.issued (λ hon. absurd (not_foreign b c hon foreign))
            (λ d n stage other k. issued_more w.commands line d n stage other k);
        foreign = foreign_next b f.leader.rows w.commands c s y r la.count low foreign serial later new still la.foreign;
        begun = was_begun_set b f.leader.rows w.acknowledged c r la.count low la.begun (λ t. begun);
        awaited = awaited_issue b f.leader.rows w.acknowledged c r w.commands line la.count low refl serial waits
            (awaited_other b f.leader.rows w.acknowledged w.acknowledged c r w.commands (omega arith)
            (λ k x there e same. free x.command (subst (λ d. Awaits x.command (slice_index_or f.leader.rows d idle).stage) same (la.awaited k x there e (ap b.foreign same ∙ foreign)).1))
            la.awaited);
      };
      clients = λ d. rw (put_part (λ l. l.step) w.lanes c lane refl d, put_part (λ l. l.serial) w.lanes c lane refl d) (h.clients d);
      waiting = h.waiting;
      told = h.told;
      pool = pools_append b w.pool _ f.pool _ h.pool (rw foreign (record { frame = command; link = link; lane = lane_is; serial = serial_is; body = mine; spelled = record { at = refl; bytes = refl; is_frame = fr } }), tt);
      journal = h.journal;
      outcomes = h.outcomes;
    }
