-- A reply to a foreign lane's command is applied, in both runs: its lane is answered, or the settle is issued.
use Rattle.std.proofs.Common.{◌≡◌, ℕ, suc, ◌<◌, ◌≤◌, ◌+◌, ◌-◌, true, List, [], ◌∷◌, ◌++◌, length, drop, Some, slice_get, slice_set, slice_index_or, refl, sym, ap, ◌∙◌, subst, inl, inr, arith, length-append, length-drop}
use Rattle.std.proofs.lemmas.Bool.{cases_eq}
use Rattle.std.proofs.lemmas.List.{length-set, get_or-set_same, get_or-set_other}
use Rattle.frame_rules.specs.Frames.{PlainFrame, PlainBody}
use Rattle.frame_rules.specs.Spelling.{IsFrame}
use Rattle.mailbox_rules.specs.Requests.{Command, Audits, Settles, Line}
use Rattle.token_rules.specs.Tokens as token
use Rattle.token_rules.specs.Tokens.{World, Lane, put}
use Rattle.token_rules.specs.Run.{line_of, issues, sends, with_leader, acknowledges}
use Rattle.step_rules.specs.Boxes.{Box}
use Rattle.step_rules.specs.Leader.{Row, idle}
use Rattle.step_tokens.specs.LeaderRows.{bare}
use Rattle.run_rules.specs.Letters.{FrameWorld}
use Rattle.run_rules.specs.Run as frames
use Rattle.run_rules.specs.Book.{Book}
use Rattle.run_rules.specs.Values.{boxes_at}
use Rattle.run_rules.specs.Frames.{frame_with}
use Rattle.run_rules.specs.Follows.{ForeignLeaderRow, LeaderRowAt, ForeignOrder, IsCommand, AreCommands, IsUnissued, StillToIssue, ForeignCommands, WasBegun, Awaits, Follows}
use Rattle.run_rules.proofs.Basics.{put_here, put_other, put_part, pools_append}
use Rattle.run_rules.proofs.ForeignLeaderCounts.{EntryOf, was_begun_more, not_foreign, awaited_other, awaited_issue, oldest_alone}
use Rattle.run_rules.proofs.ForeignLeaderTurns.{foreign_next}
use Rattle.run_rules.proofs.LeaderClients.{rows_set, issued_set, issued_more, commands_more, drop_more}
use Rattle.run_rules.proofs.LeaderReplies.{applied, drop_next, commands_next}
use Rattle.run_rules.proofs.WriteLeaderSettles.{settles_with}
use Rattle.run_rules.proofs.WriteLeaderSubmits.{undrawn_same}

-- ---- the commands of foreign lanes where a row of one changes

foreign_stays : (b : Book) (rows : List Row) (commands : List Line) (c : ℕ) (r : Row) → length rows ≡ b.settings.lanes
    → c < b.settings.lanes → (slice_index_or rows c idle).serial ≤ r.serial → StillToIssue commands c r.serial r.stage
    → ForeignCommands b rows commands → ForeignCommands b (slice_set rows c r) commands
foreign_stays b rows commands c r count low later still h = record {
  once = h.once;
  there = λ k x e other. before x (h.there k x e other);
  still = λ d there other. elim (cases_eq d c) [
    | inl e ↦
        let got : slice_index_or (slice_set rows c r) d idle ≡ r = ap (λ d. slice_index_or (slice_set rows c r) d idle) e ∙ get_or-set_same rows c r idle (omega (arith, count, low)) in
        rw got (subst (λ d. StillToIssue commands d r.serial r.stage) (sym e) still)
    | inr n ↦
        let got : slice_index_or (slice_set rows c r) d idle ≡ slice_index_or rows d idle = get_or-set_other rows c d r idle n in
        rw got (h.still d there other)
  ];
}
  where
    before : (x : Line) → (x.lane < b.settings.lanes) × (x.serial ≤ (slice_index_or rows x.lane idle).serial)
        → (x.lane < b.settings.lanes) × (x.serial ≤ (slice_index_or (slice_set rows c r) x.lane idle).serial)
    before x k = elim (cases_eq x.lane c) [
      | inl e ↦
          let got : slice_index_or (slice_set rows c r) x.lane idle ≡ r = ap (λ d. slice_index_or (slice_set rows c r) d idle) e ∙ get_or-set_same rows c r idle (omega (arith, count, low)) in
          let same : (slice_index_or rows x.lane idle).serial ≡ (slice_index_or rows c idle).serial = ap (λ d. (slice_index_or rows d idle).serial) e in
          let l = k.1 in
          rw got (k.0, omega (arith, l, same, later))
      | inr n ↦
          let got : slice_index_or (slice_set rows c r) x.lane idle ≡ slice_index_or rows x.lane idle = get_or-set_other rows c x.lane r idle n in
          rw got k
    ]

-- what is known of the oldest command
pub record Oldest (b : Book) (f : FrameWorld) (w : World) (c s : ℕ) (y : Command) : Type 0 where
  pub foreign : b.foreign c ≡ true
  pub low : c < b.settings.lanes
  pub there : slice_get w.commands w.acknowledged ≡ Some (line_of c s y)
  pub few : w.acknowledged < length w.commands
  pub entered : EntryOf b w.acknowledged c

-- the lane is answered
pub foreign_applied_follows : (b : Book) (f : FrameWorld) (w : World) (c s moment : ℕ) (y : Command) (r : Row) (boxes : List Box) (body : PlainBody)
    → Follows b f w → Oldest b f w c s y → ForeignLeaderRow b c r (bare r) → r.serial ≡ s → StillToIssue w.commands c r.serial r.stage
    → WasBegun b (w.acknowledged + 1) c r.serial r.stage → boxes ≡ boxes_at b 0 (w.acknowledged + 1) → IsFrame (frame_with c s 0 body)
    → Follows b (frames.to_leader_link f (applied f.leader c r boxes body s)) (sends (with_leader (acknowledges (record w { moment = moment })) c (bare r)) (token.Foreign c))
foreign_applied_follows b f w c s moment y r boxes body h k hr serial still begun boxed fr =
    let lane : Lane = record (w.lanes c) { leader = bare r } in
    let fresh = put w.lanes c lane in
    let hh = h.helper in
    let la = h.leader in
    let low = k.low in
    let foreign = k.foreign in
    let n : suc (w.acknowledged + 1) ≡ suc (suc w.acknowledged) = omega arith in
    let mine = la.awaited w.acknowledged (line_of c s y) (omega arith) k.there foreign in
    let same = mine.0 in
    record {
      limit = h.limit;
      width = h.width;
      window = h.window;
      foreign = h.foreign;
      helper = record {
        settings = hh.settings;
        seed = hh.seed;
        count = hh.count;
        rows = λ d there. rw (put_part (λ l. l.helper) w.lanes c lane refl d) (hh.rows d there);
        boxes = hh.boxes;
        draws = hh.draws;
        number = hh.number;
        kept = hh.kept;
        window = hh.window;
        most = hh.most;
        begun = hh.begun;
      };
      leader = record {
        settings = la.settings;
        seed = la.seed;
        count = length-set f.leader.rows c r ∙ la.count;
        rows = rows_set b f.leader.rows w.lanes fresh c r (bare r) la.count low la.rows
            (ap (λ l. l.leader) (put_here w.lanes c lane)) (λ d n. ap (λ l. l.leader) (put_other w.lanes c lane d n))
            (subst (λ t. LeaderRowAt b c t r (bare r)) (sym foreign) hr);
        boxes = boxed;
        draws = la.draws;
        next = la.next;
        outstanding = rw (n, drop_next w.acknowledged w.commands) (commands_next b (suc w.acknowledged) (drop w.acknowledged w.commands) f.leader.outstanding la.outstanding);
        issued = issued_set b f.leader.rows w.commands w.commands c r la.count low la.issued (λ hon. absurd (not_foreign b c hon foreign)) (λ d n stage other k. k);
        foreign = foreign_stays b f.leader.rows w.commands c r la.count low (omega (arith, same, serial)) still la.foreign;
        begun = was_begun_more b f.leader.rows w.acknowledged c r la.count low k.entered la.begun (λ t. begun);
        awaited = awaited_other b f.leader.rows w.acknowledged (w.acknowledged + 1) c r w.commands (omega arith)
            (oldest_alone b f.leader.rows w.acknowledged (line_of c s y) w.commands foreign la.foreign la.awaited k.there) la.awaited;
      };
      clients = λ d. rw (put_part (λ l. l.step) w.lanes c lane refl d, put_part (λ l. l.serial) w.lanes c lane refl d) (h.clients d);
      waiting = h.waiting;
      told = h.told;
      pool = pools_append b w.pool (token.Foreign c ∷ []) f.pool _ h.pool
          (record { frame = frame_with c s 0 body; why = inl foreign; lane = refl; spelled = record { at = refl; bytes = refl; is_frame = fr } }, tt);
      journal = h.journal;
      outcomes = h.outcomes;
    }

-- the settle is issued
pub foreign_settles_follow : (b : Book) (f : FrameWorld) (w : World) (c s moment : ℕ) (r : Row) (command : PlainFrame)
    → Follows b f w → Oldest b f w c s Audits → ForeignLeaderRow b c r (bare r) → r.serial ≡ s
    → IsUnissued w.commands c s Settles → StillToIssue (w.commands ++ line_of c s Settles ∷ []) c r.serial r.stage
    → WasBegun b (w.acknowledged + 1) c r.serial r.stage → Awaits Settles r.stage
    → boxes_at b 0 (w.acknowledged + 1) ≡ boxes_at b 0 w.acknowledged
    → command.link ≡ length w.commands + 1 → command.lane ≡ c → command.serial ≡ s
    → ForeignOrder b (length w.commands) (line_of c s Settles) command.body → IsFrame command
    → Follows b (frames.to_leader_link f (settles_with f.leader c r command)) (issues (with_leader (acknowledges (record w { moment = moment })) c (bare r)) (line_of c s Settles))
foreign_settles_follow b f w c s moment r command h k hr serial unissued still begun waits boxed link lane_is serial_is order fr =
    let line = line_of c s Settles in
    let lane : Lane = record (w.lanes c) { leader = bare r } in
    let fresh = put w.lanes c lane in
    let hh = h.helper in
    let la = h.leader in
    let low = k.low in
    let few = k.few in
    let foreign = k.foreign in
    let next = la.next in
    let j = w.acknowledged + 1 in
    let n : suc (w.acknowledged + 1) ≡ suc (suc w.acknowledged) = omega arith in
    let mine = la.awaited w.acknowledged (line_of c s Audits) (omega arith) k.there foreign in
    let same = mine.0 in
    let out : AreCommands b (suc j) (drop j w.commands) (drop 1 f.leader.outstanding) =
    rw (n, drop_next w.acknowledged w.commands) (commands_next b (suc w.acknowledged) (drop w.acknowledged w.commands) f.leader.outstanding la.outstanding) in
    let number : suc j + length (drop j w.commands) ≡ length w.commands + 1 = let e = length-drop j w.commands in omega (arith, e, few) in
    let at : length w.commands + 1 - 1 ≡ length w.commands = omega arith in
    let ours : ForeignOrder b (length w.commands + 1 - 1) line command.body = subst (λ i. ForeignOrder b i line command.body) (sym at) order in
    let one : IsCommand b (b.foreign c) (suc j + length (drop j w.commands)) line command = rw (foreign, number) (link, lane_is, serial_is, ours) in
    let more : length (w.commands ++ line ∷ []) ≡ length w.commands + 1 = length-append w.commands (line ∷ []) in
    record {
      limit = h.limit;
      width = h.width;
      window = h.window;
      foreign = h.foreign;
      helper = record {
        settings = hh.settings;
        seed = hh.seed;
        count = hh.count;
        rows = λ d there. rw (put_part (λ l. l.helper) w.lanes c lane refl d) (hh.rows d there);
        boxes = hh.boxes;
        draws = hh.draws;
        number = hh.number;
        kept = hh.kept;
        window = hh.window;
        most = hh.most;
        begun = hh.begun;
      };
      leader = record {
        settings = la.settings;
        seed = la.seed;
        count = length-set f.leader.rows c r ∙ la.count;
        rows = rows_set b f.leader.rows w.lanes fresh c r (bare r) la.count low la.rows
            (ap (λ l. l.leader) (put_here w.lanes c lane)) (λ d n. ap (λ l. l.leader) (put_other w.lanes c lane d n))
            (subst (λ t. LeaderRowAt b c t r (bare r)) (sym foreign) hr);
        boxes = la.boxes ∙ sym boxed;
        draws = la.draws ∙ sym (undrawn_same w.commands line refl);
        next = ap (λ n. n + 1) next ∙ ap (λ n. n + 1) (sym more);
        outstanding = rw (drop_more j w.commands (line ∷ []) (omega (arith, few))) (commands_more b (suc j) (drop j w.commands) (drop 1 f.leader.outstanding) line command out one fr low);
        issued = issued_set b f.leader.rows w.commands (w.commands ++ line ∷ []) c r la.count low la.issued (λ hon. absurd (not_foreign b c hon foreign))
            (λ d n stage other k. issued_more w.commands line d n stage other k);
        foreign = foreign_next b f.leader.rows w.commands c s Settles r la.count low foreign serial (omega (arith, same)) unissued still la.foreign;
        begun = was_begun_more b f.leader.rows w.acknowledged c r la.count low k.entered la.begun (λ t. begun);
        awaited = awaited_issue b f.leader.rows j c r w.commands line la.count low refl serial waits
            (awaited_other b f.leader.rows w.acknowledged j c r w.commands (omega arith)
            (oldest_alone b f.leader.rows w.acknowledged (line_of c s Audits) w.commands foreign la.foreign la.awaited k.there) la.awaited);
      };
      clients = λ d. rw (put_part (λ l. l.step) w.lanes c lane refl d, put_part (λ l. l.serial) w.lanes c lane refl d) (h.clients d);
      waiting = h.waiting;
      told = h.told;
      pool = pools_append b w.pool _ f.pool _ h.pool (rw foreign (record { frame = command; link = link; lane = lane_is; serial = serial_is; body = ours; spelled = record { at = refl; bytes = refl; is_frame = fr } }), tt);
      journal = h.journal;
      outcomes = h.outcomes;
    }
