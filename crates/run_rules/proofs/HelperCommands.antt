-- What a command that the helper carries out does, in both runs.
use Rattle.std.proofs.Common.{◌≡◌, ℕ, zero, suc, ◌<◌, ◌≤◌, ◌+◌, ◌-◌, ◌⊎◌, false, List, [], ◌∷◌, ◌++◌, length, drop, Some, refl, sym, ap, ◌∙◌, subst, inl, inr, arith, length-drop, length-append, slice_get, cond, true, Bool, filter}
use Rattle.std.proofs.lemmas.Bool.{cases_lt}
use Rattle.std.proofs.lemmas.List.{length-set}
use Rattle.frame_rules.specs.Frames.{PlainFrame, PlainBody}
use Rattle.frame_rules.specs.Spelling.{spelling, IsFrame}
use Rattle.mailbox_rules.specs.Requests.{Line, Entry, entry, lines_of, Operation}
use Rattle.token_rules.specs.Tokens as token
use Rattle.token_rules.specs.Tokens.{Token, World, Lane, put}
use Rattle.token_rules.specs.Rows.{carried_row}
use Rattle.token_rules.specs.Run.{carries}
use Rattle.token_rules.proofs.Lists.{lines_more}
use Rattle.frame_rules.specs.Whole.{on_link}
use Rattle.step_rules.specs.Boxes.{Box}
use Rattle.step_rules.specs.Helper.{Server, Row, with_row}
use Rattle.step_rules.specs.HelperCommands.{effect, carried_with, last}
use Rattle.run_rules.specs.Letters.{letter, JournalLine, ToLeaderLink, FrameWorld}
use Rattle.run_rules.specs.Run as frames
use Rattle.run_rules.specs.Book.{Book, begun_in, has_begun}
use Rattle.run_rules.specs.Values.{boxes_at}
use Rattle.run_rules.specs.Frames.{frame_of, line_value}
use Rattle.run_rules.specs.Follows.{IsLinked, HelperRow, HelperRowAt, AreReplies, IsLineOf, Journals, Follows}
use Rattle.run_rules.proofs.Basics.{put_here, put_other, put_part, pools_append}
use Rattle.run_rules.proofs.HelperClients.{rows_set}
use Rattle.run_rules.proofs.Counts.{begun_more}

-- ---- the kept replies with one more

drop_more : {X : Type 0} (n : ℕ) (xs ys : List X) → n ≤ length xs → drop n (xs ++ ys) ≡ drop n xs ++ ys
drop_more zero xs ys h = refl
drop_more (suc n) [] ys h = absurd (omega arith)
drop_more (suc n) (x ∷ xs) ys h = drop_more n xs ys (omega arith)

drop_twice : {X : Type 0} (i j : ℕ) (xs : List X) → drop j (drop i xs) ≡ drop (i + j) xs
drop_twice zero j xs = let e : 0 + j ≡ j = omega arith in ap (λ n. drop n xs) (sym e)
drop_twice (suc i) zero [] = let e : suc i + 0 ≡ suc i = omega arith in ap (λ n. drop n []) (sym e)
drop_twice (suc i) (suc j) [] =
    let e : suc i + suc j ≡ suc (i + suc j) = omega arith in ap (λ n. drop n []) (sym e)
drop_twice (suc i) j (x ∷ xs) =
    let e : suc i + j ≡ suc (i + j) = omega arith in drop_twice i j xs ∙ ap (λ n. drop n (x ∷ xs)) (sym e)

abbrev pub IsReply : Book → ℕ → Line → List ℕ → Type 0
IsReply b n x bytes =
    IsLinked b (letter ToLeaderLink bytes) ToLeaderLink n x (token.Replied n x) (b.foreign x.lane)

replies_more : (b : Book) (n : ℕ) (xs : List Line) (rs : List (List ℕ)) (x : Line) (bytes : List ℕ)
    → AreReplies b n xs rs
    → IsReply b (n + length rs) x bytes → AreReplies b n (xs ++ x ∷ []) (rs ++ bytes ∷ [])
replies_more b n [] [] x bytes h k =
    let e : n + 0 ≡ n = omega arith in (subst (λ m. IsReply b m x bytes) e k, tt)
replies_more b n (y ∷ xs) (r ∷ rs) x bytes h k =
    let e : n + suc (length rs) ≡ suc n + length rs = omega arith in
    (h.0, replies_more b (suc n) xs rs x bytes h.1 (subst (λ m. IsReply b m x bytes) e k))
replies_more b n [] (r ∷ rs) x bytes h k = absurd h
replies_more b n (y ∷ xs) [] x bytes h k = absurd h

replies_drop : (b : Book) (j n : ℕ) (xs : List Line) (rs : List (List ℕ)) → AreReplies b n xs rs
    → AreReplies b (n + j) (drop j xs) (drop j rs)
replies_drop b zero n xs rs h = let e : n + 0 ≡ n = omega arith in subst (λ m. AreReplies b m xs rs) (sym e) h
replies_drop b (suc j) n [] [] h = tt
replies_drop b (suc j) n (y ∷ xs) (r ∷ rs) h =
    let e : n + suc j ≡ suc n + j = omega arith in
    subst (λ m. AreReplies b m (drop j xs) (drop j rs)) (sym e) (replies_drop b j (suc n) xs rs h.1)
replies_drop b (suc j) n [] (r ∷ rs) h = absurd h
replies_drop b (suc j) n (y ∷ xs) [] h = absurd h

replies_length : (b : Book) (n : ℕ) (xs : List Line) (rs : List (List ℕ)) → AreReplies b n xs rs
    → length rs ≡ length xs
replies_length b n [] [] h = refl
replies_length b n (y ∷ xs) (r ∷ rs) h = ap suc (replies_length b (suc n) xs rs h.1)
replies_length b n [] (r ∷ rs) h = absurd h
replies_length b n (y ∷ xs) [] h = absurd h

pub few_replies : (b : Book) (k : ℕ) (lines : List Line) (rs : List (List ℕ)) → length lines ≡ k
    → AreReplies b (suc (k - length rs)) (drop (k - length rs) lines) rs → length rs ≤ k
few_replies b k lines rs count h =
    let e = replies_length b _ _ rs h ∙ length-drop (k - length rs) lines in omega (arith, e, count)

pub lines_length : (es : List Entry) → length (lines_of es) ≡ length es
lines_length [] = refl
lines_length (e ∷ es) = ap suc (lines_length es)

-- all of them from a number on, with the next, cut to the window
pub kept_more : (b : Book) (window k : ℕ) (lines : List Line) (x : Line) (rs : List (List ℕ)) (bytes : List ℕ)
    → length lines ≡ k → length rs ≤ k → length rs ≤ window → 0 < window
    → AreReplies b (suc (k - length rs)) (drop (k - length rs) lines) rs → IsReply b (k + 1) x bytes
    → AreReplies b (suc (k + 1 - length (last window (rs ++ bytes ∷ [])))) (drop (k + 1 - length (last window (rs ++ bytes ∷ []))) (lines ++ x ∷ [])) (last window (rs ++ bytes ∷ []))
kept_more b window k lines x rs bytes count few most room h is =
    let m = length rs in
    let all = length-append rs (bytes ∷ []) in
    let j = length (rs ++ bytes ∷ []) - window in
    let left : length (last window (rs ++ bytes ∷ [])) ≡ m + 1 - j = length-drop j (rs ++ bytes ∷ []) ∙ ap (λ n. n - j) all in
    let at : suc (k - m) + m ≡ k + 1 = omega (arith, few) in
    let one = replies_more b (suc (k - m)) (drop (k - m) lines) rs x bytes h (subst (λ n. IsReply b n x bytes) (sym at) is) in
    let cut = replies_drop b j (suc (k - m)) (drop (k - m) lines ++ x ∷ []) (rs ++ bytes ∷ []) one in
    let place : k + 1 - length (last window (rs ++ bytes ∷ [])) ≡ k - m + j = omega (arith, left, few, most, all, room) in
    let number : suc (k - m) + j ≡ suc (k - m + j) = omega arith in
    let there : drop j (drop (k - m) lines ++ x ∷ []) ≡ drop (k - m + j) (lines ++ x ∷ []) = ap (drop j) (sym (drop_more (k - m) lines (x ∷ []) (omega (arith, count)))) ∙ drop_twice (k - m) j (lines ++ x ∷ []) in
    rw (place, sym number, sym there) cut

pub kept_count : (window k : ℕ) (rs : List (List ℕ)) (bytes : List ℕ) → length rs ≤ window → 0 < window
    → (length rs ≡ window) ⊎ (length rs ≡ k)
    → ((length (last window (rs ++ bytes ∷ [])) ≡ window) ⊎ (length (last window (rs ++ bytes ∷ [])) ≡ k + 1)) × (length (last window (rs ++ bytes ∷ [])) ≤ window)
kept_count window k rs bytes most room h =
    let all = length-append rs (bytes ∷ []) in
    let j = length (rs ++ bytes ∷ []) - window in
    let left : length (last window (rs ++ bytes ∷ [])) ≡ length (rs ++ bytes ∷ []) - j = length-drop j (rs ++ bytes ∷ []) in (
      elim h [
        | inl e ↦ inl (omega (arith, e, left, all))
        | inr e ↦ elim (cases_lt (length rs) window) [
          | inl l ↦ inr (omega (arith, e, left, all, l))
          | inr l ↦ inl (omega (arith, most, left, all, l))
        ]
      ],
      omega (arith, left, all),
    )

-- ---- the journal with one more

pub journal_more : (b : Book) (i : ℕ) (es : List Entry) (ls : List JournalLine) (e : Entry) (l : JournalLine)
    → Journals b i es ls → IsLineOf b (b.foreign e.line.lane) (i + length es) e l
    → Journals b i (es ++ e ∷ []) (ls ++ l ∷ [])
journal_more b i [] [] e l h k =
    let n : i + 0 ≡ i = omega arith in (subst (λ m. IsLineOf b (b.foreign e.line.lane) m e l) n k, tt)
journal_more b i (x ∷ es) (y ∷ ls) e l h k =
    let n : i + suc (length es) ≡ suc i + length es = omega arith in
    (h.0, journal_more b (suc i) es ls e l h.1 (subst (λ m. IsLineOf b (b.foreign e.line.lane) m e l) n k))
journal_more b i [] (y ∷ ls) e l h k = absurd h
journal_more b i (x ∷ es) [] e l h k = absurd h

-- ---- draws

pub draws_more : (es : List Entry) (e : Entry) → begun_in (es ++ e ∷ []) ≡ begun_in es + cond (has_begun e.does) 1 0
draws_more [] e = by_begun (has_begun e.does)
  where
    by_begun : (t : Bool) → length (cond t (e ∷ []) []) ≡ 0 + cond t 1 0
    by_begun true = refl
    by_begun false = refl
draws_more (x ∷ es) e = by_first (has_begun x.does) (draws_more es e)
  where
    by_first : (t : Bool) → begun_in (es ++ e ∷ []) ≡ begun_in es + cond (has_begun e.does) 1 0
        → length (cond t (x ∷ filter (λ e. has_begun e.does) (es ++ e ∷ [])) (filter (λ e. has_begun e.does) (es ++ e ∷ [])))
        ≡ length (cond t (x ∷ filter (λ e. has_begun e.does) es) (filter (λ e. has_begun e.does) es)) + cond (has_begun e.does) 1 0
    by_first true k = omega (arith, k)
    by_first false k = k

-- what begins no write takes none
pub draws_same : (es : List Entry) (e : Entry) → has_begun e.does ≡ false → begun_in es ≡ begun_in (es ++ e ∷ [])
draws_same es e none =
    let zero : begun_in es ≡ begun_in es + 0 = omega arith in
    zero ∙ ap (λ t. begun_in es + cond t 1 0) (sym none) ∙ sym (draws_more es e)

-- ---- a command is carried out

-- what it leaves of the helper but for the link
abbrev pub left_by : Server → ℕ → Row → List Box → ℕ → Server
left_by h c r boxes draws = record (with_row h c r) { boxes = boxes; draws = draws }

pub carried_follows : (b : Book) (f : FrameWorld) (w : World) (x : Line) (does : Operation) (g : PlainFrame) (r : Row) (boxes : List Box) (draws : ℕ) (body : PlainBody)
    → Follows b f w → b.foreign x.lane ≡ false → x.lane < b.settings.lanes → 0 < b.settings.window
    → length w.journal ≡ w.carried → slice_get b.entries w.carried ≡ Some (entry x does)
    → HelperRow b x.lane r (carried_row x) → boxes ≡ boxes_at b 1 (w.carried + 1)
    → draws ≡ begun_in (w.journal ++ entry x does ∷ [])
    → frame_of b (token.Replied (w.carried + 1) x) ≡ Some (on_link g g.link body)
    → IsFrame (on_link g g.link body)
    → frames.journal_line g (on_link g g.link body) ≡ line_value b w.carried x
    → Follows b (frames.to_helper_link f (Some g) (carried_with f.helper g (effect (left_by f.helper.server x.lane r boxes draws) body))) (carries w x (carried_row x) does)
unfolding frames.helper_answers
carried_follows b f w x does g r boxes draws body h hon low room count entered hr boxed drawn is fr told =
    let c = x.lane in
    let lane : Lane = record (w.lanes c) { helper = carried_row x } in
    let new = put w.lanes c lane in
    let hh = h.helper in
    let la = h.leader in
    let reply = on_link g g.link body in
    let window = ap (λ s. s.window) hh.settings in
    let one : IsReply b (w.carried + 1) x (spelling reply) = rw hon (record { lane = low; frame = reply; is = is; spelled = record { at = refl; bytes = refl; is_frame = fr } }) in
    let lines : length (lines_of w.journal) ≡ w.carried = lines_length w.journal ∙ count in
    let few : length f.helper.replies ≤ w.carried = few_replies b w.carried (lines_of w.journal) f.helper.replies lines hh.kept in
    let kept = kept_more b b.settings.window w.carried (lines_of w.journal) x f.helper.replies (spelling reply) lines few hh.most room hh.kept one in
    let counts = kept_count b.settings.window w.carried f.helper.replies (spelling reply) hh.most room hh.window in
    record {
      limit = h.limit;
      width = h.width;
      window = h.window;
      foreign = h.foreign;
      helper = record {
        settings = hh.settings;
        seed = hh.seed;
        count = length-set f.helper.server.rows c r ∙ hh.count;
        rows = rows_set b f.helper.server.rows w.lanes new c r (carried_row x) hh.count low hh.rows
            (ap (λ l. l.helper) (put_here w.lanes c lane)) (λ d n. ap (λ l. l.helper) (put_other w.lanes c lane d n))
            (subst (λ t. HelperRowAt b c t r (carried_row x)) (sym hon) hr);
        boxes = boxed;
        draws = drawn;
        number = ap (λ n. n + 1) hh.number;
        kept = rw (window, lines_more w.journal (entry x does)) kept;
        window = rw window counts.0;
        most = rw window counts.1;
        begun = begun_more b f.helper.server.rows w.carried r (entry x does) hh.count low entered hh.begun (λ foreign. absurd (cc (sym hon ∙ foreign)));
      };
      leader = record {
        settings = la.settings;
        seed = la.seed;
        count = la.count;
        rows = λ d there. rw (put_part (λ l. l.leader) w.lanes c lane refl d) (la.rows d there);
        boxes = la.boxes;
        draws = la.draws;
        next = la.next;
        outstanding = la.outstanding;
        issued = la.issued;
        foreign = la.foreign;
        begun = la.begun;
        awaited = la.awaited;
      };
      clients = λ d. rw (put_part (λ l. l.step) w.lanes c lane refl d, put_part (λ l. l.serial) w.lanes c lane refl d) (h.clients d);
      waiting = h.waiting;
      told = h.told;
      pool = pools_append b w.pool _ f.pool _ h.pool (one, tt);
      journal = journal_more b 0 w.journal f.journal (entry x does) _ h.journal (rw hon (told ∙ ap (λ n. line_value b n x) (let e : 0 + length w.journal ≡ w.carried = omega (arith, count) in sym e)));
      outcomes = h.outcomes;
    }
