-- One slot changes, and so does one row.
use Rattle.std.proofs.Common.{◌≡◌, ◌<◌, ◌≤◌, ℕ, ◌^◌, List, length, take, drop, ◌++◌, append-nil, get_or, set, true, Some, None, refl, sym, ap, ◌∙◌, arith}
use Rattle.std.proofs.lemmas.Bool.{le-leb, lt-leb}
use Rattle.std.proofs.lemmas.List.{map-set, get_or-map, take_all}
use Rattle.std.proofs.Math.ListN.{drop_of_length-le}
use Rattle.express_words.specs.declared.settings.Settings.{Settings}
use Rattle.server_boxes.specs.Held.{Holdings}
use Rattle.helper_core.specs.State.{server_in}
use Rattle.frame_rules.specs.Frames as frame
use Rattle.frame_rules.specs.Frames.{PlainFrame, PlainBody}
use Rattle.express_words.specs.declared.refusal.Refusal.TheVariants as refusal
use Rattle.frame_rules.specs.Whole.{answer, is_from_client, IsAnswer}
use Rattle.step_rules.specs.Helper.{Server, Row, row_at, with_row, idle, says, refuses_bytes, Turn}
use Rattle.step_rules.specs.HelperClients.{RowTurn, by_kind, if_lane}
use Rattle.helper_core.specs.declared.slot.HelperSlot.{HelperSlot}
use Rattle.helper_core.specs.declared.taken.ClientBody.{ClientBody}
use Rattle.helper_core.specs.declared.taken.ClientBody.TheVariants as taken
use Rattle.helper_core.specs.Slots.{row_in, rows_in, taken_in, taken_row, turn_in, IsOf}

-- nothing changed
pub same_rows : (h : Server) (lanes : ℕ) (slots : List HelperSlot) (reply : PlainFrame) → IsOf h lanes slots → turn_in h slots reply ≡ record { server = h; reply = reply }
same_rows h lanes slots reply is = ap (λ rows. let t : Turn = record { server = record h { rows = rows }; reply = reply } in t) (sym is.rows)

pub lane_refused : (h : Server) (f : PlainFrame) (slots : List HelperSlot) (lanes : ℕ) (t : RowTurn) → IsOf h lanes slots → lanes ≤ f.lane →
    if_lane h f t ≡ turn_in h slots (answer f (frame.Refused (refusal.Lane lanes)))
unfolding if_lane
lane_refused h f slots lanes t is above =
    let no : h.settings.lanes ≤ f.lane = omega (arith, is.lanes) in
    rw (le-leb h.settings.lanes f.lane no)
    (ap (λ n. says h f (frame.Refused (refusal.Lane n))) is.lanes ∙ sym (same_rows h lanes slots (answer f (frame.Refused (refusal.Lane lanes))) is))

pub row_there : (h : Server) (lanes : ℕ) (slots : List HelperSlot) (lane : ℕ) (d : HelperSlot) → IsOf h lanes slots → lane < length slots → row_at h lane ≡ row_in (get_or slots lane d)
row_there h lanes slots lane d is inside = ap (λ rows. get_or rows lane idle) is.rows ∙ get_or-map row_in slots lane d idle inside

-- the slot at i, the frame's lane, becomes s
pub lane_turn : (h : Server) (f : PlainFrame) (slots : List HelperSlot) (lanes i : ℕ) (s d : HelperSlot) (t : Row → RowTurn) (body : PlainBody) →
    IsOf h lanes slots → length slots ≡ lanes → i < length slots → i ≡ f.lane →
    row_in s ≡ (t (row_in (get_or slots i d))).row → body ≡ (t (row_in (get_or slots i d))).body →
    if_lane h f (t (row_at h f.lane)) ≡ turn_in h (set slots i s) (answer f body)
unfolding if_lane
lane_turn h f slots lanes i s d t body is count inside at row_is body_is =
    let yes : f.lane < h.settings.lanes = omega (arith, is.lanes) in
    let r = row_in (get_or slots i d) in
    let there : row_at h f.lane ≡ r = ap (row_at h) (sym at) ∙ row_there h lanes slots i d is inside in
    rw (lt-leb h.settings.lanes f.lane yes)
    (ap (λ (x : Row). says (with_row h f.lane (t x).row) f (t x).body) there
    ∙ (ap (λ (x : Row). says (with_row h f.lane x) f (t r).body) (sym row_is)
    ∙ (ap (λ (b : PlainBody). says (with_row h f.lane (row_in s)) f b) (sym body_is)
    ∙ (ap (λ (k : ℕ). says (with_row h k (row_in s)) f body) (sym at)
    ∙ ap (λ (rows : List Row). let u : Turn = record { server = record h { rows = rows }; reply = answer f body } in u)
    (ap (λ (rows : List Row). set rows i (row_in s)) is.rows ∙ sym (map-set row_in slots i s))))))

pub lane_said : (lanes : ℕ) → lanes < 2 ^ 16 → IsAnswer (frame.Refused (refusal.Lane lanes))
lane_said lanes h = record { unlinked = refl; addressed = λ lane serial some. some; is_body = h }

-- a kind that the helper doesn't take
pub not_taken : (h : Server) (f : PlainFrame) (b : PlainBody) → taken_in b ≡ None → by_kind h f b ≡ refuses_bytes h (refusal.Malformed 5)
unfolding by_kind
not_taken h f (frame.Deposit held) e = absurd (cc e)
not_taken h f (frame.Proof share) e = absurd (cc e)
not_taken h f b e = refl

-- a kind that it takes
pub is_taken : (h : Server) (f : PlainFrame) (b : PlainBody) (t : ClientBody) → taken_in b ≡ Some t → by_kind h f b ≡ if_lane h f (taken_row h f t)
unfolding by_kind
is_taken h f (frame.Deposit held) t e = let same : taken.Deposit held ≡ t = cc in ap (λ (x : ClientBody). if_lane h f (taken_row h f x)) same
is_taken h f (frame.Proof share) t e = let same : taken.Proof share ≡ t = cc in ap (λ (x : ClientBody). if_lane h f (taken_row h f x)) same
is_taken h f b t e = absurd (cc e)

-- a client sends what the helper takes
pub taken_class : (b : PlainBody) (t : ClientBody) → taken_in b ≡ Some t → is_from_client b ≡ true
taken_class (frame.Deposit held) t e = refl
taken_class (frame.Proof share) t e = refl
taken_class b t e = absurd (cc e)

-- the slots of a server hold its rows
pub is_of : (h : Server) (settings : Settings) (held : Holdings) (slots xs : List HelperSlot) (draws : ℕ) (seed : List ℕ) →
    server_in settings held slots draws seed ≡ h → xs ≡ slots → IsOf h settings.lanes xs
is_of h settings held slots xs draws seed view same = record {
  lanes = ap (λ (h : Server). h.settings.lanes) (sym view);
  rows = ap (λ (h : Server). h.rows) (sym view) ∙ ap rows_in (sym same);
}

-- all of a vector's items are written over
pub written_whole : {X : Type 0} (n : ℕ) (new old : List X) → length new ≡ length old → n ≡ length old → take n (new ++ drop (length new) old) ≡ new
written_whole n new old same all =
    ap (λ xs. take n (new ++ xs)) (drop_of_length-le old (omega arith))
    ∙ (ap (take n) (append-nil new) ∙ take_all n new (omega arith))
