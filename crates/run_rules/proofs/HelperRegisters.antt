-- The command of a register at the helper, in both runs.
use Rattle.std.proofs.Common.{◌≡◌, ℕ, ◌<◌, ◌≤◌, ◌^◌, ◌+◌, cond, nat_eq, nat_le, true, false, List, [], ◌∷◌, ◌++◌, length, take, map, position, Option, Some, None, slice_get, refl, sym, ap, ◌∙◌, subst, arith, Bool, add-one}
use Rattle.std.proofs.lemmas.Bool.{leb-false}
use Rattle.std.proofs.lemmas.List.{length-map}
use Rattle.express_words.specs.declared.refusal.Refusal.TheVariants as refusal
use Rattle.frame_rules.specs.Frames as frame
use Rattle.frame_rules.specs.Frames.{PlainFrame, PlainBody}
use Rattle.frame_rules.specs.Spelling.{IsFrame}
use Rattle.mailbox_rules.specs.Requests.{Registers, Line, Entry}
use Rattle.mailbox_rules.specs.Tables as tables
use Rattle.mailbox_rules.specs.Tables.{Mailbox, Table, Writes, Result, after_register, after_line, register_result, result_of, table_after, addresses, box_of, no_writes}
use Rattle.mailbox_rules.proofs.Folds.{parts_grow, boxes_within}
use Rattle.token_rules.specs.Run.{line_of}
use Rattle.frame_rules.specs.Whole.{on_link}
use Rattle.lane_table.specs.declared.row.Want.TheVariants as want
use Rattle.step_rules.specs.Boxes.{Box, addresses_of, place_of, with_new}
use Rattle.step_rules.specs.Helper as helper
use Rattle.step_rules.specs.Helper.{Helper, Server, Row, row_at, with_row}
use Rattle.step_rules.specs.HelperCommands as steps
use Rattle.step_rules.specs.HelperCommands.{Effect, effect}
use Rattle.run_rules.specs.Run as frames
use Rattle.run_rules.specs.Book.{Book}
use Rattle.run_rules.specs.Values.{key_at, box_at, shares_at, writes_at}
use Rattle.run_rules.specs.Frames.{frame_with, reply_with}
use Rattle.run_rules.proofs.HelperCommands.{left_by}

-- ---- the helper's boxes are those of the table of shares

addresses_same : (b : Book) (server : ℕ) (ms : List Mailbox)
    → addresses_of (map (λ m. box_at b server m) ms) ≡ addresses ms
addresses_same b server [] = refl
addresses_same b server (m ∷ ms) = ap (λ xs. m.address ∷ xs) (addresses_same b server ms)

pub place_same : (b : Book) (server address : ℕ) (ms : List Mailbox)
    → place_of address (map (λ m. box_at b server m) ms) ≡ box_of address ms
place_same b server address ms = ap (position (λ other. nat_eq other address)) (addresses_same b server ms)

pub map_more : {X Y : Type 0} (f : X → Y) (xs : List X) (x : X) → map f (xs ++ x ∷ []) ≡ map f xs ++ f x ∷ []
map_more f [] x = refl
map_more f (y ∷ xs) x = ap (λ ys. f y ∷ ys) (map_more f xs x)

-- the next table of shares
pub shares_next : (b : Book) (server i : ℕ) (e : Entry) → slice_get b.entries i ≡ Some e
    → shares_at b server (i + 1) ≡ after_line b.settings.boxes b.settings.width (writes_at b server) (shares_at b server i) e.line e.does
unfolding shares_at
shares_next b server i e is =
    ap (λ n. table_after b.settings.boxes b.settings.width (writes_at b server) (take n b.entries)) (add-one i) ∙ parts_grow b.settings.boxes b.settings.width (writes_at b server) b.entries i e is

pub shares_few : (b : Book) (server i : ℕ) → length (shares_at b server i).boxes ≤ b.settings.boxes
unfolding shares_at
shares_few b server i = boxes_within b.settings.boxes b.settings.width (writes_at b server) (take i b.entries)

-- ---- the effect of a register

abbrev pub line : ℕ → ℕ → Line
line c s = line_of c s Registers

-- it is that of the table, with this body
pub record Registers_to (b : Book) (h : Server) (g : PlainFrame) (c s i : ℕ) (t after : Table) (result : Result) (e : Effect) : Type 0 where
  pub boxes : List Box
  pub body : PlainBody
  pub is : e ≡ effect (left_by h c (helper.row s (helper.Done want.Register)) boxes h.draws) body
  pub boxes_is : boxes ≡ map (λ m. box_at b 1 m) after.boxes
  pub body_is : body ≡ reply_with b i (line c s) result
  pub frame : 1 ≤ s → IsFrame (on_link g g.link body)
  pub value : frames.value_of g.body body ≡ frames.value_of g.body (reply_with b i (line c s) result)

module _ (b : Book) (h : Server) (c s n address i : ℕ) (key : List ℕ) (t : Table)
    (boxes_is : h.boxes ≡ map (λ m. box_at b 1 m) t.boxes) (limit : h.settings.boxes ≡ b.settings.boxes) (width : h.settings.width ≡ b.settings.width) (small : b.settings.boxes ≤ 4096)
    (few : length t.boxes ≤ b.settings.boxes) (key_is : key ≡ key_at b 1 c s)
    (lane : c < 2 ^ 16) (serial : s < 2 ^ 32) (number : 1 ≤ n) (number_small : n < 2 ^ 64) where
  abbrev g : PlainFrame
  g = frame_with c s n (frame.LinkRegister address)

  count_is : length h.boxes ≡ length t.boxes
  count_is = ap length boxes_is ∙ length-map t.boxes (λ m. box_at b 1 m)

  pub register_made : (found : Option ℕ) → ((k : ℕ) → found ≡ Some k → k < length t.boxes)
      → Registers_to b h g c s i t (after_register b.settings.boxes b.settings.width t (line c s) address found) (register_result b.settings.boxes t found) (steps.register_at h g address key found)
  unfolding steps.register_at after_register reply_with
  register_made (Some k) there = record {
    boxes = h.boxes;
    body = frame.LinkReply (frame.ReplyRefused (refusal.Taken k));
    is = refl;
    boxes_is = boxes_is;
    body_is = refl;
    frame = λ first. let low = there k refl in record { lane = lane; serial = serial; addressed = first; link = number_small; linked = number; body = omega (arith, low, few, small) };
    value = refl;
  }
  register_made None there =
      subst (λ e. Registers_to b h g c s i t (after_register b.settings.boxes b.settings.width t (line c s) address None) (register_result b.settings.boxes t None) e) (sym same)
      (at_test (nat_le b.settings.boxes (length t.boxes)) (λ e. leb-false _ _ e))
    where
      full_says : ℕ → Effect
      full_says m = steps.refuses (steps.done h g want.Register) (refusal.Full m)

      room_says : ℕ → Effect
      room_says m = steps.replies_with (record (steps.done h g want.Register) { boxes = with_new h.settings.width address key h.boxes }) (frame.ReplyRegistered m)

      same : steps.register_at h g address key None ≡ cond (nat_le b.settings.boxes (length t.boxes)) (full_says b.settings.boxes) (room_says (length t.boxes))
      same =
          ap (λ m. cond (nat_le m (length h.boxes)) (full_says m) (room_says (length h.boxes))) limit
          ∙ ap (λ m. cond (nat_le b.settings.boxes m) (full_says b.settings.boxes) (room_says m)) count_is

      new : with_new h.settings.width address key h.boxes ≡ map (λ m. box_at b 1 m) (t.boxes ++ tables.new_box b.settings.width (line c s) address ∷ [])
      new = rw (width, key_is, boxes_is) (sym (map_more (λ m. box_at b 1 m) t.boxes (tables.new_box b.settings.width (line c s) address)))

      at_test : (full : Bool) → (full ≡ false → length t.boxes < b.settings.boxes)
          → Registers_to b h g c s i t
          (cond full t (record { boxes = t.boxes ++ tables.new_box b.settings.width (line c s) address ∷ []; got = λ d. cond (nat_eq d c) (t.got c ++ length t.boxes ∷ []) (t.got d); count = t.count }))
          (cond full (tables.Full b.settings.boxes) (tables.Registered (length t.boxes)))
          (cond full (steps.refuses (steps.done h g want.Register) (refusal.Full b.settings.boxes))
          (steps.replies_with (record (steps.done h g want.Register) { boxes = with_new h.settings.width address key h.boxes }) (frame.ReplyRegistered (length t.boxes))))
      at_test true room = record {
        boxes = h.boxes;
        body = frame.LinkReply (frame.ReplyRefused (refusal.Full b.settings.boxes));
        is = refl;
        boxes_is = boxes_is;
        body_is = refl;
        frame = λ first. record { lane = lane; serial = serial; addressed = first; link = number_small; linked = number; body = omega (arith, small) };
        value = refl;
      }
      at_test false room = record {
        boxes = with_new h.settings.width address key h.boxes;
        body = frame.LinkReply (frame.ReplyRegistered (length t.boxes));
        is = refl;
        boxes_is = new;
        body_is = refl;
        frame = λ first. record { lane = lane; serial = serial; addressed = first; link = number_small; linked = number; body = omega (arith, few, small) };
        value = refl;
      }
