-- A command that the helper refused leaves the boxes of both servers as they are.
use Rattle.std.proofs.Common.{◌≡◌, ◌∙◌, ◌+◌, ℕ, zero, suc, cond, nat_le, true, false, Bool, List, [], ◌∷◌, length, map, take, Option, Some, None, slice_get, refl, sym, ap, subst}
use Rattle.frame_rules.specs.Frames as frame
use Rattle.mailbox_rules.specs.Requests.{Line, entry, Operation, AddBox, BeginWrite, AuditWrite, SettleWrite, ReadBox, RetireBox, Refuse}
use Rattle.mailbox_rules.specs.Tables as tables
use Rattle.mailbox_rules.specs.Tables.{Mailbox, Table, Result, bare, after_register, register_result, given, result_of, after_line, box_of, box_cleared, boxes_cleared}
use Rattle.mailbox_rules.proofs.Outlines.{outlines_agree}
use Rattle.run_rules.specs.Book.{Book}
use Rattle.run_rules.specs.Values.{shares_at, writes_at, box_at, boxes_at, accepted_at}
use Rattle.run_rules.specs.Frames.{reply_with}
use Rattle.run_rules.proofs.HelperRegisters.{shares_next}
use Rattle.run_rules.proofs.LeaderRegistered.{same_box, same_length}
use Rattle.run_rules.proofs.ReadBoxes.{bare_get}

abbrev pub IsRefused : frame.PlainBody → Type 0
IsRefused (frame.LinkReply (frame.ReplyRefused r)) = Unit {0}
IsRefused body = ⊥

-- the boxes of the two servers, but for their bytes
bares_same : (b : Book) (x y i : ℕ) → map (λ m. bare m) (shares_at b x i).boxes ≡ map (λ m. bare m) (shares_at b y i).boxes
unfolding shares_at
bares_same b x y i = ap (λ t. t.boxes) (outlines_agree b.settings.boxes b.settings.width b.settings.width (writes_at b y) (writes_at b x) (take i b.entries))

pub other_box : (b : Book) (x y i n : ℕ) (m : Mailbox) → slice_get (shares_at b y i).boxes n ≡ Some m
    → (z : Mailbox) × ((slice_get (shares_at b x i).boxes n ≡ Some z) × (bare z ≡ bare m))
other_box b x y i n m e = bare_get (shares_at b x i).boxes (shares_at b y i).boxes n m (bares_same b x y i) e

other_none : (b : Book) (x y i n : ℕ) → slice_get (shares_at b y i).boxes n ≡ None → slice_get (shares_at b x i).boxes n ≡ None
other_none b x y i n e = by_found (slice_get (shares_at b x i).boxes n) refl
  where
    by_found : (found : Option Mailbox) → slice_get (shares_at b x i).boxes n ≡ found → found ≡ None
    by_found None k = refl
    by_found (Some m) k = let other = other_box b y x i n m k in let never : None ≡ Some other.0 = sym e ∙ other.1.0 in absurd (cc never)

-- a retired box, or none, isn't cleared
kept_none : (width : ℕ) (stays : Bool) (ms : List Mailbox) (n : ℕ) → slice_get ms n ≡ None → boxes_cleared width stays ms n ≡ ms
unfolding boxes_cleared
kept_none width stays [] n e = refl
kept_none width stays (m ∷ ms) zero e = absurd (cc e)
kept_none width stays (m ∷ ms) (suc n) e = ap (λ xs. m ∷ xs) (kept_none width stays ms n e)

kept_dead : (width : ℕ) (stays : Bool) (ms : List Mailbox) (n : ℕ) (m : Mailbox) → slice_get ms n ≡ Some m → m.live ≡ false
    → boxes_cleared width stays ms n ≡ ms
unfolding boxes_cleared
kept_dead width stays [] n m e dead = absurd (cc e)
kept_dead width stays (x ∷ ms) zero m e dead =
    let same : x ≡ m = cc in let life : x.live ≡ false = ap (λ y. y.live) same ∙ dead in rw life refl
kept_dead width stays (x ∷ ms) (suc n) m e dead = ap (λ xs. x ∷ xs) (kept_dead width stays ms n m e dead)

read_kept : (b : Book) (i n : ℕ) (x : Line) (stays : Bool) → IsRefused (reply_with b i x (given n (slice_get (shares_at b 1 i).boxes n)))
    → boxes_cleared b.settings.width stays (shares_at b 0 i).boxes n ≡ (shares_at b 0 i).boxes
unfolding reply_with
read_kept b i n x stays refused = by_found (slice_get (shares_at b 1 i).boxes n) refl refused
  where
    by_life : (m : Mailbox) (t : Bool) → m.live ≡ t → slice_get (shares_at b 1 i).boxes n ≡ Some m
        → IsRefused (reply_with b i x (cond t (tables.Gave n m.bytes) (tables.NoBox n)))
        → boxes_cleared b.settings.width stays (shares_at b 0 i).boxes n ≡ (shares_at b 0 i).boxes
    by_life m true life e k = absurd k
    by_life m false life e k =
        let other = other_box b 0 1 i n m e in
        kept_dead b.settings.width stays (shares_at b 0 i).boxes n other.0 other.1.0 (ap (λ y. y.live) other.1.1 ∙ life)

    by_found : (found : Option Mailbox) → slice_get (shares_at b 1 i).boxes n ≡ found → IsRefused (reply_with b i x (given n found))
        → boxes_cleared b.settings.width stays (shares_at b 0 i).boxes n ≡ (shares_at b 0 i).boxes
    by_found None e k = kept_none b.settings.width stays (shares_at b 0 i).boxes n (other_none b 0 1 i n e)
    by_found (Some m) e k = by_life m m.live refl e k

-- whatever its entry does
refused_kept : (b : Book) (i : ℕ) (x : Line) (does : Operation)
    → IsRefused (reply_with b i x (result_of b.settings.boxes (writes_at b 1) (shares_at b 1 i) x does))
    → (after_line b.settings.boxes b.settings.width (writes_at b 0) (shares_at b 0 i) x does).boxes ≡ (shares_at b 0 i).boxes
unfolding result_of after_line after_register reply_with
refused_kept b i x (AddBox address) k = by_found (box_of address (shares_at b 1 i).boxes) (same_box b i address) k
  where
    by_room : (t : Bool) → nat_le b.settings.boxes (length (shares_at b 0 i).boxes) ≡ t → IsRefused (reply_with b i x (cond t (tables.Full b.settings.boxes) (tables.Registered (length (shares_at b 1 i).boxes))))
        → (after_register b.settings.boxes b.settings.width (shares_at b 0 i) x address None).boxes ≡ (shares_at b 0 i).boxes
    by_room true e k = rw e refl
    by_room false e k = absurd k

    by_found : (found : Option ℕ) → box_of address (shares_at b 0 i).boxes ≡ found
        → IsRefused (reply_with b i x (register_result b.settings.boxes (shares_at b 1 i) found))
        → (after_register b.settings.boxes b.settings.width (shares_at b 0 i) x address (box_of address (shares_at b 0 i).boxes)).boxes ≡ (shares_at b 0 i).boxes
    by_found (Some n) e k = rw e refl
    by_found None e k =
        let lengths = same_length b i in
        rw e (by_room (nat_le b.settings.boxes (length (shares_at b 0 i).boxes)) refl
        (subst (λ n. IsRefused (reply_with b i x (cond (nat_le b.settings.boxes n) (tables.Full b.settings.boxes) (tables.Registered (length (shares_at b 1 i).boxes))))) (sym lengths) k))
refused_kept b i x BeginWrite k = refl
refused_kept b i x AuditWrite k = refl
refused_kept b i x SettleWrite k = absurd (by_accepted (accepted_at b x.lane x.serial) k)
  where
    by_accepted : (t : Bool) → IsRefused (reply_with b i x (tables.Settled t)) → ⊥
    by_accepted true k = k
    by_accepted false k = k
refused_kept b i x (ReadBox n) k = read_kept b i n x true k
refused_kept b i x (RetireBox n) k = read_kept b i n x false k
refused_kept b i x Refuse k = refl

pub refused_boxes : (b : Book) (i : ℕ) (x : Line) (does : Operation) → slice_get b.entries i ≡ Some (entry x does)
    → IsRefused (reply_with b i x (result_of b.settings.boxes (writes_at b 1) (shares_at b 1 i) x does))
    → boxes_at b 0 (i + 1) ≡ boxes_at b 0 i
refused_boxes b i x does e k =
    ap (λ u. map (λ m. box_at b 0 m) u.boxes) (shares_next b 0 i (entry x does) e) ∙ ap (map (λ m. box_at b 0 m)) (refused_kept b i x does k)

pub nothing_boxes : (b : Book) (i : ℕ) (x : Line) → slice_get b.entries i ≡ Some (entry x Refuse) → boxes_at b 0 (i + 1) ≡ boxes_at b 0 i
unfolding after_line
nothing_boxes b i x e = ap (λ u. map (λ m. box_at b 0 m) u.boxes) (shares_next b 0 i (entry x Refuse) e)
