-- A client's own boxes are a function of the history: those that its lane registers with the serials that it has
-- the answers to.
use Rattle.std.proofs.Common.{◌≡◌, ◌∙◌, ◌<◌, ℕ, suc, ◌+◌, false, List, [], ◌∷◌, length, take, Some, refl, sym, ap, add-one}
use Rattle.std.proofs.lemmas.Bool.{cond_both}
use Rattle.std.proofs.lemmas.List.{length-map}
use Rattle.mailbox_rules.specs.Requests.{Entry, Register, Request, opening_of, request_at}
use Rattle.mailbox_rules.specs.Tables.{no_writes, table_after}
use Rattle.mailbox_rules.specs.Owned.{own_below}
use Rattle.token_rules.specs.Tokens.{Answered, Lane, NoOwnBox, World}
use Rattle.token_rules.specs.Rows.{Finishes}
use Rattle.token_rules.specs.Run.{client_moves, goes_on, is_refused, notes, own_of, sent_of}
use Rattle.token_rules.specs.Clients.{owned_by}
use Rattle.token_rules.specs.Since.{below_of}
use Rattle.token_rules.proofs.Since.{below_lane, below_zero, owned_stays}
use Rattle.token_rules.proofs.Ended.{ended_owns}
use Rattle.run_rules.specs.Book.{Book, all_boxes, own_boxes, owned_box, table_at}
use Rattle.run_rules.specs.Known.{IsWhole, Known}
use Rattle.run_rules.proofs.Basics.{put_here}

take_all : {X : Type 0} (xs : List X) → take (length xs) xs ≡ xs
take_all [] = refl
take_all (x ∷ xs) = ap (λ l. x ∷ l) (take_all xs)

pub whole_table : (b : Book) (v : World) → IsWhole b v → v.table ≡ table_at b (length b.entries)
whole_table b v h =
    h.lawful.table ∙ same v.limit b.settings.boxes v.width b.settings.width v.journal (take (length b.entries) b.entries) h.limit h.width (h.journal ∙ sym (take_all b.entries))
  where
    same : (a e d f : ℕ) (xs ys : List Entry) → a ≡ e → d ≡ f → xs ≡ ys → table_after a d no_writes xs ≡ table_after e f no_writes ys
    same a e d f xs ys k l m = rw (k, l, m) refl

-- what a client has in any world of the run
pub owned_in : (b : Book) (v w : World) (c : ℕ) → Known b v w → w.foreign c ≡ false
    → own_below c (below_of w c) 0 (all_boxes b) ≡ owned_by w c
owned_in b v w c k hon =
    ap (λ t. own_below c (below_of w c) 0 t.boxes) (sym (whole_table b v k.whole)) ∙ owned_stays w v c k.lawful k.whole.lawful k.since hon

-- a client whose current request is no register has all boxes that its lane got
pub has_all : (b : Book) (v w : World) (c : ℕ) → Known b v w → w.foreign c ≡ false
    → (0 < (w.lanes c).step → (address : ℕ) → request_at (sent_of w) c (w.lanes c).serial ≡ Some (Register address) → ⊥)
    → own_below c (below_of w c) 0 (all_boxes b) ≡ w.table.got c
has_all b v w c k hon none = owned_in b v w c k hon ∙ k.lawful.own c hon none

pub own_length : (b : Book) (c serial : ℕ) (got : List ℕ) → own_below c serial 0 (all_boxes b) ≡ got
    → length (own_boxes b c serial) ≡ length got
unfolding own_boxes
own_length b c serial got e = length-map (own_below c serial 0 (all_boxes b)) (owned_box b c) ∙ ap length e

-- ---- a client that ended a request

goes_below : (w : World) (c : ℕ) (rs : List Request) → (w.lanes c).step ≡ 0
    → below_of (goes_on w c rs) c ≡ suc (w.lanes c).serial
unfolding goes_on
goes_below w c [] e = below_zero (w.lanes c).step (w.lanes c).serial e
goes_below w c (r ∷ rs) e =
    let rested : Lane = record (w.lanes c) { step = 0 } in
    let asks : Lane = record (w.lanes c) { step = 1; serial = (w.lanes c).serial + 1; opening = opening_of r } in
    let here = put_here w.lanes c rested in
    cond_both {A = World} (is_refused w c r) _ _ (λ v. below_of v c ≡ suc (w.lanes c).serial)
    (λ f. goes_below (notes w c (NoOwnBox (own_of r))) c rs (ap (λ l. l.step) here) ∙ ap (λ l. suc l.serial) here)
    (λ f. ap (λ l. below_lane l) (put_here w.lanes c asks) ∙ add-one (w.lanes c).serial)

ended_below : (w : World) (c s : ℕ) → below_of (client_moves w c s Finishes) c ≡ suc (w.lanes c).serial
unfolding client_moves
ended_below w c s =
    let rested : Lane = record (w.lanes c) { step = 0 } in
    let here = put_here w.lanes c rested in
    goes_below (notes w c (Answered s (w.lanes c).opening)) c (w.requests c).waiting (ap (λ l. l.step) here) ∙ ap (λ l. suc l.serial) here

-- has all that its lane got
pub ended_has : (b : Book) (v w : World) (c : ℕ) → Known b v w → w.foreign c ≡ false
    → Known b v (client_moves w c (w.lanes c).serial Finishes)
    → own_below c (suc (w.lanes c).serial) 0 (all_boxes b) ≡ w.table.got c
ended_has b v w c k hon after =
    let s = (w.lanes c).serial in
    let u = client_moves w c s Finishes in
    let own = ended_owns w c k.lawful hon in
    let hon_u : u.foreign c ≡ false = ap (λ f. f c) (sym after.since.foreign ∙ k.since.foreign) ∙ hon in
    ap (λ n. own_below c n 0 (all_boxes b)) (sym (ended_below w c s)) ∙ owned_in b v u c after hon_u ∙ own.owns
