-- Reads and retires of clients: what their frames hold, and the box that they name.
use Rattle.std.proofs.Common.{◌≡◌, ◌∙◌, ◌<◌, ◌-◌, ℕ, zero, suc, true, false, Bool, Option, Some, None, slice_get, slice_index_or, option_map, refl, sym, ap, arith}
use Rattle.std.proofs.lemmas.Option.{slice_get-map, get_or_from_slice_get}
use Rattle.frame_rules.specs.declared.frame.DepositBody.TheVariants as deposit
use Rattle.frame_rules.specs.Frames as frame
use Rattle.frame_rules.specs.Frames.{PlainBody}
use Rattle.dpf_rules.specs.Expansion as expansion
use Rattle.mailbox_rules.specs.Requests.{Request, Register, Read, Retire, Command, Reads, Retires, Operation, ReadBox, RetireBox, opening_of, request_at}
use Rattle.mailbox_rules.specs.Tables.{Mailbox}
use Rattle.mailbox_rules.specs.Owned.{own_below}
use Rattle.token_rules.specs.Tokens.{World}
use Rattle.token_rules.specs.Run.{sent_of}
use Rattle.token_rules.specs.Clients.{answered_below}
use Rattle.token_rules.specs.Since.{below_of}
use Rattle.step_rules.specs.Client.{Owned}
use Rattle.step_rules.specs.ClientAsks.{deposit_of, read_deposit, submission_of, read_submission}
use Rattle.step_rules.specs.Leader.{Asked, Reading, Retiring}
use Rattle.run_rules.specs.Book.{Book, all_boxes, box_of, client_at, own_boxes, own_of, owned_box, request_of}
use Rattle.run_rules.specs.Frames.{deposit_at, submission_at, if_asked}
use Rattle.run_rules.specs.Known.{Known}
use Rattle.run_rules.proofs.HelperOrders.{asked_was_sent}
use Rattle.run_rules.proofs.OwnBoxes.{has_all}

-- ---- a read leaves its box live, a retire doesn't

abbrev pub asks : Bool → ℕ → Request
asks true own = Read own
asks false own = Retire own

abbrev pub command_for : Bool → Command
command_for true = Reads
command_for false = Retires

abbrev pub link_for : Bool → ℕ → PlainBody
link_for true n = frame.LinkRead n
link_for false n = frame.LinkRetire n

abbrev pub frame_for : Bool → ℕ → ℕ → PlainBody
frame_for true n held = frame.Read n held
frame_for false n held = frame.Retire n held

abbrev pub asked_for : Bool → ℕ → Asked
asked_for true n = Reading n
asked_for false n = Retiring n

abbrev pub does_for : Bool → ℕ → Operation
does_for true n = ReadBox n
does_for false n = RetireBox n

-- ---- what its frames hold

-- the client has a box of that number as this one of its own
pub record Holds (b : Book) (c s own number : ℕ) : Type 0 where
  pub at : slice_get (own_below c s 0 (all_boxes b)) own ≡ Some number
  pub owned : slice_get (own_boxes b c s) own ≡ Some (owned_box b c number)
  pub named : box_of b c s ≡ number

own_is : (stays : Bool) (own : ℕ) → own_of (Some (asks stays own)) ≡ own
own_is true own = refl
own_is false own = refl

pub holds_box : (b : Book) (stays : Bool) (c s own number : ℕ) → request_of b c s ≡ Some (asks stays own)
    → slice_get (own_below c s 0 (all_boxes b)) own ≡ Some number → Holds b c s own number
unfolding own_boxes box_of
holds_box b stays c s own number q e = record {
  at = e;
  owned = slice_get-map (owned_box b c) (own_below c s 0 (all_boxes b)) own ∙ ap (option_map (owned_box b c)) e;
  named = ap (λ n. slice_index_or (own_below c s 0 (all_boxes b)) n 0) (ap own_of q ∙ own_is stays own) ∙ get_or_from_slice_get (own_below c s 0 (all_boxes b)) own number 0 e;
}

abbrev pub token0 : Book → ℕ → ℕ → ℕ → ℕ
token0 b c s n = expansion.token (owned_box b c n).key0 c s

abbrev pub token1 : Book → ℕ → ℕ → ℕ → ℕ
token1 b c s n = expansion.token (owned_box b c n).key1 c s

-- the client has such a box, where there is a frame
found_box : (b : Book) (stays : Bool) (c s own : ℕ) (X : Type 0) → request_of b c s ≡ Some (asks stays own)
    → ((n : ℕ) → Holds b c s own n → X) → (slice_get (own_boxes b c s) own ≡ None → X) → X
unfolding own_boxes
found_box b stays c s own X q some none = at_found (slice_get (own_below c s 0 (all_boxes b)) own) refl
  where
    at_found : (found : Option ℕ) → slice_get (own_below c s 0 (all_boxes b)) own ≡ found → X
    at_found (Some n) e = some n (holds_box b stays c s own n q e)
    at_found None e = none (slice_get-map (owned_box b c) (own_below c s 0 (all_boxes b)) own ∙ ap (option_map (owned_box b c)) e)

pub record Submits (b : Book) (stays : Bool) (c s own : ℕ) (body : PlainBody) : Type 0 where
  pub number : ℕ
  pub holds : Holds b c s own number
  pub is : body ≡ frame_for stays number (token0 b c s number)

submission_is : (b : Book) (stays : Bool) (c s own : ℕ) (found : Option Owned) → request_of b c s ≡ Some (asks stays own)
    → slice_get (own_boxes b c s) own ≡ found → submission_at b c s ≡ read_submission (client_at b c s) (frame_for stays) found
unfolding submission_at submission_of
submission_is b true c s own found q e = ap (if_asked (submission_of (client_at b c s))) q ∙ ap (read_submission (client_at b c s) frame.Read) e
submission_is b false c s own found q e = ap (if_asked (submission_of (client_at b c s))) q ∙ ap (read_submission (client_at b c s) frame.Retire) e

pub submits : (b : Book) (stays : Bool) (c s own : ℕ) (body : PlainBody) → request_of b c s ≡ Some (asks stays own)
    → submission_at b c s ≡ Some body → Submits b stays c s own body
unfolding read_submission
submits b stays c s own body q e =
    found_box b stays c s own (Submits b stays c s own body) q
    (λ n k. let is : Some (frame_for stays n (token0 b c s n)) ≡ Some body = sym (submission_is b stays c s own _ q k.owned) ∙ e in record { number = n; holds = k; is = cc })
    (λ none. let never : None ≡ Some body = sym (submission_is b stays c s own None q none) ∙ e in absurd (cc never))

pub submission_made : (b : Book) (stays : Bool) (c s own n : ℕ) → request_of b c s ≡ Some (asks stays own) → Holds b c s own n
    → submission_at b c s ≡ Some (frame_for stays n (token0 b c s n))
unfolding read_submission
submission_made b stays c s own n q k = submission_is b stays c s own _ q k.owned

deposit_is : (b : Book) (stays : Bool) (c s own : ℕ) (found : Option Owned) → request_of b c s ≡ Some (asks stays own)
    → slice_get (own_boxes b c s) own ≡ found → deposit_at b c s ≡ read_deposit (client_at b c s) found
unfolding deposit_at deposit_of
deposit_is b true c s own found q e = ap (if_asked (deposit_of (client_at b c s))) q ∙ ap (read_deposit (client_at b c s)) e
deposit_is b false c s own found q e = ap (if_asked (deposit_of (client_at b c s))) q ∙ ap (read_deposit (client_at b c s)) e

pub deposit_made : (b : Book) (stays : Bool) (c s own n : ℕ) → request_of b c s ≡ Some (asks stays own) → Holds b c s own n
    → deposit_at b c s ≡ Some (frame.Deposit (deposit.Read (token1 b c s n)))
unfolding read_deposit
deposit_made b stays c s own n q k = deposit_is b stays c s own _ q k.owned

-- ---- the box in a world at which it is the client's current request

pub record Current (b : Book) (w : World) (c s own : ℕ) : Type 0 where
  pub number : ℕ
  pub holds : Holds b c s own number
  pub got : slice_get (w.table.got c) own ≡ Some number
  pub box : Mailbox
  pub is : slice_get w.table.boxes number ≡ Some box
  pub owner : box.lane ≡ c

pub below_is : (n s : ℕ) → 0 < n → answered_below n s ≡ s
below_is zero s l = absurd (omega (arith, l))
below_is (suc n) s l = refl

no_register : (stays : Bool) (own address : ℕ) → asks stays own ≡ Register address → ⊥
no_register true own address e = cc e
no_register false own address e = cc e

reached : (b : Book) (v w : World) (stays : Bool) (c i own : ℕ) → Known b v w → slice_get (sent_of w c) i ≡ Some (asks stays own)
    → (n : ℕ) × (slice_get (w.table.got c) own ≡ Some n)
reached b v w true c i own k e = k.lawful.reach c i (Read own) e
reached b v w false c i own k e = k.lawful.reach c i (Retire own) e

same_request : (x y : Request) → Some x ≡ Some y → x ≡ y
same_request x y e = cc

-- the client's last request, and its opening command
pub record LastIs (w : World) (stays : Bool) (c s own : ℕ) : Type 0 where
  pub is : request_at (sent_of w) c (w.lanes c).serial ≡ Some (asks stays own)
  pub opening : (w.lanes c).opening ≡ command_for stays

pub opens_with : (stays : Bool) (own : ℕ) → opening_of (asks stays own) ≡ command_for stays
opens_with true own = refl
opens_with false own = refl

pub last_request : (b : Book) (v w : World) (stays : Bool) (c s own : ℕ) → Known b v w → w.foreign c ≡ false
    → 0 < (w.lanes c).step → (w.lanes c).serial ≡ s → request_of b c s ≡ Some (asks stays own) → LastIs w stays c s own
last_request b v w stays c s own k hon step same q =
    let last = k.lawful.openings c hon (k.lawful.numbered c hon step) in
    let sent : request_of b c s ≡ Some last.request = asked_was_sent b w c s last.request (k.within.sent c) (ap (request_at (sent_of w) c) (sym same) ∙ last.is) in
    let request : last.request ≡ asks stays own = same_request _ _ (sym sent ∙ q) in
    record { is = last.is ∙ ap Some request; opening = last.opening ∙ ap opening_of request ∙ opens_with stays own }

-- the client has all boxes of its lane
pub all_own : (b : Book) (v w : World) (stays : Bool) (c s own : ℕ) → Known b v w → w.foreign c ≡ false
    → 0 < (w.lanes c).step → (w.lanes c).serial ≡ s → request_of b c s ≡ Some (asks stays own)
    → own_below c s 0 (all_boxes b) ≡ w.table.got c
all_own b v w stays c s own k hon step same q =
    let last = last_request b v w stays c s own k hon step same q in
    let below : below_of w c ≡ s = below_is (w.lanes c).step (w.lanes c).serial step ∙ same in
    ap (λ x. own_below c x 0 (all_boxes b)) (sym below)
    ∙ has_all b v w c k hon (λ pos address e. no_register stays own address (same_request _ _ (sym last.is ∙ e)))

pub current_box : (b : Book) (v w : World) (stays : Bool) (c s own : ℕ) → Known b v w → w.foreign c ≡ false
    → 0 < (w.lanes c).step → (w.lanes c).serial ≡ s → request_of b c s ≡ Some (asks stays own) → Current b w c s own
current_box b v w stays c s own k hon step same q =
    let last = last_request b v w stays c s own k hon step same q in
    let n = reached b v w stays c ((w.lanes c).serial - 1) own k last.is in
    let mine : slice_get (own_below c s 0 (all_boxes b)) own ≡ Some n.0 = ap (λ l. slice_get l own) (all_own b v w stays c s own k hon step same q) ∙ n.1 in
    let stand = k.lawful.stand c own n.0 n.1 in
    record { number = n.0; holds = holds_box b stays c s own n.0 q mine; got = n.1; box = stand.box; is = stand.is; owner = stand.owner }
