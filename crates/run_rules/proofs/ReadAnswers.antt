-- The answer to a read or retire comes to its client, in both runs.
use Rattle.std.proofs.Common.{◌≡◌, ◌∙◌, ◌<◌, ◌+◌, ℕ, suc, cond, nat_eq, true, false, Bool, List, [], length, map, Some, None, slice_get, refl, sym, ap, ap₂, subst, arith, add-one}
use Rattle.std.proofs.lemmas.Bool.{eq-eqb}
use Rattle.express_words.specs.declared.refusal.Refusal.TheVariants as refusal
use Rattle.frame_rules.specs.Frames as frame
use Rattle.frame_rules.specs.Frames.{PlainBody}
use Rattle.express_words.specs.Bytes.{xor_bytes}
use Rattle.dpf_rules.specs.Expansion.{mask}
use Rattle.express_words.proofs.Bytes.{xor_bytes_assoc, xor_bytes_self, xor_bytes_zeros}
use Rattle.mailbox_rules.specs.Requests.{Request, Command, Registers, Begins, Audits, Settles, Reads, Retires}
use Rattle.mailbox_rules.specs.Tables.{Result, Gave, NoBox, given, result_sum}
use Rattle.mailbox_rules.specs.Owned.{own_below}
use Rattle.token_rules.specs.Tokens as token
use Rattle.token_rules.specs.Tokens.{World, Lane, Oracle}
use Rattle.token_rules.specs.Rows.{Finishes}
use Rattle.token_rules.specs.Run.{client_moves}
use Rattle.token_rules.specs.Stages.{last_step}
use Rattle.token_rules.specs.Invariant.{Has, HasAll, State, state}
use Rattle.token_rules.proofs.Lists.{same_at}
use Rattle.step_rules.specs.Client as client
use Rattle.step_rules.specs.Client.{Client, Current, Owned, Submits, Turn, Finished}
use Rattle.step_rules.specs.ClientReplies.{on_message, on_refusal, on_submission, unmasked}
use Rattle.run_rules.specs.Book.{Book, all_boxes, own_boxes, owned_box, place, request_of}
use Rattle.run_rules.specs.Values.{key_at}
use Rattle.run_rules.specs.Frames.{answer_at, answer_with, result_at}
use Rattle.run_rules.specs.Follows.{ClientFollows, CurrentIs, Sound, given_in, message_told, says}
use Rattle.run_rules.specs.Known.{Known}
use Rattle.run_rules.specs.Laws.{ComesFollows}
use Rattle.run_rules.proofs.Answered.{EndsSo, answer_to}
use Rattle.run_rules.proofs.ClientHears.{client_at}
use Rattle.run_rules.proofs.OwnBoxes.{ended_has, own_length}
use Rattle.run_rules.proofs.Places.{place_is}
use Rattle.run_rules.proofs.Widths.{share_width}
use Rattle.run_rules.proofs.ReadBoxes.{later_got, table_now}
use Rattle.run_rules.proofs.ReadBasics.{all_own, asks, command_for, current_box, last_request}
use Rattle.run_rules.proofs.ReadCommands.{journal_count, line, mask_length, masked_length, result_is}
use Rattle.run_rules.proofs.ReadReplies.{TwoBoxes, answer_of, last_is, two_boxes, was_read}
use Rattle.run_rules.proofs.Served.{EndsAt, request_ends}

-- ---- both masks come off

unmask : (xs m : List ℕ) (n : ℕ) → length xs ≡ n → length m ≡ n → xor_bytes (xor_bytes xs m) m ≡ xs
unmask xs m n e d =
    xor_bytes_assoc xs m m ∙ ap (xor_bytes xs) (xor_bytes_self m) ∙ xor_bytes_zeros xs (length m) (e ∙ sym d)

unmasked_is : (k : Client) (own : Owned) (key0 key1 xs ys : List ℕ) (c s width : ℕ) → k.lane ≡ c → k.serial ≡ s → k.width ≡ width
    → own.key0 ≡ key0 → own.key1 ≡ key1 → length xs ≡ width → length ys ≡ width
    → unmasked k own (xor_bytes xs (mask key0 c s width)) (xor_bytes ys (mask key1 c s width)) ≡ xor_bytes xs ys
unmasked_is k own key0 key1 xs ys c s width lane serial wide first second e d =
    ap₂ xor_bytes (ap (xor_bytes (xor_bytes xs (mask key0 c s width))) (same own.key0 key0 first)) (ap (xor_bytes (xor_bytes ys (mask key1 c s width))) (same own.key1 key1 second))
    ∙ ap₂ xor_bytes (unmask xs (mask key0 c s width) width e (mask_length key0 c s width)) (unmask ys (mask key1 c s width) width d (mask_length key1 c s width))
  where
    same : (x y : List ℕ) → x ≡ y → mask x k.lane k.serial k.width ≡ mask y c s width
    same x y z = ap (λ n. mask x n k.serial k.width) lane ∙ ap (λ n. mask x c n k.width) serial ∙ ap (λ n. mask x c s n) wide ∙ ap (λ key. mask key c s width) z

-- ---- how it ends

-- the client has no more boxes than before
abbrev pub left : Client → Client
left k = record k { current = None; serial = k.serial + 1 }

pub left_follows : (b : Book) (c s n : ℕ) (k : Client) → ClientFollows b c k (suc n) s → own_boxes b c s ≡ own_boxes b c (suc s)
    → ClientFollows b c (left k) 0 s
left_follows b c s n k h same = record {
  mine = h.mine;
  seed = h.seed;
  width = h.width;
  capacity = h.capacity;
  there = λ pos. absurd (omega (arith, pos));
  number = ap (λ n. n + 1) h.number ∙ add-one s;
  current = refl;
  owned = h.owned ∙ same;
}

read_turn : (k : Client) (stays : Bool) (own : ℕ) (body : PlainBody) → on_submission k (asks stays own) body ≡ on_message k (slice_get k.owned own) body
unfolding on_submission
read_turn k true own body = refl
read_turn k false own body = refl

message_turn : (k : Client) (own : Owned) (x y : List ℕ) → length x ≡ k.width
    → on_message k (Some own) (frame.Message x y) ≡ record { client = left k; progress = Finished (client.Message (unmasked k own x y)) }
unfolding on_message
message_turn k own x y e = let t : nat_eq (length x) k.width ≡ true = eq-eqb _ _ e in rw t refl

refused_turn : (k : Client) (n : ℕ) → on_refusal k Submits (refusal.NoBox n) ≡ record { client = left k; progress = Finished (client.Refused (refusal.NoBox n)) }
unfolding on_refusal
refused_turn k n = refl

pub last_pos : (y : Command) → 0 < last_step y
last_pos Registers = omega arith
last_pos Begins = omega arith
last_pos Audits = omega arith
last_pos Settles = omega arith
last_pos Reads = omega arith
last_pos Retires = omega arith

last_two : (stays : Bool) → last_step (command_for stays) ≡ 2
last_two true = refl
last_two false = refl

has_line : (w : State) (stays : Bool) (c s : ℕ) → HasAll w c s (command_for stays) → Has w (line stays c s)
has_line w true c s h = h
has_line w false c s h = h

told_is : (b : Book) (stays : Bool) (c s own i : ℕ) (first second : Result) → request_of b c s ≡ Some (asks stays own)
    → place b c s (command_for stays) ≡ i → result_at b 0 i (line stays c s) ≡ first → result_at b 1 i (line stays c s) ≡ second
    → message_told b c s ≡ given_in (result_sum first second)
told_is b stays c s own i first second q at x y =
    let last = last_is b stays c s own q in
    rw (last, at, x, y) refl

module _ (b : Book) (stays : Bool) (c s own i n : ℕ) (k : Client) (got : List ℕ) (sound : Sound b) (two : TwoBoxes b c i n)
    (mine : ClientFollows b c k 2 s) (owns : slice_get k.owned own ≡ Some (owned_box b c n))
    (same : own_boxes b c s ≡ own_boxes b c (suc s)) (all : length k.owned ≡ length got) where
  abbrev now : Current
  now = record { request = asks stays own; step = Submits }

  abbrev masked0 : List ℕ
  masked0 = xor_bytes two.zero.bytes (mask (key_at b 0 two.zero.lane two.zero.serial) c s b.settings.width)

  abbrev masked1 : List ℕ
  masked1 = xor_bytes two.one.bytes (mask (key_at b 1 two.one.lane two.one.serial) c s b.settings.width)

  message_is : answer_with b i (line stays c s) (Gave n two.zero.bytes) (Gave n two.one.bytes) ≡ frame.Message masked0 masked1
  unfolding answer_with
  message_is = let e = two.zero_is in let d = two.one_is in rw (e, d) refl

  live_turn : answer_to k now (frame.Message masked0 masked1) ≡ record { client = left k; progress = Finished (client.Message (xor_bytes two.zero.bytes two.one.bytes)) }
  live_turn =
      let wide0 = share_width b 0 i n two.zero sound two.zero_is in
      let wide1 = share_width b 1 i n two.one sound two.one_is in
      let long : length masked0 ≡ k.width = masked_length two.zero.bytes (key_at b 0 two.zero.lane two.zero.serial) c s b.settings.width wide0 ∙ sym mine.width in
      read_turn k stays own (frame.Message masked0 masked1)
      ∙ ap (λ found. on_message k found (frame.Message masked0 masked1)) owns
      ∙ message_turn k (owned_box b c n) masked0 masked1 long
      ∙ ap (λ x. record { client = left k; progress = Finished (client.Message x) }) (unmasked_is k (owned_box b c n) (key_at b 0 two.zero.lane two.zero.serial) (key_at b 1 two.one.lane two.one.serial) two.zero.bytes two.one.bytes c s b.settings.width mine.mine mine.number mine.width two.key0 two.key1 wide0 wide1)

  ends_so : (body : PlainBody) (told : List ℕ) (first second : Result) → answer_at b c s ≡ body → message_told b c s ≡ told
      → (outcome : client.Outcome) → answer_to k now body ≡ record { client = left k; progress = Finished outcome } → says body told ≡ Some outcome
      → EndsSo b c s k got (answer_to k now (answer_at b c s))
  ends_so body told first second answer message outcome turn says_it = record {
    left = left k;
    outcome = outcome;
    is = ap (answer_to k now) answer ∙ turn;
    follows = left_follows b c s 1 k mine same;
    all = all;
    tells = ap₂ says answer message ∙ says_it;
  }

  pub ends_with : (x y : Bool) → two.zero.live ≡ x → x ≡ y
      → answer_at b c s ≡ answer_with b i (line stays c s) (cond x (Gave n two.zero.bytes) (NoBox n)) (cond y (Gave n two.one.bytes) (NoBox n))
      → message_told b c s ≡ given_in (result_sum (cond x (Gave n two.zero.bytes) (NoBox n)) (cond y (Gave n two.one.bytes) (NoBox n)))
      → EndsSo b c s k got (answer_to k now (answer_at b c s))
  unfolding answer_with
  ends_with true true e d answer message =
      ends_so (frame.Message masked0 masked1) (xor_bytes two.zero.bytes two.one.bytes) (Gave n two.zero.bytes) (Gave n two.one.bytes) (answer ∙ message_is) message (client.Message (xor_bytes two.zero.bytes two.one.bytes)) live_turn refl
  ends_with false false e d answer message =
      ends_so (frame.Refused (refusal.NoBox n)) [] (NoBox n) (NoBox n) answer message (client.Refused (refusal.NoBox n)) (refused_turn k n) refl
  ends_with true false e d answer message = absurd (cc d)
  ends_with false true e d answer message = absurd (cc d)

pub own_same : (b : Book) (c s : ℕ) → own_below c s 0 (all_boxes b) ≡ own_below c (suc s) 0 (all_boxes b) → own_boxes b c s ≡ own_boxes b c (suc s)
unfolding own_boxes
own_same b c s e = ap (map (owned_box b c)) e

pub read_ends : (b : Book) (stays : Bool) (c s own : ℕ) → b.foreign c ≡ false → request_of b c s ≡ Some (asks stays own) → EndsAt b c s
read_ends b stays c s own hon q f v w known h honest same at after now is =
    let ok = known.lawful.coherent in
    let p = known.lawful.stages in
    let pos : 0 < (w.lanes c).step = let l = last_pos (w.lanes c).opening in let e = at.step in omega (arith, l, e) in
    let last = last_request b v w stays c s own known honest pos (sym same) q in
    let step : (w.lanes c).step ≡ 2 = at.step ∙ ap last_step last.opening ∙ last_two stays in
    let has : Has (state w p) (line stays c s) = has_line (state w p) stays c s (subst (λ y. HasAll (state w p) c s y) last.opening (subst (λ n. HasAll (state w p) c n (w.lanes c).opening) (sym same) at.has)) in
    let i = has.place in
    let carried : i < w.carried = let l = has.acknowledged in let m = ok.acknowledged in omega (arith, l, m) in
    let was = was_read b v w stays c s own i known honest q has.is carried in
    let n = was.number in
    let two = two_boxes b c i n own known.sound hon was.got in
    let cur = current_box b v w stays c s own known honest pos (sym same) q in
    let count = journal_count w p ok in
    let later : slice_get (w.table.got c) own ≡ Some n = ap (λ t. slice_get (t.got c) own) (table_now b v w known) ∙ later_got b i (length w.journal) c own n (omega (arith, carried, count)) was.got in
    let number : cur.number ≡ n = same_at (w.table.got c) own cur.number n cur.got later in
    let mine : ClientFollows b c (f.clients c) 2 s = subst (λ m. ClientFollows b c (f.clients c) 2 m) (sym same) (subst (λ m. ClientFollows b c (f.clients c) m (w.lanes c).serial) step (client_at b f w c h hon)) in
    let owns : slice_get (f.clients c).owned own ≡ Some (owned_box b c n) = ap (λ l. slice_get l own) mine.owned ∙ cur.holds.owned ∙ ap (λ m. Some (owned_box b c m)) number in
    let all = all_own b v w stays c s own known honest pos (sym same) q in
    let ended : own_below c (suc s) 0 (all_boxes b) ≡ w.table.got c = ap (λ m. own_below c (suc m) 0 (all_boxes b)) same ∙ ended_has b v w c known honest (subst (λ m. Known b v (client_moves w c m Finishes)) same after) in
    let here : CurrentIs b c 2 s (Some now) = subst (λ m. CurrentIs b c 2 m (Some now)) (sym same) (subst (λ m. CurrentIs b c m (w.lanes c).serial (Some now)) step is) in
    let now_is : now ≡ record { request = asks stays own; step = Submits } = same_now now _ here.2 ∙ ap (λ r. record { request = r; step = Submits }) (same_request here.0 (asks stays own) (sym here.1 ∙ q)) in
    let first = result_is b 0 i stays c s own n q was.got ∙ ap (given n) two.zero_is in
    let second = result_is b 1 i stays c s own n q was.got ∙ ap (given n) two.one_is in
    let place = place_is b w p c s i (command_for stays) ok known.within honest has.is in
    subst (λ x. EndsSo b c s (f.clients c) (w.table.got c) (answer_to (f.clients c) x (answer_at b c s))) (sym now_is)
    (ends_with b stays c s own i n (f.clients c) (w.table.got c) known.sound two mine owns (own_same b c s (all ∙ sym ended)) (ap length mine.owned ∙ own_length b c s (w.table.got c) all) two.zero.live two.one.live refl two.live
    (answer_of b stays c s own i _ _ q place first second) (told_is b stays c s own i _ _ q place first second))
  where
    same_request : (x y : Request) → Some x ≡ Some y → x ≡ y
    same_request x y e = cc

    same_now : (x y : Current) → Some x ≡ Some y → x ≡ y
    same_now x y e = cc

pub read_answered : (b : Book) (stays : Bool) (c s own : ℕ) → b.foreign c ≡ false → request_of b c s ≡ Some (asks stays own)
    → ComesFollows b (token.Answer c s)
read_answered b stays c s own hon q = request_ends b c s hon (read_ends b stays c s own hon q)
