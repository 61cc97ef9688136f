-- The answer to a register comes to its client, in both runs: the client has its new box, or what it had.
use Rattle.std.proofs.Common.{◌≡◌, ◌∙◌, ◌<◌, ◌≤◌, ◌+◌, ℕ, suc, cond, nat_eq, nat_le, false, true, Bool, List, [], ◌∷◌, ◌++◌, length, map, position, take, Option, Some, None, slice_get, inl, inr, refl, sym, ap, ap₂, subst, arith, add-one, length-append}
use Rattle.std.proofs.lemmas.List.{length-map}
use Rattle.express_words.specs.declared.refusal.Refusal.{Refusal}
use Rattle.express_words.specs.declared.refusal.Refusal.TheVariants as refusal
use Rattle.frame_rules.specs.Frames as frame
use Rattle.frame_rules.specs.Frames.{PlainBody}
use Rattle.dpf_rules.specs.Expansion.{owner_key}
use Rattle.mailbox_rules.specs.Requests.{Request, Register, Registers, Entry, Line, AddBox, lines_of, operation_of}
use Rattle.mailbox_rules.specs.Tables.{Table, Result, Registered, Taken, Full, addresses, box_of, no_writes, register_result, result_of}
use Rattle.mailbox_rules.specs.Owned.{own_below}
use Rattle.mailbox_rules.proofs.Outlines.{outlines_agree}
use Rattle.token_rules.specs.Tokens as token
use Rattle.token_rules.specs.Tokens.{World}
use Rattle.token_rules.specs.Rows.{Finishes}
use Rattle.token_rules.specs.Run.{client_moves, line_of}
use Rattle.token_rules.specs.Laws as laws
use Rattle.token_rules.specs.Clients.{RegisterTells}
use Rattle.token_rules.specs.Since.{below_of}
use Rattle.token_rules.specs.Stages.{last_step}
use Rattle.token_rules.specs.Invariant.{Has, HasAll, state}
use Rattle.token_rules.proofs.Lists.{get_end, taken_get}
use Rattle.step_rules.specs.Client as client
use Rattle.step_rules.specs.Client.{Client, Current, Owned, Submits, Turn, Finished}
use Rattle.step_rules.specs.ClientAsks.{owned_by}
use Rattle.step_rules.specs.ClientReplies.{on_refusal, on_registered, on_submission}
use Rattle.run_rules.specs.Letters.{client_seed}
use Rattle.run_rules.specs.Book.{Book, all_boxes, own_boxes, owned_box, request_of, serial_of, table_at}
use Rattle.run_rules.specs.Values.{shares_at, writes_at}
use Rattle.run_rules.specs.Frames.{answer_at, answer_with, result_at}
use Rattle.run_rules.specs.Follows.{ClientFollows, CurrentIs, message_told, says}
use Rattle.run_rules.specs.Known.{Known}
use Rattle.run_rules.specs.Laws.{ComesFollows}
use Rattle.run_rules.proofs.Answered.{EndsSo, answer_to}
use Rattle.run_rules.proofs.ClientHears.{client_at}
use Rattle.run_rules.proofs.HelperOrders.{asked_was_sent}
use Rattle.run_rules.proofs.HelperRegistered.{result_is}
use Rattle.run_rules.proofs.HelperRegisters.{line, map_more}
use Rattle.run_rules.proofs.LeaderRegistered.{answer_is, bare_addresses, entry_of}
use Rattle.run_rules.proofs.OwnBoxes.{ended_has, own_length, owned_in}
use Rattle.run_rules.proofs.Places.{place_is}
use Rattle.run_rules.proofs.ReadBasics.{below_is}
use Rattle.run_rules.proofs.ReadBoxes.{later_box, limit_is, table_in, table_now}
use Rattle.run_rules.proofs.ReadCommands.{journal_count}
use Rattle.run_rules.proofs.ReadAnswers.{last_pos, left, left_follows, own_same}
use Rattle.run_rules.proofs.Served.{EndsAt, request_ends, request_now}

-- ---- what a register came to

pub did_register : (b : Book) (v w : World) (c s address i : ℕ) (e : Entry) → Known b v w → w.foreign c ≡ false
    → request_of b c s ≡ Some (Register address) → slice_get w.journal i ≡ Some e → e.line ≡ line c s
    → e.does ≡ AddBox address
did_register b v w c s address i e known hon q is same =
    let hon_e : w.foreign e.line.lane ≡ false = ap (λ x. w.foreign x.lane) same ∙ hon in
    let asked = known.lawful.operations i e is hon_e in
    let sent : request_of b e.line.lane e.line.serial ≡ Some asked.sent.request = asked_was_sent b w e.line.lane e.line.serial asked.sent.request (known.within.sent e.line.lane) asked.sent.is in
    let both : Some asked.sent.request ≡ Some (Register address) = sym sent ∙ ap (λ x. request_of b x.lane x.serial) same ∙ q in
    asked.does ∙ ap (λ x. operation_of ((laws.table_at w i).got x.lane) x.command (Some asked.sent.request)) same ∙ ap (operation_of ((laws.table_at w i).got c) Registers) both

-- a register's result depends on the addresses alone
register_same : (limit address : ℕ) (t u : Table) → addresses t.boxes ≡ addresses u.boxes
    → register_result limit t (box_of address t.boxes) ≡ register_result limit u (box_of address u.boxes)
register_same limit address t u e =
    ap (register_result limit t) (ap (position (λ other. nat_eq other address)) e) ∙ by_found (box_of address u.boxes)
  where
    count : length t.boxes ≡ length u.boxes
    count = sym (length-map t.boxes (λ m. m.address)) ∙ ap length e ∙ length-map u.boxes (λ m. m.address)

    by_found : (found : Option ℕ) → register_result limit t found ≡ register_result limit u found
    by_found (Some k) = refl
    by_found None = ap (λ n. cond (nat_le limit n) (Full limit) (Registered n)) count

share_addresses : (b : Book) (server i : ℕ) → addresses (shares_at b server i).boxes ≡ addresses (table_at b i).boxes
unfolding shares_at
share_addresses b server i =
    sym (bare_addresses (shares_at b server i).boxes)
    ∙ ap (λ t. addresses t.boxes) (outlines_agree b.settings.boxes b.settings.width b.settings.width no_writes (writes_at b server) (take i b.entries))
    ∙ bare_addresses (table_at b i).boxes

registered_in : (limit address : ℕ) (t : Table) (x : Line) → result_of limit no_writes t x (AddBox address) ≡ register_result limit t (box_of address t.boxes)
unfolding result_of
registered_in limit address t x = refl

-- the result at the helper's shares is that of the token run's table
same_result : (b : Book) (v w : World) (c s address i : ℕ) (e : Entry) → Known b v w → w.foreign c ≡ false
    → request_of b c s ≡ Some (Register address) → slice_get w.journal i ≡ Some e → e.line ≡ line c s → i ≤ length w.journal
    → result_of w.limit no_writes (laws.table_at w i) e.line e.does ≡ result_at b 1 i (line c s)
same_result b v w c s address i e known hon q is same low =
    ap₂ (result_of w.limit no_writes (laws.table_at w i)) same (did_register b v w c s address i e known hon q is same)
    ∙ registered_in w.limit address (laws.table_at w i) (line c s)
    ∙ ap₂ (λ n t. register_result n t (box_of address t.boxes)) (limit_is b v w known) (table_in b v w i known low)
    ∙ register_same b.settings.boxes address (table_at b i) (shares_at b 1 i) (sym (share_addresses b 1 i))
    ∙ sym (result_is b i c s address q)

pub data Kind : Result → Type 0 where
  IsRegistered : (n : ℕ) → Kind (Registered n)
  IsTaken : (n : ℕ) → Kind (Taken n)
  IsFull : (n : ℕ) → Kind (Full n)

kind_of : (limit : ℕ) (t : Table) (found : Option ℕ) → Kind (register_result limit t found)
kind_of limit t (Some n) = IsTaken n
kind_of limit t None = by_room (nat_le limit (length t.boxes))
  where
    by_room : (full : Bool) → Kind (cond full (Full limit) (Registered (length t.boxes)))
    by_room true = IsFull limit
    by_room false = IsRegistered (length t.boxes)

-- ---- the client's boxes then

last_same : (xs : List ℕ) (m n : ℕ) → xs ++ m ∷ [] ≡ xs ++ n ∷ [] → m ≡ n
last_same xs m n e =
    let both : Some m ≡ Some n = sym (get_end xs m) ∙ ap (λ l. slice_get l (length xs)) e ∙ get_end xs n in cc

-- the box of its register
new_serial : (b : Book) (v w : World) (c s n : ℕ) → Known b v w → w.foreign c ≡ false → (w.lanes c).serial ≡ s
    → w.table.got c ≡ own_below c s 0 w.table.boxes ++ n ∷ [] → serial_of (slice_get (all_boxes b) n) ≡ s
new_serial b v w c s n known hon same got = elim (known.lawful.first c hon).last [
  | inl old ↦
      let none : own_below c s 0 w.table.boxes ++ n ∷ [] ≡ own_below c s 0 w.table.boxes = sym got ∙ sym old ∙ ap (λ m. own_below c m 0 w.table.boxes) same in
      let more = length-append (own_below c s 0 w.table.boxes) (n ∷ []) in
      let less = ap length none in
      absurd (omega (arith, more, less))
  | inr new ↦
      let all : own_below c s 0 w.table.boxes ++ n ∷ [] ≡ own_below c s 0 w.table.boxes ++ new.number ∷ [] = sym got ∙ new.got ∙ ap (λ m. own_below c m 0 w.table.boxes ++ new.number ∷ []) same in
      let number : n ≡ new.number = last_same _ n new.number all in
      let there : slice_get (table_at b (length w.journal)).boxes n ≡ Some new.box = ap (λ t. slice_get t.boxes n) (sym (table_now b v w known)) ∙ ap (slice_get w.table.boxes) number ∙ new.is in
      let later = later_box b (length w.journal) n new.box there in
      ap serial_of later.is ∙ later.serial ∙ new.serial ∙ same
]

new_owned : (b : Book) (c s n : ℕ) (k : Client) → k.seed ≡ client_seed b.seed c → k.serial ≡ s → serial_of (slice_get (all_boxes b) n) ≡ s
    → owned_by k n k.serial ≡ owned_box b c n
new_owned b c s n k seed serial at =
    ap₂ (λ d m. own d m) seed (serial ∙ sym at)
  where
    own : List ℕ → ℕ → Owned
    own d m = record { number = n; key0 = owner_key d m 0; key1 = owner_key d m 1 }

boxes_more : (b : Book) (c s n : ℕ) → own_below c (suc s) 0 (all_boxes b) ≡ own_below c s 0 (all_boxes b) ++ n ∷ []
    → own_boxes b c (suc s) ≡ own_boxes b c s ++ owned_box b c n ∷ []
unfolding own_boxes
boxes_more b c s n e = ap (map (owned_box b c)) e ∙ map_more (owned_box b c) (own_below c s 0 (all_boxes b)) n

-- ---- how it ends

abbrev registered : Client → ℕ → Client
registered k n = record k { owned = k.owned ++ owned_by k n k.serial ∷ []; current = None; serial = k.serial + 1 }

registered_turn : (k : Client) (address n : ℕ) → answer_to k (record { request = Register address; step = Submits }) (frame.Registered n)
    ≡ record { client = registered k n; progress = Finished (client.Registered n) }
unfolding on_submission on_registered
registered_turn k address n = refl

taken_turn : (k : Client) (n : ℕ) → on_refusal k Submits (refusal.Taken n) ≡ record { client = left k; progress = Finished (client.Refused (refusal.Taken n)) }
unfolding on_refusal
taken_turn k n = refl

full_turn : (k : Client) (n : ℕ) → on_refusal k Submits (refusal.Full n) ≡ record { client = left k; progress = Finished (client.Refused (refusal.Full n)) }
unfolding on_refusal
full_turn k n = refl

module _ (b : Book) (v w : World) (c s address i : ℕ) (k : Client) (known : Known b v w) (hon : w.foreign c ≡ false) (same : (w.lanes c).serial ≡ s)
    (mine : ClientFollows b c k 2 s) (now_own : own_below c s 0 (all_boxes b) ≡ own_below c s 0 w.table.boxes)
    (ended : own_below c (suc s) 0 (all_boxes b) ≡ w.table.got c) where
  abbrev now : Current
  now = record { request = Register address; step = Submits }

  refused : (r : Refusal) → w.table.got c ≡ own_below c s 0 w.table.boxes → answer_at b c s ≡ frame.Refused r
      → answer_to k now (frame.Refused r) ≡ record { client = left k; progress = Finished (client.Refused r) }
      → EndsSo b c s k (w.table.got c) (answer_to k now (answer_at b c s))
  refused r got answer turn =
      let stay : own_below c s 0 (all_boxes b) ≡ own_below c (suc s) 0 (all_boxes b) = now_own ∙ sym got ∙ sym ended in
      record {
        left = left k;
        outcome = client.Refused r;
        is = ap (answer_to k now) answer ∙ turn;
        follows = left_follows b c s 1 k mine (own_same b c s stay);
        all = ap length mine.owned ∙ own_length b c s (w.table.got c) (stay ∙ ended);
        tells = ap (λ x. says x (message_told b c s)) answer;
      }

  got_box : (n : ℕ) → w.table.got c ≡ own_below c s 0 w.table.boxes ++ n ∷ [] → answer_at b c s ≡ frame.Registered n
      → EndsSo b c s k (w.table.got c) (answer_to k now (answer_at b c s))
  got_box n got answer =
      let serial = new_serial b v w c s n known hon same got in
      let more : own_below c (suc s) 0 (all_boxes b) ≡ own_below c s 0 (all_boxes b) ++ n ∷ [] = ended ∙ got ∙ ap (λ l. l ++ n ∷ []) (sym now_own) in
      let owns : k.owned ++ owned_by k n k.serial ∷ [] ≡ own_boxes b c (suc s) =
      ap₂ (λ l x. l ++ x ∷ []) mine.owned (new_owned b c s n k mine.seed mine.number serial) ∙ sym (boxes_more b c s n more) in
      record {
        left = registered k n;
        outcome = client.Registered n;
        is = ap (answer_to k now) answer ∙ registered_turn k address n;
        follows = record { mine = mine.mine; seed = mine.seed; width = mine.width; capacity = mine.capacity; there = λ pos. absurd (omega (arith, pos)); number = ap (λ n. n + 1) mine.number ∙ add-one s; current = refl; owned = owns };
        all = ap length owns ∙ own_length b c (suc s) (w.table.got c) ended;
        tells = ap (λ x. says x (message_told b c s)) answer;
      }

  pub ends_by : (result : Result) → Kind result → RegisterTells w c result → answer_at b c s ≡ answer_with b i (line c s) (result_at b 0 i (line c s)) result
      → EndsSo b c s k (w.table.got c) (answer_to k now (answer_at b c s))
  unfolding answer_with
  ends_by _ (IsRegistered n) tells answer = got_box n (tells.registered n refl ∙ ap (λ m. own_below c m 0 w.table.boxes ++ n ∷ []) same) answer
  ends_by _ (IsTaken n) tells answer = refused (refusal.Taken n) (tells.refused (λ m e. cc e) ∙ ap (λ m. own_below c m 0 w.table.boxes) same) answer (taken_turn k n)
  ends_by _ (IsFull n) tells answer = refused (refusal.Full n) (tells.refused (λ m e. cc e) ∙ ap (λ m. own_below c m 0 w.table.boxes) same) answer (full_turn k n)

pub register_ends : (b : Book) (c s address : ℕ) → b.foreign c ≡ false → request_of b c s ≡ Some (Register address) → EndsAt b c s
register_ends b c s address hon q f v w known h honest same at after now is =
    let ok = known.lawful.coherent in
    let p = known.lawful.stages in
    let pos : 0 < (w.lanes c).step = let l = last_pos (w.lanes c).opening in let e = at.step in omega (arith, l, e) in
    let last = request_now b v w c s (Register address) known honest pos (sym same) q in
    let step : (w.lanes c).step ≡ 2 = at.step ∙ ap last_step last.opening in
    let has : Has (state w p) (line c s) = subst (λ y. HasAll (state w p) c s y) last.opening (subst (λ n. HasAll (state w p) c n (w.lanes c).opening) (sym same) at.has) in
    let i = has.place in
    let carried : i < w.carried = let l = has.acknowledged in let m = ok.acknowledged in omega (arith, l, m) in
    let count = journal_count w p ok in
    let there : slice_get (lines_of w.journal) i ≡ Some (line c s) = rw ok.journal (taken_get w.commands w.carried i (line c s) carried has.is) in
    let e = entry_of w.journal i (line c s) there in
    let result = same_result b v w c s address i e.0 known honest q e.1.0 e.1.1 (omega (arith, carried, count)) in
    let tells = known.lawful.registers no_writes i c e.0 e.1.0 honest (e.1.1 ∙ ap (λ n. line_of c n Registers) same) in
    let mine : ClientFollows b c (f.clients c) 2 s = subst (λ m. ClientFollows b c (f.clients c) 2 m) (sym same) (subst (λ m. ClientFollows b c (f.clients c) m (w.lanes c).serial) step (client_at b f w c h hon)) in
    let below : below_of w c ≡ s = below_is (w.lanes c).step (w.lanes c).serial pos ∙ sym same in
    let own : own_below c s 0 (all_boxes b) ≡ own_below c s 0 w.table.boxes = ap (λ m. own_below c m 0 (all_boxes b)) (sym below) ∙ owned_in b v w c known honest ∙ ap (λ m. own_below c m 0 w.table.boxes) below in
    let ended : own_below c (suc s) 0 (all_boxes b) ≡ w.table.got c = ap (λ m. own_below c (suc m) 0 (all_boxes b)) same ∙ ended_has b v w c known honest (subst (λ m. Known b v (client_moves w c m Finishes)) same after) in
    let here : CurrentIs b c 2 s (Some now) = subst (λ m. CurrentIs b c 2 m (Some now)) (sym same) (subst (λ m. CurrentIs b c m (w.lanes c).serial (Some now)) step is) in
    let now_is : now ≡ record { request = Register address; step = Submits } = same_now now _ here.2 ∙ ap (λ r. record { request = r; step = Submits }) (same_request here.0 (Register address) (sym here.1 ∙ q)) in
    let place = place_is b w p c s i Registers ok known.within honest has.is in
    let t = shares_at b 1 i in
    let made = result_is b i c s address q in
    subst (λ x. EndsSo b c s (f.clients c) (w.table.got c) (answer_to (f.clients c) x (answer_at b c s))) (sym now_is)
    (ends_by b v w c s address i (f.clients c) known honest (sym same) mine own ended (register_result b.settings.boxes t (box_of address t.boxes)) (kind_of b.settings.boxes t (box_of address t.boxes))
    (subst (RegisterTells w c) (result ∙ made) tells) (answer_is b c s i address _ q place made))
  where
    same_request : (x y : Request) → Some x ≡ Some y → x ≡ y
    same_request x y e = cc

    same_now : (x y : Current) → Some x ≡ Some y → x ≡ y
    same_now x y e = cc

pub register_answered : (b : Book) (c s address : ℕ) → b.foreign c ≡ false → request_of b c s ≡ Some (Register address)
    → ComesFollows b (token.Answer c s)
register_answered b c s address hon q = request_ends b c s hon (register_ends b c s address hon q)
