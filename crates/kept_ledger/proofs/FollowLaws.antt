-- What a ledger that follows another one has of it.
use Rattle.std.proofs.Common.{◌≡◌, ◌⊎◌, inl, inr, ℕ, ◌+◌, ◌≤◌, ◌<◌, ◌++◌, List, [], ◌∷◌, Bool, true, false}
use Rattle.std.proofs.Common.{refl}
use Rattle.std.proofs.Common.{Option, Some, None, map, length, sym, ◌∙◌, ap, subst, arith, append_assoc}
use Rattle.std.specs.Prelude.{if◌then◌else◌, not, nat_le, is_some}
use Rattle.std.specs.List.{filter, flat_map}
use Rattle.std.proofs.lemmas.List.{append-nil, length-append}
use Rattle.std.proofs.lemmas.Bool.Decides.{nat_tests}
use Rattle.desk_texts.specs.declared.day.Day.{Day}
use Rattle.mailbox_rules.specs.Requests.{Request}
use Rattle.frame_rules.specs.Frames.{PlainBody}
use Rattle.step_rules.specs.Client.{Client, Current, Fault, Step, Turn, Progress}
use Rattle.step_rules.specs.Client.{Ignored, Later, Next, Finished, opened_client}
use Rattle.step_rules.specs.ClientAsks as asks
use Rattle.step_rules.specs.ClientAsks.{Sent, asked_with, fault_at, owned_by, sends}
use Rattle.step_rules.specs.ClientReplies.{on_reply}
use Rattle.client_core.specs.GivingUp.{given_up, given_up_at}
use Rattle.client_restart.proofs.Turns.{Moves, Turns}
use Rattle.client_restart.proofs.TurnLaws.{reply_turns}
use Rattle.kept_ledger.specs.declared.entry.Denial.TheVariants as denial
use Rattle.kept_ledger.specs.declared.entry.Denied.{Denied as DeniedAt}
use Rattle.kept_ledger.specs.declared.entry.LedgerBox.{LedgerBox}
use Rattle.kept_ledger.specs.declared.entry.NamedBoxes.{NamedBoxes}
use Rattle.kept_ledger.specs.declared.entry.OwnBox.{OwnBox}
use Rattle.kept_ledger.specs.declared.follow.Keeping.{Keeping}
use Rattle.kept_ledger.specs.declared.follow.Keeping.TheVariants.{WithoutLetters, All}
use Rattle.kept_ledger.specs.declared.entry.Marked.{Marked as MarkedLetter}
use Rattle.kept_ledger.specs.declared.entry.Reading.{Reading}
use Rattle.kept_ledger.specs.Follow.{box_note, closed_notes, letter_notes, name_notes}
use Rattle.kept_ledger.specs.Follow.{retiring_notes}
use Rattle.kept_ledger.specs.Laws.{FollowersOwnTheLiveBoxes, NextSerialIsNew}
use Rattle.kept_ledger.specs.Ledgers.{LedgerState, boxes_wanted, box_at, client_or, fits_names, fold_from}
use Rattle.kept_ledger.specs.Ledgers.{ledger_after, opened_ledger, owned_with, owning, owning_at, request_of}
use Rattle.kept_ledger.specs.Ledgers.{step_of, task_at}
use Rattle.kept_ledger.specs.Notes.{Opening, Noted, Named, Closed, Retiring, Marked, Asked, Time, Heard}
use Rattle.kept_ledger.specs.Notes.{GivenUp, Owned, Denied, Carried}
use Rattle.kept_ledger.specs.Tasks.{is_live}
use Rattle.kept_ledger.proofs.SerialLaws.{ended_keeps}
use Rattle.kept_ledger.proofs.TraceLaws.{fold_append}

-- ---- notes that leave client and boxes

-- all of these notes leave them
abbrev IsQuiet : Noted → Type 0
IsQuiet n = (s : LedgerState) → ((step_of s n).client ≡ s.client) × ((step_of s n).boxes ≡ s.boxes)

AreQuiet : List Noted → Type 0
AreQuiet [] = Unit {0}
AreQuiet (n ∷ notes) = IsQuiet n × AreQuiet notes

quiet_append : (xs ys : List Noted) → AreQuiet xs → AreQuiet ys → AreQuiet (xs ++ ys)
unfolding AreQuiet
quiet_append [] ys first second = second
quiet_append (x ∷ xs) ys first second = (first.0, quiet_append xs ys first.1 second)

quiet_fold : (s : LedgerState) (notes : List Noted) → AreQuiet notes
    → ((fold_from s notes).client ≡ s.client) × ((fold_from s notes).boxes ≡ s.boxes)
unfolding fold_from AreQuiet
quiet_fold s [] quiet = (refl, refl)
quiet_fold s (n ∷ notes) quiet =
    let here = quiet.0 s in
    let rest = quiet_fold (step_of s n) notes quiet.1 in (rest.0 ∙ here.0, rest.1 ∙ here.1)

by_test : (s now : LedgerState) (b : Bool) → (now.client ≡ s.client) × (now.boxes ≡ s.boxes)
    → ((if b then now else s).client ≡ s.client) × ((if b then now else s).boxes ≡ s.boxes)
by_test s now true q = q
by_test s now false q = (refl, refl)

closed_quiet : (name : List ℕ) (closed : Option Day) → AreQuiet (closed_notes name closed)
unfolding AreQuiet
closed_quiet name None = tt
closed_quiet name (Some day) = (λ s. (refl, refl), tt)

retiring_quiet : (name : List ℕ) (b : Bool) → AreQuiet (retiring_notes name b)
unfolding AreQuiet
retiring_quiet name true = (λ s. (refl, refl), tt)
retiring_quiet name false = tt

name_quiet : (n : NamedBoxes) → AreQuiet (name_notes n)
unfolding AreQuiet
name_quiet n = (
  λ s. by_test s (record s {
    named = s.named ++ boxes_wanted (record { name = n.name; addresses = n.addresses; until = n.until }) ∷ [];
  }) (fits_names s.named (record { name = n.name; addresses = n.addresses; until = n.until })) (refl, refl),
  quiet_append (closed_notes n.name n.closed) (retiring_notes n.name n.is_retiring) (closed_quiet n.name
      n.closed) (retiring_quiet n.name n.is_retiring),
)

names_quiet : (named : List NamedBoxes) → AreQuiet (flat_map name_notes named)
unfolding AreQuiet
names_quiet [] = tt
names_quiet (n ∷ named) =
    quiet_append (name_notes n) (flat_map name_notes named) (name_quiet n) (names_quiet named)

denied_quiet : (denied : List DeniedAt) → AreQuiet (map Denied denied)
unfolding AreQuiet
denied_quiet [] = tt
denied_quiet (d ∷ denied) = (λ s. (refl, refl), denied_quiet denied)

readings_quiet : (readings : List Reading) → AreQuiet (map Carried readings)
unfolding AreQuiet
readings_quiet [] = tt
readings_quiet (r ∷ readings) = (λ s. (refl, refl), readings_quiet readings)

marks_quiet : (marks : List MarkedLetter) → AreQuiet (map Marked marks)
unfolding AreQuiet
marks_quiet [] = tt
marks_quiet (m ∷ marks) = (λ s. (refl, refl), marks_quiet marks)

letters_quiet : (keeping : Keeping) (s : LedgerState) → AreQuiet (letter_notes keeping s)
unfolding AreQuiet
letters_quiet WithoutLetters s = tt
letters_quiet All s =
    quiet_append (map Carried s.readings) (map Marked s.marks) (readings_quiet s.readings) (marks_quiet s.marks)

-- ---- the boxes

-- idle, with room for so many boxes more
record HasRoomFor (count : ℕ) (c : Client) : Type 0 where
  idle : c.current ≡ None
  room : length c.owned + count ≤ c.capacity

abbrev with_own : Client → OwnBox → Client
with_own c b = record c { owned = c.owned ++ owned_by c b.number b.serial ∷ [] }

not_full : (full : Bool) (c : Client) (b : OwnBox) (now : Option Current) → full ≡ false → now ≡ None
    → owning_at now (if full then None else Some (with_own c b)) ≡ Some (with_own c b)
not_full true c b now e idle = absurd (cc e)
not_full false c b (Some x) e idle = absurd (cc idle)
not_full false c b None e idle = refl

less : (capacity count n : ℕ) → n + (count + 1) ≤ capacity → nat_le capacity n ≡ false
less capacity count n room = grind (arith, nat_tests)

owning_is : (c : Client) (b : OwnBox) (count : ℕ) → HasRoomFor (count + 1) c
    → owning c b ≡ Some (with_own c b)
unfolding asks.owning
owning_is c b count has =
    not_full (nat_le c.capacity (length c.owned)) c b c.current (less c.capacity count (length c.owned)
    has.room) has.idle

own_room : (c : Client) (b : OwnBox) (count : ℕ) → HasRoomFor (count + 1) c → HasRoomFor count (with_own c b)
own_room c b count has =
    let more = length-append c.owned (owned_by c b.number b.serial ∷ []) in
    let room = has.room in
    record { idle = has.idle; room = omega (arith, more, room) }

abbrev as_own : LedgerBox → OwnBox
as_own b = record { number = b.number; serial = b.serial; address = b.address }

abbrev owned_state : LedgerState → LedgerBox → LedgerState
owned_state s b = record s {
  client = with_own s.client (as_own b);
  boxes = s.boxes ++ box_at b.number b.serial b.address ∷ [];
}

owns : (s : LedgerState) (b : LedgerBox) (count : ℕ) → HasRoomFor (count + 1) s.client
    → step_of s (Owned (as_own b)) ≡ owned_state s b
owns s b count has = ap (owned_with s (as_own b)) (owning_is s.client (as_own b) count has)

live_box : (b : LedgerBox) → b.is_retired ≡ false → box_at b.number b.serial b.address ≡ b
live_box b e =
    ap (λ (x : Bool). let made : LedgerBox = record {
      address = b.address;
      number = b.number;
      serial = b.serial;
      is_retired = x;
    } in made) (sym e)

-- one more box in front, where the rest is done
one_box : (s : LedgerState) (b : LedgerBox) (boxes : List LedgerBox) (retired : Bool) → b.is_retired ≡ retired
    → ((t : LedgerState) → HasRoomFor (length (filter is_live boxes)) t.client
    → (fold_from t (map box_note boxes)).boxes ≡ t.boxes ++ filter is_live boxes)
    → HasRoomFor (length (if not retired then b ∷ filter is_live boxes else filter is_live boxes)) s.client
    → (fold_from (step_of s (if retired then Denied (record {
      address = b.address;
      denial = denial.Retired;
    }) else Owned (as_own b))) (map box_note boxes)).boxes
    ≡ s.boxes ++ (if not retired then b ∷ filter is_live boxes else filter is_live boxes)
one_box s b boxes true e rest has = rest (step_of s (Denied (record {
  address = b.address;
  denial = denial.Retired;
}))) has
one_box s b boxes false e rest has =
    let count = length (filter is_live boxes) in
    let room = has.room in
    let some : HasRoomFor (count + 1) s.client = record { idle = has.idle; room = omega (arith, room) } in
    ap (λ (x : LedgerState). (fold_from x (map box_note boxes)).boxes) (owns s b count some)
    ∙ rest (owned_state s b) (own_room s.client (as_own b) count some)
    ∙ append_assoc s.boxes (box_at b.number b.serial b.address ∷ []) (filter is_live boxes)
    ∙ ap (λ (x : LedgerBox). s.boxes ++ (x ∷ filter is_live boxes)) (live_box b e)

fold_boxes : (boxes : List LedgerBox) (s : LedgerState) → HasRoomFor (length (filter is_live boxes)) s.client
    → (fold_from s (map box_note boxes)).boxes ≡ s.boxes ++ filter is_live boxes
unfolding fold_from
fold_boxes [] s has = sym (append-nil s.boxes)
fold_boxes (b ∷ boxes) s has = one_box s b boxes b.is_retired refl (fold_boxes boxes) has

opened_room : (o : Opening) (count : ℕ) → count ≤ o.pair.boxes → HasRoomFor count (opened_ledger o).client
unfolding opened_client
opened_room o count few = record { idle = refl; room = omega (arith, few) }

pub followers_own_the_live_boxes : FollowersOwnTheLiveBoxes
followers_own_the_live_boxes keeping s o few =
    let names = flat_map name_notes s.named in
    let denied = map Denied s.denied in
    let boxes = map box_note s.boxes in
    let letters = letter_notes keeping s in
    let start = opened_ledger o in
    let first = fold_append start names (denied ++ (boxes ++ letters)) in
    let second = fold_append (fold_from start names) denied (boxes ++ letters) in
    let before = fold_from (fold_from start names) denied in
    let third = fold_append before boxes letters in
    let quiet_names = quiet_fold start names (names_quiet s.named) in
    let quiet_denied = quiet_fold (fold_from start names) denied (denied_quiet s.denied) in
    let client : before.client ≡ start.client = quiet_denied.0 ∙ quiet_names.0 in
    let none : before.boxes ≡ [] = quiet_denied.1 ∙ quiet_names.1 in
    let has : HasRoomFor (length (filter is_live s.boxes)) before.client =
    subst (λ (c : Client). HasRoomFor (length (filter is_live s.boxes)) c) (sym client) (opened_room o (length (filter is_live s.boxes)) few) in
    ap (λ (x : LedgerState). x.boxes) (first ∙ second ∙ third)
    ∙ (quiet_fold (fold_from before boxes) letters (letters_quiet keeping s)).1
    ∙ fold_boxes s.boxes before has
    ∙ ap (λ (l : List LedgerBox). l ++ filter is_live s.boxes) none

-- ---- a serial that was used

-- the serial is past, or its request is current
abbrev Stays : ℕ → Client → Type 0
Stays used c = (used < c.serial) ⊎ ((c.serial ≡ used) × ((now : Current) × (c.current ≡ Some now)))

same_stays : (used : ℕ) (c d : Client) → d ≡ c → Stays used c → Stays used d
same_stays used c d e stays = subst (Stays used) (sym e) stays

ask_busy : (c : Client) (request : Request) (now : Current) → c.current ≡ Some now
    → client_or c (asks.asked c request) ≡ c
unfolding asks.asked
ask_busy c request now e =
    ap (λ (x : Option Current). client_or c (asked_with c request (fault_at c request x))) e

asked_serial : (c : Client) (request : Request) (f : Option Fault)
    → (client_or c (asked_with c request f)).serial ≡ c.serial
asked_serial c request None = refl
asked_serial c request (Some f) = refl

ask_serial : (c : Client) (request : Request) → (client_or c (asks.asked c request)).serial ≡ c.serial
unfolding asks.asked
ask_serial c request = asked_serial c request (fault_at c request c.current)

ask_stays : (used : ℕ) (c : Client) (request : Request) → Stays used c
    → Stays used (client_or c (asks.asked c request))
ask_stays used c request (inl past) = let same = ask_serial c request in inl (omega (arith, past, same))
ask_stays used c request (inr at) =
    same_stays used c (client_or c (asks.asked c request)) (ask_busy c request at.1.0 at.1.1) (inr at)

moves_stays : (used : ℕ) (c d : Client) (request : Request) (p : Progress) → Moves c request d p
    → Stays used c → Stays used d
moves_stays used c d request Ignored m stays = same_stays used c d m stays
moves_stays used c d request (Later r) m stays = same_stays used c d m stays
moves_stays used c d request Next m (inl past) =
    let same = ap (λ (x : Client). x.serial) m.1 in inl (omega (arith, past, same))
moves_stays used c d request Next m (inr at) =
    inr (ap (λ (x : Client). x.serial) m.1 ∙ at.0, (_, ap (λ (x : Client). x.current) m.1))
moves_stays used c d request (Finished o) m (inl past) =
    let same = ap (λ (x : Client). x.serial) m in inl (omega (arith, past, same))
moves_stays used c d request (Finished o) m (inr at) =
    let same = ap (λ (x : Client). x.serial) m in let here = at.0 in inl (omega (arith, here, same))

turn_stays : (used : ℕ) (c : Client) (now : Option Current) (t : Turn) → Turns c now t → Stays used c
    → Stays used t.client
turn_stays used c None t turns stays = same_stays used c t.client turns.0 stays
turn_stays used c (Some now) t turns stays =
    moves_stays used c t.client now.request t.progress turns stays

give_up_at : (used : ℕ) (c : Client) (now : Option Current) → c.current ≡ now → Stays used c
    → Stays used (given_up_at c now)
give_up_at used c None e stays = stays
give_up_at used c (Some now) e (inl past) = inl (omega (arith, past))
give_up_at used c (Some now) e (inr at) = let here = at.0 in inl (omega (arith, here))

give_up_stays : (used : ℕ) (c : Client) → Stays used c → Stays used (given_up c)
unfolding given_up
give_up_stays used c stays = give_up_at used c c.current refl stays

own_if : (used : ℕ) (s : LedgerState) (b : OwnBox) (full : Bool) (now : Option Current)
    → s.client.current ≡ now → Stays used s.client
    → Stays used (owned_with s b (owning_at now (if full then None else Some (with_own s.client b)))).client
own_if used s b true None e stays = stays
own_if used s b true (Some x) e stays = stays
own_if used s b false (Some x) e stays = stays
own_if used s b false None e (inl past) = inl past
own_if used s b false None e (inr at) = inr at

own_stays : (used : ℕ) (s : LedgerState) (b : OwnBox) → Stays used s.client
    → Stays used (owned_with s b (owning s.client b)).client
unfolding asks.owning
own_stays used s b stays =
    own_if used s b (nat_le s.client.capacity (length s.client.owned)) s.client.current refl stays

named_stays : (used : ℕ) (s now : LedgerState) (b : Bool) → now.client ≡ s.client → Stays used s.client
    → Stays used (if b then now else s).client
named_stays used s now true e stays = same_stays used s.client now.client e stays
named_stays used s now false e stays = stays

step_stays : (used : ℕ) (s : LedgerState) (n : Noted) → Stays used s.client → Stays used (step_of s n).client
step_stays used s (Named w) stays =
    named_stays used s (record s { named = s.named ++ boxes_wanted w ∷ [] }) (fits_names s.named w) refl stays
step_stays used s (Closed name day) stays = stays
step_stays used s (Retiring name) stays = stays
step_stays used s (Marked m) stays = stays
step_stays used s (Asked t) stays = ask_stays used s.client (request_of t) stays
step_stays used s (Time seconds) stays = stays
step_stays used s (Heard frame) stays =
    let k = ended_keeps (record s { client = (on_reply s.client frame).client }) s.client.serial
    (task_at s.client.current) (on_reply s.client frame).progress in
    same_stays used (on_reply s.client frame).client (step_of s (Heard frame)).client k.client
    (turn_stays used s.client s.client.current (on_reply s.client frame) (reply_turns s.client frame) stays)
step_stays used s GivenUp stays = give_up_stays used s.client stays
step_stays used s (Owned b) stays = own_stays used s b stays
step_stays used s (Denied d) stays = stays
step_stays used s (Carried r) stays = stays

stays_through : (used : ℕ) (s : LedgerState) (notes : List Noted) → Stays used s.client
    → Stays used (fold_from s notes).client
unfolding fold_from
stays_through used s [] stays = stays
stays_through used s (n ∷ notes) stays = stays_through used (step_of s n) notes (step_stays used s n stays)

sent_with_serial : (c : Client) (step : Step) (body : Option PlainBody) (t : Sent)
    → asks.sent_with c step body ≡ Some t → t.frame.serial ≡ c.serial
sent_with_serial c step None t e = absurd (cc e)
sent_with_serial c step (Some body) t e =
    let made : record {
      server = asks.server_of step;
      frame = record { lane = c.lane; serial = c.serial; link = 0; body = body };
    } ≡ t = cc in ap (λ (x : Sent). x.frame.serial) (sym made)

sent_at : (c : Client) (now : Option Current) (t : Sent) → asks.sent_at c now ≡ Some t
    → (t.frame.serial ≡ c.serial) × ((x : Current) × (now ≡ Some x))
sent_at c None t e = absurd (cc e)
sent_at c (Some x) t e = (sent_with_serial c x.step (asks.body_of c x.request x.step) t e, (x, refl))

sent_is : (c : Client) (t : Sent) → sends c ≡ Some t
    → (t.frame.serial ≡ c.serial) × ((x : Current) × (c.current ≡ Some x))
unfolding asks.sends
sent_is c t e = sent_at c c.current t e

below_next : (used : ℕ) (s : LedgerState) (now : Option Current) → s.client.current ≡ now
    → Stays used s.client → used < (if is_some now then s.client.serial + 1 else s.client.serial)
below_next used s None e (inl past) = past
below_next used s (Some x) e (inl past) = omega (arith, past)
below_next used s None e (inr at) = let no : None ≡ Some at.1.0 = sym e ∙ at.1.1 in absurd (cc no)
below_next used s (Some x) e (inr at) = let here = at.0 in omega (arith, here)

pub next_serial_is_new : NextSerialIsNew
next_serial_is_new o notes more t sent =
    let s = ledger_after o notes in
    let is = sent_is s.client t sent in
    let start : Stays t.frame.serial s.client = inr (sym is.0, is.1) in
    let then_stays = stays_through t.frame.serial s more start in
    let same : ledger_after o (notes ++ more) ≡ fold_from s more = fold_append (opened_ledger o) notes more in
    let stays = subst (λ (x : LedgerState). Stays t.frame.serial x.client) (sym same) then_stays in
    below_next t.frame.serial (ledger_after o (notes ++ more)) (ledger_after o (notes ++ more)).client.current
    refl stays
