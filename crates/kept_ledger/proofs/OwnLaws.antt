-- The client's own boxes are those of the ledger.
use Rattle.std.proofs.Common.{◌≡◌, ℕ, ◌++◌, List, [], ◌∷◌, Bool, true, false, Option, Some, None, Result}
use Rattle.std.proofs.Common.{Ok, Err, map, refl, sym, ◌∙◌, ap, subst}
use Rattle.std.specs.Prelude.{if◌then◌else◌, ◌==◌, nat_le, length, slice_get}
use Rattle.std.proofs.lemmas.List.{map-append}
use Rattle.express_words.specs.declared.refusal.Refusal.{Refusal}
use Rattle.express_words.specs.declared.refusal.Refusal.TheVariants as refusal
use Rattle.frame_rules.specs.Frames as frame
use Rattle.frame_rules.specs.Frames.{PlainFrame, PlainBody}
use Rattle.frame_rules.specs.Whole.{whole}
use Rattle.mailbox_rules.specs.Requests as plain
use Rattle.mailbox_rules.specs.Requests.{Request}
use Rattle.step_rules.specs.Client.{Client, Current, Fault, Owned as OwnedBox, Step, Deposits, Submits}
use Rattle.step_rules.specs.Client.{ProvesToHelper, ProvesToLeader, Turn, Outcome, Progress, Registered}
use Rattle.step_rules.specs.Client.{Accepted}
use Rattle.step_rules.specs.Client.{Message, Refused, Ignored, Later, Next, Finished, opened_client}
use Rattle.step_rules.specs.ClientAsks as asks
use Rattle.step_rules.specs.ClientAsks.{asked_with, fault_at, owned_by}
use Rattle.step_rules.specs.ClientReplies.{by_refusal, by_step, ended, finished, if_current, if_whole}
use Rattle.step_rules.specs.ClientReplies.{ignores}
use Rattle.step_rules.specs.ClientReplies.{is_mine, of_no_frame, on_challenge, on_deposit, on_helper_proof}
use Rattle.step_rules.specs.ClientReplies.{on_leader_proof, on_message, on_refusal, on_reply}
use Rattle.step_rules.specs.ClientReplies.{on_submission, refusal_in, unmasked}
use Rattle.client_core.specs.GivingUp.{given_up, given_up_at}
use Rattle.client_restart.proofs.Turns.{Moves, Turns}
use Rattle.client_restart.proofs.TurnLaws.{reply_turns}
use Rattle.kept_ledger.specs.declared.entry.LedgerBox.{LedgerBox}
use Rattle.kept_ledger.specs.declared.entry.OwnBox.{OwnBox}
use Rattle.kept_ledger.specs.declared.task.Task.{Task}
use Rattle.kept_ledger.specs.declared.task.Task.TheVariants.{Register, Read, Retire}
use Rattle.kept_ledger.specs.Laws.{BoxesAreTheClients, own_box}
use Rattle.kept_ledger.specs.Ledgers.{LedgerState, box_at, boxes_wanted, client_or, ended_by, fits_names}
use Rattle.kept_ledger.specs.Ledgers.{fold_from, ledger_after, of_register, opened_ledger, owned_with, owning}
use Rattle.kept_ledger.specs.Ledgers.{owning_at, request_of, step_of, task_at, task_in}
use Rattle.kept_ledger.specs.Notes.{Opening, Noted, Named, Closed, Retiring, Marked, Asked, Time, Heard}
use Rattle.kept_ledger.specs.Notes.{GivenUp, Owned, Denied, Carried}
use Rattle.kept_ledger.proofs.ReadLaws.{going, part, read_boxes, retire_boxes}
use Rattle.kept_ledger.proofs.SerialLaws.{ended_keeps}

-- ---- only a register gives a box

IsRegister : Request → Type 0
IsRegister (plain.Register address) = Unit {0}
IsRegister (plain.Write target message) = ⊥
IsRegister (plain.Read own) = ⊥
IsRegister (plain.Retire own) = ⊥

abbrev Gives : Request → Turn → Type 0
Gives request t = (n : ℕ) → t.progress ≡ Finished (Registered n) → IsRegister request

either : (request : Request) (b : Bool) (t u : Turn) → Gives request t → Gives request u
    → Gives request (if b then t else u)
either request true t u first second = first
either request false t u first second = second

module _ (c : Client) (request : Request) where
  ended_gives : (step : Step) (r : Refusal) → Gives request (ended c step r)
  ended_gives Deposits r n e = absurd (cc e)
  ended_gives Submits r n e = absurd (cc e)
  ended_gives (ProvesToHelper ckey) r n e = absurd (cc e)
  ended_gives (ProvesToLeader ckey) r n e = absurd (cc e)

  refusal_gives : (step : Step) (r : Refusal) → Gives request (on_refusal c step r)
  unfolding on_refusal
  refusal_gives step (refusal.Lane limit) n e = absurd (cc e)
  refusal_gives step (refusal.Taken m) n e = ended_gives step (refusal.Taken m) n e
  refusal_gives step (refusal.Full limit) n e = ended_gives step (refusal.Full limit) n e
  refusal_gives step (refusal.NoBox m) n e = ended_gives step (refusal.NoBox m) n e
  refusal_gives step (refusal.BadToken m) n e = ended_gives step (refusal.BadToken m) n e
  refusal_gives step refusal.NoDeposit n e = ended_gives step refusal.NoDeposit n e
  refusal_gives step refusal.NotProved n e = ended_gives step refusal.NotProved n e
  refusal_gives step (refusal.Rejected a b d f) n e = ended_gives step (refusal.Rejected a b d f) n e
  refusal_gives step (refusal.Stale serial) n e = absurd (cc e)
  refusal_gives step (refusal.Phase phase) n e = absurd (cc e)
  refusal_gives step (refusal.Again number) n e = absurd (cc e)
  refusal_gives step (refusal.LinkDown count) n e = absurd (cc e)
  refusal_gives step (refusal.Malformed place) n e = absurd (cc e)
  refusal_gives step (refusal.Version version) n e = absurd (cc e)

  deposit_gives : (body : PlainBody) → Gives request (on_deposit c request body)
  unfolding on_deposit
  deposit_gives (frame.Held false) n e = absurd (cc e)
  deposit_gives body n e = absurd (cc e)

  challenge_gives : (body : PlainBody) → Gives request (on_challenge c request body)
  unfolding on_challenge
  challenge_gives (frame.Challenge ckey) n e = absurd (cc e)
  challenge_gives body n e = absurd (cc e)

  message_gives : (own : Option OwnedBox) (body : PlainBody) → Gives request (on_message c own body)
  unfolding on_message
  message_gives (Some own) (frame.Message zero one) =
      either request (length zero == c.width) (finished c (Message (unmasked c own zero one))) (ignores c)
      (λ n e. absurd (cc e)) (λ n e. absurd (cc e))
  message_gives own body = λ n e. absurd (cc e)

  helper_proof_gives : (ckey : List ℕ) (body : PlainBody) → Gives request (on_helper_proof c request ckey body)
  unfolding on_helper_proof
  helper_proof_gives ckey (frame.Held true) n e = absurd (cc e)
  helper_proof_gives ckey body n e = absurd (cc e)

  leader_proof_gives : (body : PlainBody) → Gives request (on_leader_proof c body)
  unfolding on_leader_proof
  leader_proof_gives frame.Accepted n e = absurd (cc e)
  leader_proof_gives body n e = absurd (cc e)

submission_gives : (c : Client) (request : Request) (body : PlainBody)
    → Gives request (on_submission c request body)
unfolding on_submission IsRegister
submission_gives c (plain.Register address) body = λ n e. tt
submission_gives c (plain.Write target message) body = challenge_gives c (plain.Write target message) body
submission_gives c (plain.Read own) body = message_gives c (plain.Read own) (slice_get c.owned own) body
submission_gives c (plain.Retire own) body = message_gives c (plain.Retire own) (slice_get c.owned own) body

step_gives : (c : Client) (request : Request) (step : Step) (body : PlainBody)
    → Gives request (by_step c request step body)
step_gives c request Deposits body = deposit_gives c request body
step_gives c request Submits body = submission_gives c request body
step_gives c request (ProvesToHelper ckey) body = helper_proof_gives c request ckey body
step_gives c request (ProvesToLeader ckey) body = leader_proof_gives c request body

frame_gives : (c : Client) (now : Current) (f : PlainFrame) (r : Option Refusal)
    → Gives now.request (by_refusal c now f r)
unfolding by_refusal
frame_gives c now f None =
    either now.request (is_mine c f) (by_step c now.request now.step f.body) (ignores c)
    (step_gives c now.request now.step f.body) (λ n e. absurd (cc e))
frame_gives c now f (Some r) =
    either now.request (of_no_frame r) _ _ (λ n e. absurd (cc e))
    (either now.request (is_mine c f) (on_refusal c now.step r) (ignores c)
    (refusal_gives c now.request now.step r) (λ n e. absurd (cc e)))

abbrev GivesAt : Option Current → Turn → Type 0
GivesAt None t = (n : ℕ) → t.progress ≡ Finished (Registered n) → ⊥
GivesAt (Some now) t = Gives now.request t

current_gives : (c : Client) (f : PlainFrame) (now : Option Current) → GivesAt now (if_current c f now)
unfolding if_current
current_gives c f None = λ n e. cc e
current_gives c f (Some now) = frame_gives c now f (refusal_in f.body)

ignores_gives : (c : Client) (now : Option Current) → GivesAt now (ignores c)
ignores_gives c None = λ n e. cc e
ignores_gives c (Some now) = λ n e. absurd (cc e)

whole_gives : (c : Client) (w : Result PlainFrame Refusal) → GivesAt c.current (if_whole c w)
unfolding if_whole
whole_gives c (Err r) = ignores_gives c c.current
whole_gives c (Ok f) = current_gives c f c.current

reply_gives : (c : Client) (bytes : List ℕ) → GivesAt c.current (on_reply c bytes)
reply_gives c bytes = whole_gives c (whole bytes)

-- ---- each own box has the keys of its serial

abbrev seeded : List ℕ → Client
seeded seed = record {
  lane = 0;
  seed = seed;
  width = 0;
  capacity = 0;
  owned = [];
  serial = 0;
  current = None;
}

abbrev keyed : List ℕ → OwnBox → OwnedBox
keyed seed b = owned_by (seeded seed) b.number b.serial

-- these are the client's own boxes
abbrev AreOwn : Client → List OwnBox → Type 0
AreOwn c boxes = c.owned ≡ map (keyed c.seed) boxes

same_own : (c d : Client) (xs ys : List OwnBox) → d.owned ≡ c.owned → d.seed ≡ c.seed → ys ≡ xs → AreOwn c xs
    → AreOwn d ys
same_own c d xs ys owned seed same own =
    owned ∙ own ∙ ap (λ (x : List ℕ). map (keyed x) xs) (sym seed)
    ∙ ap (λ (l : List OwnBox). map (keyed d.seed) l) (sym same)

one_more : (c d : Client) (xs : List OwnBox) (b : OwnBox)
    → d.owned ≡ c.owned ++ owned_by c b.number b.serial ∷ [] → d.seed ≡ c.seed → AreOwn c xs
    → AreOwn d (xs ++ b ∷ [])
one_more c d xs b owned seed own =
    owned ∙ ap (λ (l : List OwnedBox). l ++ owned_by c b.number b.serial ∷ []) own
    ∙ sym (map-append (keyed c.seed) xs (b ∷ []))
    ∙ ap (λ (x : List ℕ). map (keyed x) (xs ++ b ∷ [])) (sym seed)

-- ---- a frame

register_part : (s : LedgerState) (serial address : ℕ) (o : Outcome)
    → ((n : ℕ) → o ≡ Registered n → ⊥) → part (of_register s serial address o) ≡ part s
register_part s serial address (Registered n) never = absurd (never n refl)
register_part s serial address (Refused (refusal.Taken n)) never = refl
register_part s serial address (Refused (refusal.Full n)) never = refl
register_part s serial address o never = refl

other_part : (s : LedgerState) (serial : ℕ) (t : Option Task) (p : Progress)
    → ((n : ℕ) → p ≡ Finished (Registered n) → ⊥) → part (ended_by s serial t p) ≡ part s
other_part s serial (Some (Register a)) (Finished o) never =
    register_part s serial a o (λ n e. never n (ap (λ (x : Outcome). Finished x) e))
other_part s serial (Some (Read own)) (Finished o) never =
    ap (λ (l : List LedgerBox). map own_box l) (read_boxes s own o)
other_part s serial (Some (Retire own)) (Finished o) never = retire_boxes s own o
other_part s serial (Some t) Ignored never = refl
other_part s serial (Some t) (Later r) never = refl
other_part s serial (Some t) Next never = refl
other_part s serial None p never = refl

-- the box, where a register ends so
registered_part : (s : LedgerState) (n serial : ℕ) (request : Request) → IsRegister request
    → (address : ℕ) × (part (ended_by s serial (task_in request) (Finished (Registered n)))
    ≡ part s ++ record { number = n; serial = serial; address = address } ∷ [])
unfolding IsRegister
registered_part s n serial (plain.Register a) is =
    (a, map-append own_box s.boxes (box_at n serial a ∷ []))
registered_part s n serial (plain.Write target message) is = absurd is
registered_part s n serial (plain.Read own) is = absurd is
registered_part s n serial (plain.Retire own) is = absurd is

abbrev after_turn : LedgerState → Client → LedgerState
after_turn s d = record s { client = d }

module _ (s : LedgerState) (own : AreOwn s.client (part s)) where
  moved : (d : Client) (now : Current) (p : Progress) → Moves s.client now.request d p
      → ((n : ℕ) → p ≡ Finished (Registered n) → IsRegister now.request)
      → AreOwn d (part (ended_by (after_turn s d) s.client.serial (task_in now.request) p))
  moved d now (Finished (Registered n)) m gives =
      let more = registered_part (after_turn s d) n s.client.serial now.request (gives n refl) in
      subst (λ (l : List OwnBox). AreOwn d l) (sym more.1)
      (one_more s.client d (part s) (record { number = n; serial = s.client.serial; address = more.0 })
      (ap (λ (x : Client). x.owned) m) (ap (λ (x : Client). x.seed) m) own)
  moved d now (Finished Accepted) m gives =
      same_own s.client d (part s) _ (ap (λ (x : Client). x.owned) m) (ap (λ (x : Client). x.seed) m)
      (other_part (after_turn s d) s.client.serial (task_in now.request) (Finished Accepted) (λ n e. cc e)) own
  moved d now (Finished (Message bytes)) m gives =
      same_own s.client d (part s) _ (ap (λ (x : Client). x.owned) m) (ap (λ (x : Client). x.seed) m)
      (other_part (after_turn s d) s.client.serial (task_in now.request) (Finished (Message bytes)) (λ n e. cc
      e)) own
  moved d now (Finished (Refused r)) m gives =
      same_own s.client d (part s) _ (ap (λ (x : Client). x.owned) m) (ap (λ (x : Client). x.seed) m)
      (other_part (after_turn s d) s.client.serial (task_in now.request) (Finished (Refused r)) (λ n e. cc
      e)) own
  moved d now Ignored m gives =
      same_own s.client d (part s) _ (ap (λ (x : Client). x.owned) m) (ap (λ (x : Client). x.seed) m)
      (other_part (after_turn s d) s.client.serial (task_in now.request) Ignored (λ n e. cc e)) own
  moved d now (Later r) m gives =
      same_own s.client d (part s) _ (ap (λ (x : Client). x.owned) m) (ap (λ (x : Client). x.seed) m)
      (other_part (after_turn s d) s.client.serial (task_in now.request) (Later r) (λ n e. cc e)) own
  moved d now Next m gives =
      same_own s.client d (part s) _ (ap (λ (x : Client). x.owned) m.1) (ap (λ (x : Client). x.seed) m.1)
      (other_part (after_turn s d) s.client.serial (task_in now.request) Next (λ n e. cc e)) own

  turned : (now : Option Current) (t : Turn) → Turns s.client now t → GivesAt now t
      → AreOwn t.client (part (ended_by (after_turn s t.client) s.client.serial (task_at now) t.progress))
  turned None t turns gives =
      same_own s.client t.client (part s) _ (ap (λ (x : Client). x.owned) turns.0) (ap (λ (x : Client). x.seed)
      turns.0) refl own
  turned (Some now) t turns gives = moved t.client now t.progress turns gives

  heard_own : (bytes : List ℕ) → AreOwn (step_of s (Heard bytes)).client (part (step_of s (Heard bytes)))
  heard_own bytes =
      let k = ended_keeps (going s bytes) s.client.serial (task_at s.client.current) (on_reply s.client
      bytes).progress in
      subst (λ (c : Client). AreOwn c (part (step_of s (Heard bytes)))) (sym k.client)
      (turned s.client.current (on_reply s.client bytes) (reply_turns s.client bytes) (reply_gives s.client
      bytes))

-- ---- any note

asked_own : (c : Client) (request : Request) (f : Option Fault) (xs : List OwnBox) → AreOwn c xs
    → AreOwn (client_or c (asked_with c request f)) xs
asked_own c request None xs own = own
asked_own c request (Some f) xs own = own

ask_own : (c : Client) (request : Request) (xs : List OwnBox) → AreOwn c xs
    → AreOwn (client_or c (asks.asked c request)) xs
unfolding asks.asked
ask_own c request xs own = asked_own c request (fault_at c request c.current) xs own

give_up_at : (c : Client) (now : Option Current) (xs : List OwnBox) → AreOwn c xs → AreOwn (given_up_at c now) xs
give_up_at c None xs own = own
give_up_at c (Some now) xs own = own

give_up_own : (c : Client) (xs : List OwnBox) → AreOwn c xs → AreOwn (given_up c) xs
unfolding given_up
give_up_own c xs own = give_up_at c c.current xs own

own_if : (s : LedgerState) (b : OwnBox) (full : Bool) (now : Option Current) → AreOwn s.client (part s)
    → AreOwn (owned_with s b (owning_at now (if full then None else Some (record s.client {
      owned = s.client.owned ++ owned_by s.client b.number b.serial ∷ [];
    })))).client (part (owned_with s b (owning_at now (if full then None else Some (record s.client {
      owned = s.client.owned ++ owned_by s.client b.number b.serial ∷ [];
    })))))
own_if s b true None own = own
own_if s b true (Some x) own = own
own_if s b false (Some x) own = own
own_if s b false None own =
    subst (λ (l : List OwnBox). AreOwn (record s.client {
      owned = s.client.owned ++ owned_by s.client b.number b.serial ∷ [];
    }) l) (sym (map-append own_box s.boxes (box_at b.number b.serial b.address ∷ [])))
    (one_more s.client (record s.client {
      owned = s.client.owned ++ owned_by s.client b.number b.serial ∷ [];
    }) (part s) b refl refl own)

own_own : (s : LedgerState) (b : OwnBox) → AreOwn s.client (part s)
    → AreOwn (owned_with s b (owning s.client b)).client (part (owned_with s b (owning s.client b)))
unfolding asks.owning
own_own s b own = own_if s b (nat_le s.client.capacity (length s.client.owned)) s.client.current own

named_own : (s now : LedgerState) (b : Bool) → now.client ≡ s.client → now.boxes ≡ s.boxes
    → AreOwn s.client (part s) → AreOwn (if b then now else s).client (part (if b then now else s))
named_own s now true client boxes own =
    same_own s.client now.client (part s) (part now) (ap (λ (x : Client). x.owned) client) (ap (λ (x : Client).
    x.seed) client) (ap (λ (l : List LedgerBox). map own_box l) boxes) own
named_own s now false client boxes own = own

step_own : (s : LedgerState) (n : Noted) → AreOwn s.client (part s)
    → AreOwn (step_of s n).client (part (step_of s n))
step_own s (Named w) own =
    named_own s (record s { named = s.named ++ boxes_wanted w ∷ [] }) (fits_names s.named w) refl refl own
step_own s (Closed name day) own = own
step_own s (Retiring name) own = own
step_own s (Marked m) own = own
step_own s (Asked t) own = ask_own s.client (request_of t) (part s) own
step_own s (Time seconds) own = own
step_own s (Heard bytes) own = heard_own s own bytes
step_own s GivenUp own = give_up_own s.client (part s) own
step_own s (Owned b) own = own_own s b own
step_own s (Denied d) own = own
step_own s (Carried r) own = own

own_through : (s : LedgerState) (notes : List Noted) → AreOwn s.client (part s)
    → AreOwn (fold_from s notes).client (part (fold_from s notes))
unfolding fold_from
own_through s [] own = own
own_through s (n ∷ notes) own = own_through (step_of s n) notes (step_own s n own)

opened_own : (o : Opening) → AreOwn (opened_ledger o).client (part (opened_ledger o))
unfolding opened_client
opened_own o = refl

keyed_boxes : (c : Client) (boxes : List LedgerBox) → map (keyed c.seed) (map own_box boxes)
    ≡ map (λ (b : LedgerBox). owned_by c b.number b.serial) boxes
keyed_boxes c [] = refl
keyed_boxes c (b ∷ boxes) =
    ap (λ (l : List OwnedBox). owned_by c b.number b.serial ∷ l) (keyed_boxes c boxes)

pub boxes_are_the_clients : BoxesAreTheClients
boxes_are_the_clients o notes =
    own_through (opened_ledger o) notes (opened_own o)
    ∙ keyed_boxes (ledger_after o notes).client (ledger_after o notes).boxes
