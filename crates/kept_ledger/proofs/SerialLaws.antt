-- A ledger's client is one that remembers, so what holds of those holds of it.
use Rattle.std.proofs.Common.{◌≡◌, ℕ, ◌++◌, List, [], ◌∷◌, Bool, true, false, Option, Some, None, map}
use Rattle.std.proofs.Common.{refl}
use Rattle.std.proofs.Common.{sym, ◌∙◌, ap, subst, arith}
use Rattle.std.specs.Prelude.{if◌then◌else◌, slice_get, Result, Ok, Err}
use Rattle.std.proofs.lemmas.List.{map-append}
use Rattle.express_words.specs.declared.refusal.Refusal.TheVariants as refusal
use Rattle.step_rules.specs.Client.{Client, Current, Fault, Outcome, Progress, Registered, Message}
use Rattle.step_rules.specs.Client.{Refused}
use Rattle.step_rules.specs.Client.{Ignored, Later, Next, Finished, opened_client}
use Rattle.step_rules.specs.ClientAsks as asks
use Rattle.step_rules.specs.ClientAsks.{Sent, sends}
use Rattle.step_rules.specs.ClientReplies.{on_reply}
use Rattle.client_restart.specs.Histories.{AreOfOne, Happening, Called, notes_of, after}
use Rattle.client_core.specs.GivingUp.{given_up}
use Rattle.client_restart.specs.Notes as remembered
use Rattle.client_restart.specs.Steps as client
use Rattle.client_restart.specs.Steps.{CoreState}
use Rattle.client_restart.specs.declared.opening.ClientOpening.{ClientOpening}
use Rattle.client_restart.specs.declared.owned_box.OwnedBox.{OwnedBox}
use Rattle.client_restart.proofs.HistoryLaws.{happenings_go, frames_are_one}
use Rattle.kept_ledger.specs.declared.entry.LedgerBox.{LedgerBox}
use Rattle.kept_ledger.specs.declared.entry.OwnBox.{OwnBox}
use Rattle.kept_ledger.specs.declared.task.Task.{Task}
use Rattle.kept_ledger.specs.declared.task.Task.TheVariants.{Register, Read, Retire}
use Rattle.kept_ledger.specs.Laws.{FramesAreOfOneRequest, LedgersKeepTheirOpening, SerialsRise}
use Rattle.kept_ledger.specs.Ledgers.{LedgerState, are_zeros, client_or, ended_by, fits_names, fold_from}
use Rattle.kept_ledger.specs.Ledgers.{ledger_after}
use Rattle.kept_ledger.specs.Ledgers.{of_read, of_register, of_retire, of_task, owned_with}
use Rattle.kept_ledger.specs.Ledgers.{opened_ledger, owning, owning_at, boxes_wanted, reading_at}
use Rattle.kept_ledger.specs.Ledgers.{reading_with}
use Rattle.kept_ledger.specs.Ledgers.{request_of, step_of, task_at}
use Rattle.kept_ledger.specs.Notes.{Opening, Noted, Named, Closed, Retiring, Marked, Asked, Time, Heard}
use Rattle.kept_ledger.specs.Notes.{GivenUp, Owned, Denied, Carried}

-- ---- what comes of a request leaves the client, the pair and the seed

pub record Keeps (s now : LedgerState) : Type 0 where
  pub client : now.client ≡ s.client
  pub pair : now.pair ≡ s.pair
  pub seed : now.seed ≡ s.seed
  pub named : now.named ≡ s.named
  pub marks : now.marks ≡ s.marks

keeps : (s : LedgerState) → Keeps s s
keeps s = record { client = refl; pair = refl; seed = refl; named = refl; marks = refl }

-- of a state that has the same parts
same_parts : (s now : LedgerState) → now.client ≡ s.client → now.pair ≡ s.pair → now.seed ≡ s.seed
    → now.named ≡ s.named → now.marks ≡ s.marks → Keeps s now
same_parts s now client pair seed named marks =
    record { client = client; pair = pair; seed = seed; named = named; marks = marks }

keeps_if : (s now : LedgerState) (b : Bool) → Keeps s now → Keeps s (if b then s else now)
keeps_if s now true k = keeps s
keeps_if s now false k = k

register_keeps : (s : LedgerState) (serial address : ℕ) (o : Outcome)
    → Keeps s (of_register s serial address o)
register_keeps s serial address (Registered number) = same_parts _ _ refl refl refl refl refl
register_keeps s serial address (Refused (refusal.Taken n)) = same_parts _ _ refl refl refl refl refl
register_keeps s serial address (Refused (refusal.Full n)) = same_parts _ _ refl refl refl refl refl
register_keeps s serial address o = keeps s

reading_keeps : (s : LedgerState) (b : Option LedgerBox) (bytes : List ℕ) → Keeps s (reading_with s b bytes)
reading_keeps s None bytes = keeps s
reading_keeps s (Some b) bytes =
    keeps_if s (record s { readings = s.readings ++ reading_at b.address s.seconds bytes ∷ [] })
    (are_zeros bytes) (same_parts _ _ refl refl refl refl refl)

read_keeps : (s : LedgerState) (own : ℕ) (o : Outcome) → Keeps s (of_read s own o)
read_keeps s own (Message bytes) = reading_keeps s (slice_get s.boxes own) bytes
read_keeps s own o = keeps s

retire_keeps : (s : LedgerState) (own : ℕ) (o : Outcome) → Keeps s (of_retire s own o)
retire_keeps s own (Message bytes) =
    let k = reading_keeps s (slice_get s.boxes own) bytes in
    record { client = k.client; pair = k.pair; seed = k.seed; named = k.named; marks = k.marks }
retire_keeps s own (Refused (refusal.NoBox n)) = same_parts _ _ refl refl refl refl refl
retire_keeps s own o = keeps s

task_keeps : (s : LedgerState) (serial : ℕ) (t : Task) (o : Outcome) → Keeps s (of_task s serial t o)
task_keeps s serial (Register address) o = register_keeps s serial address o
task_keeps s serial (Read own) o = read_keeps s own o
task_keeps s serial (Retire own) o = retire_keeps s own o

pub ended_keeps : (s : LedgerState) (serial : ℕ) (t : Option Task) (p : Progress)
    → Keeps s (ended_by s serial t p)
ended_keeps s serial (Some t) (Finished o) = task_keeps s serial t o
ended_keeps s serial (Some t) Ignored = keeps s
ended_keeps s serial (Some t) (Later r) = keeps s
ended_keeps s serial (Some t) Next = keeps s
ended_keeps s serial None p = keeps s

-- ---- a note of the ledger is one of the client's, or none to it

abbrev as_client : Noted → remembered.Noted
as_client (Named w) = remembered.Remark []
as_client (Closed name day) = remembered.Remark []
as_client (Retiring name) = remembered.Remark []
as_client (Marked m) = remembered.Remark []
as_client (Asked t) = remembered.Asked (request_of t)
as_client (Time seconds) = remembered.Remark []
as_client (Heard frame) = remembered.Heard frame
as_client GivenUp = remembered.GivenUp
as_client (Owned b) = remembered.Owned b.number b.serial
as_client (Denied d) = remembered.Remark []
as_client (Carried r) = remembered.Remark []

named_client : (s now : LedgerState) (b : Bool) → now.client ≡ s.client
    → s.client ≡ (if b then now else s).client
named_client s now true e = sym e
named_client s now false e = refl

owned_client : (k : CoreState) (s : LedgerState) (more : OwnedBox) (b : OwnBox) (now : Option Current)
    (c : Option Client) → k.client ≡ s.client
    → (client.owned_with k more now c).client ≡ (owned_with s b (owning_at now c)).client
owned_client k s more b None (Some c) e = refl
owned_client k s more b None None e = e
owned_client k s more b (Some now) (Some c) e = e
owned_client k s more b (Some now) None e = e

step_client : (k : CoreState) (s : LedgerState) (n : Noted) → k.client ≡ s.client
    → (client.step_of k (as_client n)).client ≡ (step_of s n).client
step_client k s (Named w) e =
    e ∙ named_client s (record s { named = s.named ++ boxes_wanted w ∷ [] }) (fits_names s.named w) refl
step_client k s (Closed name day) e = e
step_client k s (Retiring name) e = e
step_client k s (Marked m) e = e
step_client k s (Asked t) e =
    ap (λ (c : Client). client.client_or c (asks.asked c (request_of t))) e
    ∙ same s.client (asks.asked s.client (request_of t))
  where
    same : (c : Client) (r : Result Client Fault) → client.client_or c r ≡ client_or c r
    same c (Ok taken) = refl
    same c (Err fault) = refl
step_client k s (Time seconds) e = e
step_client k s (Heard frame) e =
    ap (λ (c : Client). (on_reply c frame).client) e
    ∙ sym (ended_keeps (record s { client = (on_reply s.client frame).client }) s.client.serial
    (task_at s.client.current) (on_reply s.client frame).progress).client
step_client k s GivenUp e = ap given_up e
step_client k s (Owned b) e =
    let more : OwnedBox = record { number = b.number; serial = b.serial } in
    ap (λ (c : Client). (client.owned_with k more c.current (asks.owning c b.number b.serial)).client) e
    ∙ owned_client k s more b s.client.current (asks.owning s.client b.number b.serial) e
step_client k s (Denied d) e = e
step_client k s (Carried r) e = e

-- ---- histories

abbrev called : Noted → Happening
called n = Called (as_client n)

fold_client : (k : CoreState) (s : LedgerState) (notes : List Noted) → k.client ≡ s.client
    → (client.fold_from k (notes_of (map called notes))).client ≡ (fold_from s notes).client
unfolding fold_from
fold_client k s [] e = e
fold_client k s (n ∷ notes) e =
    fold_client (client.step_of k (as_client n)) (step_of s n) notes (step_client k s n e)

abbrev client_opening : Opening → ClientOpening
client_opening o = record {
  lane = o.pair.lane;
  width = o.pair.width;
  capacity = o.pair.boxes;
  first_serial = o.first_serial;
  seed = o.seed;
}

after_client : (o : Opening) (notes : List Noted)
    → (after (client_opening o) (map called notes)).client ≡ (ledger_after o notes).client
after_client o notes = fold_client (client.opened (client_opening o)) (opened_ledger o) notes refl

more_client : (o : Opening) (notes more : List Noted)
    → (after (client_opening o) (map called notes ++ map called more)).client
    ≡ (ledger_after o (notes ++ more)).client
more_client o notes more =
    ap (λ (h : List Happening). (after (client_opening o) h).client) (sym (map-append called notes more))
    ∙ after_client o (notes ++ more)

pub serials_rise : SerialsRise
serials_rise o notes more =
    let goes = (happenings_go (client_opening o) (map called notes) (map called more)).serial in
    let before = ap (λ (c : Client). c.serial) (after_client o notes) in
    let behind = ap (λ (c : Client). c.serial) (more_client o notes more) in
    omega (arith, goes, before, behind)

pub frames_are_of_one_request : FramesAreOfOneRequest
frames_are_of_one_request o notes more s t first second same =
    let before = after_client o notes in
    let behind = more_client o notes more in
    let one = frames_are_one (client_opening o) (map called notes) (map called more) s t
    (ap sends before ∙ first) (ap sends behind ∙ second) same in
    subst (λ (c : Client). AreOfOne c (ledger_after o (notes ++ more)).client) before
    (subst (λ (c : Client). AreOfOne (after (client_opening o) (map called notes)).client c) behind one)

-- ---- what stays

record Same (s now : LedgerState) : Type 0 where
  pair : now.pair ≡ s.pair
  seed : now.seed ≡ s.seed

test_same : (s now : LedgerState) (b : Bool) → Same s now → Same s (if b then now else s)
test_same s now true k = k
test_same s now false k = record { pair = refl; seed = refl }

owned_same : (s : LedgerState) (b : OwnBox) (c : Option Client) → Same s (owned_with s b c)
owned_same s b None = record { pair = refl; seed = refl }
owned_same s b (Some c) = record { pair = refl; seed = refl }

step_same : (s : LedgerState) (n : Noted) → Same s (step_of s n)
step_same s (Named w) =
    test_same s (record s { named = s.named ++ boxes_wanted w ∷ [] }) (fits_names s.named w)
    (record { pair = refl; seed = refl })
step_same s (Closed name day) = record { pair = refl; seed = refl }
step_same s (Retiring name) = record { pair = refl; seed = refl }
step_same s (Marked m) = record { pair = refl; seed = refl }
step_same s (Asked t) = record { pair = refl; seed = refl }
step_same s (Time seconds) = record { pair = refl; seed = refl }
step_same s (Heard frame) =
    let k = ended_keeps (record s { client = (on_reply s.client frame).client }) s.client.serial
    (task_at s.client.current) (on_reply s.client frame).progress in
    record { pair = k.pair; seed = k.seed }
step_same s GivenUp = record { pair = refl; seed = refl }
step_same s (Owned b) = owned_same s b (owning s.client b)
step_same s (Denied d) = record { pair = refl; seed = refl }
step_same s (Carried r) = record { pair = refl; seed = refl }

fold_same : (s : LedgerState) (notes : List Noted) → Same s (fold_from s notes)
unfolding fold_from
fold_same s [] = record { pair = refl; seed = refl }
fold_same s (n ∷ notes) =
    let first = step_same s n in
    let rest = fold_same (step_of s n) notes in
    record { pair = rest.pair ∙ first.pair; seed = rest.seed ∙ first.seed }

opened_seed : (o : Opening) → (opened_ledger o).client.seed ≡ o.seed
unfolding opened_client
opened_seed o = refl

opened_lane : (o : Opening) → (opened_ledger o).client.lane ≡ o.pair.lane
unfolding opened_client
opened_lane o = refl

pub ledgers_keep_their_opening : LedgersKeepTheirOpening
ledgers_keep_their_opening o notes =
    let same = fold_same (opened_ledger o) notes in
    let goes = happenings_go (client_opening o) [] (map called notes) in
    let now = after_client o notes in
    record {
      pair = same.pair;
      seed = same.seed;
      drawn = ap (λ (c : Client). c.seed) (sym now) ∙ goes.seed ∙ opened_seed o;
      lane = ap (λ (c : Client). c.lane) (sym now) ∙ goes.lane ∙ opened_lane o;
    }
