-- Readings are what boxes held, and boxes were registered.
use Rattle.std.proofs.Common.{◌≡◌, ◌⊎◌, inl, inr, ℕ, zero, suc, ◌++◌, List, [], ◌∷◌, Bool, true, false}
use Rattle.std.proofs.Common.{Option}
use Rattle.std.proofs.Common.{Some, None, map, refl, sym, ◌∙◌, ap, subst}
use Rattle.std.specs.Prelude.{if◌then◌else◌, slice_get, slice_set}
use Rattle.std.proofs.lemmas.List.{append-nil, map-append}
use Rattle.express_words.specs.declared.refusal.Refusal.TheVariants as refusal
use Rattle.step_rules.specs.Client.{Client, Outcome, Progress, Registered, Message}
use Rattle.step_rules.specs.Client.{Refused}
use Rattle.step_rules.specs.Client.{Ignored, Later, Next, Finished}
use Rattle.step_rules.specs.ClientReplies.{on_reply}
use Rattle.kept_ledger.specs.declared.entry.LedgerBox.{LedgerBox}
use Rattle.kept_ledger.specs.declared.entry.OwnBox.{OwnBox}
use Rattle.kept_ledger.specs.declared.entry.Reading.{Reading}
use Rattle.kept_ledger.specs.declared.task.Task.{Task}
use Rattle.kept_ledger.specs.declared.task.Task.TheVariants.{Register, Read, Retire}
use Rattle.kept_ledger.specs.Laws.{BoxesWereRegistered, Has, IsHeardBox, IsHeardReading, NoReadingIsLeftOut}
use Rattle.kept_ledger.specs.Laws.{ReadingsAreWhatBoxesHeld, ReadsBox, TellsBox, TellsReading, own_box}
use Rattle.kept_ledger.specs.Ledgers.{LedgerState, are_zeros, box_at, boxes_wanted, ended_by, fits_names}
use Rattle.kept_ledger.specs.Ledgers.{fold_from, ledger_after, of_read, of_register, of_retire}
use Rattle.kept_ledger.specs.Ledgers.{owned_with, owning, reading_at, reading_with, retired_in}
use Rattle.kept_ledger.specs.Ledgers.{step_of, task_at}
use Rattle.kept_ledger.specs.Notes.{Noted, Named, Closed, Retiring, Marked, Asked, Time, Heard}
use Rattle.kept_ledger.specs.Notes.{GivenUp, Owned, Denied, Carried}
use Rattle.kept_ledger.proofs.TraceLaws.{Traced, after_more, has_front, has_last, has_push, told}

-- ---- the readings behind a frame

abbrev pub going : LedgerState → List ℕ → LedgerState
going s frame = record s { client = (on_reply s.client frame).client }

-- in what follows a frame comes to a ledger that asks for this
module _ (s : LedgerState) (frame : List ℕ) where
  register_readings : (serial address : ℕ) (o : Outcome)
      → (of_register (going s frame) serial address o).readings ≡ s.readings
  register_readings serial address (Registered number) = refl
  register_readings serial address (Refused (refusal.Taken n)) = refl
  register_readings serial address (Refused (refusal.Full n)) = refl
  register_readings serial address o = refl

  abbrev IsAsked : ℕ → Type 0
  IsAsked own =
      (task_at s.client.current ≡ Some (Read own)) ⊎ (task_at s.client.current ≡ Some (Retire own))

  by_zeros : (own : ℕ) (b : LedgerBox) (bytes : List ℕ) (zeros : Bool) → IsAsked own
      → slice_get s.boxes own ≡ Some b → (on_reply s.client frame).progress ≡ Finished (Message bytes)
      → are_zeros bytes ≡ zeros → (r : Reading)
      → Has (if zeros then going s frame else record (going s frame) {
        readings = s.readings ++ reading_at b.address s.seconds bytes ∷ [];
      }).readings r
      → Has s.readings r ⊎ IsHeardReading s (Heard frame) r
  by_zeros own b bytes true asked box ends zeros r has = inl has
  by_zeros own b bytes false asked box ends zeros r has =
      elim (has_push s.readings (reading_at b.address s.seconds bytes) r has) [
        | inl was ↦ inl was
        | inr same ↦ inr (subst (λ (x : Reading). IsHeardReading s (Heard frame) x) same (record {
          box = b;
          read = record { frame = frame; is = refl; own = own; asked = asked; box = box; ends = ends };
          address = refl;
          seconds = refl;
          told = zeros;
        }))
      ]

  by_box : (own : ℕ) (b : Option LedgerBox) (bytes : List ℕ) → IsAsked own
      → slice_get s.boxes own ≡ b → (on_reply s.client frame).progress ≡ Finished (Message bytes)
      → (r : Reading) → Has (reading_with (going s frame) b bytes).readings r
      → Has s.readings r ⊎ IsHeardReading s (Heard frame) r
  by_box own None bytes asked box ends r has = inl has
  by_box own (Some b) bytes asked box ends r has =
      by_zeros own b bytes (are_zeros bytes) asked box ends refl r has

  by_read : (own : ℕ) (o : Outcome) → IsAsked own → (on_reply s.client frame).progress ≡ Finished o
      → (r : Reading) → Has (of_read (going s frame) own o).readings r
      → Has s.readings r ⊎ IsHeardReading s (Heard frame) r
  by_read own (Message bytes) asked ends r has =
      by_box own (slice_get s.boxes own) bytes asked refl ends r has
  by_read own o asked ends r has = inl has

  by_retire : (own : ℕ) (o : Outcome) → IsAsked own → (on_reply s.client frame).progress ≡ Finished o
      → (r : Reading) → Has (of_retire (going s frame) own o).readings r
      → Has s.readings r ⊎ IsHeardReading s (Heard frame) r
  by_retire own (Message bytes) asked ends r has =
      by_box own (slice_get s.boxes own) bytes asked refl ends r has
  by_retire own (Refused (refusal.NoBox n)) asked ends r has = inl has
  by_retire own o asked ends r has = inl has

  by_end : (t : Option Task) (p : Progress) → task_at s.client.current ≡ t
      → (on_reply s.client frame).progress ≡ p → (r : Reading)
      → Has (ended_by (going s frame) s.client.serial t p).readings r
      → Has s.readings r ⊎ IsHeardReading s (Heard frame) r
  by_end (Some (Register a)) (Finished o) asked ends r has =
      inl (subst (λ (l : List Reading). Has l r) (register_readings s.client.serial a o) has)
  by_end (Some (Read own)) (Finished o) asked ends r has = by_read own o (inl asked) ends r has
  by_end (Some (Retire own)) (Finished o) asked ends r has = by_retire own o (inr asked) ends r has
  by_end (Some t) Ignored asked ends r has = inl has
  by_end (Some t) (Later x) asked ends r has = inl has
  by_end (Some t) Next asked ends r has = inl has
  by_end None p asked ends r has = inl has

named_readings : (s now : LedgerState) (b : Bool) → now.readings ≡ s.readings
    → (if b then now else s).readings ≡ s.readings
named_readings s now true e = e
named_readings s now false e = refl

owned_readings : (s : LedgerState) (b : OwnBox) (c : Option Client)
    → (owned_with s b c).readings ≡ s.readings
owned_readings s b None = refl
owned_readings s b (Some c) = refl

step_readings : (s : LedgerState) (n : Noted) (r : Reading) → Has (step_of s n).readings r
    → Has s.readings r ⊎ TellsReading r s n
step_readings s (Named w) r has =
    inl (subst (λ (l : List Reading). Has l r) (named_readings s (record s {
      named = s.named ++ boxes_wanted w ∷ [];
    }) (fits_names s.named w) refl) has)
step_readings s (Closed name day) r has = inl has
step_readings s (Retiring name) r has = inl has
step_readings s (Marked m) r has = inl has
step_readings s (Asked t) r has = inl has
step_readings s (Time seconds) r has = inl has
step_readings s (Heard frame) r has =
    elim (by_end s frame (task_at s.client.current) (on_reply s.client frame).progress refl refl r has) [
      | inl was ↦ inl was
      | inr heard ↦ inr (inl heard)
    ]
step_readings s GivenUp r has = inl has
step_readings s (Owned b) r has =
    inl (subst (λ (l : List Reading). Has l r) (owned_readings s b (owning s.client b)) has)
step_readings s (Denied d) r has = inl has
step_readings s (Carried x) r has = elim (has_push s.readings x r has) [
  | inl was ↦ inl was
  | inr same ↦ inr (inr (ap (λ (y : Reading). Carried y) same))
]

abbrev traced_readings : Traced Reading
traced_readings = record {
  part = λ s. s.readings;
  Tells = TellsReading;
  step = step_readings;
  none = λ o. refl;
}

pub readings_are_what_boxes_held : ReadingsAreWhatBoxesHeld
readings_are_what_boxes_held o notes r has = told traced_readings o r notes has

-- ---- none is left out

pub record Grows (s now : LedgerState) : Type 0 where
  pub more : List Reading
  pub is : now.readings ≡ s.readings ++ more

grown : (s now : LedgerState) → now.readings ≡ s.readings → Grows s now
grown s now e = record { more = []; is = e ∙ sym (append-nil s.readings) }

grows_if : (s now : LedgerState) (b : Bool) → Grows s now → Grows s (if b then s else now)
grows_if s now true g = grown s s refl
grows_if s now false g = g

box_grows : (s : LedgerState) (b : Option LedgerBox) (bytes : List ℕ) → Grows s (reading_with s b bytes)
box_grows s None bytes = grown s s refl
box_grows s (Some b) bytes =
    grows_if s (record s { readings = s.readings ++ reading_at b.address s.seconds bytes ∷ [] })
    (are_zeros bytes) (record { more = reading_at b.address s.seconds bytes ∷ []; is = refl })

read_grows : (s : LedgerState) (own : ℕ) (o : Outcome) → Grows s (of_read s own o)
read_grows s own (Message bytes) = box_grows s (slice_get s.boxes own) bytes
read_grows s own o = grown s s refl

retire_grows : (s : LedgerState) (own : ℕ) (o : Outcome) → Grows s (of_retire s own o)
retire_grows s own (Message bytes) =
    let g = box_grows s (slice_get s.boxes own) bytes in record { more = g.more; is = g.is }
retire_grows s own (Refused (refusal.NoBox n)) = grown s _ refl
retire_grows s own o = grown s s refl

register_grows : (s : LedgerState) (serial address : ℕ) (o : Outcome)
    → Grows s (of_register s serial address o)
register_grows s serial address (Registered number) = grown s _ refl
register_grows s serial address (Refused (refusal.Taken n)) = grown s _ refl
register_grows s serial address (Refused (refusal.Full n)) = grown s _ refl
register_grows s serial address o = grown s s refl

ended_grows : (s : LedgerState) (serial : ℕ) (t : Option Task) (p : Progress)
    → Grows s (ended_by s serial t p)
ended_grows s serial (Some (Register a)) (Finished o) = register_grows s serial a o
ended_grows s serial (Some (Read own)) (Finished o) = read_grows s own o
ended_grows s serial (Some (Retire own)) (Finished o) = retire_grows s own o
ended_grows s serial (Some t) Ignored = grown s s refl
ended_grows s serial (Some t) (Later r) = grown s s refl
ended_grows s serial (Some t) Next = grown s s refl
ended_grows s serial None p = grown s s refl

pub step_grows : (s : LedgerState) (n : Noted) → Grows s (step_of s n)
step_grows s (Named w) =
    grown s _ (named_readings s (record s { named = s.named ++ boxes_wanted w ∷ [] }) (fits_names s.named w)
    refl)
step_grows s (Closed name day) = grown s _ refl
step_grows s (Retiring name) = grown s _ refl
step_grows s (Marked m) = grown s _ refl
step_grows s (Asked t) = grown s _ refl
step_grows s (Time seconds) = grown s _ refl
step_grows s (Heard frame) =
    let g = ended_grows (going s frame) s.client.serial (task_at s.client.current)
    (on_reply s.client frame).progress in
    record { more = g.more; is = g.is }
step_grows s GivenUp = grown s _ refl
step_grows s (Owned b) = grown s _ (owned_readings s b (owning s.client b))
step_grows s (Denied d) = grown s _ refl
step_grows s (Carried r) = record { more = r ∷ []; is = refl }

stays : (s : LedgerState) (notes : List Noted) (r : Reading) → Has s.readings r
    → Has (fold_from s notes).readings r
unfolding fold_from
stays s [] r has = has
stays s (n ∷ notes) r has =
    let g = step_grows s n in
    stays (step_of s n) notes r (subst (λ (l : List Reading). Has l r) (sym g.is) (has_front s.readings g.more
    r has))

abbrev held : LedgerState → LedgerBox → List ℕ → Reading
held s b bytes = reading_at b.address s.seconds bytes

put_there : (s : LedgerState) (b : LedgerBox) (bytes : List ℕ) (zeros : Bool) → zeros ≡ false
    → Has (if zeros then s else record s { readings = s.readings ++ held s b bytes ∷ [] }).readings (held s b
    bytes)
put_there s b bytes true told = absurd (cc told)
put_there s b bytes false told = has_last s.readings (held s b bytes)

there : (s : LedgerState) (b : LedgerBox) (now : Option LedgerBox) (bytes : List ℕ) → now ≡ Some b
    → are_zeros bytes ≡ false → Has (reading_with s now bytes).readings (held s b bytes)
there s b now bytes is told =
    subst (λ (x : Option LedgerBox). Has (reading_with s x bytes).readings (held s b bytes)) (sym is)
    (put_there s b bytes (are_zeros bytes) told)

by_task : (s : LedgerState) (b : LedgerBox) (bytes : List ℕ) (serial own : ℕ) (t : Option Task)
    → (t ≡ Some (Read own)) ⊎ (t ≡ Some (Retire own)) → slice_get s.boxes own ≡ Some b
    → are_zeros bytes ≡ false
    → Has (ended_by s serial t (Finished (Message bytes))).readings (held s b bytes)
by_task s b bytes serial own t (inl read) box told =
    subst (λ (x : Option Task). Has (ended_by s serial x (Finished (Message bytes))).readings (held s b
    bytes)) (sym read) (there s b (slice_get s.boxes own) bytes box told)
by_task s b bytes serial own t (inr retire) box told =
    subst (λ (x : Option Task). Has (ended_by s serial x (Finished (Message bytes))).readings (held s b
    bytes)) (sym retire) (there s b (slice_get s.boxes own) bytes box told)

step_reads : (s : LedgerState) (n : Noted) (b : LedgerBox) (bytes : List ℕ) → ReadsBox s n b bytes
    → are_zeros bytes ≡ false → Has (step_of s n).readings (held s b bytes)
step_reads s n b bytes read told =
    let ended = by_task (going s read.frame) b bytes s.client.serial read.own (task_at s.client.current)
    read.asked read.box told in
    let by_progress = subst (λ (p : Progress). Has (ended_by (going s read.frame) s.client.serial (task_at
    s.client.current) p).readings (held s b bytes)) (sym read.ends) ended in
    subst (λ (x : Noted). Has (step_of s x).readings (held s b bytes)) (sym read.is) by_progress

pub no_reading_is_left_out : NoReadingIsLeftOut
no_reading_is_left_out o before rest n b bytes read told =
    let s = ledger_after o before in
    subst (λ (x : LedgerState). Has x.readings (held s b bytes)) (sym (after_more o before rest n))
    (stays (step_of s n) rest (held s b bytes) (step_reads s n b bytes read told))

-- ---- boxes

map_set : (xs : List LedgerBox) (i : ℕ) (b x : LedgerBox) → slice_get xs i ≡ Some b → own_box x ≡ own_box b
    → map own_box (slice_set xs i x) ≡ map own_box xs
map_set [] i b x e same = absurd (cc e)
map_set (y ∷ xs) zero b x e same =
    let first : y ≡ b = cc e in
    ap (λ (z : OwnBox). z ∷ map own_box xs) (same ∙ ap own_box (sym first))
map_set (y ∷ xs) (suc i) b x e same = ap (λ (l : List OwnBox). own_box y ∷ l) (map_set xs i b x e same)

retired_boxes : (boxes : List LedgerBox) (own : ℕ) (b : Option LedgerBox) → slice_get boxes own ≡ b
    → map own_box (retired_in boxes own b) ≡ map own_box boxes
retired_boxes boxes own None e = refl
retired_boxes boxes own (Some b) e = map_set boxes own b (record b { is_retired = true }) e refl

abbrev pub part : LedgerState → List OwnBox
part s = map own_box s.boxes

boxes_if : (s now : LedgerState) (b : Bool) → now.boxes ≡ s.boxes → (if b then s else now).boxes ≡ s.boxes
boxes_if s now true e = refl
boxes_if s now false e = e

reading_boxes : (s : LedgerState) (b : Option LedgerBox) (bytes : List ℕ)
    → (reading_with s b bytes).boxes ≡ s.boxes
reading_boxes s None bytes = refl
reading_boxes s (Some b) bytes =
    boxes_if s (record s { readings = s.readings ++ reading_at b.address s.seconds bytes ∷ [] })
    (are_zeros bytes) refl

pub read_boxes : (s : LedgerState) (own : ℕ) (o : Outcome) → (of_read s own o).boxes ≡ s.boxes
read_boxes s own (Message bytes) = reading_boxes s (slice_get s.boxes own) bytes
read_boxes s own o = refl

pub retire_boxes : (s : LedgerState) (own : ℕ) (o : Outcome) → part (of_retire s own o) ≡ part s
retire_boxes s own (Message bytes) =
    ap (λ (l : List LedgerBox). map own_box (retired_in l own (slice_get l own))) (reading_boxes s (slice_get
    s.boxes own) bytes)
    ∙ retired_boxes s.boxes own (slice_get s.boxes own) refl
retire_boxes s own (Refused (refusal.NoBox n)) = retired_boxes s.boxes own (slice_get s.boxes own) refl
retire_boxes s own o = refl

module _ (s : LedgerState) (frame : List ℕ) where
  by_register : (address : ℕ) (o : Outcome) → task_at s.client.current ≡ Some (Register address)
      → (on_reply s.client frame).progress ≡ Finished o → (x : OwnBox)
      → Has (part (of_register (going s frame) s.client.serial address o)) x
      → Has (part s) x ⊎ IsHeardBox s (Heard frame) x
  by_register address (Registered number) asked ends x has =
      let more = subst (λ (l : List OwnBox). Has l x) (map-append own_box s.boxes (box_at number
      s.client.serial address ∷ [])) has in
      elim (has_push (part s) (own_box (box_at number s.client.serial address)) x more) [
        | inl was ↦ inl was
        | inr same ↦ inr (subst (λ (y : OwnBox). IsHeardBox s (Heard frame) y) same (record {
          frame = frame;
          is = refl;
          asked = asked;
          serial = refl;
          ends = ends;
        }))
      ]
  by_register address (Refused (refusal.Taken n)) asked ends x has = inl has
  by_register address (Refused (refusal.Full n)) asked ends x has = inl has
  by_register address o asked ends x has = inl has

  box_by_end : (t : Option Task) (p : Progress) → task_at s.client.current ≡ t
      → (on_reply s.client frame).progress ≡ p → (x : OwnBox)
      → Has (part (ended_by (going s frame) s.client.serial t p)) x
      → Has (part s) x ⊎ IsHeardBox s (Heard frame) x
  box_by_end (Some (Register a)) (Finished o) asked ends x has = by_register a o asked ends x has
  box_by_end (Some (Read own)) (Finished o) asked ends x has =
      inl (subst (λ (l : List LedgerBox). Has (map own_box l) x) (read_boxes (going s frame) own o) has)
  box_by_end (Some (Retire own)) (Finished o) asked ends x has =
      inl (subst (λ (l : List OwnBox). Has l x) (retire_boxes (going s frame) own o) has)
  box_by_end (Some t) Ignored asked ends x has = inl has
  box_by_end (Some t) (Later r) asked ends x has = inl has
  box_by_end (Some t) Next asked ends x has = inl has
  box_by_end None p asked ends x has = inl has

pub named_boxes : (s now : LedgerState) (b : Bool) → now.boxes ≡ s.boxes → (if b then now else s).boxes ≡ s.boxes
named_boxes s now true e = e
named_boxes s now false e = refl

owned_boxes : (s : LedgerState) (b : OwnBox) (c : Option Client) (x : OwnBox)
    → Has (part (owned_with s b c)) x → Has (part s) x ⊎ (b ≡ x)
owned_boxes s b None x has = inl has
owned_boxes s b (Some c) x has =
    has_push (part s) b x (subst (λ (l : List OwnBox). Has l x) (map-append own_box s.boxes (box_at b.number
    b.serial b.address ∷ [])) has)

step_boxes : (s : LedgerState) (n : Noted) (x : OwnBox) → Has (part (step_of s n)) x
    → Has (part s) x ⊎ TellsBox x s n
step_boxes s (Named w) x has =
    inl (subst (λ (l : List LedgerBox). Has (map own_box l) x) (named_boxes s (record s {
      named = s.named ++ boxes_wanted w ∷ [];
    }) (fits_names s.named w) refl) has)
step_boxes s (Closed name day) x has = inl has
step_boxes s (Retiring name) x has = inl has
step_boxes s (Marked m) x has = inl has
step_boxes s (Asked t) x has = inl has
step_boxes s (Time seconds) x has = inl has
step_boxes s (Heard frame) x has =
    elim (box_by_end s frame (task_at s.client.current) (on_reply s.client frame).progress refl refl x has) [
      | inl was ↦ inl was
      | inr heard ↦ inr (inl heard)
    ]
step_boxes s GivenUp x has = inl has
step_boxes s (Owned b) x has = elim (owned_boxes s b (owning s.client b) x has) [
  | inl was ↦ inl was
  | inr same ↦ inr (inr (ap (λ (y : OwnBox). Owned y) same))
]
step_boxes s (Denied d) x has = inl has
step_boxes s (Carried r) x has = inl has

abbrev traced_boxes : Traced OwnBox
traced_boxes = record { part = part; Tells = TellsBox; step = step_boxes; none = λ o. refl }

has_own : (boxes : List LedgerBox) (i : ℕ) (b : LedgerBox) → slice_get boxes i ≡ Some b
    → slice_get (map own_box boxes) i ≡ Some (own_box b)
has_own [] i b e = absurd (cc e)
has_own (y ∷ boxes) zero b e = let same : y ≡ b = cc e in ap (λ (z : LedgerBox). Some (own_box z)) same
has_own (y ∷ boxes) (suc i) b e = has_own boxes i b e

pub boxes_were_registered : BoxesWereRegistered
boxes_were_registered o notes b has =
    told traced_boxes o (own_box b) notes (has.0, has_own (ledger_after o notes).boxes has.0 b has.1)
