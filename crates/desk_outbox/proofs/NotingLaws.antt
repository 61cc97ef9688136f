-- The notes of a try that begins: that there is room for them, what fails, and what a crash leaves.
use Rattle.std.proofs.Common.{◌≡◌, ◌≢◌, ◌⊎◌, inl, inr, ℕ, ◌+◌, ◌<◌, ◌≤◌, true, false, List, [], ◌∷◌, ◌++◌, length, Option, Some, None, Result, Ok, Err, refl, sym, ap, ◌∙◌, subst, arith, append_assoc}
use Rattle.std.specs.Int.{w128, to_be_bytes}
use Rattle.std.specs.Prelude.{IfErr, OnOk, slice_get}
use Rattle.std.proofs.lemmas.List.{length-append}
use Rattle.express_words.specs.Seen.{Seen}
use Rattle.mailbox_rules.specs.Requests.{Write}
use Rattle.node_journal.specs.Disk.{DiskSeen, LeavesOnly, Within}
use Rattle.node_journal.specs.Journal.{JournalState}
use Rattle.node_journal.specs.Records.{content}
use Rattle.node_journal.specs.declared.fault.JournalFault.TheVariants.{Closed, NotEmpty, Full, Disk, Damaged}
use Rattle.kept_machine.specs.Faults.{Counts, CountsFault, IsOfCreate, OnFull, OnNotEmpty}
use Rattle.client_restart.specs.Keeps.{KeepsNote, sight}
use Rattle.client_restart.specs.Kept.{ClientState, HoldsNotes, LeavesNotes, LeavesOpening, MakesOnly}
use Rattle.client_restart.specs.Notes.{Asked, Noted, Remark, size_of}
use Rattle.client_restart.specs.Steps.{CoreState, fold, step_of}
use Rattle.kept_machine.specs.declared.fault.KeepFault.{KeepFault}
use Rattle.kept_machine.specs.declared.fault.KeepFault.TheVariants.{Journal, NoMemory, Foreign}
use Rattle.client_restart.specs.declared.opening.ClientOpening.{ClientOpening}
use Rattle.desk_texts.specs.Printing.{printed}
use Rattle.desk_texts.specs.declared.sheet.Sheet.{Sheet}
use Rattle.desk_outbox.specs.Begun.{BeginsOnly, HasNoted, IsBegun, IsOfNoting, LeavesFirst, LeavesNoted, OnBeginning, front_notes}
use Rattle.desk_outbox.specs.Places.{address_at, named_bytes, place_record}
use Rattle.desk_outbox.specs.Trying.{begun_notes}
use Rattle.desk_outbox.specs.declared.place.Place.{Place}

-- ---- moments

pub then_only : {P : List ℕ → Type 0} (a b c : DiskSeen) → LeavesOnly a b P → LeavesOnly b c P → LeavesOnly a c P
then_only {P} a b c first second =
    let early = first.later in
    let late = second.later in
    let later : a.moment ≤ c.moment = omega (arith, early, late) in
    record {
      later = later;
      each = λ d left. since d (second.before a.moment d early left);
      before = λ t d le left. sooner t d le (second.before t d (omega (arith, le, early)) left);
    }
  where
    since : (d : List ℕ) → b.left_since a.moment d ⊎ P d → P d
    since d (inl left) = first.each d left
    since d (inr is) = is

    sooner : (t : ℕ) (d : List ℕ) → t ≤ a.moment → b.left_since t d ⊎ P d → a.left_since t d ⊎ P d
    sooner t d le (inl left) = first.before t d le left
    sooner t d le (inr is) = inr is

pub only_so : {P Q : List ℕ → Type 0} (a b : DiskSeen) → ((c : List ℕ) → P c → Q c) → LeavesOnly a b P → LeavesOnly a b Q
only_so {P} {Q} a b so only = record {
  later = only.later;
  each = λ c left. so c (only.each c left);
  before = λ t c le left. also c (only.before t c le left);
}
  where
    also : {L : Type 0} (c : List ℕ) → L ⊎ P c → L ⊎ Q c
    also c (inl left) = inl left
    also c (inr is) = inr (so c is)

-- ---- what is left

leaves_first : (o : ClientOpening) (all done rest : List Noted) (n : Noted) → all ≡ done ++ n ∷ rest → (c : List ℕ) → LeavesNotes 65536 o done n c → LeavesFirst o all c
leaves_first o all done rest n is c (inl same, sound) = (inr (record { done = done; rest = n ∷ rest; split = is; is = same }), inr sound)
leaves_first o all done rest n is c (inr more, sound) =
    (inr (record { done = done ++ n ∷ []; rest = rest; split = is ∙ sym (append_assoc done (n ∷ []) rest); is = more }), inr sound)

leaves_opening : (o : ClientOpening) (all : List Noted) (c : List ℕ) → LeavesOpening 65536 o c → LeavesFirst o all c
leaves_opening o all c (inl none, sound) = (inl none, sound)
leaves_opening o all c (inr first, sound) = (inr (record { done = []; rest = all; split = refl; is = first }), sound)

-- ---- a client with room

pub made_so : {D : Type 0} (shows : D → DiskSeen) (o : ClientOpening) (k : ClientState D) → k.opening ≡ o → k.core ≡ fold o [] → HoldsNotes o [] (shows k.disk).reads
    → k.journal ≡ record { end = 52; limit = 65536; ready = true; closed = false } → HasNoted shows o [] 52 k
made_so shows o k opening core held journal =
    let end : k.journal.end ≡ 52 = ap (λ (j : JournalState). j.end) journal in
    record {
      opening = opening;
      core = core;
      held = held;
      limit = ap (λ (j : JournalState). j.limit) journal;
      end = omega (arith, end);
      still = ap (λ (j : JournalState). j.closed) journal;
    }

pub noted_more : {D T : Type 0} (shows : D → DiskSeen) (counts : D → Seen) (o : ClientOpening) (notes : List Noted) (n : Noted) (most size : ℕ) (old new : ClientState D) (x : T)
    → ((k : CoreState) → k ≡ fold o notes → step_of k n ≡ fold o (notes ++ n ∷ [])) → HasNoted shows o notes most old → size_of n ≤ size
    → KeepsNote {T = T} n (sight shows counts old) (sight shows counts new) (Ok x) → HasNoted shows o (notes ++ n ∷ []) (most + 5 + size) new
noted_more shows counts o notes n most size old new x folds has fits keeps =
    let end = ap (λ (j : JournalState). j.end) keeps.longer in
    let before = has.end in
    record {
      opening = keeps.opening ∙ has.opening;
      core = keeps.step ∙ folds old.core has.core;
      held = subst (λ (w : ClientOpening). HoldsNotes w notes (shows old.disk).reads → HoldsNotes w (notes ++ n ∷ []) (shows new.disk).reads) has.opening (keeps.added notes) has.held;
      limit = ap (λ (j : JournalState). j.limit) keeps.longer ∙ has.limit;
      end = omega (arith, end, before, fits);
      still = ap (λ (j : JournalState). j.closed) keeps.longer ∙ has.still;
    }

-- a crash in a call that notes one of them
pub leaves_so : {D T : Type 0} (shows : D → DiskSeen) (counts : D → Seen) (o : ClientOpening) (all notes rest : List Noted) (n : Noted) (most : ℕ) (old new : ClientState D) (r : Result T KeepFault)
    → all ≡ notes ++ n ∷ rest → HasNoted shows o notes most old → KeepsNote {T = T} n (sight shows counts old) (sight shows counts new) r
    → LeavesOnly (shows old.disk) (shows new.disk) (LeavesFirst o all)
leaves_so {D} shows counts o all notes rest n most old new r is has keeps =
    let held : HoldsNotes old.opening notes (shows old.disk).reads
    = subst (λ (w : ClientOpening). HoldsNotes w notes (shows old.disk).reads) (sym has.opening) has.held in
    let left : LeavesOnly (shows old.disk) (shows new.disk) (LeavesNotes old.journal.limit old.opening notes n)
    = keeps.any_moment has.still notes held in
    let at_limit = subst (λ (m : ℕ). LeavesOnly (shows old.disk) (shows new.disk) (LeavesNotes m old.opening notes n)) has.limit left in
    let at_opening = subst (λ (w : ClientOpening). LeavesOnly (shows old.disk) (shows new.disk) (LeavesNotes 65536 w notes n)) has.opening at_limit in
    only_so (shows old.disk) (shows new.disk) (leaves_first o all notes rest n is) at_opening

-- ---- why a note fails

abbrev failed : (T : Type 0) → KeepFault → Result T KeepFault
failed T f = Err f

other : (T : Type 0) (f : KeepFault) → (f ≡ NoMemory → ⊥) → failed T f ≡ failed T NoMemory → ⊥
other T f differ same = let is : f ≡ NoMemory = cc same in differ is

pub fails_so : {D T : Type 0} (shows : D → DiskSeen) (counts : D → Seen) (o : ClientOpening) (notes : List Noted) (n : Noted) (most size : ℕ) (old new : ClientState D) (f : KeepFault)
    → HasNoted shows o notes most old → size_of n ≤ size → most + size + 6 ≤ 65536
    → KeepsNote {T = T} n (sight shows counts old) (sight shows counts new) (Err f) → IsOfNoting f
fails_so {D} {T} shows counts o notes n most size old new NoMemory has fits room keeps = tt
fails_so {D} {T} shows counts o notes n most size old new (Journal (Disk count)) has fits room keeps = tt
fails_so {D} {T} shows counts o notes n most size old new (Journal Closed) has fits room keeps =
    let limit = has.limit in let end = has.end in
    (keeps.judged.fits (λ h. other T (Journal Closed) (λ e. cc e) h) has.still (omega (arith, limit, end, fits, room))).0
fails_so {D} {T} shows counts o notes n most size old new (Journal NotEmpty) has fits room keeps =
    let limit = has.limit in let end = has.end in
    (keeps.judged.fits (λ h. other T (Journal NotEmpty) (λ e. cc e) h) has.still (omega (arith, limit, end, fits, room))).0
fails_so {D} {T} shows counts o notes n most size old new (Journal (Full at)) has fits room keeps =
    let limit = has.limit in let end = has.end in
    (keeps.judged.fits (λ h. other T (Journal (Full at)) (λ e. cc e) h) has.still (omega (arith, limit, end, fits, room))).0
fails_so {D} {T} shows counts o notes n most size old new (Journal (Damaged at)) has fits room keeps =
    let limit = has.limit in let end = has.end in
    (keeps.judged.fits (λ h. other T (Journal (Damaged at)) (λ e. cc e) h) has.still (omega (arith, limit, end, fits, room))).0
fails_so {D} {T} shows counts o notes n most size old new (Foreign at) has fits room keeps =
    let limit = has.limit in let end = has.end in
    (keeps.judged.fits (λ h. other T (Foreign at) (λ e. cc e) h) has.still (omega (arith, limit, end, fits, room))).0

pub counts_from : (f : KeepFault) (first before now : ℕ) → before ≡ first → CountsFault before now f → CountsFault first now f
counts_from f first before now is c = subst (λ (x : ℕ). CountsFault x now f) is c

pub counts_then : {T : Type 0} (r : Result T KeepFault) (first before now : ℕ) → before ≡ first → Counts before now r → Counts first now r
counts_then r first before now is c = subst (λ (x : ℕ). Counts x now r) is c

-- ---- sizes

named_len : (named : Option ℕ) → length (named_bytes named) ≡ 5
named_len None = refl
named_len (Some serial) = refl

pub place_size : (p : Place) → size_of (Remark (place_record p)) ≤ 11
place_size p = let named = named_len p.named in omega (arith, named)

pub text_size : (text : List ℕ) → length text ≤ 4096 → size_of (Remark text) ≤ 4097
text_size text few = omega (arith, few)

pub write_size : (o : ClientOpening) (card : Sheet) (place : Place) (target : ℕ) (message : List ℕ) → IsBegun card place o message → size_of (Asked (Write target message)) ≤ 4113
write_size o card place target message begun =
    let address : length (to_be_bytes w128 target) ≡ 16 = refl in
    let all = length-append (to_be_bytes w128 target) message in
    let fits = begun.fits in
    let width = begun.is_opening.width in
    let most = width.1 in
    omega (arith, address, all, fits, most)

-- ---- a try's notes

abbrev Does : {D T : Type 0} → (D → DiskSeen) → (D → Seen) → Noted → (old new : ClientState D) → Result T KeepFault → Type 0
Does shows counts n old new r = KeepsNote n (sight shows counts old) (sight shows counts new) r

-- the text's note, with what it says
as_text : {D T : Type 0} (shows : D → DiskSeen) (counts : D → Seen) (a b : List ℕ) (old new : ClientState D) (r : Result T KeepFault) → a ≡ b
    → Does shows counts (Remark a) old new r → Does shows counts (Remark b) old new r
as_text shows counts a b old new r is keeps = subst (λ (t : List ℕ). Does shows counts (Remark t) old new r) is keeps

-- behind the card's text
pub text_noted : {D : Type 0} (shows : D → DiskSeen) (counts : D → Seen) (o : ClientOpening) (card : Sheet) (text : List ℕ) (k0 k1 : ClientState D)
    → text ≡ printed card → length text ≤ 4096 → HasNoted shows o [] 52 k0 → Does {T = Unit {0}} shows counts (Remark text) k0 k1 (Ok tt)
    → HasNoted shows o (Remark (printed card) ∷ []) 4154 k1
text_noted shows counts o card text k0 k1 said few has keeps =
    let size : size_of (Remark (printed card)) ≤ 4097 = text_size (printed card) (subst (λ (t : List ℕ). length t ≤ 4096) said few) in
    noted_more shows counts o [] (Remark (printed card)) 52 4097 k0 k1 tt (λ k e. ap (λ (c : CoreState). step_of c (Remark (printed card))) e) has size
    (as_text shows counts text (printed card) k0 k1 (Ok tt) said keeps)

pub text_fails : {D : Type 0} (shows : D → DiskSeen) (counts : D → Seen) (o : ClientOpening) (text : List ℕ) (k0 k1 : ClientState D) (f : KeepFault)
    → length text ≤ 4096 → HasNoted shows o [] 52 k0 → Does {T = Unit {0}} shows counts (Remark text) k0 k1 (Err f) → IsOfNoting f
text_fails shows counts o text k0 k1 f few has keeps =
    fails_so shows counts o [] (Remark text) 52 4097 k0 k1 f has (text_size text few) (omega arith) keeps

pub text_leaves : {D : Type 0} (shows : D → DiskSeen) (counts : D → Seen) (o : ClientOpening) (card : Sheet) (place : Place) (message text : List ℕ) (k0 k1 : ClientState D) (r : Result Unit KeepFault)
    → text ≡ printed card → HasNoted shows o [] 52 k0 → Does {T = Unit {0}} shows counts (Remark text) k0 k1 r → LeavesNoted card place o message (shows k0.disk) (shows k1.disk)
text_leaves shows counts o card place message text k0 k1 r said has keeps target there =
    leaves_so shows counts o (begun_notes card place target message) [] (Remark (place_record place) ∷ Asked (Write target message) ∷ []) (Remark (printed card)) 52 k0 k1 r refl has
    (as_text shows counts text (printed card) k0 k1 r said keeps)

-- and the place
pub place_noted : {D : Type 0} (shows : D → DiskSeen) (counts : D → Seen) (o : ClientOpening) (card : Sheet) (place : Place) (words : List ℕ) (k1 k2 : ClientState D) (r : Result Unit KeepFault)
    → words ≡ place_record place → HasNoted shows o (Remark (printed card) ∷ []) 4154 k1 → Does {T = Unit {0}} shows counts (Remark words) k1 k2 r
    → OnOk r (HasNoted shows o (front_notes card place) 4170 k2)
place_noted shows counts o card place words k1 k2 (Ok x) said has keeps =
    noted_more shows counts o (Remark (printed card) ∷ []) (Remark (place_record place)) 4154 11 k1 k2 x (λ k e. ap (λ (c : CoreState). step_of c (Remark (place_record place))) e) has (place_size place)
    (as_text shows counts words (place_record place) k1 k2 (Ok x) said keeps)
place_noted shows counts o card place words k1 k2 (Err f) said has keeps = tt

pub place_fails : {D : Type 0} (shows : D → DiskSeen) (counts : D → Seen) (o : ClientOpening) (card : Sheet) (place : Place) (words : List ℕ) (k1 k2 : ClientState D) (r : Result Unit KeepFault)
    → words ≡ place_record place → HasNoted shows o (Remark (printed card) ∷ []) 4154 k1 → Does {T = Unit {0}} shows counts (Remark words) k1 k2 r → IfErr r IsOfNoting
place_fails shows counts o card place words k1 k2 (Ok x) said has keeps = tt
place_fails shows counts o card place words k1 k2 (Err f) said has keeps =
    fails_so shows counts o (Remark (printed card) ∷ []) (Remark (place_record place)) 4154 11 k1 k2 f has (place_size place) (omega arith)
    (as_text shows counts words (place_record place) k1 k2 (Err f) said keeps)

pub place_leaves : {D : Type 0} (shows : D → DiskSeen) (counts : D → Seen) (o : ClientOpening) (card : Sheet) (place : Place) (message words : List ℕ) (k1 k2 : ClientState D) (r : Result Unit KeepFault)
    → words ≡ place_record place → HasNoted shows o (Remark (printed card) ∷ []) 4154 k1 → Does {T = Unit {0}} shows counts (Remark words) k1 k2 r
    → LeavesNoted card place o message (shows k1.disk) (shows k2.disk)
place_leaves shows counts o card place message words k1 k2 r said has keeps target there =
    leaves_so shows counts o (begun_notes card place target message) (Remark (printed card) ∷ []) (Asked (Write target message) ∷ []) (Remark (place_record place)) 4154 k1 k2 r refl has
    (as_text shows counts words (place_record place) k1 k2 r said keeps)

-- and the request
pub asked_fails : {D T : Type 0} (shows : D → DiskSeen) (counts : D → Seen) (o : ClientOpening) (card : Sheet) (place : Place) (target : ℕ) (message : List ℕ) (k2 k3 : ClientState D) (f : KeepFault)
    → IsBegun card place o message → HasNoted shows o (front_notes card place) 4170 k2 → Does {T = T} shows counts (Asked (Write target message)) k2 k3 (Err f) → IsOfNoting f
asked_fails shows counts o card place target message k2 k3 f begun has keeps =
    fails_so shows counts o (front_notes card place) (Asked (Write target message)) 4170 4113 k2 k3 f has (write_size o card place target message begun) (omega arith) keeps

one_target : (addresses : List ℕ) (at a b : ℕ) → slice_get addresses at ≡ Some a → slice_get addresses at ≡ Some b → a ≡ b
one_target addresses at a b e f = let same : Some a ≡ Some b = sym e ∙ f in cc same

pub asked_leaves : {D T : Type 0} (shows : D → DiskSeen) (counts : D → Seen) (o : ClientOpening) (card : Sheet) (place : Place) (target : ℕ) (message : List ℕ) (k2 k3 : ClientState D) (r : Result T KeepFault)
    → slice_get card.addresses (address_at (length card.addresses) place) ≡ Some target
    → HasNoted shows o (front_notes card place) 4170 k2 → Does {T = T} shows counts (Asked (Write target message)) k2 k3 r
    → LeavesNoted card place o message (shows k2.disk) (shows k3.disk)
asked_leaves {D} {T} shows counts o card place target message k2 k3 r is has keeps other there =
    let same : target ≡ other = one_target card.addresses (address_at (length card.addresses) place) target other is there in
    leaves_so shows counts o (begun_notes card place other message) (front_notes card place) [] (Asked (Write other message)) 4170 k2 k3 r refl has
    (subst (λ (t : ℕ). Does {T = T} shows counts (Asked (Write t message)) k2 k3 r) same keeps)

pub then_leaves : (card : Sheet) (place : Place) (o : ClientOpening) (message : List ℕ) (a b c : DiskSeen) → LeavesNoted card place o message a b → LeavesNoted card place o message b c → LeavesNoted card place o message a c
then_leaves card place o message a b c first second target there = then_only a b c (first target there) (second target there)

-- ---- a try that isn't begun

pub from_noting : (reads : List ℕ → Type 0) (f : KeepFault) → IsOfNoting f → OnBeginning reads f
from_noting reads NoMemory is = tt
from_noting reads (Journal (Disk count)) is = tt
from_noting reads (Journal Closed) is = is
from_noting reads (Journal NotEmpty) is = absurd is
from_noting reads (Journal (Full at)) is = is
from_noting reads (Journal (Damaged at)) is = is
from_noting reads (Foreign at) is = is

pub from_create : (reads : List ℕ → Type 0) (f : KeepFault) (P : Type 0) → IsOfCreate f → OnNotEmpty f ((c : List ℕ) → reads c → c ≢ []) → OnFull f (λ n. (n ≡ 0) × (65536 < 53) × P) → OnBeginning reads f
from_create reads NoMemory P is held full = tt
from_create reads (Journal (Disk count)) P is held full = tt
from_create reads (Journal NotEmpty) P is held full = held
from_create reads (Journal (Full at)) P is held full = let small = full.1 in absurd (omega (arith, small))
from_create reads (Journal Closed) P is held full = is
from_create reads (Journal (Damaged at)) P is held full = is
from_create reads (Foreign at) P is held full = is

pub none_begun : (card : Sheet) (place : Place) (o : ClientOpening) (message : List ℕ) (disk : DiskSeen) → Within (disk.left_since disk.moment) disk.may_leave → BeginsOnly card place o message disk disk
unfolding BeginsOnly
none_begun card place o message disk now target there none = record {
  later = omega arith;
  each = λ c left. blank c (none c (now c left));
  before = λ t c le left. inl left;
}
  where
    blank : (c : List ℕ) → c ≡ [] → LeavesFirst o (begun_notes card place target message) c
    blank c is =
        let empty : length c ≡ 0 = ap length is in
        (inl (ap content is), inl (omega (arith, empty)))

pub made_begun : (card : Sheet) (place : Place) (o : ClientOpening) (message : List ℕ) (old new : DiskSeen) → MakesOnly 65536 o old new → BeginsOnly card place o message old new
unfolding MakesOnly BeginsOnly
made_begun card place o message old new made target there none = only_so old new (leaves_opening o (begun_notes card place target message)) (made none)

pub noted_begun : (card : Sheet) (place : Place) (o : ClientOpening) (message : List ℕ) (old mid new : DiskSeen) → MakesOnly 65536 o old mid → LeavesNoted card place o message mid new → BeginsOnly card place o message old new
unfolding MakesOnly BeginsOnly
noted_begun card place o message old mid new made noted target there none =
    then_only old mid new (only_so old mid (leaves_opening o (begun_notes card place target message)) (made none)) (noted target there)
