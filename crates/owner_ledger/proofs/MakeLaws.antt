-- A ledger's opening, and its record.
use Rattle.std.proofs.Common.{◌≡◌, ◌∙◌, ◌≤◌, ◌<◌, ℕ, List, ◌++◌, ◌∷◌, length, ap, sym, arith}
use Rattle.std.proofs.Common.{false, inr, Option, Result, Ok, Err}
use Rattle.std.specs.Int.{w16, w32, to_be_bytes}
use Rattle.std.specs.Prelude.{OnOk, is_err}
use Rattle.std.proofs.lemmas.List.{length-append}
use Rattle.express_words.specs.Seen.{Seen}
use Rattle.node_journal.specs.Disk.{DiskSeen}
use Rattle.desk_outside.specs.Calls.{Adds, FolderCall, Placed}
use Rattle.desk_outside.specs.declared.folder.DeskFile.TheVariants.{Ledger, NextLedger}
use Rattle.kept_machine.specs.Keeps.{IsDurable, sight}
use Rattle.kept_machine.specs.Kept.{KeptState}
use Rattle.kept_ledger.specs.declared.follow.Keeping.{Keeping}
use Rattle.kept_ledger.specs.Follow.{kept_notes, next_serial}
use Rattle.desk_steps.specs.Files.{MakesFile}
use Rattle.desk_steps.specs.Folder.{IsNextLedger}
use Rattle.owner_ledger.specs.Puts.{PutsLedger, follower}
use Rattle.node_journal.specs.Records.{IsSized}
use Rattle.kept_ledger.specs.declared.machine.KeptLedger.{KeptLedger}
use Rattle.kept_ledger.specs.Ledgers.{LedgerState, fold_from, opened_ledger}
use Rattle.kept_ledger.specs.Machines.{IsOpeningRecord, OpensLedger, ledger_rules}
use Rattle.kept_ledger.specs.Notes.{IsOpening, Noted, Opening, opening_record}
use Rattle.kept_ledger.specs.Openings.{HasShape}
use Rattle.kept_ledger.proofs.OpeningLaws.{one_opening}

a_shape : (o : Opening) → IsOpening o → HasShape o
a_shape o is = record {
  front = record {
    serial = is.unspent;
    seed = is.seed;
    width = omega (arith, is.pair.width.1);
    boxes = omega (arith, is.pair.boxes);
    lane = is.pair.lane;
  };
  leader = is.pair.leader.key;
  helper = is.pair.helper.key;
  place = is.pair.leader.few;
}

pub is_record : (o : Opening) (bytes : List ℕ) → IsOpening o → bytes ≡ opening_record o → IsOpeningRecord bytes
is_record o bytes is same = record { opening = o; is_opening = is; is = same }

pub opening_sized : (o : Opening) (bytes : List ℕ) → IsOpening o → bytes ≡ opening_record o → IsSized bytes
opening_sized o bytes is same =
    let seed = is.seed in
    let one = is.pair.leader.key in
    let other = is.pair.helper.key in
    let leader = is.pair.leader.few in
    let helper = is.pair.helper.few in
    let places = length-append o.pair.leader.place o.pair.helper.place in
    let second = length-append o.pair.helper.key.0 (length o.pair.leader.place ∷ o.pair.leader.place ++ o.pair.helper.place) in
    let first = length-append o.pair.leader.key.0 (o.pair.helper.key.0 ++ (length o.pair.leader.place ∷ o.pair.leader.place ++ o.pair.helper.place)) in
    let behind = o.pair.leader.key.0 ++ (o.pair.helper.key.0 ++ (length o.pair.leader.place ∷ o.pair.leader.place ++ o.pair.helper.place)) in
    let front = length-append o.seed (to_be_bytes w32 o.pair.width ++ (to_be_bytes w32 o.pair.boxes ++ (to_be_bytes w16 o.pair.lane ++ behind))) in
    let size = ap length same in
    (omega (arith, size), omega (arith, size, seed, one, other, leader, helper, places, second, first, front))

pub opened : (o : Opening) (bytes : List ℕ) (k : KeptLedger) → IsOpening o → bytes ≡ opening_record o
    → OpensLedger bytes k → k.ledger.state ≡ opened_ledger o
opened o bytes k is same opens =
    let one : o ≡ opens.opening = one_opening o opens.opening (a_shape o is) (a_shape opens.opening opens.is_opening) (sym same ∙ opens.is) in
    opens.ledger ∙ ap opened_ledger (sym one)

-- ---- what was put in place

pub puts : {D T E : Type 0} (shows : D → DiskSeen) (counts : D → Seen) (state : LedgerState) (disk : D)
    (next : KeptState KeptLedger D) (a b c : Option (List (FolderCall D))) (r : Result T E)
    → MakesFile NextLedger disk a b → next.machine.ledger.state ≡ state
    → IsDurable ledger_rules (sight shows counts next)
    → Adds b c (Placed NextLedger Ledger (is_err r)) → OnOk r (PutsLedger shows counts state a c)
puts shows counts state disk next a b c (Ok x) made is durable placed = record {
  disk = disk;
  mid = b;
  made = made;
  next = next;
  is = is;
  durable = durable;
  placed = placed;
}
puts shows counts state disk next a b c (Err why) made is durable placed = tt

-- the same of one that was noted in before
pub puts_noted : {D T E : Type 0} (shows : D → DiskSeen) (counts : D → Seen) (state noted : LedgerState)
    (disk : D) (next : KeptState KeptLedger D) (a b c : Option (List (FolderCall D))) (r : Result T E)
    → MakesFile NextLedger disk a b → OnOk r (next.machine.ledger.state ≡ noted) → noted ≡ state
    → OnOk r (IsDurable ledger_rules (sight shows counts next))
    → OnOk r (Adds b c (Placed NextLedger Ledger false)) → OnOk r (PutsLedger shows counts state a c)
puts_noted shows counts state noted disk next a b c (Ok x) made is same durable placed = record {
  disk = disk;
  mid = b;
  made = made;
  next = next;
  is = is ∙ same;
  durable = durable;
  placed = placed;
}
puts_noted shows counts state noted disk next a b c (Err why) made is same durable placed = tt

-- ---- a ledger that follows

pub follows : (keeping : Keeping) (first : ℕ) (old next : LedgerState) (o : Opening) (notes : List Noted)
    → next ≡ opened_ledger o → o ≡ record { pair = old.pair; seed = old.seed; first_serial = first }
    → notes ≡ kept_notes keeping old → fold_from next notes ≡ follower keeping first old
follows keeping first old next o notes opened is kept =
    ap (λ (s : LedgerState). fold_from s notes) opened
    ∙ ap (λ (p : Opening). fold_from (opened_ledger p) notes) is
    ∙ ap (λ (n : List Noted). fold_from (opened_ledger (record {
      pair = old.pair;
      seed = old.seed;
      first_serial = first;
    })) n) kept

pub is_next : (keeping : Keeping) (first : ℕ) (old s : LedgerState) → next_serial old ≤ first
    → s ≡ follower keeping first old → IsNextLedger s
is_next keeping first old s above is = inr (keeping, old, record { first = first; above = above; is = is })
