-- An outcome that is stored.
use Rattle.std.proofs.Common.{◌≡◌, ◌⊎◌, inl, inr, ℕ, ◌++◌, drop, Option, Some, Result, Ok, Err, ◌∙◌, ap}
use Rattle.std.specs.Prelude.{IfOk, OnErr, OnOk}
use Rattle.std.specs.Option.{option_to_list}
use Rattle.kept_machine.specs.declared.fault.KeepFault.{KeepFault}
use Rattle.client_restart.specs.Steps.{EndedRequest}
use Rattle.desk_entries.specs.declared.entry.Entry.{Entry}
use Rattle.desk_ledger.specs.declared.stored.Stored.{Stored}
use Rattle.desk_ledger.specs.Ledgers.{LedgerState}
use Rattle.desk_ledger.specs.Storing.{Adds, Misses, Stores, stored_of}

either_adds : {D : Type 0} (seconds : ℕ) (e : EndedRequest) (old new : LedgerState D) (found : Option Entry)
    → Misses old.entries old.client.core.boxes seconds e found
    → (new.entries ≡ old.entries) ⊎ (new.entries ≡ old.entries ++ option_to_list found)
    → (new.entries ≡ old.entries) ⊎ Adds seconds e old new
either_adds seconds e old new found misses (inl same) = inl same
either_adds seconds e old new found misses (inr added) = inr (found, misses, added)

pub stores_found : {D : Type 0} (seconds : ℕ) (e : EndedRequest) (old new : LedgerState D) (r : Result (Option Stored) KeepFault) (stored : Stored) (found : Option Entry)
    → stored ≡ stored_of e → Misses old.entries old.client.core.boxes seconds e found
    → IfOk r (λ s. s ≡ Some stored) → OnOk r (new.entries ≡ old.entries ++ option_to_list found)
    → OnErr r ((new.entries ≡ old.entries) ⊎ (new.entries ≡ old.entries ++ option_to_list found))
    → OnOk r (new.client.core.untold ≡ drop 1 old.client.core.untold) → OnErr r (new.client.core.untold ≡ old.client.core.untold)
    → new.pair ≡ old.pair → new.client.opening ≡ old.client.opening → new.client.core.boxes ≡ old.client.core.boxes
    → new.client.core.client ≡ old.client.core.client → Stores seconds e old new r
stores_found seconds e old new (Ok s) stored found is misses answer noted not_noted told untold pair opening boxes client = record {
  answer = answer ∙ ap (λ (x : Stored). Some x) is;
  entry = (found, misses, noted);
  told = told;
  untold = tt;
  no_other = tt;
  pair = pair;
  opening = opening;
  boxes = boxes;
  client = client;
}
stores_found seconds e old new (Err f) stored found is misses answer noted not_noted told untold pair opening boxes client = record {
  answer = tt;
  entry = tt;
  told = tt;
  untold = untold;
  no_other = either_adds seconds e old new found misses not_noted;
  pair = pair;
  opening = opening;
  boxes = boxes;
  client = client;
}
