-- Notes of which a record can be made.
use Rattle.std.proofs.Common.{◌≡◌, ◌<◌, ◌^◌, ℕ, zero, suc, List, [], ◌∷◌, get_or}
use Rattle.kept_ledger.specs.Notes.{AreAddresses}

-- numbers of 128 bits are addresses
pub are_addresses : (addresses : List ℕ) → ((k : ℕ) → get_or addresses k 0 < 2 ^ 128) → AreAddresses addresses
are_addresses [] fits = tt
are_addresses (a ∷ addresses) fits = (fits zero, are_addresses addresses (λ k. fits (suc k)))
