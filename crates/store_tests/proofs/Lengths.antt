-- A write keeps the number of shares.
use Rattle.std.proofs.Common.{◌≡◌, ℕ, suc, List, [], ◌∷◌, length, refl, ap}
use Rattle.share_store.specs.Shares.{Share, shares_with}

pub length-shares_with : (part leaves : List ℕ) (shares : List Share) → length (shares_with part leaves shares) ≡ length shares
length-shares_with part [] shares = refl
length-shares_with part (leaf ∷ leaves) [] = refl
length-shares_with part (leaf ∷ leaves) (share ∷ shares) = ap suc (length-shares_with part leaves shares)
