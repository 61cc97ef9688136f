-- By what the files of a desk are told from another desk's.
use Rattle.std.specs.Prelude.{ℕ, List, ◌++◌, codes, take}
use Rattle.std.specs.Int.{w32, from_be_bytes}
use Rattle.sha2.specs.Sha256.{sha256}

unfoldable pub seed_digest : List ℕ → List ℕ
seed_digest seed = sha256 (codes "the files of a desk" ++ seed)

-- of a desk's seed the first four bytes of that digest, big-endian
abbrev pub tag_of : List ℕ → ℕ
tag_of seed = from_be_bytes w32 (take 4 (seed_digest seed))
