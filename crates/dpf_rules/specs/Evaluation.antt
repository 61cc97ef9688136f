-- Both servers' leaves under one public part at a list of addresses, and how many nodes lie above them.
use Rattle.std.specs.Prelude.{ℕ, zero, suc, ◌+◌, ◌-◌, ◌/◌, ◌^◌, ◌==◌, List, map, bit_xor}
use Rattle.std.specs.Set.{distinct_count}
use Rattle.dpf_rules.specs.Walk.{leaf_of}

-- a server's leaves at a list of addresses
abbrev pub leaves : List ℕ → ℕ → ℕ → List ℕ → List ℕ
leaves part server root addresses = map (leaf_of part server root) addresses

-- the sum of both servers' leaves at an address
unfoldable pub difference_at : List ℕ → ℕ → ℕ → ℕ → ℕ
difference_at part root0 root1 address = bit_xor (leaf_of part 0 root0 address) (leaf_of part 1 root1 address)

-- the difference vector at a list of addresses
abbrev pub difference_vector : List ℕ → ℕ → ℕ → List ℕ → List ℕ
difference_vector part root0 root1 addresses = map (difference_at part root0 root1) addresses

-- the prefix of i bits of an address of 128 bits
abbrev pub prefix : ℕ → ℕ → ℕ
prefix i address = address / 2 ^ (128 - i)

-- how many distinct prefixes of fewer than n bits some addresses have, the empty one among them
unfoldable pub prefixes_below : ℕ → List ℕ → ℕ
prefixes_below zero addresses = 0
prefixes_below (suc n) addresses = prefixes_below n addresses + distinct_count ◌==◌ (map (prefix n) addresses)

-- the number of distinct proper prefixes: one for each node above the leaves
abbrev pub prefix_count : List ℕ → ℕ
prefix_count addresses = prefixes_below 128 addresses
