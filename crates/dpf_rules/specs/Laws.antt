-- What holds of walks and keys whatever the other server's expansions are, and what equal leaves write.
use Rattle.std.specs.Prelude.{◌≡◌, ℕ, ◌+◌, ◌^◌, ◌<◌, ◌≤◌, List, length}
use Rattle.express_words.specs.Bytes.{xor_bytes}
use Rattle.express_words.specs.Limits.{levels_len}
use Rattle.dpf_rules.specs.Bytes.{AreBytes}
use Rattle.dpf_rules.specs.Walk.{word_of, last_of, state_at, leaf_of, write_bytes}
use Rattle.dpf_rules.specs.Keys.{Expansions, honest, path_at, honest_keys}
use Rattle.dpf_rules.specs.Ideal.{HasStates, IsExpansions, own_at, ideal_keys, given_at}

-- ---- walks to the target

-- the viewer walks through the states that its keys were made from
abbrev pub OwnWalks : Type 0
OwnWalks =
    (target : ℕ) (message : List ℕ) (viewer root : ℕ) (other : Expansions) (i : ℕ) →
    HasStates other → i ≤ 128 →
    let part = ideal_keys target message viewer root other in
    state_at part viewer root target i ≡ own_at target viewer root other i

-- a server whose given pairs are those of its own states walks through the states that they give
abbrev pub GivenWalks : Type 0
GivenWalks =
    (part : List ℕ) (target server root width i : ℕ) → i ≤ 128 →
    given_at part target server root (honest (state_at part server root target) width) i
    ≡ state_at part server root target i

-- ---- where the other server is honest too

-- honest expansions have the form that lists of expansions have
abbrev pub HonestForm : Type 0
HonestForm = (width : ℕ) (states : ℕ → ℕ) → IsExpansions width (honest states width)

-- either viewer's states are those of the path
abbrev pub HonestPaths : Type 0
HonestPaths =
    (target root0 root1 width i : ℕ) → i ≤ 128 →
    let path = path_at target root0 root1 in
    (own_at target 0 root0 (honest (λ j. (path j).1) width) i ≡ (path i).0)
    × (own_at target 1 root1 (honest (λ j. (path j).0) width) i ≡ (path i).1)

-- and the keys are the honest keys
abbrev pub HonestKeys : Type 0
HonestKeys =
    (target : ℕ) (message : List ℕ) (root0 root1 : ℕ) →
    let path = path_at target root0 root1 in
    let width = length message in
    let part = honest_keys target message root0 root1 in
    (ideal_keys target message 0 root0 (honest (λ j. (path j).1) width) ≡ part)
    × (ideal_keys target message 1 root1 (honest (λ j. (path j).0) width) ≡ part)

-- ---- ranges

-- the keys are bytes, as many as a public part of the message's width has
abbrev pub KeysInRange : Type 0
KeysInRange =
    (target : ℕ) (message : List ℕ) (viewer root : ℕ) (other : Expansions) →
    IsExpansions (length message) other → AreBytes message →
    let part = ideal_keys target message viewer root other in
    AreBytes part × (length part ≡ levels_len + length message)

abbrev pub WordsInRange : Type 0
WordsInRange = (part : List ℕ) (i : ℕ) → AreBytes part → word_of part i < 2 ^ 128

abbrev pub WalksInRange : Type 0
WalksInRange =
    (part : List ℕ) (server root address i : ℕ) → AreBytes part → server < 2 → root < 2 ^ 128 →
    state_at part server root address i < 2 ^ 128

abbrev pub OwnInRange : Type 0
OwnInRange =
    (target viewer root : ℕ) (other : Expansions) (i : ℕ) → HasStates other → viewer < 2 → root < 2 ^ 128 →
    own_at target viewer root other i < 2 ^ 128

abbrev pub GivenInRange : Type 0
GivenInRange =
    (part : List ℕ) (target server root : ℕ) (e : Expansions) (i : ℕ) → AreBytes part → HasStates e →
    server < 2 → root < 2 ^ 128 → given_at part target server root e i < 2 ^ 128

-- ---- equal leaves

-- equal leaves under one public part give equal write bytes at both servers
abbrev pub EqualLeavesWriteAlike : Type 0
EqualLeavesWriteAlike =
    (part : List ℕ) (root0 root1 address : ℕ) → leaf_of part 0 root0 address ≡ leaf_of part 1 root1 address →
    write_bytes part 0 root0 address ≡ write_bytes part 1 root1 address

-- so the box stays: both shares, each with its server's write bytes, have the sum that they had
abbrev pub EqualLeavesKeepBox : Type 0
EqualLeavesKeepBox =
    (part : List ℕ) (root0 root1 address : ℕ) (share0 share1 : List ℕ) →
    leaf_of part 0 root0 address ≡ leaf_of part 1 root1 address →
    length share0 ≡ length (last_of part) → length share1 ≡ length (last_of part) →
    let zero = write_bytes part 0 root0 address in
    let one = write_bytes part 1 root1 address in
    xor_bytes (xor_bytes share0 zero) (xor_bytes share1 one) ≡ xor_bytes share0 share1
