-- Challenges at a list of addresses, place by place.
use Rattle.std.specs.Prelude.{◌≡◌, ℕ, ◌+◌, ◌*◌, ◌/◌, ◌%◌, ◌^◌, ◌<◌, List, [], ◌∷◌, length, map, All, slice_index}
use Rattle.std.proofs.lemmas.List.{get_or-map, length-map}
use Rattle.std.proofs.lemmas.List.Elements.{All-nil, All-cons}
use Rattle.dpf_rules.specs.Expansion.{challenge_r, challenge_s}
use Rattle.dpf_rules.proofs.RangeLemmas.{stream_word_lt}
use Rattle.audit_rules.specs.Challenges.{challenge_rs, challenge_ss}

pub all_map : (f : ℕ → ℕ) (n : ℕ) → ((x : ℕ) → f x < n) → (xs : List ℕ) → All (λ y. y < n) (map f xs)
all_map f n h [] = All-nil (λ y. y < n)
all_map f n h (x ∷ xs) = All-cons (λ y. y < n) (f x) (map f xs) (h x) (all_map f n h xs)

-- challenges are numbers of the field
pub rs-in_range : (ckey addresses : List ℕ) → All (λ n. n < 2 ^ 128) (challenge_rs ckey addresses)
unfolding challenge_rs
rs-in_range ckey addresses = all_map (challenge_r ckey) (2 ^ 128) (λ q. stream_word_lt ckey (q % 2 ^ 64) (64 * (q / 2 ^ 64))) addresses

pub ss-in_range : (ckey addresses : List ℕ) → All (λ n. n < 2 ^ 128) (challenge_ss ckey addresses)
unfolding challenge_ss
ss-in_range ckey addresses = all_map (challenge_s ckey) (2 ^ 128) (λ q. stream_word_lt ckey (q % 2 ^ 64) (64 * (q / 2 ^ 64) + 16)) addresses

pub length-challenge_rs : (ckey addresses : List ℕ) → length (challenge_rs ckey addresses) ≡ length addresses
unfolding challenge_rs
length-challenge_rs ckey addresses = length-map addresses (challenge_r ckey)

pub length-challenge_ss : (ckey addresses : List ℕ) → length (challenge_ss ckey addresses) ≡ length addresses
unfolding challenge_ss
length-challenge_ss ckey addresses = length-map addresses (challenge_s ckey)

pub r_at : (ckey addresses : List ℕ) (i : ℕ) → i < length addresses → slice_index (challenge_rs ckey addresses) i ≡ challenge_r ckey (slice_index addresses i)
unfolding challenge_rs
r_at ckey addresses i h = get_or-map (challenge_r ckey) addresses i 0 0 h

pub s_at : (ckey addresses : List ℕ) (i : ℕ) → i < length addresses → slice_index (challenge_ss ckey addresses) i ≡ challenge_s ckey (slice_index addresses i)
unfolding challenge_ss
s_at ckey addresses i h = get_or-map (challenge_s ckey) addresses i 0 0 h
