-- What lists of calls leave of one box's share.
use Rattle.std.proofs.Common.{◌≡◌, ℕ, ◌<◌, ◌==◌, ◌||◌, Bool, true, false, not, cond, List, [], ◌∷◌, ◌++◌, length, replicate, Option, Some, None, refl, sym, ap, ◌∙◌, arith, suc, zero, append-nil}
use Rattle.std.specs.Prelude.{slice_get}
use Rattle.std.proofs.lemmas.List.{get_or-set_same, get_or-set_other, length-set, length-replicate, get_or-replicate}
use Rattle.std.proofs.lemmas.List.Sums.{fold-append}
use Rattle.std.proofs.lemmas.Bool.{eqb-true, eqb-false}
use Rattle.express_words.specs.Bytes.{xor_bytes}
use Rattle.dpf_rules.specs.Walk.{leaf_bytes}
use Rattle.share_store.specs.Shares.{Share, Shares, empty_share, share_at, share_with, shares_with, with_cleared}
use Rattle.share_store.specs.Calls.{Call, Adds, Takes, Retires, called, after, new_shares, is_retired, bytes_for, writes_since, sum_of, SharesAreSums}

abbrev share_of : List ℕ → Bool → Share
share_of bytes live = record { bytes = bytes; live = live }

length-shares_with : (part leaves : List ℕ) (boxes : List Share) → length (shares_with part leaves boxes) ≡ length boxes
length-shares_with part [] boxes = refl
length-shares_with part (leaf ∷ leaves) [] = refl
length-shares_with part (leaf ∷ leaves) (share ∷ boxes) = ap (λ (n : ℕ). suc n) (length-shares_with part leaves boxes)

-- a box that stands, where its leaf is counted or isn't
abbrev share_by : List ℕ → Option ℕ → Share → Share
share_by part None share = share
share_by part (Some leaf) share = share_with (leaf_bytes part leaf) share

at-shares_with : (part leaves : List ℕ) (boxes : List Share) (box : ℕ) → box < length boxes →
    share_at (shares_with part leaves boxes) box ≡ share_by part (slice_get leaves box) (share_at boxes box)
at-shares_with part leaves [] box h = absurd (omega arith)
at-shares_with part [] (share ∷ boxes) box h = refl
at-shares_with part (leaf ∷ leaves) (share ∷ boxes) zero h = refl
at-shares_with part (leaf ∷ leaves) (share ∷ boxes) (suc box) h = at-shares_with part leaves boxes box (omega arith)

-- what a write adds to a live box
live-added : (width : ℕ) (part : List ℕ) (leaf : Option ℕ) (since : List (List ℕ)) →
    share_by part leaf (share_of (sum_of width since) true) ≡ share_of (sum_of width (since ++ bytes_for part leaf)) true
live-added width part None since = ap (λ all. share_of (sum_of width all) true) (sym (append-nil since))
live-added width part (Some leaf) since =
    ap (λ bytes. share_of bytes true) (sym (fold-append xor_bytes (replicate width 0) since (leaf_bytes part leaf ∷ [])))

-- and nothing to a retired one
retired-added : (part : List ℕ) (leaf : Option ℕ) (bytes : List ℕ) → share_by part leaf (share_of bytes false) ≡ share_of bytes false
retired-added part None bytes = refl
retired-added part (Some leaf) bytes = refl

-- what clearing leaves of a box
cleared-at : (s : Shares) (at box : ℕ) (live : Bool) → box < length s.boxes →
    share_at (with_cleared s at live).boxes box ≡ cond (at == box) (share_of (replicate s.width 0) live) (share_at s.boxes box)
cleared-at s at box live inside = by_same (at == box) refl
  where
    by_same : (b : Bool) → (at == box) ≡ b → share_at (with_cleared s at live).boxes box ≡ cond b (share_of (replicate s.width 0) live) (share_at s.boxes box)
    by_same true e = rw (eqb-true at box e) (get_or-set_same s.boxes box (share_of (replicate s.width 0) live) (empty_share 0) inside)
    by_same false e = get_or-set_other s.boxes at box (share_of (replicate s.width 0) live) (empty_share 0) (λ same. eqb-false at box e (sym same))

length-cleared : (s : Shares) (at : ℕ) (live : Bool) → length (with_cleared s at live).boxes ≡ length s.boxes
length-cleared s at live = length-set s.boxes at (share_of (replicate s.width 0) live)

-- a retired box stays as it is
retired : (width : ℕ) (s : Shares) (box : ℕ) (calls : List Call) → s.width ≡ width → box < length s.boxes →
    share_at s.boxes box ≡ share_of (replicate width 0) false → share_at (after s calls).boxes box ≡ share_of (replicate width 0) false
retired width s box [] same inside is = is
retired width s box (Adds part leaves ∷ calls) same inside is =
    retired width (called s (Adds part leaves)) box calls same (omega (arith, length-shares_with part leaves s.boxes))
    (at-shares_with part leaves s.boxes box inside ∙ ap (share_by part (slice_get leaves box)) is ∙ retired-added part (slice_get leaves box) (replicate width 0))
retired width s box (Takes at ∷ calls) same inside is =
    retired width (called s (Takes at)) box calls same (omega (arith, length-cleared s at (share_at s.boxes at).live))
    (cleared-at s at box (share_at s.boxes at).live inside ∙ by_same (at == box) refl)
  where
    by_same : (b : Bool) → (at == box) ≡ b → cond b (share_of (replicate s.width 0) (share_at s.boxes at).live) (share_at s.boxes box) ≡ share_of (replicate width 0) false
    by_same true e = rw (same, eqb-true at box e, is) refl
    by_same false e = is
retired width s box (Retires at ∷ calls) same inside is =
    retired width (called s (Retires at)) box calls same (omega (arith, length-cleared s at false))
    (cleared-at s at box false inside ∙ by_same (at == box))
  where
    by_same : (b : Bool) → cond b (share_of (replicate s.width 0) false) (share_at s.boxes box) ≡ share_of (replicate width 0) false
    by_same true = rw same refl
    by_same false = is

-- a live box from these write bytes on
live : (width : ℕ) (s : Shares) (box : ℕ) (since : List (List ℕ)) (calls : List Call) → s.width ≡ width → box < length s.boxes →
    share_at s.boxes box ≡ share_of (sum_of width since) true →
    share_at (after s calls).boxes box ≡ share_of (sum_of width (writes_since box since calls)) (not (is_retired box calls))
live width s box since [] same inside is = is
live width s box since (Adds part leaves ∷ calls) same inside is =
    live width (called s (Adds part leaves)) box (since ++ bytes_for part (slice_get leaves box)) calls same (omega (arith, length-shares_with part leaves s.boxes))
    (at-shares_with part leaves s.boxes box inside ∙ ap (share_by part (slice_get leaves box)) is ∙ live-added width part (slice_get leaves box) since)
live width s box since (Takes at ∷ calls) same inside is =
    live width (called s (Takes at)) box (cond (at == box) [] since) calls same (omega (arith, length-cleared s at (share_at s.boxes at).live))
    (cleared-at s at box (share_at s.boxes at).live inside ∙ by_same (at == box) refl)
  where
    by_same : (b : Bool) → (at == box) ≡ b → cond b (share_of (replicate s.width 0) (share_at s.boxes at).live) (share_at s.boxes box) ≡ share_of (sum_of width (cond b [] since)) true
    by_same true e = rw (same, eqb-true at box e, is) refl
    by_same false e = is
live width s box since (Retires at ∷ calls) same inside is =
    by_same (at == box) (cleared-at s at box false inside)
    (live width (called s (Retires at)) box since calls same inside')
    (retired width (called s (Retires at)) box calls same inside')
  where
    inside' : box < length (with_cleared s at false).boxes
    inside' = omega (arith, length-cleared s at false)

    by_same : (b : Bool) →
        share_at (with_cleared s at false).boxes box ≡ cond b (share_of (replicate s.width 0) false) (share_at s.boxes box) →
        (share_at (with_cleared s at false).boxes box ≡ share_of (sum_of width since) true → share_at (after (with_cleared s at false) calls).boxes box ≡ share_of (sum_of width (writes_since box since calls)) (not (is_retired box calls))) →
        (share_at (with_cleared s at false).boxes box ≡ share_of (replicate width 0) false → share_at (after (with_cleared s at false) calls).boxes box ≡ share_of (replicate width 0) false) →
        share_at (after (with_cleared s at false) calls).boxes box ≡ share_of (sum_of width (cond b [] (writes_since box since calls))) (not (b || is_retired box calls))
    by_same true here goes ends = ends (here ∙ ap (λ n. share_of (replicate n 0) false) same)
    by_same false here goes ends = goes (here ∙ is)

pub shares_are_sums : SharesAreSums
shares_are_sums count width calls box inside =
    live width (new_shares count width) box [] calls refl (omega (arith, length-replicate count (empty_share width)))
    (get_or-replicate count box (empty_share width) (empty_share 0) inside)
