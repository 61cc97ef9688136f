-- What reads and writes do to a server's boxes is what they do to its table of shares.
use Rattle.std.proofs.Common.{◌≡◌, ℕ, zero, suc, ◌&&◌, cond, true, false, Bool, List, [], ◌∷◌, ◌++◌, take, drop, map, replicate, Some, slice_get, refl, sym, ap, ◌∙◌}
use Rattle.mailbox_rules.specs.Tables.{Mailbox, box_with, boxes_with, boxes_cleared}
use Rattle.step_rules.specs.Boxes.{added, with_read}
use Rattle.run_rules.specs.Book.{Book}
use Rattle.run_rules.specs.Values.{box_at}

-- ---- a read or retire of a live box

pub read_effect : (b : Book) (server width : ℕ) (stays : Bool) (n : ℕ) (m : Mailbox) (ms : List Mailbox)
    → slice_get ms n ≡ Some m → m.live ≡ true
    → with_read width stays n (box_at b server m) (map (λ m. box_at b server m) ms) ≡ map (λ m. box_at b server m) (boxes_cleared width stays ms n)
unfolding boxes_cleared
read_effect b server width stays n m [] e live = absurd (cc e)
read_effect b server width stays zero m (x ∷ ms) e live =
    let same : x ≡ m = cc in
    rw (sym same) (by_life x.live (ap (λ x. x.live) same ∙ live))
  where
    by_life : (t : Bool) → t ≡ true → record (box_at b server x) { share = replicate width 0; live = stays && t } ∷ map (λ m. box_at b server m) ms
        ≡ box_at b server (cond t (record x { bytes = replicate width 0; live = stays }) x) ∷ map (λ m. box_at b server m) ms
    by_life true e = by_stays stays
      where
        by_stays : (t : Bool) → record (box_at b server x) { share = replicate width 0; live = t && true } ∷ map (λ m. box_at b server m) ms
            ≡ box_at b server (record x { bytes = replicate width 0; live = t }) ∷ map (λ m. box_at b server m) ms
        by_stays true = refl
        by_stays false = refl
    by_life false e = absurd (cc e)
read_effect b server width stays (suc n) m (x ∷ ms) e live =
    ap (λ xs. box_at b server x ∷ xs) (read_effect b server width stays n m ms e live)

-- ---- a write

added_same : (b : Book) (server : ℕ) (adds : ℕ → List ℕ) (m : Mailbox)
    → added adds (box_at b server m) ≡ box_at b server (box_with (adds m.address) m)
added_same b server adds m = refl

pub write_effect : (b : Book) (server count : ℕ) (adds : ℕ → List ℕ) (ms : List Mailbox)
    → map (added adds) (take count (map (λ m. box_at b server m) ms)) ++ drop count (map (λ m. box_at b server m) ms)
    ≡ map (λ m. box_at b server m) (boxes_with adds count ms)
unfolding boxes_with
write_effect b server zero adds ms = refl
write_effect b server (suc count) adds [] = refl
write_effect b server (suc count) adds (m ∷ ms) =
    ap (λ xs. box_at b server (box_with (adds m.address) m) ∷ xs) (write_effect b server count adds ms)
