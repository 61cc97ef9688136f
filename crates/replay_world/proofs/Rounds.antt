-- The rounds of a drain and of a finish.
use Rattle.std.proofs.Common.{◌≡◌, ℕ, zero, suc, ◌<◌, true, false, cond, length, refl, sym, ap, ◌∙◌, arith}
use Rattle.std.specs.Prelude.{is_none}
use Rattle.std.proofs.lemmas.Bool.{lt-ltb, le-ltb}
use Rattle.token_rules.specs.Driven.{drain_round_by, drains_by, finish_round_by, finishes_by}
use Rattle.run_rules.specs.Letters.{FrameWorld}
use Rattle.run_rules.specs.Run.{frame_moves}

pub drain_more : (w : FrameWorld) (n k : ℕ) → n ≡ suc k → 0 < length w.leader.outstanding
    → drains_by frame_moves k (drain_round_by frame_moves w) ≡ drains_by frame_moves n w
unfolding drains_by
drain_more w n k e busy =
    sym (ap (λ m. drains_by frame_moves m w) e
    ∙ ap (λ t. cond t (drains_by frame_moves k (drain_round_by frame_moves w)) w) (lt-ltb 0 (length w.leader.outstanding) busy))

pub drain_idle : (w : FrameWorld) (n : ℕ) → length w.leader.outstanding ≡ 0 → w ≡ drains_by frame_moves n w
unfolding drains_by
drain_idle w zero e = refl
drain_idle w (suc k) e = sym (ap (λ t. cond t (drains_by frame_moves k (drain_round_by frame_moves w)) w) (le-ltb 0 (length w.leader.outstanding) (omega arith)))

pub drain_over : (w : FrameWorld) (n : ℕ) → n ≡ 0 → w ≡ drains_by frame_moves n w
unfolding drains_by
drain_over w n e = sym (ap (λ m. drains_by frame_moves m w) e)

pub finish_more : (w : FrameWorld) (c n k : ℕ) → n ≡ suc k → is_none (w.clients c).current ≡ false
    → finishes_by frame_moves k (finish_round_by frame_moves w c) c ≡ finishes_by frame_moves n w c
unfolding finishes_by
finish_more w c n k e busy =
    sym (ap (λ m. finishes_by frame_moves m w c) e
    ∙ ap (λ t. cond t w (finishes_by frame_moves k (finish_round_by frame_moves w c) c)) busy)

pub finish_idle : (w : FrameWorld) (c n : ℕ) → is_none (w.clients c).current ≡ true → w ≡ finishes_by frame_moves n w c
unfolding finishes_by
finish_idle w c zero e = refl
finish_idle w c (suc k) e = sym (ap (λ t. cond t w (finishes_by frame_moves k (finish_round_by frame_moves w c) c)) e)

pub finish_over : (w : FrameWorld) (c n : ℕ) → n ≡ 0 → w ≡ finishes_by frame_moves n w c
unfolding finishes_by
finish_over w c n e = sym (ap (λ m. finishes_by frame_moves m w c) e)
