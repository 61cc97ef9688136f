-- The lines of the boxes, one after another.
use Rattle.std.proofs.Common.{◌≡◌, ℕ, zero, suc, ◌+◌, ◌<◌, ◌≤◌, List, [], ◌∷◌, ◌++◌, length, drop, Option, Some, sym, refl, ap, ap₂, ◌∙◌, append_assoc, append-nil, add-one, arith}
use Rattle.std.specs.Prelude.{option_map, slice_get}
use Rattle.std.proofs.lemmas.List.{drop_all}
use Rattle.helper_core.specs.State as helper
use Rattle.leader_core.specs.State as leader
use Rattle.server_boxes.specs.Held.{share_of}
use Rattle.step_rules.specs.Boxes.{Box}
use Rattle.step_rules.specs.Helper.{Server}
use Rattle.step_rules.specs.Leader.{Leader}
use Rattle.replay_world.specs.Output.{share_line, share_lines}

record IsAt (boxes : List Box) (n : ℕ) : Type 0 where
  pub box : Box
  pub is : slice_get boxes n ≡ Some box
  pub rest : drop n boxes ≡ box ∷ drop (suc n) boxes

box_at : (boxes : List Box) (n : ℕ) → n < length boxes → IsAt boxes n
box_at [] n lt = absurd (omega arith)
box_at (x ∷ xs) zero lt = record { box = x; is = refl; rest = refl }
box_at (x ∷ xs) (suc n) lt = let at = box_at xs n (omega arith) in record { box = at.box; is = at.is; rest = at.rest }

same_address : (address : ℕ) (box : Box) (o : Option Box) → o ≡ Some box → option_map (λ found. found.address) o ≡ Some address → address ≡ box.address
same_address address box o e h = let f : option_map (λ (found : Box). found.address) o ≡ Some box.address = ap (option_map (λ (found : Box). found.address)) e in cc

lines_at : (a : Leader) (n : ℕ) (box : Box) (boxes : List Box) → share_line n box.address (leader.share_in a n) box.share ++ share_lines a (n + 1) boxes ≡ share_lines a n (box ∷ boxes)
unfolding share_lines
lines_at a n box boxes = refl

pub shares_next : (a : Leader) (h : Server) (n address : ℕ) (piece before after whole : List ℕ) → n < length h.boxes → option_map (λ found. found.address) (slice_get h.boxes n) ≡ Some address
    → piece ≡ share_line n address (leader.share_in a n) (helper.share_in h n) → after ≡ before ++ piece
    → before ++ share_lines a n (drop n h.boxes) ≡ whole → after ++ share_lines a (n + 1) (drop (n + 1) h.boxes) ≡ whole
shares_next a h n address piece before after whole lt named ep ea invariant =
    let at = box_at h.boxes n lt in
    let line : piece ≡ share_line n at.box.address (leader.share_in a n) at.box.share =
    ep ∙ ap₂ (λ k (s : List ℕ). share_line n k (leader.share_in a n) s) (same_address address at.box (slice_get h.boxes n) at.is named) (ap (share_of h.settings.width) at.is)
    in
    let more = share_lines a (n + 1) (drop (n + 1) h.boxes) in
    ap (λ (t : List ℕ). t ++ more) (ea ∙ ap (λ (t : List ℕ). before ++ t) line)
    ∙ (append_assoc before (share_line n at.box.address (leader.share_in a n) at.box.share) more
    ∙ (ap (λ k. before ++ (share_line n at.box.address (leader.share_in a n) at.box.share ++ share_lines a (n + 1) (drop k h.boxes))) (add-one n)
    ∙ (ap (λ (t : List ℕ). before ++ t) (lines_at a n at.box (drop (suc n) h.boxes) ∙ ap (share_lines a n) (sym at.rest)) ∙ invariant)))

pub shares_end : (a : Leader) (boxes : List Box) (n : ℕ) (before whole : List ℕ) → length boxes ≤ n → before ++ share_lines a n (drop n boxes) ≡ whole → before ≡ whole
unfolding share_lines
shares_end a boxes n before whole le invariant =
    sym (append-nil before) ∙ (sym (ap (λ (bs : List Box). before ++ share_lines a n bs) (drop_all n boxes le)) ∙ invariant)
