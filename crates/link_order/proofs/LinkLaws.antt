-- What holds of a link after one more reply, and of each frame that it holds.
use Rattle.std.proofs.Common.{◌≡◌, ℕ, ◌+◌, ◌-◌, ◌≤◌, All, List, [], ◌∷◌, ◌++◌, Some, length, drop, refl, ap, length-append, length-drop, arith}
use Rattle.std.specs.Prelude.{slice_get}
use Rattle.std.proofs.lemmas.Option.{slice_get_within, get_or_from_slice_get}
use Rattle.std.proofs.lemmas.List.Elements.{All-drop, All-push}
use Rattle.link_order.specs.Link.{Carried, IsCarried, last}

-- a frame that is read has room
pub fits-at : (size : ℕ) (frames : List (List ℕ)) (i : ℕ) (frame : List ℕ) → All (λ f. length f ≤ size) frames → slice_get frames i ≡ Some frame → length frame ≤ size
fits-at size frames i frame all at =
    omega (arith, ap length (get_or_from_slice_get frames i frame [] at), all i [] (slice_get_within frames i frame at))

-- where as many as the window are kept, the oldest one goes
pub last-turns : (n : ℕ) (xs : List (List ℕ)) (x : List ℕ) → 1 ≤ n → length xs ≡ n → last n (xs ++ x ∷ []) ≡ drop 1 xs ++ x ∷ []
last-turns n [] x some full = absurd (omega arith)
last-turns n (y ∷ ys) x some full =
    let one : length (y ∷ ys ++ x ∷ []) - n ≡ 1 = simp length-append (omega arith) in
    rw one refl

pub carried-more : (link : Carried) (reply : List ℕ) → IsCarried link → length reply ≤ link.size →
    IsCarried (record { carried = link.carried + 1; window = link.window; size = link.size; replies = last link.window (link.replies ++ reply ∷ []) })
carried-more link reply is fits = record {
  some = is.some;
  kept = simp (length-drop, length-append) (omega (arith, is.kept, is.some));
  short = All-drop (λ r. length r ≤ link.size) _ (link.replies ++ reply ∷ []) (All-push (λ r. length r ≤ link.size) link.replies reply is.short fits);
}
