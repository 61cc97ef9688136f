-- Reading what was spelled, functions with one value changed, and pools place by place.
use Rattle.std.proofs.Common.{◌≡◌, ◌≢◌, ℕ, zero, suc, nat_eq, true, false, List, [], ◌∷◌, ◌++◌, length, Ok, Some, slice_get, refl, sym, ap, ◌∙◌, subst, append-nil, inl, inr}
use Rattle.std.proofs.lemmas.Bool.{cases_eq, eq-eqb, ne_eqb}
use Rattle.frame_rules.specs.Frames.{PlainFrame}
use Rattle.frame_rules.specs.Spelling.{spelling, IsFrame}
use Rattle.frame_rules.specs.Reading.{decoded}
use Rattle.frame_rules.proofs.GrammarLaws.{decoded_again}
use Rattle.token_rules.specs.Tokens.{Token, put}
use Rattle.frame_rules.specs.Whole.{whole, whole_of}
use Rattle.run_rules.specs.Letters.{Letter}
use Rattle.run_rules.specs.Book.{Book}
use Rattle.run_rules.specs.Follows.{Carries, Pools}

-- what was spelled is read as exactly one frame
pub whole_spelled : (f : PlainFrame) → IsFrame f → whole (spelling f) ≡ Ok f
unfolding whole_of
whole_spelled f h =
    let e : decoded (spelling f) ≡ Ok (f, length (spelling f)) = ap decoded (sym (append-nil (spelling f))) ∙ decoded_again f [] h in
    rw (e, eq-eqb (length (spelling f)) (length (spelling f)) refl) refl

-- ---- functions with one value changed

pub put_here : {X : Type 0} (f : ℕ → X) (c : ℕ) (x : X) → put f c x c ≡ x
unfolding put
put_here f c x = let t : nat_eq c c ≡ true = eq-eqb c c refl in rw t refl

pub put_other : {X : Type 0} (f : ℕ → X) (c : ℕ) (x : X) (d : ℕ) → d ≢ c → put f c x d ≡ f d
unfolding put
put_other f c x d n = let t : nat_eq d c ≡ false = ne_eqb d c n in rw t refl

-- a part that the new value has in common with the old one
pub put_part : {X Y : Type 0} (g : X → Y) (f : ℕ → X) (c : ℕ) (x : X) → g x ≡ g (f c) → (d : ℕ)
    → g (put f c x d) ≡ g (f d)
put_part g f c x e d = elim (cases_eq d c) [
  | inl s ↦ ap g (ap (put f c x) s ∙ put_here f c x) ∙ e ∙ ap (λ i. g (f i)) (sym s)
  | inr n ↦ ap g (put_other f c x d n)
]

-- what holds of the new value and of all old ones
pub put_both : {X : Type 0} (P : ℕ → X → Type 0) (f : ℕ → X) (c : ℕ) (x : X) → P c x
    → ((d : ℕ) → d ≢ c → P d (f d)) → (d : ℕ) → P d (put f c x d)
put_both P f c x h k d = elim (cases_eq d c) [
  | inl s ↦ subst (λ i. P i (put f c x i)) (sym s) (subst (P c) (sym (put_here f c x)) h)
  | inr n ↦ subst (P d) (sym (put_other f c x d n)) (k d n)
]

-- ---- pools

pub pools_append : (b : Book) (ts us : List Token) (ls ms : List Letter) → Pools b ts ls → Pools b us ms
    → Pools b (ts ++ us) (ls ++ ms)
pools_append b [] us [] ms h k = k
pools_append b (t ∷ ts) us (l ∷ ls) ms h k = (h.0, pools_append b ts us ls ms h.1 k)
pools_append b [] us (l ∷ ls) ms h k = absurd h
pools_append b (t ∷ ts) us [] ms h k = absurd h

pub record At (b : Book) (ls : List Letter) (n : ℕ) (t : Token) : Type 0 where
  pub letter : Letter
  pub is : slice_get ls n ≡ Some letter
  pub carries : Carries b t letter

pub pools_at : (b : Book) (ts : List Token) (ls : List Letter) (n : ℕ) (t : Token) → Pools b ts ls
    → slice_get ts n ≡ Some t → At b ls n t
pools_at b (u ∷ ts) (l ∷ ls) zero t h e =
    let same : u ≡ t = cc in record { letter = l; is = refl; carries = subst (λ u. Carries b u l) same h.0 }
pools_at b (u ∷ ts) (l ∷ ls) (suc n) t h e =
    let r = pools_at b ts ls n t h.1 e in record { letter = r.letter; is = r.is; carries = r.carries }
pools_at b [] ls n t h e = absurd (cc e)
pools_at b (u ∷ ts) [] n t h e = absurd h

pub pools_length : (b : Book) (ts : List Token) (ls : List Letter) → Pools b ts ls → length ls ≡ length ts
pools_length b [] [] h = refl
pools_length b (t ∷ ts) (l ∷ ls) h = ap suc (pools_length b ts ls h.1)
pools_length b [] (l ∷ ls) h = absurd h
pools_length b (t ∷ ts) [] h = absurd h
