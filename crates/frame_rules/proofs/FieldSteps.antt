-- What a step of reading answers, and what that says of the fields that it judges.
use Rattle.std.proofs.Common.{◌≡◌, ℕ, ◌+◌, ◌≤◌, Bool, true, false, cond, List, [], ◌∷◌, length, Result, Ok, Err, refl, arith, inl, inr}
use Rattle.std.specs.Prelude.{◌⊎◌}
use Rattle.std.specs.Int.{Width, byte_len}
use Rattle.std.proofs.lemmas.Bool.{cases_lt, le-ltb, lt-ltb}
use Rattle.frame_rules.specs.declared.fault.FrameFault.{FrameFault}
use Rattle.frame_rules.specs.declared.fault.FrameFault.TheVariants.{Short}
use Rattle.frame_rules.specs.Forms.{◌>>=◌, number_at}
use Rattle.frame_rules.specs.Fields.{Field, offset, size, HasCome, big_endian, front, IsThere, IsRight, Passes, IsWrong, fault_of, FirstWrong}

abbrev pub AllPass : List Field → List ℕ → Type 0
AllPass [] bytes = Unit {0}
AllPass (field ∷ others) bytes = Passes field bytes × AllPass others bytes

-- one of these fields hasn't come, and all before it pass
abbrev pub Waits : List Field → List ℕ → Type 0
Waits [] bytes = ⊥
Waits (field ∷ others) bytes = (IsThere field (front bytes) × (HasCome field bytes → ⊥)) ⊎ (Passes field bytes × Waits others bytes)

abbrev pub NoneWrong : List Field → List ℕ → Type 0
NoneWrong some bytes = (d : FrameFault) → FirstWrong some bytes d → ⊥

-- a value where all fields pass; else the fault of the first wrong one, or Short where one hasn't come
unfoldable pub Heads : {A : Type 0} → List Field → List ℕ → (A → Type 0) → Result A FrameFault → Type 0
Heads some bytes Is (Ok x) = AllPass some bytes × Is x
Heads some bytes Is (Err d) = FirstWrong some bytes d ⊎ ((d ≡ Short) × Waits some bytes)

-- so of the last fields, behind which bytes may be missing
unfoldable pub Ends : {A : Type 0} → List Field → List ℕ → Result A FrameFault → Type 0
Ends some bytes (Ok x) = AllPass some bytes
Ends some bytes (Err d) = FirstWrong some bytes d ⊎ ((d ≡ Short) × NoneWrong some bytes)

-- ---- a field more in front

pub heads_ok : {A : Type 0} (bytes : List ℕ) (Is : A → Type 0) (x : A) → Is x → Heads [] bytes Is (Ok x)
unfolding Heads FirstWrong
heads_ok bytes Is x h = (tt, h)

pub pass_head : {A : Type 0} (field : Field) (others : List Field) (bytes : List ℕ) (Is : A → Type 0) (r : Result A FrameFault) → Passes field bytes → Heads others bytes Is r
    → Heads (field ∷ others) bytes Is r
unfolding Heads FirstWrong
pass_head field others bytes Is (Ok x) p h = ((p, h.0), h.1)
pass_head field others bytes Is (Err d) p h =
    elim h [
      | inl wrong ↦ inl (inr (p, wrong))
      | inr waits ↦ inr (waits.0, inr (p, waits.1))
    ]

-- a field that passes isn't wrong
pub wrong_passes : (field : Field) (bytes : List ℕ) → Passes field bytes → IsWrong field bytes → ⊥
wrong_passes field bytes p w = w.2 (p w.0).1

pub pass_end : {A : Type 0} (field : Field) (others : List Field) (bytes : List ℕ) (r : Result A FrameFault) → Passes field bytes → Ends others bytes r → Ends (field ∷ others) bytes r
unfolding Ends FirstWrong
pass_end field others bytes (Ok x) p h = (p, h)
pass_end field others bytes (Err d) p h =
    elim h [
      | inl wrong ↦ inl (inr (p, wrong))
      | inr none ↦ inr (none.0, λ e w. elim w [ inl x ↦ wrong_passes field bytes p x.0 | inr y ↦ none.1 e y.1 ])
    ]

-- a field that the frame hasn't
pub absent : (field : Field) (bytes : List ℕ) → (IsThere field (front bytes) → ⊥) → Passes field bytes
absent field bytes none there = absurd (none there)

pub wait_end : (A : Type 0) (field : Field) (others : List Field) (bytes : List ℕ) → IsThere field (front bytes) → (HasCome field bytes → ⊥) → Ends {A = A} (field ∷ others) bytes (Err Short)
unfolding Ends FirstWrong
wait_end A field others bytes there late = inr (refl, λ e w. elim w [ inl x ↦ late x.0.1 | inr y ↦ late (y.0 there).0 ])

pub wrong_end : (A : Type 0) (field : Field) (others : List Field) (bytes : List ℕ) → IsThere field (front bytes) → HasCome field bytes → (IsRight field (front bytes) → ⊥)
    → Ends {A = A} (field ∷ others) bytes (Err (fault_of field (front bytes)))
unfolding Ends FirstWrong
wrong_end A field others bytes there come wrong = inl (inl ((there, come, wrong), refl))

pub made_end : {A B : Type 0} (some : List Field) (bytes : List ℕ) (r : Result A FrameFault) (make : A → B) → Ends some bytes r → Ends some bytes (r >>= λ x. Ok (make x))
unfolding Ends FirstWrong
made_end some bytes (Ok x) make h = h
made_end some bytes (Err d) make h = h

-- ---- a step of the header, and the next ones

pub then : {A B : Type 0} (field : Field) (others : List Field) (bytes : List ℕ) (Is : A → Type 0) (Out : B → Type 0) (first : Result A FrameFault) (next : A → Result B FrameFault)
    → Heads (field ∷ []) bytes Is first → ((x : A) → Is x → Heads others bytes Out (next x)) → Heads (field ∷ others) bytes Out (first >>= next)
unfolding Heads FirstWrong
then field others bytes Is Out (Ok x) next h rest = pass_head field others bytes Out (next x) h.0.0 (rest x h.1)
then field others bytes Is Out (Err d) next h rest =
    elim h [
      | inl wrong ↦ inl (elim wrong [ inl w ↦ inl w | inr y ↦ absurd y.1 ])
      | inr waits ↦ inr (waits.0, elim waits.1 [ inl w ↦ inl w | inr y ↦ absurd y.1 ])
    ]

-- a number that is judged once it has come
pub judged_number : {A : Type 0} (w : Width) (place : ℕ) (field : Field) (bytes : List ℕ) (Is : A → Type 0) (check : ℕ → Result A FrameFault)
    → IsThere field (front bytes) → offset field + size field ≡ place + byte_len w → (HasCome field bytes → Heads (field ∷ []) bytes Is (check (big_endian w place bytes)))
    → Heads (field ∷ []) bytes Is (number_at w place bytes >>= check)
unfolding Heads FirstWrong number_at
judged_number {A} w place field bytes Is check there same judge =
    elim (cases_lt (length bytes) (place + byte_len w)) [
      | inl lt ↦ rw (lt-ltb (length bytes) (place + byte_len w) lt) (late (λ come. absurd (omega (arith, come, same, lt))))
      | inr le ↦ rw (le-ltb (length bytes) (place + byte_len w) le) (judge (omega (arith, same, le)))
    ]
  where
    late : (HasCome field bytes → ⊥) → Heads {A = A} (field ∷ []) bytes Is (Err Short)
    late h = inr (refl, inl (there, h))

-- a number that isn't judged, before a field that has to come behind it
pub passed_number : {B : Type 0} (w : Width) (place : ℕ) (field : Field) (others : List Field) (bytes : List ℕ) (Out : B → Type 0) (next : ℕ → Result B FrameFault)
    → IsThere field (front bytes) → place + byte_len w ≤ offset field + size field → Heads (field ∷ others) bytes Out (next (big_endian w place bytes))
    → Heads (field ∷ others) bytes Out (number_at w place bytes >>= next)
unfolding Heads FirstWrong number_at
passed_number {B} w place field others bytes Out next there within rest =
    elim (cases_lt (length bytes) (place + byte_len w)) [
      | inl lt ↦ rw (lt-ltb (length bytes) (place + byte_len w) lt) (late (λ come. absurd (omega (arith, come, within, lt))))
      | inr le ↦ rw (le-ltb (length bytes) (place + byte_len w) le) rest
    ]
  where
    late : (HasCome field bytes → ⊥) → Heads {A = B} (field ∷ others) bytes Out (Err Short)
    late h = inr (refl, inl (there, h))

-- a test that has to hold, and one that must not
pub tested : {A : Type 0} (field : Field) (bytes : List ℕ) (b : Bool) (x : A) (Is : A → Type 0) → IsThere field (front bytes) → HasCome field bytes
    → (b ≡ true → IsRight field (front bytes) × Is x) → (b ≡ false → IsRight field (front bytes) → ⊥) → Heads (field ∷ []) bytes Is (cond b (Ok x) (Err (fault_of field (front bytes))))
unfolding Heads FirstWrong
tested field bytes true x Is there come right wrong = (((λ t. (come, (right refl).0)), tt), (right refl).1)
tested field bytes false x Is there come right wrong = inl (inl ((there, come, wrong refl), refl))

pub guarded : {A : Type 0} (field : Field) (bytes : List ℕ) (b : Bool) (x : A) (Is : A → Type 0) → IsThere field (front bytes) → HasCome field bytes
    → (b ≡ false → IsRight field (front bytes) × Is x) → (b ≡ true → IsRight field (front bytes) → ⊥) → Heads (field ∷ []) bytes Is (cond b (Err (fault_of field (front bytes))) (Ok x))
unfolding Heads FirstWrong
guarded field bytes false x Is there come right wrong = (((λ t. (come, (right refl).0)), tt), (right refl).1)
guarded field bytes true x Is there come right wrong = inl (inl ((there, come, wrong refl), refl))
