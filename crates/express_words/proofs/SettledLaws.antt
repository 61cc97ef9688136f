-- Settings are what their numbers are, and numbers past a limit are none.
use Rattle.std.proofs.Common.{◌≡◌, ℕ, ◌≤◌, ◌%◌, Option, Some, None, option_and_then, refl, sym, ◌∙◌, ap, subst}
use Rattle.std.proofs.Math.Bridge.{le_prop}
use Rattle.std.proofs.Math.Nat.{ℕ_set}
use Rattle.std.proofs.Math.Decide.{dec_le, ℕ_discrete}
use Rattle.express_words.specs.Limits.{IsWidth, KeepsLimits}
use Rattle.express_words.specs.Settled.{shown, width_shown, count_shown, settled}
use Rattle.express_words.specs.declared.settings.Settings.{Settings}

is_shown : {A : Type 0} → IsProp A → (d : Dec A) → (a : A) → shown d ≡ Some a
is_shown one (yes b) a = ap Some (one b a)
is_shown one (no not) a = absurd (not a)

width_is : (n : ℕ) (is : IsWidth n) → width_shown n ≡ Some is
width_is n is =
    rw (is_shown le_prop (dec_le 16 n) is.0) (rw (is_shown le_prop (dec_le n 4096) is.1)
    (rw (is_shown (ℕ_set (n % 16) 0) (ℕ_discrete (n % 16) 0) is.2) refl))

count_is : (most n : ℕ) (is : (1 ≤ n) × (n ≤ most)) → count_shown most n ≡ Some is
count_is most n is = rw (is_shown le_prop (dec_le 1 n) is.0) (rw (is_shown le_prop (dec_le n most) is.1) refl)

-- settings are those of their numbers
pub settings_settle : (s : Settings) → settled s.width s.boxes s.lanes s.window ≡ Some s
unfolding settled
settings_settle s =
    let l = s.limits in
    rw (width_is s.width l.0) (rw (count_is 4096 s.boxes l.1) (rw (count_is 256 s.lanes l.2) (rw (count_is 32 s.window l.3) refl)))

some_both : {A B : Type 0} (a : Option A) (f : A → Option B) (b : B) → option_and_then f a ≡ Some b → (x : A) × (a ≡ Some x) × (f x ≡ Some b)
some_both None f b is = cc is
some_both (Some x) f b is = (x, refl, is)

settled_in : (width boxes lanes window : ℕ) (s : Settings) → settled width boxes lanes window ≡ Some s → KeepsLimits width boxes lanes window
unfolding settled
settled_in width boxes lanes window s is =
    let w = some_both (width_shown width) _ s is in
    let b = some_both (count_shown 4096 boxes) _ s w.2 in
    let l = some_both (count_shown 256 lanes) _ s b.2 in
    let i = some_both (count_shown 32 window) _ s l.2 in
    (w.0, b.0, l.0, i.0)

-- numbers past a limit settle none
pub none_settle : (width boxes lanes window : ℕ) → (KeepsLimits width boxes lanes window → ⊥) → settled width boxes lanes window ≡ None
none_settle width boxes lanes window not = at (settled width boxes lanes window) refl
  where
    at : (found : Option Settings) → settled width boxes lanes window ≡ found → settled width boxes lanes window ≡ None
    at None is = is
    at (Some s) is = absurd (not (settled_in width boxes lanes window s is))

-- settled settings have these numbers
pub settled_numbers : (width boxes lanes window : ℕ) (s : Settings) → settled width boxes lanes window ≡ Some s
    → (s.width ≡ width) × (s.boxes ≡ boxes) × (s.lanes ≡ lanes) × (s.window ≡ window)
unfolding settled
settled_numbers width boxes lanes window s is =
    let w = some_both (width_shown width) _ s is in
    let b = some_both (count_shown 4096 boxes) _ s w.2 in
    let l = some_both (count_shown 256 lanes) _ s b.2 in
    let i = some_both (count_shown 32 window) _ s l.2 in
    numbers_of _ s i.2
  where
    numbers_of : (made s : Settings) → Some made ≡ Some s
        → (s.width ≡ made.width) × (s.boxes ≡ made.boxes) × (s.lanes ≡ made.lanes) × (s.window ≡ made.window)
    numbers_of made s is = let same : s ≡ made = cc is in subst (λ (t : Settings). (s.width ≡ t.width) × (s.boxes ≡ t.boxes) × (s.lanes ≡ t.lanes) × (s.window ≡ t.window)) same (refl, refl, refl, refl)

-- settings of the same numbers are the same
pub one_settings : (a b : Settings) → a.width ≡ b.width → a.boxes ≡ b.boxes → a.lanes ≡ b.lanes → a.window ≡ b.window → a ≡ b
one_settings a b width boxes lanes window =
    some_is a b (sym (settings_settle a) ∙ rw (width, boxes, lanes, window) (settings_settle b))
  where
    some_is : (x y : Settings) → Some x ≡ Some y → x ≡ y
    some_is x y is = cc is
