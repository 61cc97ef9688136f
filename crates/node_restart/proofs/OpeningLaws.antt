-- A record tells the opening whose record it is.
use Rattle.std.proofs.Common.{◌≡◌, ℕ, ◌<◌, ◌^◌, List, take, drop, get_or, refl, sym, ◌∙◌, ap, arith}
use Rattle.std.proofs.lemmas.Nat.{from_be_bytes-to_be_bytes_2, from_be_bytes-to_be_bytes_4}
use Rattle.std.specs.Int.{w16, w32, to_be_bytes, from_be_bytes}
use Rattle.express_words.specs.declared.settings.Settings.{Settings}
use Rattle.express_words.proofs.SettledLaws.{one_settings}
use Rattle.node_restart.specs.declared.opening.Opening.{Opening}
use Rattle.express_words.specs.declared.role.Role.{Role}
use Rattle.express_words.specs.declared.role.Role.TheVariants.{Leader, Helper}
use Rattle.node_restart.specs.Openings.{IsOpening, opening_record, role_number}

pub one_role : (a b : Role) → role_number a ≡ role_number b → a ≡ b
one_role Leader Leader is = refl
one_role Leader Helper is = absurd (omega arith)
one_role Helper Leader is = absurd (omega arith)
one_role Helper Helper is = refl

wide_one : (a b : ℕ) → a < 2 ^ 32 → b < 2 ^ 32 → to_be_bytes w32 a ≡ to_be_bytes w32 b → a ≡ b
wide_one a b fa fb is = sym (from_be_bytes-to_be_bytes_4 a fa) ∙ ap (from_be_bytes w32) is ∙ from_be_bytes-to_be_bytes_4 b fb

short_one : (a b : ℕ) → a < 2 ^ 16 → b < 2 ^ 16 → to_be_bytes w16 a ≡ to_be_bytes w16 b → a ≡ b
short_one a b fa fb is = sym (from_be_bytes-to_be_bytes_2 a fa) ∙ ap (from_be_bytes w16) is ∙ from_be_bytes-to_be_bytes_2 b fb

abbrev made : Role → Settings → List ℕ → Opening
made role settings seed = record { role = role; settings = settings; seed = seed }

pub one_opening : (a b : Opening) → IsOpening a → IsOpening b → opening_record a ≡ opening_record b → a ≡ b
one_opening a b ia ib is =
    let s = a.settings in
    let t = b.settings in
    let role = one_role a.role b.role (ap (λ (l : List ℕ). get_or l 1 0) is) in
    let width = wide_one s.width t.width (omega (arith, s.limits.0.1)) (omega (arith, t.limits.0.1)) (ap (λ (l : List ℕ). take 4 (drop 2 l)) is) in
    let boxes = wide_one s.boxes t.boxes (omega (arith, s.limits.1.1)) (omega (arith, t.limits.1.1)) (ap (λ (l : List ℕ). take 4 (drop 6 l)) is) in
    let lanes = short_one s.lanes t.lanes (omega (arith, s.limits.2.1)) (omega (arith, t.limits.2.1)) (ap (λ (l : List ℕ). take 2 (drop 10 l)) is) in
    let window : s.window ≡ t.window = ap (λ (l : List ℕ). get_or l 12 0) is in
    let seed : a.seed ≡ b.seed = ap (λ (l : List ℕ). drop 13 l) is in
    ap (λ (x : Role). made x s a.seed) role
    ∙ ap (λ (x : Settings). made b.role x a.seed) (one_settings s t width boxes lanes window)
    ∙ ap (λ (x : List ℕ). made b.role t x) seed

-- a number past both servers' is no server's
pub no_role : (number : ℕ) → (number ≡ 0 → ⊥) → (number ≡ 1 → ⊥) → (role : Role) → role_number role ≡ number → ⊥
no_role number not_leader not_helper Leader is = not_leader (sym is)
no_role number not_leader not_helper Helper is = not_helper (sym is)
