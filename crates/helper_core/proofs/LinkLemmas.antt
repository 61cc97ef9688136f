-- Where a command's number stands on the link.
use Rattle.std.proofs.Common.{◌≡◌, ◌≢◌, ◌<◌, ◌≤◌, ◌+◌, ◌-◌, ◌⊎◌, ℕ, zero, suc, List, [], ◌∷◌, ◌++◌, length, take, drop, get_or, Some, None, inl, inr, refl, ap, ◌∙◌, arith}
use Rattle.std.specs.Prelude.{slice_get, Option}
use Rattle.std.proofs.lemmas.Bool.{eq-eqb, ne_eqb, le-leb, lt-leb}
use Rattle.frame_rules.specs.Frames.{PlainFrame}
use Rattle.frame_rules.specs.Whole.{is_command, linked}
use Rattle.step_rules.specs.Helper.{Helper, LinkTurn, Repeated, Ignored}
use Rattle.helper_core.specs.Turns.{DoesLink}
use Rattle.helper_core.specs.declared.helper.LinkTurn.TheVariants as turn
use Rattle.step_rules.specs.HelperCommands.{arrives, arrival_steps, if_command, carried_with, carries_out, carry_steps, on_link_bytes, link_steps}

get_there : (xs : List (List ℕ)) (n : ℕ) (x : List ℕ) → slice_get xs n ≡ Some x → get_or xs n [] ≡ x
get_there [] n x e = absurd (cc e)
get_there (y ∷ ys) zero x e = let same : y ≡ x = cc in same
get_there (y ∷ ys) (suc n) x e = get_there ys n x e

pub no_command : (h : Helper) (o : Option PlainFrame) → o ≡ None → (if_command h o ≡ record { helper = h; answer = Ignored }) × (arrival_steps h o ≡ 0)
unfolding if_command arrival_steps
no_command h None e = (refl, refl)
no_command h (Some f) e = absurd (cc e)

pub is_command_of : (h : Helper) (o : Option PlainFrame) (f : PlainFrame) → o ≡ Some f → if_command h o ≡ arrives h f
unfolding if_command
is_command_of h (Some x) f e = let same : x ≡ f = cc in ap (arrives h) same
is_command_of h None f e = absurd (cc e)

-- ---- the next one

pub next_arrives : (h : Helper) (f : PlainFrame) → f.link ≡ h.carried + 1 → arrives h f ≡ carried_with h f (carries_out h.server f)
unfolding arrives
next_arrives h f e = rw (eq-eqb f.link (h.carried + 1) e) refl

pub next_steps : (h : Helper) (f : PlainFrame) → f.link ≡ h.carried + 1 → arrival_steps h (Some f) ≡ carry_steps h.server f
unfolding arrival_steps
next_steps h f e = rw (eq-eqb f.link (h.carried + 1) e) refl

pub other_steps : (h : Helper) (f : PlainFrame) → f.link ≢ h.carried + 1 → arrival_steps h (Some f) ≡ 0
unfolding arrival_steps
other_steps h f e = rw (ne_eqb f.link (h.carried + 1) e) refl

-- ---- one that was carried and is kept

pub kept_arrives : (h : Helper) (f : PlainFrame) (place : ℕ) (reply : List ℕ) → place < length h.replies → f.link + length h.replies ≡ h.carried + 1 + place → slice_get h.replies place ≡ Some reply →
    arrives h f ≡ record { helper = h; answer = Repeated reply }
unfolding arrives
kept_arrives h f place reply inside at some =
    rw (ne_eqb f.link (h.carried + 1) (λ (e : f.link ≡ h.carried + 1). omega arith), le-leb f.link h.carried (omega arith), le-leb (h.carried + 1) (f.link + length h.replies) (omega arith))
    (ap (λ (b : List ℕ). let t : LinkTurn = record { helper = h; answer = Repeated b } in t)
    (ap (λ n. get_or h.replies n []) (let z : f.link + length h.replies - (h.carried + 1) ≡ place = omega arith in z) ∙ get_there h.replies place reply some))

-- ---- one that is neither

pub passed_arrives : (h : Helper) (f : PlainFrame) → (h.carried + 1 < f.link) ⊎ (f.link + length h.replies ≤ h.carried) → arrives h f ≡ record { helper = h; answer = Ignored }
unfolding arrives
passed_arrives h f (inl above) =
    rw (ne_eqb f.link (h.carried + 1) (λ (e : f.link ≡ h.carried + 1). omega arith), lt-leb f.link h.carried (omega arith)) refl
passed_arrives h f (inr below) =
    rw (ne_eqb f.link (h.carried + 1) (λ (e : f.link ≡ h.carried + 1). omega arith), le-leb f.link h.carried (omega arith), lt-leb (h.carried + 1) (f.link + length h.replies) (omega arith)) refl

pub passed_isnt_next : (h : Helper) (f : PlainFrame) → (h.carried + 1 < f.link) ⊎ (f.link + length h.replies ≤ h.carried) → f.link ≢ h.carried + 1
passed_isnt_next h f (inl above) e = omega arith
passed_isnt_next h f (inr below) e = omega arith

-- ---- the whole turn

module _ (h : Helper) (bytes : List ℕ) where
  pub nothing_turn : linked is_command h.server.settings.width bytes ≡ None → (on_link_bytes h bytes ≡ record { helper = h; answer = Ignored }) × (link_steps h bytes ≡ 0)
  nothing_turn e = no_command h (linked is_command h.server.settings.width bytes) e

  pub passed_turn : (f : PlainFrame) → linked is_command h.server.settings.width bytes ≡ Some f → (h.carried + 1 < f.link) ⊎ (f.link + length h.replies ≤ h.carried) →
      (on_link_bytes h bytes ≡ record { helper = h; answer = Ignored }) × (link_steps h bytes ≡ 0)
  passed_turn f e where_is =
      (is_command_of h (linked is_command h.server.settings.width bytes) f e ∙ passed_arrives h f where_is, ap (arrival_steps h) e ∙ other_steps h f (passed_isnt_next h f where_is))

  pub kept_turn : (f : PlainFrame) (place : ℕ) (reply : List ℕ) → linked is_command h.server.settings.width bytes ≡ Some f → place < length h.replies → f.link + length h.replies ≡ h.carried + 1 + place →
      slice_get h.replies place ≡ Some reply → (on_link_bytes h bytes ≡ record { helper = h; answer = Repeated reply }) × (link_steps h bytes ≡ 0)
  kept_turn f place reply e inside at some = (
    is_command_of h (linked is_command h.server.settings.width bytes) f e ∙ kept_arrives h f place reply inside at some,
    ap (arrival_steps h) e ∙ other_steps h f (λ (n : f.link ≡ h.carried + 1). omega arith),
  )

  pub next_turn : (f : PlainFrame) → linked is_command h.server.settings.width bytes ≡ Some f → f.link ≡ h.carried + 1 →
      (on_link_bytes h bytes ≡ carried_with h f (carries_out h.server f)) × (link_steps h bytes ≡ carry_steps h.server f)
  next_turn f e is_next =
      (is_command_of h (linked is_command h.server.settings.width bytes) f e ∙ next_arrives h f is_next, ap (arrival_steps h) e ∙ next_steps h f is_next)

take_front : (xs ys : List ℕ) → take (length xs) (xs ++ ys) ≡ xs
take_front [] ys = refl
take_front (x ∷ xs) ys = ap (λ zs. x ∷ zs) (take_front xs ys)

drop_front : (xs ys : List ℕ) → drop (length xs) (xs ++ ys) ≡ ys
drop_front [] ys = refl
drop_front (x ∷ xs) ys = drop_front xs ys

-- ---- what a turn does that carries nothing out

pub does_nothing : (h : Helper) (out : List ℕ) → (let t : LinkTurn = record { helper = h; answer = Ignored } in DoesLink t h h turn.Ignored out out)
does_nothing h out = record { helper = refl; refused = refl; answer = refl; written = refl; rest = refl; settings = refl; frame = tt }

-- the kept reply is written again
pub does_again : (h : Helper) (reply front out : List ℕ) → front ≡ reply
    → (let t : LinkTurn = record { helper = h; answer = Repeated reply } in DoesLink t h h (turn.Repeated (length reply)) out (front ++ drop (length reply) out))
does_again h reply front out is =
    let rest = drop (length reply) out in
    record {
      helper = refl;
      refused = refl;
      answer = refl;
      written = ap (λ (b : List ℕ). take (length reply) (b ++ rest)) is ∙ take_front reply rest;
      rest = ap (λ (b : List ℕ). drop (length reply) (b ++ rest)) is ∙ drop_front reply rest;
      settings = refl;
      frame = tt;
    }
