-- Lanes after one more event.
use Rattle.std.proofs.Common.{◌≡◌, ℕ, ◌<◌, ◌≤◌, ◌||◌, Bool, true, false, List, [], ◌∷◌, ◌++◌, length, get_or, replicate, Option, Some, None, zero, suc, ◌⊎◌, inl, inr, refl, arith, ap, sym, ◌∙◌}
use Rattle.std.proofs.lemmas.List.{get_or_past}
use Rattle.std.proofs.lemmas.Bool.{ne_eqb}
use Rattle.schedule_text.specs.Lanes.{client_of, foreign_by, is_lane, is_used, is_foreign}
use Rattle.schedule_text.specs.Tables.{IsTableOf, IsBelow}
use Rattle.schedule_text.specs.declared.lanes.Lanes.{Lanes}
use Rattle.schedule_text.specs.declared.schedule.Event.{Event}

or_swap : (a b c : Bool) → (a || (b || c)) ≡ (b || (a || c))
or_swap true true c = refl
or_swap true false c = refl
or_swap false true c = refl
or_swap false false c = refl

pub is_used_last : (before : List Event) (event : Event) (lane : ℕ)
    → is_used (before ++ event ∷ []) lane ≡ (is_lane lane (client_of event) || is_used before lane)
unfolding is_used
is_used_last [] event lane = refl
is_used_last (first ∷ before) event lane =
    rw (is_used_last before event lane)
    (or_swap (is_lane lane (client_of first)) (is_lane lane (client_of event)) (is_used before lane))

pub is_foreign_last : (before : List Event) (event : Event) (lane : ℕ)
    → is_foreign (before ++ event ∷ []) lane ≡ (is_lane lane (foreign_by event) || is_foreign before lane)
unfolding is_foreign
is_foreign_last [] event lane = refl
is_foreign_last (first ∷ before) event lane =
    rw (is_foreign_last before event lane)
    (or_swap (is_lane lane (foreign_by first)) (is_lane lane (foreign_by event)) (is_foreign before lane))

lt_or_ge : (a b : ℕ) → (a < b) ⊎ (b ≤ a)
lt_or_ge a zero = inr (omega arith)
lt_or_ge zero (suc b) = inl (omega arith)
lt_or_ge (suc a) (suc b) = shift (lt_or_ge a b)
  where
    shift : (a < b) ⊎ (b ≤ a) → (suc a < suc b) ⊎ (suc b ≤ suc a)
    shift (inl h) = inl (omega arith)
    shift (inr h) = inr (omega arith)

-- a client below 256 is no lane above
above : (lane : ℕ) (client : Option ℕ) → 256 ≤ lane → IsBelow 256 client → is_lane lane client ≡ false
above lane None high low = refl
above lane (Some client) high low = ne_eqb lane client (λ e. omega (arith, e, high, low))

used_above : (before : List Event) (event : Event) (old new : Lanes) (lane : ℕ) → IsTableOf old before
    → IsBelow 256 (client_of event) → length old.used ≡ 256 → length new.used ≡ 256 → 256 ≤ lane
    → get_or new.used lane false ≡ is_used (before ++ event ∷ []) lane
used_above before event old new lane table low old_length new_length high =
    let past : get_or new.used lane false ≡ false = get_or_past new.used lane false (omega arith) in
    let was : get_or old.used lane false ≡ false = get_or_past old.used lane false (omega arith) in
    past ∙ sym (is_used_last before event lane
    ∙ rw (above lane (client_of event) high low) (sym (table.used lane) ∙ was))

pub table_of_none : (lanes : Lanes) → lanes.used ≡ replicate 256 false → lanes.foreign ≡ replicate 256 false
    → IsTableOf lanes []
unfolding is_used is_foreign
table_of_none lanes used foreign = record {
  used = λ lane. rw used (none 256 lane);
  foreign = λ lane below. rw foreign (none 256 lane);
}
  where
    none : (n lane : ℕ) → get_or (replicate n false) lane false ≡ false
    none zero lane = refl
    none (suc n) zero = refl
    none (suc n) (suc lane) = none n lane

pub table_of_one_more : (before : List Event) (event : Event) (old new : Lanes) → IsTableOf old before
    → IsBelow 256 (client_of event) → length old.used ≡ 256 → length old.foreign ≡ 256 → length new.used ≡ 256
    → ((k : ℕ) → k < length old.used
    → get_or new.used k false ≡ (is_lane k (client_of event) || get_or old.used k false))
    → ((k : ℕ) → k < length old.foreign
    → get_or new.foreign k false ≡ (is_lane k (foreign_by event) || get_or old.foreign k false))
    → IsTableOf new (before ++ event ∷ [])
table_of_one_more before event old new table low old_used old_foreign new_used marked noted = record {
  used = λ lane. at lane (lt_or_ge lane 256);
  foreign = λ lane below.
      noted lane (omega (arith, below, old_foreign))
      ∙ ap (λ b. is_lane lane (foreign_by event) || b) (table.foreign lane below)
      ∙ sym (is_foreign_last before event lane);
}
  where
    at : (lane : ℕ) → (lane < 256) ⊎ (256 ≤ lane)
        → get_or new.used lane false ≡ is_used (before ++ event ∷ []) lane
    at lane (inl below) =
        marked lane (omega (arith, below, old_used))
        ∙ ap (λ b. is_lane lane (client_of event) || b) (table.used lane)
        ∙ sym (is_used_last before event lane)
    at lane (inr high) = used_above before event old new lane table low old_used new_used high
