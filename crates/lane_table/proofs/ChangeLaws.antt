-- What a list of changes leaves to a lane.
use Rattle.std.proofs.Common.{◌≡◌, ℕ, ◌<◌, ◌==◌, true, false, ◌⊎◌, inl, inr, List, [], ◌∷◌, length, cond, set, refl, sym, ◌∙◌, ap}
use Rattle.std.proofs.lemmas.List.{length-set, get_or-set_same, get_or-set_other}
use Rattle.std.proofs.lemmas.Bool.{eqb-true, eqb-false}
use Rattle.lane_table.specs.declared.row.Row.{Row}
use Rattle.lane_table.specs.Table.{Lane, idle, lane_at, with_row, with_reply}
use Rattle.lane_table.specs.Changes.{Change, Sets, Keeps, last_row, last_reply, KeepsItsLast, KeepsTheirNumber}

pub length-after : KeepsTheirNumber
length-after lanes [] = refl
length-after lanes (Sets at row ∷ changes) = length-after (with_row lanes at row) changes ∙ simp length-set
length-after lanes (Keeps at reply ∷ changes) = length-after (with_reply lanes at reply) changes ∙ simp length-set

-- a change at the lane itself, or at another one
record AtLane (lanes : List Lane) (at lane : ℕ) (content : Lane) : Type 0 where
  is : at == lane ≡ true
  own : lane_at lanes at ≡ lane_at lanes lane
  new : lane_at (set lanes at content) lane ≡ content

record AtOther (lanes : List Lane) (at lane : ℕ) (content : Lane) : Type 0 where
  is : at == lane ≡ false
  new : lane_at (set lanes at content) lane ≡ lane_at lanes lane

at-lane : (lanes : List Lane) (at lane : ℕ) (content : Lane) → lane < length lanes → at == lane ≡ true → AtLane lanes at lane content
at-lane lanes at lane content h e =
    let same = eqb-true at lane e in
    record { is = e; own = ap (lane_at lanes) same; new = rw same (get_or-set_same lanes lane content idle h) }

at-other : (lanes : List Lane) (at lane : ℕ) (content : Lane) → at == lane ≡ false → AtOther lanes at lane content
at-other lanes at lane content e =
    record { is = e; new = get_or-set_other lanes at lane content idle (λ same. eqb-false at lane e (sym same)) }

either : (lanes : List Lane) (at lane : ℕ) (content : Lane) → lane < length lanes → AtLane lanes at lane content ⊎ AtOther lanes at lane content
either lanes at lane content h =
    elim (at == lane) as (λ b. at == lane ≡ b → AtLane lanes at lane content ⊎ AtOther lanes at lane content) [
      | true ↦ λ e. inl (at-lane lanes at lane content h e)
      | false ↦ λ e. inr (at-other lanes at lane content e)
    ] refl

at-with_row : (lanes : List Lane) (at lane : ℕ) (row : Row) → lane < length lanes →
    lane_at (with_row lanes at row) lane ≡ record { row = cond (at == lane) row (lane_at lanes lane).row; reply = (lane_at lanes lane).reply }
at-with_row lanes at lane row h =
    elim (either lanes at lane (record { row = row; reply = (lane_at lanes at).reply }) h) [
      | inl w ↦ rw (w.is, w.new, w.own) refl
      | inr w ↦ rw (w.is, w.new) refl
    ]

at-with_reply : (lanes : List Lane) (at lane : ℕ) (reply : List ℕ) → lane < length lanes →
    lane_at (with_reply lanes at reply) lane ≡ record { row = (lane_at lanes lane).row; reply = cond (at == lane) reply (lane_at lanes lane).reply }
at-with_reply lanes at lane reply h =
    elim (either lanes at lane (record { row = (lane_at lanes at).row; reply = reply }) h) [
      | inl w ↦ rw (w.is, w.new, w.own) refl
      | inr w ↦ rw (w.is, w.new) refl
    ]

left : ℕ → Lane → List Change → Lane
left lane content changes = record { row = last_row lane content.row changes; reply = last_reply lane content.reply changes }

pub lane_at-after : KeepsItsLast
unfolding left
lane_at-after lanes [] lane h = refl
lane_at-after lanes (Sets at row ∷ changes) lane h =
    lane_at-after (with_row lanes at row) changes lane (rw length-set h) ∙ ap (λ content. left lane content changes) (at-with_row lanes at lane row h)
lane_at-after lanes (Keeps at reply ∷ changes) lane h =
    lane_at-after (with_reply lanes at reply) changes lane (rw length-set h) ∙ ap (λ content. left lane content changes) (at-with_reply lanes at lane reply h)
