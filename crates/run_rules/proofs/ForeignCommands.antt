-- Commands of clients leave those of foreign lanes as they are.
use Rattle.std.proofs.Common.{◌≡◌, ◌≢◌, ℕ, true, false, List, [], ◌∷◌, ◌++◌, Some, slice_get, slice_set, slice_index_or, sym, ap, ◌∙◌, inl, inr}
use Rattle.std.proofs.lemmas.List.{get_or-set_other}
use Rattle.mailbox_rules.specs.Requests.{Line, Command, Audits, Settles}
use Rattle.token_rules.specs.Run.{line_of}
use Rattle.token_rules.proofs.Lists.{get_more}
use Rattle.step_rules.specs.Leader.{Row, Stage, Idle, Waiting, Challenged, Auditing, Settling, Done, idle}
use Rattle.run_rules.specs.Book.{Book}
use Rattle.run_rules.specs.Follows.{IsUnissued, StillToIssue, ForeignCommands}

other_lane : (b : Book) (c d : ℕ) → b.foreign c ≡ false → b.foreign d ≡ true → d ≢ c
other_lane b c d hon foreign same = let e : b.foreign d ≡ b.foreign c = ap b.foreign same in absurd (cc (sym foreign ∙ e ∙ hon))

row_kept : (b : Book) (rows : List Row) (c d : ℕ) (r : Row) → b.foreign c ≡ false → b.foreign d ≡ true
    → slice_index_or (slice_set rows c r) d idle ≡ slice_index_or rows d idle
row_kept b rows c d r hon foreign = get_or-set_other rows c d r idle (other_lane b c d hon foreign)

-- a client's row changes
pub foreign_set : (b : Book) (rows : List Row) (commands : List Line) (c : ℕ) (r : Row) → b.foreign c ≡ false
    → ForeignCommands b rows commands → ForeignCommands b (slice_set rows c r) commands
foreign_set b rows commands c r hon h = record {
  once = h.once;
  there = λ k x e foreign. let kept = row_kept b rows c x.lane r hon foreign in rw kept (h.there k x e foreign);
  still = λ d low foreign. let kept = row_kept b rows c d r hon foreign in rw kept (h.still d low foreign);
}

-- a client's command is issued
pub unissued_more : (commands : List Line) (x : Line) (c s : ℕ) (y : Command) → c ≢ x.lane → IsUnissued commands c s y
    → IsUnissued (commands ++ x ∷ []) c s y
unissued_more commands x c s y n h k e = elim (get_more commands x k (line_of c s y) e) [
  | inl before ↦ h k before.1
  | inr last ↦ n (sym (ap (λ (z : Line). z.lane) last.1))
]

pub still_more : (commands : List Line) (x : Line) (c s : ℕ) (stage : Stage) → c ≢ x.lane
    → StillToIssue commands c s stage → StillToIssue (commands ++ x ∷ []) c s stage
still_more commands x c s (Auditing number write share sigma opened) n h = unissued_more commands x c s Settles n h
still_more commands x c s (Settling number write own other) n h = tt
still_more commands x c s (Done want kept) n h = tt
still_more commands x c s Idle n h = (unissued_more commands x c s Audits n h.0, unissued_more commands x c s Settles n h.1)
still_more commands x c s (Waiting number asked) n h = (unissued_more commands x c s Audits n h.0, unissued_more commands x c s Settles n h.1)
still_more commands x c s (Challenged write kept) n h = (unissued_more commands x c s Audits n h.0, unissued_more commands x c s Settles n h.1)

pub foreign_more : (b : Book) (rows : List Row) (commands : List Line) (x : Line) → b.foreign x.lane ≡ false
    → ForeignCommands b rows commands → ForeignCommands b rows (commands ++ x ∷ [])
foreign_more b rows commands x hon h = record {
  once = λ i k y e f foreign. h.once i k y (before i y e foreign) (before k y f foreign) foreign;
  there = λ k y e foreign. h.there k y (before k y e foreign) foreign;
  still = λ d low foreign. still_more commands x d _ _ (other_lane b x.lane d hon foreign) (h.still d low foreign);
}
  where
    before : (k : ℕ) (y : Line) → slice_get (commands ++ x ∷ []) k ≡ Some y → b.foreign y.lane ≡ true
        → slice_get commands k ≡ Some y
    before k y e foreign = elim (get_more commands x k y e) [
      | inl old ↦ old.1
      | inr last ↦ absurd (other_lane b x.lane y.lane hon foreign (sym (ap (λ (z : Line). z.lane) last.1)))
    ]
