-- What the helper did for a client's write before: where the write began, how many boxes there were, and their addresses.
use Rattle.std.proofs.Common.{◌≡◌, ℕ, ◌<◌, ◌≤◌, false, List, [], ◌∷◌, length, take, map, Some, slice_get, refl, sym, ap, ◌∙◌, subst, arith}
use Rattle.mailbox_rules.specs.Requests.{Command, Begins, Audits, Settles, entry, Operation, lines_of}
use Rattle.mailbox_rules.specs.Tables.{Mailbox, addresses}
use Rattle.token_rules.specs.Tokens.{World}
use Rattle.token_rules.specs.Run.{line_of}
use Rattle.token_rules.specs.Laws.{turn}
use Rattle.token_rules.specs.Stages.{issued}
use Rattle.token_rules.specs.Invariant.{Has, Made as StageMade, state}
use Rattle.token_rules.proofs.Lists.{get_taken, taken_get}
use Rattle.token_rules.proofs.Clients.{line_at}
use Rattle.step_rules.specs.Boxes.{addresses_of}
use Rattle.step_rules.specs.Helper.{Server}
use Rattle.run_rules.specs.Book.{Book, place}
use Rattle.run_rules.specs.Values.{counted_at, shares_at, boxes_at, box_at}
use Rattle.run_rules.specs.Known.{Known}
use Rattle.run_rules.proofs.Places.{place_is}
use Rattle.run_rules.proofs.LeaderRegistered.{entry_of}
use Rattle.run_rules.proofs.WriteLeaderRanges.{WriteIs}
use Rattle.run_rules.proofs.WriteLeaderCounts.{shares_addresses, shares_count, addresses_stay, entry_writes, counted_until}

-- the commands of a write after its begin
abbrev pub Later : Command → Type 0
Later Audits = Unit {0}
Later Settles = Unit {0}
Later y = ⊥

-- a write's begin that was carried out
pub record Began (b : Book) (w : World) (c s : ℕ) : Type 0 where
  pub is : slice_get w.commands (place b c s Begins) ≡ Some (line_of c s Begins)
  pub before : place b c s Begins < w.carried

module _ (b : Book) (v w : World) (c s : ℕ) (y : Command) (known : Known b v w) (honest : w.foreign c ≡ false)
    (due : slice_get w.commands w.carried ≡ Some (line_of c s y)) where
  -- a command after the begin has it acknowledged
  has_begun : Later y → Has (state w known.lawful.stages) (line_of c s Begins)
  has_begun later =
      let ok = known.lawful.coherent in
      let now = (ok.lines w.carried (line_of c s y) due honest).out (omega arith) in
      subst (λ n. Has (state w known.lawful.stages) (line_of c n Begins)) now.serial
      (by_stage y later (subst (StageMade (state w known.lawful.stages) c (w.lanes c)) now.stage (ok.made c honest)))
    where
      by_stage : (y : Command) → Later y → StageMade (state w known.lawful.stages) c (w.lanes c) (issued y)
          → Has (state w known.lawful.stages) (line_of c (w.lanes c).serial Begins)
      by_stage Audits later m = m
      by_stage Settles later m = m.0
      by_stage y later m = absurd later

  pub began : Later y → Began b w c s
  began later =
      let has = has_begun later in
      let at = place_is b w known.lawful.stages c s has.place Begins known.lawful.coherent known.within honest has.is in
      let low = has.acknowledged in
      let done = known.lawful.coherent.acknowledged in
      record { is = ap (slice_get w.commands) at ∙ has.is; before = omega (arith, at, low, done) }

-- ---- the addresses of its boxes

addresses_same : (b : Book) (server : ℕ) (ms : List Mailbox)
    → addresses_of (map (λ m. box_at b server m) ms) ≡ addresses ms
addresses_same b server [] = refl
addresses_same b server (m ∷ ms) = ap (λ xs. m.address ∷ xs) (addresses_same b server ms)

-- among the helper's boxes they come first
pub counted_first : (b : Book) (h : Server) (w : World) (c s i : ℕ) → h.boxes ≡ boxes_at b 1 i → place b c s Begins ≤ i
    → take (length (counted_at b c s)) (addresses_of h.boxes) ≡ counted_at b c s
counted_first b h w c s i e low =
    ap (λ bs. take (length (counted_at b c s)) (addresses_of bs)) e
    ∙ ap (take (length (counted_at b c s))) (addresses_same b 1 (shares_at b 1 i).boxes ∙ shares_addresses b 1 i)
    ∙ addresses_stay b (place b c s Begins) i low

-- ---- the count of its boxes, while a later command of it is carried out

pub count_is : (b : Book) (v w : World) (c s : ℕ) (y : Command) (does : Operation) → Known b v w → WriteIs b c s → Began b w c s
    → slice_get b.entries w.carried ≡ Some (entry (line_of c s y) does) → 0 < turn y
    → (shares_at b 1 w.carried).count c ≡ length (counted_at b c s)
count_is b v w c s y does known write began entered later =
    let k = place b c s Begins in
    let line : slice_get (lines_of w.journal) k ≡ Some (line_of c s Begins) =
    ap (λ xs. slice_get xs k) known.lawful.coherent.journal ∙ taken_get w.commands w.carried k (line_of c s Begins) began.before began.is in
    let found = entry_of w.journal k (line_of c s Begins) line in
    let kept : slice_get b.entries k ≡ Some found.0 =
    (get_taken b.entries (length w.journal) k found.0 (ap (λ es. slice_get es k) (sym known.within.journal) ∙ found.1.0)).1 in
    let begin : slice_get (lines_of b.entries) k ≡ Some (line_of c s Begins) = line_at b.entries k found.0 kept ∙ ap Some found.1.1 in
    let writes = entry_writes b v c s k Begins write.target write.message known.whole write.honest write.is tt begin in
    shares_count b 1 w.carried c
    ∙ (counted_until b v c s k w.carried y known.whole write.honest writes (line_at b.entries w.carried (entry (line_of c s y) does) entered) later).1
