-- What a later world of a run keeps of an earlier one: a client's own boxes are a function of the journal,
-- also of a longer one.
use Rattle.std.specs.Prelude.{◌≡◌, ◌≤◌, ℕ, false, List, ◌++◌, Some, slice_get}
use Rattle.mailbox_rules.specs.Requests.{Entry}
use Rattle.mailbox_rules.specs.Owned.{own_below}
use Rattle.token_rules.specs.Tokens.{World}
use Rattle.token_rules.specs.Rows.{Finishes}
use Rattle.token_rules.specs.Run.{client_moves}
use Rattle.token_rules.specs.Clients.{answered_below, owned_by}
use Rattle.token_rules.specs.Lawful.{Lawful, MovesKeep}

-- the serials below which a client has its answers
abbrev pub below_of : World → ℕ → ℕ
below_of w c = answered_below (w.lanes c).step (w.lanes c).serial

-- The journal has only grown, by entries of requests that clients hadn't the answers to. Nor are answers
-- taken back.
pub record Since (w v : World) : Type 0 where
  pub limit : v.limit ≡ w.limit
  pub width : v.width ≡ w.width
  pub foreign : v.foreign ≡ w.foreign
  pub more : List Entry
  pub journal : v.journal ≡ w.journal ++ more
  pub above : (i : ℕ) (e : Entry) → slice_get more i ≡ Some e → w.foreign e.line.lane ≡ false
      → below_of w e.line.lane ≤ e.line.serial
  pub answered : (c : ℕ) → w.foreign c ≡ false → below_of w c ≤ below_of v c

-- every move leads on
abbrev pub MovesLeadOn : Type 0
MovesLeadOn = (w : World) → MovesKeep (λ v. Lawful v × Since w v)

abbrev pub SinceItself : Type 0
SinceItself = (w : World) → Since w w

-- a client's own boxes are those that the journal gives for its answers, also later
abbrev pub OwnedStays : Type 0
OwnedStays = (w v : World) (c : ℕ) → Lawful w → Lawful v → Since w v → w.foreign c ≡ false
    → own_below c (below_of w c) 0 v.table.boxes ≡ owned_by w c

-- so a client that ends a request has all boxes that its lane got
pub record HasAllBoxes (w v : World) (c : ℕ) : Type 0 where
  pub table : v.table ≡ w.table
  pub owns : owned_by v c ≡ w.table.got c

abbrev pub EndedOwns : Type 0
EndedOwns = (w : World) (c : ℕ) → Lawful w → w.foreign c ≡ false
    → HasAllBoxes w (client_moves w c (w.lanes c).serial Finishes) c
