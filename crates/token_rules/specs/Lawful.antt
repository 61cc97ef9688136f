-- What is known of every world inside a run, also in the middle of a finish, as one record; and the moves
-- that keep it.
use Rattle.std.specs.Prelude.{◌≡◌, ◌<◌, ◌≤◌, ℕ, Bool, false, length, Option, Some, slice_get}
use Rattle.mailbox_rules.specs.Requests.{Request}
use Rattle.token_rules.specs.Tokens.{Answer, Challenge, HeldDeposit, HeldProof, Injected, Oracle, Token}
use Rattle.token_rules.specs.Tokens.{World, start}
use Rattle.token_rules.specs.Rows.{ClientHears, HeardAnswer, HeardChallenge, HeardHeldDeposit, HeardHeldProof}
use Rattle.token_rules.specs.Rows.{client_does}
use Rattle.token_rules.specs.Run.{Event, asks, client_moves, client_sends, comes, delivers_at, drain_round}
use Rattle.token_rules.specs.Run.{drained, finish_round, handed_last, happens, sends, sent_and_drained, ticks}
use Rattle.token_rules.specs.Laws.{AreSent, BoxesAreAsked, FramesAreHeeded, InNumbers, InOrder, IsReady}
use Rattle.token_rules.specs.Laws.{KeepsReplies, LeaderKnows, LinkIsOne, Once, OperationsAreAsked}
use Rattle.token_rules.specs.Laws.{OutcomesAreLast, OutcomesStand, ReadsFind, RowsTell, TableIsJournals}
use Rattle.token_rules.specs.Laws.{TablesFollow}
use Rattle.token_rules.specs.Clients.{ClientsOwn, CommandsInOrder, CommandsOnce, GotIsFew, GotStands}
use Rattle.token_rules.specs.Clients.{NoneWaits, OpeningsAreSent, OwnBoxesAreFirst, RegistersTell}
use Rattle.token_rules.specs.Clients.{RequestsReach, StepsAreNumbered, UnregisteredOwn}
use Rattle.token_rules.specs.Stages.{Stage}
use Rattle.token_rules.specs.Invariant.{Coherent}

-- A lawful world. The invariant and what follows from it, what clients sent and have, what the journal
-- records and the leader knows of it.
pub record Lawful (w : World) : Type 0 where
  pub stages : ℕ → Stage
  pub coherent : Coherent w stages
  pub numbers : InNumbers w
  pub replies : KeepsReplies w
  pub link : LinkIsOne w
  pub rows : RowsTell w
  pub ready : IsReady w
  pub heeded : FramesAreHeeded w
  pub commands_once : CommandsOnce w
  pub commands_order : CommandsInOrder w
  pub once : Once w
  pub order : InOrder w
  pub sent : AreSent w
  pub openings : OpeningsAreSent w
  pub numbered : StepsAreNumbered w
  pub tidy : NoneWaits w
  pub reach : RequestsReach w
  pub operations : OperationsAreAsked w
  pub table : TableIsJournals w
  pub follow : TablesFollow w
  pub boxes : BoxesAreAsked w
  pub stand : GotStands w
  pub few : GotIsFew w
  pub first : OwnBoxesAreFirst w
  pub own : ClientsOwn w
  pub registers : RegistersTell w
  pub unregistered : UnregisteredOwn w
  pub leader : LeaderKnows w
  pub reads : ReadsFind w
  pub outcomes : OutcomesStand w
  pub last : OutcomesAreLast w

-- what a client hears is a token
abbrev pub heard_token : ClientHears → ℕ → ℕ → Token
heard_token HeardHeldDeposit c serial = HeldDeposit c serial
heard_token HeardChallenge c serial = Challenge c serial
heard_token HeardHeldProof c serial = HeldProof c serial
heard_token HeardAnswer c serial = Answer c serial

-- What every move of a run keeps, whatever foreign lanes do. A token comes that stands in the pool, and a
-- client moves by one that it hears of its current serial. The last ones are the parts of a finish.
pub record MovesKeep (P : World → Type 0) : Type 0 where
  pub ask : (w : World) (c : ℕ) (request : Request) → w.foreign c ≡ false → P w → P (asks w c request)
  pub send : (w : World) (c : ℕ) → P w → P (client_sends w c)
  pub tick : (w : World) → P w → P (ticks w)
  pub inject : (w : World) (to_leader : Bool) (lane : Option ℕ) → P w → P (sends w (Injected to_leader lane))
  pub come : (o : Oracle) (w : World) (i : ℕ) (token : Token) → slice_get w.pool i ≡ Some token → P w
      → P (comes o w token)
  pub deliver : (o : Oracle) (w : World) (n : ℕ) → P w → P (delivers_at o w n)
  pub hand : (o : Oracle) (w : World) (c before : ℕ) → P w → P (handed_last o w c before)
  pub move : (w : World) (c serial i : ℕ) (heard : ClientHears)
      → slice_get w.pool i ≡ Some (heard_token heard c serial) → serial ≡ (w.lanes c).serial → P w
      → P (client_moves w c serial (client_does heard (w.lanes c).step))
  pub happen : (o : Oracle) (w : World) (event : Event) → P w → P (happens o w event)
  pub round : (o : Oracle) (w : World) → P w → P (drain_round o w)
  pub drain : (o : Oracle) (w : World) → P w → P (drained o w)
  pub serve : (o : Oracle) (w : World) (c : ℕ) → P w → P (sent_and_drained o w c)
  pub attempt : (o : Oracle) (w : World) (c : ℕ) → P w → P (finish_round o w c)

-- A drain leaves no command outstanding, where each reply to a foreign command that came in it fitted: its
-- bound on rounds is enough.
abbrev pub DrainsEnd : Type 0
DrainsEnd = (o : Oracle) (w : World) → Lawful w → (drained o w).misfits ≤ w.misfits
    → length (drained o w).commands ≡ (drained o w).acknowledged

abbrev pub StartIsLawful : Type 0
StartIsLawful = (width limit window : ℕ) (foreign : ℕ → Bool) → 0 < window
    → Lawful (start width limit window foreign)
