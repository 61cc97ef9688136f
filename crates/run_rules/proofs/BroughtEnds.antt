-- At the end of every schedule each foreign command that did something was brought.
use Rattle.std.proofs.Common.{◌≡◌, ◌⊎◌, ℕ, zero, suc, List, [], ◌∷◌, Option, Some, slice_get, slice_index_or, replicate, refl, sym, ap, subst, ◌∙◌, inl, inr}
use Rattle.std.proofs.lemmas.Option.{slice_get-map}
use Rattle.std.specs.Option.{option_map}
use Rattle.frame_rules.specs.declared.frame.DepositBody.TheVariants as deposit
use Rattle.frame_rules.specs.Frames as frame
use Rattle.frame_rules.specs.Frames.{PlainBody}
use Rattle.mailbox_rules.specs.Requests.{Command, Registers, Begins, Audits, Settles, Reads, Retires, Line, Entry, Operation, Refuse, lines_of}
use Rattle.mailbox_rules.specs.Tables.{Mailbox}
use Rattle.token_rules.proofs.Lists.{get_taken}
use Rattle.step_rules.specs.Helper.{idle, opened_server}
use Rattle.run_rules.specs.Book.{Book}
use Rattle.run_rules.specs.Follows.{does_by}
use Rattle.run_rules.specs.Acts.{AreTaken, IsTaken, Taken, both_opened, ended_of, history_of}
use Rattle.run_rules.specs.Came.{CommandsWereBrought, TookProofs, TookTokens, TookWrite, Took, WasBrought, token_of}
use Rattle.run_rules.proofs.EveryEnd.{history_at_every_end}
use Rattle.run_rules.proofs.WholeForeign.{run_unique, whole}
use Rattle.run_rules.proofs.BroughtRows.{RootTook, RowBrought, ShareTook}
use Rattle.run_rules.proofs.BroughtLines.{EntryBrought, LineBrought, TokenTook, WriteTook}
use Rattle.run_rules.proofs.BroughtRuns.{Brings, Unique, stays, takes}

-- ---- what was taken is what the history says was brought

taken_at : (b : Book) (all : List Taken) (i : ℕ) (t : Taken) → AreTaken b all → slice_get all i ≡ Some t
    → IsTaken b t.server t.frame.lane t.frame.serial t.frame.body
taken_at b [] i t h e = absurd (cc e)
taken_at b (x ∷ all) zero t h e =
    let same : x ≡ t = cc e in subst (λ (t : Taken). IsTaken b t.server t.frame.lane t.frame.serial t.frame.body) same h.0
taken_at b (x ∷ all) (suc i) t h e = taken_at b all i t h.1 e

module _ (b : Book) (all : List Taken) (fit : AreTaken b all) where
  is_taken : (server c s : ℕ) (body : PlainBody) → Took all server c s body → IsTaken b server c s body
  is_taken server c s body took =
      let one = taken_at b all took.place took.taken fit took.is in
      let t = took.taken in
      let two = subst (λ n. IsTaken b n t.frame.lane t.frame.serial t.frame.body) took.at_server one in
      let three = subst (λ n. IsTaken b server n t.frame.serial t.frame.body) took.of_lane two in
      let four = subst (λ n. IsTaken b server c n t.frame.body) took.of_serial three in
      subst (IsTaken b server c s) took.has_body four

  -- of a write
  part_brought : (x : Line) → WriteTook all x.lane x.serial → RootTook all x.lane x.serial → TookWrite b all x
  part_brought x leaders helpers =
      let zero = is_taken 0 x.lane x.serial (frame.Write leaders.0 leaders.1) leaders.2 in
      let one = is_taken 1 x.lane x.serial (frame.Deposit (deposit.Write helpers.0)) helpers.1 in (
        subst (λ root. Took all 0 x.lane x.serial (frame.Write root (b.brought.part x.lane x.serial))) zero.0
            (subst (λ part. Took all 0 x.lane x.serial (frame.Write leaders.0 part)) zero.1 leaders.2),
        subst (λ root. Took all 1 x.lane x.serial (frame.Deposit (deposit.Write root))) one helpers.1,
      )

  proofs_brought : (x : Line) → (share : _) → Took all 0 x.lane x.serial (frame.Proof share) → ShareTook all x.lane x.serial → TookProofs b all x
  proofs_brought x share leaders helpers = (
    subst (λ p. Took all 0 x.lane x.serial (frame.Proof p)) (is_taken 0 x.lane x.serial (frame.Proof share) leaders) leaders,
    subst (λ p. Took all 1 x.lane x.serial (frame.Proof p)) (is_taken 1 x.lane x.serial (frame.Proof helpers.0) helpers.1) helpers.1,
  )

  tokens_brought : (x : Line) (n m : ℕ) (named : ℕ → ℕ → PlainBody) → n ≡ m → TokenTook b all 0 x.lane x.serial n (named n)
      → TokenTook b all 1 x.lane x.serial m (λ held. frame.Deposit (deposit.Read held)) → TookTokens b all x m (named m)
  tokens_brought x n m named same leaders helpers =
      let zero : TokenTook b all 0 x.lane x.serial m (named m) = subst (λ n. TokenTook b all 0 x.lane x.serial n (named n)) same leaders in
      let one : zero.0 ≡ helpers.0 = some_same (sym zero.1 ∙ helpers.1) in
      record {
        box = zero.0;
        is = zero.1;
        both = (zero.2, subst (λ (m : Mailbox). Took all 1 x.lane x.serial (frame.Deposit (deposit.Read (token_of b 1 m x)))) (sym one) helpers.2);
      }
    where
      some_same : {x y : Mailbox} → (let o : Option Mailbox = Some x in o) ≡ Some y → x ≡ y
      some_same e = cc

  by_command : (x : Line) (y : Command) → LineBrought b all x.lane x.serial y → EntryBrought b all x.lane x.serial (does_by b.brought x.lane x.serial y)
      → WasBrought b all x (does_by b.brought x.lane x.serial y)
  by_command x Registers leaders helpers =
      let zero = is_taken 0 x.lane x.serial (frame.Register leaders.0 leaders.1) leaders.2 in
      let one = is_taken 1 x.lane x.serial (frame.Deposit (deposit.Register helpers.0)) helpers.1 in (
        subst (λ address. Took all 0 x.lane x.serial (frame.Register address (b.brought.key 0 x.lane x.serial))) zero.0
            (subst (λ key. Took all 0 x.lane x.serial (frame.Register leaders.0 key)) zero.1 leaders.2),
        subst (λ key. Took all 1 x.lane x.serial (frame.Deposit (deposit.Register key))) one helpers.1,
      )
  by_command x Begins leaders helpers = part_brought x leaders helpers
  by_command x Audits leaders helpers = (part_brought x leaders.0 helpers.0, proofs_brought x leaders.1.0 leaders.1.1 helpers.1)
  by_command x Settles leaders helpers = (part_brought x leaders.0 helpers.0, proofs_brought x leaders.1.0 leaders.1.1 helpers.1)
  by_command x Reads leaders helpers =
      tokens_brought x leaders.0 (b.brought.number x.lane x.serial) (λ n held. frame.Read n held) (is_taken 0 x.lane x.serial (frame.Read leaders.0 _) leaders.1.2) leaders.1 helpers
  by_command x Retires leaders helpers =
      tokens_brought x leaders.0 (b.brought.number x.lane x.serial) (λ n held. frame.Retire n held) (is_taken 0 x.lane x.serial (frame.Retire leaders.0 _) leaders.1.2) leaders.1 helpers

  was_brought : (x : Line) (does : Operation) → (does ≡ Refuse) ⊎ (does ≡ does_by b.brought x.lane x.serial x.command)
      → LineBrought b all x.lane x.serial x.command → EntryBrought b all x.lane x.serial does → WasBrought b all x does
  was_brought x does (inl nothing) leaders helpers = subst (WasBrought b all x) (sym nothing) tt
  was_brought x does (inr is) leaders helpers =
      subst (WasBrought b all x) (sym is) (by_command x x.command leaders (subst (EntryBrought b all x.lane x.serial) is helpers))

-- ---- at the end

-- no row of a new server holds anything
none_holds : (n c d : ℕ) (all : List Taken) → RowBrought all d (slice_index_or (replicate n idle) c idle).serial (slice_index_or (replicate n idle) c idle).stage
none_holds zero c d all = tt
none_holds (suc n) zero d all = tt
none_holds (suc n) (suc c) d all = none_holds n c d all

pub commands_were_brought : CommandsWereBrought
unfolding opened_server
commands_were_brought settings seed foreign events limits fit few i e at strange =
    let s = ended_of settings seed foreign events in
    let b = history_of settings seed foreign s in
    let opens : Brings b s.taken (both_opened settings seed foreign) = record {
      rows = λ c is. none_holds settings.lanes c c s.taken;
      lines = λ k x e. absurd (cc e);
      entries = λ k e is. absurd (cc is);
      fit = tt;
    } in
    let kept = (run_unique settings seed foreign events limits fit few (Unique b s.world s.taken refl)
    (takes b s.world s.taken refl) (stays b s.world s.taken refl) ((tt, tt, refl), opens)).1 in
    let w = whole settings seed foreign events limits fit few in
    let line : slice_get (lines_of s.world.journal) i ≡ Some e.line =
    slice_get-map (λ (e : Entry). e.line) s.world.journal i ∙ ap (option_map (λ (e : Entry). e.line)) at in
    let issued = get_taken s.world.commands s.world.carried i e.line (ap (λ xs. slice_get xs i) (sym w.lawful.coherent.journal) ∙ line) in
    let history = history_at_every_end settings seed foreign events limits fit few in
    was_brought b s.taken kept.fit e.line e.does (history.strange i e at strange).does
    (kept.lines i e.line issued.1 strange) (kept.entries i e at strange)
