-- At the end of every schedule, with whatever foreign lanes, the run over bytes is the token run with content: what
-- servers take of foreign frames is the history's.
use Rattle.std.proofs.Common.{◌≡◌, ◌≤◌, ℕ, Bool, true, false, List, ◌++◌, length, Some, Result, Ok, Err, slice_get, refl, sym, ap, ◌∙◌, subst}
use Rattle.express_words.specs.declared.settings.Settings.{Settings}
use Rattle.express_words.specs.Limits.{KeepsLimits}
use Rattle.express_words.specs.declared.refusal.Refusal.{Refusal}
use Rattle.frame_rules.specs.Frames.{PlainFrame}
use Rattle.frame_rules.specs.Whole.{whole}
use Rattle.step_rules.specs.Helper.{Row}
use Rattle.step_rules.specs.Leader as leader
use Rattle.step_rules.specs.LeaderClients.{on_client}
use Rattle.token_rules.specs.Tokens as token
use Rattle.token_rules.specs.Tokens.{Act, Token, World, oracle_of}
use Rattle.token_rules.specs.Run as tokens
use Rattle.run_rules.specs.Letters.{FrameWorld, Letter}
use Rattle.run_rules.specs.Run as frames
use Rattle.run_rules.specs.Run.{Event}
use Rattle.run_rules.specs.Book.{Book}
use Rattle.run_rules.specs.Follows.{Carries, Follows}
use Rattle.run_rules.specs.Known.{Known}
use Rattle.run_rules.specs.History.{frame_run, token_run}
use Rattle.run_rules.specs.Acts.{AreFitting, AreTaken, Both, OutsideAt, Taken, both_come, brought_by, ended_of, history_of, leader_takes, taken_in, taken_of}
use Rattle.run_rules.proofs.ForeignFits.{come_fits}
use Rattle.run_rules.proofs.WholeBoth.{Outside}
use Rattle.run_rules.proofs.WholeForeign.{run_follows, run_is, run_outside, run_unique}
use Rattle.run_rules.proofs.WholeHelperRows.{comes_grow}
use Rattle.run_rules.proofs.ForeignLeaderFirst.{HaveCommands, NamesForeignLane, taken_have}
use Rattle.run_rules.proofs.ForeignLeaderFinds.{leader_are_taken}
use Rattle.run_rules.proofs.ForeignHelperFinds.{HaveRows, helper_are_taken, rows_later, rows_more}

-- Each frame that a server took has left its row or its command there, and each reply to a foreign command fitted.
abbrev pub Unique : Both → Type 0
Unique s =
    HaveRows s.frames.helper.server.rows s.taken × HaveCommands s.world.commands s.taken × (s.world.misfits ≡ 0)

leaders_rows : (rows : List Row) (f : FrameWorld) (bytes : List ℕ) (read : Result PlainFrame Refusal) → HaveRows rows (taken_in true f bytes read)
leaders_rows rows f bytes (Ok g) = of_answer (on_client f.leader bytes).answer
  where
    of_answer : (answer : leader.Answer) → HaveRows rows (leader_takes g answer)
    of_answer (leader.Link n command) = ((λ e. absurd (cc e)), tt)
    of_answer (leader.Reply reply) = tt
    of_answer (leader.StillWaiting n) = tt
leaders_rows rows f bytes (Err r) = tt

pub stays : (s : Both) (g : FrameWorld) (u : World) (acts : List Act) → g.helper ≡ s.frames.helper → g.leader ≡ s.frames.leader → u.commands ≡ s.world.commands
    → u.journal ≡ s.world.journal → u.misfits ≡ s.world.misfits → Unique s → Unique (record { frames = g; world = u; acts = acts; taken = s.taken })
stays s g u acts helper leader commands journal misfits unique = (
  subst (λ h. HaveRows h.server.rows s.taken) (sym helper) unique.0,
  subst (λ ys. HaveCommands ys s.taken) (sym commands) unique.1,
  misfits ∙ unique.2,
)

module _ (b : Book) (v : World) (all : List Taken) (history : b.brought ≡ brought_by b.settings.width all) where
  named : (t : Token) (l : Letter) → OutsideAt b.foreign t l → NamesForeignLane b t
  named (token.Injected to_leader (Some c)) l out = out.names
  named t l out = tt

  -- what comes is taken, and has left it too
  took : (f : FrameWorld) (w : World) (t : Token) (l : Letter) (ts more : List Taken) → Known b v w → Follows b f w → Carries b t l → OutsideAt b.foreign t l
      → all ≡ (ts ++ taken_of f t l) ++ more → HaveRows f.helper.server.rows ts → HaveCommands w.commands ts
      → AreTaken b (taken_of f t l) × HaveRows (frames.comes f l.to l.bytes).helper.server.rows (taken_of f t l)
  took f w (token.Injected false (Some c)) l ts more known h k out is rows commands =
      helper_are_taken b f w c l ts more h k rows (history ∙ ap (brought_by b.settings.width) is)
  took f w (token.Injected true (Some c)) l ts more known h k out is rows commands = (
    leader_are_taken b f v w c l ts more known h out.names k out.bytes_are commands (history ∙ ap (brought_by b.settings.width) is),
    leaders_rows _ f l.bytes (whole l.bytes),
  )
  took f w t l ts more known h k out is rows commands = (tt, tt)

  pub takes : (s : Both) (t : Token) (i : ℕ) (l : Letter) (more : List Taken) → Known b v s.world → slice_get s.world.pool i ≡ Some t → Follows b s.frames s.world
      → Carries b t l → OutsideAt b.foreign t l → all ≡ (s.taken ++ taken_of s.frames t l) ++ more → Unique s
      → AreTaken b (taken_of s.frames t l) × Unique (both_come s (Some t) (Some l))
  unfolding both_come tokens.delivers frames.delivers
  takes s t i l more known at h k out is unique =
      let one = took s.frames s.world t l s.taken more known h k out is unique.0 unique.1 in (
        one.0,
        (
          rows_more _ s.taken (taken_of s.frames t l) (rows_later _ _ s.taken (comes_grow s.frames l.to l.bytes) unique.0) one.1,
          taken_have b s.frames v s.world t l s.taken known h k (named t l out) unique.1,
          come_fits b s.frames v s.world t i l known at h k ∙ unique.2,
        ),
      )

-- both runs at the end of a schedule
pub foreign_runs_agree : (settings : Settings) (seed : List ℕ) (foreign : ℕ → Bool) (events : List Event)
    → KeepsLimits settings.width settings.boxes settings.lanes settings.window → AreFitting settings foreign events → length events ≤ 20000
    → Follows (history_of settings seed foreign (ended_of settings seed foreign events)) (frame_run settings seed events)
    (token_run (oracle_of (ended_of settings seed foreign events).acts) settings foreign events)
foreign_runs_agree settings seed foreign events limits fit few =
    let s = ended_of settings seed foreign events in
    run_follows settings seed foreign events limits fit few Unique
    (takes (history_of settings seed foreign s) s.world s.taken refl) stays (tt, tt, refl)

-- the run over bytes is the one that the history is read off
pub frames_agree : (settings : Settings) (seed : List ℕ) (foreign : ℕ → Bool) (events : List Event)
    → KeepsLimits settings.width settings.boxes settings.lanes settings.window → AreFitting settings foreign events → length events ≤ 20000
    → (ended_of settings seed foreign events).frames ≡ frame_run settings seed events
frames_agree settings seed foreign events limits fit few =
    let s = ended_of settings seed foreign events in
    run_is settings seed foreign events limits fit few Unique
    (takes (history_of settings seed foreign s) s.world s.taken refl) stays (tt, tt, refl)

-- in a run over bytes each reply to a foreign command fits
pub replies_fit : (settings : Settings) (seed : List ℕ) (foreign : ℕ → Bool) (events : List Event)
    → KeepsLimits settings.width settings.boxes settings.lanes settings.window → AreFitting settings foreign events → length events ≤ 20000
    → (ended_of settings seed foreign events).world.misfits ≡ 0
replies_fit settings seed foreign events limits fit few =
    let s = ended_of settings seed foreign events in
    (run_unique settings seed foreign events limits fit few Unique
    (takes (history_of settings seed foreign s) s.world s.taken refl) stays (tt, tt, refl)).2

-- bytes from outside are of foreign lanes alone
pub outside_is_foreign : (settings : Settings) (seed : List ℕ) (foreign : ℕ → Bool) (events : List Event)
    → KeepsLimits settings.width settings.boxes settings.lanes settings.window → AreFitting settings foreign events → length events ≤ 20000
    → Outside foreign (ended_of settings seed foreign events).world (ended_of settings seed foreign events).frames
outside_is_foreign settings seed foreign events limits fit few =
    let s = ended_of settings seed foreign events in
    run_outside settings seed foreign events limits fit few Unique
    (takes (history_of settings seed foreign s) s.world s.taken refl) stays (tt, tt, refl)
