-- That the commands, entries and rows of foreign lanes were brought is kept through both runs.
use Rattle.std.proofs.Common.{◌≡◌, ℕ, true, false, List, [], ◌∷◌, ◌++◌, Some, None, slice_get, refl, sym, ap, subst, ◌∙◌, inl, inr}
use Rattle.mailbox_rules.specs.Requests.{Command, Audits, Settles, Line, Entry}
use Rattle.token_rules.specs.Tokens as token
use Rattle.token_rules.specs.Tokens.{Act, Token, World}
use Rattle.token_rules.specs.Run as tokens
use Rattle.token_rules.specs.Run.{line_of}
use Rattle.step_rules.specs.Helper as helper
use Rattle.step_rules.specs.Leader as leader
use Rattle.step_rules.specs.LeaderClients.{on_client}
use Rattle.run_rules.specs.Letters.{FrameWorld, Letter}
use Rattle.run_rules.specs.Run as frames
use Rattle.run_rules.specs.Run.{Event}
use Rattle.run_rules.specs.Book.{Book}
use Rattle.run_rules.specs.Follows.{Carries, Follows}
use Rattle.run_rules.specs.Known.{Known}
use Rattle.run_rules.specs.Acts.{AreTaken, Both, OutsideAt, Taken, act_of, both_come, brought_by, issues_of, taken_of}
use Rattle.run_rules.proofs.ForeignFollows as follows
use Rattle.run_rules.proofs.BroughtRows.{RowsBrought, rows_come}
use Rattle.run_rules.proofs.BroughtLines.{EntriesBrought, EntryBrought, LineBrought, LinesBrought, act_brought, link_brought}
use Rattle.run_rules.proofs.BroughtTokens.{Entered, Issued, comes_adds}

-- ---- what is kept of both runs

pub record Brings (b : Book) (all : List Taken) (s : Both) : Type 0 where
  pub rows : RowsBrought b.foreign all s.frames.helper.server.rows
  pub lines : LinesBrought b all s.world.commands
  pub entries : EntriesBrought b all s.world.journal
  pub fit : AreTaken b s.taken

are_taken : (b : Book) (ts us : List Taken) → AreTaken b ts → AreTaken b us → AreTaken b (ts ++ us)
are_taken b [] us h k = k
are_taken b (t ∷ ts) us h k = (h.0, are_taken b ts us h.1 k)

module _ (b : Book) (f : FrameWorld) (v w : World) (all ts more : List Taken) (known : Known b v w) (h : Follows b f w) (i : ℕ) (l : Letter)
    (lines : LinesBrought b all w.commands) (entries : EntriesBrought b all w.journal) (rows : RowsBrought b.foreign all f.helper.server.rows) where
  abbrev next : Token → World
  next t = tokens.comes (λ n. act_of f t l) w t

  claims_honest : (t : Token) (c : ℕ) → w.foreign c ≡ false → b.foreign c ≡ true → ⊥
  claims_honest t c honest strange = cc (ap (λ g. g c) h.foreign, honest, strange)

  old_or : (t : Token) → ((x : Line) → Issued (λ n. act_of f t l) w t x → b.foreign x.lane ≡ true → LineBrought b all x.lane x.serial x.command)
      → LinesBrought b all (next t).commands
  old_or t new k x at strange = elim ((comes_adds (λ n. act_of f t l) w t).commands k x at) [
    | inl old ↦ lines k x old strange
    | inr issued ↦ new x issued strange
  ]

  -- the settle of an audit
  settles : (y : Command) (c s : ℕ) → y ≡ Audits → LineBrought b all c s y → LineBrought b all c s Settles
  settles y c s is k = subst (LineBrought b all c s) is k

  replied : (n : ℕ) (y : Line) → slice_get w.pool i ≡ Some (token.Replied n y) → LinesBrought b all (next (token.Replied n y)).commands
  replied n y at = old_or (token.Replied n y) (λ x issued strange.
      let foreign : b.foreign y.lane ≡ true = ap b.foreign (sym issued.0) ∙ strange in
      let both = issued.1 (ap (λ g. g y.lane) h.foreign ∙ foreign) in
      let there = (known.lawful.coherent.pool i (token.Replied n y) at).1.0 in
      let audit = lines there.place y there.is foreign in
      subst (λ (x : Line). LineBrought b all x.lane x.serial x.command) (sym both.0) (settles y.command y.lane y.serial both.1 audit))

  at_leader : (c : ℕ) → b.foreign c ≡ true → Carries b (token.Injected true (Some c)) l → all ≡ (ts ++ taken_of f (token.Injected true (Some c)) l) ++ more
      → LinesBrought b all (next (token.Injected true (Some c))).commands
  at_leader c foreign k is = by_answer (on_client f.leader l.bytes).answer refl
    where
      by_answer : (answer : leader.Answer) → (on_client f.leader l.bytes).answer ≡ answer → LinesBrought b all (next (token.Injected true (Some c))).commands
      by_answer (leader.Link n command) e = link_brought b f v w all known h c i l foreign lines k ts more is n command e
      by_answer (leader.Reply reply) e = old_or (token.Injected true (Some c)) (λ x issued strange. let none = ap issues_of e in absurd (cc (none, issued.1.1)))
      by_answer (leader.StillWaiting n) e = old_or (token.Injected true (Some c)) (λ x issued strange. let none = ap issues_of e in absurd (cc (none, issued.1.1)))

  lines_come : (t : Token) → slice_get w.pool i ≡ Some t → Carries b t l → OutsideAt b.foreign t l → all ≡ (ts ++ taken_of f t l) ++ more
      → LinesBrought b all (next t).commands
  lines_come (token.Submission c s y) at k out is = old_or (token.Submission c s y) (λ x issued strange.
      absurd (claims_honest (token.Submission c s y) c (known.lawful.coherent.pool i (token.Submission c s y) at).0 (ap b.foreign (sym issued) ∙ strange)))
  lines_come (token.ProofToLeader c s) at k out is = old_or (token.ProofToLeader c s) (λ x issued strange.
      absurd (claims_honest (token.ProofToLeader c s) c (known.lawful.coherent.pool i (token.ProofToLeader c s) at).0 (ap b.foreign (sym issued) ∙ strange)))
  lines_come (token.Replied n y) at k out is = replied n y at
  lines_come (token.Injected true (Some c)) at k out is = at_leader c out.names k is
  lines_come (token.Injected true None) at k out is = old_or (token.Injected true None) (λ x issued strange. absurd issued)
  lines_come (token.Injected false lane) at k out is = old_or (token.Injected false lane) (λ x issued strange. absurd issued)
  lines_come (token.Deposit c s) at k out is = old_or (token.Deposit c s) (λ x issued strange. absurd issued)
  lines_come (token.ProofToHelper c s) at k out is = old_or (token.ProofToHelper c s) (λ x issued strange. absurd issued)
  lines_come (token.Ordered n y) at k out is = old_or (token.Ordered n y) (λ x issued strange. absurd issued)
  lines_come (token.HeldDeposit c s) at k out is = old_or (token.HeldDeposit c s) (λ x issued strange. absurd issued)
  lines_come (token.HeldProof c s) at k out is = old_or (token.HeldProof c s) (λ x issued strange. absurd issued)
  lines_come (token.Challenge c s) at k out is = old_or (token.Challenge c s) (λ x issued strange. absurd issued)
  lines_come (token.Answer c s) at k out is = old_or (token.Answer c s) (λ x issued strange. absurd issued)
  lines_come (token.Later c s) at k out is = old_or (token.Later c s) (λ x issued strange. absurd issued)
  lines_come (token.Foreign c) at k out is = old_or (token.Foreign c) (λ x issued strange. absurd issued)

  entries_or : (t : Token) → ((e : Entry) → Entered (λ n. act_of f t l) w t e → b.foreign e.line.lane ≡ true → EntryBrought b all e.line.lane e.line.serial e.does)
      → EntriesBrought b all (next t).journal
  entries_or t new k e at strange = elim ((comes_adds (λ n. act_of f t l) w t).entries k e at) [
    | inl old ↦ entries k e old strange
    | inr entered ↦ new e entered strange
  ]

  ordered : (n : ℕ) (x : Line) → Carries b (token.Ordered n x) l → EntriesBrought b all (next (token.Ordered n x)).journal
  ordered n x k = entries_or (token.Ordered n x) (λ e entered strange.
      let foreign : b.foreign x.lane ≡ true = ap (λ (x : Line). b.foreign x.lane) (sym entered.0) ∙ strange in
      let does = entered.1 (ap (λ g. g x.lane) h.foreign ∙ foreign) in
      subst (λ (x : Line). EntryBrought b all x.lane x.serial e.does) (sym entered.0)
      (subst (EntryBrought b all x.lane x.serial) (sym does) (act_brought b f v w all known h n x l foreign rows k)))

  entries_come : (t : Token) → Carries b t l → EntriesBrought b all (next t).journal
  entries_come (token.Ordered n x) k = ordered n x k
  entries_come t k = entries_or t (λ e entered strange. absurd entered)

module _ (b : Book) (v : World) (all : List Taken) (history : b.brought ≡ brought_by b.settings.width all) where
  abbrev pub Unique : Both → Type 0
  Unique s = follows.Unique s × Brings b all s

  pub takes : (s : Both) (t : Token) (i : ℕ) (l : Letter) (more : List Taken) → Known b v s.world → slice_get s.world.pool i ≡ Some t → Follows b s.frames s.world
      → Carries b t l → OutsideAt b.foreign t l → all ≡ (s.taken ++ taken_of s.frames t l) ++ more → Unique s
      → AreTaken b (taken_of s.frames t l) × Unique (both_come s (Some t) (Some l))
  unfolding both_come tokens.delivers frames.delivers
  takes s t i l more known at h k out is unique =
      let before = unique.1 in
      let old = follows.takes b v all history s t i l more known at h k out is unique.0 in (
        old.0,
        (
          old.1,
          record {
            rows = rows_come b s.frames all l before.rows v s.world t i s.taken more known at h.foreign k out is;
            lines = lines_come b s.frames v s.world all s.taken more known h i l before.lines before.entries before.rows t at k out is;
            entries = entries_come b s.frames v s.world all s.taken more known h i l before.lines before.entries before.rows t k;
            fit = are_taken b s.taken (taken_of s.frames t l) before.fit old.0;
          },
        ),
      )

  pub stays : (s : Both) (g : FrameWorld) (u : World) (acts : List Act) → g.helper ≡ s.frames.helper → g.leader ≡ s.frames.leader → u.commands ≡ s.world.commands
      → u.journal ≡ s.world.journal → u.misfits ≡ s.world.misfits → Unique s → Unique (record { frames = g; world = u; acts = acts; taken = s.taken })
  stays s g u acts same_helper same_leader commands journal misfits unique = (
    follows.stays s g u acts same_helper same_leader commands journal misfits unique.0,
    record {
      rows = subst (λ (h : helper.Helper). RowsBrought b.foreign all h.server.rows) (sym same_helper) unique.1.rows;
      lines = subst (LinesBrought b all) (sym commands) unique.1.lines;
      entries = subst (EntriesBrought b all) (sym journal) unique.1.entries;
      fit = unique.1.fit;
    },
  )
