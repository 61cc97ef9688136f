-- What the helper's rows of foreign lanes hold was taken of their frames.
use Rattle.std.proofs.Common.{◌≡◌, ◌<◌, ℕ, nat_eq, nat_lt, nat_le, true, false, Bool, List, [], ◌∷◌, ◌++◌, length, Option, Some, None, Ok, slice_get, slice_index_or, append_assoc, refl, sym, ap, subst, ◌∙◌, inl, inr, arith}
use Rattle.std.proofs.lemmas.Bool.{eq-eqb, lt-leb, lt-ltb}
use Rattle.express_words.specs.declared.audit.ProofShare.{ProofShare}
use Rattle.frame_rules.specs.declared.frame.DepositBody.TheVariants as deposit
use Rattle.frame_rules.specs.Frames as frame
use Rattle.frame_rules.specs.Frames.{PlainFrame, PlainBody}
use Rattle.frame_rules.specs.Whole.{is_from_client, whole}
use Rattle.frame_rules.proofs.WholeLaws.{whole_found}
use Rattle.mailbox_rules.specs.Requests.{Line}
use Rattle.token_rules.specs.Tokens as token
use Rattle.token_rules.specs.Tokens.{Token, World}
use Rattle.step_rules.specs.Helper as helper
use Rattle.step_rules.specs.Helper.{Row, Server, Stage, idle, row_at}
use Rattle.step_rules.specs.HelperClients as steps
use Rattle.step_rules.specs.HelperCommands as commands
use Rattle.step_rules.specs.Firsts.{HelperGoesTo, TakesDeposit, TakesProof}
use Rattle.step_rules.proofs.HelperFirsts.{helper_goes_on, helper_takes_first}
use Rattle.run_rules.specs.Letters.{Addressee, ToClient, ToHelper, ToHelperLink, ToLeader, ToLeaderLink, FrameWorld, Letter}
use Rattle.run_rules.specs.Run as frames
use Rattle.run_rules.specs.Book.{Book}
use Rattle.run_rules.specs.Frames.{deposit_at, frame_of, frame_with, from_client, proof_at}
use Rattle.run_rules.specs.Follows.{Carries, IsFrameOf, IsLinked}
use Rattle.run_rules.specs.Known.{Known}
use Rattle.run_rules.specs.Acts.{OutsideAt, Taken, helper_takes, is_begun, taken, taken_in, taken_of}
use Rattle.run_rules.specs.Came.{Took}
use Rattle.run_rules.proofs.Basics.{whole_spelled}
use Rattle.run_rules.proofs.WholeHelperRows.{answers_same, progress_same}

-- ---- what was taken

abbrev pub AllIn : List Taken → List Taken → Type 0
AllIn [] all = Unit {0}
AllIn (t ∷ ts) all = ((k : ℕ) × (slice_get all k ≡ Some t)) × AllIn ts all

at_end : (ts : List Taken) (u : Taken) (more : List Taken) → slice_get (ts ++ u ∷ more) (length ts) ≡ Some u
at_end [] u more = refl
at_end (t ∷ ts) u more = at_end ts u more

shift : (ts : List Taken) (u : Taken) (more : List Taken) → ts ++ u ∷ more ≡ (ts ++ u ∷ []) ++ more
shift [] u more = refl
shift (t ∷ ts) u more = ap (λ l. t ∷ l) (shift ts u more)

in_behind : (ts us more : List Taken) → AllIn us (ts ++ (us ++ more))
in_behind ts [] more = tt
in_behind ts (u ∷ us) more =
    ((length ts, at_end ts u (us ++ more)), subst (AllIn us) (sym (shift ts u (us ++ more))) (in_behind (ts ++ u ∷ []) us more))

pub in_middle : (ts us more : List Taken) → AllIn us ((ts ++ us) ++ more)
in_middle ts us more = subst (AllIn us) (sym (append_assoc ts us more)) (in_behind ts us more)

-- a frame among them was taken
pub took_it : (all : List Taken) (server : ℕ) (g : PlainFrame) (body : PlainBody) → g.body ≡ body → AllIn (taken server g) all
    → Took all server g.lane g.serial body
took_it all server g body is there = record {
  place = there.0.0;
  taken = record { server = server; frame = g };
  is = there.0.1;
  at_server = refl;
  of_lane = refl;
  of_serial = refl;
  has_body = is;
}

-- ---- rows

abbrev pub RootTook : List Taken → ℕ → ℕ → Type 0
RootTook all c s = (root : ℕ) × Took all 1 c s (frame.Deposit (deposit.Write root))

abbrev pub ShareTook : List Taken → ℕ → ℕ → Type 0
ShareTook all c s = (share : ProofShare) × Took all 1 c s (frame.Proof share)

abbrev pub RowBrought : List Taken → ℕ → ℕ → Stage → Type 0
RowBrought all c s (helper.Deposited held) = Took all 1 c s (frame.Deposit held)
RowBrought all c s (helper.Begun write) = RootTook all c s
RowBrought all c s (helper.Proved write share) = RootTook all c s × ShareTook all c s
RowBrought all c s (helper.Audited write closing) = RootTook all c s × ShareTook all c s
RowBrought all c s stage = Unit {0}

abbrev pub RowsBrought : (ℕ → Bool) → List Taken → List Row → Type 0
RowsBrought foreign all rows =
    (c : ℕ) → foreign c ≡ true → RowBrought all c (slice_index_or rows c idle).serial (slice_index_or rows c idle).stage

abbrev Brought : List Taken → ℕ → Row → Type 0
Brought all c r = RowBrought all c r.serial r.stage

goes_brought : (all : List Taken) (c s : ℕ) (h : Server) (body : PlainBody) (x y : Stage) → HelperGoesTo h body x y
    → RowBrought all c s x → RowBrought all c s y
goes_brought all c s h body x (helper.Done want) goes k = tt
goes_brought all c s h (frame.LinkBegin drawn part) (helper.Deposited (deposit.Write root)) (helper.Begun write) goes k = (root, k)
goes_brought all c s h (frame.LinkAudit point other) (helper.Proved write share) (helper.Audited same closing) goes k = k
goes_brought all c s h body x y goes k = absurd goes

-- ---- a frame of a client

-- the frame that the bytes are is taken, where it is a client's
abbrev pub IsTakenIn : (ℕ → Bool) → List Taken → Server → List ℕ → Type 0
IsTakenIn foreign all h bytes = (g : PlainFrame) → whole bytes ≡ Ok g → is_from_client g.body ≡ true → foreign g.lane ≡ true
    → g.lane < h.settings.lanes → AllIn (helper_takes (row_at h g.lane) g g.body) all

module _ (foreign : ℕ → Bool) (all : List Taken) (h : Server) (bytes : List ℕ) (takes : IsTakenIn foreign all h bytes) where
  deposit_brought : (c : ℕ) (g : PlainFrame) (after : Row) → whole bytes ≡ Ok g → g.lane ≡ c → foreign c ≡ true → c < h.settings.lanes
      → TakesDeposit g (row_at h c) after → Brought all c after
  deposit_brought c g after read lane is low new =
      let client : is_from_client g.body ≡ true = ap (λ body. is_from_client body) new.body in
      let here : foreign g.lane ≡ true = ap foreign lane ∙ is in
      let there = takes g read client here (omega (arith, lane, low)) in
      let r : Row = row_at h g.lane in
      let later : r.serial < g.serial = subst (λ d. (row_at h d).serial < g.serial) (sym lane) new.later in
      let t : nat_lt r.serial g.serial ≡ true = lt-ltb _ _ later in
      let mine : AllIn (helper_takes r g (frame.Deposit new.held)) all = subst (λ body. AllIn (helper_takes r g body) all) new.body there in
      let took : AllIn (taken 1 g) all = rw t at mine in
      subst (Brought all c) (sym new.is) (subst (λ d. Took all 1 d g.serial (frame.Deposit new.held)) lane (took_it all 1 g (frame.Deposit new.held) new.body took))

  proof_brought : (c : ℕ) (g : PlainFrame) (after : Row) → whole bytes ≡ Ok g → g.lane ≡ c → foreign c ≡ true → c < h.settings.lanes
      → Brought all c (row_at h c) → TakesProof g (row_at h c) after → Brought all c after
  proof_brought c g after read lane is low before new =
      let client : is_from_client g.body ≡ true = ap (λ body. is_from_client body) new.body in
      let here : foreign g.lane ≡ true = ap foreign lane ∙ is in
      let there = takes g read client here (omega (arith, lane, low)) in
      let r : Row = row_at h g.lane in
      let at : r ≡ row_at h c = ap (row_at h) lane in
      let same : g.serial ≡ r.serial = new.same ∙ ap (λ (r : Row). r.serial) (sym at) in
      let t : nat_eq g.serial r.serial ≡ true = eq-eqb _ _ same in
      let begun : is_begun r.stage ≡ true = ap (λ (r : Row). is_begun r.stage) at ∙ ap is_begun new.begun in
      let mine : AllIn (helper_takes r g (frame.Proof new.share)) all = subst (λ body. AllIn (helper_takes r g body) all) new.body there in
      let took : AllIn (taken 1 g) all = rw (t, begun) at mine in
      let root : RootTook all c (row_at h c).serial = subst (RowBrought all c (row_at h c).serial) new.begun before in
      let share : Took all 1 c (row_at h c).serial (frame.Proof new.share) =
      subst (λ n. Took all 1 c n (frame.Proof new.share)) new.same (subst (λ d. Took all 1 d g.serial (frame.Proof new.share)) lane (took_it all 1 g (frame.Proof new.share) new.body took)) in
      subst (Brought all c) (sym new.is) (root, (new.share, share))

  pub client_rows : RowsBrought foreign all h.rows → RowsBrought foreign all (steps.client_turn h bytes).server.rows
  client_rows rows c is = elim (helper_takes_first h bytes c) [
    | inl same ↦ subst (Brought all c) (sym same) (rows c is)
    | inr took ↦ elim took.takes [
      | inl new ↦ deposit_brought c took.frame _ took.read took.lane is took.there new
      | inr new ↦ proof_brought c took.frame _ took.read took.lane is took.there (rows c is) new
    ]
  ]

-- ---- a command

pub command_rows : (foreign : ℕ → Bool) (all : List Taken) (h : helper.Helper) (bytes : List ℕ) → RowsBrought foreign all h.server.rows
    → RowsBrought foreign all (commands.on_link_bytes h bytes).helper.server.rows
command_rows foreign all h bytes rows c is = elim (helper_goes_on h bytes c) [
  | inl same ↦ subst (Brought all c) (sym same) (rows c is)
  | inr on ↦ subst (Brought all c) (sym on.is) (goes_brought all c (row_at h.server c).serial h.server on.command.body (row_at h.server c).stage on.stage on.goes (rows c is))
]

-- ---- each token

-- what comes to another addressee leaves the helper
abbrev IsAway : Addressee → Type 0
IsAway (ToClient c) = Unit {0}
IsAway ToLeader = Unit {0}
IsAway ToLeaderLink = Unit {0}
IsAway to = ⊥

away : (f : FrameWorld) (to : Addressee) (bytes : List ℕ) → IsAway to → (frames.comes f to bytes).helper ≡ f.helper
unfolding frames.comes
away f (ToClient c) bytes h = progress_same (frames.with_client f c _) c _
away f ToLeader bytes h = refl
away f ToLeaderLink bytes h = refl
away f ToHelper bytes h = absurd h
away f ToHelperLink bytes h = absurd h

module _ (b : Book) (f : FrameWorld) (all : List Taken) (l : Letter) (rows : RowsBrought b.foreign all f.helper.server.rows) where
  abbrev After : Addressee → Type 0
  After to = RowsBrought b.foreign all (frames.comes f to l.bytes).helper.server.rows

  stay : (to : Addressee) → l.to ≡ to → IsAway to → After l.to
  stay to at there = subst After (sym at) (subst (λ (h : helper.Helper). RowsBrought b.foreign all h.server.rows) (sym (away f to l.bytes there)) rows)

  to_helper : l.to ≡ ToHelper → IsTakenIn b.foreign all f.helper.server l.bytes → After l.to
  unfolding frames.comes
  to_helper at takes = subst After (sym at) (client_rows b.foreign all f.helper.server l.bytes takes rows)

  to_helper_link : l.to ≡ ToHelperLink → After l.to
  unfolding frames.comes
  to_helper_link at =
      subst After (sym at) (subst (λ (h : helper.Helper). RowsBrought b.foreign all h.server.rows) (sym (answers_same _ _ _)) (command_rows b.foreign all f.helper l.bytes rows))

  -- a client's own frame is of no foreign lane
  own_frame : (c : ℕ) (t : Token) → b.foreign c ≡ false → (k : IsFrameOf b l ToHelper c t) → k.frame.lane ≡ c → IsTakenIn b.foreign all f.helper.server l.bytes
  own_frame c t honest k lane g read client foreign low =
      let mine : whole l.bytes ≡ Ok k.frame = ap whole k.spelled.bytes ∙ whole_spelled k.frame k.spelled.is_frame in
      let same : g ≡ k.frame = cc in
      absurd (cc (foreign, ap (λ (g : PlainFrame). b.foreign g.lane) same, ap b.foreign lane, honest))

  linked_at : (to : Addressee) (n : ℕ) (x : Line) (t : Token) (foreign : Bool) → IsLinked b l to n x t foreign → l.to ≡ to
  linked_at to n x t true k = k.spelled.at
  linked_at to n x t false k = k.spelled.at

  client_frame : (c s : ℕ) (o : Option PlainBody) (g : PlainFrame) → from_client c s o ≡ Some g → g.lane ≡ c
  client_frame c s (Some body) g e = let same : frame_with c s 0 body ≡ g = cc in ap (λ (g : PlainFrame). g.lane) (sym same)
  client_frame c s None g e = absurd (cc e)

  injected : (c : ℕ) (ts more : List Taken) → all ≡ (ts ++ taken_of f (token.Injected false (Some c)) l) ++ more → IsTakenIn b.foreign all f.helper.server l.bytes
  injected c ts more is g read client foreign low =
      let there : AllIn (taken_in false f l.bytes (whole l.bytes)) all = subst (AllIn (taken_in false f l.bytes (whole l.bytes))) (sym is) (in_middle ts (taken_in false f l.bytes (whole l.bytes)) more) in
      let of_frame : AllIn (taken_in false f l.bytes (Ok g)) all = subst (λ found. AllIn (taken_in false f l.bytes found) all) read there in
      let past : nat_le f.helper.server.settings.lanes g.lane ≡ false = lt-leb _ _ low in
      rw past at of_frame

  pub rows_come : (v w : World) (t : Token) (i : ℕ) (ts more : List Taken) → Known b v w → slice_get w.pool i ≡ Some t → w.foreign ≡ b.foreign
      → Carries b t l → OutsideAt b.foreign t l → all ≡ (ts ++ taken_of f t l) ++ more → After l.to
  unfolding frame_of
  rows_come v w (token.Deposit c s) i ts more known at same k out is =
      let honest : b.foreign c ≡ false = ap (λ g. g c) (sym same) ∙ (known.lawful.coherent.pool i (token.Deposit c s) at).0 in
      to_helper k.spelled.at (own_frame c (token.Deposit c s) honest k (client_frame c s (deposit_at b c s) k.frame k.is))
  rows_come v w (token.ProofToHelper c s) i ts more known at same k out is =
      let honest : b.foreign c ≡ false = ap (λ g. g c) (sym same) ∙ (known.lawful.coherent.pool i (token.ProofToHelper c s) at).0 in
      to_helper k.spelled.at (own_frame c (token.ProofToHelper c s) honest k (client_frame c s (proof_at b 1 c s) k.frame k.is))
  rows_come v w (token.Injected false (Some c)) i ts more known at same k out is = to_helper k.0 (injected c ts more is)
  rows_come v w (token.Injected false None) i ts more known at same k out is = to_helper k.0 (λ g read client foreign low.
      let s = whole_found l.bytes g out.bytes_are read in absurd (k.1 g s.is_frame s.spelled client))
  rows_come v w (token.Injected true (Some c)) i ts more known at same k out is = stay ToLeader k.0 tt
  rows_come v w (token.Injected true None) i ts more known at same k out is = stay ToLeader k.0 tt
  rows_come v w (token.Ordered n x) i ts more known at same k out is = to_helper_link (linked_at ToHelperLink n x (token.Ordered n x) (b.foreign x.lane) k)
  rows_come v w (token.Replied n x) i ts more known at same k out is = stay ToLeaderLink (linked_at ToLeaderLink n x (token.Replied n x) (b.foreign x.lane) k) tt
  rows_come v w (token.Submission c s y) i ts more known at same k out is = stay ToLeader k.1.spelled.at tt
  rows_come v w (token.ProofToLeader c s) i ts more known at same k out is = stay ToLeader k.spelled.at tt
  rows_come v w (token.HeldDeposit c s) i ts more known at same k out is = stay (ToClient c) k.spelled.at tt
  rows_come v w (token.HeldProof c s) i ts more known at same k out is = stay (ToClient c) k.spelled.at tt
  rows_come v w (token.Challenge c s) i ts more known at same k out is = stay (ToClient c) k.spelled.at tt
  rows_come v w (token.Answer c s) i ts more known at same k out is = stay (ToClient c) k.spelled.at tt
  rows_come v w (token.Later c s) i ts more known at same k out is = stay (ToClient c) k.spelled.at tt
  rows_come v w (token.Foreign c) i ts more known at same k out is = stay (ToClient c) k.spelled.at tt
