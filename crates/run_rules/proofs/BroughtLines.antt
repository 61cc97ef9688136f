-- The commands of foreign lanes were brought at the leader, and the entries that did something at the helper.
use Rattle.std.proofs.Common.{◌≡◌, ◌<◌, ◌≤◌, ℕ, true, false, cond, Bool, List, [], ◌∷◌, ◌++◌, length, position, Option, Some, None, Result, Ok, Err, slice_get, take, length-take, ◌&&◌, option_map, refl, sym, ap, subst, ◌∙◌, inl, inr, arith}
use Rattle.std.proofs.lemmas.Option.{slice_get-map, slice_get-get_or}
use Rattle.std.proofs.lemmas.List.Quantifiers.{position-Some}
use Rattle.express_words.specs.declared.refusal.Refusal.{Refusal}
use Rattle.express_words.specs.declared.audit.ProofShare.{ProofShare}
use Rattle.express_words.specs.declared.audit.Openings.{Openings}
use Rattle.express_words.specs.declared.audit.Closing.{Closing}
use Rattle.dpf_rules.specs.Expansion.{token as box_token}
use Rattle.frame_rules.specs.declared.frame.DepositBody.TheVariants as deposit
use Rattle.frame_rules.specs.Frames as frame
use Rattle.frame_rules.specs.Frames.{PlainFrame, PlainBody}
use Rattle.frame_rules.specs.Whole.{has_width, is_command, if_linked, linked, whole}
use Rattle.mailbox_rules.specs.Requests.{Command, Registers, Begins, Audits, Settles, Reads, Retires, Line, Entry, Operation, AddBox, BeginWrite, AuditWrite, SettleWrite, ReadBox, RetireBox, Refuse}
use Rattle.mailbox_rules.specs.Tables.{Mailbox, no_writes}
use Rattle.mailbox_rules.proofs.Outlines.{outlines_agree}
use Rattle.token_rules.specs.Tokens as token
use Rattle.token_rules.specs.Tokens.{Token, World, no_act}
use Rattle.token_rules.specs.Run.{comes, line_of}
use Rattle.token_rules.proofs.Lists.{get_more, taken_get}
use Rattle.step_rules.specs.Boxes.{Box}
use Rattle.step_rules.specs.Helper as helper
use Rattle.step_rules.specs.Helper.{Server, row_at}
use Rattle.step_rules.specs.HelperCommands.{on_link_bytes}
use Rattle.step_rules.specs.Leader as leader
use Rattle.step_rules.specs.LeaderClients.{on_client}
use Rattle.step_rules.specs.Needs as needs
use Rattle.step_rules.specs.Needs.{HelperHad, IsRefused, HadFor, HasBox, NamesBox, IssuedFor, IsIssuedAt, MayIssue, IsFor}
use Rattle.step_rules.proofs.HelperNeeds.{helper_needs}
use Rattle.step_rules.proofs.LeaderNeeds.{leader_needs}
use Rattle.step_tokens.specs.HelperRows as helper_rows
use Rattle.run_rules.specs.Letters.{FrameWorld, Letter, ToHelperLink}
use Rattle.run_rules.specs.Book.{Book, all_boxes, place, place_or, same_line, table_at}
use Rattle.run_rules.specs.Values.{box_at, boxes_at, key_at, shares_at, writes_at}
use Rattle.run_rules.specs.Follows.{Carries, Follows, IsForeignLink, IsLinked, WasBegun}
use Rattle.run_rules.specs.Known.{Known}
use Rattle.run_rules.specs.Acts.{Taken, act_of, carried_act, does_after, leader_takes, order_act, taken, taken_in, taken_of}
use Rattle.run_rules.specs.Came.{Took}
use Rattle.run_rules.proofs.Basics.{whole_spelled}
use Rattle.run_rules.proofs.ReadBoxes.{bare_get, later_box}
use Rattle.run_rules.proofs.Places.{lines_same}
use Rattle.run_rules.proofs.ForeignLeaderTaken.{command_for, issued_for_frame}
use Rattle.run_rules.proofs.ForeignLeaderFirst.{one_more}
use Rattle.run_rules.proofs.BroughtRows.{AllIn, RootTook, RowBrought, RowsBrought, ShareTook, in_middle, took_it}

-- ---- the box of a token

abbrev pub OwnedBox : Book → ℕ → ℕ → List ℕ → Type 0
OwnedBox b server n key = (m : Mailbox) × (slice_get (all_boxes b) n ≡ Some m) × (key ≡ key_at b server m.lane m.serial)

-- a box at a server is one of the history's
owned_box_at : (b : Book) (server i n : ℕ) (box : Box) → slice_get (boxes_at b server i) n ≡ Some box → OwnedBox b server n box.key
unfolding shares_at
owned_box_at b server i n box is =
    at_found (slice_get (shares_at b server i).boxes n) refl (sym (slice_get-map (λ m. box_at b server m) (shares_at b server i).boxes n) ∙ is)
  where
    at_found : (found : Option Mailbox) → slice_get (shares_at b server i).boxes n ≡ found → option_map (λ m. box_at b server m) found ≡ Some box
        → OwnedBox b server n box.key
    at_found None e f = absurd (cc f)
    at_found (Some y) e f =
        let mine : box_at b server y ≡ box = cc f in
        let out = outlines_agree b.settings.boxes b.settings.width b.settings.width (writes_at b server) no_writes (take i b.entries) in
        let t = bare_get (table_at b i).boxes (shares_at b server i).boxes n y (ap (λ t. t.boxes) out) e in
        let stays = later_box b i n t.0 t.1.0 in
        let lane : stays.box.lane ≡ y.lane = stays.lane ∙ ap (λ (m : Mailbox). m.lane) t.1.1 in
        let serial : stays.box.serial ≡ y.serial = stays.serial ∙ ap (λ (m : Mailbox). m.serial) t.1.1 in (
          stays.box,
          stays.is,
          ap (λ (x : Box). x.key) (sym mine) ∙ ap (λ c. key_at b server c y.serial) (sym lane) ∙ ap (key_at b server stays.box.lane) (sym serial),
        )

-- ---- what each command needs of the leader, and each entry of the helper

abbrev pub TokenTook : Book → List Taken → ℕ → ℕ → ℕ → ℕ → (ℕ → PlainBody) → Type 0
TokenTook b all server c s n named =
    (m : Mailbox) × (slice_get (all_boxes b) n ≡ Some m) × Took all server c s (named (box_token (key_at b server m.lane m.serial) c s))

abbrev pub WriteTook : List Taken → ℕ → ℕ → Type 0
WriteTook all c s = (root : ℕ) × (part : List ℕ) × Took all 0 c s (frame.Write root part)

abbrev pub LineBrought : Book → List Taken → ℕ → ℕ → Command → Type 0
LineBrought b all c s Registers = (address : ℕ) × (key : List ℕ) × Took all 0 c s (frame.Register address key)
LineBrought b all c s Begins = WriteTook all c s
LineBrought b all c s Audits = WriteTook all c s × ((share : ProofShare) × Took all 0 c s (frame.Proof share))
LineBrought b all c s Settles = WriteTook all c s × ((share : ProofShare) × Took all 0 c s (frame.Proof share))
LineBrought b all c s Reads = (n : ℕ) × TokenTook b all 0 c s n (λ held. frame.Read n held)
LineBrought b all c s Retires = (n : ℕ) × TokenTook b all 0 c s n (λ held. frame.Retire n held)

abbrev pub LinesBrought : Book → List Taken → List Line → Type 0
LinesBrought b all lines = (k : ℕ) (x : Line) → slice_get lines k ≡ Some x → b.foreign x.lane ≡ true → LineBrought b all x.lane x.serial x.command

abbrev pub EntryBrought : Book → List Taken → ℕ → ℕ → Operation → Type 0
EntryBrought b all c s (AddBox address) = (key : List ℕ) × Took all 1 c s (frame.Deposit (deposit.Register key))
EntryBrought b all c s BeginWrite = RootTook all c s
EntryBrought b all c s AuditWrite = RootTook all c s × ShareTook all c s
EntryBrought b all c s SettleWrite = RootTook all c s × ShareTook all c s
EntryBrought b all c s (ReadBox n) = TokenTook b all 1 c s n (λ held. frame.Deposit (deposit.Read held))
EntryBrought b all c s (RetireBox n) = TokenTook b all 1 c s n (λ held. frame.Deposit (deposit.Read held))
EntryBrought b all c s Refuse = Unit {0}

abbrev pub EntriesBrought : Book → List Taken → List Entry → Type 0
EntriesBrought b all entries = (k : ℕ) (e : Entry) → slice_get entries k ≡ Some e → b.foreign e.line.lane ≡ true
    → EntryBrought b all e.line.lane e.line.serial e.does

-- ---- what a command did, by its reply: nothing, or what it is for

after_register : (P : Operation → Type 0) (address : ℕ) (reply : PlainBody) → P Refuse → P (AddBox address) → P (does_after (frame.LinkRegister address) reply)
after_register P address (frame.LinkReply (frame.ReplyRefused r)) none some = none
after_register P address reply none some = some

after_begin : (P : Operation → Type 0) (drawn part : List ℕ) (reply : PlainBody) → P Refuse → P BeginWrite → P (does_after (frame.LinkBegin drawn part) reply)
after_begin P drawn part (frame.LinkReply (frame.ReplyRefused r)) none some = none
after_begin P drawn part reply none some = some

after_audit : (P : Operation → Type 0) (point : ℕ) (opened : Openings) (reply : PlainBody) → P Refuse → P AuditWrite → P (does_after (frame.LinkAudit point opened) reply)
after_audit P point opened (frame.LinkReply (frame.ReplyRefused r)) none some = none
after_audit P point opened reply none some = some

after_settle : (P : Operation → Type 0) (closing : Closing) (reply : PlainBody) → P Refuse → P SettleWrite → P (does_after (frame.LinkSettle closing) reply)
after_settle P closing (frame.LinkReply (frame.ReplyRefused r)) none some = none
after_settle P closing reply none some = some

after_read : (P : Operation → Type 0) (n : ℕ) (reply : PlainBody) → P Refuse → P (ReadBox n) → P (does_after (frame.LinkRead n) reply)
after_read P n (frame.LinkReply (frame.ReplyRefused r)) none some = none
after_read P n reply none some = some

after_retire : (P : Operation → Type 0) (n : ℕ) (reply : PlainBody) → P Refuse → P (RetireBox n) → P (does_after (frame.LinkRetire n) reply)
after_retire P n (frame.LinkReply (frame.ReplyRefused r)) none some = none
after_retire P n reply none some = some

-- a refused command did nothing
is_refused : PlainBody → Bool
is_refused (frame.LinkReply (frame.ReplyRefused r)) = true
is_refused reply = false

refused_nothing : (b : Book) (all : List Taken) (c s : ℕ) (body reply : PlainBody) → is_refused reply ≡ true → EntryBrought b all c s (does_after body reply)
unfolding is_refused
refused_nothing b all c s body (frame.LinkReply (frame.ReplyRefused r)) e = tt
refused_nothing b all c s body reply e = absurd (cc e)

never_both : (reply : PlainBody) → is_refused reply ≡ false → IsRefused reply → ⊥
unfolding is_refused
never_both (frame.LinkReply (frame.ReplyRefused r)) e h = absurd (cc e)
never_both reply e h = h

some_same : {x y : PlainFrame} → (let o : Option PlainFrame = Some x in o) ≡ Some y → x ≡ y
some_same e = cc

-- ---- a command that the helper carries out

module _ (b : Book) (f : FrameWorld) (v w : World) (all : List Taken) (known : Known b v w) (h : Follows b f w) where
  abbrev server : Server
  server = f.helper.server

  -- by what its row holds
  by_row : (g : PlainFrame) (c s : ℕ) (reply : PlainBody) (body : PlainBody) → g.lane ≡ c → g.serial ≡ s
      → (row_at server g.lane).serial ≡ g.serial → RowBrought all g.lane (row_at server g.lane).serial (row_at server g.lane).stage
      → needs.HoldsFor server g body (row_at server g.lane).stage → EntryBrought b all c s (does_after body reply)
  by_row g c s reply body lane serial same row holds = subst (λ d. EntryBrought b all d s (does_after body reply)) lane
      (subst (λ n. EntryBrought b all g.lane n (does_after body reply)) serial (of_body reply body here holds))
    where
      here : RowBrought all g.lane g.serial (row_at server g.lane).stage
      here = subst (λ n. RowBrought all g.lane n (row_at server g.lane).stage) same row

      tokens : (n : ℕ) → HasBox server g n (row_at server g.lane).stage → TokenTook b all 1 g.lane g.serial n (λ held. frame.Deposit (deposit.Read held))
      tokens n has =
          let at = owned_box_at b 1 w.carried n has.box (ap (λ boxes. slice_get boxes n) (sym h.helper.boxes) ∙ has.is) in
          let took : Took all 1 g.lane g.serial (frame.Deposit (deposit.Read (box_token has.box.key g.lane g.serial))) = subst (RowBrought all g.lane g.serial) has.deposited here in
          (at.0, at.1, subst (λ key. Took all 1 g.lane g.serial (frame.Deposit (deposit.Read (box_token key g.lane g.serial)))) at.2 took)

      of_body : (reply body : PlainBody) → RowBrought all g.lane g.serial (row_at server g.lane).stage
          → needs.HoldsFor server g body (row_at server g.lane).stage → EntryBrought b all g.lane g.serial (does_after body reply)
      of_body reply (frame.LinkRegister address) row holds =
          after_register (EntryBrought b all g.lane g.serial) address reply tt (holds.0, subst (RowBrought all g.lane g.serial) holds.1 row)
      of_body reply (frame.LinkBegin drawn part) row holds =
          after_begin (EntryBrought b all g.lane g.serial) drawn part reply tt (holds.0, subst (RowBrought all g.lane g.serial) holds.1 row)
      of_body reply (frame.LinkAudit point opened) row holds =
          after_audit (EntryBrought b all g.lane g.serial) point opened reply tt (subst (RowBrought all g.lane g.serial) holds.2 row)
      of_body reply (frame.LinkSettle closing) row holds =
          after_settle (EntryBrought b all g.lane g.serial) closing reply tt (subst (RowBrought all g.lane g.serial) holds.2 row)
      of_body reply (frame.LinkRead n) row holds = after_read (EntryBrought b all g.lane g.serial) n reply tt (tokens n holds)
      of_body reply (frame.LinkRetire n) row holds = after_retire (EntryBrought b all g.lane g.serial) n reply tt (tokens n holds)
      of_body reply body row holds = absurd holds

  -- the entry that the command's token leaves, with the act that is read off the helper's turn
  module _ (n : ℕ) (x : Line) (l : Letter) (foreign : b.foreign x.lane ≡ true) (rows : RowsBrought b.foreign all server.rows) (k : Carries b (token.Ordered n x) l) where
    link : IsForeignLink b l ToHelperLink n x (token.Ordered n x)
    link = subst (IsLinked b l ToHelperLink n x (token.Ordered n x)) foreign k

    frame_of_bytes : (g : PlainFrame) → linked is_command server.settings.width l.bytes ≡ Some g → g ≡ link.frame
    unfolding linked
    frame_of_bytes g read =
        let mine : whole l.bytes ≡ Ok link.frame = ap whole link.spelled.bytes ∙ whole_spelled link.frame link.spelled.is_frame in
        of_found (whole l.bytes) mine read
      where
        of_found : (found : Result PlainFrame Refusal) → found ≡ Ok link.frame → if_linked is_command server.settings.width found ≡ Some g → g ≡ link.frame
        of_found (Err r) e read = absurd (cc e)
        of_found (Ok d) e read = of_test (is_command d.body && has_width server.settings.width d.body) read
          where
            of_test : (t : Bool) → cond t (Some d) None ≡ Some g → g ≡ link.frame
            of_test true read = cc (e, read)
            of_test false read = absurd (cc read)

    carried_brought : (order : Option PlainFrame) (answer : helper.Answer) → linked is_command server.settings.width l.bytes ≡ order
        → HadFor answer f.helper l.bytes → EntryBrought b all x.lane x.serial (carried_act (helper_rows.bare (row_at (on_link_bytes f.helper l.bytes).helper.server x.lane)) order answer).does
    carried_brought (Some g) (helper.Carried reply) read had = by_reply (is_refused reply.body) refl
      where
        same : g ≡ link.frame
        same = frame_of_bytes g read

        by_reply : (t : Bool) → is_refused reply.body ≡ t → EntryBrought b all x.lane x.serial (does_after g.body reply.body)
        by_reply true e = refused_nothing b all x.lane x.serial g.body reply.body e
        by_reply false e =
            let has = had (λ refused. never_both reply.body e refused) in
            let one : has.command ≡ g = some_same (sym has.read ∙ read) in
            let mine : has.command ≡ link.frame = one ∙ same in
            let lane : has.command.lane ≡ x.lane = ap (λ (g : PlainFrame). g.lane) mine ∙ link.lane in
            let serial : has.command.serial ≡ x.serial = ap (λ (g : PlainFrame). g.serial) mine ∙ link.serial in
            let here : b.foreign has.command.lane ≡ true = ap b.foreign lane ∙ foreign in
            subst (λ (g : PlainFrame). EntryBrought b all x.lane x.serial (does_after g.body reply.body)) one
            (by_row has.command x.lane x.serial reply.body has.command.body lane serial has.serial (rows has.command.lane here) has.holds)
    carried_brought (Some g) (helper.Repeated bytes) read had = tt
    carried_brought (Some g) helper.Ignored read had = tt
    carried_brought None answer read had = nothing answer
      where
        nothing : (answer : helper.Answer) → EntryBrought b all x.lane x.serial (carried_act (helper_rows.bare (row_at (on_link_bytes f.helper l.bytes).helper.server x.lane)) None answer).does
        nothing (helper.Carried reply) = tt
        nothing (helper.Repeated bytes) = tt
        nothing helper.Ignored = tt

    pub act_brought : EntryBrought b all x.lane x.serial (order_act f x.lane l.bytes).does
    act_brought = carried_brought (linked is_command server.settings.width l.bytes) (on_link_bytes f.helper l.bytes).answer refl (helper_needs f.helper l.bytes)

  -- ---- a command that the leader issues at a frame

  -- the begin of a write that was challenged was issued
  began : (c : ℕ) (x : leader.Stage) (s : ℕ) → WasBegun b w.acknowledged c s x → needs.IsChallenged x → (k : ℕ) × (slice_get w.commands k ≡ Some (line_of c s Begins))
  unfolding place
  began c (leader.Challenged write kept) s begun is =
      let low : place b c s Begins < length b.commands = let p = begun.before in let a = known.lawful.coherent.acknowledged in let d = known.lawful.coherent.carried in let len = within_few in omega (arith, p, a, d, len) in
      let few : place b c s Begins < length w.commands = let p = begun.before in let a = known.lawful.coherent.acknowledged in let d = known.lawful.coherent.carried in omega (arith, p, a, d) in
      (place b c s Begins, ap (λ xs. slice_get xs (place b c s Begins)) known.within.commands ∙ taken_get b.commands (length w.commands) (place b c s Begins) (line_of c s Begins) few (found_at (position (λ x. same_line x (line_of c s Begins)) b.commands) refl low))
    where
      within_few : length w.commands ≤ length b.commands
      within_few = let n = length-take (length w.commands) b.commands in let e = ap length known.within.commands in omega (arith, n, e)

      found_at : (o : Option ℕ) → position (λ x. same_line x (line_of c s Begins)) b.commands ≡ o → place_or (length b.commands) o < length b.commands
          → slice_get b.commands (place_or (length b.commands) o) ≡ Some (line_of c s Begins)
      found_at None e low = absurd (omega (arith, low))
      found_at (Some k) e low =
          let at = position-Some (λ x. same_line x (line_of c s Begins)) b.commands k (line_of c s Begins) e in
          slice_get-get_or b.commands k (line_of c s Begins) at.0 ∙ ap Some (lines_same _ (line_of c s Begins) at.1)
  began c leader.Idle s begun is = absurd is
  began c (leader.Waiting number asked) s begun is = absurd is
  began c (leader.Auditing number write share sigma opened) s begun is = absurd is
  began c (leader.Settling number write own other) s begun is = absurd is
  began c (leader.Done want kept) s begun is = absurd is

  tokens_at : (g : PlainFrame) (n held : ℕ) (named : ℕ → PlainBody) → NamesBox f.leader g n held → Took all 0 g.lane g.serial (named held)
      → TokenTook b all 0 g.lane g.serial n named
  tokens_at g n held named has took =
      let at = owned_box_at b 0 w.acknowledged n has.box (ap (λ boxes. slice_get boxes n) (sym h.leader.boxes) ∙ has.is) in
      (at.0, at.1, subst (λ m. Took all 0 g.lane g.serial (named m)) (has.token ∙ ap (λ key. box_token key g.lane g.serial) at.2) took)

  frame_brought : (g command : PlainFrame) (after : leader.Leader) → LinesBrought b all w.commands → b.foreign g.lane ≡ true → g.lane < b.settings.lanes
      → IsIssuedAt f.leader g command after → AllIn (taken 0 g) all → LineBrought b all g.lane g.serial (command_for g.body)
  frame_brought g command after lines foreign low issued there = of_body g.body refl issued.brings issued.may
    where
      took : (body : PlainBody) → g.body ≡ body → Took all 0 g.lane g.serial body
      took body is = took_it all 0 g body is there

      of_body : (body : PlainBody) → g.body ≡ body → IsFor f.leader g body command.body → MayIssue (leader.row_at f.leader g.lane) g body
          → LineBrought b all g.lane g.serial (command_for body)
      of_body (frame.Register address key) is brings may = (address, key, took _ is)
      of_body (frame.Write root part) is brings may = (root, part, took _ is)
      of_body (frame.Read n held) is brings may = (n, tokens_at g n held (λ held. frame.Read n held) (reads command.body brings) (took _ is))
        where
          reads : (body : PlainBody) → IsFor f.leader g (frame.Read n held) body → NamesBox f.leader g n held
          reads (frame.LinkRead named) h = h.1
          reads body h = absurd h
      of_body (frame.Retire n held) is brings may = (n, tokens_at g n held (λ held. frame.Retire n held) (retires command.body brings) (took _ is))
        where
          retires : (body : PlainBody) → IsFor f.leader g (frame.Retire n held) body → NamesBox f.leader g n held
          retires (frame.LinkRetire named) h = h.1
          retires body h = absurd h
      of_body (frame.Proof share) is brings may =
          let begun : WasBegun b w.acknowledged g.lane g.serial (leader.row_at f.leader g.lane).stage =
          subst (λ n. WasBegun b w.acknowledged g.lane n (leader.row_at f.leader g.lane).stage) (sym may.0) (h.leader.begun g.lane low foreign) in
          let line = began g.lane (leader.row_at f.leader g.lane).stage g.serial begun may.1 in
          (lines line.0 (line_of g.lane g.serial Begins) line.1 foreign, (share, took _ is))
      of_body body is brings may = absurd brings

  -- at bytes from outside
  module _ (c i : ℕ) (l : Letter) (foreign : b.foreign c ≡ true) (lines : LinesBrought b all w.commands) (k : Carries b (token.Injected true (Some c)) l) (ts more : List Taken)
      (is : all ≡ (ts ++ taken_of f (token.Injected true (Some c)) l) ++ more) where
    abbrev g : PlainFrame
    g = k.1.0

    read : whole l.bytes ≡ Ok g
    read = ap whole k.1.1.1.0 ∙ whole_spelled g k.1.1.0

    lane : g.lane ≡ c
    lane = k.1.1.1.1.0

    here : b.foreign g.lane ≡ true
    here = ap b.foreign lane ∙ foreign

    pub link_brought : (n : ℕ) (command : PlainFrame) → (on_client f.leader l.bytes).answer ≡ leader.Link n command
        → LinesBrought b all (comes (λ m. act_of f (token.Injected true (Some c)) l) w (token.Injected true (Some c))).commands
    link_brought n command e =
        let issued : IssuedFor (leader.Link n command) f.leader l.bytes (on_client f.leader l.bytes).leader = subst (λ a. IssuedFor a f.leader l.bytes (on_client f.leader l.bytes).leader) e (leader_needs f.leader l.bytes) in
        let same : issued.0 ≡ g = ok_same (sym issued.1 ∙ read) in
        let mine : IsIssuedAt f.leader g command (on_client f.leader l.bytes).leader = subst (λ g. IsIssuedAt f.leader g command (on_client f.leader l.bytes).leader) same issued.2 in
        let there : AllIn (taken_in true f l.bytes (whole l.bytes)) all = subst (AllIn (taken_in true f l.bytes (whole l.bytes))) (sym is) (in_middle ts (taken_in true f l.bytes (whole l.bytes)) more) in
        let of_frame : AllIn (leader_takes g (on_client f.leader l.bytes).answer) all = subst (λ found. AllIn (taken_in true f l.bytes found) all) read there in
        let took : AllIn (taken 0 g) all = subst (λ a. AllIn (leader_takes g a) all) e of_frame in
        let low = (issued_for_frame f.leader l.bytes g n command read e).low in
        let settings = ap (λ x. x.lanes) h.leader.settings in
        let brought = frame_brought g command (on_client f.leader l.bytes).leader lines here (omega (arith, low, settings)) mine took in
        let grown = subst (λ d. (comes (λ m. act_of f (token.Injected true (Some d)) l) w (token.Injected true (Some d))).commands ≡ w.commands ++ line_of g.lane g.serial (command_for g.body) ∷ []) lane
        (one_more b f v w g command n l.bytes known h here read e l refl) in
        λ j x at strange. elim (get_more w.commands (line_of g.lane g.serial (command_for g.body)) j x (ap (λ xs. slice_get xs j) (sym grown) ∙ at)) [
          | inl old ↦ lines j x old.1 strange
          | inr new ↦ subst (λ (x : Line). LineBrought b all x.lane x.serial x.command) new.1 brought
        ]
      where
        ok_same : {x y : PlainFrame} → (let r : Result PlainFrame Refusal = Ok x in r) ≡ Ok y → x ≡ y
        ok_same e = cc
