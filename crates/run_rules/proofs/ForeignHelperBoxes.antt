-- Registers, reads and retires of a foreign lane at the helper, in both runs.
use Rattle.std.proofs.Common.{◌≡◌, ℕ, zero, suc, ◌<◌, ◌^◌, ◌+◌, cond, nat_eq, true, false, Bool, List, [], ◌∷◌, ◌++◌, map, Option, Some, None, slice_get, refl, sym, ap, ◌∙◌, subst, inl, inr, arith, nat_le, ◌⊎◌, length}
use Rattle.std.proofs.lemmas.Bool.{cases_Bool, cases_eq, ne_eqb}
use Rattle.std.proofs.lemmas.List.{length-map}
use Rattle.std.proofs.lemmas.List.Quantifiers.{position-Some}
use Rattle.express_words.specs.declared.refusal.Refusal.{Refusal}
use Rattle.express_words.specs.declared.refusal.Refusal.TheVariants as refusal
use Rattle.frame_rules.specs.declared.frame.DepositBody.TheVariants as deposit
use Rattle.frame_rules.specs.Frames as frame
use Rattle.frame_rules.specs.Frames.{PlainFrame, PlainBody}
use Rattle.dpf_rules.specs.Expansion as expansion
use Rattle.lane_table.specs.declared.row.Want.TheVariants as want
use Rattle.mailbox_rules.specs.Requests.{Registers, Line, Entry, entry, AddBox, ReadBox, RetireBox, Refuse}
use Rattle.mailbox_rules.specs.Tables.{Mailbox, Table, Full, Gave, NoBox, Registered, after_line, after_register, addresses, box_of, given, register_result, result_of}
use Rattle.token_rules.specs.Tokens.{World}
use Rattle.token_rules.specs.Run.{line_of}
use Rattle.step_rules.specs.Boxes.{place_of}
use Rattle.step_rules.specs.Helper as helper
use Rattle.step_rules.specs.Helper.{Server, Stage, row}
use Rattle.step_rules.specs.HelperCommands as steps
use Rattle.step_rules.specs.HelperCommands.{Effect, effect}
use Rattle.run_rules.specs.Letters.{FrameWorld}
use Rattle.run_rules.specs.Acts.{does_after}
use Rattle.run_rules.specs.Book.{Book, begun_in}
use Rattle.run_rules.specs.Values.{key_at, box_at, boxes_at, shares_at, writes_at}
use Rattle.run_rules.specs.Frames.{frame_with, masked_at, reply_with}
use Rattle.run_rules.specs.Follows.{ForeignHolds, SettlesBegun, brought_does, Sound}
use Rattle.frame_rules.specs.Spelling.{IsFrame}
use Rattle.run_rules.proofs.HelperCommands.{left_by, draws_same}
use Rattle.run_rules.proofs.HelperRegisters.{place_same, register_made, shares_few, shares_next}
use Rattle.run_rules.proofs.ReadBasics.{command_for, does_for, link_for}
use Rattle.run_rules.proofs.ReadCommands.{after_read, read_made}
use Rattle.run_rules.proofs.ForeignHelperCarried.{ForeignMade, Orders, done_made, foreign_reply, made_as, refused_made, refused_reply, row_after, same_draws, same_table}

-- ---- what the row holds

-- the key of a register
key_held : (b : Book) (c s : ℕ) (stage : Stage) (key : List ℕ) → ForeignHolds b c s stage
    → steps.held_key stage ≡ Some key → key ≡ key_at b 1 c s
key_held b c s (helper.Deposited (deposit.Register other)) key h e = let same : other ≡ key = cc in sym same ∙ h
key_held b c s (helper.Deposited (deposit.Write root)) key h e = absurd (cc e)
key_held b c s (helper.Deposited (deposit.Read held)) key h e = absurd (cc e)
key_held b c s helper.Idle key h e = absurd (cc e)
key_held b c s (helper.Begun write) key h e = absurd (cc e)
key_held b c s (helper.Proved write share) key h e = absurd (cc e)
key_held b c s (helper.Audited write closing) key h e = absurd (cc e)
key_held b c s (helper.Done want) key h e = absurd (cc e)

-- a register is refused, and leaves the table, or has its number
record IsRefusedAt (b : Book) (c s i address : ℕ) (t : Table) (found : Option ℕ) : Type 0 where
  refusal : Refusal
  is : reply_with b i (line_of c s Registers) (register_result b.settings.boxes t found) ≡ frame.LinkReply (frame.ReplyRefused refusal)
  same : after_register b.settings.boxes b.settings.width t (line_of c s Registers) address found ≡ t

register_cases : (b : Book) (c s i address : ℕ) (t : Table) (found : Option ℕ) → IsRefusedAt b c s i address t found
    ⊎ ((n : ℕ) × (reply_with b i (line_of c s Registers) (register_result b.settings.boxes t found) ≡ frame.LinkReply (frame.ReplyRegistered n)))
unfolding reply_with after_register
register_cases b c s i address t (Some n) = inl (record { refusal = refusal.Taken n; is = refl; same = refl })
register_cases b c s i address t None = elim (cases_Bool (nat_le b.settings.boxes (length t.boxes))) [
  | inl full ↦ inl (record { refusal = refusal.Full b.settings.boxes; is = ap (λ r. reply_with b i (line_of c s Registers) (cond r (Full b.settings.boxes) (Registered (length t.boxes)))) full; same = rw full refl })
  | inr room ↦ inr (length t.boxes, ap (λ r. reply_with b i (line_of c s Registers) (cond r (Full b.settings.boxes) (Registered (length t.boxes)))) room)
]

read_command : (h : Server) (g : PlainFrame) (stays : Bool) (n : ℕ) (stage : Stage)
    → steps.command h g (link_for stays n) stage ≡ steps.read h g stays n (steps.held_token stage)
unfolding steps.command
read_command h g true n stage = refl
read_command h g false n stage = refl

module _ (b : Book) (f : FrameWorld) (w : World) (c s : ℕ) (sound : Sound b) (foreign : b.foreign c ≡ true) (low : c < b.settings.lanes)
    (stage : Stage) (holds : ForeignHolds b c s stage) where
  abbrev i : ℕ
  i = w.carried

  abbrev server : Server
  server = f.helper.server

  -- ---- a register

  module _ (k : Orders b f w (line_of c s Registers)) (address : ℕ) (brought : address ≡ b.brought.address c s) where
    abbrev line : Line
    line = line_of c s Registers

    abbrev g : PlainFrame
    g = frame_with c s (i + 1) (frame.LinkRegister address)

    key_made : (key : List ℕ) → key ≡ key_at b 1 c s
        → ForeignMade b w line (frame.LinkRegister address) (steps.register_at server g address key (place_of address server.boxes))
    unfolding after_line result_of
    key_made key same =
        let hh = k.follows.helper in
        let t = shares_at b 1 i in
        let found = box_of address t.boxes in
        let made = register_made b server c s (i + 1) address i key t hh.boxes (ap (λ x. x.boxes) hh.settings) (ap (λ x. x.width) hh.settings) (sound.limits.1.1) (shares_few b 1 i) same
        k.lane k.serial (omega arith) k.number found
        (λ n e. let below = (position-Some (λ other. nat_eq other address) (addresses t.boxes) n 0 e).0 in let m = length-map t.boxes (λ m. m.address) in omega (arith, below, m)) in
        let out : steps.register_at server g address key (place_of address server.boxes) ≡ effect _ made.body =
        ap (steps.register_at server g address key) (ap (place_of address) hh.boxes ∙ place_same b 1 address t.boxes) ∙ made.is in
        subst (ForeignMade b w line (frame.LinkRegister address)) (sym out) (elim (register_cases b c s i address t found) [
          | inl r ↦
              let body : made.body ≡ frame.LinkReply (frame.ReplyRefused r.refusal) = made.body_is ∙ r.is in
              subst (λ body. ForeignMade b w line (frame.LinkRegister address) (effect (left_by server c (row s (helper.Done want.Register)) made.boxes server.draws) body)) (sym body)
              (λ entered. row_after b f w line (helper.Done want.Register) Refuse made.boxes server.draws (frame.LinkReply (frame.ReplyRefused r.refusal))
              k.follows foreign low k.serial entered tt tt
              (made.boxes_is ∙ ap (λ (u : Table). map (λ m. box_at b 1 m) u.boxes) r.same ∙ same_table b i line entered)
              (hh.draws ∙ same_draws w.journal line)
              (refused_reply b i line r.refusal entered) tt
              (subst (λ body. IsFrame (frame_with c s (i + 1) body)) body (made.frame k.first)))
          | inr r ↦
              let body : made.body ≡ frame.LinkReply (frame.ReplyRegistered r.0) = made.body_is ∙ r.1 in
              made_as b w line (frame.LinkRegister address) (AddBox address) _ (ap (does_after (frame.LinkRegister address)) body) (λ entered. row_after b f w line (helper.Done want.Register) (AddBox address) made.boxes server.draws made.body
              k.follows foreign low k.serial entered tt tt
              (made.boxes_is ∙ ap (λ (u : Table). map (λ m. box_at b 1 m) u.boxes) (sym (shares_next b 1 i (entry line (AddBox address)) entered)))
              (hh.draws ∙ draws_same w.journal (entry line (AddBox address)) refl)
              (foreign_reply b i line made.body (AddBox address) entered (ap AddBox brought) made.body_is) tt
              (made.frame k.first))
        ])

    by_key : (held : Option (List ℕ)) → ((key : List ℕ) → held ≡ Some key → key ≡ key_at b 1 c s)
        → ForeignMade b w line (frame.LinkRegister address) (steps.register server g address held)
    unfolding steps.register
    by_key (Some key) h = key_made key (h key refl)
    by_key None h = refused_made b f w line (frame.LinkRegister address) refusal.NoDeposit k tt

    pub registered_made : ForeignMade b w line (frame.LinkRegister address) (steps.command server g (frame.LinkRegister address) stage)
    unfolding steps.command
    registered_made = by_key (steps.held_key stage) (λ key e. key_held b c s stage key holds e)

  -- ---- a read or retire

  module _ (stays : Bool) (n : ℕ) (k : Orders b f w (line_of c s (command_for stays))) (small : n < 2 ^ 32) (brought : n ≡ b.brought.number c s) where
    abbrev read : Line
    read = line_of c s (command_for stays)

    abbrev reads : PlainFrame
    reads = frame_with c s (i + 1) (link_for stays n)

    no_box : ForeignMade b w read (link_for stays n) (steps.refuses (steps.done server reads want.Read) (refusal.NoBox n))
    no_box = done_made b f w read (link_for stays n) reads want.Read (refusal.NoBox n) k foreign low refl refl small

    not_begun : (es : List Entry) → begun_in es ≡ begun_in (es ++ entry read (does_for stays n) ∷ [])
    not_begun es = by_stays stays
      where
        by_stays : (t : Bool) → begun_in es ≡ begun_in (es ++ entry read (does_for t n) ∷ [])
        by_stays true = draws_same es (entry read (ReadBox n)) refl
        by_stays false = draws_same es (entry read (RetireBox n)) refl

    result_for : (m : Mailbox) → slice_get (shares_at b 1 i).boxes n ≡ Some m
        → given n (Some m) ≡ result_of b.settings.boxes (writes_at b 1) (shares_at b 1 i) read (does_for stays n)
    unfolding result_of
    result_for m there = by_stays stays
      where
        by_stays : (t : Bool) → given n (Some m) ≡ result_of b.settings.boxes (writes_at b 1) (shares_at b 1 i) read (does_for t n)
        by_stays true = ap (given n) (sym there)
        by_stays false = ap (given n) (sym there)

    no_settle : (t : Bool) → SettlesBegun b i read (does_for t n)
    no_settle true = tt
    no_settle false = tt

    does_brought : (t : Bool) → does_for t n ≡ brought_does b (line_of c s (command_for t))
    does_brought true = ap ReadBox brought
    does_brought false = ap RetireBox brought

    -- with the token of a live box
    token_made : (m : Mailbox) → slice_get (shares_at b 1 i).boxes n ≡ Some m → slice_get (boxes_at b 1 i) n ≡ Some (box_at b 1 m)
        → m.live ≡ true → (held : ℕ) → held ≡ expansion.token (key_at b 1 m.lane m.serial) c s
        → ForeignMade b w read (link_for stays n) (steps.read_at server reads stays n held (Some (box_at b 1 m)))
    unfolding reply_with
    token_made m there boxed live held fits =
        let hh = k.follows.helper in
        let made = read_made b server stays c s n (i + 1) i held m sound hh.boxes (ap (λ x. x.width) hh.settings) there boxed fits k.lane k.serial (omega arith) k.number in
        let body : made.body ≡ frame.LinkReply (frame.ReplyMasked (masked_at b 1 i read n m.bytes)) =
        made.body_is ∙ ap (λ t. reply_with b i read (cond t (Gave n m.bytes) (NoBox n))) live in
        subst (ForeignMade b w read (link_for stays n)) (sym made.is)
        (made_as b w read (link_for stays n) (does_for stays n) _ (ap (does_after (link_for stays n)) body ∙ does_link stays) (λ entered. row_after b f w read (helper.Done want.Read) (does_for stays n) made.boxes server.draws made.body
        k.follows foreign low k.serial entered tt tt
        (made.boxes_is ∙ ap (map (λ m. box_at b 1 m)) (sym (after_read b 1 stays c s n (shares_at b 1 i)) ∙ ap (λ u. u.boxes) (sym (shares_next b 1 i (entry read (does_for stays n)) entered))))
        (hh.draws ∙ not_begun w.journal)
        (foreign_reply b i read made.body (does_for stays n) entered (does_brought stays) (made.body_is ∙ ap (reply_with b i read) (result_for m there))) (no_settle stays)
        (made.frame k.first)))
      where
        does_link : (t : Bool) → does_after (link_for t n) (frame.LinkReply (frame.ReplyMasked (masked_at b 1 i read n m.bytes))) ≡ does_for t n
        does_link true = refl
        does_link false = refl

    retired : (m : Mailbox) (held : ℕ) → m.live ≡ false
        → ForeignMade b w read (link_for stays n) (steps.read_at server reads stays n held (Some (box_at b 1 m)))
    unfolding steps.read_at
    retired m held dead = rw dead no_box

    bad_token : (m : Mailbox) (held : ℕ) → nat_eq held (expansion.token (key_at b 1 m.lane m.serial) c s) ≡ false
        → ForeignMade b w read (link_for stays n) (steps.read_at server reads stays n held (Some (box_at b 1 m)))
    unfolding steps.read_at steps.read_live
    bad_token m held other = rw other (at_life m.live)
      where
        at_life : (t : Bool) → ForeignMade b w read (link_for stays n) (cond t (steps.refuses (steps.done server reads want.Read) (refusal.BadToken n)) (steps.refuses (steps.done server reads want.Read) (refusal.NoBox n)))
        at_life true = done_made b f w read (link_for stays n) reads want.Read (refusal.BadToken n) k foreign low refl refl small
        at_life false = no_box

    absent : (held : ℕ) → ForeignMade b w read (link_for stays n) (steps.read_at server reads stays n held None)
    unfolding steps.read_at
    absent held = no_box

    boxed_as : (ms : List Mailbox) (j : ℕ) (m : Mailbox) → slice_get ms j ≡ Some m
        → slice_get (map (λ m. box_at b 1 m) ms) j ≡ Some (box_at b 1 m)
    boxed_as [] j m e = absurd (cc e)
    boxed_as (x ∷ ms) zero m e = let same : x ≡ m = cc in ap (λ x. Some (box_at b 1 x)) same
    boxed_as (x ∷ ms) (suc j) m e = boxed_as ms j m e

    by_box : (held : ℕ) (found : Option Mailbox) → slice_get (shares_at b 1 i).boxes n ≡ found
        → ForeignMade b w read (link_for stays n) (steps.read_at server reads stays n held (slice_get (boxes_at b 1 i) n))
    by_box held (Some m) there =
        let boxed = boxed_as (shares_at b 1 i).boxes n m there in
        rw boxed (elim (cases_Bool m.live) [
          | inl live ↦ elim (cases_eq held (expansion.token (key_at b 1 m.lane m.serial) c s)) [
            | inl e ↦ token_made m there boxed live held e
            | inr other ↦ bad_token m held (ne_eqb _ _ other)
          ]
          | inr dead ↦ retired m held dead
        ])
    by_box held None there = let none = no_boxed (shares_at b 1 i).boxes n there in rw none (absent held)
      where
        no_boxed : (ms : List Mailbox) (j : ℕ) → slice_get ms j ≡ None → slice_get (map (λ m. box_at b 1 m) ms) j ≡ None
        no_boxed [] j e = refl
        no_boxed (x ∷ ms) zero e = absurd (cc e)
        no_boxed (x ∷ ms) (suc j) e = no_boxed ms j e

    by_token : (held : Option ℕ) → ForeignMade b w read (link_for stays n) (steps.read server reads stays n held)
    unfolding steps.read
    by_token (Some held) =
        let at : slice_get server.boxes n ≡ slice_get (boxes_at b 1 i) n = ap (λ bs. slice_get bs n) k.follows.helper.boxes in
        subst (λ found. ForeignMade b w read (link_for stays n) (steps.read_at server reads stays n held found)) (sym at)
        (by_box held (slice_get (shares_at b 1 i).boxes n) refl)
    by_token None = refused_made b f w read (link_for stays n) refusal.NoDeposit k tt

    pub read_ordered_made : ForeignMade b w read (link_for stays n) (steps.command server reads (link_for stays n) stage)
    read_ordered_made = subst (ForeignMade b w read (link_for stays n)) (sym (read_command server reads stays n stage)) (by_token (steps.held_token stage))
