-- The entries and printed lines of foreign lanes: each does what its frames brought, with the plain table's result, or
-- nothing.
use Rattle.std.proofs.Common.{◌≡◌, ◌⊎◌, ℕ, true, false, Option, Some, None, slice_get, refl, sym, ap, ap₂, ◌∙◌, subst, inl, inr}
use Rattle.std.proofs.lemmas.Bool.{cond_both}
use Rattle.express_words.specs.declared.refusal.Refusal.{Refusal}
use Rattle.frame_rules.specs.Frames as frame
use Rattle.frame_rules.specs.Frames.{PlainBody}
use Rattle.mailbox_rules.specs.Requests.{Command, Registers, Begins, Audits, Settles, Reads, Retires, Line, Entry, entry, Operation, Refuse}
use Rattle.mailbox_rules.specs.Tables.{Mailbox, Table, Writes, Result, Registered, Taken, Full, Began, WasAudited, Settled, Gave, NoBox, box_of, given, result_of, result_outline, result_sum}
use Rattle.token_rules.specs.Run.{line_of}
use Rattle.run_rules.specs.Letters as run
use Rattle.run_rules.specs.Letters.{JournalLine, Value}
use Rattle.run_rules.specs.Run.{value_of}
use Rattle.run_rules.specs.Book.{Book, Brought, leaders_draw}
use Rattle.run_rules.specs.Values.{closing_at, opened_at, part_at, shares_at, sigma_at, writes_at}
use Rattle.run_rules.specs.Frames.{reply_with}
use Rattle.run_rules.specs.Follows.{ForeignOrder, HelperAnswers, IsForeignLine, brought_does, does_by}
use Rattle.run_rules.specs.Plain.{IsHistory, IsPlainLine, IsRefusedLine, IsStrange, plain_result, printed_of, shared_result}
use Rattle.run_rules.proofs.PlainTables.{results_are_plain}
use Rattle.run_rules.proofs.PlainOutcomes.{IsOf, gave, not_gave, outlines_agree, reads, registers, retires}

-- ---- the command of an entry

abbrev brought_order : Book → ℕ → ℕ → ℕ → Command → PlainBody
brought_order b i c s Registers = frame.LinkRegister (b.brought.address c s)
brought_order b i c s Begins = frame.LinkBegin (leaders_draw b i) (part_at b c s)
brought_order b i c s Audits = frame.LinkAudit (sigma_at b c s) (opened_at b 0 c s)
brought_order b i c s Settles = frame.LinkSettle (closing_at b 0 c s)
brought_order b i c s Reads = frame.LinkRead (b.brought.number c s)
brought_order b i c s Retires = frame.LinkRetire (b.brought.number c s)

order_is : (b : Book) (i : ℕ) (x : Line) (body : PlainBody) → ForeignOrder b i x body
    → body ≡ brought_order b i x.lane x.serial x.command
order_is b i x (frame.LinkRegister address) h =
    ap frame.LinkRegister h.1 ∙ ap (brought_order b i x.lane x.serial) (sym h.0)
order_is b i x (frame.LinkBegin draw part) h =
    ap₂ frame.LinkBegin h.1 h.2 ∙ ap (brought_order b i x.lane x.serial) (sym h.0)
order_is b i x (frame.LinkAudit sigma opened) h =
    ap₂ frame.LinkAudit h.1 h.2 ∙ ap (brought_order b i x.lane x.serial) (sym h.0)
order_is b i x (frame.LinkSettle closing) h =
    ap frame.LinkSettle h.1 ∙ ap (brought_order b i x.lane x.serial) (sym h.0)
order_is b i x (frame.LinkRead n) h = ap frame.LinkRead h.1 ∙ ap (brought_order b i x.lane x.serial) (sym h.0)
order_is b i x (frame.LinkRetire n) h = ap frame.LinkRetire h.1 ∙ ap (brought_order b i x.lane x.serial) (sym h.0)
order_is b i x body h = absurd h

-- ---- its result

brought_of : (limit : ℕ) (writes : Writes) (t : Table) (x : Line) (b : Brought) (c s : ℕ) (y : Command)
    → IsOf y (result_of limit writes t x (does_by b c s y))
unfolding result_of
brought_of limit writes t x b c s Registers = registers limit t (box_of (b.address c s) t.boxes)
brought_of limit writes t x b c s Begins = tt
brought_of limit writes t x b c s Audits = tt
brought_of limit writes t x b c s Settles = tt
brought_of limit writes t x b c s Reads = reads (b.number c s) (slice_get t.boxes (b.number c s))
brought_of limit writes t x b c s Retires = retires (b.number c s) (slice_get t.boxes (b.number c s))

-- a box that gave its bytes is that one
abbrev NamesBox : ℕ → Result → Type 0
NamesBox m (Gave n bytes) = m ≡ n
NamesBox m r = Unit {0}

given_names : (n : ℕ) (o : Option Mailbox) → NamesBox n (given n o)
given_names n None = tt
given_names n (Some box) = cond_both {A = Result} box.live _ _ (NamesBox n) (λ e. refl) (λ e. tt)

registers_none : (m limit : ℕ) (t : Table) (o : Option ℕ) (r : Result) → IsOf Registers r → NamesBox m r
registers_none m limit t o (Registered n) h = tt
registers_none m limit t o (Taken n) h = tt
registers_none m limit t o (Full n) h = tt
registers_none m limit t o r h = absurd h

brought_names : (limit : ℕ) (writes : Writes) (t : Table) (x : Line) (b : Brought) (c s : ℕ) (y : Command)
    → NamesBox (b.number c s) (result_of limit writes t x (does_by b c s y))
unfolding result_of
brought_names limit writes t x b c s Registers =
    registers_none (b.number c s) limit t (box_of (b.address c s) t.boxes) _ (registers limit t (box_of (b.address c s) t.boxes))
brought_names limit writes t x b c s Begins = tt
brought_names limit writes t x b c s Audits = tt
brought_names limit writes t x b c s Settles = tt
brought_names limit writes t x b c s Reads = given_names (b.number c s) (slice_get t.boxes (b.number c s))
brought_names limit writes t x b c s Retires = given_names (b.number c s) (slice_get t.boxes (b.number c s))

-- ---- what is printed

strange_prints : (b : Book) (i c s : ℕ) (y : Command) (r0 r1 : Result) → IsOf y r1 → NamesBox (b.brought.number c s) r1
    → result_outline r0 ≡ result_outline r1
    → value_of (brought_order b i c s y) (reply_with b i (line_of c s y) r1) ≡ printed_of b (line_of c s y) (result_sum r0 r1)
unfolding value_of reply_with
strange_prints b i c s Registers r0 (Registered n) k names same = rw (not_gave r0 (Registered n) same tt) refl
strange_prints b i c s Registers r0 (Taken n) k names same = rw (not_gave r0 (Taken n) same tt) refl
strange_prints b i c s Registers r0 (Full n) k names same = rw (not_gave r0 (Full n) same tt) refl
strange_prints b i c s Begins r0 (Began n) k names same = rw (not_gave r0 (Began n) same tt) refl
strange_prints b i c s Audits r0 WasAudited k names same = rw (not_gave r0 WasAudited same tt) refl
strange_prints b i c s Settles r0 (Settled true) k names same = rw (not_gave r0 (Settled true) same tt) refl
strange_prints b i c s Settles r0 (Settled false) k names same = rw (not_gave r0 (Settled false) same tt) refl
strange_prints b i c s Reads r0 (Gave n bytes) k names same = let g = gave n r0 same in rw (g.is, names) refl
strange_prints b i c s Reads r0 (NoBox n) k names same = rw (not_gave r0 (NoBox n) same tt) refl
strange_prints b i c s Retires r0 (Gave n bytes) k names same = let g = gave n r0 same in rw (g.is, names) refl
strange_prints b i c s Retires r0 (NoBox n) k names same = rw (not_gave r0 (NoBox n) same tt) refl
strange_prints b i c s y r0 r1 k names same = absurd k

refused_prints : (b : Book) (i c s : ℕ) (y : Command) (r : Refusal)
    → value_of (brought_order b i c s y) (frame.LinkReply (frame.ReplyRefused r)) ≡ run.Refused y r
unfolding value_of
refused_prints b i c s Registers r = refl
refused_prints b i c s Begins r = refl
refused_prints b i c s Audits r = refl
refused_prints b i c s Settles r = refl
refused_prints b i c s Reads r = refl
refused_prints b i c s Retires r = refl

-- ---- the line of an entry

-- the entry does what the line tells
same_does : (b : Book) (i : ℕ) (e : Entry) (does : Operation) → slice_get b.entries i ≡ Some e
    → slice_get b.entries i ≡ Some (entry e.line does) → e.does ≡ does
same_does b i e does is entered = ap (λ (x : Entry). x.does) (some_same e (entry e.line does) (sym is ∙ entered))
  where
    some_same : (x y : Entry) → Some x ≡ Some y → x ≡ y
    some_same x y e = cc

pub is_strange : (b : Book) (i : ℕ) (e : Entry) (line : JournalLine) → slice_get b.entries i ≡ Some e
    → IsForeignLine b i e line → IsStrange b i e
is_strange b i e line is h =
    let does = same_does b i e h.replied.does is h.replied.entered in
    record {
      does = elim (h.replied.answers) [ inl refused ↦ inl (does ∙ refused.0) | inr brought ↦ inr (does ∙ brought.0) ];
      begun = h.begun;
    }

abbrev line_with : ℕ → ℕ → Value → JournalLine
line_with lane serial value = record { lane = lane; serial = serial; value = value }

line_made : (line : JournalLine) (lane serial : ℕ) (value : Value) → line.lane ≡ lane → line.serial ≡ serial
    → line.value ≡ value → line ≡ line_with lane serial value
line_made line lane serial value p q r =
    ap (λ n. line_with n line.serial line.value) p ∙ ap (λ n. line_with lane n line.value) q ∙ ap (line_with lane serial) r

module _ (b : Book) (k : IsHistory b) (i : ℕ) (e : Entry) (line : JournalLine) (is : slice_get b.entries i ≡ Some e)
    (foreign : b.foreign e.line.lane ≡ true) (h : IsForeignLine b i e line) where
  abbrev c : ℕ
  c = e.line.lane

  abbrev s : ℕ
  s = e.line.serial

  abbrev y : Command
  y = e.line.command

  prints_it : line.value ≡ value_of (brought_order b i c s y) h.reply
  prints_it = h.value ∙ ap (λ body. value_of body h.reply) (order_is b i e.line h.command h.ordered)

  refused_line : h.replied.does ≡ Refuse → (r : Refusal) → h.reply ≡ frame.LinkReply (frame.ReplyRefused r) → IsRefusedLine b i e line
  refused_line none r body = record {
    foreign = foreign;
    nothing = same_does b i e h.replied.does is h.replied.entered ∙ none;
    command = h.command;
    ordered = h.ordered;
    refusal = r;
    answers = subst (HelperAnswers b i e.line h.command) body h.answers;
    is =
        line_made line c s (run.Refused y r) h.lane h.serial
        (prints_it ∙ ap (value_of (brought_order b i c s y)) body ∙ refused_prints b i c s y r);
  }

  result_is : h.replied.does ≡ brought_does b e.line
      → shared_result b 1 i e ≡ result_of b.settings.boxes (writes_at b 1) (shares_at b 1 i) e.line (does_by b.brought c s y)
  unfolding shared_result
  result_is does =
      ap (result_of b.settings.boxes (writes_at b 1) (shares_at b 1 i) e.line) (same_does b i e h.replied.does is h.replied.entered ∙ does)

  plain_line : h.replied.does ≡ brought_does b e.line
      → h.reply ≡ reply_with b i e.line (result_of b.settings.boxes (writes_at b 1) (shares_at b 1 i) e.line h.replied.does) → IsPlainLine b i e line
  plain_line does body =
      let r1 = result_of b.settings.boxes (writes_at b 1) (shares_at b 1 i) e.line (does_by b.brought c s y) in
      let result = result_is does in
      let kind : IsOf y (shared_result b 1 i e) = subst (IsOf y) (sym result) (brought_of b.settings.boxes (writes_at b 1) (shares_at b 1 i) e.line b.brought c s y) in
      let names : NamesBox (b.brought.number c s) (shared_result b 1 i e) =
      subst (NamesBox (b.brought.number c s)) (sym result) (brought_names b.settings.boxes (writes_at b 1) (shares_at b 1 i) e.line b.brought c s y) in
      let reply : h.reply ≡ reply_with b i e.line (shared_result b 1 i e) =
      body ∙ ap (λ d. reply_with b i e.line (result_of b.settings.boxes (writes_at b 1) (shares_at b 1 i) e.line d)) does ∙ ap (reply_with b i e.line) (sym result) in
      line_made line c s (printed_of b e.line (plain_result b i e)) h.lane h.serial
      (prints_it
      ∙ ap (value_of (brought_order b i c s y)) reply
      ∙ strange_prints b i c s y (shared_result b 0 i e) (shared_result b 1 i e) kind names (outlines_agree b i e is)
      ∙ ap (printed_of b e.line) (results_are_plain b k i e is))

  pub strange_line : IsPlainLine b i e line ⊎ IsRefusedLine b i e line
  strange_line = elim (h.replied.answers) [
    | inl refused ↦ inr (refused_line refused.0 refused.1.0 refused.1.1)
    | inr brought ↦ inl (plain_line brought.0 brought.1)
  ]
