-- Each line of a settle is printed as accepted exactly where the write passes.
use Rattle.std.proofs.Common.{◌≡◌, ◌↔◌, ℕ, Bool, true, Some, slice_get, refl, sym, ap, ◌∙◌, subst, inl, inr, arith}
use Rattle.std.proofs.lemmas.Bool.{cases_Bool}
use Rattle.std.proofs.lemmas.Option.{slice_get_within}
use Rattle.express_words.specs.declared.audit.Closing.{Closing}
use Rattle.mailbox_rules.specs.Requests.{Command, Registers, Begins, Audits, Settles, Reads, Retires, Line, Entry, Operation, AddBox, BeginWrite, AuditWrite, SettleWrite, ReadBox, RetireBox, Refuse, operation_of}
use Rattle.mailbox_rules.specs.Tables.{Table, Writes, Result, Registered, Taken, Full, Began, WasAudited, Settled, Gave, NoBox, Refused, box_of, result_of}
use Rattle.token_rules.specs.Tokens.{World}
use Rattle.run_rules.specs.Letters as run
use Rattle.run_rules.specs.Letters.{FrameWorld, JournalLine}
use Rattle.run_rules.specs.Book.{Book, table_at}
use Rattle.run_rules.specs.Values.{accepted_at, sigma_at}
use Rattle.run_rules.specs.Plain.{IsAnswer, IsHistory, IsPlainLine, JournalIsTold, plain_at, plain_of, plain_result, printed_of, read_value}
use Rattle.run_rules.specs.Soundness.{BadWritesAreCaught, PassesThere, SettledAsTheyPass}
use Rattle.run_rules.proofs.PlainOutcomes.{IsOf, reads, registers, retires}
use Rattle.run_rules.proofs.PlainWrites.{IsWrite, settles_write}
use Rattle.run_rules.proofs.SoundChanges.{changes_are_seen}
use Rattle.run_rules.proofs.SoundPasses.{accepted_passes, brought_words, own_words, two_are_caught}
use Rattle.run_rules.proofs.WriteLeaderCounts.{entry_there}
use Rattle.run_rules.proofs.WriteLeaderRanges.{write_is}

-- ---- what a settle's line is of

never_read : (y : Command) (n : ℕ) (accepted : Bool) (closing : Closing) → read_value y n ≡ run.Settled accepted closing → ⊥
never_read Registers n accepted closing e = cc e
never_read Begins n accepted closing e = cc e
never_read Audits n accepted closing e = cc e
never_read Settles n accepted closing e = cc e
never_read Reads n accepted closing e = cc e
never_read Retires n accepted closing e = cc e

settled_is : (b : Book) (x : Line) (r : Result) (accepted : Bool) (closing : Closing) → printed_of b x r ≡ run.Settled accepted closing
    → r ≡ Settled accepted
settled_is b x (Registered n) accepted closing e = absurd (cc e)
settled_is b x (Taken n) accepted closing e = absurd (cc e)
settled_is b x (Full limit) accepted closing e = absurd (cc e)
settled_is b x (Began count) accepted closing e = absurd (cc e)
settled_is b x WasAudited accepted closing e = absurd (cc e)
settled_is b x (Settled told) accepted closing e = let same : told ≡ accepted = cc in ap (λ t. Settled t) same
settled_is b x (Gave n bytes) accepted closing e = absurd (never_read x.command n accepted closing e)
settled_is b x (NoBox n) accepted closing e = absurd (cc e)
settled_is b x Refused accepted closing e = absurd (cc e)

record IsSettle (writes : Writes) (x : Line) (does : Operation) (accepted : Bool) : Type 0 where
  is : does ≡ SettleWrite
  told : writes.accepts x.lane x.serial ≡ accepted

settles : (limit : ℕ) (writes : Writes) (t : Table) (x : Line) (does : Operation) (accepted : Bool)
    → result_of limit writes t x does ≡ Settled accepted → IsSettle writes x does accepted
unfolding result_of
settles limit writes t x (AddBox a) accepted e = absurd (subst (IsOf Registers) e (registers limit t (box_of a t.boxes)))
settles limit writes t x BeginWrite accepted e = absurd (cc e)
settles limit writes t x AuditWrite accepted e = absurd (cc e)
settles limit writes t x SettleWrite accepted e = record { is = refl; told = let same : writes.accepts x.lane x.serial ≡ accepted = cc in same }
settles limit writes t x (ReadBox n) accepted e = absurd (subst (IsOf Reads) e (reads n (slice_get t.boxes n)))
settles limit writes t x (RetireBox n) accepted e = absurd (subst (IsOf Retires) e (retires n (slice_get t.boxes n)))
settles limit writes t x Refuse accepted e = absurd (cc e)

module _ (b : Book) (k : IsHistory b) where
  -- a write that settles is accepted exactly where it passes
  passes : (i : ℕ) (e : Entry) → slice_get b.entries i ≡ Some e → e.does ≡ SettleWrite
      → (accepted_at b e.line.lane e.line.serial ≡ true)
      ↔ PassesThere b e.line.lane e.line.serial (sigma_at b e.line.lane e.line.serial)
  passes i e is does = elim (cases_Bool (b.foreign e.line.lane)) [
    | inl foreign ↦
        accepted_passes b e.line.lane e.line.serial (brought_words b e.line.lane e.line.serial k.sound foreign)
    | inr honest ↦
        let by : IsAnswer b i e = k.answers i e is honest in
        let got = (table_at b i).got e.line.lane in
        let w : IsWrite by.request = settles_write got e.line.command by.request (sym does ∙ by.does ∙ ap (operation_of got e.line.command) by.is) in
        accepted_passes b e.line.lane e.line.serial
        (own_words b e.line.lane e.line.serial
        (write_is b e.line.lane e.line.serial w.target w.message k.sound honest (by.is ∙ ap (λ r. Some r) w.is)))
  ]

  pub bad_writes_are_caught : (f : FrameWorld) (w : World) → BadWritesAreCaught b f w
  bad_writes_are_caught f w = record {
    seen = λ i e is foreign does differ. (changes_are_seen b k i e is foreign does differ).1;
    changed = λ i e is foreign does differ.
        let seen = changes_are_seen b k i e is foreign does differ in
        ((passes i e is does).0 seen.0, two_are_caught b e.line.lane e.line.serial k.sound foreign seen.1);
    caught = λ c s foreign two. two_are_caught b c s k.sound foreign two;
  }

  line_passes : (i : ℕ) (e : Entry) (line : JournalLine) (accepted : Bool) (closing : Closing) → slice_get b.entries i ≡ Some e
      → IsPlainLine b i e line → line.value ≡ run.Settled accepted closing
      → (accepted ≡ true) ↔ PassesThere b line.lane line.serial (sigma_at b line.lane line.serial)
  unfolding plain_result
  line_passes i e line accepted closing is plain value =
      let result : plain_result b i e ≡ Settled accepted =
      settled_is b e.line (plain_result b i e) accepted closing (sym (ap (λ (l : JournalLine). l.value) plain) ∙ value) in
      let settle = settles b.settings.boxes (plain_of b) (plain_at b i) e.line e.does accepted result in
      let passes_here : (accepted ≡ true) ↔ PassesThere b e.line.lane e.line.serial (sigma_at b e.line.lane e.line.serial) =
      subst (λ v. (v ≡ true) ↔ PassesThere b e.line.lane e.line.serial (sigma_at b e.line.lane e.line.serial)) settle.told (passes i e is settle.is) in
      subst (λ (l : JournalLine). (accepted ≡ true) ↔ PassesThere b l.lane l.serial (sigma_at b l.lane l.serial)) (sym plain) passes_here

  pub settled_as_they_pass : (f : FrameWorld) (w : World) → JournalIsTold b f w → SettledAsTheyPass b f w
  settled_as_they_pass f w told i line accepted closing at value =
      let inside = slice_get_within f.journal i line at in
      let count = told.count in
      let entry = entry_there b.entries i (omega (arith, inside, count)) in
      let tells = told.lines i entry.0 entry.1 in
      let same : tells.0 ≡ line = some_same tells.0 line (sym tells.1 ∙ at) in
      elim (tells.2) [
        | inl plain ↦ line_passes i entry.0 line accepted closing entry.1 (sym same ∙ plain) value
        | inr refused ↦ absurd (cc (ap (λ (l : JournalLine). l.value) (sym same ∙ refused.is), value))
      ]
    where
      some_same : (x y : JournalLine) → Some x ≡ Some y → x ≡ y
      some_same x y e = cc
