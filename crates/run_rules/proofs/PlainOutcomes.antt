-- What is told and printed of a client's command is the plain table's result.
use Rattle.std.proofs.Common.{◌≡◌, ℕ, true, false, nat_le, List, [], ◌∷◌, length, map, Option, Some, None, slice_get, refl, sym, ap, ◌∙◌, subst}
use Rattle.std.proofs.lemmas.Bool.{cond_both}
use Rattle.std.specs.Option.{option_map}
use Rattle.std.proofs.lemmas.Option.{slice_get-map}
use Rattle.mailbox_rules.specs.Requests.{Request, Register, Write, Read, Retire, Command, Registers, Begins, Audits, Settles, Reads, Retires, Line, Entry, Operation, AddBox, BeginWrite, AuditWrite, SettleWrite, ReadBox, RetireBox, Refuse, operation_of, reads_box, retires_box}
use Rattle.mailbox_rules.specs.Tables.{Mailbox, Table, Writes, Result, Registered, Taken, Full, Began, WasAudited, Settled, Gave, NoBox, Refused, box_of, given, register_result, result_of, result_outline, result_sum, results_after}
use Rattle.mailbox_rules.specs.Laws.{AtSettle, AtSettles}
use Rattle.mailbox_rules.proofs.Folds.{results_stand}
use Rattle.mailbox_rules.proofs.Outlines.{result_outlines_agree}
use Rattle.token_rules.specs.Run.{line_of}
use Rattle.step_rules.specs.Client.{Outcome}
use Rattle.run_rules.specs.Run.{value_of}
use Rattle.run_rules.specs.Book as book
use Rattle.run_rules.specs.Book.{Book, table_at}
use Rattle.run_rules.specs.Values.{shares_at, writes_at}
use Rattle.run_rules.specs.Frames.{answer_with, command_body, reply_with}
use Rattle.run_rules.specs.Follows.{given_in, says}
use Rattle.run_rules.specs.Plain.{outcome_of, printed_of, shared_result}

-- ---- both servers' results differ in the bytes alone

all_settles : (P : ℕ → ℕ → Type 0) → ((c s : ℕ) → P c s) → (entries : List Entry) → AtSettles P entries
all_settles P h [] = tt
all_settles P h (e ∷ entries) = (by_what e.does, all_settles P h entries)
  where
    by_what : (does : Operation) → AtSettle P e.line does
    by_what (AddBox a) = tt
    by_what BeginWrite = tt
    by_what AuditWrite = tt
    by_what SettleWrite = h e.line.lane e.line.serial
    by_what (ReadBox n) = tt
    by_what (RetireBox n) = tt
    by_what Refuse = tt

module _ (b : Book) (i : ℕ) (e : Entry) (is : slice_get b.entries i ≡ Some e) where
  abbrev results : ℕ → List Result
  results server = results_after b.settings.boxes b.settings.width (writes_at b server) b.entries

  outline_is : (server : ℕ) → slice_get (map (λ r. result_outline r) (results server)) i
      ≡ Some (result_outline (shared_result b server i e))
  unfolding shared_result shares_at
  outline_is server =
      slice_get-map (λ r. result_outline r) (results server) i
      ∙ ap (option_map (λ r. result_outline r)) (results_stand b.settings.boxes b.settings.width (writes_at b server) b.entries i e is)

  pub outlines_agree : result_outline (shared_result b 0 i e) ≡ result_outline (shared_result b 1 i e)
  outlines_agree =
      let same = result_outlines_agree b.settings.boxes b.settings.width b.settings.width (writes_at b 1) (writes_at b 0) b.entries
      (all_settles _ (λ c s. refl) b.entries) in
      cc (outline_is 0, outline_is 1, ap (λ rs. slice_get rs i) same)

-- a result but a read's is its outline
abbrev pub NotGave : Result → Type 0
NotGave (Gave n bytes) = ⊥
NotGave r = Unit {0}

pub not_gave : (r s : Result) → result_outline r ≡ s → NotGave s → r ≡ s
not_gave (Gave n bytes) s e h = absurd (subst NotGave (sym e) h)
not_gave (Registered n) s e h = e
not_gave (Taken n) s e h = e
not_gave (Full n) s e h = e
not_gave (Began n) s e h = e
not_gave WasAudited s e h = e
not_gave (Settled t) s e h = e
not_gave (NoBox n) s e h = e
not_gave Refused s e h = e

-- a read's outline is that of a read of the same box
pub record IsGave (n : ℕ) (r : Result) : Type 0 where
  pub bytes : List ℕ
  pub is : r ≡ Gave n bytes

pub gave : (n : ℕ) (r : Result) → result_outline r ≡ Gave n [] → IsGave n r
gave n (Gave m bytes) e = record { bytes = bytes; is = let same : m ≡ n = cc in ap (λ m. Gave m bytes) same }
gave n (Registered m) e = absurd (cc e)
gave n (Taken m) e = absurd (cc e)
gave n (Full m) e = absurd (cc e)
gave n (Began m) e = absurd (cc e)
gave n WasAudited e = absurd (cc e)
gave n (Settled t) e = absurd (cc e)
gave n (NoBox m) e = absurd (cc e)
gave n Refused e = absurd (cc e)

-- ---- which results a command can have

abbrev pub IsOf : Command → Result → Type 0
IsOf Registers (Registered n) = Unit {0}
IsOf Registers (Taken n) = Unit {0}
IsOf Registers (Full n) = Unit {0}
IsOf Begins (Began n) = Unit {0}
IsOf Audits WasAudited = Unit {0}
IsOf Settles (Settled t) = Unit {0}
IsOf Reads (Gave n bytes) = Unit {0}
IsOf Reads (NoBox n) = Unit {0}
IsOf Retires (Gave n bytes) = Unit {0}
IsOf Retires (NoBox n) = Unit {0}
IsOf command result = ⊥

pub registers : (limit : ℕ) (t : Table) (o : Option ℕ) → IsOf Registers (register_result limit t o)
registers limit t (Some n) = tt
registers limit t None = cond_both {A = Result} (nat_le limit (length t.boxes)) _ _ (IsOf Registers) (λ e. tt) (λ e. tt)

pub reads : (n : ℕ) (o : Option Mailbox) → IsOf Reads (given n o)
reads n None = tt
reads n (Some box) = cond_both {A = Result} box.live _ _ (IsOf Reads) (λ e. tt) (λ e. tt)

pub retires : (n : ℕ) (o : Option Mailbox) → IsOf Retires (given n o)
retires n None = tt
retires n (Some box) = cond_both {A = Result} box.live _ _ (IsOf Retires) (λ e. tt) (λ e. tt)

module _ (limit : ℕ) (writes : Writes) (t : Table) (x : Line) (got : List ℕ) where
  abbrev Comes : Command → Operation → Type 0
  Comes command does = (does ≡ Refuse → ⊥) → IsOf command (result_of limit writes t x does)

  if_reads : (o : Option ℕ) → Comes Reads (reads_box o)
  unfolding result_of
  if_reads (Some n) h = reads n (slice_get t.boxes n)
  if_reads None h = absurd (h refl)

  if_retires : (o : Option ℕ) → Comes Retires (retires_box o)
  unfolding result_of
  if_retires (Some n) h = retires n (slice_get t.boxes n)
  if_retires None h = absurd (h refl)

  pub comes_to : (command : Command) (request : Request) → Comes command (operation_of got command (Some request))
  unfolding result_of
  comes_to Registers (Register a) h = registers limit t (box_of a t.boxes)
  comes_to Begins (Write target message) h = tt
  comes_to Audits (Write target message) h = tt
  comes_to Settles (Write target message) h = tt
  comes_to Reads (Read own) h = if_reads (slice_get got own) h
  comes_to Retires (Retire own) h = if_retires (slice_get got own) h
  comes_to command request h = absurd (h refl)

-- ---- what is told

pub tells : (b : Book) (i : ℕ) (x : Line) (y : Command) (r0 r1 : Result) → IsOf y r1 → (y ≡ Begins → ⊥) → (y ≡ Audits → ⊥)
    → result_outline r0 ≡ result_outline r1 → (o : Outcome)
    → says (answer_with b i x r0 r1) (given_in (result_sum r0 r1)) ≡ Some o → outcome_of b x (result_sum r0 r1) ≡ Some o
unfolding answer_with
tells b i x Registers r0 (Registered n) k m a same o e = rw (not_gave r0 (Registered n) same tt) e
tells b i x Registers r0 (Taken n) k m a same o e = rw (not_gave r0 (Taken n) same tt) e
tells b i x Registers r0 (Full n) k m a same o e = rw (not_gave r0 (Full n) same tt) e
tells b i x Settles r0 (Settled true) k m a same o e = rw (not_gave r0 (Settled true) same tt) e
tells b i x Settles r0 (Settled false) k m a same o e = rw (not_gave r0 (Settled false) same tt) e
tells b i x Reads r0 (Gave n bytes) k m a same o e =
    let g = gave n r0 same in
    rw g.is (rw g.is at e)
tells b i x Reads r0 (NoBox n) k m a same o e = rw (not_gave r0 (NoBox n) same tt) e
tells b i x Retires r0 (Gave n bytes) k m a same o e =
    let g = gave n r0 same in
    rw g.is (rw g.is at e)
tells b i x Retires r0 (NoBox n) k m a same o e = rw (not_gave r0 (NoBox n) same tt) e
tells b i x Begins r0 r1 k m a same o e = absurd (m refl)
tells b i x Audits r0 r1 k m a same o e = absurd (a refl)
tells b i x y r0 r1 k m a same o e = absurd k

-- ---- what is printed

-- where a read names the box that it gave
abbrev pub NamesSo : Book → ℕ → ℕ → Result → Type 0
NamesSo b c s (Gave n bytes) = book.box_of b c s ≡ n
NamesSo b c s r = Unit {0}

pub prints : (b : Book) (i c s : ℕ) (y : Command) (r0 r1 : Result) → IsOf y r1 → NamesSo b c s r1
    → result_outline r0 ≡ result_outline r1
    → let x = line_of c s y in value_of (command_body b i x y) (reply_with b i x r1) ≡ printed_of b x (result_sum r0 r1)
unfolding value_of command_body reply_with
prints b i c s Registers r0 (Registered n) k names same = rw (not_gave r0 (Registered n) same tt) refl
prints b i c s Registers r0 (Taken n) k names same = rw (not_gave r0 (Taken n) same tt) refl
prints b i c s Registers r0 (Full n) k names same = rw (not_gave r0 (Full n) same tt) refl
prints b i c s Begins r0 (Began n) k names same = rw (not_gave r0 (Began n) same tt) refl
prints b i c s Audits r0 WasAudited k names same = rw (not_gave r0 WasAudited same tt) refl
prints b i c s Settles r0 (Settled true) k names same = rw (not_gave r0 (Settled true) same tt) refl
prints b i c s Settles r0 (Settled false) k names same = rw (not_gave r0 (Settled false) same tt) refl
prints b i c s Reads r0 (Gave n bytes) k names same = let g = gave n r0 same in rw (g.is, names) refl
prints b i c s Reads r0 (NoBox n) k names same = rw (not_gave r0 (NoBox n) same tt) refl
prints b i c s Retires r0 (Gave n bytes) k names same = let g = gave n r0 same in rw (g.is, names) refl
prints b i c s Retires r0 (NoBox n) k names same = rw (not_gave r0 (NoBox n) same tt) refl
prints b i c s y r0 r1 k names same = absurd k
