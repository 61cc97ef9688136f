-- At the end of a schedule of clients each outcome and each printed line is that of the plain table.
use Rattle.std.proofs.Common.{◌≡◌, ◌<◌, ◌+◌, ◌-◌, ℕ, zero, suc, Bool, true, false, cond, List, [], ◌∷◌, length, take, Contains, Option, Some, None, slice_get, refl, sym, ap, ap₂, ◌∙◌, ◌⊎◌, subst, inl, inr, arith}
use Rattle.std.proofs.lemmas.Bool.{cases_Bool}
use Rattle.std.specs.Option.{option_map}
use Rattle.express_words.specs.declared.refusal.Refusal.{Refusal}
use Rattle.express_words.specs.declared.refusal.Refusal.TheVariants as refusal
use Rattle.std.proofs.lemmas.Option.{slice_get-map, slice_get_cases, slice_get_within}
use Rattle.mailbox_rules.specs.Requests.{Request, Register, Write, Read, Retire, Command, Registers, Begins, Audits, Settles, Reads, Retires, Line, Entry, SettleWrite, RetireBox, Refuse, lines_of, opening_of, opens_with, operation_of, reads_box, retires_box}
use Rattle.mailbox_rules.specs.Tables.{Mailbox, Result, Registered, Taken, Full, Began, WasAudited, Settled, Gave, NoBox, Refused, given, result_of, result_outline, result_sum, no_writes, table_after}
use Rattle.mailbox_rules.specs.Laws.{Did}
use Rattle.token_rules.specs.Tokens as token
use Rattle.token_rules.specs.Tokens.{World}
use Rattle.token_rules.specs.Run.{line_of}
use Rattle.token_rules.specs.Laws as laws
use Rattle.token_rules.specs.Laws.{HasLine, HasLines, IsJournaled, last_of, turn}
use Rattle.token_rules.specs.Invariant.{Backed, state}
use Rattle.token_rules.specs.Stages.{IsOpening}
use Rattle.token_rules.proofs.Lists.{get_taken}
use Rattle.step_rules.specs.Client as client
use Rattle.step_rules.specs.Client.{Outcome}
use Rattle.run_rules.specs.Letters as run
use Rattle.run_rules.specs.Letters.{Ended, FrameWorld, JournalLine, NoOwnBox, Told, Value}
use Rattle.run_rules.specs.Book as book
use Rattle.run_rules.specs.Book.{Book, all_boxes, place, request_of, table_at}
use Rattle.run_rules.specs.Values.{accepted_at, boxes_at, counted_at, shares_at, writes_at}
use Rattle.run_rules.proofs.ReadCommands.{journal_count}
use Rattle.run_rules.specs.Frames.{answer_at, answer_with, last_at, last_in, line_value, result_at}
use Rattle.run_rules.specs.Follows.{AreOutcomes, Follows, IsLineOf, IsOutcome, Journals, Sound, TellsSame, Within, given_in, message_told, says}
use Rattle.run_rules.specs.Known.{IsWhole}
use Rattle.run_rules.specs.Plain.{IsAnswer, IsAnswered, IsClients, IsDue, IsHistory, IsPlainLine, IsRefusedLine, IsToldPlain, IsOfTable, BoxesArePlain, ClientsAreReady, JournalIsPlain, JournalIsTold, OutcomesArePlain, SharesAreFolds, outcome_of, plain_at, plain_of, plain_result, printed_of, read_value, shared_result}
use Rattle.run_rules.proofs.Places.{place_is}
use Rattle.run_rules.proofs.ReadBasics.{asks, holds_box}
use Rattle.run_rules.proofs.PlainTables.{results_are_plain, shares_are_plain}
use Rattle.run_rules.proofs.PlainRegistered.{registered_accepted}
use Rattle.run_rules.proofs.PlainBoxes.{owned_then}
use Rattle.run_rules.proofs.PlainRefusals.{due, no_box}
use Rattle.run_rules.proofs.PlainOutcomes.{IsOf, NamesSo, comes_to, outlines_agree, prints, tells}
use Rattle.run_rules.proofs.PlainStrangers.{strange_line}

-- ---- the entries of clients answer requests

module _ (b : Book) (v : World) (whole : IsWhole b v) where
  abbrev Honest : ℕ → Type 0
  Honest c = b.foreign c ≡ false

  hon : (c : ℕ) → Honest c → v.foreign c ≡ false
  hon c honest = ap (λ f. f c) whole.foreign ∙ honest

  pub entry_there : (i : ℕ) (e : Entry) → slice_get b.entries i ≡ Some e → slice_get v.journal i ≡ Some e
  entry_there i e is = ap (λ es. slice_get es i) whole.journal ∙ is

  tables_same : (i : ℕ) → laws.table_at v i ≡ table_at b i
  tables_same i =
      ap (λ limit. table_after limit v.width no_writes (take i v.journal)) whole.limit
      ∙ ap (λ width. table_after b.settings.boxes width no_writes (take i v.journal)) whole.width
      ∙ ap (λ es. table_after b.settings.boxes b.settings.width no_writes (take i es)) whole.journal

  -- the request that an entry answers
  pub record Answers (i : ℕ) (e : Entry) : Type 0 where
    pub request : Request
    pub asked : request_of b e.line.lane e.line.serial ≡ Some request
    pub opens : opens_with e.line.command ≡ opening_of request
    pub does : e.does ≡ operation_of ((table_at b i).got e.line.lane) e.line.command (Some request)
    pub done : e.does ≡ Refuse → ⊥

  pub answers : (i : ℕ) (e : Entry) → slice_get b.entries i ≡ Some e → Honest e.line.lane → Answers i e
  answers i e is honest =
      let by = whole.lawful.operations i e (entry_there i e is) (hon e.line.lane honest) in
      record {
        request = by.sent.request;
        asked = ap (λ rs. slice_get rs (e.line.serial - 1)) (sym (whole.sent e.line.lane)) ∙ by.sent.is;
        opens = by.sent.opens;
        does = by.does ∙ ap (λ t. operation_of (t.got e.line.lane) e.line.command (Some by.sent.request)) (tables_same i);
        done = by.done;
      }

  pub is_answer : (i : ℕ) (e : Entry) → slice_get b.entries i ≡ Some e → Honest e.line.lane → IsAnswer b i e
  is_answer i e is honest =
      let a = answers i e is honest in
      record {
        request = a.request;
        is = a.asked;
        opens = a.opens;
        does = a.does ∙ ap (operation_of ((table_at b i).got e.line.lane) e.line.command) (sym a.asked);
        done = a.done;
      }

  -- where each lane is a client's the history is one of clients
  pub clients : Sound b → ((c : ℕ) → Honest c) → IsClients b
  clients sound honest = record { sound = sound; lanes = honest; answers = λ i e is. is_answer i e is (honest e.line.lane) }

  -- ---- an entry's results

  -- they are what its request asks for
  shared_is : (server i : ℕ) (e : Entry) → slice_get b.entries i ≡ Some e → Honest e.line.lane
      → result_at b server i e.line ≡ shared_result b server i e
  unfolding result_at shared_result
  shared_is server i e is honest =
      ap (result_of b.settings.boxes (writes_at b server) (shares_at b server i) e.line) (sym (is_answer i e is honest).does)

  alike : (i : ℕ) (e : Entry) → slice_get b.entries i ≡ Some e → Honest e.line.lane
      → result_outline (result_at b 0 i e.line) ≡ result_outline (result_at b 1 i e.line)
  alike i e is honest =
      ap (λ r. result_outline r) (shared_is 0 i e is honest) ∙ outlines_agree b i e is ∙ ap (λ r. result_outline r) (sym (shared_is 1 i e is honest))

  is_of : (i : ℕ) (e : Entry) → slice_get b.entries i ≡ Some e → Honest e.line.lane
      → IsOf e.line.command (result_at b 1 i e.line)
  unfolding result_at
  is_of i e is honest =
      let a = answers i e is honest in
      let got = (table_at b i).got e.line.lane in
      let t = shares_at b 1 i in
      subst (λ (r : Option Request). IsOf e.line.command (result_of b.settings.boxes (writes_at b 1) t e.line (operation_of got e.line.command r))) (sym a.asked)
      (comes_to b.settings.boxes (writes_at b 1) t e.line got e.line.command a.request (λ refuse. a.done (a.does ∙ refuse)))

  -- ---- outcomes

  opening_again : (y : Command) → IsOpening y → opens_with (last_of y) ≡ y
  opening_again Begins h = refl
  opening_again Registers h = refl
  opening_again Reads h = refl
  opening_again Retires h = refl
  opening_again Audits h = absurd h
  opening_again Settles h = absurd h

  not_begin : (y : Command) → last_of y ≡ Begins → ⊥
  not_begin Begins e = cc e
  not_begin Registers e = cc e
  not_begin Reads e = cc e
  not_begin Retires e = cc e
  not_begin Audits e = cc e
  not_begin Settles e = cc e

  not_audit : (y : Command) → IsOpening y → last_of y ≡ Audits → ⊥
  not_audit Begins h e = cc e
  not_audit Registers h e = cc e
  not_audit Reads h e = cc e
  not_audit Retires h e = cc e
  not_audit Audits h e = h
  not_audit Settles h e = cc e

  last_there : (lines : List Line) (c s : ℕ) (y : Command) → HasLines lines c s y → HasLine lines (line_of c s (last_of y))
  last_there lines c s Begins h = h.2
  last_there lines c s Registers h = h
  last_there lines c s Audits h = h
  last_there lines c s Settles h = h
  last_there lines c s Reads h = h
  last_there lines c s Retires h = h

  -- the entry of a line
  record EntryOf (i : ℕ) (x : Line) : Type 0 where
    pub entry : Entry
    pub is : slice_get b.entries i ≡ Some entry
    pub line : entry.line ≡ x

  entry_of : (i : ℕ) (x : Line) → slice_get (lines_of v.journal) i ≡ Some x → EntryOf i x
  entry_of i x h = at_place (slice_get v.journal i) refl (sym (slice_get-map (λ (e : Entry). e.line) v.journal i) ∙ h)
    where
      at_place : (o : Option Entry) → slice_get v.journal i ≡ o → option_map (λ (e : Entry). e.line) o ≡ Some x → EntryOf i x
      at_place (Some e) is line =
          record { entry = e; is = ap (λ es. slice_get es i) (sym whole.journal) ∙ is; line = cc line }
      at_place None is line = absurd (cc line)

  answer_is : (c s i : ℕ) (y : Command) → last_at b c s ≡ y → place b c s y ≡ i
      → answer_at b c s ≡ answer_with b i (line_of c s y) (result_at b 0 i (line_of c s y)) (result_at b 1 i (line_of c s y))
  unfolding answer_at
  answer_is c s i y last at = rw (last, at) refl

  message_is : (c s i : ℕ) (y : Command) → last_at b c s ≡ y → place b c s y ≡ i
      → message_told b c s ≡ given_in (result_sum (result_at b 0 i (line_of c s y)) (result_at b 1 i (line_of c s y)))
  message_is c s i y last at = rw (last, at) refl

  -- the result at the plain table is the sum of both servers' results
  sum_is : IsHistory b → (i : ℕ) (e : Entry) → slice_get b.entries i ≡ Some e → Honest e.line.lane
      → result_sum (result_at b 0 i e.line) (result_at b 1 i e.line) ≡ plain_result b i e
  sum_is k i e is honest =
      ap₂ result_sum (shared_is 0 i e is honest) (shared_is 1 i e is honest) ∙ results_are_plain b k i e is

  -- ---- refusals

  plain_is_of : (i : ℕ) (e : Entry) → slice_get b.entries i ≡ Some e → Honest e.line.lane → IsOf e.line.command (plain_result b i e)
  unfolding plain_result
  plain_is_of i e is honest =
      let a = answers i e is honest in
      let got = (table_at b i).got e.line.lane in
      subst (λ does. IsOf e.line.command (result_of b.settings.boxes (plain_of b) (plain_at b i) e.line does)) (sym a.does)
      (comes_to b.settings.boxes (plain_of b) (plain_at b i) e.line got e.line.command a.request (λ refuse. a.done (a.does ∙ refuse)))

  retired_before : (i : ℕ) (e : Entry) → slice_get b.entries i ≡ Some e → Honest e.line.lane → (n : ℕ) → plain_result b i e ≡ NoBox n
      → Did (take i b.entries) (RetireBox n)
  unfolding plain_result plain_at
  retired_before i e is honest n none =
      let writes = plain_of b in
      let P : ℕ → ℕ → List Entry → Type 0 = λ limit width es. result_of limit writes (table_after limit width writes (take i es)) e.line e.does ≡ NoBox n in
      let one = subst (λ limit. P limit b.settings.width b.entries) (sym whole.limit) none in
      let two = subst (λ width. P v.limit width b.entries) (sym whole.width) one in
      let three = subst (λ es. P v.limit v.width es) (sym whole.journal) two in
      subst (λ es. Did (take i es) (RetireBox n)) whole.journal
      (whole.lawful.reads writes i n e (entry_there i e is) (hon e.line.lane honest) (no_box _ _ _ e.line e.does n none) three)

  settles_accepted : IsHistory b → (i : ℕ) (e : Entry) → slice_get b.entries i ≡ Some e → Honest e.line.lane
      → e.line.command ≡ Settles → (target : ℕ) (message : List ℕ)
      → request_of b e.line.lane e.line.serial ≡ Some (Write target message) → plain_result b i e ≡ Settled false
      → Contains (counted_at b e.line.lane e.line.serial) target → ⊥
  unfolding plain_result result_of
  settles_accepted k i e is honest settles target message asked refused there =
      let a = answers i e is honest in
      let same : Some a.request ≡ Some (Write target message) = sym a.asked ∙ asked in
      let does : e.does ≡ SettleWrite =
      a.does ∙ ap (operation_of ((table_at b i).got e.line.lane) e.line.command) same
      ∙ ap (λ y. operation_of ((table_at b i).got e.line.lane) y (Some (Write target message))) settles in
      let result : plain_result b i e ≡ Settled (accepted_at b e.line.lane e.line.serial) =
      ap (result_of b.settings.boxes (plain_of b) (plain_at b i) e.line) does in
      let accepted = registered_accepted b k e.line.lane e.line.serial target message asked there in
      cc (result, refused, accepted)

  due_at : IsHistory b → (i : ℕ) (e : Entry) → slice_get b.entries i ≡ Some e → Honest e.line.lane → (request : Request)
      → request_of b e.line.lane e.line.serial ≡ Some request → e.line.command ≡ last_of (opening_of request)
      → (refused : Refusal) → outcome_of b e.line (plain_result b i e) ≡ Some (client.Refused refused)
      → IsDue b i e.line request refused
  due_at k i e is honest request asked last refused told =
      due b i e.line refused request (plain_result b i e) (subst (λ y. IsOf y (plain_result b i e)) last (plain_is_of i e is honest)) told
      (λ target message write settled.
      settles_accepted k i e is honest (last ∙ ap (λ r. last_of (opening_of r)) write) target message (asked ∙ ap (λ r. Some r) write) settled)
      (retired_before i e is honest)

  module _ (k : IsHistory b) (within : Within b v) where
    answered : (c s : ℕ) (opening : Command) (outcome : Outcome) → Honest c → IsOpening opening → HasLines (lines_of v.journal) c s opening
        → says (answer_at b c s) (message_told b c s) ≡ Some outcome → IsAnswered b c s outcome
    answered c s opening outcome honest opens has told =
        let y = last_of opening in
        let there = last_there (lines_of v.journal) c s opening has in
        let i = there.0 in
        let found = entry_of i (line_of c s y) there.1 in
        let e = found.entry in
        let lane : e.line.lane ≡ c = ap (λ x. x.lane) found.line in
        let mine : Honest e.line.lane = ap b.foreign lane ∙ honest in
        let a = answers i e found.is mine in
        let serial : e.line.serial ≡ s = ap (λ x. x.serial) found.line in
        let command : e.line.command ≡ y = ap (λ x. x.command) found.line in
        let asked : request_of b c s ≡ Some a.request = ap₂ (request_of b) (sym lane) (sym serial) ∙ a.asked in
        let opening_is : opening ≡ opening_of a.request = sym (opening_again opening opens) ∙ ap opens_with (sym command) ∙ a.opens in
        let last : last_at b c s ≡ y = ap last_in asked ∙ ap last_of (sym opening_is) in
        let issued = get_taken v.commands v.carried i (line_of c s y) (ap (λ xs. slice_get xs i) (sym whole.lawful.coherent.journal) ∙ there.1) in
        let at = place_is b v whole.lawful.stages c s i y whole.lawful.coherent within (hon c honest) issued.1 in
        let says_it = ap₂ says (sym (answer_is c s i y last at)) (sym (message_is c s i y last at)) ∙ told in
        let kind : IsOf y (result_at b 1 i (line_of c s y)) =
        subst (λ z. IsOf z (result_at b 1 i (line_of c s y))) command (subst (λ x. IsOf e.line.command (result_at b 1 i x)) found.line (is_of i e found.is mine)) in
        let alike : result_outline (result_at b 0 i (line_of c s y)) ≡ result_outline (result_at b 1 i (line_of c s y)) =
        subst (λ x. result_outline (result_at b 0 i x) ≡ result_outline (result_at b 1 i x)) found.line (alike i e found.is mine) in
        let tells_it = tells b i (line_of c s y) y _ _ kind (not_begin opening) (not_audit opening opens) alike outcome says_it in
        let is_last = ap last_of opening_is in
        let told_plain : outcome_of b e.line (plain_result b i e) ≡ Some outcome =
        ap (outcome_of b e.line) (sym (sum_is k i e found.is mine))
        ∙ subst (λ x. outcome_of b x (result_sum (result_at b 0 i x) (result_at b 1 i x)) ≡ Some outcome) (sym found.line) tells_it in
        record {
          request = a.request;
          asked = asked;
          lines = subst (HasLines (lines_of b.entries) c s) opening_is (subst (λ es. HasLines (lines_of es) c s opening) whole.journal has);
          place = i;
          entry = e;
          is = found.is;
          last = found.line ∙ ap (line_of c s) is_last;
          does = a.does ∙ ap (λ d. operation_of ((table_at b i).got d) e.line.command (Some a.request)) lane;
          done = a.done;
          told = told_plain;
          due = λ refused same. due_at k i e found.is mine a.request a.asked (command ∙ is_last) refused (told_plain ∙ ap (λ o. Some o) same);
        }

    outcome_at : (xs : List token.Outcome) (ys : List run.Outcome) (k : ℕ) (y : run.Outcome) → AreOutcomes b xs ys
        → slice_get ys k ≡ Some y → (x : token.Outcome) × ((slice_get xs k ≡ Some x) × IsOutcome b x y)
    outcome_at (x ∷ xs) (z ∷ ys) zero y h e = let same : z ≡ y = cc in (x, (refl, subst (IsOutcome b x) same h.0))
    outcome_at (x ∷ xs) (z ∷ ys) (suc k) y h e = outcome_at xs ys k y h.1 e
    outcome_at [] [] k y h e = absurd (cc e)
    outcome_at [] (z ∷ ys) k y h e = absurd h
    outcome_at (x ∷ xs) [] k y h e = absurd (cc e)

    pub outcomes_are_plain : (f : FrameWorld) → Follows b f v → OutcomesArePlain b f v
    outcomes_are_plain f h k y e =
        let at = outcome_at v.outcomes f.outcomes k y h.outcomes e in
        let x = at.0 in
        let stands = whole.lawful.outcomes k x at.1.0 in
        let backed = whole.lawful.coherent.outcomes k x at.1.0 in
        let honest : Honest x.client = ap (λ f. f x.client) (sym whole.foreign) ∙ backed.0 in
        record {
          outcome = x;
          is = at.1.0;
          client = at.1.1.client;
          request = at.1.1.request;
          told = subst (λ c. IsToldPlain b c x.told y.told) (sym at.1.1.client) (by_told x.client x.told y.told honest stands backed.1 at.1.1.told);
        }
      where
        by_told : (c : ℕ) (t : token.Told) (u : Told) → Honest c → IsJournaled (lines_of v.journal) c t
            → Backed (state v whole.lawful.stages) c t → TellsSame b c t u → IsToldPlain b c t u
        by_told c (token.Answered s opening) (Ended outcome) honest stands backed told = answered c s opening outcome honest backed.0 stands told
        by_told c (token.Answered s opening) (NoOwnBox own) honest stands backed told = absurd told
        by_told c (token.NoOwnBox own) (NoOwnBox other) honest stands backed told = cc told
        by_told c (token.NoOwnBox own) (Ended outcome) honest stands backed told = absurd (cc told)

  -- ---- the journal

  name_of_read : (stays : Bool) (i : ℕ) (e : Entry) (own : ℕ) → slice_get b.entries i ≡ Some e → Honest e.line.lane → turn e.line.command ≡ 0
      → request_of b e.line.lane e.line.serial ≡ Some (asks stays own) → (n : ℕ)
      → slice_get ((table_at b i).got e.line.lane) own ≡ Some n → book.box_of b e.line.lane e.line.serial ≡ n
  name_of_read stays i e own is honest opens q n got =
      (holds_box b stays e.line.lane e.line.serial own n q
      (ap (λ ns. slice_get ns own) (owned_then b v whole e.line.lane i e is refl honest opens) ∙ got)).named

  given_names : (n m : ℕ) (bytes : List ℕ) (o : Option Mailbox) → given n o ≡ Gave m bytes → n ≡ m
  given_names n m bytes None e = absurd (cc e)
  given_names n m bytes (Some box) e = by_life box.live e
    where
      by_life : (t : Bool) → cond t (Gave n box.bytes) (NoBox n) ≡ Gave m bytes → n ≡ m
      by_life true e = cc e
      by_life false e = absurd (cc e)

  read_names : (i : ℕ) (x : Line) (o : Option ℕ) (m : ℕ) (bytes : List ℕ)
      → result_of b.settings.boxes (writes_at b 1) (shares_at b 1 i) x (reads_box o) ≡ Gave m bytes → o ≡ Some m
  unfolding result_of
  read_names i x (Some n) m bytes e = ap (λ n. Some n) (given_names n m bytes (slice_get (shares_at b 1 i).boxes n) e)
  read_names i x None m bytes e = absurd (cc e)

  retire_names : (i : ℕ) (x : Line) (o : Option ℕ) (m : ℕ) (bytes : List ℕ)
      → result_of b.settings.boxes (writes_at b 1) (shares_at b 1 i) x (retires_box o) ≡ Gave m bytes → o ≡ Some m
  unfolding result_of
  retire_names i x (Some n) m bytes e = ap (λ n. Some n) (given_names n m bytes (slice_get (shares_at b 1 i).boxes n) e)
  retire_names i x None m bytes e = absurd (cc e)

  result_is : (i : ℕ) (e : Entry) (a : Answers i e) → result_at b 1 i e.line
      ≡ result_of b.settings.boxes (writes_at b 1) (shares_at b 1 i) e.line (operation_of ((table_at b i).got e.line.lane) e.line.command (Some a.request))
  unfolding result_at
  result_is i e a =
      ap (λ r. result_of b.settings.boxes (writes_at b 1) (shares_at b 1 i) e.line (operation_of ((table_at b i).got e.line.lane) e.line.command r)) a.asked

  abbrev comes : ℕ → Entry → Command → Request → Result
  comes i e y r =
      result_of b.settings.boxes (writes_at b 1) (shares_at b 1 i) e.line (operation_of ((table_at b i).got e.line.lane) y (Some r))

  box_given : (i : ℕ) (e : Entry) (n : ℕ) (bytes : List ℕ) (y : Command) (r : Request) → slice_get b.entries i ≡ Some e → Honest e.line.lane
      → IsOf y (Gave n bytes) → opens_with y ≡ opening_of r → e.line.command ≡ y
      → request_of b e.line.lane e.line.serial ≡ Some r → comes i e y r ≡ Gave n bytes
      → book.box_of b e.line.lane e.line.serial ≡ n
  box_given i e n bytes Reads (Read own) is honest k opens y q h =
      name_of_read true i e own is honest (ap turn y) q n (read_names i e.line (slice_get ((table_at b i).got e.line.lane) own) n bytes h)
  box_given i e n bytes Retires (Retire own) is honest k opens y q h =
      name_of_read false i e own is honest (ap turn y) q n (retire_names i e.line (slice_get ((table_at b i).got e.line.lane) own) n bytes h)
  box_given i e n bytes Reads (Register a) is honest k opens y q h = absurd (cc opens)
  box_given i e n bytes Reads (Write t m) is honest k opens y q h = absurd (cc opens)
  box_given i e n bytes Reads (Retire own) is honest k opens y q h = absurd (cc opens)
  box_given i e n bytes Retires (Register a) is honest k opens y q h = absurd (cc opens)
  box_given i e n bytes Retires (Write t m) is honest k opens y q h = absurd (cc opens)
  box_given i e n bytes Retires (Read own) is honest k opens y q h = absurd (cc opens)
  box_given i e n bytes Registers r is honest k opens y q h = absurd k
  box_given i e n bytes Begins r is honest k opens y q h = absurd k
  box_given i e n bytes Audits r is honest k opens y q h = absurd k
  box_given i e n bytes Settles r is honest k opens y q h = absurd k

  names_so : (i : ℕ) (e : Entry) → slice_get b.entries i ≡ Some e → Honest e.line.lane → (r : Result) → result_at b 1 i e.line ≡ r
      → NamesSo b e.line.lane e.line.serial r
  names_so i e is honest (Gave n bytes) gives =
      let a = answers i e is honest in
      box_given i e n bytes e.line.command a.request is honest (subst (IsOf e.line.command) gives (is_of i e is honest)) a.opens refl a.asked
      (sym (result_is i e a) ∙ gives)
  names_so i e is honest (Registered n) gives = tt
  names_so i e is honest (Taken n) gives = tt
  names_so i e is honest (Full n) gives = tt
  names_so i e is honest (Began n) gives = tt
  names_so i e is honest WasAudited gives = tt
  names_so i e is honest (Settled t) gives = tt
  names_so i e is honest (NoBox n) gives = tt
  names_so i e is honest Refused gives = tt

  pub line_at : (n : ℕ) (es : List Entry) (ls : List JournalLine) (i : ℕ) (e : Entry) → Journals b n es ls → slice_get es i ≡ Some e
      → (l : JournalLine) × ((slice_get ls i ≡ Some l) × IsLineOf b (b.foreign e.line.lane) (n + i) e l)
  line_at n (x ∷ es) (l ∷ ls) zero e h is =
      let same : x ≡ e = cc in
      let here : n ≡ n + 0 = omega arith in
      (l, (refl, subst (λ k. IsLineOf b (b.foreign e.line.lane) k e l) here (subst (λ e. IsLineOf b (b.foreign e.line.lane) n e l) same h.0)))
  line_at n (x ∷ es) (l ∷ ls) (suc i) e h is =
      let next = line_at (suc n) es ls i e h.1 is in
      let there : suc n + i ≡ n + suc i = omega arith in
      (next.0, (next.1.0, subst (λ k. IsLineOf b (b.foreign e.line.lane) k e next.0) there next.1.1))
  line_at n [] ls i e h is = absurd (cc is)
  line_at n (x ∷ es) [] i e h is = absurd h

  same_count : (n : ℕ) (es : List Entry) (ls : List JournalLine) → Journals b n es ls → length ls ≡ length es
  same_count n [] [] h = refl
  same_count n (e ∷ es) (l ∷ ls) h = ap suc (same_count (suc n) es ls h.1)
  same_count n [] (l ∷ ls) h = absurd h
  same_count n (e ∷ es) [] h = absurd h

  printed_is : IsHistory b → (i : ℕ) (e : Entry) → slice_get b.entries i ≡ Some e → Honest e.line.lane
      → IsPlainLine b i e (line_value b i e.line)
  printed_is k i e is honest =
      let value = prints b i e.line.lane e.line.serial e.line.command (result_at b 0 i e.line) (result_at b 1 i e.line) (is_of i e is honest)
      (names_so i e is honest (result_at b 1 i e.line) refl) (alike i e is honest) in
      ap (λ u. journal_of e.line u) (value ∙ ap (printed_of b e.line) (sum_is k i e is honest))
    where
      journal_of : Line → Value → JournalLine
      journal_of x u = record { lane = x.lane; serial = x.serial; value = u }

  pub journal_is_told : (f : FrameWorld) → IsHistory b → Follows b f v → JournalIsTold b f v
  journal_is_told f k h = record {
    count = same_count 0 v.journal f.journal h.journal ∙ ap length whole.journal;
    lines = λ i e is.
        let at = line_at 0 v.journal f.journal i e h.journal (entry_there i e is) in
        let none : 0 + i ≡ i = omega arith in
        let line = subst (λ n. IsLineOf b (b.foreign e.line.lane) n e at.0) none at.1.1 in (
          at.0,
          at.1.0,
          elim (cases_Bool (b.foreign e.line.lane)) [
            | inl foreign ↦ strange_line b k i e at.0 is foreign (subst (λ t. IsLineOf b t i e at.0) foreign line)
            | inr honest ↦ inl (subst (λ t. IsLineOf b t i e at.0) honest line ∙ printed_is k i e is honest)
          ],
        );
  }

  -- ---- what a client's line is refused with

  never_refused : (y : Command) → IsOf y Refused → ⊥
  never_refused Registers h = h
  never_refused Begins h = h
  never_refused Audits h = h
  never_refused Settles h = h
  never_refused Reads h = h
  never_refused Retires h = h

  never_read : (y z : Command) (n : ℕ) (refused : Refusal) → read_value y n ≡ run.Refused z refused → ⊥
  never_read Retires z n refused e = cc e
  never_read Registers z n refused e = cc e
  never_read Begins z n refused e = cc e
  never_read Audits z n refused e = cc e
  never_read Settles z n refused e = cc e
  never_read Reads z n refused e = cc e

  refused_by_table : (x : Line) (y : Command) (r : Result) (refused : Refusal) → IsOf x.command r
      → printed_of b x r ≡ run.Refused y refused → IsOfTable refused
  refused_by_table x y (Taken n) refused kind e = let same : refusal.Taken n ≡ refused = cc e in subst IsOfTable same tt
  refused_by_table x y (Full n) refused kind e = let same : refusal.Full n ≡ refused = cc e in subst IsOfTable same tt
  refused_by_table x y (NoBox n) refused kind e = let same : refusal.NoBox n ≡ refused = cc e in subst IsOfTable same tt
  refused_by_table x y Refused refused kind e = absurd (never_refused x.command kind)
  refused_by_table x y (Gave n bytes) refused kind e = absurd (never_read x.command y n refused e)
  refused_by_table x y (Registered n) refused kind e = absurd (cc e)
  refused_by_table x y (Began n) refused kind e = absurd (cc e)
  refused_by_table x y WasAudited refused kind e = absurd (cc e)
  refused_by_table x y (Settled t) refused kind e = absurd (cc e)

  pub clients_are_ready : (f : FrameWorld) (w : World) → JournalIsTold b f w → ClientsAreReady b f w
  clients_are_ready f w told i line y refused is honest value =
      let low : i < length b.entries = let n = slice_get_within f.journal i line is in let same = told.count in omega (arith, n, same) in
      elim ((slice_get_cases b.entries i).1) [
        | inl there ↦
            let at = told.lines i there.0 there.2 in
            let same : at.0 ≡ line = cc (at.1, is) in
            of_line there.0 there.2 (subst (λ l. IsPlainLine b i there.0 l ⊎ IsRefusedLine b i there.0 l) same at.2)
        | inr past ↦ let high = past.0 in absurd (omega (arith, low, high))
      ]
    where
      of_line : (e : Entry) → slice_get b.entries i ≡ Some e → IsPlainLine b i e line ⊎ IsRefusedLine b i e line → IsOfTable refused
      of_line e there (inl plain) =
          let lane : line.lane ≡ e.line.lane = ap (λ l. l.lane) plain in
          let mine : Honest e.line.lane = ap b.foreign (sym lane) ∙ honest in
          refused_by_table e.line y (plain_result b i e) refused (plain_is_of i e there mine)
          (sym (ap (λ l. l.value) plain) ∙ value)
      of_line e there (inr strange) =
          let lane : line.lane ≡ e.line.lane = ap (λ l. l.lane) strange.is in
          absurd (cc (honest, ap b.foreign lane, strange.foreign))

  -- where each lane is a client's none is refused
  pub journal_is_plain : (f : FrameWorld) → IsHistory b → ((c : ℕ) → Honest c) → Follows b f v → JournalIsPlain b f v
  journal_is_plain f k honest h = let told = journal_is_told f k h in record {
    count = told.count;
    lines = λ i e is. let at = told.lines i e is in at.1 ∙ ap (λ l. Some l) (plain_line i e at.0 at.2);
  }
    where
      plain_line : (i : ℕ) (e : Entry) (line : JournalLine) → IsPlainLine b i e line ⊎ IsRefusedLine b i e line → IsPlainLine b i e line
      plain_line i e line (inl plain) = plain
      plain_line i e line (inr refused) = absurd (cc (refused.foreign, honest e.line.lane))

  -- ---- the boxes

  pub shares_are_folds : (f : FrameWorld) → Follows b f v → SharesAreFolds b f v
  shares_are_folds f h =
      let ok = whole.lawful.coherent in
      let count = sym (journal_count v whole.lawful.stages ok) ∙ ap length whole.journal in
      let before = ok.acknowledged in
      record {
        helper = h.helper.boxes ∙ ap (boxes_at b 1) count;
        leader = h.leader.boxes;
        acknowledged = omega (arith, count, before);
      }

  pub boxes_are_plain : {f : FrameWorld} {w : World} → IsHistory b → BoxesArePlain b f w
  boxes_are_plain k = record {
    shares = λ i. shares_are_plain b k i;
    accepted = λ c serial target message asked there. registered_accepted b k c serial target message asked there;
  }
