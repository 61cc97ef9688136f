-- The client of a letter's present try writes the piece of its copy.
use Rattle.std.proofs.Common.{◌≡◌, ◌≢◌, ℕ, ◌+◌, ◌<◌, ◌≤◌, ◌/◌, Bool, true, false, List, [], ◌∷◌}
use Rattle.std.proofs.Common.{◌++◌, length, Option, Some, None, refl, sym, ◌∙◌, ap, subst}
use Rattle.std.proofs.Common.{arith}
use Rattle.std.specs.Prelude.{if◌then◌else◌, ◌&&◌, nat_le, nat_lt, slice_get}
use Rattle.std.proofs.lemmas.List.{append-nil}
use Rattle.std.proofs.lemmas.Bool.{leb-true, ltb-true, eqb-true, and_parts}
use Rattle.frame_rules.specs.Whole.{whole as whole_of}
use Rattle.mailbox_rules.specs.Requests.{Request, Write}
use Rattle.step_rules.specs.Client.{Client, Current, Fault, Step, Deposits, Submits, ProvesToHelper}
use Rattle.step_rules.specs.Client.{ProvesToLeader, opened_client}
use Rattle.step_rules.specs.ClientAsks as asks
use Rattle.step_rules.specs.ClientAsks.{asked_with, deposit_of, difference, fault_at, proof_of, public_part}
use Rattle.step_rules.specs.ClientAsks.{sends, sent_at, share_for, submission_of, with_request, words}
use Rattle.step_rules.specs.ClientReplies.{on_reply}
use Rattle.client_core.specs.Writes.{write_body, write_sent}
use Rattle.letter_copies.specs.declared.copies.Next.{Next as CopiesNext}
use Rattle.letter_copies.specs.declared.copies.Next.TheVariants.{GoOn, SameAgain, TryIsOver}
use Rattle.letter_copies.specs.declared.copies.Try.{Try}
use Rattle.letter_copies.specs.declared.heard.Answer.{Answer}
use Rattle.letter_copies.specs.declared.heard.Answer.TheVariants as answer
use Rattle.letter_copies.specs.declared.heard.Fate.{Fate}
use Rattle.letter_copies.specs.declared.heard.Fate.TheVariants as fate
use Rattle.letter_copies.specs.declared.standing.Standing.{Standing}
use Rattle.letter_copies.specs.Copies.{CopiesState, after_proof, begun, proof_by, turn_at}
use Rattle.letter_copies.specs.Copies.{turn_by, turn_of, written_nothing}
use Rattle.letter_copies.specs.Fate.{fate_by}
use Rattle.kept_letter.specs.declared.note.Told.{Told as ToldOf}
use Rattle.kept_letter.specs.declared.note.Told.TheVariants as told
use Rattle.kept_letter.specs.Laws.{PiecesGoToTheirPlaces, WritesAt, WritesItsPiece, own_statement}
use Rattle.kept_letter.specs.Letters.{LetterState, answer_in, answer_told, answered, asking, begins, begun_by}
use Rattle.kept_letter.specs.Letters.{begun_to, client_by, client_for, client_or_none, fold_from, heard}
use Rattle.kept_letter.specs.Letters.{heard_by, heard_turn, is_at_last_proof, is_text_whole, key_in}
use Rattle.kept_letter.specs.Letters.{letter_after, most_tries, opened_letter, piece_bytes, present_seed}
use Rattle.kept_letter.specs.Letters.{step_of, target_of, told_by, told_of, told_turn}
use Rattle.kept_letter.specs.Letters.{with_client, with_text, write_of, write_to}
use Rattle.kept_letter.specs.Nexts.{hash_of, statement_by, statement_of}
use Rattle.kept_letter.specs.Notes as note
use Rattle.kept_letter.specs.Notes.{Opening, Noted}
use Rattle.kept_letter.specs.Plans.{each_of, parts_for}
use Rattle.kept_letter.proofs.KeyLaws.{GoesOn, goes_to, key_at, next_goes_on}
use Rattle.kept_letter.proofs.ReplyLaws.{goes_next, told_goes_not}

-- the client asks for the write of the present try's copy, with words of the try's own seed
record IsWriting (s : LetterState) (c : Client) : Type 0 where
  tried : Try
  present : s.copies.present ≡ Some tried
  request : Request
  write : write_of s tried.copy ≡ Some request
  seed : c.seed ≡ present_seed s
  step : Step
  current : c.current ≡ Some (record { request = request; step = step })
  key : s.key ≡ key_at step

record Holds (s : LetterState) : Type 0 where
  whole : (t : Try) → s.copies.present ≡ Some t → is_text_whole s ≡ true
  client : (c : Client) → s.client ≡ Some c → IsWriting s c

-- ---- what stays as the copies do

-- the copies stay but for whether the last proof has gone out
abbrev other_copies : LetterState → CopiesState → LetterState
other_copies s now = record s { copies = now }

writing_on : (s : LetterState) (now : CopiesState) (c : Client) (w : IsWriting s c) (t : Try)
    → now.present ≡ Some t → t.copy ≡ w.tried.copy → IsWriting (other_copies s now) c
unfolding write_of target_of
writing_on s now c w t at same = record {
  tried = t;
  present = at;
  request = w.request;
  write = ap (λ (n : ℕ). write_of s n) same ∙ w.write;
  seed = w.seed;
  step = w.step;
  current = w.current;
  key = w.key;
}

some_is : {A : Type 0} (a b : A) → Some a ≡ Some b → a ≡ b
some_is a b e = cc e

none_some : {A X : Type 0} (a : A) → None ≡ Some a → X
none_some a e = absurd (cc e)

-- ---- the text

no_more : (n m count : ℕ) → n ≡ count → n + m ≤ count → m ≡ 0
no_more n m count e h = omega (arith, e, h)

nothing : (bytes : List ℕ) → length bytes ≡ 0 → bytes ≡ []
nothing [] e = refl
nothing (b ∷ bytes) e = absurd (omega (arith, e))

text_test : (count : ℕ) (text bytes : List ℕ) (b : Bool) → nat_le (length text + length bytes) count ≡ b
    → length text ≡ count → (if b then text ++ bytes else text) ≡ text
text_test count text bytes false e full = refl
text_test count text bytes true e full =
    let empty = nothing bytes (no_more (length text) (length bytes) count full (leb-true _ _ e)) in
    ap (λ (x : List ℕ). text ++ x) empty ∙ append-nil text

text_stays : (s : LetterState) (bytes : List ℕ) → is_text_whole s ≡ true → with_text s bytes ≡ s
text_stays s bytes whole =
    let full : length s.text ≡ s.plan.count = eqb-true _ _ (and_parts _ _ whole).1 in
    let more = nat_le (length s.text + length bytes) s.plan.count in
    ap (λ (x : List ℕ). record s { text = x }) (text_test s.plan.count s.text bytes more refl full)

text_holds : (s : LetterState) (bytes : List ℕ) → Holds s → Holds (with_text s bytes)
text_holds s bytes h = record {
  whole = λ t at.
      let whole = h.whole t at in
      ap (λ (x : LetterState). is_text_whole x) (text_stays s bytes whole) ∙ whole;
  client = λ c at.
      let w = h.client c at in
      subst (λ (x : LetterState). IsWriting x c) (sym (text_stays s bytes (h.whole w.tried w.present))) w;
}

-- ---- a try begins

abbrev fresh : LetterState → CopiesState → LetterState
fresh s now = record s { tries = s.tries + 1; copies = now; client = None; key = None }

fresh_holds : (s : LetterState) (now : CopiesState) → is_text_whole s ≡ true → Holds (fresh s now)
fresh_holds s now whole = record { whole = λ t at. whole; client = λ c at. none_some c at }

begun_holds : (s : LetterState) (t : Option Try) → is_text_whole s ≡ true → Holds s
    → Holds (begun_to s (begun s.copies) t)
begun_holds s None whole h = h
begun_holds s (Some t) whole h = fresh_holds s (begun s.copies) whole

begun_by_holds : (s : LetterState) (t : Option Try) → is_text_whole s ≡ true → Holds s → Holds (begun_by s t)
begun_by_holds s (Some t) whole h = h
begun_by_holds s None whole h = begun_holds s (begun s.copies).present whole h

begins_test : (s : LetterState) (b : Bool) → (is_text_whole s && nat_lt s.tries most_tries) ≡ b → Holds s
    → Holds (if b then begun_by s s.copies.present else s)
begins_test s false e h = h
begins_test s true e h = begun_by_holds s s.copies.present (and_parts _ _ e).0 h

-- ---- a lease

record IsAsked (c d : Client) (request : Request) : Type 0 where
  seed : d.seed ≡ c.seed
  current : d.current ≡ Some (record { request = request; step = Deposits })

taken_with : (c d : Client) (request : Request) (f : Option Fault)
    → client_or_none (asked_with c request f) ≡ Some d → IsAsked c d request
taken_with c d request None e =
    let same : with_request c request ≡ d = some_is _ _ e in
    record {
      seed = sym (ap (λ (x : Client). x.seed) same);
      current = sym (ap (λ (x : Client). x.current)
          same);
    }
taken_with c d request (Some f) e = none_some d e

taken : (c d : Client) (request : Request) → client_or_none (asks.asked c request) ≡ Some d
    → IsAsked c d request
unfolding asks.asked
taken c d request e = taken_with c d request (fault_at c request c.current) e

opened_seed : (lane width serial : ℕ) (seed : List ℕ) → (opened_client lane seed width 0 serial).seed ≡ seed
unfolding opened_client
opened_seed lane width serial seed = refl

abbrev given : LetterState → Client → LetterState
given s c = record s { client = Some c; key = None }

given_asking : (s : LetterState) (c opened : Client) (t : Try) (r : Option Request)
    → s.copies.present ≡ Some t → write_of s t.copy ≡ r
    → opened.seed ≡ present_seed s → asking opened r ≡ Some c → IsWriting (given s c) c
unfolding write_of target_of
given_asking s c opened t None at write seed e = none_some c e
given_asking s c opened t (Some request) at write seed e =
    let a = taken opened c request e in
    record {
      tried = t;
      present = at;
      request = request;
      write = write;
      seed = a.seed ∙ seed;
      step = Deposits;
      current = a.current;
      key = refl;
    }

given_by : (s : LetterState) (lane serial : ℕ) (c : Client) (t : Option Try) (now : Option Client)
    → s.copies.present ≡ t
    → client_by s lane serial t now ≡ Some c → IsWriting (given s c) c
given_by s lane serial c None now at e = none_some c e
given_by s lane serial c (Some t) (Some d) at e = none_some c e
given_by s lane serial c (Some t) None at e =
    given_asking s c (opened_client lane (present_seed s) s.plan.card.width 0 serial) t (write_of s t.copy) at refl
    (opened_seed lane s.plan.card.width serial (present_seed s)) e

given_writes : (s : LetterState) (lane serial : ℕ) (c : Client) → client_for s lane serial ≡ Some c
    → IsWriting (given s c) c
unfolding client_for
given_writes s lane serial c e = given_by s lane serial c s.copies.present s.client refl e

leased_holds : (s : LetterState) (lane serial : ℕ) (c : Option Client) → client_for s lane serial ≡ c
    → Holds s → Holds (with_client s c)
leased_holds s lane serial None e h = h
leased_holds s lane serial (Some c) e h = record {
  whole = h.whole;
  client = λ d at. subst (λ (x : Client). IsWriting (given s c) x) (some_is c d at) (given_writes s lane
      serial c e);
}

-- ---- the last proof

proof_tried : (s : CopiesState) (t : Try) → s.present ≡ Some t
    → (after_proof s).present ≡ Some (record t { proof_out = true })
proof_tried s t at = ap (λ (x : Option Try). (proof_by s x).present) at

proof_test : (s : LetterState) (b : Bool) → is_at_last_proof s.client ≡ b → Holds s
    → Holds (if b then other_copies s (after_proof s.copies) else s)
proof_test s false e h = h
proof_test s true e h = record {
  whole = λ t at. at_present s.client refl e;
  client = λ c at.
      let w = h.client c at in
      writing_on s (after_proof s.copies) c w (record w.tried { proof_out = true }) (proof_tried s.copies
      w.tried w.present) refl;
}
  where
    at_present : (c : Option Client) → s.client ≡ c → is_at_last_proof c ≡ true → is_text_whole s ≡ true
    at_present None at e = absurd (cc e)
    at_present (Some c) at e = let w = h.client c at in h.whole w.tried w.present

-- ---- an answer

nothing_ends : (s : CopiesState) (copy : ℕ) (standing : Option Standing)
    → (written_nothing s copy standing).next ≡ TryIsOver
nothing_ends s copy None = refl
nothing_ends s copy (Some standing) = refl

-- but for the end of the try the copies stay
by_fate : (s : CopiesState) (copy : ℕ) (f : Fate) → (turn_by s copy f).next ≢ TryIsOver
    → (turn_by s copy f).state ≡ s
unfolding turn_by
by_fate s copy fate.GoesOn other = refl
by_fate s copy fate.Again other = refl
by_fate s copy fate.NotWritten other = absurd (other (nothing_ends s copy (slice_get s.standings copy)))
by_fate s copy fate.Unknown other = absurd (other refl)
by_fate s copy fate.Written other = absurd (other refl)

at_try : (s : CopiesState) (t : Option Try) (a : Answer) → (turn_at s t a).next ≢ TryIsOver
    → (turn_at s t a).state ≡ s
at_try s None a other = refl
at_try s (Some t) a other = by_fate s t.copy (fate_by t.proof_out a) other

stays : (s : CopiesState) (a : Answer) (n : CopiesNext) → (turn_of s a).next ≡ n → n ≢ TryIsOver
    → (turn_of s a).state ≡ s
stays s a n at other = at_try s s.present a (λ e. other (sym at ∙ e))

module _ (s : LetterState) (c : Client) (w : IsWriting s c) (whole : is_text_whole s ≡ true) where
  -- the client does the same again
  again_holds : (now : CopiesState) → now ≡ s.copies → (h : Holds s) → Holds (other_copies s now)
  again_holds now same h = record {
    whole = λ t at. whole;
    client = λ d at.
        let v = h.client d at in
        writing_on s now d v v.tried (ap (λ (x : CopiesState). x.present) same ∙ v.present) refl;
  }

  over_holds : (now : CopiesState) → Holds (record s { copies = now; client = None; key = None })
  over_holds now = record { whole = λ t at. whole; client = λ d at. none_some d at }

  -- it goes on to this one
  on_holds : (now : CopiesState) (d : Client) (bytes : List ℕ) → now ≡ s.copies → GoesOn c bytes d
      → Holds (record s { copies = now; client = Some d; key = key_in (whole_of bytes) s.key })
  unfolding write_of target_of
  on_holds now d bytes same g =
      let same_now : g.now ≡ record { request = w.request; step = w.step } = some_is _ _ (sym g.was
      ∙ w.current) in
      let current : d.current ≡ Some (record { request = w.request; step = g.goes.step }) =
      goes_to c d bytes g ∙ ap (λ (x : Current). Some (record { request = x.request; step = g.goes.step }))
      same_now in
      let key : key_in (whole_of bytes) s.key ≡ key_at g.goes.step =
      ap (λ (k : Option (List ℕ)). key_in (whole_of bytes) k) (w.key
      ∙ ap (λ (x : Current). key_at x.step) (sym same_now)) ∙ sym g.goes.key_is in
      let writing : IsWriting (record s {
        copies = now;
        client = Some d;
        key = key_in (whole_of bytes) s.key;
      }) d = record {
        tried = w.tried;
        present = ap (λ (x : CopiesState). x.present) same ∙ w.present;
        request = w.request;
        write = w.write;
        seed = ap (λ (x : Client). x.seed) g.goes.is ∙ w.seed;
        step = g.goes.step;
        current = current;
        key = key;
      } in
      record {
        whole = λ t at. whole;
        client = λ e at.
            subst (λ (x : Client). IsWriting (record s {
              copies = now;
              client = Some d;
              key = key_in
                  (whole_of bytes) s.key;
            }) x)
            (some_is d e at) writing;
      }

go_not_over : GoOn ≢ TryIsOver
go_not_over e = cc e

same_not_over : SameAgain ≢ TryIsOver
same_not_over e = cc e

heard_with : (s : LetterState) (bytes : List ℕ) (c : Client) (n : CopiesNext)
    → (heard_turn s bytes c).next ≡ n → s.client ≡ Some c → Holds s
    → Holds (answered s (heard_turn s bytes c) n (on_reply c bytes).client (key_in (whole_of bytes) s.key))
heard_with s bytes c GoOn at is h =
    let w = h.client c is in
    let next = goes_next s.copies (on_reply c bytes).progress at in
    on_holds s c w (h.whole w.tried w.present) (heard_turn s bytes c).state (on_reply c bytes).client bytes
    (stays s.copies (answer_in (on_reply c bytes).progress) GoOn at go_not_over) (next_goes_on c bytes next)
heard_with s bytes c SameAgain at is h =
    let w = h.client c is in
    again_holds s c w (h.whole w.tried w.present) (heard_turn s bytes c).state
    (stays s.copies (answer_in (on_reply c bytes).progress) SameAgain at same_not_over) h
heard_with s bytes c TryIsOver at is h =
    let w = h.client c is in over_holds s c w (h.whole w.tried w.present) (heard_turn s bytes c).state

heard_holds : (s : LetterState) (bytes : List ℕ) (now : Option Client) → s.client ≡ now → Holds s
    → Holds (heard_by s bytes now)
heard_holds s bytes None is h = h
heard_holds s bytes (Some c) is h = heard_with s bytes c (heard_turn s bytes c).next refl is h

told_other : (t : ToldOf) → answer_told t ≢ answer.Fits
told_other told.NotYours e = cc e
told_other told.Written e = cc e
told_other told.NotWritten e = cc e

told_with : (s : LetterState) (t : ToldOf) (c : Client) (n : CopiesNext) → (told_turn s t).next ≡ n
    → s.client ≡ Some c → Holds s
    → Holds (answered s (told_turn s t) n c s.key)
told_with s t c GoOn at is h = absurd (told_goes_not s.copies (answer_told t) (told_other t) at)
told_with s t c SameAgain at is h =
    let w = h.client c is in
    again_holds s c w (h.whole w.tried w.present) (told_turn s t).state (stays s.copies (answer_told t)
    SameAgain at same_not_over) h
told_with s t c TryIsOver at is h =
    let w = h.client c is in over_holds s c w (h.whole w.tried w.present) (told_turn s t).state

told_holds : (s : LetterState) (t : ToldOf) (now : Option Client) → s.client ≡ now → Holds s
    → Holds (told_by s t now)
told_holds s t None is h = h
told_holds s t (Some c) is h = told_with s t c (told_turn s t).next refl is h

-- ---- any notes

step_holds : (s : LetterState) (n : Noted) → Holds s → Holds (step_of s n)
unfolding begins heard told_of
step_holds s (note.Text bytes) h = text_holds s bytes h
step_holds s note.Begins h = begins_test s (is_text_whole s && nat_lt s.tries most_tries) refl h
step_holds s (note.Leased lane serial) h = leased_holds s lane serial (client_for s lane serial) refl h
step_holds s note.ProofGoes h = proof_test s (is_at_last_proof s.client) refl h
step_holds s (note.Heard bytes) h = heard_holds s bytes s.client refl h
step_holds s (note.Told t) h = told_holds s t s.client refl h

fold_holds : (s : LetterState) (notes : List Noted) → Holds s → Holds (fold_from s notes)
unfolding fold_from
fold_holds s [] h = h
fold_holds s (n ∷ notes) h = fold_holds (step_of s n) notes (step_holds s n h)

opened_holds : (o : Opening) → Holds (opened_letter o)
opened_holds o = record { whole = λ t at. none_some t at; client = λ c at. none_some c at }

-- ---- the write

-- the frames of a write are those of its words
sends_write : (c : Client) (target : ℕ) (message : List ℕ) (step : Step)
    → c.current ≡ Some (record { request = Write target message; step = step })
    → sends c ≡ Some (write_sent c.lane c.serial (words c) target message step)
unfolding sends deposit_of submission_of proof_of share_for difference public_part write_body
sends_write c target message Deposits e = ap (sent_at c) e
sends_write c target message Submits e = ap (sent_at c) e
sends_write c target message (ProvesToHelper ckey) e = ap (sent_at c) e
sends_write c target message (ProvesToLeader ckey) e = ap (sent_at c) e

record IsWrite (s : LetterState) (copy : ℕ) (request : Request) : Type 0 where
  part : copy / each_of s.plan < parts_for s.plan (length s.text)
  target : ℕ
  place : target_of s copy ≡ Some target
  is : request ≡ Write target (piece_bytes s copy)

write_place : (s : LetterState) (copy : ℕ) (request : Request) (place : Option ℕ) → target_of s copy ≡ place
    → copy / each_of s.plan < parts_for s.plan (length s.text)
    → write_to place (piece_bytes s copy) ≡ Some request → IsWrite s copy request
write_place s copy request None at part e = none_some request e
write_place s copy request (Some target) at part e = record {
  part = part;
  target = target;
  place = at;
  is =
      sym (some_is _ _ e);
}

write_test : (s : LetterState) (copy : ℕ) (request : Request) (b : Bool)
    → nat_lt (copy / each_of s.plan) (parts_for s.plan (length s.text)) ≡ b
    → (if b then write_to (target_of s copy) (piece_bytes s copy) else None) ≡ Some request
    → IsWrite s copy request
write_test s copy request false at e = none_some request e
write_test s copy request true at e = write_place s copy request (target_of s copy) refl (ltb-true _ _ at) e

is_write : (s : LetterState) (copy : ℕ) (request : Request) → write_of s copy ≡ Some request
    → IsWrite s copy request
unfolding write_of
is_write s copy request e = write_test s copy request (nat_lt (copy / each_of s.plan) (parts_for s.plan
    (length s.text))) refl e

own_hash : (c : Client) (seed : List ℕ) (target : ℕ) (message : List ℕ) (step : Step) → c.seed ≡ seed
    → statement_by seed c.serial (key_at step) (Some (Write target message))
    ≡ own_statement c target message step
unfolding public_part
own_hash c seed target message Deposits e = refl
own_hash c seed target message Submits e = refl
own_hash c seed target message (ProvesToHelper ckey) e = ap (λ (x : List ℕ). hash_of x c.serial ckey (Write
    target message)) (sym e)
own_hash c seed target message (ProvesToLeader ckey) e = ap (λ (x : List ℕ). hash_of x c.serial ckey (Write
    target message)) (sym e)

writes : (s : LetterState) (c : Client) → is_text_whole s ≡ true → (w : IsWriting s c)
    → WritesItsPiece s w.tried c
unfolding statement_of
writes s c whole w =
    let is = is_write s w.tried.copy w.request w.write in
    let message = piece_bytes s w.tried.copy in
    let current : c.current ≡ Some (record { request = Write is.target message; step = w.step }) =
    w.current ∙ ap (λ (r : Request). Some (record { request = r; step = w.step })) is.is in
    record {
      whole = whole;
      part = is.part;
      target = is.target;
      place = is.place;
      drawn = w.seed;
      step = w.step;
      sent = sends_write c is.target message w.step current;
      statement =
          ap (λ (k : Option (List ℕ)). statement_by (present_seed s) c.serial k (write_of s w.tried.copy))
          w.key
          ∙ ap (λ (r : Option Request). statement_by (present_seed s) c.serial (key_at w.step) r) (w.write
          ∙ ap (λ (r : Request). Some r) is.is)
          ∙ own_hash c (present_seed s) is.target message w.step w.seed;
    }

writes_at : (s : LetterState) (tried : Option Try) (now : Option Client) → s.copies.present ≡ tried
    → s.client ≡ now → Holds s → WritesAt s tried now
writes_at s tried None at is h = tt
writes_at s None (Some c) at is h = let w = h.client c is in none_some w.tried (sym at ∙ w.present)
writes_at s (Some t) (Some c) at is h =
    let w = h.client c is in
    subst (λ (x : Try). WritesItsPiece s x c) (some_is w.tried t (sym w.present
    ∙ at)) (writes s c (h.whole w.tried w.present) w)

pub pieces_go_to_their_places : PiecesGoToTheirPlaces
pieces_go_to_their_places o notes =
    let s = letter_after o notes in
    writes_at s s.copies.present s.client refl refl (fold_holds (opened_letter o) notes (opened_holds o))
