-- A letter that is worked off asks what it has to ask.
use Rattle.std.proofs.Common.{◌≡◌, ℕ, Bool, true, false, List, [], ◌∷◌, ◌++◌, Option, Some, None, Result, Ok, Err, refl, sym, ap, ◌∙◌}
use Rattle.std.specs.Prelude.{if◌then◌else◌, not, ◌&&◌}
use Rattle.express_words.specs.Calls.{Call}
use Rattle.express_words.specs.Seen.{Seen}
use Rattle.kept_machine.specs.Keeps.{IsDurable, sight}
use Rattle.kept_machine.specs.Kept.{KeptState, Stands}
use Rattle.kept_machine.specs.Machines.{Runs}
use Rattle.node_journal.specs.Disk.{DiskSeen}
use Rattle.client_core.specs.LastProof.{at_last_proof}
use Rattle.step_rules.specs.Client.{Client}
use Rattle.step_rules.specs.ClientAsks.{Sent, sends}
use Rattle.door_work.specs.Asking.{Rest}
use Rattle.door_work.specs.Steps.{DiskFaultBy, NetFaultBy}
use Rattle.door_work.specs.Works.{GoesOn, KeptStep, WorkedOff}
use Rattle.door_work.specs.declared.halt.Halt.{Halt}
use Rattle.door_work.specs.declared.places.Places.{Places}
use Rattle.letter_copies.specs.Copies.{end_of}
use Rattle.letter_copies.specs.declared.copies.LetterEnd.{LetterEnd}
use Rattle.letter_copies.specs.declared.copies.Try.{Try}
use Rattle.client_core.specs.Answers.{bytes_of}
use Rattle.kept_letter.specs.declared.machine.KeptLetter.{KeptLetter}
use Rattle.kept_letter.specs.declared.next.LetterNext.TheVariants as next
use Rattle.kept_letter.specs.Asking.{letter_asking, letter_wants, wants}
use Rattle.kept_letter.specs.Letters.{LetterState, fold_from, is_text_whole, letter_after, opened_letter, step_of}
use Rattle.kept_letter.specs.Machines.{letter_rules}
use Rattle.kept_letter.specs.Nexts.{end_or_begin, next_at, next_of, send_at, sent_at}
use Rattle.kept_letter.specs.Notes.{Noted, Opening}
use Rattle.kept_letter.specs.Sent.{AreItsPlaces, AreOfLetter, EndsSo, SentBy, WorkedThere, work_of}
use Rattle.kept_letter.specs.declared.sending.Unsent.{Unsent}
use Rattle.kept_letter.specs.declared.sending.Unsent.TheVariants as unsent

-- ---- the letter that records give

fold_push : (s : LetterState) (notes : List Noted) (n : Noted)
    → fold_from s (notes ++ n ∷ []) ≡ step_of (fold_from s notes) n
unfolding fold_from
fold_push s [] n = refl
fold_push s (m ∷ notes) n = fold_push (step_of s m) notes n

runs_notes : (m now : KeptLetter) (later : List (List ℕ)) → Runs letter_rules m later now
    → (notes : List Noted) × (now.letter ≡ fold_from m.letter notes)
unfolding fold_from
runs_notes m now [] same = ([], ap (λ (k : KeptLetter). k.letter) same)
runs_notes m now (r ∷ later) (after, steps, rest) =
    let others = runs_notes after now later rest in
    (steps.note ∷ others.0, others.1 ∙ ap (λ (s : LetterState). fold_from s others.0) steps.step)

letter_given : (m : KeptLetter) (reads : List ℕ → Type 0) → Stands letter_rules m reads
    → (o : Opening) × (notes : List Noted) × (m.letter ≡ letter_after o notes)
letter_given m reads stands =
    let gives = stands.gives in
    let run = runs_notes gives.opened gives.stepped gives.form.later gives.runs in (
      gives.opens.opening,
      run.0,
      gives.same ∙ (run.1 ∙ ap (λ (s : LetterState). fold_from s run.0) gives.opens.letter),
    )

goes_own : (o : Opening) (notes : List Noted) (places : Places) (m now : KeptLetter) (made : List KeptStep)
    (a b : Option (List Call)) → m.letter ≡ letter_after o notes
    → GoesOn letter_rules letter_asking places m a made now b
    → AreOfLetter o made × ((all : List Noted) × (now.letter ≡ letter_after o all))
goes_own o notes places m now [] a b is (same, still) =
    (tt, (notes, ap (λ (k : KeptLetter). k.letter) same ∙ is))
goes_own o notes places m now (s ∷ made) a b is (next_letter, c, goes, others) =
    let note = goes.steps.note in
    let after : next_letter.letter ≡ letter_after o (notes ++ note ∷ []) =
    goes.steps.step ∙ (ap (λ (l : LetterState). step_of l note) is
    ∙ sym (fold_push (opened_letter o) notes note)) in
    let rest = goes_own o (notes ++ note ∷ []) places next_letter now made c b after others in
    (((notes, ap letter_wants (sym is) ∙ goes.is_step), rest.0), rest.1)

pub worked_there : {D : Type 0} (shows : D → DiskSeen) (counts : D → Seen) (old new : KeptState KeptLetter D)
    (result : Result (Unit {0}) Halt) (a b : Option (List Call)) (places : Places)
    → AreItsPlaces old.machine.letter.plan places
    → (old.journal.closed ≡ false → IsDurable letter_rules (sight shows counts old))
    → WorkedOff letter_rules letter_asking places shows counts old new result a b
    → WorkedThere shows counts old new result a b
worked_there shows counts old new result a b places are durable works = record {
  places = places;
  are = are;
  works = works;
  own = λ unclosed.
      let given = letter_given old.machine (shows old.disk).reads (durable unclosed).stands in
      let own = goes_own given.0 given.1 places old.machine works.last.machine works.made a works.calls given.2
      works.goes_on in
      record { opening = given.0; steps = own.0; notes = own.1.0; came_to = own.1.1 };
}

-- ---- a letter that rests, whose text is whole, has its end

sent_rests : (s : LetterState) (copy : ℕ) (c : Client) (o : Option Sent) (frame : List ℕ)
    → wants (send_at s copy c o) frame ≡ Rest → ⊥
sent_rests s copy c None frame e = cc e
sent_rests s copy c (Some sent) frame e = cc e

proof_rests : (s : LetterState) (copy : ℕ) (c : Client) (noted : Bool) (frame : List ℕ)
    → wants (if noted then next.NoteProof else send_at s copy c (sends c)) frame ≡ Rest → ⊥
proof_rests s copy c true frame e = cc e
proof_rests s copy c false frame e = sent_rests s copy c (sends c) frame e

end_rests : (end : Option LetterEnd) (frame : List ℕ) → wants (end_or_begin end) frame ≡ Rest → end ≡ None → ⊥
end_rests None frame e none = cc e
end_rests (Some end) frame e none = cc none

try_rests : (s : LetterState) (tried : Option Try) (now : Option Client) (frame : List ℕ)
    → wants (next_at s tried now) frame ≡ Rest → end_of s.copies ≡ None → ⊥
try_rests s None now frame e none = end_rests (end_of s.copies) frame e none
try_rests s (Some t) None frame e none = cc e
try_rests s (Some t) (Some c) frame e none =
    proof_rests s t.copy c (at_last_proof c.current && not t.proof_out) frame e

text_rests : (s : LetterState) (whole : Bool) (frame : List ℕ)
    → wants (if whole then next_at s s.copies.present s.client else next.Text) frame ≡ Rest → whole ≡ true
    → end_of s.copies ≡ None → ⊥
text_rests s true frame e is none = try_rests s s.copies.present s.client frame e none
text_rests s false frame e is none = cc is

pub has_end : (s : LetterState) → letter_wants s ≡ Rest → is_text_whole s ≡ true → end_of s.copies ≡ None → ⊥
unfolding letter_wants next_of
has_end s e is none = text_rests s (is_text_whole s) (bytes_of (sent_at (next_of s) s.client)) e is none

-- ---- how it came to rest

pub ended_so : {D : Type 0} (shows : D → DiskSeen) (counts : D → Seen) (old new : KeptState KeptLetter D)
    (r : Result LetterEnd Unsent) (a b : Option (List Call))
    → WorkedThere shows counts old new (Ok tt) a b → EndsSo new.machine.letter r
    → SentBy shows counts old new r a b
ended_so shows counts old new (Ok end) a b there ends = (there, ends.0, ends.1)
ended_so shows counts old new (Err unsent.NoText) a b there ends = (there, ends)
ended_so shows counts old new (Err (unsent.NoPlace server)) a b there ends = absurd ends
ended_so shows counts old new (Err unsent.NoMemory) a b there ends = absurd ends
ended_so shows counts old new (Err (unsent.Halted why)) a b there ends = absurd ends

pub net_ended : (s : LetterState) (r : Result LetterEnd Unsent) (before now : ℕ) → EndsSo s r → now ≡ before
    → NetFaultBy (work_of r) before now
net_ended s (Ok end) before now ends still = still
net_ended s (Err unsent.NoText) before now ends still = still
net_ended s (Err (unsent.NoPlace server)) before now ends still = absurd ends
net_ended s (Err unsent.NoMemory) before now ends still = absurd ends
net_ended s (Err (unsent.Halted why)) before now ends still = absurd ends

pub disk_ended : (s : LetterState) (r : Result LetterEnd Unsent) (before now : ℕ) → EndsSo s r → now ≡ before
    → DiskFaultBy (work_of r) before now
disk_ended s (Ok end) before now ends still = still
disk_ended s (Err unsent.NoText) before now ends still = still
disk_ended s (Err (unsent.NoPlace server)) before now ends still = absurd ends
disk_ended s (Err unsent.NoMemory) before now ends still = absurd ends
disk_ended s (Err (unsent.Halted why)) before now ends still = absurd ends
