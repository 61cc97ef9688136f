-- What keeps a try whole.
use Rattle.std.proofs.Common.{◌≡◌, ◌<◌, ◌≤◌, ℕ, arith, true, List, Option, Some, None, Result, Ok, Err, refl, sym, ap, ◌∙◌, subst, length}
use Rattle.std.specs.Prelude.{option_map}
use Rattle.express_words.specs.Seen.{Seen}
use Rattle.mailbox_rules.specs.Requests.{Request, Register, Write, Read, Retire}
use Rattle.step_rules.specs.Client as steps
use Rattle.step_rules.specs.Client.{Client, Current}
use Rattle.step_rules.specs.ClientReplies.{on_reply}
use Rattle.client_core.specs.Answers.{progress_in}
use Rattle.client_core.specs.declared.progress.Progress.{Progress}
use Rattle.client_core.specs.declared.progress.Progress.TheVariants as progress
use Rattle.kept_machine.specs.declared.fault.KeepFault.{KeepFault}
use Rattle.client_restart.specs.declared.opening.ClientOpening.{ClientOpening}
use Rattle.client_restart.specs.Hears.{makes_step}
use Rattle.client_restart.specs.Keeps.{KeepsNote, sight}
use Rattle.client_restart.specs.Kept.{ClientState}
use Rattle.client_restart.specs.Notes.{Heard, Remark}
use Rattle.client_restart.specs.Steps.{CoreState}
use Rattle.client_restart.proofs.Turns.{Moves, Turns}
use Rattle.client_restart.proofs.TurnLaws.{reply_turns}
use Rattle.node_journal.specs.Disk.{DiskSeen}
use Rattle.desk_texts.specs.Spelling.{IsCard, IsHead}
use Rattle.desk_texts.specs.declared.sheet.Sheet.{Sheet}
use Rattle.desk_outbox.specs.Outboxes.{IsTry, IsWrite, message_in, message_of}
use Rattle.desk_outbox.specs.declared.place.Place.{Place}

-- ---- the write

abbrev request_in : Option Current → Option Request
request_in now = option_map (λ (x : Current). x.request) now

pub requested : (now : Option Current) (r : Request) → Some r ≡ request_in now → message_of r ≡ message_in now
requested None r e = absurd (cc e)
requested (Some now) r e = let same : r ≡ now.request = cc e in ap message_of same

pub writes : (width : ℕ) (now : Option Current) → IsWrite width now → (target : ℕ) × (message : List ℕ) × (request_in now ≡ Some (Write target message))
writes width now w = (w.target, w.message, ap request_in w.is)

next_only : (p : steps.Progress) → progress_in p ≡ progress.Next → p ≡ steps.Next
next_only steps.Next e = refl
next_only (steps.Finished outcome) e = absurd (cc e)
next_only (steps.Later refusal) e = absurd (cc e)
next_only steps.Ignored e = absurd (cc e)

pub next_write : (width : ℕ) (c : Client) (bytes : List ℕ) → IsWrite width c.current → progress_in (on_reply c bytes).progress ≡ progress.Next
    → IsWrite width (on_reply c bytes).client.current
next_write width c bytes w e =
    let now : Current = record { request = Write w.target w.message; step = w.step } in
    let t : Turns c (Some now) (on_reply c bytes) = subst (λ (o : Option Current). Turns c o (on_reply c bytes)) w.is (reply_turns c bytes) in
    let m : Moves c (Write w.target w.message) (on_reply c bytes).client steps.Next
    = subst (λ (x : steps.Progress). Moves c (Write w.target w.message) (on_reply c bytes).client x) (next_only _ e) t in
    record { target = w.target; message = w.message; step = m.0; is = ap (λ (d : Client). d.current) m.1; fits = w.fits }

pub written : (target : ℕ) (message : List ℕ) (now : Option Current) → Some (Write target message) ≡ request_in now → IsWrite (length message) now
written target message None e = absurd (cc e)
written target message (Some now) e =
    let same : Write target message ≡ now.request = cc e in
    record { target = target; message = message; step = now.step; is = ap (λ (r : Request). Some (record { request = r; step = now.step })) (sym same); fits = refl }

-- a box's bytes are few
pub few_bytes : (o : ClientOpening) (card : Sheet) (p : Place) (now : Option Current) → IsTry o card p now
    → length (message_in now) ≤ 4096
few_bytes o card p now t =
    let head : IsCard t.on_card.head = subst IsHead t.on_card.is_card t.on_card.sheet.head in
    let bytes : length (message_in now) ≡ length t.write.message = ap (λ (x : Option Current). length (message_in x)) t.write.is in
    omega (arith, head.width.most, t.on_card.width, t.write.fits, bytes)

-- ---- a try behind a note, and behind a frame

pub moved : (o : ClientOpening) (card : Sheet) (p q : Place) (now : Option Current) → IsTry o card p now → q.first < length card.addresses
    → q.address < length card.addresses → IsTry o card q now
moved o card p q now t first address = record { on_card = t.on_card; first = first; address = address; few = t.few; write = t.write }

pub same_try : (o n : ClientOpening) (card : Sheet) (p : Place) (now new : Option Current) → IsTry o card p now → n ≡ o → new ≡ now → IsTry n card p new
same_try o n card p now new t e f =
    subst (λ (x : ClientOpening). IsTry x card p new) (sym e) (subst (λ (x : Option Current). IsTry o card p x) (sym f) t)

pub noted_try : {D : Type 0} (shows : D → DiskSeen) (counts : D → Seen) (card : Sheet) (p q : Place) (words : List ℕ) (old new : ClientState D)
    → IsTry old.opening card p old.core.client.current → q.first < length card.addresses → q.address < length card.addresses
    → KeepsNote {T = Unit {0}} (Remark words) (sight shows counts old) (sight shows counts new) (Ok (tt {0}))
    → IsTry new.opening card q new.core.client.current
noted_try shows counts card p q words old new t first address keeps =
    same_try old.opening new.opening card q _ _ (moved _ card p q _ t first address) keeps.opening
    (ap (λ (k : CoreState). k.client.current) keeps.step)

pub missed_try : {D T : Type 0} (shows : D → DiskSeen) (counts : D → Seen) (card : Sheet) (p : Place) (words : List ℕ) (old new : ClientState D) (f : KeepFault)
    → IsTry old.opening card p old.core.client.current
    → KeepsNote {T = T} (Remark words) (sight shows counts old) (sight shows counts new) (Err f)
    → IsTry new.opening card p new.core.client.current
missed_try shows counts card p words old new f t keeps =
    same_try old.opening new.opening card p _ _ t keeps.opening (ap (λ (k : CoreState). k.client.current) keeps.no_step)

pub steps_on : (p : Progress) → p ≡ progress.Next → makes_step p ≡ true
steps_on p e = ap makes_step e

pub heard_try : {D T : Type 0} (shows : D → DiskSeen) (counts : D → Seen) (card : Sheet) (p : Place) (bytes : List ℕ) (old new : ClientState D) (r : Result T KeepFault)
    → IsTry old.opening card p old.core.client.current → progress_in (on_reply old.core.client bytes).progress ≡ progress.Next
    → KeepsNote {T = T} (Heard bytes) (sight shows counts old) (sight shows counts new) r
    → IsTry new.opening card p new.core.client.current
heard_try shows counts card p bytes old new (Ok x) t e keeps =
    let w = next_write old.opening.width old.core.client bytes t.write e in
    let is : IsTry old.opening card p (on_reply old.core.client bytes).client.current
    = record { on_card = t.on_card; first = t.first; address = t.address; few = t.few; write = w } in
    same_try old.opening new.opening card p _ _ is keeps.opening (ap (λ (k : CoreState). k.client.current) keeps.step)
heard_try shows counts card p bytes old new (Err f) t e keeps =
    same_try old.opening new.opening card p _ _ t keeps.opening (ap (λ (k : CoreState). k.client.current) keeps.no_step)

-- a try's request is a write
other_than : (now : Option Current) (r s : Request) → Some r ≡ request_in now → request_in now ≡ Some s → r ≡ s
other_than now r s e f = let both : Some r ≡ Some s = e ∙ f in cc both

pub is_write : (width : ℕ) (now : Option Current) (r : Request) → IsWrite width now → Some r ≡ request_in now → (target : ℕ) × (message : List ℕ) × (r ≡ Write target message)
is_write width now r w e = (w.target, w.message, other_than now r (Write w.target w.message) e (ap request_in w.is))

pub no_register : (width address : ℕ) (now : Option Current) → IsWrite width now → Some (Register address) ≡ request_in now → ⊥
no_register width address now w e = let x = (is_write width now _ w e).2 in absurd (cc x)

pub no_read : (width own : ℕ) (now : Option Current) → IsWrite width now → Some (Read own) ≡ request_in now → ⊥
no_read width own now w e = let x = (is_write width now _ w e).2 in absurd (cc x)

pub no_retire : (width own : ℕ) (now : Option Current) → IsWrite width now → Some (Retire own) ≡ request_in now → ⊥
no_retire width own now w e = let x = (is_write width now _ w e).2 in absurd (cc x)

pub no_none : (width : ℕ) (now : Option Current) → IsWrite width now → None ≡ request_in now → ⊥
no_none width now w e = let x : None ≡ Some (Write w.target w.message) = e ∙ ap request_in w.is in absurd (cc x)
