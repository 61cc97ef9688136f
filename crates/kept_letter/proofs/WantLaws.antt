-- How many bytes a frame that goes out has.
use Rattle.std.proofs.Common.{◌≡◌, ◌≤◌, ℕ, Bool, true, false, List, length, take, Option, Some, None, refl, sym, ap, ◌∙◌, arith}
use Rattle.std.proofs.lemmas.List.{length-take}
use Rattle.std.specs.Prelude.{if◌then◌else◌, not, ◌&&◌}
use Rattle.client_core.specs.Answers.{bytes_of}
use Rattle.client_core.specs.LastProof.{at_last_proof}
use Rattle.letter_copies.specs.Copies.{end_of}
use Rattle.letter_copies.specs.declared.copies.LetterEnd.{LetterEnd}
use Rattle.letter_copies.specs.declared.copies.Try.{Try}
use Rattle.step_rules.specs.Client.{Client}
use Rattle.step_rules.specs.ClientAsks.{Sent, sends}
use Rattle.kept_letter.specs.declared.next.LetterNext.{LetterNext}
use Rattle.kept_letter.specs.declared.next.LetterNext.TheVariants as next
use Rattle.kept_letter.specs.declared.next.Sending.{Sending}
use Rattle.door_work.specs.Asking.{Ask}
use Rattle.http_door.specs.Requests.{PlainRequest}
use Rattle.kept_letter.specs.Asking.{frame_request, letter_wants, wants}
use Rattle.kept_letter.specs.Letters.{LetterState, is_text_whole}
use Rattle.kept_letter.specs.Nexts.{end_or_begin, next_at, next_of, send_at, sending, sent_at}

by_sent : (s : LetterState) (copy : ℕ) (c : Client) (o : Option Sent) (x : Sending)
    → send_at s copy c o ≡ next.Send x → o ≡ sends c → x.len ≡ length (bytes_of (sends c))
by_sent s copy c None x e is = absurd (cc e)
by_sent s copy c (Some sent) x e is =
    let same : x ≡ sending s copy c sent = cc e in
    ap (λ (y : Sending). y.len) same ∙ ap (λ (o : Option Sent). length (bytes_of o)) is

by_proof : (s : LetterState) (copy : ℕ) (c : Client) (noted : Bool) (x : Sending)
    → (if noted then next.NoteProof else send_at s copy c (sends c)) ≡ next.Send x
    → x.len ≡ length (bytes_of (sends c))
by_proof s copy c true x e = absurd (cc e)
by_proof s copy c false x e = by_sent s copy c (sends c) x e refl

not_end : (end : Option LetterEnd) (x : Sending) → end_or_begin end ≡ next.Send x → ⊥
not_end None x e = absurd (cc e)
not_end (Some end) x e = absurd (cc e)

by_client : (s : LetterState) (tried : Option Try) (now : Option Client) (x : Sending)
    → next_at s tried now ≡ next.Send x → x.len ≡ length (bytes_of (sent_at (next.Send x) now))
by_client s None now x e = absurd (not_end (end_of s.copies) x e)
by_client s (Some t) None x e = absurd (cc e)
by_client s (Some t) (Some c) x e = by_proof s t.copy c (at_last_proof c.current && not t.proof_out) x e

by_text : (s : LetterState) (whole : Bool) (x : Sending)
    → (if whole then next_at s s.copies.present s.client else next.Text) ≡ next.Send x
    → x.len ≡ length (bytes_of (sent_at (next.Send x) s.client))
by_text s true x e = by_client s s.copies.present s.client x e
by_text s false x e = absurd (cc e)

-- as many as are told
pub sending_len : (s : LetterState) (x : Sending) → next_of s ≡ next.Send x
    → x.len ≡ length (bytes_of (sent_at (next.Send x) s.client))
unfolding next_of
sending_len s x e = by_text s (is_text_whole s) x e

-- they are in the buffer
pub sending_fits : (s : LetterState) (x : Sending) (room : List ℕ) → next.Send x ≡ next_of s
    → take (length (bytes_of (sent_at (next.Send x) s.client))) room ≡ bytes_of (sent_at (next.Send x) s.client)
    → x.len ≤ length room
sending_fits s x room is written =
    let frame : List ℕ = bytes_of (sent_at (next.Send x) s.client) in
    let size : x.len ≡ length frame = sending_len s x (sym is) in
    let whole : length (take (length frame) room) ≡ length frame = ap length written in
    omega (arith, size, whole, length-take {A = ℕ})

-- and so the frame is what goes out
pub sends_frame : (s : LetterState) (x : Sending) (room : List ℕ) (request : PlainRequest)
    → next.Send x ≡ next_of s
    → take (length (bytes_of (sent_at (next.Send x) s.client))) room ≡ bytes_of (sent_at (next.Send x) s.client)
    → request ≡ frame_request x.ticket x.statement (take x.len room) → Ask x.to request ≡ letter_wants s
unfolding letter_wants
sends_frame s x room request is written asked =
    let size = sending_len s x (sym is) in
    let frame : take x.len room ≡ bytes_of (sent_at (next.Send x) s.client) =
    ap (λ (n : ℕ). take n room) size ∙ written in
    ap (λ (r : PlainRequest). Ask x.to r) (asked ∙ ap (λ (f : List ℕ). frame_request x.ticket x.statement f) frame)
    ∙ ap (λ (n : LetterNext). wants n (bytes_of (sent_at n s.client))) is
