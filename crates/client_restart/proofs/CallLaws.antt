-- Which requests and replies are kept.
use Rattle.std.proofs.Common.{◌≡◌, ◌∙◌, Bool, Option, Some, None, Result, Ok, Err, List, ℕ, true, false, refl, sym, ap}
use Rattle.std.specs.Prelude.{is_ok, IsErrOf, IsOk}
use Rattle.express_words.specs.declared.refusal.Refusal.{Refusal}
use Rattle.frame_rules.specs.Frames.{PlainFrame}
use Rattle.frame_rules.specs.Whole.{whole}
use Rattle.mailbox_rules.specs.Requests.{Request}
use Rattle.node_journal.specs.declared.fault.JournalFault.TheVariants.{Closed, NotEmpty, Full, Disk, Damaged}
use Rattle.step_rules.specs.Client.{Client, Fault}
use Rattle.step_rules.specs.ClientAsks.{asked, asked_with, fault_at}
use Rattle.step_rules.specs.ClientReplies.{if_whole, on_reply}
use Rattle.client_core.specs.Answers.{progress_in}
use Rattle.kept_machine.specs.declared.fault.KeepFault.{KeepFault}
use Rattle.kept_machine.specs.declared.fault.KeepFault.TheVariants.{Journal, NoMemory, Foreign}
use Rattle.kept_machine.specs.Faults.{IsOkOrDiskFault}
use Rattle.client_restart.specs.Hears.{makes_step}
use Rattle.client_restart.specs.Keeps.{KeepsNote, Sight}
use Rattle.client_restart.specs.Notes.{Noted}

-- ---- a request

pub refused_is : (c : Client) (request : Request) (f : Fault) → Some f ≡ fault_at c request c.current → asked c request ≡ Err f
unfolding asked
refused_is c request f e = ap (asked_with c request) (sym e)

pub taken_is : (c : Client) (request : Request) → None ≡ fault_at c request c.current → IsOk (asked c request)
unfolding asked
taken_is c request e = ap (λ (f : Option Fault). is_ok (asked_with c request f)) (sym e)

-- ---- a reply

whole_heard : (c : Client) (w : Result PlainFrame Refusal) → makes_step (progress_in (if_whole c w).progress) ≡ true → IsOk w
unfolding if_whole
whole_heard c (Err r) e = absurd (cc e)
whole_heard c (Ok f) e = refl

pub step_whole : (c : Client) (bytes : List ℕ) → makes_step (progress_in (on_reply c bytes).progress) ≡ true → IsOk (whole bytes)
step_whole c bytes e = whole_heard c (whole bytes) e

pub one_test : (b : Bool) → b ≡ true → b ≡ false → ⊥
one_test b is isnt = let e : true ≡ false = sym is ∙ isnt in cc

pub one_answer : {A B : Type 0} (r : Result A B) (f : B) → IsOk r → r ≡ Err f → ⊥
one_answer (Ok v) f ok err = cc
one_answer (Err e) f ok err = cc ok

-- ---- a fault

fault_of : (T : Type 0) (f g : KeepFault) → IsErrOf {T = T} (Err f) g → f ≡ g
fault_of T f g e = cc

-- whatever a call would answer else
pub same_fault : (T U : Type 0) (f g : KeepFault) → IsErrOf {T = T} (Err f) g → IsErrOf {T = U} (Err f) g
same_fault T U f g e = ap (λ (x : KeepFault). Err x) (fault_of T f g e)

either : (T U : Type 0) (f : KeepFault) → IsOkOrDiskFault {T = T} (Err f) → IsOkOrDiskFault {T = U} (Err f)
either T U (Journal (Disk faults)) ok = tt
either T U (Journal Closed) ok = absurd ok
either T U (Journal NotEmpty) ok = absurd ok
either T U (Journal (Full end)) ok = absurd ok
either T U (Journal (Damaged at)) ok = absurd ok
either T U NoMemory ok = absurd ok
either T U (Foreign n) ok = absurd ok

-- a fault keeps the same, whatever a call would answer else
pub keeps_err : (T U : Type 0) (n : Noted) (old new : Sight) (f : KeepFault) → KeepsNote {T = T} n old new (Err f) → KeepsNote {T = U} n old new (Err f)
keeps_err T U n old new f k =
    let over : (g : KeepFault) → IsErrOf {T = T} (Err f) g → IsErrOf {T = U} (Err f) g = λ g e. same_fault T U f g e in
    let back : (g : KeepFault) → IsErrOf {T = U} (Err f) g → IsErrOf {T = T} (Err f) g = λ g e. same_fault U T f g e in
    record {
      opening = k.opening;
      step = tt;
      no_step = k.no_step;
      added = tt;
      longer = tt;
      stands = k.stands;
      durable = k.durable;
      any_moment = k.any_moment;
      judged = record {
        closed = λ closed. over (Journal Closed) (k.judged.closed closed);
        full = λ still passes. over (Journal (Full old.journal.end)) (k.judged.full still passes);
        memory = λ e. k.judged.memory (back NoMemory e);
        fits = λ some still fits.
            let was = k.judged.fits (λ e. some (over NoMemory e)) still fits in (either T U f was.0, was.1);
      };
      counts = k.counts;
    }
