-- A client that goes on has its request still.
use Rattle.std.proofs.Common.{◌≡◌, ◌≢◌, ℕ, ◌<◌, ◌^◌, List, Option, Some, None, Ok, sym, ◌∙◌, ap}
use Rattle.std.proofs.Common.{subst}
use Rattle.std.specs.Prelude.{option_map, IfSome}
use Rattle.mailbox_rules.specs.Requests.{Request}
use Rattle.step_rules.specs.Client.{Client, Fault, opened_client}
use Rattle.step_rules.specs.ClientAsks.{asked, asked_with, fault_at, with_request}
use Rattle.step_rules.specs.ClientReplies.{on_reply}
use Rattle.letter_copies.specs.declared.copies.Next.TheVariants.{GoOn}
use Rattle.letter_copies.specs.declared.heard.Answer.{Answer}
use Rattle.letter_copies.specs.Copies.{CopiesState, turn_of}
use Rattle.kept_letter.specs.declared.plan.Plan.{Plan}
use Rattle.kept_letter.specs.Inside.{IsClientFor}
use Rattle.kept_letter.specs.Letters.{answer_in}
use Rattle.kept_letter.proofs.KeyLaws.{next_goes_on, still_busy}
use Rattle.kept_letter.proofs.ReplyLaws.{goes_next}

some_is : {A : Type 0} (a b : A) → Some a ≡ Some b → a ≡ b
some_is a b e = cc e

pub goes_busy : (copies : CopiesState) (bytes : List ℕ) (a : Answer) (client : Option Client)
    → Some a ≡ option_map (λ c. answer_in (on_reply c bytes).progress) client
    → GoOn ≡ (turn_of copies a).next
    → IfSome client (λ c. (on_reply c bytes).client.current ≢ None)
goes_busy copies bytes a None is at = absurd (cc is)
goes_busy copies bytes a (Some c) is at =
    let same : a ≡ answer_in (on_reply c bytes).progress = some_is _ _ is in
    let next = goes_next copies (on_reply c bytes).progress
    (ap (λ (x : Answer). (turn_of copies x).next) (sym same) ∙ sym at) in
    still_busy c (on_reply c bytes).client bytes (next_goes_on c bytes next)

-- a client that was opened for these boxes and asks is one for them
taken_for : (plan : Plan) (c d : Client) (request : Request) (f : Option Fault)
    → asked_with c request f ≡ Ok d → c.width ≡ plan.card.width → c.serial < 2 ^ 32 → IsClientFor plan d
taken_for plan c d request None e width fits =
    let same : with_request c request ≡ d = cc e in
    subst (λ (x : Client). IsClientFor plan x) same (record {
      width = width;
      busy = λ none. cc none;
      unspent
          = fits;
    })
taken_for plan c d request (Some f) e width fits = absurd (cc e)

pub asked_for : (plan : Plan) (c d : Client) (request : Request) → asked c request ≡ Ok d
    → c.width ≡ plan.card.width
    → c.serial < 2 ^ 32 → IsClientFor plan d
unfolding asked
asked_for plan c d request e width fits = taken_for plan c d request (fault_at c request c.current) e width
    fits

pub opened_serial : (lane width serial : ℕ) (seed : List ℕ) (c : Client)
    → c ≡ opened_client lane seed width 0 serial → c.serial ≡ serial
unfolding opened_client
opened_serial lane width serial seed c is = ap (λ (x : Client). x.serial) is
