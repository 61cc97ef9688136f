-- What a client's serial and current request are after a call.
use Rattle.std.proofs.Common.{◌≡◌, ◌≢◌, ◌^◌, ◌<◌, ◌∙◌, ℕ, List, Bool, true, false, Option, Some, None, Result, Ok, Err, refl, sym, ap, subst, arith}
use Rattle.std.specs.Prelude.{if◌then◌else◌, nat_le, IfOk, OnErr, option_map}
use Rattle.std.proofs.lemmas.Bool.{leb-false}
use Rattle.mailbox_rules.specs.Requests.{Request}
use Rattle.step_rules.specs.Client.{Client, Current, Fault, Spent, Turn, Progress, Ignored, Later, Next, Finished}
use Rattle.step_rules.specs.ClientAsks.{asked, asked_with, fault_at, own_fault, with_request}
use Rattle.step_rules.specs.ClientReplies.{on_reply}
use Rattle.client_restart.specs.Steps.{CoreState, boxes_with, errand_of, heard, untold_with}
use Rattle.client_restart.proofs.Turns.{Moves, Turns}
use Rattle.client_restart.proofs.TurnLaws.{reply_turns}

-- ---- a request that is taken

taken_with : (c d : Client) (request : Request) (f : Option Fault) → asked_with c request f ≡ Ok d → d.serial ≡ c.serial
taken_with c d request None is = let same : with_request c request ≡ d = cc in ap (λ (x : Client). x.serial) (sym same)
taken_with c d request (Some f) is = absurd (cc)

unspent_with : (c d : Client) (request : Request) (spent : Bool) → spent ≡ nat_le (2 ^ 32) c.serial
    → asked_with c request (if spent then Some Spent else own_fault c request) ≡ Ok d → d.serial < 2 ^ 32
unspent_with c d request true e is = absurd (cc)
unspent_with c d request false e is =
    let below : c.serial < 2 ^ 32 = leb-false (2 ^ 32) c.serial (sym e) in
    let same = taken_with c d request (own_fault c request) is in
    omega (arith, below, same)

unspent_at : (c d : Client) (request : Request) (now : Option Current) → asked_with c request (fault_at c request now) ≡ Ok d → d.serial < 2 ^ 32
unspent_at c d request (Some now) is = absurd (cc)
unspent_at c d request None is = unspent_with c d request (nat_le (2 ^ 32) c.serial) refl is

pub unspent_asked : (c d : Client) (request : Request) → asked c request ≡ Ok d → d.serial < 2 ^ 32
unfolding asked
unspent_asked c d request is = unspent_at c d request c.current is

-- a current request has a serial
abbrev pub IsUnspent : Client → Type 0
IsUnspent c = c.current ≢ None → c.serial < 2 ^ 32

pub ask_unspent : {T E : Type 0} (r : Result T E) (c d : Client) (request : Request) → IfOk r (λ _. asked c request ≡ Ok d) → OnErr r (d ≡ c)
    → IsUnspent c → IsUnspent d
ask_unspent (Ok v) c d request ok err was = λ busy. unspent_asked c d request ok
ask_unspent (Err e) c d request ok err was = subst IsUnspent (sym err) was

-- ---- a reply

unspent_moves : (c d : Client) (request : Request) (p : Progress) → Moves c request d p → c.serial < 2 ^ 32 → IsUnspent d
unspent_moves c d request Ignored m below = λ busy. omega (arith, below, ap (λ (x : Client). x.serial) m)
unspent_moves c d request (Later r) m below = λ busy. omega (arith, below, ap (λ (x : Client). x.serial) m)
unspent_moves c d request Next m below = λ busy. omega (arith, below, ap (λ (x : Client). x.serial) m.1)
unspent_moves c d request (Finished o) m below = λ busy. absurd (busy (ap (λ (x : Client). x.current) m))

unspent_turns : (c : Client) (now : Option Current) (t : Turn) → c.current ≡ now → Turns c now t → IsUnspent c → IsUnspent t.client
unspent_turns c None t at turns was = subst IsUnspent (sym turns.0) was
unspent_turns c (Some now) t at turns was =
    unspent_moves c t.client now.request t.progress turns (was (λ none. let no : Some now ≡ None = sym at ∙ none in absurd (cc no)))

pub reply_unspent : (c d : Client) (bytes : List ℕ) → d ≡ (on_reply c bytes).client → IsUnspent c → IsUnspent d
reply_unspent c d bytes is was = subst IsUnspent (sym is) (unspent_turns c c.current (on_reply c bytes) refl (reply_turns c bytes) was)

-- ---- what is heard

abbrev heard_with : CoreState → Option Current → Turn → CoreState
heard_with k now t = record {
  client = t.client;
  untold = untold_with k.untold k.client.serial now t.progress;
  boxes = boxes_with k.boxes k.client.serial t.progress;
  remarks = k.remarks;
}

idle_with : (k : CoreState) (now : Option Current) (t : Turn) → now ≡ None → Turns k.client now t → k ≡ heard_with k now t
idle_with k None t e turns =
    ap (λ (x : Client). record k { client = x }) (sym turns.0)
    ∙ ap (λ (p : Progress). heard_with k None (record { client = t.client; progress = p })) (sym turns.1)
idle_with k (Some now) t e turns = absurd (cc e)

pub heard_idle : (k : CoreState) (frame : List ℕ) → k.client.current ≡ None → k ≡ heard k frame
heard_idle k frame e = idle_with k k.client.current (on_reply k.client frame) e (reply_turns k.client frame)

pub no_errand : (now : Option Current) → option_map (λ (x : Current). errand_of x.request) now ≡ None → now ≡ None
no_errand None e = refl
no_errand (Some x) e = absurd (cc e)
