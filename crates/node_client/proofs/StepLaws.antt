-- One step on a net.
use Rattle.std.proofs.Common.{◌≡◌, ℕ, List, take, length, Option, Some, None, Result, Ok, Err, refl, sym, ap, ◌∙◌, subst}
use Rattle.std.specs.Prelude.{option_map, IsErrAnd}
use Rattle.express_words.specs.Calls.{Call}
use Rattle.frame_rules.specs.Spelling.{spelling}
use Rattle.step_rules.specs.Client as steps
use Rattle.step_rules.specs.Client.{Client}
use Rattle.step_rules.specs.ClientAsks.{Sent, sends}
use Rattle.client_core.specs.Answers.{addressed, bytes_of, progress_in, message_or}
use Rattle.client_core.specs.declared.progress.Progress.{Progress}
use Rattle.client_core.specs.declared.progress.Progress.TheVariants as progress
use Rattle.node_exchange.specs.Exchanging.{Exchange, ExchangeOn}
use Rattle.node_exchange.specs.declared.exchanging.Broken.{Broken}
use Rattle.node_client.specs.declared.finished.Told.{Told}
use Rattle.node_client.specs.declared.finished.Told.TheVariants as told
use Rattle.node_client.specs.declared.peers.Peers.{Peers}
use Rattle.node_client.specs.declared.stop.Stop.{Stop}
use Rattle.node_client.specs.declared.stop.Stop.TheVariants as stop
use Rattle.node_client.specs.Talks.{address_of}
use Rattle.node_client.specs.Steps.{dispatched, heard, said, said_of, stop_at, told_step, StepsOn}

some_same : {A : Type 0} (x y : A) → Some x ≡ Some y → x ≡ y
some_same x y e = cc

sent_by : (o : Option Sent) (server size : ℕ) (out : List ℕ)
    → Some (server, size) ≡ option_map addressed o → take (length (bytes_of o)) out ≡ bytes_of o
    → option_map dispatched o ≡ Some (server, take size out)
sent_by None server size out e written = absurd (cc e)
sent_by (Some s) server size out e written =
    let both = some_same (server, size) (addressed s) e in
    let to : server ≡ s.server = ap (λ (p : ℕ × ℕ). p.0) both in
    let count : size ≡ length (spelling s.frame) = ap (λ (p : ℕ × ℕ). p.1) both in
    let bytes : spelling s.frame ≡ take size out = sym (ap (λ n. take n out) count ∙ written) in
    rw (to, bytes) refl

-- what the client's word of a reply comes to
abbrev pub step_by : Progress → Result (Option Told) Stop
step_by progress.Next = Ok None
step_by (progress.Finished outcome) = Ok (Some (told.Done outcome))
step_by (progress.Later refusal) = Err (stop.Later refusal)
step_by progress.Ignored = Err stop.Answer

told_by : (p : steps.Progress) → step_by (progress_in p) ≡ told_step (said_of p)
told_by steps.Next = refl
told_by (steps.Finished outcome) = refl
told_by (steps.Later refusal) = refl
told_by steps.Ignored = refl

pub step_told : (p : steps.Progress) (x : Progress) → x ≡ progress_in p → step_by x ≡ told_step (said_of p)
step_told p x e = ap step_by e ∙ told_by p

pub err_is : {A : Type 0} (r : Result A Stop) (why : Broken) → IsErrAnd r (λ s. s ≡ stop_at why) → r ≡ Err (stop_at why)
err_is (Ok x) why h = absurd h
err_is (Err s) why h = ap Err h

pub stepped : (peers : Peers) (old new : Client) (message kept : List ℕ) (result : Result (Option Told) Stop) (a b : Option (List Call))
    (server size : ℕ) (out address : List ℕ) (answer : Result (List ℕ) Broken)
    → Some (server, size) ≡ option_map addressed (sends old) → take (length (bytes_of (sends old))) out ≡ bytes_of (sends old)
    → address ≡ address_of peers server
    → ExchangeOn address (record { sent = take size out; answer = answer }) a b
    → new ≡ (heard old answer).client → result ≡ told_step (said old answer)
    → kept ≡ message_or message (heard old answer).progress
    → StepsOn peers old new message kept result a b
stepped peers old new message kept result a b server size out address answer sent written at calls new_is told_is kept_is =
    let e : Exchange = record { sent = take size out; answer = answer } in
    record {
      talk = record { server = server; exchange = e };
      is_step = sent_by (sends old) server size out sent written;
      client = new_is;
      told = told_is;
      message_is = kept_is;
      calls = subst (λ (x : List ℕ). ExchangeOn x e a b) at calls;
    }
