-- A step's frame on a net, and what came of it.
use Rattle.std.proofs.Common.{◌≡◌, ℕ, List, take, length, Option, Some, None, Result, Ok, Err, refl, sym, ap, ◌∙◌, subst}
use Rattle.std.specs.Prelude.{option_map}
use Rattle.express_words.specs.Calls.{Call}
use Rattle.frame_rules.specs.Spelling.{spelling}
use Rattle.step_rules.specs.Client.{Client}
use Rattle.step_rules.specs.ClientAsks.{Sent, sends}
use Rattle.client_core.specs.Answers.{addressed, bytes_of}
use Rattle.node_exchange.specs.Exchanging.{ExchangeOn}
use Rattle.node_exchange.specs.Exchanging.{EndsShort, Exchange, Makes, IsExchange, answer_in}
use Rattle.node_exchange.specs.declared.exchanging.Broken.{Broken}
use Rattle.node_exchange.specs.declared.exchanging.Broken.TheVariants as broken
use Rattle.node_exchange.proofs.EarlyLaws.{exchange_short}
use Rattle.node_client.specs.declared.peers.Peers.{Peers}
use Rattle.node_client.specs.Steps.{dispatched}
use Rattle.node_client.specs.Talks.{address_of}
use Rattle.kept_errands.specs.Steps.{Talked}

some_same : {A : Type 0} (x y : A) → Some x ≡ Some y → x ≡ y
some_same x y e = cc

sent_by : (o : Option Sent) (server size : ℕ) (out : List ℕ)
    → Some (server, size) ≡ option_map addressed o → take (length (bytes_of o)) out ≡ bytes_of o
    → option_map dispatched o ≡ Some (server, take size out)
sent_by None server size out e written = absurd (cc e)
sent_by (Some s) server size out e written =
    let both = some_same (server, size) (addressed s) e in
    let to : server ≡ s.server = ap (λ (p : ℕ × ℕ). p.0) both in
    let count : size ≡ length (spelling s.frame) = ap (λ (p : ℕ × ℕ). p.1) both in
    let bytes : spelling s.frame ≡ take size out = sym (ap (λ n. take n out) count ∙ written) in
    rw (to, bytes) refl

pub talked : (peers : Peers) (c : Client) (a b : Option (List Call)) (server size : ℕ) (out address : List ℕ) (answer : Result (List ℕ) Broken)
    → Some (server, size) ≡ option_map addressed (sends c) → take (length (bytes_of (sends c))) out ≡ bytes_of (sends c)
    → address ≡ address_of peers server
    → ((calls : List Call) × Makes a b calls × IsExchange address (record { sent = take size out; answer = answer }) calls)
    → Talked peers c answer a b
talked peers c a b server size out address answer sent written at calls =
    let e : Exchange = record { sent = take size out; answer = answer } in
    record {
      talk = record { server = server; exchange = e };
      is_step = sent_by (sends c) server size out sent written;
      answered = refl;
      calls = subst (λ (x : List ℕ). (calls : List Call) × Makes a b calls × IsExchange x e calls) at calls;
    }

-- the calls of an exchange end short only where its answer ended early
pub early_only : (peer sent : List ℕ) (answer : Result (List ℕ) Broken) (a b : Option (List Call)) (P : Type 0)
    → ((n : ℕ) → answer ≡ Err (broken.Early n) → P) → ExchangeOn peer (record { sent = sent; answer = answer }) a b → EndsShort b → P
early_only peer sent answer a b P early on ends = let s = exchange_short peer (record { sent = sent; answer = answer }) a b on ends in early s.0 s.1

pub early_in : (r : Result ℕ Broken) (into : List ℕ) (n : ℕ) → answer_in r into ≡ Err (broken.Early n) → r ≡ Err (broken.Early n)
early_in (Ok count) into n e = absurd (cc e)
early_in (Err why) into n e = let same : why ≡ broken.Early n = cc e in ap Err same
