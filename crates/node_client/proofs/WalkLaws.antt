-- Steps after steps.
use Rattle.std.proofs.Common.{◌≡◌, ◌≢◌, ◌<◌, ℕ, List, [], ◌∷◌, ◌++◌, Option, Some, None, Result, Ok, Err, refl, sym, ap, ◌∙◌, subst}
use Rattle.std.specs.Prelude.{option_map}
use Rattle.express_words.specs.Calls.{Call}
use Rattle.step_rules.specs.Client as steps
use Rattle.step_rules.specs.Client.{Client}
use Rattle.step_rules.specs.ClientAsks.{sends}
use Rattle.step_rules.specs.ClientReplies.{on_reply}
use Rattle.client_core.specs.Answers.{message_or}
use Rattle.node_exchange.specs.declared.exchanging.Broken.{Broken}
use Rattle.node_client.specs.declared.finished.Told.{Told}
use Rattle.node_client.specs.declared.peers.Peers.{Peers}
use Rattle.node_client.specs.declared.stop.Stop.{Stop}
use Rattle.node_client.specs.Talks.{Talk, TalksOn}
use Rattle.node_client.specs.Steps.{Ending, Done, told_in, IsMessage, dispatched, IsStep, heard, said, said_of, told_step, StepsOn, WalksOn, none, then, last_said, Walks, told_as, MessageBy, Walked}
use Rattle.node_client.proofs.TalkLaws.{talks_more}
use Rattle.node_client.proofs.TurnLaws.{steps_left, FaresBy, fares}

-- ---- what a step leaves

some_told : (r : Result (Option Ending) Stop) → told_step r ≡ Ok None → r ≡ Ok None
some_told (Ok None) e = refl
some_told (Ok (Some end)) e = absurd (cc e)
some_told (Err why) e = absurd (cc e)

next_only : (p : steps.Progress) → said_of p ≡ Ok None → p ≡ steps.Next
next_only steps.Next e = refl
next_only (steps.Finished outcome) e = absurd (cc e)
next_only (steps.Later refusal) e = absurd (cc e)
next_only steps.Ignored e = absurd (cc e)

finished_only : (p : steps.Progress) (end : Ending) → said_of p ≡ Ok (Some end) → (outcome : steps.Outcome) × (p ≡ steps.Finished outcome) × (end ≡ Done outcome)
finished_only steps.Next end e = absurd (cc e)
finished_only (steps.Finished outcome) end e = (outcome, refl, cc)
finished_only (steps.Later refusal) end e = absurd (cc e)
finished_only steps.Ignored end e = absurd (cc e)

step_sends : (c : Client) (t : Talk) → IsStep c t → sends c ≢ None
step_sends c t is e = absurd (cc (ap (option_map dispatched) e, is))

-- the request goes on, and its next step is nearer to the last
goes_nearer : (c : Client) (answer : Result (List ℕ) Broken) → sends c ≢ None → said c answer ≡ Ok None
    → (sends (heard c answer).client ≢ None) × (steps_left (heard c answer).client < steps_left c)
goes_nearer c (Err why) n e = absurd (cc e)
goes_nearer c (Ok bytes) n e =
    subst (λ (p : steps.Progress). FaresBy p c (on_reply c bytes).client) (next_only _ e) (fares c bytes n)

-- the request is finished, and none is current
ends_idle : (c : Client) (answer : Result (List ℕ) Broken) (end : Ending) → sends c ≢ None → said c answer ≡ Ok (Some end)
    → (heard c answer).client.current ≡ None
ends_idle c (Err why) end n e = absurd (cc e)
ends_idle c (Ok bytes) end n e =
    let f = finished_only _ end e in
    subst (λ (p : steps.Progress). FaresBy p c (on_reply c bytes).client) f.1 (fares c bytes n)

pub walks_idle : (start new : Client) (made : List Talk) (end : Ending) → Walks start new made (Ok end) → new.current ≡ None
walks_idle start new made end w =
    ap (λ (c : Client). c.current) w.client ∙ ends_idle w.last w.talk.exchange.answer end (step_sends w.last w.talk w.is_step) w.said_last

-- ---- where the steps stand

pub record Standing (peers : Peers) (start now : Client) (a b : Option (List Call)) : Type 0 where
  pub made : List Talk
  pub goes_on : WalksOn start now made
  pub calls : TalksOn peers made a b

pub standing : (peers : Peers) (start : Client) (a : Option (List Call)) → Standing peers start start a a
standing peers start a = record { made = []; goes_on = none; calls = refl }

pub stands_more : (peers : Peers) (start old new : Client) (message kept : List ℕ) (a b c : Option (List Call))
    → Standing peers start old a b → StepsOn peers old new message kept (Ok None) b c
    → Standing peers start new a c × (sends new ≢ None) × (steps_left new < steps_left old)
stands_more peers start old new message kept a b c s t =
    let on = some_told _ (sym t.told) in
    let n = goes_nearer old t.talk.exchange.answer (step_sends old t.talk t.is_step) on in
    let more : Standing peers start (heard old t.talk.exchange.answer).client a c = record {
      made = s.made ++ t.talk ∷ [];
      goes_on = then old s.made t.talk s.goes_on t.is_step on;
      calls = talks_more peers s.made t.talk a b c s.calls t.calls;
    } in (
      subst (λ (x : Client). Standing peers start x a c) (sym t.client) more,
      subst (λ (x : Client). sends x ≢ None) (sym t.client) n.0,
      subst (λ (x : Client). steps_left x < steps_left old) (sym t.client) n.1,
    )

-- ---- the last step

-- what was told is what the definition's step says
end_told : (r : Result (Option Ending) Stop) (told : Told) → Ok (Some told) ≡ told_step r → (end : Ending) × (r ≡ Ok (Some end)) × (told ≡ told_in end)
end_told (Ok None) told e = absurd (cc e)
end_told (Ok (Some end)) told e = (end, refl, cc)
end_told (Err why) told e = absurd (cc e)

stop_told : (r : Result (Option Ending) Stop) (why : Stop) → Err why ≡ told_step r → r ≡ Err why
stop_told (Ok end) why e = absurd (cc e)
stop_told (Err other) why e = let same : why ≡ other = cc in ap Err (sym same)

read_is : (message kept : List ℕ) (outcome : steps.Outcome) → kept ≡ message_or message (steps.Finished outcome) → IsMessage (Done outcome) kept
read_is message kept (steps.Message bytes) e = e
read_is message kept (steps.Registered n) e = tt
read_is message kept steps.Accepted e = tt
read_is message kept (steps.Refused refusal) e = tt

kept_is : (c : Client) (answer : Result (List ℕ) Broken) (message kept : List ℕ) (end : Ending) → said c answer ≡ Ok (Some end)
    → kept ≡ message_or message (heard c answer).progress → IsMessage end kept
kept_is c (Err why) message kept end e is = absurd (cc e)
kept_is c (Ok bytes) message kept end e is =
    let f = finished_only _ end e in
    subst (λ (x : Ending). IsMessage x kept) (sym f.2) (read_is message kept f.0 (is ∙ ap (message_or message) f.1))

ended : (peers : Peers) (start old new : Client) (message kept : List ℕ) (a b c : Option (List Call)) (end : Result Ending Stop) (r : Result (Option Told) Stop)
    → (s : Standing peers start old a b) → (t : StepsOn peers old new message kept r b c)
    → said old t.talk.exchange.answer ≡ last_said end → MessageBy end kept → Walked peers start new kept (told_as end) a c
ended peers start old new message kept a b c end r s t last read =
    let w : Walks start new (s.made ++ t.talk ∷ []) end = record {
      last = old;
      before = s.made;
      goes_on = s.goes_on;
      talk = t.talk;
      is_step = t.is_step;
      said_last = last;
      client = t.client;
      all = refl;
    } in
    record {
      made = s.made ++ t.talk ∷ [];
      end = end;
      walks = w;
      told = refl;
      message_is = read;
      calls = talks_more peers s.made t.talk a b c s.calls t.calls;
    }

pub ends_so : (peers : Peers) (start old new : Client) (message kept : List ℕ) (a b c : Option (List Call)) (told : Told)
    → Standing peers start old a b → StepsOn peers old new message kept (Ok (Some told)) b c → Walked peers start new kept (Ok told) a c
ends_so peers start old new message kept a b c told s t =
    let e = end_told _ told t.told in
    let read = kept_is old t.talk.exchange.answer message kept e.0 e.1 t.message_is in
    subst (λ (x : Told). Walked peers start new kept (Ok x) a c) (sym e.2) (ended peers start old new message kept a b c (Ok e.0) _ s t e.1 read)

pub stops_so : (peers : Peers) (start old new : Client) (message kept : List ℕ) (a b c : Option (List Call)) (why : Stop)
    → Standing peers start old a b → StepsOn peers old new message kept (Err why) b c → Walked peers start new kept (Err why) a c
stops_so peers start old new message kept a b c why s t =
    ended peers start old new message kept a b c (Err why) _ s t (stop_told _ why t.told) tt
