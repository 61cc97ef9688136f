-- Steps after steps.
use Rattle.std.proofs.Common.{◌≡◌, ◌≢◌, ◌<◌, ℕ, List, [], ◌∷◌, ◌++◌, Option, Some, None, Result, Ok, Err, refl, sym, ap, ◌∙◌, subst}
use Rattle.std.specs.Prelude.{OnOk}
use Rattle.express_words.specs.Calls.{Call}
use Rattle.express_words.specs.Seen.{Seen}
use Rattle.step_rules.specs.ClientAsks.{sends}
use Rattle.step_rules.specs.Client.{Client}
use Rattle.client_core.specs.declared.progress.Outcome.{Outcome as Told}
use Rattle.client_core.specs.declared.progress.Progress.{Progress}
use Rattle.client_core.specs.declared.progress.Progress.TheVariants as progress
use Rattle.express_words.specs.declared.refusal.Refusal.{Refusal}
use Rattle.client_restart.specs.declared.opening.ClientOpening.{ClientOpening}
use Rattle.client_restart.specs.Kept.{ClientState}
use Rattle.client_restart.specs.Steps.{CoreState}
use Rattle.node_journal.specs.Disk.{DiskSeen}
use Rattle.node_exchange.specs.declared.exchanging.Broken.{Broken}
use Rattle.node_client.specs.declared.peers.Peers.{Peers}
use Rattle.node_client.specs.declared.stop.Stop.TheVariants as stop
use Rattle.node_client.specs.Steps.{IsStep, said}
use Rattle.node_client.specs.Talks.{Talk, TalksOn}
use Rattle.node_client.proofs.TalkLaws.{talks_more}
use Rattle.node_client.proofs.TurnLaws.{steps_left}
use Rattle.kept_errands.specs.declared.halt.Halt.{Halt}
use Rattle.kept_errands.specs.declared.halt.Halt.TheVariants as halt
use Rattle.kept_errands.specs.Steps.{Stepped}
use Rattle.kept_errands.specs.Works.{heard, GoesOn, none, then, EndsBy, Works, WorkedOff, IsEnded, AnswersStep}
use Rattle.kept_errands.proofs.OnwardLaws.{Onward, onward, goes_on, nearer, ends, step_sends, sends_busy}
use Rattle.kept_errands.proofs.StepLaws.{CameBy, comes}

-- ---- where the steps stand

pub record Standing {D : Type 0} (peers : Peers) (start now : ClientState D) (a b : Option (List Call)) : Type 0 where
  pub made : List Talk
  pub steps : GoesOn start.core now.core made
  pub onward : Onward start.core now.core
  pub opening : now.opening ≡ start.opening
  pub calls : TalksOn peers made a b

pub standing : {D : Type 0} (peers : Peers) (start : ClientState D) (a : Option (List Call)) → Standing peers start start a a
standing peers start a = record { made = []; steps = none; onward = onward start.core; opening = refl; calls = refl }

abbrev Busy : CoreState → Type 0
Busy k = k.client.current ≢ None

pub stands_more : {D : Type 0} (peers : Peers) (shows : D → DiskSeen) (counts : D → Seen) (start old new : ClientState D) (a b c : Option (List Call))
    → Standing peers start old a b → Stepped peers shows counts old new (Ok progress.Next) b c
    → Standing peers start new a c × (new.core.client.current ≢ None) × (steps_left new.core.client < steps_left old.core.client)
stands_more peers shows counts start old new a b c s t =
    let came = comes shows counts old new (Ok progress.Next) t.answer t.hears in
    let talk = t.talked.talk in
    let answer : Result (List ℕ) Broken = talk.exchange.answer in
    let same : answer ≡ t.answer = t.talked.answered in
    let next : said old.core.client answer ≡ Ok None = ap (said old.core.client) same ∙ came.0.0 in
    let new_is : new.core ≡ heard old.core answer = came.0.1 ∙ ap (heard old.core) (sym same) in
    let sending = step_sends old.core.client talk t.talked.is_step in
    let near = nearer old.core answer sending next in (
      record {
        made = s.made ++ talk ∷ [];
        steps = subst (λ (k : CoreState). GoesOn start.core k (s.made ++ talk ∷ [])) (sym new_is) (then old.core s.made talk s.steps t.talked.is_step next);
        onward = subst (Onward start.core) (sym new_is) (goes_on start.core old.core answer s.onward (sends_busy _ sending) next);
        opening = came.1 ∙ s.opening;
        calls = talks_more peers s.made talk a b c s.calls t.talked.calls;
      },
      subst (λ (k : CoreState). k.client.current ≢ None) (sym new_is) near.0,
      subst (λ (k : CoreState). steps_left k.client < steps_left old.core.client) (sym new_is) near.1,
    )

-- ---- the last step

-- where the work is, once it has halted or come to the request's end
pub record Over {D : Type 0} (peers : Peers) (start new : ClientState D) (result : Result Unit Halt) (a c : Option (List Call)) : Type 0 where
  pub worked : WorkedOff peers start.core new.core result a c
  pub ended : OnOk result (IsEnded start.core new.core)
  pub remarks : new.core.remarks ≡ start.core.remarks
  pub opening : new.opening ≡ start.opening

over : {D : Type 0} (peers : Peers) (start old new : ClientState D) (result : Result Unit Halt) (a b c : Option (List Call))
    (s : Standing peers start old a b) (talk : Talk) → IsStep old.core.client talk → TalksOn peers (s.made ++ talk ∷ []) a c
    → EndsBy old.core new.core talk.exchange.answer result → WorkedOff peers start.core new.core result a c
over peers start old new result a b c s talk is calls ends =
    let w : Works start.core new.core (s.made ++ talk ∷ []) result = record {
      last = old.core;
      before = s.made;
      goes_on = s.steps;
      talk = talk;
      is_step = is;
      all = refl;
      ends = ends;
    } in
    record { made = s.made ++ talk ∷ []; works = w; calls = calls }

pub ends_so : {D : Type 0} (peers : Peers) (shows : D → DiskSeen) (counts : D → Seen) (start old new : ClientState D) (outcome : Told) (a b c : Option (List Call))
    → Standing peers start old a b → Stepped peers shows counts old new (Ok (progress.Finished outcome)) b c → Over peers start new (Ok tt) a c
ends_so peers shows counts start old new outcome a b c s t =
    let came = comes shows counts old new (Ok (progress.Finished outcome)) t.answer t.hears in
    let talk = t.talked.talk in
    let answer : Result (List ℕ) Broken = talk.exchange.answer in
    let same : answer ≡ t.answer = t.talked.answered in
    let done = ap (said old.core.client) same ∙ came.0.0.1 in
    let new_is : new.core ≡ heard old.core answer = came.0.1 ∙ ap (heard old.core) (sym same) in
    let busy = sends_busy _ (step_sends old.core.client talk t.talked.is_step) in
    let end = ends start.core old.core answer came.0.0.0 s.onward busy done in
    record {
      worked = over peers start old new (Ok tt) a b c s talk t.talked.is_step (talks_more peers s.made talk a b c s.calls t.talked.calls) ((came.0.0.0, done), new_is);
      ended = subst (IsEnded start.core) (sym new_is) end.0;
      remarks = ap (λ (k : CoreState). k.remarks) new_is ∙ end.1;
      opening = came.1 ∙ s.opening;
    }

stopped : {D : Type 0} (peers : Peers) (start old new : ClientState D) (why : Halt) (a b c : Option (List Call))
    (s : Standing peers start old a b) (talk : Talk) → IsStep old.core.client talk → TalksOn peers (s.made ++ talk ∷ []) a c
    → EndsBy old.core new.core talk.exchange.answer (Err why) → new.core ≡ old.core → new.opening ≡ old.opening → Over peers start new (Err why) a c
stopped peers start old new why a b c s talk is calls ends same kept = record {
  worked = over peers start old new (Err why) a b c s talk is calls ends;
  ended = tt;
  remarks = ap (λ (k : CoreState). k.remarks) same ∙ s.onward.remarks;
  opening = kept ∙ s.opening;
}

pub later_so : {D : Type 0} (peers : Peers) (shows : D → DiskSeen) (counts : D → Seen) (start old new : ClientState D) (refusal : Refusal) (a b c : Option (List Call))
    → Standing peers start old a b → Stepped peers shows counts old new (Ok (progress.Later refusal)) b c → Over peers start new (Err (halt.Stop (stop.Later refusal))) a c
later_so peers shows counts start old new refusal a b c s t =
    let came = comes shows counts old new (Ok (progress.Later refusal)) t.answer t.hears in
    let talk = t.talked.talk in
    stopped peers start old new _ a b c s talk t.talked.is_step (talks_more peers s.made talk a b c s.calls t.talked.calls)
    (ap (said old.core.client) t.talked.answered ∙ came.0.0, came.0.1) came.0.1 came.1

pub ignored_so : {D : Type 0} (peers : Peers) (shows : D → DiskSeen) (counts : D → Seen) (start old new : ClientState D) (a b c : Option (List Call))
    → Standing peers start old a b → Stepped peers shows counts old new (Ok progress.Ignored) b c → Over peers start new (Err (halt.Stop stop.Answer)) a c
ignored_so peers shows counts start old new a b c s t =
    let came = comes shows counts old new (Ok progress.Ignored) t.answer t.hears in
    let talk = t.talked.talk in
    stopped peers start old new _ a b c s talk t.talked.is_step (talks_more peers s.made talk a b c s.calls t.talked.calls)
    (ap (said old.core.client) t.talked.answered ∙ came.0.0, came.0.1) came.0.1 came.1

pub halts_so : {D : Type 0} (peers : Peers) (shows : D → DiskSeen) (counts : D → Seen) (start old new : ClientState D) (why : Halt) (a b c : Option (List Call))
    → Standing peers start old a b → Stepped peers shows counts old new (Err why) b c → Over peers start new (Err why) a c
halts_so peers shows counts start old new (halt.Stop why) a b c s t =
    let came = comes shows counts old new (Err (halt.Stop why)) t.answer t.hears in
    let talk = t.talked.talk in
    stopped peers start old new _ a b c s talk t.talked.is_step (talks_more peers s.made talk a b c s.calls t.talked.calls)
    (ap (said old.core.client) t.talked.answered ∙ came.0.0, came.0.1) came.0.1 came.1
halts_so peers shows counts start old new (halt.Keep fault) a b c s t =
    let came = comes shows counts old new (Err (halt.Keep fault)) t.answer t.hears in
    let talk = t.talked.talk in
    stopped peers start old new _ a b c s talk t.talked.is_step (talks_more peers s.made talk a b c s.calls t.talked.calls)
    (subst (AnswersStep old.core) (sym t.talked.answered) came.0.0, came.0.1) came.0.1 came.1
