-- One visit after another.
use Rattle.std.proofs.Common.{◌≡◌, ℕ, ◌+◌, ◌<◌, List, [], ◌∷◌, ◌++◌, length, Ok, Err, refl, subst, arith}
use Rattle.std.specs.Prelude.{flat_map}
use Rattle.std.proofs.lemmas.List.{length-append, flat_map_more}
use Rattle.std.proofs.lemmas.List.Sums.{fold_push}
use Rattle.express_words.specs.Seen.{Seen}
use Rattle.node_exchange.specs.Exchanging.{Makes}
use Rattle.node_restart.specs.Frames.{Handed}
use Rattle.node_serve.specs.Logs.{Log}
use Rattle.node_serve.specs.declared.node.Served.{Served}
use Rattle.node_serve.specs.declared.stop.Halt.{Halt}
use Rattle.node_serve.specs.declared.stop.Halt.TheVariants as halt
use Rattle.node_serve.specs.declared.tally.Tally.{Tally}
use Rattle.node_serve.specs.Tallies.{counted, tally_of}
use Rattle.node_serve.specs.Hosting.{Visited, Hosts}
use Rattle.node_serve.specs.Visits.{Visit, visit_calls, frames_of, Standing, VisitEnds, none, then}
use Rattle.node_serve.proofs.CallLaws.{makes_none, makes_both}

tally_more : (old new : Tally) (visits : List Visit) (v : Visit) (why : Served) → v.answer ≡ why
    → old ≡ tally_of visits → new ≡ counted old why → new ≡ tally_of (visits ++ v ∷ [])
tally_more old new visits v why same before more = rw (fold_push (λ (t : Tally) (v : Visit). counted t v.answer), same, ← before) more

-- ---- where a server stands after so many visits

pub record Hosting {S F : Type 0} (log : Log S F) (peer : List ℕ) (shown : Seen → Type 0)
    (start now : Standing S) (number : ℕ) (tally : Tally) : Type 0 where
  pub done : Visited log peer shown start now
  pub all : length done.visits ≡ number
  pub tally_is : tally ≡ tally_of done.visits

pub hosting : {S F : Type 0} (log : Log S F) (peer : List ℕ) (shown : Seen → Type 0) (start : Standing S) (tally : Tally)
    → ((s : S) → log.takes s s []) → tally ≡ tally_of [] → Hosting log peer shown start start 0 tally
hosting log peer shown start tally untaken is = record {
  done = record { visits = []; made = none; takes = untaken start.server; calls = makes_none start.net.calls };
  all = refl;
  tally_is = is;
}

pub hosting_more : {S F : Type 0} (log : Log S F) (peer : List ℕ) (shown : Seen → Type 0) (start old new : Standing S) (number : ℕ) (tally more : Tally) (answer : Served)
    → ((a b c : S) (xs ys : List Handed) → log.takes a b xs → log.takes b c ys → log.takes a c (xs ++ ys))
    → Hosting log peer shown start old number tally → VisitEnds log peer shown (Ok answer) old new
    → more ≡ counted tally answer → Hosting log peer shown start new (number + 1) more
hosting_more log peer shown start old new number tally more answer both h (v, same, is) counts =
    let done = h.done in
    record {
      done = record {
        visits = done.visits ++ v ∷ [];
        made = then done.visits old v new done.made is;
        takes = subst (log.takes start.server new.server) (flat_map_more frames_of [] done.visits v)
            (both start.server old.server new.server (flat_map frames_of done.visits) v.frames done.takes is.takes);
        calls = subst (Makes start.net.calls new.net.calls) (flat_map_more visit_calls [] done.visits v)
            (makes_both start.net.calls old.net.calls new.net.calls (flat_map visit_calls done.visits) (visit_calls v) done.calls is.contact.calls);
      };
      all = omega (arith, h.all, length-append done.visits (v ∷ []));
      tally_is = tally_more tally more done.visits v answer same h.tally_is counts;
    }

-- ---- how it ends

pub hosted : {S F : Type 0} (log : Log S F) (peer : List ℕ) (shown : Seen → Type 0) (start end : Standing S) (number connections : ℕ) (tally : Tally)
    → number ≡ connections → Hosting log peer shown start end number tally → Hosts log peer shown connections start end (Ok tally)
hosted log peer shown start end number connections tally all h =
    record { between = end; done = h.done; enough = omega (arith, h.all, all); tally_is = h.tally_is; ends = refl }

pub halted : {S F : Type 0} (log : Log S F) (peer : List ℕ) (shown : Seen → Type 0) (start old new : Standing S) (number connections : ℕ) (tally : Tally) (why : Halt F)
    → ((a b c : S) (xs ys : List Handed) (h : Handed) (why : F) → log.takes a b xs → log.stops b c ys h why → log.stops a c (xs ++ ys) h why)
    → Hosting log peer shown start old number tally → number < connections → VisitEnds log peer shown (Err why) old new
    → Hosts log peer shown connections start new (Err (record { halt = why; tally = tally }))
halted log peer shown start old new number connections tally halt.Door stopping h less fails =
    record { between = old; done = h.done; enough = omega (arith, h.all, less); tally_is = h.tally_is; ends = fails }
halted log peer shown start old new number connections tally (halt.Log fault) stopping h less (last, broken) = record {
  between = old;
  done = h.done;
  enough = omega (arith, h.all, less);
  tally_is = h.tally_is;
  ends = record {
    last = last;
    broken = broken;
    stops = stopping start.server old.server new.server (flat_map frames_of h.done.visits) broken.short.end.frames broken.short.refused fault h.done.takes broken.short.reaches.stops;
  };
}
