-- What a server did with these bytes, by the client's frame that it drains its link for.
use Rattle.std.proofs.Common.{◌≡◌, ◌⊎◌, ℕ, List, [], Option, Result, sym, ◌∙◌, subst, arith}
use Rattle.express_words.specs.Seen.{Seen}
use Rattle.frame_rules.specs.Frames.{PlainFrame}
use Rattle.node_exchange.specs.Exchanging.{ExchangesOn}
use Rattle.node_exchange.specs.declared.exchanging.Broken.{Broken}
use Rattle.node_restart.specs.declared.server.Core.{Core}
use Rattle.node_restart.specs.Frames.{Handed}
use Rattle.node_restart.specs.Steps.{role_of}
use Rattle.node_serve.specs.Draining.{Course, Breaks, FaultIn}
use Rattle.node_serve.specs.Handing.{IsHelp, drained_for}
use Rattle.node_serve.specs.Logs.{Log}
use Rattle.node_serve.specs.Moved.{Moved, moved}
use Rattle.node_serve.specs.NoLog.{core_of, no_log, node_log, peer_of}
use Rattle.node_serve.specs.Responding.{Fails, Goes, IsSent, Responds, Stops, StopsAt}
use Rattle.node_serve.specs.Serving.{AnswersOn, IsPut, WritesTold}
use Rattle.node_serve.specs.declared.node.Node.{Node}
use Rattle.node_serve.specs.declared.node.Served.{Served}

-- a server responded, by the frame that it drains for
abbrev RespondsTo : Option PlainFrame → Core → List ℕ → Course → ℕ → Served → List ℕ → Type 0
RespondsTo found core bytes end count why reply = (IsSent why × Goes found core bytes end × (reply ≡ end.reply)) ⊎ Fails found core bytes end count why reply

pub responds_to : (core : Core) (bytes : List ℕ) (found : Option PlainFrame) (end : Course) (count : ℕ) (why : Served) (reply : List ℕ) → found ≡ drained_for (role_of core) bytes
    → RespondsTo found core bytes end count why reply → Responds core bytes end count why reply
responds_to core bytes found end count why reply is responds = subst (λ (f : Option PlainFrame). RespondsTo f core bytes end count why reply) is responds

pub stops_to : (core : Core) (bytes : List ℕ) (found : Option PlainFrame) (end : Course) (refused : Handed) → found ≡ drained_for (role_of core) bytes → StopsAt found core bytes end refused → Stops core bytes end refused
stops_to core bytes found end refused is stops = subst (λ (f : Option PlainFrame). StopsAt f core bytes end refused) is stops

-- ---- a helper makes no exchange

pub helper_alone : (core : Core) (bytes : List ℕ) (end : Course) (count : ℕ) (why : Served) (reply : List ℕ) → IsHelp core → Responds core bytes end count why reply → end.made ≡ []
helper_alone core bytes end count why reply help responds = grind arith

pub helper_stops : (core : Core) (bytes : List ℕ) (end : Course) (refused : Handed) → IsHelp core → Stops core bytes end refused → end.made ≡ []
helper_stops core bytes end refused help stops = grind arith

-- ---- what is written where an exchange broke

put_is : (sent : Served) (old new : Option (List ℕ)) (before now : ℕ) (reply : List ℕ) → IsSent sent → WritesTold sent old new before now reply → IsPut old new before now reply
put_is sent old new before now reply is w = grind arith

pub writes_down : (core : Core) (answer : Result (List ℕ) Broken) (why sent : Served) (old new : Option (List ℕ)) (before now : ℕ) (reply : List ℕ)
    → Breaks core answer why → IsSent sent → WritesTold sent old new before now reply → WritesTold why old new before now reply
writes_down core answer why sent old new before now reply broken is w = grind (arith, put_is)

pub sent_fault : (why : Served) (n : ℕ) → IsSent why → FaultIn why n n
sent_fault why n sent = grind arith

-- ---- the same answers, said of another connection and of a node

-- the connection had taken nothing more, and failed no more, at the later of both
pub answers_with : {S F : Type 0} (log : Log S F) (peer bytes : List ℕ) (server : Moved S) (net : Moved Seen) (old mid new : Seen) (why : Served) → mid.written ≡ old.written → mid.faults ≡ old.faults
    → AnswersOn log peer bytes server net (moved mid new) why → AnswersOn log peer bytes server net (moved old new) why
answers_with log peer bytes server net old mid new why written faults a = record {
  end = a.end;
  reaches = a.reaches;
  reply = a.reply;
  responds = a.responds;
  writes = subst (λ (w : Option (List ℕ)). WritesTold why w new.written old.faults new.faults a.reply) written
      (subst (λ (n : ℕ). WritesTold why mid.written new.written n new.faults a.reply) faults a.writes);
}

pub of_node : {S : Type 0} (core : S → Core) (node : S → Node) (peer bytes : List ℕ) (old new : S) (net conn : Moved Seen) (why : Served) → ((s : S) → core_of (node s) ≡ core s) → ((s : S) → peer_of (node s) ≡ peer)
    → AnswersOn (no_log core) peer bytes (moved old new) net conn why → AnswersOn node_log (peer_of (node old)) bytes (moved (node old) (node new)) net conn why
of_node core node peer bytes old new net conn why same peers a = record {
  end = a.end;
  reaches = record {
    core = same new ∙ a.reaches.core;
    takes = peers new ∙ sym (peers old);
    made = subst (λ (p : List ℕ). ExchangesOn p a.end.made net.old.calls net.new.calls) (sym (peers old)) a.reaches.made;
  };
  reply = a.reply;
  responds = subst (λ (c : Core). Responds c bytes a.end net.new.faults why a.reply) (sym (same old)) a.responds;
  writes = a.writes;
}
