-- A reply is its frame's, by what a server did with it.
use Rattle.std.proofs.Common.{◌≡◌, ◌⊎◌, inl, inr, ℕ, false, List, [], Option, Some, None, Result, Ok, Err, refl, sym, ap, ◌∙◌, subst, arith}
use Rattle.std.specs.Prelude.{IfOk, OnOk}
use Rattle.std.proofs.lemmas.List.{append-nil}
use Rattle.express_words.specs.Seen.{Seen}
use Rattle.express_words.specs.Streams.{TookPrefix, Took}
use Rattle.express_words.specs.declared.refusal.Refusal.{Refusal}
use Rattle.express_words.specs.declared.role.Role.TheVariants.{Leader, Helper}
use Rattle.frame_rules.specs.Frames.{PlainFrame}
use Rattle.frame_rules.specs.Whole.{is_command, whole}
use Rattle.node_restart.specs.declared.server.Core.{Core}
use Rattle.node_restart.specs.declared.server.Core.TheVariants.{Lead, Help}
use Rattle.node_restart.specs.declared.frames.Sender.TheVariants.{Client}
use Rattle.node_restart.specs.Steps.{role_of, step_of}
use Rattle.node_serve.specs.Draining.{Course, begun, took, DrainsOn, none, then}
use Rattle.node_serve.specs.Handing.{drained_for, taken_in, sender_at, answer_of}
use Rattle.node_serve.specs.Logs.{Log}
use Rattle.node_serve.specs.Moved.{Moved, Calls, moved, calls_of}
use Rattle.node_serve.specs.Own.{IsAnswerTo, IsToldTo, SaysLinkDown, TellsOwn, TellsOwnOn}
use Rattle.node_serve.specs.Responding.{Fails, Goes, Handled, IsSent, Responds, link_down}
use Rattle.node_serve.specs.Serving.{Answers, AnswersOn, WritesTold}
use Rattle.node_serve.specs.declared.node.Served.{Served}
use Rattle.node_serve.specs.declared.node.Served.TheVariants as served
use Rattle.node_serve.proofs.CallLaws.{makes_same}
use Rattle.node_serve.proofs.MetLaws.{AllAnswered, Answered, answered_on, calls_met}
use Rattle.node_serve.proofs.OwnLaws.{IsLead, Stands, client_step, help_told, lead_told, own_frame, peer_step}

-- ---- a leader's drain behind a client's frame

module _ (core : Core) (bytes : List ℕ) (f : PlainFrame) (is : whole bytes ≡ Ok f) (client : is_command f.body ≡ false) where
  own_on : (start end : Course) → DrainsOn start end → Stands f start.core × IsToldTo core bytes start.reply → Stands f end.core × IsToldTo core bytes end.reply
  own_on start end none own = own
  own_on start end (then p sent got drains oldest heeded) own =
      let before = own_on start p drains own in
      peer_step core bytes p.core f sent got is client before.0 oldest heeded

  handled_own : (start end : Course) → IsLead start.core → AllAnswered start.made → Handled bytes start end → IsToldTo core bytes end.reply × AllAnswered end.made
  handled_own start end leads all h =
      let before : Answered h.before = answered_on start h.before h.first.drains (leads, all) in
      let told = client_step core bytes h.before.core f is before.0 h.first.empty in
      let own = own_on (took h.before Client bytes) end h.second.drains told in
      let leads_there : IsLead (took h.before Client bytes).core = stands_leads f _ told.0 in
      let answered : Answered end = answered_on (took h.before Client bytes) end h.second.drains (leads_there, before.1) in
      (own.1, answered.1)
    where
      stands_leads : (f : PlainFrame) (c : Core) → Stands f c → IsLead c
      stands_leads f (Lead a) stands = tt
      stands_leads f (Help h) stands = stands

-- ---- by the frame that it drains for

taken_frame : (bytes : List ℕ) (found : Result PlainFrame Refusal) (f : PlainFrame) → whole bytes ≡ found → taken_in found ≡ Some f → (whole bytes ≡ Ok f) × (is_command f.body ≡ false)
taken_frame bytes found f is taken = grind arith

-- what was told, and that the link's commands were answered unless it is that the link is down
abbrev Replies : Core → List ℕ → Course → List ℕ → Type 0
Replies core bytes end reply = IsToldTo core bytes reply × (AllAnswered end.made ⊎ SaysLinkDown reply)

lead_replies : (core : Core) (bytes : List ℕ) (found : Option PlainFrame) (end : Course) (count : ℕ) (why : Served) (reply : List ℕ) → IsLead core → drained_for (role_of core) bytes ≡ found
    → (IsSent why × Goes found core bytes end × (reply ≡ end.reply)) ⊎ Fails found core bytes end count why reply → Replies core bytes end reply
lead_replies (Lead a) bytes None end count why reply leads is (inl (sent, goes, told)) =
    let said : reply ≡ answer_of (step_of (Lead a) Client bytes) = told ∙ ap (λ (x : Course). x.reply) goes in
    let made : end.made ≡ [] = ap (λ (x : Course). x.made) goes in
    (subst (IsToldTo (Lead a) bytes) (sym said) (lead_told (Lead a) bytes a), inl (subst AllAnswered (sym made) tt))
lead_replies (Lead a) bytes None end count why reply leads is (inr fails) = absurd fails
lead_replies (Lead a) bytes (Some f) end count why reply leads is (inl (sent, goes, told)) =
    let frame = taken_frame bytes (whole bytes) f refl is in
    let own = handled_own (Lead a) bytes f frame.0 frame.1 (begun (Lead a)) end tt tt goes in
    (subst (IsToldTo (Lead a) bytes) (sym told) own.0, inl own.1)
lead_replies (Lead a) bytes (Some f) end count why reply leads is (inr (breaks, said)) =
    let frame = taken_frame bytes (whole bytes) f refl is in
    let answers : IsAnswerTo f (link_down f count) = record { lane = refl; serial = refl; number = λ command. absurd (cc (frame.1, command)) } in
    (subst (IsToldTo (Lead a) bytes) (sym said) (own_frame (Lead a) bytes f (link_down f count) frame.0 answers), inr (f, count, said))
lead_replies (Help h) bytes found end count why reply leads is responds = absurd leads

replies : (core : Core) (bytes : List ℕ) (end : Course) (count : ℕ) (why : Served) (reply : List ℕ) → Responds core bytes end count why reply → Replies core bytes end reply
replies (Lead a) bytes end count why reply responds = lead_replies (Lead a) bytes (drained_for Leader bytes) end count why reply tt refl responds
replies (Help h) bytes end count why reply (inl (sent, goes, told)) =
    let said : reply ≡ answer_of (step_of (Help h) (sender_at Helper bytes) bytes) = told ∙ ap (λ (x : Course). x.reply) goes in
    let made : end.made ≡ [] = ap (λ (x : Course). x.made) goes in
    (subst (IsToldTo (Help h) bytes) (sym said) (help_told h bytes), inl (subst AllAnswered (sym made) tt))
replies (Help h) bytes end count why reply (inr fails) = absurd fails

-- ---- what was written

took_all : (old new : Option (List ℕ)) (reply : List ℕ) → Took old new reply → TookPrefix old new reply
took_all old new reply took = (reply, [], sym (append-nil reply), took)

front_of : (why : Served) (old new : Option (List ℕ)) (before now : ℕ) (reply : List ℕ) → WritesTold why old new before now reply → TookPrefix old new reply
front_of served.Answered old new before now reply (took, whole) = took_all old new reply took
front_of (served.ConnFault count) old new before now reply (took, rose, told) = took
front_of served.Ended old new before now reply h = absurd h
front_of (served.LinkFault count) old new before now reply (inl (took, whole)) = took_all old new reply took
front_of (served.LinkFault count) old new before now reply (inr (took, rose)) = took
front_of served.LinkBad old new before now reply (inl (took, whole)) = took_all old new reply took
front_of served.LinkBad old new before now reply (inr (took, rose)) = took

pub own_reply : {S F : Type 0} (log : Log S F) (peer bytes : List ℕ) (server : Moved S) (calls : Calls) (count : ℕ) (why : Served) (old new : Option (List ℕ)) (before now : ℕ)
    → Answers log peer bytes server calls count why (WritesTold why old new before now) → TellsOwn (log.core server.old) bytes calls (moved old new)
own_reply log peer bytes server calls count why old new before now a =
    let told = replies (log.core server.old) bytes a.end count why a.reply a.responds in
    record {
      reply = a.reply;
      told = told.0;
      took = front_of why old new before now a.reply a.writes;
      link = elim told.1 [
        | inl met ↦ inl (calls_met peer a.end.made calls.old calls.new met a.reaches.made)
        | inr down ↦ inr down
      ];
    }

-- where the server answered
pub own_answer : {S F : Type 0} (log : Log S F) (peer bytes : List ℕ) (server : Moved S) (net conn : Moved Seen) (result : Result Served F)
    → IfOk result (AnswersOn log peer bytes server net conn) → OnOk result (TellsOwnOn (log.core server.old) bytes net conn)
own_answer log peer bytes server net conn (Ok why) a =
    own_reply log peer bytes server (calls_of net) net.new.faults why conn.old.written conn.new.written conn.old.faults conn.new.faults a
own_answer log peer bytes server net conn (Err fault) a = tt

took_nothing : (old : Option (List ℕ)) → TookPrefix old old []
took_nothing None = ([], [], refl, tt)
took_nothing (Some bytes) = ([], [], refl, sym (append-nil bytes))

-- where nothing moved
pub own_nothing : (core : Core) (bytes : List ℕ) (net conn : Moved Seen) → net.new.calls ≡ net.old.calls → conn.new.written ≡ conn.old.written → TellsOwnOn core bytes net conn
own_nothing core bytes net conn still blank = record {
  reply = [];
  told = inl refl;
  took = subst (λ (w : Option (List ℕ)). TookPrefix conn.old.written w []) (sym blank) (took_nothing conn.old.written);
  link = inl ([], makes_same net.old.calls net.new.calls still, tt);
}
