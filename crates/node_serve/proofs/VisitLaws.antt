-- A connection that was accepted, served and closed is a visit.
use Rattle.std.proofs.Common.{◌≡◌, ◌≢◌, ◌⊎◌, inl, inr, ℕ, false, List, [], Option, Some, None, Result, Ok, Err, refl, sym, ap, ◌∙◌, subst, arith}
use Rattle.express_words.specs.Seen.{Seen}
use Rattle.express_words.specs.Streams.{Stream, Gave, IsBlank, Took, left_in}
use Rattle.express_words.specs.Calls.{Call, Accepted, Adds, AddsClose, GivesTelling}
use Rattle.frame_rules.specs.Frames.{PlainFrame}
use Rattle.frame_rules.specs.Gathering.{gathered}
use Rattle.frame_rules.specs.Reading.{decoded}
use Rattle.frame_rules.specs.declared.fault.FrameFault.{FrameFault}
use Rattle.frame_rules.specs.declared.fault.FrameFault.TheVariants.{Short}
use Rattle.node_exchange.specs.Taking.{IsWanted}
use Rattle.node_exchange.specs.Exchanging.{EarlyAtEnd, Makes}
use Rattle.node_restart.specs.Frames.{Handed}
use Rattle.node_serve.specs.Draining.{FaultIn}
use Rattle.node_serve.specs.Logs.{Log}
use Rattle.node_serve.specs.Moved.{moved, calls_of}
use Rattle.node_serve.specs.Outcomes.{NothingMoves, ServeEnds}
use Rattle.node_serve.specs.Serving.{Answers, AnswersOn, Brings, IsCut, WritesTold, StopsShort}
use Rattle.node_serve.specs.declared.node.Served.{Served}
use Rattle.node_serve.specs.declared.node.Served.TheVariants as served
use Rattle.node_serve.specs.Visits.{Contact, Visit, Standing, standing, Shown, IsContact, IsCutOff, IsStepped, ClosesWith, IsVisit, IsRefusedVisit, ClosedAs}
use Rattle.node_serve.proofs.RespondLaws.{helper_alone, helper_stops}
use Rattle.node_serve.proofs.ReplyLaws.{own_reply}
use Rattle.node_serve.proofs.CallLaws.{makes_same, own_calls, stream, contact_made, link_at_end}

pub is_short_or_not : (r : Result (PlainFrame × ℕ) FrameFault) → (r ≡ Err Short) ⊎ (r ≢ Err Short)
is_short_or_not (Err Short) = inl refl
is_short_or_not r = inr (λ e. cc)

pub cut_told : (answer : Served) (given : List ℕ) (t : Option Stream) (before now : ℕ) → IsCut answer t before now
    → IsCut answer (Some (stream given (left_in t))) before now
cut_told why given t before now h = grind arith

-- ---- what was written to a connection that had taken nothing yet

took_all : (w x : Option (List ℕ)) (bytes : List ℕ) → IsBlank w → Took w x bytes → w ≢ None → x ≡ Some bytes
took_all w x bytes blank took some = grind arith

-- these bytes were taken
abbrev pub Wrote : Served → (w x : Option (List ℕ)) → ℕ → List ℕ → Type 0
Wrote why w x n reply = (taken : List ℕ) × WritesTold why (Some []) (Some taken) 0 n reply × (w ≢ None → x ≡ Some taken)

pub wrote : (why : Served) (w x : Option (List ℕ)) (n : ℕ) (reply : List ℕ) → IsBlank w → WritesTold why w x 0 n reply → Wrote why w x n reply
wrote served.Answered w x n reply blank (took, whole) = (reply, (refl, whole), took_all w x reply blank took)
wrote (served.ConnFault count) w x n reply blank ((front, rest, is, took), rose, told) =
    (front, ((front, rest, is, refl), rose, told), took_all w x front blank took)
wrote served.Ended w x n reply blank h = absurd h
wrote (served.LinkFault count) w x n reply blank (inl (took, whole)) = (reply, inl (refl, whole), took_all w x reply blank took)
wrote (served.LinkFault count) w x n reply blank (inr ((front, rest, is, took), fault)) =
    (front, inr ((front, rest, is, refl), fault), took_all w x front blank took)
wrote served.LinkBad w x n reply blank (inl (took, whole)) = (reply, inl (refl, whole), took_all w x reply blank took)
wrote served.LinkBad w x n reply blank (inr ((front, rest, is, took), fault)) =
    (front, inr ((front, rest, is, refl), fault), took_all w x front blank took)

-- ---- an accept, a service and a close

-- an accept gave a connection that shows this
pub record Accepts (a b s : Seen) : Type 0 where
  pub whole : s.faults ≡ 0
  pub blank : IsBlank s.written
  pub tells : GivesTelling b.calls s.content s.written
  pub call : Adds a.calls b.calls (Accepted false)
  pub faults : b.faults ≡ a.faults
  pub doors : b.doors ≡ a.doors

-- a connection that shows this was closed
pub record Closes (c d t : Seen) : Type 0 where
  pub call : AddsClose c.calls d.calls t.content t.written t.faults
  pub counts : ClosesWith t.faults c.faults d.faults
  pub doors : d.doors ≡ c.doors

-- the visit that this makes
abbrev pub VisitOf : {S F C : Type 0} → Log S F → List ℕ → (C → Seen) → Served → (old new : Standing S) → Type 0
VisitOf log peer shows answer old new = (v : Visit) × (v.answer ≡ answer) × IsVisit log peer (Shown shows) v old new

pub untouched : (w x : Option (List ℕ)) → IsBlank w → x ≡ w → w ≢ None → x ≡ Some []
untouched w x blank is some = grind arith

contact_is : {C : Type 0} (shows : C → Seen) (a b c d s : Seen) (conn : C) (k : Contact) → Gave s.content (shows conn).content k.content.given → IsWanted k.content.given → k.content.left ≡ left_in (shows conn).content
    → (shows conn).faults ≡ k.faults → c.doors ≡ b.doors → Accepts a b s → Closes c d (shows conn)
    → (s.written ≢ None → (shows conn).written ≡ Some k.taken) → Makes b.calls c.calls k.calls → IsContact (Shown shows) k a d
contact_is shows a b c d s conn k gave wanted left faults doors accept close took makes =
    let t : Seen = shows conn in
    let closes : AddsClose c.calls d.calls t.content t.written k.faults = subst (AddsClose c.calls d.calls t.content t.written) faults close.call in
    let made = contact_made d.calls t.content t.written c.calls b.calls s.content s.written a.calls k accept.call accept.tells gave left took makes closes in
    record {
      wanted = wanted;
      calls = made.0;
      doors = close.doors ∙ doors ∙ accept.doors;
      conn = t;
      shows = (conn, refl);
      is = subst (ClosedAs d.calls k.content k.taken k.faults t.content t.written) (sym faults) made.1;
    }

-- the connection that gave and took these bytes, by what it showed at its close
abbrev contact : (given taken : List ℕ) → List Call → Seen → Contact
contact given taken calls t = record { content = stream given (left_in t.content); taken = taken; faults = t.faults; calls = calls }

visit_is : {S F C : Type 0} (log : Log S F) (peer : List ℕ) (shows : C → Seen) (old new : S) (answer : Served) (a b c d s : Seen) (conn : C) (given taken : List ℕ) (calls : List Call) (frames : List Handed)
    → Gave s.content (shows conn).content given → IsWanted given
    → (answer ≡ served.LinkBad → EarlyAtEnd c.calls shows) → FaultIn answer b.faults c.faults → c.doors ≡ b.doors → Accepts a b s → Closes c d (shows conn)
    → (s.written ≢ None → (shows conn).written ≡ Some taken) → Makes b.calls c.calls calls → log.takes old new frames
    → (decoded (gathered [] given) ≡ Err Short → IsCutOff (record { contact = contact given taken calls (shows conn); answer = answer; frames = frames }) old new)
    → (decoded (gathered [] given) ≢ Err Short → IsStepped log peer (record { contact = contact given taken calls (shows conn); answer = answer; frames = frames }) (moved old new) c.faults)
    → VisitOf log peer shows answer (standing old a) (standing new d)
visit_is log peer shows old new answer a b c d s conn given taken calls frames gave wanted early fault doors accept close took makes takes cut stepped =
    let t : Seen = shows conn in
    let k = contact given taken calls t in
    let v : Visit = record { contact = k; answer = answer; frames = frames } in
    let is : IsVisit log peer (Shown shows) v (standing old a) (standing new d) = record {
      contact = contact_is shows a b c d s conn k gave wanted refl refl doors accept close took makes;
      count = c.faults;
      cut = cut;
      stepped = stepped;
      takes = takes;
      link = subst (λ n. FaultIn answer n c.faults) accept.faults fault;
      close = close.counts;
      early = λ bad. link_at_end shows d.calls t.content t.written c.calls b.calls a.calls t.faults k accept.call makes close.call (early bad);
    } in
    (v, refl, is)

pub visited : {S F N C : Type 0} (log : Log S F) (peer : List ℕ) (nets : N → Seen) (shows : C → Seen) (old new : S) (answer : Served) (a : Seen) (b c : N) (d s : Seen) (conn : C) (held : List ℕ)
    → ((s : S) → log.takes s s []) → Brings s.content (shows conn).content held
    → (decoded held ≡ Err Short → NothingMoves {F = F} (Ok answer) old new b c (moved s (shows conn)))
    → ServeEnds log peer held (Ok answer) old new (moved (nets b) (nets c)) (moved s (shows conn))
    → (answer ≡ served.LinkBad → EarlyAtEnd (nets c).calls shows)
    → FaultIn answer (nets b).faults (nets c).faults → (nets c).doors ≡ (nets b).doors
    → Accepts a (nets b) s → Closes (nets c) d (shows conn)
    → VisitOf log peer shows answer (standing old a) (standing new d)
visited {S = S} {N = N} log peer nets shows old new answer a b c d s conn held untaken (given, gave, wanted, is) cut ends early fault doors accept close =
    let t : Seen = shows conn in
    let seen = visit_is log peer shows old new answer a (nets b) (nets c) d s conn given in
    elim (is_short_or_not (decoded (gathered [] given))) [
      | inl short ↦
          let nothing = cut (ap decoded is ∙ short) in
          let off : IsCutOff (record { contact = contact given [] [] t; answer = answer; frames = [] }) old new = record {
            answer = cut_told answer given t.content 0 t.faults (subst (λ n. IsCut answer t.content n t.faults) accept.whole nothing.cut);
            stays = nothing.stays;
            none = refl;
            calls = refl;
            untold = refl;
          } in
          let makes : Makes (nets b).calls (nets c).calls [] = makes_same (nets b).calls (nets c).calls (ap (λ (x : N). (nets x).calls) nothing.net_rests) in
          let takes : log.takes old new [] = subst (λ (x : S). log.takes old x []) (sym nothing.stays) (untaken old) in
          seen [] [] [] gave wanted early fault doors accept close (untouched s.written t.written accept.blank nothing.writes_nothing) makes takes (λ e. off) (λ e. absurd (e short))
      | inr enough ↦
          let step : AnswersOn log peer (gathered [] given) (moved old new) (moved (nets b) (nets c)) (moved s t) answer
          = subst (λ (l : List ℕ). AnswersOn log peer l (moved old new) (moved (nets b) (nets c)) (moved s t) answer) is (ends.serves (λ e. enough (sym (ap decoded is) ∙ e))) in
          let own = own_calls peer step.end.made (calls_of (moved (nets b) (nets c))) step.reaches.made in
          let fresh : WritesTold answer s.written t.written 0 t.faults step.reply = subst (λ n. WritesTold answer s.written t.written n t.faults step.reply) accept.whole step.writes in
          let written : Wrote answer s.written t.written t.faults step.reply = wrote answer s.written t.written t.faults step.reply accept.blank fresh in
          let told : Answers log peer (gathered [] given) (moved old new) (moved (Some []) (Some own.0)) (nets c).faults answer (WritesTold answer (Some []) (Some written.0) 0 t.faults) = record {
            end = step.end;
            reaches = record { core = step.reaches.core; takes = step.reaches.takes; made = own.2 };
            reply = step.reply;
            responds = step.responds;
            writes = written.1;
          } in
          let stepped : IsStepped log peer (record { contact = contact given written.0 own.0 t; answer = answer; frames = step.end.frames }) (moved old new) (nets c).faults = record {
            answers = told;
            frames = refl;
            own = own_reply log peer (gathered [] given) (moved old new) (moved (Some []) (Some own.0)) (nets c).faults answer (Some []) (Some written.0) 0 t.faults told;
            alone = λ help. own.3 (helper_alone (log.core old) (gathered [] given) step.end (nets c).faults answer step.reply help step.responds);
          } in
          seen written.0 own.0 step.end.frames gave wanted early fault doors accept close written.2 own.1 step.reaches.takes (λ e. absurd (enough e)) (λ e. stepped)
    ]

-- ---- a visit at which the log refused a frame

pub refused : {S F N C : Type 0} (log : Log S F) (peer : List ℕ) (nets : N → Seen) (shows : C → Seen) (old new : S) (fault : F) (a : Seen) (b c : N) (d s : Seen) (conn : C) (held : List ℕ)
    → Brings s.content (shows conn).content held
    → ServeEnds log peer held (Err fault) old new (moved (nets b) (nets c)) (moved s (shows conn))
    → (nets c).faults ≡ (nets b).faults → (nets c).doors ≡ (nets b).doors
    → Accepts a (nets b) s → Closes (nets c) d (shows conn)
    → (last : Contact) × IsRefusedVisit log peer (Shown shows) last fault (standing old a) (standing new d)
refused log peer nets shows old new fault a b c d s conn held (given, gave, wanted, is) ends faults doors accept close =
    let t : Seen = shows conn in
    let calls = calls_of (moved (nets b) (nets c)) in
    let here = subst (λ (l : List ℕ). StopsShort log peer l (moved old new) calls fault) is ends.stops in
    let own = own_calls peer here.end.made calls here.reaches.made in
    let whole : t.faults ≡ 0 = ends.unanswered.1 ∙ accept.whole in
    let k = contact given [] own.0 t in (
      k,
      record {
        contact = contact_is shows a (nets b) (nets c) d s conn k gave wanted refl refl doors accept close (untouched s.written t.written accept.blank ends.unanswered.0) own.1;
        short = record { end = here.end; refused = here.refused; reaches = record { core = here.reaches.core; stops = here.reaches.stops; made = own.2 }; stops = here.stops };
        alone = λ help. own.3 (helper_stops (log.core old) (gathered [] given) here.end here.refused help here.stops);
        untold = refl;
        whole = whole;
        faults = close.counts.whole whole ∙ faults ∙ accept.faults;
      },
    )
