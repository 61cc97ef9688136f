-- Each command that a leader sent was answered by the frame that answers it.
use Rattle.std.proofs.Common.{◌≡◌, ℕ, Bool, true, false, List, [], ◌∷◌, ◌++◌, Option, Some, None, Result, Ok, Err, append_assoc, refl, sym, ap, ◌∙◌, subst}
use Rattle.std.specs.Prelude.{cond, nat_eq, option_map, slice_get, ◌&&◌}
use Rattle.std.proofs.lemmas.Bool.{eqb-true}
use Rattle.std.proofs.lemmas.List.{append-nil}
use Rattle.express_words.specs.Calls.{Call, Dialled, Closed}
use Rattle.express_words.specs.declared.refusal.Refusal.{Refusal}
use Rattle.frame_rules.specs.Frames.{PlainFrame}
use Rattle.frame_rules.specs.Spelling.{spelling}
use Rattle.frame_rules.specs.Whole.{if_linked, is_reply, linked, whole}
use Rattle.leader_core.specs.Told.{acked}
use Rattle.node_exchange.specs.Exchanging.{Exchange, ExchangesOn, IsAnswer, IsExchange, IsFault, Makes}
use Rattle.step_rules.specs.Leader.{Leader, Ignored, AckTurn}
use Rattle.step_rules.specs.LeaderReplies.{answers, if_reply}
use Rattle.node_restart.specs.declared.did.Did.TheVariants as did
use Rattle.node_restart.specs.declared.server.Core.{Core}
use Rattle.node_restart.specs.declared.server.Core.TheVariants.{Lead, Help}
use Rattle.node_restart.specs.declared.frames.Sender.TheVariants.{Peer}
use Rattle.node_restart.specs.Steps.{step_of, lead_peer}
use Rattle.node_serve.specs.Draining.{Course, DrainsOn, IsOldest, IsHeeded, none, then}
use Rattle.node_serve.specs.Handing.{is_ignored}
use Rattle.node_serve.specs.Own.{AreMet, IsMet}
use Rattle.node_serve.proofs.OwnLaws.{IsLead}

-- ---- one exchange

-- what is heeded: it isn't ignored
abbrev Heeded : AckTurn → Type 0
Heeded t = is_ignored (did.Acked (acked t.ack)) ≡ false

module _ (a : Leader) (sent got : List ℕ) where
  met_if : (c f : PlainFrame) (link lane serial : Bool) (t : AckTurn) → nat_eq f.link c.link ≡ link → nat_eq f.lane c.lane ≡ lane → nat_eq f.serial c.serial ≡ serial
      → option_map spelling (Some c) ≡ Some sent → whole got ≡ Ok f
      → Heeded (cond (link && (lane && serial)) t (record { leader = a; ack = Ignored })) → IsMet got sent
  met_if c f true true true t link lane serial oldest read heeded = record {
    command = c;
    reply = f;
    sent = sym (cc oldest);
    read = read;
    answers = record { lane = eqb-true _ _ lane; serial = eqb-true _ _ serial; number = λ command. eqb-true _ _ link };
    number = eqb-true _ _ link;
  }
  met_if c f true true false t link lane serial oldest read heeded = absurd (cc heeded)
  met_if c f true false serials t link lane serial oldest read heeded = absurd (cc heeded)
  met_if c f false lanes serials t link lane serial oldest read heeded = absurd (cc heeded)

  met_first : (f : PlainFrame) (oldest : Option PlainFrame) → option_map spelling oldest ≡ Some sent → whole got ≡ Ok f → Heeded (answers a f oldest) → IsMet got sent
  unfolding answers
  met_first f None is read heeded = absurd (cc is)
  met_first f (Some c) is read heeded =
      met_if c f (nat_eq f.link c.link) (nat_eq f.lane c.lane) (nat_eq f.serial c.serial) _ refl refl refl is read heeded

  met_reply : (f : PlainFrame) (b : Bool) → option_map spelling (slice_get a.outstanding 0) ≡ Some sent → whole got ≡ Ok f
      → Heeded (if_reply a (cond b (Some f) None)) → IsMet got sent
  unfolding if_reply
  met_reply f true is read heeded = met_first f (slice_get a.outstanding 0) is read heeded
  met_reply f false is read heeded = absurd (cc heeded)

  met_found : (found : Result PlainFrame Refusal) → option_map spelling (slice_get a.outstanding 0) ≡ Some sent → whole got ≡ found
      → Heeded (if_reply a (if_linked is_reply a.settings.width found)) → IsMet got sent
  unfolding if_reply
  met_found (Ok f) is read heeded = met_reply f _ is read heeded
  met_found (Err why) is read heeded = absurd (cc heeded)

pub heeded_met : (core : Core) (sent got : List ℕ) → IsOldest core sent → IsHeeded core got → IsMet got sent
unfolding lead_peer linked
heeded_met (Lead a) sent got oldest heeded = met_found a sent got (whole got) oldest refl heeded
heeded_met (Help h) sent got oldest heeded = absurd (cc oldest)

-- ---- a drain

abbrev IsAnswered : Exchange → Type 0
IsAnswered e = (got : List ℕ) × (e.answer ≡ Ok got) × IsMet got e.sent

abbrev pub AllAnswered : List Exchange → Type 0
AllAnswered [] = Unit {0}
AllAnswered (e ∷ es) = IsAnswered e × AllAnswered es

one_answered : (es : List Exchange) (e : Exchange) → AllAnswered es → IsAnswered e → AllAnswered (es ++ e ∷ [])
one_answered [] e all one = (one, tt)
one_answered (d ∷ es) e all one = (all.0, one_answered es e all.1 one)

-- a leader whose exchanges so far were answered
abbrev pub Answered : Course → Type 0
Answered p = IsLead p.core × AllAnswered p.made

leads_on : (c : Core) (got : List ℕ) → IsLead c → IsLead (step_of c Peer got).core
unfolding lead_peer
leads_on (Lead a) got leads = tt
leads_on (Help h) got leads = absurd leads

pub answered_on : (start end : Course) → DrainsOn start end → Answered start → Answered end
answered_on start end none all = all
answered_on start end (then p sent got drains oldest heeded) all =
    let before = answered_on start p drains all in
    (leads_on p.core got before.0, one_answered p.made _ before.1 (got, refl, heeded_met p.core sent got oldest heeded))

-- ---- by the calls

-- one exchange, where the net tells its calls
met_call : (peer : List ℕ) (e : Exchange) (calls more : List Call) → IsAnswered e → IsExchange peer e calls → AreMet more → AreMet (calls ++ more)
met_call peer e (Dialled to true ∷ []) more (got, got_is, m) is met = absurd (subst IsFault got_is is.1)
met_call peer e (Dialled to false ∷ Closed given taken true ∷ []) more (got, got_is, m) is met =
    let answer : IsAnswer (Ok got) given = subst (λ r. IsAnswer r given) got_is is.1.2 in
    let one : IsMet given taken = subst (λ (x : List ℕ). IsMet x taken) answer.0 (subst (IsMet got) (sym is.1.0) m) in
    (one, met)
met_call peer e (Dialled to false ∷ Closed given taken false ∷ []) more (got, got_is, m) is met = absurd (subst IsFault got_is is.1.2)
met_call peer e calls more answered is met = absurd is

none_told : (peer : List ℕ) (es : List Exchange) (new : List Call) → ExchangesOn peer es None (Some new) → ⊥
none_told peer [] new same = cc same
none_told peer (e ∷ es) new (None, first, others) = none_told peer es new others
none_told peer (e ∷ es) new (Some next, (calls, makes, is), others) = makes

told_met : (peer : List ℕ) (es : List Exchange) (old new : List Call) → AllAnswered es → ExchangesOn peer es (Some old) (Some new)
    → (own : List Call) × (new ≡ old ++ own) × AreMet own
told_met peer [] old new all same = ([], cc same ∙ sym (append-nil old), tt)
told_met peer (e ∷ es) old new all (None, first, others) = absurd (none_told peer es new others)
told_met peer (e ∷ es) old new all (Some next, (calls, makes, is), others) =
    let rest = told_met peer es next new all.1 others in
    (calls ++ rest.0, rest.1 ∙ ap (λ (l : List Call). l ++ rest.0) makes ∙ append_assoc old calls rest.0, met_call peer e calls rest.0 all.0 is rest.2)

pub calls_met : (peer : List ℕ) (es : List Exchange) (a b : Option (List Call)) → AllAnswered es → ExchangesOn peer es a b
    → (own : List Call) × Makes a b own × AreMet own
calls_met peer es a None all on = ([], tt, tt)
calls_met peer es None (Some new) all on = absurd (none_told peer es new on)
calls_met peer es (Some old) (Some new) all on = told_met peer es old new all on
