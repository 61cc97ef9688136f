-- Requests after requests.
use Rattle.std.proofs.Common.{◌≡◌, ℕ, suc, ◌+◌, ◌<◌, List, [], ◌∷◌, ◌++◌, take, drop, length, map, get_or, Option, Result, Ok, Err, refl, sym, ap, ◌∙◌, subst, arith}
use Rattle.std.proofs.Math.Seq.{split_at}
use Rattle.std.proofs.lemmas.List.{take_more, length-take, length-map, get_or-map}
use Rattle.express_words.specs.Calls.{Call}
use Rattle.mailbox_rules.specs.Requests.{Request}
use Rattle.step_rules.specs.Client.{Client, Outcome, Registered, Accepted, Message, Refused}
use Rattle.client_core.specs.Requests.{plain_request}
use Rattle.client_core.specs.declared.request.Request.{Request as Asked}
use Rattle.node_client.specs.declared.finished.Finished.{Finished}
use Rattle.node_client.specs.declared.finished.Told.{Told}
use Rattle.node_client.specs.declared.peers.Peers.{Peers}
use Rattle.node_client.specs.declared.stop.Stop.{Stop}
use Rattle.node_client.specs.Talks.{Talk, TalksOn}
use Rattle.node_client.specs.Steps.{Ending, Done, NoOwn, told_in, IsMessage, told_as, MessageBy}
use Rattle.node_client.specs.Work.{Comes, Came, line_of, line, WorksAll, none, then, StopsAt}
use Rattle.node_client.proofs.TalkLaws.{talks_both}

-- where the work stands before the request of this number
pub record Working (peers : Peers) (start : Client) (requests : List Request) (number : ℕ) (c : Client) (finished : List Finished) (a b : Option (List Call)) : Type 0 where
  pub made : List Talk
  pub works : WorksAll start (take number requests) (record { client = c; finished = finished; made = made })
  pub calls : TalksOn peers made a b

pub working : (peers : Peers) (start : Client) (requests : List Request) (finished : List Finished) (a : Option (List Call))
    → finished ≡ [] → Working peers start requests 0 start finished a a
working peers start requests finished a e =
    subst (λ (x : List Finished). Working peers start requests 0 start x a a) (sym e) (record { made = []; works = none; calls = refl })

-- the request of this number
pub request_at : (requests : List Asked) (number : ℕ) (d : Asked) → number < length requests
    → (number < length (map plain_request requests)) × (get_or (map plain_request requests) number (plain_request (get_or requests number d)) ≡ plain_request (get_or requests number d))
request_at requests number d less =
    (omega (arith, length-map requests plain_request, less), get_or-map plain_request requests number d _ less)

-- ---- one request more

read_line : (number : ℕ) (outcome : Outcome) (message : List ℕ) → IsMessage (Done outcome) message → line number message (told_in (Done outcome)) ≡ line_of number (Done outcome)
read_line number (Message bytes) message is = ap (λ (m : List ℕ). record { request = number; told = told_in (Done (Message bytes)); message = m }) is
read_line number (Registered n) message is = refl
read_line number Accepted message is = refl
read_line number (Refused refusal) message is = refl

pub line_is : (number : ℕ) (end : Ending) (message : List ℕ) → IsMessage end message → line number message (told_in end) ≡ line_of number end
line_is number (Done outcome) message is = read_line number outcome message is
line_is number (NoOwn own) message is = refl

-- what was told is what the definition says
pub end_told : (end : Result Ending Stop) (told : Told) → Ok told ≡ told_as end → (e : Ending) × (end ≡ Ok e) × (told ≡ told_in e)
end_told (Ok e) told is = (e, refl, cc)
end_told (Err why) told is = absurd (cc is)

pub stop_told : (end : Result Ending Stop) (why : Stop) → Err why ≡ told_as end → end ≡ Err why
stop_told (Ok e) why is = absurd (cc is)
stop_told (Err other) why is = let same : why ≡ other = cc in ap Err (sym same)

pub length_before : (number : ℕ) (requests : List Request) → number < length requests → length (take number requests) ≡ number
length_before number requests less = omega (arith, length-take number requests)

pub works_more : (peers : Peers) (start old new : Client) (requests : List Request) (number : ℕ) (r : Request) (before after : List Finished) (f : Finished) (message : List ℕ) (told : Told) (a b c : Option (List Call))
    → Working peers start requests number old before a b → number < length requests → get_or requests number r ≡ r
    → Came peers old r new message (Ok told) b c → f ≡ line number message told → after ≡ before ++ f ∷ []
    → Working peers start requests (number + 1) new after a c
works_more peers start old new requests number r before after f message told a b c w less at came of is =
    let e = end_told came.end told came.told in
    let comes : Comes old r new came.made (Ok e.0) = subst (λ (x : Result Ending Stop). Comes old r new came.made x) e.1 came.comes in
    let read : IsMessage e.0 message = subst (λ (x : Result Ending Stop). MessageBy x message) e.1 came.message_is in
    let all : take number requests ++ r ∷ [] ≡ take (number + 1) requests
    = sym (take_more requests number r less ∙ ap (λ (x : Request). take number requests ++ x ∷ []) at) in
    let lines : before ++ line_of (length (take number requests)) e.0 ∷ [] ≡ after
    = ap (λ n. before ++ line_of n e.0 ∷ []) (length_before number requests less)
    ∙ ap (λ (x : Finished). before ++ x ∷ []) (sym (of ∙ ap (line number message) e.2 ∙ line_is number e.0 message read)) ∙ sym is in
    let more : WorksAll start (take number requests ++ r ∷ []) (record { client = new; finished = before ++ line_of (length (take number requests)) e.0 ∷ []; made = w.made ++ came.made })
    = then (take number requests) (record { client = old; finished = before; made = w.made }) r new came.made e.0 w.works comes in
    record {
      made = w.made ++ came.made;
      works = subst (λ (x : List Request). WorksAll start x (record { client = new; finished = after; made = w.made ++ came.made })) all
          (subst (λ (x : List Finished). WorksAll start (take number requests ++ r ∷ []) (record { client = new; finished = x; made = w.made ++ came.made })) lines more);
      calls = talks_both peers w.made came.made a b c w.calls came.calls;
    }

-- ---- the one that stops the work

pub works_stop : (peers : Peers) (start old new : Client) (requests : List Request) (number : ℕ) (r : Request) (finished : List Finished) (message : List ℕ) (why : Stop) (a b c : Option (List Call))
    → Working peers start requests number old finished a b → number < length requests → get_or requests number r ≡ r
    → Came peers old r new message (Err why) b c
    → (made : List Talk) × StopsAt start requests (record { client = new; finished = finished; made = made }) why × TalksOn peers made a c
works_stop peers start old new requests number r finished message why a b c w less at came =
    let stops : StopsAt start requests (record { client = new; finished = finished; made = w.made ++ came.made }) why = record {
      before = take number requests;
      s = record { client = old; finished = finished; made = w.made };
      works = w.works;
      r = r;
      behind = drop (suc number) requests;
      all = split_at requests number r less ∙ ap (λ (x : Request). take number requests ++ x ∷ drop (suc number) requests) at;
      made = came.made;
      comes = subst (λ (x : Result Ending Stop). Comes old r new came.made x) (stop_told came.end why came.told) came.comes;
      finished = refl;
      exchanges = refl;
    } in
    (w.made ++ came.made, stops, talks_both peers w.made came.made a b c w.calls came.calls)
