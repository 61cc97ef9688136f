-- Requests that are told one after another.
use Rattle.std.proofs.Common.{◌≡◌, ℕ, suc, ◌+◌, ◌<◌, Bool, true, false, List, [], ◌∷◌, ◌++◌, take, drop, length, get_or, Option, Result, Ok, Err, refl, sym, ap, ◌∙◌, subst, arith}
use Rattle.std.specs.List.{AllPass}
use Rattle.std.proofs.Math.Seq.{split_at}
use Rattle.std.proofs.lemmas.List.{take_more, take-append-drop}
use Rattle.std.proofs.lemmas.List.Elements.{All-nil, All-push}
use Rattle.express_words.specs.Calls.{Call}
use Rattle.express_words.specs.Streams.{Took}
use Rattle.mailbox_rules.specs.Requests.{Request}
use Rattle.step_rules.specs.Client.{Client}
use Rattle.node_client.specs.declared.finished.Finished.{Finished}
use Rattle.node_client.specs.declared.finished.Told.{Told}
use Rattle.node_client.specs.declared.peers.Peers.{Peers}
use Rattle.node_client.specs.declared.stop.Stop.{Stop}
use Rattle.node_client.specs.Talks.{Talk, TalksOn}
use Rattle.node_client.specs.Steps.{Ending, told_in, IsMessage, MessageBy}
use Rattle.node_client.specs.Work.{Comes, Came, line_of, line, WorkState, WorksAll, none, then, StopsAt}
use Rattle.node_client.proofs.WorkLaws.{end_told, stop_told, line_is, length_before}
use Rattle.client_run.specs.declared.cut.Cut.{Cut}
use Rattle.client_run.specs.declared.cut.Cut.TheVariants as cuts
use Rattle.client_run.specs.declared.cut.Untold.{Untold}
use Rattle.client_run.specs.declared.cut.Untold.TheVariants as untold
use Rattle.client_run.specs.declared.telling.Until.{Until}
use Rattle.client_run.specs.Texts.{outcome_line}
use Rattle.client_run.specs.Telling.{Moment, Passed, PassedPart, TookPart, PutsLine, TellsOne, TellsOff, goes_on, AllGoOn, lines_of, IsLast}
use Rattle.client_run.proofs.PassedLaws.{took_nothing, passed_both, passed_part, passed_silent, lines_more}

-- ---- one request

-- a request that came to its end, with its line
record Ended (peers : Peers) (number : ℕ) (old : Client) (r : Request) (new : Client) (message : List ℕ) (told : Told) (a b : Option (List Call)) : Type 0 where
  made : List Talk
  end : Ending
  comes : Comes old r new made (Ok end)
  is_told : told ≡ told_in end
  calls : TalksOn peers made a b
  is_line : line number message told ≡ line_of number end

ended : (peers : Peers) (number : ℕ) (old : Client) (r : Request) (new : Client) (message : List ℕ) (told : Told) (a b : Option (List Call))
    → Came peers old r new message (Ok told) a b → Ended peers number old r new message told a b
ended peers number old r new message told a b came =
    let e = end_told came.end told came.told in
    let read : IsMessage e.0 message = subst (λ (x : Result Ending Stop). MessageBy x message) e.1 came.message_is in
    record {
      made = came.made;
      end = e.0;
      comes = subst (λ (x : Result Ending Stop). Comes old r new came.made x) e.1 came.comes;
      is_told = e.2;
      calls = came.calls;
      is_line = ap (line number message) e.2 ∙ line_is number e.0 message read;
    }

abbrev at : Option (List Call) → Option (List ℕ) → Moment
at calls written = record { calls = calls; written = written }

pub tells_end : (peers : Peers) (number : ℕ) (old : Client) (r : Request) (new : Client) (message : List ℕ) (told : Told) (a b : Option (List Call)) (w v : Option (List ℕ))
    → Came peers old r new message (Ok told) a b → Took w v (outcome_line (line number message told))
    → TellsOne peers number old r new (Ok told) (at a w) (at b v)
tells_end peers number old r new message told a b w v came took =
    let e = ended peers number old r new message told a b came in
    let out : Took w v (outcome_line (line_of number e.end)) = subst (λ (x : Finished). Took w v (outcome_line x)) e.is_line took in
    (e.made, e.end, e.comes, e.is_told, record { calls = e.calls; written = out })

pub tells_untold : (peers : Peers) (number : ℕ) (old : Client) (r : Request) (new : Client) (message : List ℕ) (told : Told) (why : Untold) (a b : Option (List Call)) (w v : Option (List ℕ))
    → Came peers old r new message (Ok told) a b → PutsLine (outcome_line (line number message told)) (Err why) w v
    → TellsOne peers number old r new (Err (cuts.Untold why)) (at a w) (at b v)
tells_untold peers number old r new message told untold.NoMemory a b w v came same =
    let e = ended peers number old r new message told a b came in
    (e.made, e.end, e.comes, record { calls = e.calls; written = subst (λ (x : Option (List ℕ)). Took w x []) (sym same) (took_nothing w) })
tells_untold peers number old r new message told untold.Unwritten a b w v came part =
    let e = ended peers number old r new message told a b came in
    (e.made, e.end, e.comes, record { calls = e.calls; written = subst (λ (x : Finished). TookPart [] (outcome_line x) w v) e.is_line part })

pub tells_stop : (peers : Peers) (number : ℕ) (old : Client) (r : Request) (new : Client) (message : List ℕ) (why : Stop) (a b : Option (List Call)) (w : Option (List ℕ))
    → Came peers old r new message (Err why) a b → TellsOne peers number old r new (Err (cuts.Stopped why)) (at a w) (at b w)
tells_stop peers number old r new message why a b w came =
    (came.made, subst (λ (x : Result Ending Stop). Comes old r new came.made x) (stop_told came.end why came.told) came.comes, record { calls = came.calls; written = took_nothing w })

-- ---- requests one after another

-- where the work stands before the request of this number
pub record Telling (peers : Peers) (until : Until) (start : Client) (requests : List Request) (number : ℕ) (c : Client) (a b : Moment) : Type 0 where
  pub finished : List Finished
  pub made : List Talk
  pub works : WorksAll start (take number requests) (record { client = c; finished = finished; made = made })
  pub carried : AllGoOn until finished
  pub passed : Passed peers made (lines_of finished) a b

pub telling_first : (peers : Peers) (until : Until) (start : Client) (requests : List Request) (a : Moment) → Telling peers until start requests 0 start a a
telling_first peers until start requests a = record {
  finished = [];
  made = [];
  works = none;
  carried = All-nil (λ (f : Finished). goes_on until f.told ≡ true);
  passed = record { calls = refl; written = took_nothing a.written };
}

works_on : (start old new : Client) (requests : List Request) (number : ℕ) (r : Request) (before : List Finished) (made more : List Talk) (end : Ending)
    → WorksAll start (take number requests) (record { client = old; finished = before; made = made }) → number < length requests → get_or requests number r ≡ r
    → Comes old r new more (Ok end)
    → WorksAll start (take (number + 1) requests) (record { client = new; finished = before ++ line_of number end ∷ []; made = made ++ more })
works_on start old new requests number r before made more end w less at comes =
    let all : take number requests ++ r ∷ [] ≡ take (number + 1) requests
    = sym (take_more requests number r less ∙ ap (λ (x : Request). take number requests ++ x ∷ []) at) in
    let next = then (take number requests) (record { client = old; finished = before; made = made }) r new more end w comes in
    subst (λ (x : List Request). WorksAll start x (record { client = new; finished = before ++ line_of number end ∷ []; made = made ++ more })) all
    (subst (λ n. WorksAll start (take number requests ++ r ∷ []) (record { client = new; finished = before ++ line_of n end ∷ []; made = made ++ more })) (length_before number requests less) next)

pub telling_more : (peers other : Peers) (until : Until) (start old new : Client) (requests : List Request) (number : ℕ) (r : Request) (told : Told) (a b c : Moment) → other ≡ peers
    → Telling peers until start requests number old a b → number < length requests → get_or requests number r ≡ r
    → TellsOne other number old r new (Ok told) b c → goes_on until told ≡ true → Telling peers until start requests (number + 1) new a c
telling_more peers other until start old new requests number r told a b c same t less at one goes =
    let (made, end, comes, is, passed) = subst (λ (p : Peers). TellsOne p number old r new (Ok told) b c) same one in
    let f : Finished = line_of number end in
    let on : goes_on until f.told ≡ true = ap (goes_on until) (sym is) ∙ goes in
    record {
      finished = t.finished ++ f ∷ [];
      made = t.made ++ made;
      works = works_on start old new requests number r t.finished t.made made end t.works less at comes;
      carried = All-push (λ (x : Finished). goes_on until x.told ≡ true) t.finished f t.carried on;
      passed = subst (λ (x : List ℕ). Passed peers (t.made ++ made) x a c) (lines_more t.finished f)
          (passed_both peers t.made made (lines_of t.finished) (outcome_line f) a b c t.passed passed);
    }

-- the request of this number is the last of those that came to their ends
last_of : (start old new : Client) (requests : List Request) (number : ℕ) (r : Request) (before : List Finished) (made more : List Talk) (end : Ending)
    → WorksAll start (take number requests) (record { client = old; finished = before; made = made }) → number < length requests → get_or requests number r ≡ r
    → Comes old r new more (Ok end)
    → IsLast start requests (record { client = new; finished = before ++ line_of number end ∷ []; made = made ++ more }) before (line_of number end)
last_of start old new requests number r before made more end w less at comes = record {
  asked = take (number + 1) requests;
  behind = drop (number + 1) requests;
  all = sym (take-append-drop (number + 1) requests);
  works = works_on start old new requests number r before made more end w less at comes;
  finished = refl;
}

pub telling_breaks : (peers other : Peers) (until : Until) (start old new : Client) (requests : List Request) (number : ℕ) (r : Request) (told : Told) (a b c : Moment) → other ≡ peers
    → Telling peers until start requests number old a b → number < length requests → get_or requests number r ≡ r
    → TellsOne other number old r new (Ok told) b c → goes_on until told ≡ false → TellsOff peers until start requests (Err cuts.Broken) a c
telling_breaks peers other until start old new requests number r told a b c same t less at one broken =
    let (made, end, comes, is, passed) = subst (λ (p : Peers). TellsOne p number old r new (Ok told) b c) same one in
    let f : Finished = line_of number end in
    let s : WorkState = record { client = new; finished = t.finished ++ f ∷ []; made = t.made ++ made } in (
      s,
      t.finished,
      f,
      last_of start old new requests number r t.finished t.made made end t.works less at comes,
      t.carried,
      ap (goes_on until) (sym is) ∙ broken,
      subst (λ (x : List ℕ). Passed peers (t.made ++ made) x a c) (lines_more t.finished f)
          (passed_both peers t.made made (lines_of t.finished) (outcome_line f) a b c t.passed passed),
    )

cut_at : (peers : Peers) (until : Until) (start old new : Client) (requests : List Request) (number : ℕ) (r : Request) (why : Cut) (a b c : Moment)
    → Telling peers until start requests number old a b → number < length requests → get_or requests number r ≡ r
    → TellsOne peers number old r new (Err why) b c → TellsOff peers until start requests (Err why) a c
cut_at peers until start old new requests number r cuts.Broken a b c t less at never = absurd never
cut_at peers until start old new requests number r (cuts.Stopped why) a b c t less at (made, comes, passed) =
    let s : WorkState = record { client = new; finished = t.finished; made = t.made ++ made } in
    let stops : StopsAt start requests s why = record {
      before = take number requests;
      s = record { client = old; finished = t.finished; made = t.made };
      works = t.works;
      r = r;
      behind = drop (suc number) requests;
      all = split_at requests number r less ∙ ap (λ (x : Request). take number requests ++ x ∷ drop (suc number) requests) at;
      made = made;
      comes = comes;
      finished = refl;
      exchanges = refl;
    } in
    (s, stops, t.carried, passed_silent peers t.made made (lines_of t.finished) a b c t.passed passed)
cut_at peers until start old new requests number r (cuts.Untold untold.NoMemory) a b c t less at (made, end, comes, passed) =
    let f : Finished = line_of number end in
    let s : WorkState = record { client = new; finished = t.finished ++ f ∷ []; made = t.made ++ made } in (
      s,
      t.finished,
      f,
      last_of start old new requests number r t.finished t.made made end t.works less at comes,
      t.carried,
      passed_silent peers t.made made (lines_of t.finished) a b c t.passed passed,
    )
cut_at peers until start old new requests number r (cuts.Untold untold.Unwritten) a b c t less at (made, end, comes, passed) =
    let f : Finished = line_of number end in
    let s : WorkState = record { client = new; finished = t.finished ++ f ∷ []; made = t.made ++ made } in (
      s,
      t.finished,
      f,
      last_of start old new requests number r t.finished t.made made end t.works less at comes,
      t.carried,
      passed_part peers t.made made (lines_of t.finished) (outcome_line f) a b c t.passed passed,
    )

pub telling_cut : (peers other : Peers) (until : Until) (start old new : Client) (requests : List Request) (number : ℕ) (r : Request) (why : Cut) (a b c : Moment) → other ≡ peers
    → Telling peers until start requests number old a b → number < length requests → get_or requests number r ≡ r
    → TellsOne other number old r new (Err why) b c → TellsOff peers until start requests (Err why) a c
telling_cut peers other until start old new requests number r why a b c same t less at one =
    cut_at peers until start old new requests number r why a b c t less at (subst (λ (p : Peers). TellsOne p number old r new (Err why) b c) same one)

pub telling_all : (peers : Peers) (until : Until) (start c : Client) (requests : List Request) (number : ℕ) (a b : Moment)
    → Telling peers until start requests number c a b → take number requests ≡ requests → TellsOff peers until start requests (Ok tt) a b
telling_all peers until start c requests number a b t all =
    let s : WorkState = record { client = c; finished = t.finished; made = t.made } in
    (s, subst (λ (x : List Request). WorksAll start x s) all t.works, t.carried, t.passed)
