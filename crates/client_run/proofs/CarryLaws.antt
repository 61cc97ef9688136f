-- Requests that carry, one after another, and the one that breaks off.
use Rattle.std.specs.Prelude.{OnErr}
use Rattle.std.proofs.Common.{◌≡◌, ℕ, ◌+◌, ◌≤◌, Bool, true, false, List, [], ◌∷◌, ◌++◌, take, drop, length, Option, Result, Ok, Err, refl, sym, ap, ◌∙◌, subst, arith}
use Rattle.std.proofs.lemmas.List.{append-nil, take-append-drop, length-append}
use Rattle.std.proofs.lemmas.List.Elements.{All-nil, All-same, All-push}
use Rattle.express_words.specs.Calls.{Call}
use Rattle.mailbox_rules.specs.Requests.{Request}
use Rattle.step_rules.specs.Client.{Client}
use Rattle.client_core.specs.declared.progress.Outcome.TheVariants.{Registered, Accepted, Message, Refused}
use Rattle.node_client.specs.declared.finished.Finished.{Finished}
use Rattle.node_client.specs.declared.finished.Told.{Told}
use Rattle.node_client.specs.declared.finished.Told.TheVariants.{Done, NoOwn}
use Rattle.node_client.specs.declared.peers.Peers.{Peers}
use Rattle.node_client.specs.Talks.{Talk, TalksOn}
use Rattle.node_client.specs.Work.{line}
use Rattle.node_client.proofs.WorkLaws.{Working}
use Rattle.client_run.specs.declared.carrying.CarryHalt.TheVariants.{Broken}
use Rattle.client_run.specs.declared.carrying.CarriedOff.{CarriedOff}
use Rattle.client_run.specs.Carrying.{AllCarry, CarriesOff, CarriesOn, CarriesPart}
use Rattle.client_run.specs.Telling.{carries, IsLast}
use Rattle.client_run.specs.Carries.{is_message, AreWhole}

abbrev Carries : Finished → Type 0
Carries f = carries f.told ≡ true

abbrev IsWhole : ℕ → Finished → Type 0
IsWhole width f = is_message f.told ≡ true → length f.message ≡ width

pub none_carry : (finished : List Finished) → finished ≡ [] → AllCarry finished
none_carry finished none = All-same Carries finished [] none (All-nil Carries)

pub none_whole : (width : ℕ) (finished : List Finished) → finished ≡ [] → AreWhole width finished
none_whole width finished none = All-same (IsWhole width) finished [] none (All-nil (IsWhole width))

pub one_carries : (before after : List Finished) (f : Finished) (number : ℕ) (message : List ℕ) (told : Told) → f ≡ line number message told
    → carries told ≡ true → after ≡ before ++ f ∷ [] → AllCarry before → AllCarry after
one_carries before after f number message told of carried more all =
    All-same Carries after _ more (All-push Carries before f all (ap (λ (x : Finished). carries x.told) of ∙ carried))

line_whole : (width number : ℕ) (message : List ℕ) (told : Told) → length message ≡ width → IsWhole width (line number message told)
line_whole width number message (Done Message) size = λ is. size
line_whole width number message (Done (Registered n)) size = λ is. absurd (cc is)
line_whole width number message (Done Accepted) size = λ is. absurd (cc is)
line_whole width number message (Done (Refused refusal)) size = λ is. absurd (cc is)
line_whole width number message (NoOwn own) size = λ is. absurd (cc is)

pub one_whole : (width : ℕ) (before after : List Finished) (f : Finished) (number : ℕ) (message : List ℕ) (told : Told) → f ≡ line number message told
    → length message ≡ width → after ≡ before ++ f ∷ [] → AreWhole width before → AreWhole width after
one_whole width before after f number message told of size more all =
    All-same (IsWhole width) after _ more
    (All-push (IsWhole width) before f all (subst (IsWhole width) (sym of) (line_whole width number message told size)))

pub one_more_told : (before after : List Finished) (f : Finished) (number : ℕ) → after ≡ before ++ f ∷ [] → length before ≤ number → length after ≤ number + 1
one_more_told before after f number more few = omega (arith, ap length more, length-append before (f ∷ []))

pub breaks : (peers : Peers) (start new : Client) (requests : List Request) (number place : ℕ) (finished : List Finished) (f : Finished) (message : List ℕ) (told : Told) (a b : Option (List Call))
    → Working peers start requests number new (finished ++ f ∷ []) a b → f ≡ line place message told → carries told ≡ false
    → (made : List Talk) × CarriesOff start requests new finished made (Err (Broken f)) × TalksOn peers made a b
breaks peers start new requests number place finished f message told a b w of broken =
    let last : IsLast start requests (record { client = new; finished = finished ++ f ∷ []; made = w.made }) finished f = record {
      asked = take number requests;
      behind = drop number requests;
      all = sym (take-append-drop number requests);
      works = w.works;
      finished = refl;
    } in
    (w.made, (last, ap (λ (x : Finished). carries x.told) of ∙ broken), w.calls)

-- ---- where memory was wanting

pub on_err : {T E : Type 0} (r : Result T E) (P : Type 0) → P → OnErr r P
on_err (Ok x) P p = tt
on_err (Err e) P p = p

-- with the last line, which isn't told
part : (peers : Peers) (start new : Client) (requests : List Request) (number place : ℕ) (finished : List Finished) (message : List ℕ) (told : Told) (a b : Option (List Call)) (goes : Bool) → carries told ≡ goes
    → Working peers start requests number new (finished ++ line place message told ∷ []) a b → AllCarry finished → CarriesPart peers start requests a b
part peers start new requests number place finished message told a b true goes w all = record {
  asked = take number requests;
  behind = drop number requests;
  all = sym (take-append-drop number requests);
  client = new;
  finished = finished ++ line place message told ∷ [];
  made = w.made;
  end = Ok tt;
  carries = w.works;
  carried = one_carries finished _ (line place message told) place message told refl goes refl all;
  calls = w.calls;
}
part peers start new requests number place finished message told a b false goes w all =
    let last : IsLast start (take number requests) (record { client = new; finished = finished ++ line place message told ∷ []; made = w.made }) finished (line place message told) = record {
      asked = take number requests;
      behind = [];
      all = sym (append-nil (take number requests));
      works = w.works;
      finished = refl;
    } in
    record {
      asked = take number requests;
      behind = drop number requests;
      all = sym (take-append-drop number requests);
      client = new;
      finished = finished;
      made = w.made;
      end = Err (Broken (line place message told));
      carries = (last, goes);
      carried = all;
      calls = w.calls;
    }

pub untold_part : (peers : Peers) (start new : Client) (requests : List Request) (number place : ℕ) (finished : List Finished) (message : List ℕ) (told : Told) (a b : Option (List Call))
    → Working peers start requests number new (finished ++ line place message told ∷ []) a b → AllCarry finished → CarriesPart peers start requests a b
untold_part peers start new requests number place finished message told a b w all = part peers start new requests number place finished message told a b (carries told) refl w all

-- with all that was carried, which isn't told
pub whole_part : (peers : Peers) (start new : Client) (requests : List Request) (c : CarriedOff) (a b : Option (List Call)) → CarriesOn peers start requests new a b c → AllCarry c.finished.items → CarriesPart peers start requests a b
whole_part peers start new requests c a b (made, carries, calls) all = record {
  asked = requests;
  behind = [];
  all = sym (append-nil requests);
  client = new;
  finished = c.finished.items;
  made = made;
  end = c.end;
  carries = carries;
  carried = all;
  calls = calls;
}
