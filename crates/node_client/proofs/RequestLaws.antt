-- One request on a net.
use Rattle.std.proofs.Common.{◌≡◌, ℕ, List, [], Option, Some, None, Result, Ok, Err, refl, sym, subst}
use Rattle.std.specs.Prelude.{OnOk}
use Rattle.express_words.specs.Calls.{Call}
use Rattle.mailbox_rules.specs.Requests.{Request}
use Rattle.step_rules.specs.Client.{Client, Fault}
use Rattle.step_rules.specs.ClientAsks.{asked}
use Rattle.node_client.specs.declared.finished.Told.{Told}
use Rattle.node_client.specs.declared.peers.Peers.{Peers}
use Rattle.node_client.specs.declared.stop.Stop.{Stop}
use Rattle.node_client.specs.Talks.{Talk}
use Rattle.node_client.specs.Steps.{Ending, Walks, Walked, told_as, MessageBy}
use Rattle.node_client.specs.Work.{refused, ComesBy, Came}
use Rattle.node_client.proofs.WalkLaws.{walks_idle}

-- a request that was taken
pub came_walked : (peers : Peers) (old taken new : Client) (r : Request) (message : List ℕ) (result : Result Told Stop) (a b : Option (List Call))
    → asked old r ≡ Ok taken → Walked peers taken new message result a b → Came peers old r new message result a b
came_walked peers old taken new r message result a b is w = record {
  made = w.made;
  end = w.end;
  comes = subst (λ (x : Result Client Fault). ComesBy x old new w.made w.end) (sym is) w.walks;
  told = w.told;
  message_is = w.message_is;
  calls = w.calls;
}

-- and one that was not
pub came_refused : (peers : Peers) (old new : Client) (r : Request) (message : List ℕ) (a : Option (List Call)) (fault : Fault) (end : Result Ending Stop)
    → asked old r ≡ Err fault → refused fault ≡ Some end → new ≡ old → MessageBy end message → Came peers old r new message (told_as end) a a
came_refused peers old new r message a fault end is why same read =
    let none : List Talk = [] in
    record {
      made = [];
      end = end;
      comes = subst (λ (x : Result Client Fault). ComesBy x old new none end) (sym is) (why, same, refl);
      told = refl;
      message_is = read;
      calls = refl;
    }

end_idle : (start new : Client) (made : List Talk) (end : Result Ending Stop) → Walks start new made end → OnOk (told_as end) (new.current ≡ None)
end_idle start new made (Ok end) w = walks_idle start new made end w
end_idle start new made (Err why) w = tt

-- a request that came to its end leaves none current
pub walked_idle : (peers : Peers) (start new : Client) (message : List ℕ) (result : Result Told Stop) (a b : Option (List Call))
    → Walked peers start new message result a b → OnOk result (new.current ≡ None)
walked_idle peers start new message result a b w =
    subst (λ (x : Result Told Stop). OnOk x (new.current ≡ None)) (sym w.told) (end_idle start new w.made w.end w.walks)
