-- What a reply may do to a client.
use Rattle.std.specs.Prelude.{◌≡◌, ◌+◌, List, [], ◌∷◌, ◌++◌, Option, Some, None}
use Rattle.mailbox_rules.specs.Requests.{Request}
use Rattle.step_rules.specs.Client.{Client, Current, Owned, Step, Turn, Outcome, Registered}
use Rattle.step_rules.specs.Client.{Progress, Ignored, Later, Next, Finished}
use Rattle.step_rules.specs.ClientAsks.{owned_by}

-- its boxes, where a request had this outcome
abbrev pub owned_after : Client → Outcome → List Owned
owned_after c (Registered number) = c.owned ++ owned_by c number c.serial ∷ []
owned_after c outcome = c.owned

-- The client stays, or goes on to a step of the same request, or has ended it: then none is current, and its
-- serial is used.
abbrev pub Moves : Client → Request → Client → Progress → Type 0
Moves c request d Ignored = d ≡ c
Moves c request d (Later refusal) = d ≡ c
Moves c request d Next =
    (step : Step) × (d ≡ record c { current = Some (record { request = request; step = step }) })
Moves c request d (Finished outcome) =
    d ≡ record c { owned = owned_after c outcome; current = None; serial = c.serial + 1 }

-- without a current request it stays, and the reply is ignored
abbrev pub Turns : Client → Option Current → Turn → Type 0
Turns c None t = (t.client ≡ c) × (t.progress ≡ Ignored)
Turns c (Some now) t = Moves c now.request t.client t.progress
