-- The calls of a visit.
use Rattle.std.proofs.Common.{◌≡◌, ◌≢◌, ℕ, false, List, [], ◌∷◌, ◌++◌, Option, Some, None, refl, ap, subst, append_assoc, arith}
use Rattle.std.proofs.lemmas.List.{append-nil}
use Rattle.express_words.specs.Seen.{Seen}
use Rattle.express_words.specs.Streams.{Stream, Gave, left_in}
use Rattle.express_words.specs.Calls.{Call, Accepted, Adds, AddsClose, GivesTelling}
use Rattle.node_exchange.specs.Exchanging.{Makes, Exchange, EarlyAtEnd, ExchangesOn}
use Rattle.node_serve.specs.Moved.{Calls}
use Rattle.node_serve.specs.Visits.{Contact, contact_calls, Shown, ClosedAs, LinkAtEnd, up_to_close}

pub makes_none : (a : Option (List Call)) → Makes a a []
makes_none a = grind (arith, append-nil)

pub makes_same : (a b : Option (List Call)) → b ≡ a → Makes a b []
makes_same a b same = grind (arith, append-nil)

pub makes_both : (a b c : Option (List Call)) (x y : List Call) → Makes a b x → Makes b c y → Makes a c (x ++ y)
makes_both a b c x y g h = grind (arith, append_assoc)

-- ---- a server's own calls

-- the same exchanges behind other calls
told : (peer : List ℕ) (es : List Exchange) (a b : Option (List Call)) (before : List Call) → ExchangesOn peer es a b
    → (calls : List Call) × Makes a b calls × ExchangesOn peer es (Some before) (Some (before ++ calls))
told peer [] a b before same = ([], makes_same a b same, ap Some (append-nil before))
told peer (e ∷ es) a b before (next, (calls, makes, is), others) =
    let rest = told peer es next b (before ++ calls) others in (
      calls ++ rest.0,
      makes_both a next b calls rest.0 makes rest.1,
      (
        Some (before ++ calls),
        (calls, refl, is),
        subst (λ (x : List Call). ExchangesOn peer es (Some (before ++ calls)) (Some x)) (append_assoc before calls rest.0) rest.2,
      ),
    )

told_none : (peer : List ℕ) (es : List Exchange) (a b : Option (List Call)) (before : List Call) (on : ExchangesOn peer es a b) → es ≡ [] → (told peer es a b before on).0 ≡ []
unfolding told
told_none peer [] a b before on e = refl
told_none peer (x ∷ es) a b before on e = absurd (cc e)

-- the same exchanges by their own calls alone
pub own_calls : (peer : List ℕ) (es : List Exchange) (calls : Calls) → ExchangesOn peer es calls.old calls.new
    → (own : List Call) × Makes calls.old calls.new own × ExchangesOn peer es (Some []) (Some own) × (es ≡ [] → own ≡ [])
own_calls peer es calls on = let own = told peer es calls.old calls.new [] on in (own.0, own.1, own.2, told_none peer es calls.old calls.new [] on)

-- ---- an accept, these calls, and a close

abbrev pub stream : (given : List ℕ) (left : Option (List ℕ)) → Stream
stream given left = record { given = given; left = left }

pub contact_made : (d : Option (List Call)) (t : Option Stream) (x : Option (List ℕ)) (c b : Option (List Call)) (s : Option Stream) (w : Option (List ℕ)) (a : Option (List Call)) (k : Contact)
    → Adds a b (Accepted false) → GivesTelling b s w → Gave s t k.content.given → k.content.left ≡ left_in t → (w ≢ None → x ≡ Some k.taken)
    → Makes b c k.calls → AddsClose c d t x k.faults → Makes a d (contact_calls k) × ClosedAs d k.content k.taken k.faults t x k.faults
contact_made d t x c b s w a k accept tells gave left took makes close = grind (arith, append_assoc)

-- ---- the connection to the helper

pub link_at_end : {C : Type 0} (shows : C → Seen) (d : Option (List Call)) (t : Option Stream) (x : Option (List ℕ)) (c b a : Option (List Call)) (n : ℕ) (k : Contact)
    → Adds a b (Accepted false) → Makes b c k.calls → AddsClose c d t x n → EarlyAtEnd c shows → LinkAtEnd (Shown shows) (up_to_close a d k)
link_at_end shows d t x c b a n k accept makes close early = grind (arith, append_assoc)
