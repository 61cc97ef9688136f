-- What is said to a proxy, and what it answers.
use Rattle.std.specs.Prelude.{◌≡◌, ◌≢◌, ◌⊎◌, ℕ, List, [], ◌∷◌, ◌++◌}
use Rattle.express_words.specs.Seen.{Seen}
use Rattle.express_words.specs.Causes.{Rose}
use Rattle.express_words.specs.Streams.{Gave, IsAtEnd, Took}
use Rattle.socks_proxy.specs.Forms.{greeting, credentials, request, choice, status, IsReply}
use Rattle.socks_proxy.specs.declared.fault.ProxyFault.{ProxyFault}
use Rattle.socks_proxy.specs.declared.fault.ProxyFault.TheVariants as fault

-- ---- the whole talk

-- what is said: a greeting, a user name with its password, and a request for this port of this host
abbrev pub talk_of : (name password host : List ℕ) → (port : ℕ) → List ℕ
talk_of name password host port = greeting ++ (credentials name password ++ request host port)

-- what a proxy that says yes answers, and nothing behind it
abbrev pub IsYes : List ℕ → Type 0
IsYes answer = (reply : List ℕ) × IsReply 0 reply × (answer ≡ choice 2 ++ (status 0 ++ reply))

-- ---- on a connection

-- From old to new a connection took this message and gave this answer.
abbrev pub Talked : Seen → Seen → List ℕ → List ℕ → Type 0
Talked old new message answer =
    Took old.written new.written message × Gave old.content new.content answer

-- From old to new a connection took this message and gave an answer that is such.
abbrev pub Answered : (List ℕ → Type 0) → Seen → Seen → List ℕ → Type 0
Answered good old new message = (answer : List ℕ) × good answer × Talked old new message answer

abbrev pub IsGranted : List ℕ → Type 0
IsGranted answer = IsReply 0 answer

-- ---- refusals

-- what is no message of a proxy's in its place: a choice, a status, and the first five bytes of a reply
abbrev pub IsNoChoice : List ℕ → Type 0
IsNoChoice answer = (way : ℕ) → answer ≢ choice way

abbrev pub IsNoStatus : List ℕ → Type 0
IsNoStatus answer = (code : ℕ) → answer ≢ status code

abbrev pub IsNoReply : List ℕ → Type 0
IsNoReply front = (code : ℕ) → (rest : List ℕ) → IsReply code (front ++ rest) → ⊥

-- why a way isn't taken: this answer, which is no choice or is another one
abbrev pub IsChoiceCause : ProxyFault → List ℕ → Type 0
IsChoiceCause fault.NotSocks answer = IsNoChoice answer
IsChoiceCause fault.NoNames answer = (way : ℕ) × (way ≢ 2) × (answer ≡ choice way)
IsChoiceCause other answer = ⊥

-- why a user name isn't taken
abbrev pub IsStatusCause : ProxyFault → List ℕ → Type 0
IsStatusCause fault.NotSocks answer = IsNoStatus answer
IsStatusCause fault.NeedsPassword answer = (code : ℕ) × (code ≢ 0) × (answer ≡ status code)
IsStatusCause other answer = ⊥

-- why a request isn't granted: the front of a reply with another code, or of none
abbrev pub IsReplyCause : ProxyFault → List ℕ → Type 0
IsReplyCause fault.NotSocks front = IsNoReply front
IsReplyCause (fault.Refused code) front =
    (code ≢ 0) × ((kind : ℕ) × (first : ℕ) × (front ≡ 5 ∷ (code ∷ (0 ∷ (kind ∷ (first ∷ []))))))
IsReplyCause other front = ⊥

-- why the whole talk isn't granted: by the choice, or behind the right one by the status, or behind both by
-- the reply
abbrev pub IsTalkCause : ProxyFault → List ℕ → Type 0
IsTalkCause why answer =
    IsChoiceCause why answer
    ⊎ (((later : List ℕ) × (answer ≡ choice 2 ++ later) × IsStatusCause why later)
    ⊎ ((later : List ℕ) × (answer ≡ choice 2 ++ (status 0 ++ later)) × IsReplyCause why later))

-- why no answer came: the connection was at its end, or failed
abbrev pub IsCut : Seen → Seen → ProxyFault → Type 0
IsCut old new why =
    ((why ≡ fault.Ended) × IsAtEnd new.content) ⊎ ((why ≡ fault.Failed) × Rose old.faults new.faults)

-- from old to new a connection gave this front of an answer, and was cut
abbrev pub BreaksOff : Seen → Seen → ProxyFault → Type 0
BreaksOff old new why = (front : List ℕ) × Gave old.content new.content front × IsCut old new why

-- from old to new a connection gave an answer that is such a cause, or was cut
abbrev pub Refuses : (ProxyFault → List ℕ → Type 0) → Seen → Seen → ProxyFault → Type 0
Refuses cause old new why =
    (answer : List ℕ) × Gave old.content new.content answer × (IsCut old new why ⊎ cause why answer)
