-- Exchanges after exchanges.
use Rattle.std.proofs.Common.{List, [], ◌∷◌, ◌++◌, Option, refl, subst}
use Rattle.express_words.specs.Calls.{Call}
use Rattle.node_client.specs.declared.peers.Peers.{Peers}
use Rattle.node_client.specs.Talks.{Talk, TalkOn, TalksOn}

pub talks_more : (peers : Peers) (ts : List Talk) (t : Talk) (a b c : Option (List Call))
    → TalksOn peers ts a b → TalkOn peers t b c → TalksOn peers (ts ++ t ∷ []) a c
talks_more peers [] t a b c same more = (c, subst (λ (x : Option (List Call)). TalkOn peers t x c) same more, refl)
talks_more peers (s ∷ ts) t a b c (next, first, others) more = (next, first, talks_more peers ts t next b c others more)

pub talks_both : (peers : Peers) (ts us : List Talk) (a b c : Option (List Call))
    → TalksOn peers ts a b → TalksOn peers us b c → TalksOn peers (ts ++ us) a c
talks_both peers [] us a b c same more = subst (λ (x : Option (List Call)). TalksOn peers us x c) same more
talks_both peers (t ∷ ts) us a b c (next, first, others) more = (next, first, talks_both peers ts us next b c others more)
