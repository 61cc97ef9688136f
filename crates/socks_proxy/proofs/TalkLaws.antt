-- Talks one after another.
use Rattle.std.proofs.Common.{◌≡◌, inl, inr, ◌++◌, ℕ, List, [], Option, sym, ◌∙◌, ap, subst, append_assoc, arith}
use Rattle.std.proofs.lemmas.List.{append-nil}
use Rattle.express_words.specs.Seen.{Seen}
use Rattle.express_words.specs.Causes.{Rose}
use Rattle.express_words.specs.Streams.{Stream, Gave, Took, TookPrefix}
use Rattle.socks_proxy.specs.Talks.{Talked, Refuses, IsCut}
use Rattle.socks_proxy.specs.declared.fault.ProxyFault.{ProxyFault}

-- what a source gave in two parts
pub gave_more : (a b c : Option Stream) (x y : List ℕ) → Gave a b x → Gave b c y → Gave a c (x ++ y)
gave_more a b c x y g h = grind (arith, append_assoc)

-- what a sink took in two parts
pub took_more : (a b c : Option (List ℕ)) (x y : List ℕ) → Took a b x → Took b c y → Took a c (x ++ y)
took_more a b c x y g h = grind (arith, append_assoc)

-- a front of a front
pub took_less : (a b : Option (List ℕ)) (x y : List ℕ) → TookPrefix a b x → TookPrefix a b (x ++ y)
took_less a b x y (front, rest, whole, took) =
    (front, rest ++ y, ap (λ z. z ++ y) whole ∙ append_assoc front rest y, took)

-- the whole is a front of itself
pub took_whole : (a b : Option (List ℕ)) (x : List ℕ) → Took a b x → TookPrefix a b x
took_whole a b x all = (x, [], sym (append-nil x), all)

-- all of one, and a front of the next
pub took_on : (a b c : Option (List ℕ)) (x y : List ℕ) → Took a b x → TookPrefix b c y → TookPrefix a c (x ++ y)
took_on a b c x y all (front, rest, whole, took) =
    (x ++ front, rest, ap (λ z. x ++ z) whole ∙ sym (append_assoc x front rest), took_more a b c x front all took)

-- one talk after another
pub talked_more : (a b c : Seen) (m n x y : List ℕ) → Talked a b m x → Talked b c n y → Talked a c (m ++ n) (x ++ y)
talked_more a b c m n x y first then = (
  took_more a.written b.written c.written m n first.0 then.0,
  gave_more a.content b.content c.content x y first.1 then.1,
)

-- a cut is one of the whole
pub cut_on : (a b c : Seen) (why : ProxyFault) → b.faults ≡ a.faults → IsCut b c why → IsCut a c why
cut_on a b c why same (inl ended) = inl ended
cut_on a b c why same (inr failed) = inr (failed.0, subst (λ n. Rose n c.faults) same failed.1)

-- a refusal behind a talk
pub refuses_on : (P Q : ProxyFault → List ℕ → Type 0) (a b c : Seen) (m x : List ℕ) (why : ProxyFault)
    → Talked a b m x → b.faults ≡ a.faults → ((y : List ℕ) → P why y → Q why (x ++ y)) → Refuses P b c why → Refuses Q a c why
refuses_on P Q a b c m x why talked same lifts (y, gave, inl cut) =
    (x ++ y, gave_more a.content b.content c.content x y talked.1 gave, inl (cut_on a b c why same cut))
refuses_on P Q a b c m x why talked same lifts (y, gave, inr cause) =
    (x ++ y, gave_more a.content b.content c.content x y talked.1 gave, inr (lifts y cause))
