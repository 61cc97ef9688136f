-- The calls of an exchange that gave no frame end short only where its answer ended early.
use Rattle.std.proofs.Common.{◌≡◌, ◌⊎◌, inl, inr, ℕ, List, Option, Err, sym, ◌∙◌, subst}
use Rattle.express_words.specs.Calls.{Call}
use Rattle.node_exchange.specs.Exchanging.{ExchangeOn, EndsShort, Exchange}
use Rattle.node_exchange.specs.declared.exchanging.Broken.{Broken}
use Rattle.node_exchange.specs.declared.exchanging.Broken.TheVariants as broken
use Rattle.node_exchange.proofs.EarlyLaws.{exchange_short}

pub broken_short : (peer : List ℕ) (e : Exchange) (a b : Option (List Call)) (why : Broken) (P : Type 0) → e.answer ≡ Err why
    → ((n : ℕ) → why ≡ broken.Early n → P) → ExchangeOn peer e a b → EndsShort b → P
broken_short peer e a b why P is early on ends = let s = exchange_short peer e a b on ends in early s.0 (cc (sym is ∙ s.1))

-- nothing was done, or this holds at the end, of two pieces of work one after the other
pub still_or : {N : Type 0} (E : N → Type 0) (first mid last : N) → (mid ≡ first) ⊎ E mid → (last ≡ mid) ⊎ E last → (last ≡ first) ⊎ E last
still_or E first mid last before (inr holds) = inr holds
still_or E first mid last (inl same) (inl still) = inl (still ∙ same)
still_or E first mid last (inr holds) (inl still) = inr (subst E (sym still) holds)
