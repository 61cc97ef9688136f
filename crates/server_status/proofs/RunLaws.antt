-- A run that goes on.
use Rattle.std.proofs.Common.{ℕ, List, [], ◌++◌, Option, refl, sym, ◌∙◌, subst, add-one}
use Rattle.std.specs.Prelude.{◌+◌}
use Rattle.many_words.specs.Events.{Event}
use Rattle.many_conns.specs.Ends.{BreaksOff}
use Rattle.many_conns.specs.Hall.{Hall, Rounds, RoundsOf}
use Rattle.many_conns.specs.Rules.{Rules}
use Rattle.node_journal.specs.Disk.{DiskSeen}
use Rattle.logged_hub.specs.Runs.{CallByCall, Fails, Proceeds, calls_then}
use Rattle.logged_hub.specs.State.{HubState}

-- one round more
pub one_more : {S : Type 0} (rules : Rules S) (n : ℕ) (old mid new : Option (List Event)) (h m t : Hall S)
    → RoundsOf rules n old mid h m → RoundsOf rules 1 mid new m t → RoundsOf rules (n + 1) old new h t
one_more rules n old mid new h m t ran one =
    let from = subst (λ k. Rounds rules one.0 new k t) one.2.1 one.3 in
    let last = subst (λ between. Rounds rules between new m t) one.2.0 from in
    subst (λ k. RoundsOf rules k old new h t) (sym (add-one n)) (mid, m, ran, last)

module _ {W D : Type 0} (tells : W → Option (List Event)) (shows : D → DiskSeen) where
  pub calls_none : (hub : HubState W D) → Proceeds tells shows hub hub
  calls_none hub = record { calls = ([], refl); fault = refl }

  pub calls_more : (old mid new : HubState W D) → CallByCall tells shows old mid
      → CallByCall tells shows mid new → CallByCall tells shows old new
  calls_more old mid new one two =
      (one.0 ++ two.0, calls_then tells shows one.0 two.0 old mid new one.1 two.1)

  pub goes_more : (old mid new : HubState W D) → Proceeds tells shows old mid → Proceeds tells shows mid new
      → Proceeds tells shows old new
  goes_more old mid new one two = record {
    calls = calls_more old mid new one.calls two.calls;
    fault = two.fault ∙ one.fault;
  }

  pub breaks_more : (old mid new : HubState W D) → Proceeds tells shows old mid
      → BreaksOff (Proceeds tells shows) (Fails tells shows) mid new
      → BreaksOff (Proceeds tells shows) (Fails tells shows) old new
  breaks_more old mid new went end = record {
    before = end.before;
    went_on = goes_more old mid end.before went end.went_on;
    failed = end.failed;
  }
