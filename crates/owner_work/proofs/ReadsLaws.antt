-- Boxes that are read, one behind another.
use Rattle.std.proofs.Common.{◌≡◌, ◌∙◌, ◌<◌, ◌≤◌, ◌+◌, ◌^◌, ℕ, List, [], ◌∷◌, ◌++◌, Option, ap, get_or}
use Rattle.std.proofs.Common.{length, subst, sym, take}
use Rattle.std.proofs.lemmas.List.{take_all, take_more}
use Rattle.express_words.specs.Calls.{Call}
use Rattle.express_words.specs.Seen.{Seen}
use Rattle.express_words.specs.declared.refusal.Refusal.{Refusal}
use Rattle.node_journal.specs.Disk.{DiskSeen}
use Rattle.kept_machine.specs.Kept.{KeptState}
use Rattle.kept_ledger.specs.declared.machine.KeptLedger.{KeptLedger}
use Rattle.kept_ledger.specs.declared.task.Task.TheVariants.{Read}
use Rattle.kept_ledger.specs.Tasks.{live_places}
use Rattle.owner_work.specs.Works.{Does, ReadsEach, ReadsLive, last_of, read}

module _ {D : Type 0} (shows : D → DiskSeen) (counts : D → Seen) (start : KeptState KeptLedger D)
    (before : Option (List Call)) where
  pub reads_more : (l new : KeptState KeptLedger D) (mid now : Option (List Call)) (live : List ℕ) (i own d : ℕ)
      (was answer next : Option Refusal) → i < length live → own ≡ get_or live i d → next ≡ last_of answer was
      → ReadsEach shows counts start before (take i live) was l mid
      → Does shows counts (Read own) answer l new mid now
      → ReadsEach shows counts start before (take (i + 1) live) next new now
  reads_more l new mid now live i own d was answer next within at is reads does =
      let more : take (i + 1) live ≡ take i live ++ own ∷ [] =
      take_more live i d within ∙ ap (λ (x : ℕ). take i live ++ x ∷ []) (sym at) in
      subst (λ (places : List ℕ). ReadsEach shows counts start before places next new now) (sym more)
      (subst (λ (r : Option Refusal). ReadsEach shows counts start before (take i live ++ own ∷ []) r new now)
      (sym is) (read (take i live) own was answer l new mid now reads does))

  pub reads_all : (l : KeptState KeptLedger D) (now : Option (List Call)) (live : List ℕ) (i : ℕ)
      (was : Option Refusal) → length live ≤ i → ReadsEach shows counts start before (take i live) was l now
      → ReadsEach shows counts start before live was l now
  reads_all l now live i was few reads =
      subst (λ (places : List ℕ). ReadsEach shows counts start before places was l now) (take_all i live few)
      reads

  pub reads_live : (l : KeptState KeptLedger D) (now : Option (List Call)) (live : List ℕ) (i : ℕ)
      (was refused : Option Refusal)
      → (length start.machine.ledger.state.boxes ≤ 2 ^ 32 → live ≡ live_places start.machine.ledger.state)
      → length live ≤ i → was ≡ refused → ReadsEach shows counts start before (take i live) was l now
      → ReadsLive shows counts refused start l before now
  reads_live l now live i was refused all few is reads = record {
    live = live;
    all = all;
    each = subst (λ (r : Option Refusal). ReadsEach shows counts start before live r l now) is
        (reads_all l now live i was few reads);
  }
