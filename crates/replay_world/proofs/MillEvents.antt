-- In a mill's schedule no bytes come from outside.
use Rattle.std.proofs.Common.{ℕ, zero, suc, List, [], ◌∷◌, ◌++◌}
use Rattle.schedule_text.specs.declared.schedule.Asked.{Asked}
use Rattle.schedule_text.specs.declared.schedule.Event.{Event}
use Rattle.schedule_text.specs.Mill.{mill_seed, asked_and_finished, mill_registers, mill_writes, mill_reads}
use Rattle.schedule_text.specs.Mill.{mill_schedule}
use Rattle.replay_world.specs.Laws.{AreFromClients}

both_from_clients : (xs ys : List Event) → AreFromClients xs → AreFromClients ys → AreFromClients (xs ++ ys)
both_from_clients [] ys h k = k
both_from_clients (x ∷ xs) ys h k = (h.0, both_from_clients xs ys h.1 k)

pair_from_clients : (client : ℕ) (asked : Asked) → AreFromClients (asked_and_finished client asked)
unfolding asked_and_finished
pair_from_clients client asked = (tt, (tt, tt))

registers_from_clients : (seed : List ℕ) (i : ℕ) → AreFromClients (mill_registers seed i)
unfolding mill_registers
registers_from_clients seed zero = tt
registers_from_clients seed (suc i) =
    both_from_clients (mill_registers seed i) _ (registers_from_clients seed i) (pair_from_clients _ _)

writes_from_clients : (seed : List ℕ) (j : ℕ) → AreFromClients (mill_writes seed j)
unfolding mill_writes
writes_from_clients seed zero = tt
writes_from_clients seed (suc j) =
    both_from_clients (mill_writes seed j) _ (writes_from_clients seed j) (pair_from_clients _ _)

reads_from_clients : (i : ℕ) → AreFromClients (mill_reads i)
unfolding mill_reads
reads_from_clients zero = tt
reads_from_clients (suc i) = both_from_clients (mill_reads i) _ (reads_from_clients i) (pair_from_clients _ _)

pub mill_from_clients : (n : ℕ) → AreFromClients (mill_schedule n).events
unfolding mill_schedule
mill_from_clients n =
    both_from_clients (mill_registers (mill_seed n) 64 ++ mill_writes (mill_seed n) n) (mill_reads 64)
    (both_from_clients (mill_registers (mill_seed n) 64) (mill_writes (mill_seed n) n)
    (registers_from_clients (mill_seed n) 64) (writes_from_clients (mill_seed n) n))
    (reads_from_clients 64)
