-- The texts of faults.
use Rattle.std.specs.Prelude.{ℕ, List, codes}
use Rattle.replay_world.specs.declared.world.PutFault.{PutFault}
use Rattle.replay_world.specs.declared.world.PutFault.TheVariants.{Failed, NoMemory}

abbrev pub fault_text : PutFault → List ℕ
fault_text Failed = codes "the sink failed"
fault_text NoMemory = codes "out of memory"
