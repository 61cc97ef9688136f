use Rattle.std.proofs.Common.{◌≡◌, ◌*◌, take}
use Rattle.dpf_rules.specs.Bytes.{words_bytes, bits_number}
use Rattle.dpf_rules.specs.Keys.{path_at, path_word, path_right}
use Rattle.dpf_keys.proofs.generation.levels_into.Given as goal

abbrev pub invariant-loop-level : goal.invariant-loop-level
invariant-loop-level l = record {
  state0 : l.state0 ≡ (path_at l.target l.root0 l.root1 l.level).0;
  state1 : l.state1 ≡ (path_at l.target l.root0 l.root1 l.level).1;
  words : take (16 * l.level) l.out ≡ words_bytes (path_word l.target l.root0 l.root1) l.level;
  rights : l.rights ≡ bits_number (path_right l.target l.root0 l.root1) l.level;
}
