use Rattle.std.proofs.Common.{◌≡◌, ◌*◌, take}
use Rattle.dpf_rules.specs.Bytes.{words_bytes, bits_number}
use Rattle.dpf_rules.specs.Ideal.{own_at}
use Rattle.write_hiding.specs.Choices.{plain_choice}
use Rattle.write_hiding.specs.Levels.{own_word, own_right}
use Rattle.write_hiding.proofs.part.levels_into.Given as goal

abbrev pub invariant-loop-level : goal.invariant-loop-level
invariant-loop-level l =
    let c = plain_choice l.choice in
    let viewer = l.choice.viewer in
    record {
      state : l.state ≡ own_at l.target viewer c.own_root c.other l.level;
      words : take (16 * l.level) l.out ≡ words_bytes (own_word l.target viewer c.own_root c.other) l.level;
      rights : l.rights ≡ bits_number (own_right l.target viewer c.own_root c.other) l.level;
    }
