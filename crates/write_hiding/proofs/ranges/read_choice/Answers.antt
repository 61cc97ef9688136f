use Rattle.std.proofs.Common.{rules, subst, refl}
use Rattle.std.specs.Prelude.{All, ◌<◌, ◌^◌}
use Rattle.write_hiding.specs.Choices.{plain_choice}
use Rattle.write_hiding.proofs.FormLemmas.{states_of}
use Rattle.write_hiding.proofs.ranges.read_choice.Goals as goal

pub returns : goal.returns
returns c =
    let choice = plain_choice c.args.choice.now in
    record {
      form = record {
        own_root = search rules;
        other_root = search rules;
        other = record {
          levels = c.requires.levels;
          states = states_of choice.other (subst (All (λ p. (p.0 < 2 ^ 128) × (p.1 < 2 ^ 128))) c.as_slice.ensures c.read_pairs.ensures.in_range);
          size = refl;
          bytes = subst (All (λ b. b < 256)) c.as_slice-2.ensures c.read_bytes.ensures.in_range;
        };
        size = search rules;
        words = c.read_words.ensures.in_range;
      };
    }
