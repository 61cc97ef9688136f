-- The values of a command line, as texts.
use Rattle.std.specs.Prelude.{option_map}
use Rattle.desk_words.specs.CommandLine.{Said}
use Rattle.desk_words.specs.declared.given.Given.{Given}

abbrev pub said_at : Given → Said
said_at g = record {
  word = option_map (λ s. s.now) g.word;
  first = option_map (λ s. s.now) g.first;
  second = option_map (λ s. s.now) g.second;
  out = option_map (λ s. s.now) g.out;
  until = option_map (λ s. s.now) g.until;
  at_once = g.at_once;
}
