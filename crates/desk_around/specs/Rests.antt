-- What a word leaves untouched.
use Rattle.std.specs.Prelude.{◌≡◌}
use Rattle.desk_around.specs.declared.around.Around.{Around}

-- nothing but the folder and the output is touched
pub record IsAtHome {S K N F P C : Type 0} (old new : Around S K N F P C) : Type 0 where
  pub input : new.input ≡ old.input
  pub net : new.net ≡ old.net
  pub papers : new.papers ≡ old.papers
  pub clock : new.clock ≡ old.clock
