-- Each draw has its own stream.
use Rattle.std.proofs.Common.{◌≡◌, ℕ, ◌<◌, refl, sym, arith}
use Rattle.std.specs.Prelude.{slice_index_or}
use Rattle.std.proofs.lemmas.List.FromFn.{get_or-map-range_with_len}
use Rattle.dpf_rules.specs.Expansion.{choice}
use Rattle.step_rules.specs.Client.{Client}
use Rattle.step_rules.specs.ClientAsks.{words}
use Rattle.step_laws.specs.Draws.{ClientsDrawAfresh, ServersDrawAfresh}

pub word_is : (c : Client) (k : ℕ) → k < 16 → slice_index_or (words c) k 0 ≡ choice c.seed c.serial k
word_is c k low = get_or-map-range_with_len (choice c.seed c.serial) 0 16 k k 0 low (omega arith)

pub servers_draw : ServersDrawAfresh
servers_draw = record { stream = λ n. n; distinct = λ n m e. e; leader = λ a. refl; helper = λ h. refl }

pub clients_draw : ClientsDrawAfresh
clients_draw = record {
  stream = λ s. s;
  distinct = λ s t e. e;
  word = λ c k low. word_is c k low;
  root = λ c server low. sym (word_is c server (omega (arith, low)));
  key0 = λ c n serial. refl;
  key1 = λ c n serial. refl;
}
