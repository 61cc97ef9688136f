-- How a server stands.
use Rattle.std.specs.Prelude.{ℕ, ◌-◌, ◌/◌, Bool, true, false}
use Rattle.server_status.specs.declared.figures.Figures.{Figures}
use Rattle.server_status.specs.declared.status.LinkTurn.{LinkTurn}
use Rattle.server_status.specs.declared.status.LinkTurn.TheVariants.{Up, Down}
use Rattle.server_status.specs.declared.status.Status.{Status}
use Rattle.server_status.specs.declared.tally.Tally.{Tally}

abbrev pub link_of : Bool → LinkTurn
link_of true = Up
link_of false = Down

-- by the counts of its calls, its log's bytes and its state's figures
abbrev pub status_in : Tally → (bytes : ℕ) → Figures → Status
status_in t bytes figures = record {
  seconds = t.moment / 1000;
  link = link_of t.linked;
  links = t.links;
  clients = record { present = t.came - t.dropped - t.closed; dropped = t.dropped; closed = t.closed };
  work = t.work;
  bytes = bytes;
  figures = figures;
}
