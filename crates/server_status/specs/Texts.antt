-- The text of each line.
use Rattle.std.specs.Prelude.{ℕ, List, ◌++◌, codes, decimal}
use Rattle.server_status.specs.declared.figures.Figures.{Figures}
use Rattle.server_status.specs.declared.status.ClientCounts.{ClientCounts}
use Rattle.server_status.specs.declared.status.LinkTurn.{LinkTurn}
use Rattle.server_status.specs.declared.status.LinkTurn.TheVariants.{Up, Down}
use Rattle.server_status.specs.declared.status.Status.{Status}
use Rattle.server_status.specs.declared.status.WorkCounts.{WorkCounts}

abbrev pub turn_text : LinkTurn → List ℕ
turn_text Up = codes "link up"
turn_text Down = codes "link down"

abbrev pub clients_text : ClientCounts → List ℕ
clients_text counts =
    codes "clients " ++ (decimal counts.present
    ++ (codes ", dropped " ++ (decimal counts.dropped
    ++ (codes ", closed " ++ decimal counts.closed))))

abbrev pub work_text : WorkCounts → List ℕ
work_text counts =
    codes "frames " ++ (decimal counts.frames
    ++ (codes ", rounds " ++ (decimal counts.rounds
    ++ (codes ", batches " ++ (decimal counts.batches
    ++ (codes ", largest " ++ decimal counts.largest))))))

abbrev pub figures_text : Figures → List ℕ
figures_text figures =
    codes "boxes " ++ (decimal figures.boxes
    ++ (codes ", lanes " ++ (decimal figures.lanes
    ++ (codes ", leases " ++ (decimal figures.leases
    ++ (codes ", outstanding " ++ decimal figures.outstanding))))))

abbrev pub status_text : Status → List ℕ
status_text status =
    codes "serving " ++ (decimal status.seconds
    ++ (codes " seconds, " ++ (turn_text status.link
    ++ (codes ", links " ++ (decimal status.links
    ++ (codes ", " ++ (clients_text status.clients
    ++ (codes ", " ++ (work_text status.work
    ++ (codes ", log " ++ (decimal status.bytes
    ++ (codes " bytes, " ++ figures_text status.figures))))))))))))
