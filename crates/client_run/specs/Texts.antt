-- The lines that a run prints.
use Rattle.std.specs.Prelude.{ℕ, List, ◌++◌, codes, Result, Ok, Err}
use Rattle.std.specs.Fmt.{decimal}
use Rattle.client_core.specs.Outcomes.{with_message, outcome_text, no_box_text}
use Rattle.node_client.specs.declared.finished.Finished.{Finished}
use Rattle.node_client.specs.declared.finished.Told.{Told}
use Rattle.node_client.specs.declared.finished.Told.TheVariants.{Done, NoOwn}
use Rattle.node_client.specs.declared.stop.Stop.{Stop}
use Rattle.node_client.specs.declared.stop.Stop.TheVariants.{Fault}
use Rattle.node_client.specs.Texts.{stop_text}
use Rattle.client_run.specs.declared.cut.Untold.{Untold}
use Rattle.client_run.specs.declared.cut.Untold.TheVariants.{NoMemory, Unwritten}

-- where these are the bytes of a message that was read
abbrev pub told_text : Told → List ℕ → List ℕ
told_text (Done outcome) message = outcome_text (with_message outcome message)
told_text (NoOwn own) message = no_box_text own

unfoldable pub outcome_line : Finished → List ℕ
outcome_line f =
    codes "outcome " ++ (decimal f.request ++ (codes " " ++ (told_text f.told f.message ++ codes "\n")))

-- the last line, by how the work ended
abbrev pub end_line : Result Unit Stop → List ℕ
end_line (Ok done) = codes "end\n"
end_line (Err (Fault count)) = codes "net fault\n"
end_line (Err why) = codes "stopped " ++ (stop_text why ++ codes "\n")

-- why a text isn't told
abbrev pub untold_text : Untold → List ℕ
untold_text NoMemory = codes "out of memory"
untold_text Unwritten = codes "write fault"
