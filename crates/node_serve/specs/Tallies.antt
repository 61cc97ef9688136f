-- How many visits had each answer, and the texts of a server that ended early.
use Rattle.std.specs.Prelude.{ℕ, ◌+◌, List, ◌++◌, fold, codes, decimal, Option, Some, option_map}
use Rattle.node_serve.specs.declared.node.Served.{Served}
use Rattle.node_serve.specs.declared.node.Served.TheVariants as served
use Rattle.node_serve.specs.declared.stop.Halt.{Halt}
use Rattle.node_serve.specs.declared.stop.Halt.TheVariants.{Door, Log}
use Rattle.node_serve.specs.declared.stop.Stop.{Stop}
use Rattle.node_serve.specs.declared.tally.Tally.{Tally}
use Rattle.node_serve.specs.Visits.{Visit}

-- with one visit more, of this answer
abbrev pub counted : Tally → Served → Tally
counted t served.Answered = record t { answered = t.answered + 1 }
counted t served.Ended = record t { ended = t.ended + 1 }
counted t (served.ConnFault count) = record t { connection_faults = t.connection_faults + 1 }
counted t (served.LinkFault count) = record t { link_faults = t.link_faults + 1 }
counted t served.LinkBad = record t { bad_links = t.bad_links + 1 }

abbrev pub tally_of : List Visit → Tally
tally_of visits = fold (λ t v. counted t v.answer)
    (record { answered = 0; ended = 0; connection_faults = 0; link_faults = 0; bad_links = 0 }) visits

-- how many there are in all
abbrev pub total : Tally → ℕ
total t = t.answered + t.ended + t.connection_faults + t.link_faults + t.bad_links

-- the line that is printed of them, without its end
abbrev pub tally_text : Tally → List ℕ
tally_text t =
    codes "served " ++ (decimal (total t)
    ++ (codes " answered " ++ (decimal t.answered
    ++ (codes " ended " ++ (decimal t.ended
    ++ (codes " connfaults " ++ (decimal t.connection_faults
    ++ (codes " linkfaults " ++ (decimal t.link_faults
    ++ (codes " linkbad " ++ decimal t.bad_links))))))))))

-- where the text of a fault is this
abbrev pub halt_text : {F : Type 0} → (F → Option (List ℕ)) → Halt F → Option (List ℕ)
halt_text output Door = Some (codes "an accept failed")
halt_text output (Log fault) = output fault

abbrev pub stop_text : {F : Type 0} → (F → Option (List ℕ)) → Stop F → Option (List ℕ)
stop_text output stop =
    option_map (λ text. text ++ (codes ", " ++ tally_text stop.tally)) (halt_text output stop.halt)
