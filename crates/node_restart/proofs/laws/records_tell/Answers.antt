use Rattle.std.proofs.Common.{◌≡◌, List, ℕ, refl, ap, drop}
use Rattle.node_restart.specs.Frames.{records_of}
use Rattle.node_restart.specs.Openings.{opening_record}
use Rattle.node_restart.proofs.OpeningLaws.{one_opening}
use Rattle.node_restart.proofs.FrameLaws.{one_list, never_foreign}
use Rattle.node_restart.proofs.laws.records_tell.Goals as goal

pub returns-clause-opening : goal.returns-clause-opening
returns-clause-opening c a b frames others ia ib is =
    let heads : opening_record a ≡ opening_record b = cc in one_opening a b ia ib heads

pub returns-clause-frames : goal.returns-clause-frames
returns-clause-frames c a b frames others is =
    one_list frames others (ap (λ (l : List (List ℕ)). drop 1 l) is)

pub returns-clause-foreign : goal.returns-clause-foreign
returns-clause-foreign c n o frames io all f = never_foreign n o frames (records_of o frames) io all refl f
