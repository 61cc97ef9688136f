-- What a server that runs makes of what its log takes.
use Rattle.std.specs.Prelude.{◌≡◌, ℕ, List, [], ◌∷◌, ◌++◌}
use Rattle.many_words.specs.Events.{Entry, Event, records_of}
use Rattle.many_conns.specs.Hall.{Runs, State}
use Rattle.logged_hub.specs.Calls.{written}
use Rattle.lane_gate.specs.Runs.{Rise}
use Rattle.gated_servers.specs.declared.helper.GatedHelper.{GatedHelper}
use Rattle.gated_servers.specs.declared.leader.GatedLeader.{GatedLeader}
use Rattle.gated_servers.specs.declared.opening.GatedOpening.{GatedOpening}
use Rattle.gated_servers.specs.Helpers.{opened_gated}
use Rattle.gated_servers.specs.Leaders.{opened_leading}
use Rattle.gated_servers.specs.Openings.{gated_record}
use Rattle.gated_servers.specs.Runs.{HelperTook, LeaderTook, helper_behind, leader_behind}
use Rattle.many_servers.specs.declared.helper.HelperServer.{HelperServer}
use Rattle.many_servers.specs.declared.leader.LeaderServer.{LeaderServer}
use Rattle.many_servers.specs.Helpers.{helper_answers}
use Rattle.many_servers.specs.Leaders.{leader_answers}
use Rattle.gated_runs.specs.Leases.{helper_leases, leader_leases}
use Rattle.gated_runs.specs.Tickets.{HelperLogsCarry, LeaderLogsCarry}

-- ---- what is taken

-- A helper took the records that were logged in these events, but for those of frames that it is still to
-- take: it is
-- what they make of it, one after another, and its core took a part of their frames, in their order, and
-- nothing else.
pub record HelperTakes (old : GatedHelper) (events : List Event) (owed : List Entry)
    (now : GatedHelper) : Type 0 where
  pub taken : List (List ℕ)
  pub logged : written events ≡ taken ++ records_of owed
  pub behind : now ≡ helper_behind old taken
  pub core : HelperTook old taken

-- likewise a leader
pub record LeaderTakes (old : GatedLeader) (events : List Event) (owed : List Entry)
    (now : GatedLeader) : Type 0 where
  pub taken : List (List ℕ)
  pub logged : written events ≡ taken ++ records_of owed
  pub behind : now ≡ leader_behind old taken
  pub core : LeaderTook old taken

-- ---- leases

-- no two leases of a log, behind its opening, have one lane and serial
abbrev pub HelperLeasesOnce : List (List ℕ) → Type 0
HelperLeasesOnce records = (opening : GatedOpening) (rest : List (List ℕ))
    → records ≡ gated_record opening ∷ rest
    → Rise (helper_leases (opened_gated opening) rest)

abbrev pub LeaderLeasesOnce : List (List ℕ) → Type 0
LeaderLeasesOnce records = (opening : GatedOpening) (rest : List (List ℕ))
    → records ≡ gated_record opening ∷ rest
    → Rise (leader_leases (opened_leading opening) rest)

-- ---- of every run of the loop that begins where nothing is owed

-- a server took what its log took
abbrev pub HelpersTakeTheirLogs : Type 0
HelpersTakeTheirLogs = (h t : State HelperServer) (events : List Event) → h.hall.owed ≡ []
    → Runs helper_answers h events t → HelperTakes h.hall.server.gated events t.hall.owed t.hall.server.gated

abbrev pub LeadersTakeTheirLogs : Type 0
LeadersTakeTheirLogs = (h t : State LeaderServer) (events : List Event) → h.hall.owed ≡ []
    → Runs leader_answers h events t → LeaderTakes h.hall.server.gated events t.hall.owed t.hall.server.gated

-- each client's frame that is logged carries its ticket
abbrev pub HelpersLogsCarry : Type 0
HelpersLogsCarry = (h t : State HelperServer) (events : List Event) → h.hall.owed ≡ []
    → Runs helper_answers h events t → HelperLogsCarry h.hall.server.gated events

abbrev pub LeadersLogsCarry : Type 0
LeadersLogsCarry = (h t : State LeaderServer) (events : List Event) → h.hall.owed ≡ []
    → Runs leader_answers h events t → LeaderLogsCarry h.hall.server.gated events
