-- The laws that stand on the top call whatever its words are: what holds of every schedule, batch, game and
-- file. A law of schedules says P b f w: b is the history of the schedule's run, with the requests sent, the
-- commands issued, the entries carried out and what foreign lanes brought; f is its run over bytes, with both
-- servers, the clients, the pool, the journal and the outcomes that are printed; and w is its token run, the
-- same frames without content.
use Rattle.std.specs.Prelude.{ℕ, ◌≤◌, List}
use Rattle.schedule_text.specs.Mill.{mill_schedule}
use Rattle.schedule_text.specs.Rules.{KeepsRules}
use Rattle.schedule_text.specs.Spelling.{SpellsSchedule}
use Rattle.schedule_text.specs.declared.schedule.Schedule.{Schedule}
use Rattle.run_rules.specs.EveryEnd.{HistoryIsSo, RepliesFit}
use Rattle.run_rules.specs.Heeded.{CurrentIsHeeded}
use Rattle.run_rules.specs.HistoryRuns.{HistoryIsRuns}
use Rattle.run_rules.specs.Plain.{BoxesArePlain, ClientsAreReady, JournalInOrder, JournalIsTold}
use Rattle.run_rules.specs.Plain.{OutcomesArePlain, SharesAreFolds}
use Rattle.run_rules.specs.Soundness.{BadWritesAreCaught, SettledAsTheyPass}
use Rattle.run_hiding.specs.Flow.{ActsStay, FlowStays, ForeignLettersStay, OutcomesStay}
use Rattle.run_hiding.specs.Flow.{OutcomesStayBeside, RunsFitBeside, SchedulesFitOtherAims}
use Rattle.run_hiding.specs.Laws.{DistinctRunsStay, ForeignOrdersStay, ForeignRepliesAreIdeal, IdealsStay}
use Rattle.run_hiding.specs.Laws.{LettersAreIdeal, MasksApart, RealIsIdeal, ResultsStay, RunsFitOtherAims}
use Rattle.run_hiding.specs.Laws.{RunsHaveForm, RunsReturn, SightsStay, WritesAddUp}
use Rattle.log_laws.specs.Journals.{LogsAreARun}
use Rattle.run_laws.specs.Draws.{DrawsAreApart}
use Rattle.run_laws.specs.Owners.{OwnersKeepTheirs}
use Rattle.run_laws.specs.Shown.{FramesAreShown}
use Rattle.step_laws.specs.Causes.{HelperAnswers, LeaderAnswers}
use Rattle.step_laws.specs.Draws.{ClientsDrawAfresh, ServersDrawAfresh}
use Rattle.step_laws.specs.Lanes.{DepositIsHeld, LaterIsTaken, RequestsGoOn}
use Rattle.step_laws.specs.Points.{HelperTellsNoPoint, LeaderTellsNoPoint}
use Rattle.step_laws.specs.Replies.{AcksAreOwn, TurnsAreOwn}
use Rattle.replay_world.specs.Laws.{AreFromClients}
use Rattle.replay_world.specs.Mills.{MillsCount}
use Rattle.replay_world.specs.Protocol.{FollowsProtocol}
use Rattle.replay_world.specs.Replies.{RepliesAreOne}
use Rattle.replay_world.specs.Sight.{ClientsGetAnswers}
use Rattle.replay_world.specs.Strangers.{BusyRowsAwait, ClientsAreAlone, FinishesAnswer, FinishesDrain}
use Rattle.replay_world.specs.Strangers.{HistoryIsOfRun, OfEverySchedule, RequestsAreTold, SchedulesFit}
use Rattle.replay_world.specs.Strangers.{StrangersAreForeign, StrangersWereBrought}
use Rattle.express_cli.specs.Settings.{SettingsAreSpelled}
use Rattle.file_carry.specs.CarriedLaws.{AnswersJoin, UnwrittenIsMissing}
use Rattle.batch_audit.specs.Batch.{FewValuesPass}
use Rattle.batch_audit.specs.Sorting.{SortsAreOne}
use Rattle.write_hiding.specs.Laws.{ChoicesStay, ViewsStay, MovesReturn, DistinctStay}
use Rattle.write_hiding.specs.Laws.{WritesAreChoices, WritesAreSeen}
use Rattle.write_hiding.specs.MaliciousLaws.{MaliciousViewsStay, MaliciousDistinctStay}
use Rattle.write_hiding.specs.MaliciousLaws.{MaliciousWritesAreSeen}
use Rattle.write_hiding.specs.MaliciousLaws.{AdversariesPlayTheSame, AdversariesSeeTheSame}
use Rattle.write_hiding.specs.MaliciousLaws.{AdversaryMovesReturn, DistinctStayForAdversaries}
use Rattle.audit_once.specs.Once.{HelpersAuditOnce, LeadersAuditOnce}
use Rattle.step_hiding.specs.HelperWorlds.{HelpersAreReal}
use Rattle.step_hiding.specs.LeaderWorlds.{LeadersAreReal}
use Rattle.run_sights.specs.WriteLaws.{WritesTellTheSame, WritesReturn}
use Rattle.run_sights.specs.RealWrites.{ClientsSendTheirs, LeavesAreReal}
use Rattle.run_sights.specs.HelperRuns.{HelperSightsStay, HelperRunsStay, HelperRunsReturn, HelperMasksStay}
use Rattle.run_sights.specs.LeaderRuns.{LeaderSightsStay, LeaderRunsStay, LeaderRunsReturn, LeaderMasksStay}

pub record Laws : Type 0 where
  -- A schedule that a text spells keeps the rules: so each law of schedules, below, speaks of what a replay
  -- prints.
  pub spelled_keep_rules : (text : List ℕ) (s : Schedule) → SpellsSchedule s text → KeepsRules s
  -- So does a mill's schedule, in which no bytes come from outside.
  pub mills_keep_rules : (n : ℕ) → n ≤ 5000
      → KeepsRules (mill_schedule n) × AreFromClients (mill_schedule n).events
  -- Settings are read from the texts that spell them by their format, key by key, and a key is named exactly
  -- where it is the first that is missing or wrong.
  pub settings_are_spelled : SettingsAreSpelled
  -- A mill has 64 boxes registered, as many writes accepted as its number says, and 64 messages read; its
  -- journal has 128 lines and three more for each write.
  pub mills_count : MillsCount
  -- A schedule keeps its foreign lanes apart from those of its clients: they are the lanes that bytes from
  -- outside name. Where no bytes come from outside none is foreign, so what is said of clients' lanes is said
  -- of all.
  pub lanes_stay_apart : SchedulesFit
  pub foreign_lanes : StrangersAreForeign
  pub clients_are_alone : ClientsAreAlone
  -- The history that these laws speak of is the run's: the requests that the token run sent for each client
  -- under their serials, the commands that it issued, and the entries that it carried out, each of which did
  -- what its client's request asked, and never nothing. The run is the one that is printed.
  pub histories_are_runs : OfEverySchedule HistoryIsRuns
  pub entries_answer : OfEverySchedule HistoryIsSo
  pub runs_are_printed : HistoryIsOfRun
  -- Whatever frames are lost, repeated or reordered, and whatever bytes come from outside: the run is the
  -- protocol's machine with content; each outcome is what the plain table of mailboxes gives at its request's
  -- place in the journal, so a message that an owner decodes is the one that stands in the table there. The
  -- plain table has the accepted writes of foreign lanes as what both servers add to each box; a line has its
  -- result, or, of a foreign command that did nothing, the helper's refusal.
  pub follows_protocol : OfEverySchedule FollowsProtocol
  pub outcomes_are_plain : OfEverySchedule OutcomesArePlain
  pub lines_are_told : OfEverySchedule JournalIsTold
  -- A client's command is refused for what the plain table has alone: its deposit and proof never are
  -- missing.
  pub clients_are_ready : OfEverySchedule ClientsAreReady
  pub journal_in_order : OfEverySchedule JournalInOrder
  pub shares_are_folds : OfEverySchedule SharesAreFolds
  pub boxes_are_plain : OfEverySchedule BoxesArePlain
  -- An owner's own boxes are his: in every run over bytes a client is told that it has no box of a number
  -- only where it was told of no more boxes than that before, counted from 0.
  pub owners_keep_theirs : OwnersKeepTheirs
  -- Each client's requests are told in the order in which it was asked.
  pub requests_are_told : RequestsAreTold
  -- A frame of a client's current request, whenever it comes, is one that the helper says it holds, and the
  -- leader doesn't answer that it is stale or out of phase, nor, but where the window is full, that the
  -- client is to come again.
  pub frames_are_heeded : OfEverySchedule CurrentIsHeeded
  -- Each reply of the helper to a foreign command fitted at the leader.
  pub replies_fit : OfEverySchedule RepliesFit
  -- The helper stands where the frames that it heard led it, so each reply is its step's at the rows and
  -- boxes that the command met. There is one to each command that it carried out, under the command's number
  -- and as the journal's line tells it: whenever a reply goes to the leader it is that one, byte for byte,
  -- also of a foreign command that was refused.
  pub replies_are_one : RepliesAreOne
  -- A row of the leader waits or audits exactly where one command of its lane and serial is outstanding,
  -- whatever lane it is.
  pub rows_are_awaited : BusyRowsAwait
  -- A foreign command that did something was brought what it needs by its lane, at both servers: submission
  -- and deposit, for an audit or settle both proofs, for a read or retire the token of the box's key at both.
  pub strangers_were_brought : StrangersWereBrought
  -- What is addressed to a client is one of the six answers that clients get, whatever lane it is.
  pub clients_get_answers : ClientsGetAnswers
  -- The point of a proof is told to no client: whatever lane's frame comes to a leader or a helper at any
  -- state, what is said to it is the same for any two points of a row that isn't done.
  pub leader_tells_no_point : LeaderTellsNoPoint
  pub helper_tells_no_point : HelperTellsNoPoint
  -- At any state the leader answers a client's frame by its row's kept answer or by a refusal that has its
  -- one cause, and the helper refuses a command for its cause alone.
  pub leader_answers : LeaderAnswers
  pub helper_answers : HelperAnswers
  -- A lane goes on, whatever became of its last request: a later request's command is issued, or is to come
  -- again for want of room, at every row that isn't busy; its deposit is held; and a client whose request is
  -- told to come again, or that the link is down, still has it.
  pub later_is_taken : LaterIsTaken
  pub deposit_is_held : DepositIsHeld
  pub requests_go_on : RequestsGoOn
  -- What a leader writes has the lane and serial of the frame, or of the oldest command, that it answers.
  pub turns_are_own : TurnsAreOwn
  pub acks_are_own : AcksAreOwn
  -- Two servers' journals are a run: where each frame of the link in a leader's and a helper's journal is one
  -- that the other server had written, there are events whose run over bytes ends at the two servers that the
  -- journals give.
  pub logs_are_a_run : LogsAreARun
  -- Each `show` shows the frame of its number as it was sent, if it was, and nothing else is shown.
  pub frames_are_shown : FramesAreShown
  -- At the end each request that a client was asked before a `finish` of it has its outcome.
  pub finishes_answer : FinishesAnswer
  -- Where the client had a request, the `finish` leaves no command outstanding: each drain ends with none.
  pub finishes_drain : FinishesDrain
  -- Each settle is printed as accepted exactly where the write's proof passes at its point; a foreign write
  -- that changes two boxes has a bad challenge, or its proof passes at five points at most.
  pub accepted_writes_pass : OfEverySchedule SettledAsTheyPass
  pub bad_writes_are_caught : OfEverySchedule BadWritesAreCaught
  -- Where the parts of a file are written to boxes that are live and clear, and read with nothing else done
  -- there, the answers join to the file; of one that wasn't written its part is named.
  pub answers_join : AnswersJoin
  pub unwritten_is_missing : UnwrittenIsMissing
  -- Pairs and seed determine what a sort rejects; a range with a bad pair passes at few random values.
  pub sorts_are_one : SortsAreOne
  pub few_values_pass : FewValuesPass
  -- One server's view of a write to a registered address fits each other such write, choice for choice.
  pub choices_stay : ChoicesStay
  pub views_stay : ViewsStay
  pub moves_return : MovesReturn
  pub distinct_stay : DistinctStay
  pub writes_are_choices : WritesAreChoices
  pub writes_are_seen : WritesAreSeen
  -- So does its view where it opens to the other server whatever it likes, at any point but 1 and 2; and what
  -- it sees where it picks key, point and openings by what it has seen.
  pub malicious_views_stay : MaliciousViewsStay
  pub malicious_distinct_stay : MaliciousDistinctStay
  pub malicious_writes_are_seen : MaliciousWritesAreSeen
  pub adversaries_play_the_same : AdversariesPlayTheSame
  pub adversaries_see_the_same : AdversariesSeeTheSame
  pub adversary_moves_return : AdversaryMovesReturn
  pub distinct_stay_for_adversaries : DistinctStayForAdversaries
  -- Whatever bytes come to a server and in whatever order, it opens and closes at most once for each lane and
  -- serial.
  pub helpers_audit_once : HelpersAuditOnce
  pub leaders_audit_once : LeadersAuditOnce
  -- The other server, all clients but honest ones, and the net do what they like. All that an honest server
  -- sends in a run of any events is the same for other aims of honest clients' writes, where nobody else
  -- sends a proof for these and what the server audits of them is the client's own, at no point 1 or 2. The
  -- moved run is such a run, the opposite move gives the first one back, and masks of boxes at which no write
  -- aims stay.
  pub helper_sights_stay : HelperSightsStay
  pub helper_runs_stay : HelperRunsStay
  pub helper_runs_return : HelperRunsReturn
  pub helper_masks_stay : HelperMasksStay
  pub leader_sights_stay : LeaderSightsStay
  pub leader_runs_stay : LeaderRunsStay
  pub leader_runs_return : LeaderRunsReturn
  pub leader_masks_stay : LeaderMasksStay
  -- What an honest client sends to the other server is the same, and the opposite move gives its write back.
  -- A client of the program sends such a write, of which the program's leaves are those of its choice; with
  -- the program's leaves and masks the steps are the tables.
  pub writes_tell_the_same : WritesTellTheSame
  pub writes_return : WritesReturn
  pub clients_send_theirs : ClientsSendTheirs
  pub leaves_are_real : LeavesAreReal
  pub helpers_are_real : HelpersAreReal
  pub leaders_are_real : LeadersAreReal
  -- Draws are apart: a client's words of a write, its keys of a box and both servers' draws are slices of the
  -- streams that the run's seed is expanded into, and no two of them share a byte. At any state a server's
  -- count of draws and a client's serial name a stream of their seed that no other count or serial names.
  pub draws_are_apart : OfEverySchedule DrawsAreApart
  pub servers_draw_afresh : ServersDrawAfresh
  pub clients_draw_afresh : ClientsDrawAfresh
  -- What either server is sent in a whole run is what it is sent in the ideal history with the run's own
  -- expansions and masks, foreign lanes beside; and no two reads take one slice of a key's stream.
  pub letters_are_ideal : (viewer : ℕ) → OfEverySchedule (LettersAreIdeal viewer)
  pub masks_are_apart : OfEverySchedule MasksApart
  pub runs_have_form : RunsHaveForm
  pub frames_are_ideal : RealIsIdeal
  pub foreign_replies_are_ideal : ForeignRepliesAreIdeal
  pub foreign_orders_stay : ForeignOrdersStay
  -- It fits every other aim of the writes at registered boxes, history for history.
  pub histories_stay : IdealsStay
  pub sights_stay : SightsStay
  pub histories_return : RunsReturn
  pub distinct_histories_stay : DistinctRunsStay
  pub runs_fit_other_aims : RunsFitOtherAims
  pub schedules_fit_other_aims : SchedulesFitOtherAims
  -- With the same bytes from outside too: what is replied to a foreign command is of the same ideal
  -- history, or a refusal that stands in both runs.
  pub runs_fit_beside_strangers : RunsFitBeside
  -- Servers act at foreign frames in both of two such schedules alike, and send each other the same for
  -- foreign lanes, but for the shares that are masked.
  pub acts_stay : ActsStay
  pub foreign_letters_stay : ForeignLettersStay
  -- Nor do the order of frames, the journal and what clients are told depend on aims, but for messages; and
  -- whatever is drawn, both servers add up to the message at the target and to zeros elsewhere.
  pub flow_stays : FlowStays
  pub results_stay : ResultsStay
  pub outcomes_stay : OutcomesStay
  pub outcomes_stay_beside_strangers : OutcomesStayBeside
  pub writes_add_up : WritesAddUp
