-- The run of a carrier over a net, and the text that it prints.
use Rattle.std.specs.Prelude.{◌≡◌, ℕ, Bool, true, false, List, [], ◌∷◌, ◌++◌, codes, length, filter, map}
use Rattle.std.specs.Prelude.{flat_map}
use Rattle.std.specs.Prelude.{All, Option, Result, Ok, Err}
use Rattle.std.specs.Fmt.{decimal}
use Rattle.hex.specs.Hex.{encode_lower}
use Rattle.express_words.specs.Calls.{Call}
use Rattle.file_carry.specs.Boxes.{join}
use Rattle.client_core.specs.declared.progress.Outcome.TheVariants.{Message}
use Rattle.step_rules.specs.Client.{Client}
use Rattle.node_client.specs.declared.finished.Finished.{Finished}
use Rattle.node_client.specs.declared.finished.Told.{Told}
use Rattle.node_client.specs.declared.finished.Told.TheVariants as told
use Rattle.node_client.specs.declared.peers.Peers.{Peers}
use Rattle.node_client.specs.Talks.{Talk, TalksOn}
use Rattle.node_client.specs.Work.{WorkState}
use Rattle.settings_text.specs.declared.carry.CarryJob.{CarryJob}
use Rattle.settings_text.specs.declared.carry.CarryJob.TheVariants.{Send, Fetch}
use Rattle.settings_text.specs.declared.carry.CarrySettings.{CarrySettings}
use Rattle.client_run.specs.declared.ran.RunEnd.{RunEnd}
use Rattle.client_run.specs.declared.carrying.CarryHalt.{CarryHalt}
use Rattle.client_run.specs.declared.carrying.CarryHalt.TheVariants.{Broken, Stopped}
use Rattle.client_run.specs.Accounts.{opened, request_of, AreAt}
use Rattle.client_run.specs.Carrying.{carry_account, askings_of, AllCarry, CarriesOff, CarriesPart, carry_end}
use Rattle.client_run.specs.declared.cut.Untold.{Untold}
use Rattle.client_run.specs.declared.cut.Untold.TheVariants as untold
use Rattle.client_run.specs.declared.ran.Ran.{Ran}
use Rattle.client_run.specs.Runs.{Plan, Comes}
use Rattle.client_run.specs.Telling.{Moment, lines_of}
use Rattle.client_run.specs.Texts.{outcome_line, end_line}

-- ---- the text of a file that is sent

-- the outcomes that are told, with that of the part with which a carrier doesn't go on
abbrev pub told_by : List Finished → Result Unit CarryHalt → List Finished
told_by finished (Err (Broken broken)) = finished ++ broken ∷ []
told_by finished other = finished

-- what is said of how the work ended, where the file has so many parts
abbrev pub send_end : ℕ → Result Unit CarryHalt → List ℕ
send_end count (Ok done) = codes "sent " ++ (decimal count ++ codes "\nend\n")
send_end count (Err (Broken broken)) = codes "stopped outcome\n"
send_end count (Err (Stopped why)) = end_line (Err why)

abbrev pub send_text : ℕ → List Finished → Result Unit CarryHalt → List ℕ
send_text count finished end = lines_of (told_by finished end) ++ send_end count end

-- ---- the text of a file that is fetched

abbrev pub is_message : Told → Bool
is_message (told.Done Message) = true
is_message other = false

-- each message has this width
abbrev pub AreWhole : ℕ → List Finished → Type 0
AreWhole width finished = All (λ f. is_message f.told ≡ true → length f.message ≡ width) finished

-- what was told of each box that was read
abbrev pub read_of : List Finished → List Finished
read_of finished = filter (λ f. is_message f.told) finished

unfoldable pub box_line : Finished → List ℕ
box_line f = codes "box " ++ (decimal f.request ++ (codes " " ++ (encode_lower f.message ++ codes "\n")))

abbrev pub box_lines : List Finished → List ℕ
box_lines finished = flat_map box_line (read_of finished)

abbrev pub boxes_of : List Finished → List (List ℕ)
boxes_of finished = map (λ f. f.message) (read_of finished)

-- the file that boxes join to, or the first of them that is missing, and what each holds
abbrev pub joined_text : List Finished → Result (List ℕ) ℕ → List ℕ
joined_text finished (Ok file) = codes "file " ++ (encode_lower file ++ codes "\n")
joined_text finished (Err index) = codes "missing " ++ (decimal index ++ (codes "\n" ++ box_lines finished))

unfoldable pub fetch_text : List Finished → Result Unit CarryHalt → List ℕ
fetch_text finished (Ok done) = joined_text finished (join (boxes_of finished)) ++ codes "end\n"
fetch_text finished (Err (Broken broken)) =
    outcome_line broken ++ (box_lines finished ++ codes "stopped outcome\n")
fetch_text finished (Err (Stopped why)) = box_lines finished ++ end_line (Err why)

-- ---- a carrier

abbrev pub carry_text : CarryJob → List Finished → Result Unit CarryHalt → List ℕ
carry_text (Send id file addresses) finished end = send_text (length addresses) finished end
carry_text Fetch finished end = fetch_text finished end

-- The client of the settings works the requests of their job off by exchanges with their servers, in order
-- and with no call on the net beside them, up to the first that comes to an end with which a carrier doesn't
-- go on.
pub record CarryRuns (settings : CarrySettings) (seed : List ℕ) (before now : Option (List Call))
    (text : List ℕ) (end : RunEnd) : Type 0 where
  pub client : Client
  pub finished : List Finished
  pub made : List Talk
  pub worked : Result Unit CarryHalt
  pub carries : CarriesOff (opened (carry_account settings seed))
      (map request_of (askings_of settings.width settings.owned settings.job)) client finished made worked
  pub carried : AllCarry finished
  pub peers : Peers
  pub at : AreAt peers settings.leader settings.helper
  pub calls : TalksOn peers made before now
  pub prints : text ≡ carry_text settings.job finished worked
  pub ends : end ≡ carry_end worked

-- ---- how far a carrier came

abbrev pub carry_plan : CarrySettings → List ℕ → Plan
carry_plan settings seed = record {
  start = opened (carry_account settings seed);
  requests = map request_of (askings_of settings.width settings.owned settings.job);
  leader = settings.leader;
  helper = settings.helper;
}

-- each part of so many that came to its end is told, and this is said of how the work ended
abbrev pub SendEnded : ℕ → Plan → WorkState → List Finished → List ℕ → RunEnd → Type 0
SendEnded count plan s told text end =
    (finished : List Finished) × (worked : Result Unit CarryHalt)
    × CarriesOff plan.start plan.requests s.client finished s.made worked × AllCarry finished
    × (told ≡ told_by finished worked) × (text ≡ send_end count worked) × (end ≡ carry_end worked)

abbrev pub SendComes : ℕ → Plan → Result Ran Untold → Moment → Moment → Type 0
SendComes count plan result before now = Comes plan (SendEnded count plan) result before now

-- a part of a plan's requests was worked off, from the first on, and no other call was made on the net
abbrev pub FetchedPart : Plan → (before now : Option (List Call)) → Type 0
FetchedPart plan before now = (peers : Peers) × AreAt peers plan.leader plan.helper
    × CarriesPart peers plan.start plan.requests before now

-- A fetch tells nothing before its last text. Where it found no memory, the boxes of a part of the work were
-- read, which the calls show.
abbrev pub FetchComes : CarrySettings → List ℕ → Result Ran Untold → Moment → Moment → Type 0
FetchComes settings seed (Ok ran) before now =
    CarryRuns settings seed before.calls now.calls ran.text ran.end × (now.written ≡ before.written)
FetchComes settings seed (Err untold.NoMemory) before now =
    FetchedPart (carry_plan settings seed) before.calls now.calls × (now.written ≡ before.written)
FetchComes settings seed (Err untold.Unwritten) before now = ⊥

-- by the job
abbrev pub ComesBy : CarryJob → CarrySettings → List ℕ → Result Ran Untold → Moment → Moment → Type 0
ComesBy (Send id file addresses) settings seed result before now =
    SendComes (length addresses) (carry_plan settings seed) result before now
ComesBy Fetch settings seed result before now = FetchComes settings seed result before now

abbrev pub CarryComes : CarrySettings → List ℕ → Result Ran Untold → Moment → Moment → Type 0
CarryComes settings seed result before now = ComesBy settings.job settings seed result before now

-- the boxes of a client at these servers were read so far, and this is what is printed of it
abbrev pub Fetches : Plan → Ran → Option (List Call) → Option (List Call) → Type 0
Fetches plan ran before now =
    (new : Client) × (finished : List Finished) × (made : List Talk) × (worked : Result Unit CarryHalt)
    × CarriesOff plan.start plan.requests new finished made worked × AllCarry finished
    × ((peers : Peers) × AreAt peers plan.leader plan.helper × TalksOn peers made before now)
    × (ran.text ≡ fetch_text finished worked) × (ran.end ≡ carry_end worked)
