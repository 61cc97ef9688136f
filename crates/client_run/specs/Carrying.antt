-- A carrier's requests, worked off up to the first that doesn't carry.
use Rattle.std.specs.Prelude.{◌≡◌, ℕ, ◌≤◌, false, List, [], ◌∷◌, ◌++◌, length, map, slice_index}
use Rattle.std.specs.Prelude.{Option, Result, Ok, Err}
use Rattle.std.specs.List.{range_with_len, AllPass}
use Rattle.file_carry.specs.Parts.{IsPartWidth, part_of}
use Rattle.express_words.specs.Calls.{Call}
use Rattle.mailbox_rules.specs.Requests.{Request}
use Rattle.step_rules.specs.Client.{Client}
use Rattle.node_client.specs.declared.finished.Finished.{Finished}
use Rattle.node_client.specs.declared.peers.Peers.{Peers}
use Rattle.node_client.specs.Talks.{Talk, TalksOn}
use Rattle.node_client.specs.Work.{WorksAll, StopsAt}
use Rattle.settings_text.specs.declared.carry.CarryJob.{CarryJob}
use Rattle.settings_text.specs.declared.carry.CarryJob.TheVariants.{Send, Fetch}
use Rattle.settings_text.specs.declared.carry.CarrySettings.{CarrySettings}
use Rattle.settings_text.specs.declared.owned.OwnedBox.{OwnedBox}
use Rattle.settings_text.specs.declared.requests.Asking.{Asking}
use Rattle.settings_text.specs.declared.requests.Asking.TheVariants.{Write, Read}
use Rattle.settings_text.specs.Carry.{IsJob}
use Rattle.client_run.specs.Accounts.{Account, seed_or}
use Rattle.client_run.specs.declared.ran.RunEnd.{RunEnd}
use Rattle.client_run.specs.declared.ran.RunEnd.TheVariants as run
use Rattle.client_run.specs.Runs.{end_of}
use Rattle.client_run.specs.Telling.{carries, IsLast}
use Rattle.client_run.specs.declared.carrying.CarriedOff.{CarriedOff}
use Rattle.client_run.specs.declared.carrying.CarryHalt.{CarryHalt}
use Rattle.client_run.specs.declared.carrying.CarryHalt.TheVariants.{Broken, Stopped}

-- ---- a carrier's settings

-- what holds of a carrier's settings that are read
pub record IsCarrier (settings : CarrySettings) : Type 0 where
  pub width : IsPartWidth settings.width
  pub boxes : settings.boxes ≤ 4096
  pub serial : 1 ≤ settings.serial
  pub owned : length settings.owned ≤ settings.boxes
  pub job : IsJob settings.width settings.owned settings.job

abbrev pub carry_account : CarrySettings → List ℕ → Account
carry_account settings seed = record {
  lane = settings.lane;
  seed = seed_or settings.seed seed;
  width = settings.width;
  boxes = settings.boxes;
  serial = settings.serial;
  owned = settings.owned;
}

-- to write each part of a file to its address, in order
abbrev pub writes_of : (width id : ℕ) → (file addresses : List ℕ) → List Asking
writes_of width id file addresses =
    map (λ i. Write (slice_index addresses i) (part_of file id width i)) (range_with_len 0 (length addresses))

-- to send is that, and to fetch is to read each own box, in order
abbrev pub askings_of : ℕ → List OwnedBox → CarryJob → List Asking
askings_of width owned (Send id file addresses) = writes_of width id file addresses
askings_of width owned Fetch = map Read (range_with_len 0 (length owned))

-- ---- the work

abbrev pub AllCarry : List Finished → Type 0
AllCarry finished = AllPass (λ f. carries f.told) finished

-- by how the work ended, where these requests carried
abbrev pub CarriesOff : Client → List Request → Client → List Finished → List Talk → Result Unit CarryHalt
    → Type 0
CarriesOff start requests new finished made (Ok done) =
    WorksAll start requests (record { client = new; finished = finished; made = made })
CarriesOff start requests new finished made (Err (Broken broken)) =
    IsLast start requests (record { client = new; finished = finished ++ broken ∷ []; made = made })
    finished broken
    × (carries broken.told ≡ false)
CarriesOff start requests new finished made (Err (Stopped why)) =
    StopsAt start requests (record { client = new; finished = finished; made = made }) why

-- so far a carrier came, by exchanges with its servers and no other call on the net
abbrev pub CarriesOn : Peers → Client → List Request → Client → (before now : Option (List Call)) → CarriedOff
    → Type 0
CarriesOn peers start requests new before now c = (made : List Talk)
    × CarriesOff start requests new c.finished.items made c.end × TalksOn peers made before now

-- So far a carrier came that found no memory to go on, or to tell it: it worked off a part of its requests,
-- from the first on, by exchanges with its servers and no other call on the net.
pub record CarriesPart (peers : Peers) (start : Client) (requests : List Request)
    (before now : Option (List Call)) : Type 0 where
  pub asked : List Request
  pub behind : List Request
  pub all : requests ≡ asked ++ behind
  pub client : Client
  pub finished : List Finished
  pub made : List Talk
  pub end : Result Unit CarryHalt
  pub carries : CarriesOff start asked client finished made end
  pub carried : AllCarry finished
  pub calls : TalksOn peers made before now

-- a run ends by a fault of the net where that stopped the work
abbrev pub carry_end : Result Unit CarryHalt → RunEnd
carry_end (Err (Stopped why)) = end_of (Err why)
carry_end other = run.Done
