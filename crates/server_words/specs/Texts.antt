-- What a server prints, a line a time.
use Rattle.std.specs.Prelude.{ℕ, List, ◌++◌, codes, decimal, unwrap_or}
use Rattle.express_words.specs.declared.role.Role.{Role}
use Rattle.express_words.specs.declared.role.Role.TheVariants.{Leader, Helper}
use Rattle.server_settings.specs.declared.fault.SettingsFault.{SettingsFault}
use Rattle.server_settings.specs.declared.fault.SettingsFault.TheVariants as fault
use Rattle.server_settings.specs.Faults.{bad_text}
use Rattle.server_settings.specs.Keys.{key_name}
use Rattle.server_words.specs.declared.owner.OwnerLine.{OwnerLine}
use Rattle.server_words.specs.declared.start.Start.{Start}
use Rattle.server_words.specs.declared.stop.Stop.{Stop}
use Rattle.server_words.specs.declared.stop.Stop.TheVariants.{Ended, Words, Settings, Unopened, LogFailed, Address, NoMemory, NoServer}

abbrev pub role_text : Role → List ℕ
role_text Leader = codes "leader"
role_text Helper = codes "helper"

abbrev pub start_text : Start → List ℕ
start_text start =
    codes "started as " ++ (role_text start.settings.now.role
    ++ (codes ", clients " ++ (start.settings.now.doors.clients
    ++ (codes ", link " ++ (start.settings.now.doors.link
    ++ (codes ", status " ++ (unwrap_or start.settings.now.doors.status (codes "none")
    ++ (codes ", log " ++ (decimal start.bytes
    ++ (codes " bytes, " ++ (decimal start.records
    ++ codes " records")))))))))))

abbrev pub owner_text : OwnerLine → List ℕ
owner_text line = codes "lane " ++ (decimal line.lane ++ (codes " key " ++ line.digits))

-- ---- how it ends

abbrev pub status_of : Stop → ℕ
status_of Ended = 0
status_of Words = 2
status_of (Settings wrong) = 3
status_of Unopened = 4
status_of LogFailed = 5
status_of (Address key) = 6
status_of NoMemory = 7
status_of NoServer = 8

-- settings that aren't read
abbrev pub stop_of : SettingsFault → Stop
stop_of (fault.Bad wrong) = Settings wrong
stop_of fault.NoMemory = NoMemory

abbrev pub cause_text : Stop → List ℕ
cause_text Ended = codes "done"
cause_text Words = codes "these are no words of express-server, see --help"
cause_text (Settings wrong) = codes "bad settings, " ++ bad_text wrong
cause_text Unopened = codes "the folder or the log can't be opened"
cause_text LogFailed = codes "the log failed while the server ran"
cause_text (Address key) = codes "the address under " ++ (key_name key ++ codes " can't be used")
cause_text NoMemory = codes "out of memory"
cause_text NoServer = codes "no server answers at the address under status"

abbrev pub stop_text : Stop → List ℕ
stop_text stop = codes "stopped with status " ++ (decimal (status_of stop) ++ (codes ", " ++ cause_text stop))
