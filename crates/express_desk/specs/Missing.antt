-- What is missing before the top call: its text, and the status that the program ends with.
use Rattle.std.specs.Prelude.{ℕ, List, codes}
use Rattle.express_desk.specs.declared.missing.Missing.{Missing}
use Rattle.express_desk.specs.declared.missing.Missing.TheVariants.{Memory, Words, Home, Null, Proxy, Seed}

abbrev pub missing_text : Missing → List ℕ
missing_text Memory = codes "there is no memory left; try again later"
missing_text Words = codes "a word that you typed is no text"
missing_text Home = codes "HOME names no folder; name the desk's by --desk FOLDER"
missing_text Null = codes "the system has no /dev/null"
missing_text Proxy = codes "EXPRESS_PROXY is no text"
missing_text Seed = codes "the system gives no random bytes (/dev/urandom)"

abbrev pub status_without : Missing → ℕ
status_without Memory = 1
status_without Words = 2
status_without Home = 1
status_without Null = 1
status_without Proxy = 2
status_without Seed = 1
