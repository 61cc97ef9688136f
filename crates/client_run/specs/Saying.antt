-- What is said of how work ended that was told as it went.
use Rattle.std.specs.Prelude.{◌≡◌, ℕ, List, ◌++◌, codes, Option, Some, None, Result, Ok, Err}
use Rattle.std.specs.Fmt.{decimal}
use Rattle.client_run.specs.declared.cut.Cut.{Cut}
use Rattle.client_run.specs.declared.cut.Cut.TheVariants as cuts
use Rattle.client_run.specs.declared.cut.Untold.{Untold}
use Rattle.client_run.specs.declared.cut.Untold.TheVariants as untold
use Rattle.client_run.specs.declared.ran.Ran.{Ran}
use Rattle.client_run.specs.declared.ran.RunEnd.{RunEnd}
use Rattle.client_run.specs.declared.ran.RunEnd.TheVariants.{Done}
use Rattle.client_run.specs.Runs.{end_of}
use Rattle.client_run.specs.Texts.{end_line}

-- where all requests came to their ends; where parts of a file were sent, with their number
abbrev pub whole_text : Option ℕ → List ℕ
whole_text None = codes "end\n"
whole_text (Some parts) = codes "sent " ++ (decimal parts ++ codes "\nend\n")

-- a run's last text and its end, or why that isn't reached
abbrev pub said : Option ℕ → Result Unit Cut → Result (List ℕ × RunEnd) Untold
said sent (Ok done) = Ok (whole_text sent, Done)
said sent (Err cuts.Broken) = Ok (codes "stopped outcome\n", Done)
said sent (Err (cuts.Stopped why)) = Ok (end_line (Err why), end_of (Err why))
said sent (Err (cuts.Untold why)) = Err why

-- it is said so, or finds no memory
abbrev pub SaidSo : Result (List ℕ × RunEnd) Untold → Result Ran Untold → Type 0
SaidSo (Ok (text, end)) (Ok ran) = (ran.text ≡ text) × (ran.end ≡ end)
SaidSo (Ok (text, end)) (Err why) = why ≡ untold.NoMemory
SaidSo (Err why) result = result ≡ Err why
