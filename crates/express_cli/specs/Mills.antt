-- The text that a mill writes: what came of its schedule.
use Rattle.std.specs.Prelude.{ℕ, List, ◌++◌, length, codes, bit_xor}
use Rattle.std.specs.Fmt.{decimal}
use Rattle.std.specs.List.{fold}
use Rattle.schedule_text.specs.Mill.{mill_schedule}
use Rattle.run_rules.specs.Letters.{Value, Audited, JournalLine, Outcome}
use Rattle.replay_world.specs.Mills.{is_accepted, is_message, is_registered, outcomes_like}
use Rattle.replay_world.specs.Output.{number_text}
use Rattle.replay_world.specs.Played.{run_of}

-- the d that the leader opens in an audit; a line of another kind adds nothing
abbrev pub opened_in : Value → ℕ
opened_in (Audited leaders helpers closing) = leaders.d
opened_in value = 0

-- the xor of what the leader opens in all audits
abbrev pub fold_of : List JournalLine → ℕ
fold_of lines = fold (λ all line. bit_xor all (opened_in line.value)) 0 lines

-- four lines: the number, and how many requests came to an outcome of each of three kinds
unfoldable pub counts_text : (n registered accepted messages : ℕ) → List ℕ
counts_text n registered accepted messages =
    codes "mill " ++ (decimal n
    ++ (codes "\nregistered " ++ (decimal registered
    ++ (codes "\naccepted " ++ (decimal accepted
    ++ (codes "\nmessages " ++ (decimal messages ++ codes "\n")))))))

-- seven lines: those, how many lines the journal has, and their fold
unfoldable pub mill_lines : ℕ → List Outcome → List JournalLine → List ℕ
mill_lines n outcomes journal =
    counts_text n (outcomes_like is_registered outcomes) (outcomes_like is_accepted outcomes)
    (outcomes_like is_message outcomes)
    ++ (codes "journal " ++ (decimal (length journal)
    ++ (codes "\nfold " ++ (number_text (fold_of journal) ++ codes "\nend\n"))))

-- the lines of the run of the mill's schedule
unfoldable pub mill_text : ℕ → List ℕ
mill_text n = mill_lines n (run_of (mill_schedule n)).outcomes (run_of (mill_schedule n)).journal
