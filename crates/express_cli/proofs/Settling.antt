-- How work over a net ends, by how its parts end.
use Rattle.std.proofs.Common.{◌≡◌, ◌⊎◌, inl, inr, ℕ, List, Result, Ok, Err, refl, ap, arith}
use Rattle.express_texts.specs.declared.fault.TextFault.{TextFault}
use Rattle.settings_text.specs.Judging.{Gives}
use Rattle.node_exchange.specs.Exchanging.{EarlyAtEnd}
use Rattle.express_cli.specs.Around.{Around, Seen, over}
use Rattle.express_cli.specs.Ends.{FaultMay, Prints, Said}
use Rattle.express_cli.specs.Runs.{WaitsForNet}
use Rattle.express_cli.specs.Talking.{EndsBy, IsStill, Duty, LeftNothing, MisspeltMay, Settled, Talks, duty_of}
use Rattle.express_cli.specs.declared.words.NetCommand.{NetCommand}
use Rattle.express_cli.specs.declared.words.NetCommand.TheVariants.{Serve, Client, Carry}
use Rattle.express_cli.specs.declared.ends.End.{End}
use Rattle.express_cli.specs.declared.ends.End.TheVariants as ends
use Rattle.express_cli.proofs.Writing.{more_may}

-- where more may come, and as much may have been told
pub lift : {May Could : End → List ℕ → Type 0} {Breaks Broke Leaves Left : Type 0} {net other : Around} {old new : Seen} {end : End}
    → ((e : End) (text : List ℕ) → May e text → Could e text) → (IsStill net ⊎ Breaks → IsStill other ⊎ Broke) → (Leaves → Left)
    → Talks May Breaks Leaves net old new end → Talks Could Broke Left other old new end
lift {May} {Could} {end = end} f g h t = record {
  comes = more_may May Could _ _ _ _ end f t.comes;
  in_time = λ failed. g (t.in_time failed);
  leaves = h t.leaves;
}

-- where nothing was done with the net
pub still_ends : (Then : End → List ℕ → Type 0) {May : End → List ℕ → Type 0} {Breaks Leaves : Type 0} {net : Around} {old new : Seen} {end : End} → IsStill net → Leaves
    → ((e : End) (text : List ℕ) → Then e text → May e text) → Prints Then old new end → Talks May Breaks Leaves net old new end
still_ends Then {May} {end = end} still leaves f h = record { comes = more_may Then May _ _ _ _ end f h; in_time = λ failed. inl still; leaves = leaves }

-- and this was said
pub said_ends : (is : End) (text : List ℕ) {May : End → List ℕ → Type 0} {Breaks Leaves : Type 0} {net : Around} {old new : Seen} {end : End} → IsStill net → Leaves
    → May is text → Prints (Said is text) old new end → Talks May Breaks Leaves net old new end
said_ends is text still leaves may h = still_ends (Said is text) still leaves (λ e t same. rw (same.0, same.1) may) h

-- the settings were read
pub settled : (duty : Duty) (bytes : List ℕ) (settings : duty.Settings) {Leaves : Type 0} {net : Around} {old new : Seen} {end : End}
    → duty.read bytes ≡ Ok settings → Settled duty settings Leaves net old new end → EndsBy duty bytes Leaves net old new end
settled duty bytes settings read h = lift
    (λ e text may. inl (settings, read, may))
    (elim [ inl still ↦ inl still | inr breaks ↦ inr (settings, read, breaks) ]) (λ leaves. leaves) h

misspelt : {A : Type 0} (read : Result A (List ℕ)) (f : TextFault) → Gives (λ (s : A). s) (Err f) read → (end : End) (text : List ℕ) → FaultMay f end text → MisspeltMay read end text
misspelt read f gives end text may = grind arith

-- they weren't
pub unsettled : (duty : Duty) (bytes : List ℕ) (f : TextFault) {Leaves : Type 0} {net : Around} {old new : Seen} {end : End} → IsStill net → duty.Rests net → Leaves
    → Gives (λ (s : duty.Settings). s) (Err f) (duty.read bytes) → Prints (FaultMay f) old new end → EndsBy duty bytes Leaves net old new end
unsettled duty bytes f still rests leaves gives h = still_ends (FaultMay f) still leaves (λ e text may. inr (rests, misspelt (duty.read bytes) f gives e text may)) h

pub left_nothing : {N C : Type 0} (seen : N → Seen) (shows : C → Seen) (seed : List ℕ) (old new : N)
    → (new ≡ old) ⊎ EarlyAtEnd (seen new).calls shows → LeftNothing (over seen shows seed old new)
left_nothing seen shows seed old new (inl same) = inl (ap seen same)
left_nothing seen shows seed old new (inr early) = inr (λ short. let found = early short in (shows found.0, (found.0, refl), found.1))

-- ---- the ends that may come of settings

abbrev pub IsWorkEnd : End → Type 0
IsWorkEnd ends.Done = Unit {0}
IsWorkEnd ends.NetFault = Unit {0}
IsWorkEnd ends.OutOfMemory = Unit {0}
IsWorkEnd ends.WriteFault = Unit {0}
IsWorkEnd other = ⊥

pub work_end : (command : NetCommand) (settings : (duty_of command).Settings) (net : Around) (end : End) (text : List ℕ) → (duty_of command).May settings net end text → IsWorkEnd end
work_end Serve settings net end text may = grind arith
work_end Client settings net end text may = grind arith
work_end Carry settings net end text may = grind arith

-- none comes before any call on the net
never_waits : (May : End → List ℕ → Type 0) (old new : Seen) (end : End) → ((text : List ℕ) → May end text → IsWorkEnd end) → Prints May old new end → WaitsForNet end → ⊥
never_waits May old new end works h waits = grind arith

pub no_wait : (command : NetCommand) (settings : (duty_of command).Settings) {Leaves : Type 0} {net : Around} {old new : Seen} {end : End}
    → Settled (duty_of command) settings Leaves net old new end → WaitsForNet end → ⊥
no_wait command settings {net = net} {old} {new} {end} h waits =
    never_waits ((duty_of command).May settings net) old new end (λ text may. work_end command settings net end text may) h.comes waits
