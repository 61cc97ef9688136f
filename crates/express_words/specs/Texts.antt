-- The texts of refusals and errors.
use Rattle.std.specs.Prelude.{ℕ, ◌-◌, ◌^◌, ◌/◌, ◌%◌, false, List, [], ◌++◌, codes}
use Rattle.std.specs.Fmt.{decimal, digits, padded_integral, format_spec}
use Rattle.express_words.specs.declared.refusal.Refusal.{Refusal}
use Rattle.express_words.specs.declared.refusal.Refusal.TheVariants.{Malformed, Version, Lane, Stale, Phase}
use Rattle.express_words.specs.declared.refusal.Refusal.TheVariants.{Taken, Full, NoBox, BadToken, NoDeposit}
use Rattle.express_words.specs.declared.refusal.Refusal.TheVariants.{NotProved, Rejected, Again, LinkDown}

-- 16 hexadecimal digits, with zeros in front, as `{:016x}` writes a number below 2 ^ 64
abbrev pub half_text : ℕ → List ℕ
half_text half = padded_integral (format_spec 32 0 4 16 (2 ^ 64 - 1)) false [] (digits 16 false half)

-- 32 hexadecimal digits, the most significant first
abbrev pub number_text : ℕ → List ℕ
number_text number = half_text (number / 2 ^ 64) ++ half_text (number % 2 ^ 64)

abbrev pub refusal_text : Refusal → List ℕ
refusal_text (Malformed place) = codes "malformed " ++ decimal place
refusal_text (Version version) = codes "version " ++ decimal version
refusal_text (Lane limit) = codes "lane " ++ decimal limit
refusal_text (Stale serial) = codes "stale " ++ decimal serial
refusal_text (Phase phase) = codes "phase " ++ decimal phase
refusal_text (Taken box) = codes "taken " ++ decimal box
refusal_text (Full limit) = codes "full " ++ decimal limit
refusal_text (NoBox box) = codes "nobox " ++ decimal box
refusal_text (BadToken box) = codes "badtoken " ++ decimal box
refusal_text NoDeposit = codes "nodeposit"
refusal_text NotProved = codes "notproved"
refusal_text (Rejected o0 o1 t0 t1) =
    codes "rejected " ++ (number_text o0 ++ (codes " " ++ (number_text o1
    ++ (codes " " ++ (number_text t0 ++ (codes " " ++ number_text t1))))))
refusal_text (Again number) = codes "again " ++ decimal number
refusal_text (LinkDown count) = codes "linkdown " ++ decimal count
