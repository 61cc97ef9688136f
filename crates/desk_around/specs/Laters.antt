-- What is told where a server doesn't take a request now.
use Rattle.std.specs.Prelude.{if◌then◌else◌, ◌==◌}
use Rattle.express_words.specs.declared.refusal.Refusal.{Refusal}
use Rattle.express_words.specs.declared.refusal.Refusal.TheVariants.{Stale}
use Rattle.desk_around.specs.declared.trouble.Trouble.{Trouble}
use Rattle.desk_around.specs.declared.trouble.Trouble.TheVariants.{Later, Behind, UsedUp}

-- A number that is behind the lane's isn't taken later either: the desk has to go on above the one that is named,
-- if there is one above it.
abbrev pub later_trouble : Refusal → Trouble
later_trouble (Stale number) = if number == 4294967295 then UsedUp else Behind number
later_trouble other = Later
