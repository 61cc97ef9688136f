use Rattle.settings_text.proofs.AddressLaws.{HasCollected}
use Rattle.settings_text.proofs.files.collected.Given as goal

abbrev pub invariant-loop-value : goal.invariant-loop-value
invariant-loop-value l = HasCollected l.addresses.keys l.values l.value-index
