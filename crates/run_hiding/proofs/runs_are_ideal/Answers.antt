use Rattle.run_hiding.proofs.Apart.{masks_apart}
use Rattle.run_hiding.proofs.Ends.{runs_have_form}
use Rattle.run_hiding.proofs.Letters.{runs_are_ideal}
use Rattle.run_hiding.proofs.Real.{real_is_ideal}
use Rattle.run_hiding.proofs.runs_are_ideal.Goals as goal

pub returns : goal.returns
returns c = record { form = runs_have_form; frames = real_is_ideal; letters = runs_are_ideal; masks = masks_apart }
