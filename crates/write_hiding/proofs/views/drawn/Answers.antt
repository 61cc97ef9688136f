use Rattle.std.proofs.Common.{◌∷◌, ap}
use Rattle.write_hiding.proofs.BackLemmas.{fourteen}
use Rattle.write_hiding.proofs.views.drawn.Goals as goal

pub returns : goal.returns
returns c = ap (λ words. c.args.own_root ∷ (c.args.other_root ∷ words)) (fourteen c.args.words.now c.told-words)
