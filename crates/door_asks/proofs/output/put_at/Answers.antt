use Rattle.std.proofs.Common.{ℕ, List, ◌++◌, length, take, refl, ap, ◌∙◌, arith}
use Rattle.std.proofs.lemmas.Slice.{take-put_mid, drop-put_mid}
use Rattle.door_asks.proofs.output.put_at.Goals as goal

pub returns-clause-put : goal.returns-clause-put
returns-clause-put c =
    let at = c.args.at in
    let same = c.copy_from_slice.ensures.after in
    let len = ap length same in record {
      end = refl;
      fits = omega arith;
      text =
          take-put_mid at _ c.args.out.now c.copy_from_slice.new.self _ (omega (arith, len)) (omega arith)
          ∙ ap (λ (t : List ℕ). take at c.args.out.now ++ t) same;
      behind = drop-put_mid at _ c.args.out.now c.copy_from_slice.new.self _ (omega arith) (omega arith) (omega (arith, len));
    }
