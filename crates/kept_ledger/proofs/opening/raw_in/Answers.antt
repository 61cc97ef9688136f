use Rattle.std.proofs.Common.{◌++◌, List, ℕ, ◌∙◌, sym, refl, ap, drop}
use Rattle.kept_ledger.specs.Openings.{front_bytes}
use Rattle.kept_ledger.proofs.OpeningLaws.{none_placed, tail_whole}
use Rattle.kept_ledger.proofs.opening.raw_in.Goals as goal

pub returns-in_err-leader-clause-none : goal.returns-in_err-leader-clause-none
returns-in_err-leader-clause-none c = λ none o shape same.
    let front = c.in_ok-front.front in
    let kl = c.in_ok-leader_key.leader_key in
    let kh = c.in_ok-helper_key.helper_key in
    let rest = c.in_ok-helper_key.rest.now in
    let third = ap (λ (l : List ℕ). front_bytes front ++ (kl ++ l)) (sym c.in_ok-helper_key.ensures.some) in
    let second = ap (λ (l : List ℕ). front_bytes front ++ l) (sym c.in_ok-leader_key.ensures.some) in
    none_placed front kl kh rest c.in_ok-front.ensures.fits c.in_ok-leader_key.ensures.long
    c.in_ok-helper_key.ensures.long (c.in_err-leader.ensures.none refl) o shape
    (third ∙ second ∙ sym c.in_ok-front.ensures.some ∙ tail_whole c.args.bytes.now ∙ ap (drop 1) same)
