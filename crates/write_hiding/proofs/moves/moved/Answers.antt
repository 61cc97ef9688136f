use Rattle.std.proofs.Common.{◌≡◌, ◌∙◌, ◌+◌, ◌<◌, length, refl, sym, ap, subst, arith}
use Rattle.write_hiding.specs.Choices.{PlainChoice, IsChoice, IsAim, plain_choice, plain_aim, plain_game}
use Rattle.write_hiding.specs.Views.{view}
use Rattle.write_hiding.specs.Moved.{moved}
use Rattle.write_hiding.proofs.PartLemmas.{stays}
use Rattle.write_hiding.proofs.ChoiceLemmas.{share_in}
use Rattle.write_hiding.specs.Malicious.{malicious_view}
use Rattle.write_hiding.proofs.HidingLemmas.{choices_stay, views_stay, moves_return}
use Rattle.write_hiding.proofs.MaliciousHidingLemmas.{malicious_views_stay}
use Rattle.write_hiding.proofs.MoveLemmas.{part_of_walked, sums_of_walked, difference_of_walked, moved_is}
use Rattle.write_hiding.proofs.moves.moved.Goals as goal

pub walked-requires-clause-part : goal.walked-requires-clause-part
unfolding view
walked-requires-clause-part c =
    let is : c.unwrap-part.result ≡ c.as_slice.result.now = rw c.unwrap-part.ensures at c.of.ensures.value in
    is ∙ c.as_slice.ensures ∙ ap (λ v. v.public) c.in_ok-seen.ensures.view

pub walked-requires-clause-width : goal.walked-requires-clause-width
walked-requires-clause-width c =
    let is : c.unwrap-part.result ≡ c.as_slice.result.now = rw c.unwrap-part.ensures at c.of.ensures.value in
    ap length (is ∙ c.as_slice.ensures) ∙ c.in_ok-seen.ensures.length ∙ ap (λ n. 2064 + n) (sym c.requires.message)

pub audit-requires-clause-part : goal.audit-requires-clause-part
unfolding view
audit-requires-clause-part c =
    let is : c.unwrap-part.result ≡ c.as_slice.result.now = rw c.unwrap-part.ensures at c.of.ensures.value in
    is ∙ c.as_slice.ensures ∙ ap (λ v. v.public) c.in_ok-seen.ensures.view

pub audit-requires-2-clause-part : goal.audit-requires-2-clause-part
unfolding view
audit-requires-2-clause-part c =
    let viewer = c.args.choice.now.viewer in
    let choice = plain_choice c.args.choice.now in
    let from = plain_aim c.args.from.now in
    let to = plain_aim c.args.to.now in
    let is : c.unwrap-part.result ≡ c.as_slice.result.now = rw c.unwrap-part.ensures at c.of.ensures.value in
    let good = c.read_choice.ensures.form in
    let walk = c.in_ok-walked.ensures in
    is ∙ c.as_slice.ensures ∙ ap (λ v. v.public) c.in_ok-seen.ensures.view
    ∙ sym
    (part_of_walked viewer _ choice from to (plain_game c.args.game.now) (plain_choice c.in_ok-walked.walked) walk.viewer walk.walked
    ∙ stays (length from.message) viewer choice.own_root choice.other good.other.states c.requires.block from.target from.message refl to.target to.message c.requires.message)

pub moved_words-words-requires-clause-size : goal.moved_words-words-requires-clause-size
unfolding view
moved_words-words-requires-clause-size c =
    let viewer = c.args.choice.now.viewer in
    let choice = plain_choice c.args.choice.now in
    let from = plain_aim c.args.from.now in
    let small : viewer < 2 = omega arith in
    let good : IsChoice (length from.message) choice = subst (λ n. IsChoice n choice) c.requires.block c.read_choice.ensures.form in
    ap (λ v. length v.proof.h) c.in_ok-seen.ensures.view
    ∙ (share_in (length from.message) viewer small choice from (plain_game c.args.game.now) good c.read_aim.ensures.form c.read_game.ensures.form viewer).size

pub returns-clause-moved : goal.returns-clause-moved
returns-clause-moved c =
    let viewer = c.args.choice.now.viewer in
    let choice = plain_choice c.args.choice.now in
    let from = plain_aim c.args.from.now in
    let to = plain_aim c.args.to.now in
    let game = plain_game c.args.game.now in
    let gone = plain_choice c.in_ok-walked.walked in
    let walk = c.in_ok-walked.ensures in
    let seen = c.in_ok-after.ensures in
    moved_is viewer _ choice from to game gone walk.viewer walk.walked c.moved_words-words.result
    (c.moved_words-words.ensures from (record {
      viewed = c.in_ok-seen.ensures.view;
      before = c.in_ok-before.ensures.other;
      other = sums_of_walked viewer _ choice from to game gone walk.viewer walk.walked _ seen.other;
      difference = difference_of_walked viewer _ choice from to game gone walk.viewer walk.walked _ seen.difference;
    }))

pub returns-clause-choice : goal.returns-clause-choice
returns-clause-choice c =
    let viewer = c.args.choice.now.viewer in
    let choice = plain_choice c.args.choice.now in
    let from = plain_aim c.args.from.now in
    let to = plain_aim c.args.to.now in
    let game = plain_game c.args.game.now in
    let small : viewer < 2 = omega arith in
    let good : IsChoice (length from.message) choice = subst (λ n. IsChoice n choice) c.requires.block c.read_choice.ensures.form in
    let aimed : IsAim (length from.message) game to = subst (λ n. IsAim n game to) c.requires.message c.read_aim-2.ensures.form in
    subst (λ (p : PlainChoice). IsChoice (length from.message) p)
    (sym (returns-clause-moved c))
    (choices_stay (length from.message) viewer choice from to game small c.read_game.ensures.form good c.read_aim.ensures.form aimed)

pub returns-clause-same_view : goal.returns-clause-same_view
returns-clause-same_view c =
    let viewer = c.args.choice.now.viewer in
    let choice = plain_choice c.args.choice.now in
    let from = plain_aim c.args.from.now in
    let to = plain_aim c.args.to.now in
    let game = plain_game c.args.game.now in
    let small : viewer < 2 = omega arith in
    let good : IsChoice (length from.message) choice = subst (λ n. IsChoice n choice) c.requires.block c.read_choice.ensures.form in
    let aimed : IsAim (length from.message) game to = subst (λ n. IsAim n game to) c.requires.message c.read_aim-2.ensures.form in
    ap (λ (p : PlainChoice). view viewer p to game)
    (returns-clause-moved c)
    ∙ views_stay (length from.message) viewer choice from to game small c.read_game.ensures.form good c.read_aim.ensures.form aimed

pub returns-clause-same_malicious_view : goal.returns-clause-same_malicious_view
returns-clause-same_malicious_view c = λ count sent.
    let viewer = c.args.choice.now.viewer in
    let choice = plain_choice c.args.choice.now in
    let from = plain_aim c.args.from.now in
    let to = plain_aim c.args.to.now in
    let game = plain_game c.args.game.now in
    let small : viewer < 2 = omega arith in
    let good : IsChoice (length from.message) choice = subst (λ n. IsChoice n choice) c.requires.block c.read_choice.ensures.form in
    let aimed : IsAim (length from.message) game to = subst (λ n. IsAim n game to) c.requires.message c.read_aim-2.ensures.form in
    ap (λ (p : PlainChoice). malicious_view viewer sent p to game)
    (returns-clause-moved c)
    ∙ malicious_views_stay (length from.message) viewer choice from to game small c.read_game.ensures.form good c.read_aim.ensures.form aimed count sent

pub returns-clause-moves_back : goal.returns-clause-moves_back
returns-clause-moves_back c =
    let viewer = c.args.choice.now.viewer in
    let choice = plain_choice c.args.choice.now in
    let from = plain_aim c.args.from.now in
    let to = plain_aim c.args.to.now in
    let game = plain_game c.args.game.now in
    let small : viewer < 2 = omega arith in
    let good : IsChoice (length from.message) choice = subst (λ n. IsChoice n choice) c.requires.block c.read_choice.ensures.form in
    let aimed : IsAim (length from.message) game to = subst (λ n. IsAim n game to) c.requires.message c.read_aim-2.ensures.form in
    ap (λ (p : PlainChoice). moved viewer p to from game)
    (returns-clause-moved c)
    ∙ moves_return (length from.message) viewer choice from to game small c.read_game.ensures.form good c.read_aim.ensures.form aimed
