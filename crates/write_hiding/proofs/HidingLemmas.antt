-- The laws of views, for either viewer.
use Rattle.std.proofs.Common.{◌≡◌, ◌<◌, length, zero, suc, ◌∙◌, sym, ap, get_or, arith}
use Rattle.std.proofs.lemmas.List.{length-map, get_or-map}
use Rattle.std.proofs.lemmas.List.Elements.{All-map}
use Rattle.write_hiding.specs.Choices.{PlainChoice, IsChoice}
use Rattle.write_hiding.specs.Views.{view}
use Rattle.write_hiding.specs.Moved.{moved}
use Rattle.write_hiding.specs.Laws.{ChoicesStay, ViewsStay, MovesReturn, DistinctStay}
use Rattle.write_hiding.proofs.ChoiceLemmas.{zero_good, one_good}
use Rattle.write_hiding.proofs.ViewLemmas.{zero_view, one_view}
use Rattle.write_hiding.proofs.BackLemmas.{zero_back, one_back}

pub choices_stay : ChoicesStay
choices_stay width zero choice from to game h fair good aimed aimed' = zero_good width choice from to game good aimed aimed' fair
choices_stay width (suc zero) choice from to game h fair good aimed aimed' = one_good width choice from to game good aimed aimed' fair
choices_stay width (suc (suc n)) choice from to game h fair good aimed aimed' = absurd (omega arith)

pub views_stay : ViewsStay
views_stay width zero choice from to game h fair good aimed aimed' = zero_view width choice from to game good aimed aimed' fair
views_stay width (suc zero) choice from to game h fair good aimed aimed' = one_view width choice from to game good aimed aimed' fair
views_stay width (suc (suc n)) choice from to game h fair good aimed aimed' = absurd (omega arith)

pub moves_return : MovesReturn
moves_return width zero choice from to game h fair good aimed aimed' = zero_back width choice from to game good aimed aimed' fair
moves_return width (suc zero) choice from to game h fair good aimed aimed' = one_back width choice from to game good aimed aimed' fair
moves_return width (suc (suc n)) choice from to game h fair good aimed aimed' = absurd (omega arith)

pub distinct_stay : DistinctStay
distinct_stay width viewer choices from to game seen h fair good aimed aimed' views distinct =
    let move = λ (c : PlainChoice). moved viewer c from to game in (
      length-map choices move,
      All-map (IsChoice width) move choices
          (λ i d l. choices_stay width viewer (get_or choices i d) from to game h fair (good i d l) aimed aimed'),
      All-map (λ c. view viewer c to game ≡ seen) move choices
          (λ i d l. views_stay width viewer (get_or choices i d) from to game h fair (good i d l) aimed aimed' ∙ views i d l),
      λ i j d l k same.
          let hj : j < length choices = omega (arith, length-map choices move) in
          let hi : i < length choices = omega arith in
          let x = get_or choices i d in
          let y = get_or choices j d in
          let back = λ (c : PlainChoice). moved viewer c to from game in
          distinct i j d l hj
          (sym (moves_return width viewer x from to game h fair (good i d hi) aimed aimed')
          ∙ ap back (sym (get_or-map move choices i d d hi) ∙ same ∙ get_or-map move choices j d d hj)
          ∙ moves_return width viewer y from to game h fair (good j d hj) aimed aimed'),
    )
