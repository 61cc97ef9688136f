-- The laws of a malicious viewer, and what it gets of a client's write.
use Rattle.std.proofs.Common.{◌≡◌, ℕ, ◌^◌, ◌<◌, length, zero, suc, List, ◌∷◌, refl, ◌∙◌, sym, ap, get_or, bit_xor, arith}
use Rattle.std.specs.Prelude.{All}
use Rattle.std.proofs.lemmas.List.{length-map, get_or-map}
use Rattle.std.proofs.lemmas.List.Elements.{All-map}
use Rattle.dpf_rules.specs.Expansion.{challenge_r, challenge_s}
use Rattle.dpf_rules.specs.Walk.{leaf_of}
use Rattle.dpf_rules.specs.Keys.{honest_keys}
use Rattle.dpf_rules.specs.Evaluation.{difference_at}
use Rattle.express_words.specs.declared.audit.ProofShare.{ProofShare}
use Rattle.express_words.specs.declared.audit.Openings.{Openings}
use Rattle.audit_rules.specs.Audit.{zero_share, one_share, opened_of, closing_of}
use Rattle.audit_rules.specs.Values.{values, opens}
use Rattle.write_hiding.specs.Choices.{PlainChoice, PlainAim, PlainGame, IsChoice, IsAim}
use Rattle.write_hiding.specs.Views.{other_end, other_opening, share_of, view}
use Rattle.write_hiding.specs.Moved.{moved}
use Rattle.write_hiding.specs.Writes.{Drawn, IsDrawn, choice_of, write_view}
use Rattle.write_hiding.specs.Malicious.{malicious_view, malicious_write_view}
use Rattle.write_hiding.specs.MaliciousLaws.{MaliciousViewsStay, MaliciousDistinctStay, HonestOpeningsGiveViews, MaliciousWritesAreSeen}
use Rattle.write_hiding.proofs.OtherLeaves.{end0, own0}
use Rattle.write_hiding.proofs.HonestLemmas.{view0, view1}
use Rattle.write_hiding.proofs.ViewLemmas.{same_view}
use Rattle.write_hiding.proofs.HidingLemmas.{choices_stay, moves_return}
use Rattle.write_hiding.proofs.MaliciousLemmas.{zero_malicious, one_malicious}

pub malicious_views_stay : MaliciousViewsStay
malicious_views_stay width zero choice from to game h fair good aimed aimed' count sent = zero_malicious width choice from to game fair good aimed aimed' count sent
malicious_views_stay width (suc zero) choice from to game h fair good aimed aimed' count sent = one_malicious width choice from to game fair good aimed aimed' count sent
malicious_views_stay width (suc (suc n)) choice from to game h fair good aimed aimed' count sent = absurd (omega arith)

pub malicious_distinct_stay : MaliciousDistinctStay
malicious_distinct_stay width viewer choices from to game seen h fair count good aimed aimed' views distinct =
    let move = λ (c : PlainChoice). moved viewer c from to game in (
      length-map choices move,
      All-map (IsChoice width) move choices
          (λ i d l. choices_stay width viewer (get_or choices i d) from to game h fair (good i d l) aimed aimed'),
      All-map (λ c. (sent : Openings) → malicious_view viewer sent c to game ≡ seen sent) move choices
          (λ i d l sent. malicious_views_stay width viewer (get_or choices i d) from to game h fair (good i d l) aimed aimed' count sent ∙ views i d l sent),
      λ i j d l k same.
          let hj : j < length choices = omega (arith, length-map choices move) in
          let hi : i < length choices = omega arith in
          let x = get_or choices i d in
          let y = get_or choices j d in
          let back = λ (c : PlainChoice). moved viewer c to from game in
          distinct i j d l hj
          (sym (moves_return width viewer x from to game h fair (good i d hi) aimed aimed')
          ∙ ap back (sym (get_or-map move choices i d d hi) ∙ same ∙ get_or-map move choices j d d hj)
          ∙ moves_return width viewer y from to game h fair (good j d hj) aimed aimed'),
    )

pub honest_openings_give_views : HonestOpeningsGiveViews
unfolding view malicious_view
honest_openings_give_views viewer choice aim game = refl

-- ---- a client's write

module _ (width : ℕ) (d : Drawn) (aim : PlainAim) (game : PlainGame) (is_drawn : IsDrawn d) (places : All (λ n. n < 2 ^ 128) game.addresses) (aimed : IsAim width game aim) (sent : Openings) where
  abbrev q : ℕ
  q = aim.target

  abbrev part : List ℕ
  part = honest_keys q aim.message d.root0 d.root1

  abbrev drawn : List ℕ
  drawn = d.root0 ∷ (d.root1 ∷ d.words)

  abbrev made : ℕ → ProofShare
  made m = one_share m (challenge_r game.ckey q) (challenge_s game.ckey q) drawn

  abbrev m : ℕ
  m = difference_at part d.root0 d.root1 q

  -- ---- the viewer is server 0
  abbrev c0 : PlainChoice
  c0 = choice_of 0 d aim

  share0 : share_of 1 0 c0 aim game ≡ made m
  unfolding choice_of difference_at
  share0 = ap made (ap (λ x. bit_xor x (other_end 0 c0 aim)) (own0 d aim q) ∙ ap (bit_xor (leaf_of part 0 d.root0 q)) (end0 d aim))

  abbrev whole0 : view 0 c0 aim game ≡ write_view 0 d aim game
  whole0 = view0 width d aim game is_drawn places aimed

  pub seen0 : malicious_view 0 sent c0 aim game ≡ malicious_write_view 0 sent d aim game
  unfolding view malicious_view write_view malicious_write_view values opens
  seen0 =
      let opened = ap (λ v. v.opened) whole0 in
      same_view (malicious_view 0 sent c0 aim game) (malicious_write_view 0 sent d aim game)
      (ap (λ v. v.own_root) whole0) (ap (λ v. v.public) whole0) (ap (λ v. v.proof) whole0) opened
      (ap (λ p. closing_of 1 p game.sigma (opened_of sent (other_opening 0 c0 aim game))) share0
      ∙ ap (λ o. closing_of 1 (made m) game.sigma (opened_of sent o)) opened)

  -- ---- the viewer is server 1
  abbrev c1 : PlainChoice
  c1 = choice_of 1 d aim

  share1 : share_of 0 1 c1 aim game ≡ zero_share drawn
  unfolding choice_of zero_share
  share1 = refl

  abbrev whole1 : view 1 c1 aim game ≡ write_view 1 d aim game
  whole1 = view1 width d aim game is_drawn places aimed

  pub seen1 : malicious_view 1 sent c1 aim game ≡ malicious_write_view 1 sent d aim game
  unfolding view malicious_view write_view malicious_write_view values opens
  seen1 =
      let opened = ap (λ v. v.opened) whole1 in
      same_view (malicious_view 1 sent c1 aim game) (malicious_write_view 1 sent d aim game)
      (ap (λ v. v.own_root) whole1) (ap (λ v. v.public) whole1) (ap (λ v. v.proof) whole1) opened
      (ap (λ p. closing_of 0 p game.sigma (opened_of sent (other_opening 1 c1 aim game))) share1
      ∙ ap (λ o. closing_of 0 (zero_share drawn) game.sigma (opened_of sent o)) opened)

pub malicious_writes_are_seen : MaliciousWritesAreSeen
malicious_writes_are_seen width zero d aim game h is_drawn places aimed sent = seen0 width d aim game is_drawn places aimed sent
malicious_writes_are_seen width (suc zero) d aim game h is_drawn places aimed sent = seen1 width d aim game is_drawn places aimed sent
malicious_writes_are_seen width (suc (suc n)) d aim game h is_drawn places aimed sent = absurd (omega arith)
