-- What an adversary plays and sees stays.
use Rattle.std.proofs.Common.{◌≡◌, ◌≢◌, ℕ, ◌<◌, List, length, refl, ◌∙◌, sym, ap, get_or, arith}
use Rattle.std.specs.Prelude.{AllPairs}
use Rattle.std.proofs.lemmas.List.{length-map, get_or-map}
use Rattle.std.proofs.lemmas.List.Elements.{All-map}
use Rattle.express_words.specs.declared.audit.ProofShare.{ProofShare}
use Rattle.express_words.specs.declared.audit.Openings.{Openings}
use Rattle.write_hiding.specs.Choices.{PlainChoice, PlainAim, PlainGame, IsChoice, IsAim, IsGame}
use Rattle.write_hiding.specs.Views.{public_part, own_share, other_opening}
use Rattle.write_hiding.specs.Malicious.{malicious_view, MasksCount}
use Rattle.write_hiding.specs.Moved.{moved}
use Rattle.write_hiding.specs.Adversaries.{Adversary, IsAdversary, IsAimAt, game_of, seen_by, moved_by}
use Rattle.write_hiding.specs.MaliciousLaws.{AdversariesPlayTheSame, AdversariesSeeTheSame, AdversaryMovesReturn, DistinctStayForAdversaries}
use Rattle.write_hiding.proofs.HidingLemmas.{choices_stay, moves_return}
use Rattle.write_hiding.proofs.MaliciousHidingLemmas.{malicious_views_stay}

module _ (adversary : Adversary) (addresses : List ℕ) (width viewer : ℕ) (choice : PlainChoice) (from to : PlainAim)
    (fine : IsAdversary adversary) (distinct : AllPairs (λ p q. p ≢ q) addresses) (h : viewer < 2) (good : IsChoice width choice) (aimed : IsAimAt width addresses from) (aimed' : IsAimAt width addresses to) where
  abbrev game : PlainGame
  game = game_of adversary addresses viewer choice from

  abbrev gone : PlainChoice
  gone = moved viewer choice from to game

  abbrev root : ℕ
  root = choice.own_root

  abbrev part : List ℕ
  part = public_part viewer choice from

  abbrev share : ProofShare
  share = own_share viewer choice from game

  fair : IsGame game
  fair = record { distinct = distinct; sigma = fine.range root part share }

  count : MasksCount game
  count = record { one = fine.one root part share; two = fine.two root part share }

  from_in : IsAim width game from
  from_in = record { registered = aimed.registered; size = aimed.size; bytes = aimed.bytes }

  to_in : IsAim width game to
  to_in = record { registered = aimed'.registered; size = aimed'.size; bytes = aimed'.bytes }

  views : (sent : Openings) → malicious_view viewer sent gone to game ≡ malicious_view viewer sent choice from game
  views sent = malicious_views_stay width viewer choice from to game h fair good from_in to_in count sent

  abbrev none : Openings
  none = record { d = 0; e = 0 }

  root_stays : gone.own_root ≡ root
  unfolding moved
  root_stays = refl

  part_stays : public_part viewer gone to ≡ part
  unfolding malicious_view
  part_stays = ap (λ v. v.public) (views none)

  share_stays : own_share viewer gone to game ≡ share
  unfolding malicious_view
  share_stays = ap (λ v. v.proof) (views none)

  opened_stays : other_opening viewer gone to game ≡ other_opening viewer choice from game
  unfolding malicious_view
  opened_stays = ap (λ v. v.opened) (views none)

  abbrev keyed : ℕ → List ℕ → PlainGame
  keyed root part = record { addresses = addresses; ckey = adversary.ckey root part; sigma = 0 }

  abbrev played : ℕ → List ℕ → ProofShare → PlainGame
  played root part share = record { addresses = addresses; ckey = adversary.ckey root part; sigma = adversary.sigma root part share }

  pub game_stays : game_of adversary addresses viewer gone to ≡ game
  game_stays =
      ap (λ root. played root (public_part viewer gone to) (own_share viewer gone to (keyed root (public_part viewer gone to)))) root_stays
      ∙ ap (λ part. played root part (own_share viewer gone to (keyed root part))) part_stays
      ∙ ap (played root part) share_stays

  pub seen_stays : seen_by adversary addresses viewer gone to ≡ seen_by adversary addresses viewer choice from
  seen_stays =
      ap (λ g. malicious_view viewer (adversary.sent gone.own_root (public_part viewer gone to) (own_share viewer gone to g) (other_opening viewer gone to g)) gone to g) game_stays
      ∙ ap (λ root. malicious_view viewer (adversary.sent root (public_part viewer gone to) (own_share viewer gone to game) (other_opening viewer gone to game)) gone to game) root_stays
      ∙ ap (λ part. malicious_view viewer (adversary.sent root part (own_share viewer gone to game) (other_opening viewer gone to game)) gone to game) part_stays
      ∙ ap (λ share. malicious_view viewer (adversary.sent root part share (other_opening viewer gone to game)) gone to game) share_stays
      ∙ ap (λ o. malicious_view viewer (adversary.sent root part share o) gone to game) opened_stays
      ∙ views (adversary.sent root part share (other_opening viewer choice from game))

  pub gone_good : IsChoice width gone
  gone_good = choices_stay width viewer choice from to game h fair good from_in to_in

  pub back : moved_by adversary addresses viewer gone to from ≡ choice
  back = ap (moved viewer gone to from) game_stays ∙ moves_return width viewer choice from to game h fair good from_in to_in

pub adversaries_play_the_same : AdversariesPlayTheSame
adversaries_play_the_same adversary addresses width viewer choice from to fine distinct h good aimed aimed' = game_stays adversary addresses width viewer choice from to fine distinct h good aimed aimed'

pub adversaries_see_the_same : AdversariesSeeTheSame
adversaries_see_the_same adversary addresses width viewer choice from to fine distinct h good aimed aimed' = seen_stays adversary addresses width viewer choice from to fine distinct h good aimed aimed'

pub adversary_moves_return : AdversaryMovesReturn
adversary_moves_return adversary addresses width viewer choice from to fine distinct h good aimed aimed' = (
  gone_good adversary addresses width viewer choice from to fine distinct h good aimed aimed',
  back adversary addresses width viewer choice from to fine distinct h good aimed aimed',
)

pub distinct_stay_for_adversaries : DistinctStayForAdversaries
distinct_stay_for_adversaries adversary addresses width viewer choices from to game seen fine distinct h good aimed aimed' games views apart =
    let move = λ (c : PlainChoice). moved_by adversary addresses viewer c from to in (
      length-map choices move,
      All-map (IsChoice width) move choices
          (λ i d l. gone_good adversary addresses width viewer (get_or choices i d) from to fine distinct h (good i d l) aimed aimed'),
      All-map (λ c. game_of adversary addresses viewer c to ≡ game) move choices
          (λ i d l. game_stays adversary addresses width viewer (get_or choices i d) from to fine distinct h (good i d l) aimed aimed' ∙ games i d l),
      All-map (λ c. seen_by adversary addresses viewer c to ≡ seen) move choices
          (λ i d l. seen_stays adversary addresses width viewer (get_or choices i d) from to fine distinct h (good i d l) aimed aimed' ∙ views i d l),
      λ i j d l k same.
          let hj : j < length choices = omega (arith, length-map choices move) in
          let hi : i < length choices = omega arith in
          let x = get_or choices i d in
          let y = get_or choices j d in
          let return = λ (c : PlainChoice). moved_by adversary addresses viewer c to from in
          apart i j d l hj
          (sym (back adversary addresses width viewer x from to fine distinct h (good i d hi) aimed aimed')
          ∙ ap return (sym (get_or-map move choices i d d hi) ∙ same ∙ get_or-map move choices j d d hj)
          ∙ back adversary addresses width viewer y from to fine distinct h (good j d hj) aimed aimed'),
    )
