-- A choice and its move are twins in their worlds.
use Rattle.std.specs.Prelude.{◌≡◌, ℕ, ◌-◌, ◌&&◌, not, Bool, true, false, cond, nat_eq, refl, List, [], ◌∷◌, map}
use Rattle.std.proofs.Common.{ap, sym, ◌∙◌}
use Rattle.express_words.specs.declared.audit.Openings.{Openings}
use Rattle.dpf_rules.specs.Walk.{leaf_of}
use Rattle.audit_rules.specs.Audit.{opening_of, opened_of, closing_of}
use Rattle.audit_rules.specs.Challenges.{sums_under}
use Rattle.audit_rules.specs.Values.{Values}
use Rattle.write_hiding.specs.declared.choice.View.{View}
use Rattle.write_hiding.specs.Choices.{PlainChoice, PlainAim, PlainGame}
use Rattle.write_hiding.specs.Views.{public_part, own_leaf, other_end, other_leaf, other_share, other_opening}
use Rattle.write_hiding.specs.Moved.{moved}
use Rattle.write_hiding.specs.Malicious.{malicious_view, malicious_closing}
use Rattle.write_hiding.specs.MaliciousLaws.{MaliciousViewsStay}
use Rattle.step_hiding.specs.Worlds.{Leaves, sums_in, opens_in, values_in}
use Rattle.moved_worlds.specs.Moves.{AreLeavesOf, write_of, MovedChoicesAreTwins}

same_map : (f g : ℕ → ℕ) → ((n : ℕ) → f n ≡ g n) → (xs : List ℕ) → map f xs ≡ map g xs
same_map f g same [] = refl
same_map f g same (x ∷ xs) = ap (λ n. n ∷ map f xs) (same x) ∙ ap (λ l. g x ∷ l) (same_map f g same xs)

-- the other server's values are those of the view
ideal_values : ℕ → PlainChoice → PlainAim → PlainGame → Openings → Values
ideal_values viewer choice aim game sent =
    record { opened = other_opening viewer choice aim game; closing = malicious_closing viewer sent choice aim game }

are_ideal : (viewer : ℕ) (choice : PlainChoice) (aim : PlainAim) (game : PlainGame) (leaf : Leaves) → AreLeavesOf viewer choice aim leaf → (sent : Openings)
    → values_in leaf (1 - viewer) (write_of (public_part viewer choice aim) choice.other_root game) game.addresses (other_share viewer choice aim game) game.sigma sent
    ≡ ideal_values viewer choice aim game sent
unfolding values_in opens_in sums_in ideal_values
are_ideal viewer choice aim game leaf is sent =
    ap (λ leaves. of_leaves leaves)
    (same_map (leaf (public_part viewer choice aim) choice.other_root) (other_leaf viewer choice aim) is game.addresses)
  where
    of_leaves : List ℕ → Values
    of_leaves leaves =
        let own = opening_of (sums_under game.ckey game.addresses leaves) (other_share viewer choice aim game) game.sigma in
        record { opened = own; closing = closing_of (1 - viewer) (other_share viewer choice aim game) game.sigma (opened_of sent own) }

view_values : View → Values
view_values view = record { opened = view.opened; closing = view.closed }

-- an address at which neither aims: the other server's leaf is the viewer's
elsewhere_own : (viewer : ℕ) (choice : PlainChoice) (aim : PlainAim) (address : ℕ) → nat_eq address aim.target ≡ false
    → other_leaf viewer choice aim address ≡ own_leaf viewer choice aim address
elsewhere_own viewer choice aim address apart =
    ap (λ b. cond b (other_end viewer choice aim) (own_leaf viewer choice aim address)) apart

first_apart : (p q : Bool) → (not p && not q) ≡ true → p ≡ false
first_apart true q e = absurd (cc e)
first_apart false q e = refl

second_apart : (p q : Bool) → (not p && not q) ≡ true → q ≡ false
second_apart true q e = absurd (cc e)
second_apart false true e = absurd (cc e)
second_apart false false e = refl

pub choices_are_twins : MaliciousViewsStay → MovedChoicesAreTwins
unfolding malicious_view ideal_values view_values moved
choices_are_twins stay width viewer choice from to game two_servers is_game is_choice is_from is_to counts here there leaves gone_leaves =
    let gone = moved viewer choice from to game in
    let nothing : Openings = record { d = 0; e = 0 } in
    let same : (sent : Openings) → malicious_view viewer sent gone to game ≡ malicious_view viewer sent choice from game =
    stay width viewer choice from to game two_servers is_game is_choice is_from is_to counts in
    let parts : public_part viewer gone to ≡ public_part viewer choice from = ap (λ (v : View). v.public) (same nothing) in
    let roots : gone.own_root ≡ choice.own_root = ap (λ (v : View). v.own_root) (same nothing) in
    record {
      root = refl;
      part = parts;
      elsewhere = λ address spared.
          let one = leaves address ∙ elsewhere_own viewer choice from address (first_apart _ _ spared) in
          let other = gone_leaves address ∙ elsewhere_own viewer gone to address (second_apart _ _ spared) in
          let own : own_leaf viewer gone to address ≡ own_leaf viewer choice from address =
          ap (λ p. leaf_of p viewer gone.own_root address) parts ∙ ap (λ r. leaf_of (public_part viewer choice from) viewer r address) roots in
          one ∙ sym own ∙ sym other ∙ ap (λ p. there p choice.other_root address) parts;
      values = λ sent.
          are_ideal viewer choice from game here leaves sent
          ∙ ap view_values (sym (same sent))
          ∙ sym (are_ideal viewer gone to game there gone_leaves sent)
          ∙ ap (λ p. values_in there (1 - viewer) (write_of p choice.other_root game) game.addresses (other_share viewer gone to game) game.sigma sent) parts;
    }
