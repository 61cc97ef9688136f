-- A client's own write is one of the experiment's.
use Rattle.std.specs.Prelude.{◌≡◌, ℕ, ◌-◌, ◌&&◌, Bool, true, false, cond, nat_eq, bytes_eq, bit_xor, refl, Some}
use Rattle.std.proofs.Common.{arith, ap, sym, ◌∙◌, zero, suc}
use Rattle.std.proofs.lemmas.Bool.{eqb-true}
use Rattle.std.proofs.lemmas.Slice.Eq.{bytes_eq-Decides}
use Rattle.express_words.specs.declared.audit.ProofShare.{ProofShare}
use Rattle.frame_rules.specs.Frames as frame
use Rattle.dpf_rules.specs.Expansion.{challenge_r, challenge_s}
use Rattle.dpf_rules.specs.Walk.{leaf_of}
use Rattle.dpf_rules.specs.Evaluation.{difference_at}
use Rattle.audit_rules.specs.Audit.{zero_share, one_share}
use Rattle.write_hiding.specs.Choices.{PlainAim, PlainGame}
use Rattle.write_hiding.specs.Views.{public_part, other_leaf}
use Rattle.write_hiding.specs.Writes.{Drawn, choice_of}
use Rattle.write_hiding.specs.Laws.{KeysAreHonest, EndsAreLeaves, LeavesAreHonest}
use Rattle.step_rules.specs.Client.{Client}
use Rattle.step_rules.specs.ClientAsks as client
use Rattle.run_sights.specs.Histories.{HonestWrite, is_own}
use Rattle.run_sights.specs.RealWrites.{drawn_by, own_write, SendsAs, ClientsSendTheirs, LeavesAreReal}

both_true : (p q : Bool) → (p && q) ≡ true → (p ≡ true) × (q ≡ true)
both_true true q e = (refl, e)
both_true false q e = absurd (cc e)

pub leaves_are_real : KeysAreHonest → LeavesAreHonest → LeavesAreReal
leaves_are_real keys leaves viewer d aim game part root address is_server small target = by (is_own viewer w part root) refl
  where
    w : HonestWrite
    w = own_write viewer d aim game

    by : (own : Bool) → is_own viewer w part root ≡ own
        → cond own (other_leaf viewer w.choice aim address) (leaf_of part (1 - viewer) root address) ≡ leaf_of part (1 - viewer) root address
    by false is = refl
    by true is =
        let both = both_true (bytes_eq part (public_part viewer w.choice aim)) (nat_eq root w.choice.other_root) is in
        let parts : part ≡ public_part viewer w.choice aim = (bytes_eq-Decides part (public_part viewer w.choice aim)).0 both.0 in
        leaves viewer d aim address is_server small target
        ∙ ap (λ p. leaf_of p (1 - viewer) w.choice.other_root address) (sym (parts ∙ keys viewer d aim is_server))
        ∙ ap (λ r. leaf_of part (1 - viewer) r address) (sym (eqb-true root w.choice.other_root both.1))

module _ (keys : KeysAreHonest) (ends : EndsAreLeaves) (c : Client) (aim : PlainAim) (game : PlainGame) where
  abbrev d : Drawn
  d = drawn_by c

  abbrev made : ℕ → ProofShare
  made m = one_share m (challenge_r game.ckey aim.target) (challenge_s game.ckey aim.target) (client.words c)

  to_helper : SendsAs 0 c (own_write 0 d aim game)
  unfolding choice_of client.public_part client.proof_of client.share_for client.difference difference_at
  to_helper =
      let part = keys 0 d aim (omega arith) in
      record {
        root = refl;
        part = sym part;
        proof = ap (λ m. Some (frame.Proof (made m)))
            (ap (λ p. bit_xor (leaf_of p 0 d.root0 aim.target) (leaf_of (client.public_part c aim.target aim.message) 1 d.root1 aim.target)) (sym part)
            ∙ ap (bit_xor (leaf_of (public_part 0 (choice_of 0 d aim) aim) 0 d.root0 aim.target)) (sym (ends 0 d aim (omega arith))));
      }

  to_leader : SendsAs 1 c (own_write 1 d aim game)
  unfolding choice_of client.public_part client.proof_of client.share_for zero_share
  to_leader = record { root = refl; part = sym (keys 1 d aim (omega arith)); proof = refl }

pub clients_send_theirs : KeysAreHonest → EndsAreLeaves → ClientsSendTheirs
clients_send_theirs keys ends zero c aim game is_server = to_helper keys ends c aim game
clients_send_theirs keys ends (suc zero) c aim game is_server = to_leader keys ends c aim game
clients_send_theirs keys ends (suc (suc n)) c aim game is_server = absurd (omega arith)
