-- A client's own write in the experiment: what its client sends, and the honest server's leaves of it.
use Rattle.std.specs.Prelude.{◌≡◌, ℕ, ◌-◌, ◌^◌, ◌<◌, List, map, Some}
use Rattle.std.specs.List.{range_with_len}
use Rattle.frame_rules.specs.Frames as frame
use Rattle.dpf_rules.specs.Expansion.{choice}
use Rattle.dpf_rules.specs.Walk.{leaf_of}
use Rattle.write_hiding.specs.Choices.{PlainAim, PlainGame}
use Rattle.write_hiding.specs.Views.{public_part, other_share}
use Rattle.write_hiding.specs.Writes.{Drawn, choice_of}
use Rattle.mailbox_rules.specs.Requests.{Write}
use Rattle.step_rules.specs.Client.{Client}
use Rattle.step_rules.specs.ClientAsks as client
use Rattle.run_sights.specs.Histories.{HonestWrite, leaves_of}

-- what a client draws for its write
abbrev pub drawn_by : Client → Drawn
drawn_by c = record {
  root0 = client.root c 0;
  root1 = client.root c 1;
  words = map (choice c.seed c.serial) (range_with_len 2 14);
}

-- its write: the choice that the program makes of what it draws
abbrev pub own_write : ℕ → Drawn → PlainAim → PlainGame → HonestWrite
own_write viewer drawn aim game = record { choice = choice_of viewer drawn aim; aim = aim; game = game }

-- What a client sends for its write to the honest server is what is sent in the experiment; its proof is made
-- for the key that the client was told.
pub record SendsAs (viewer : ℕ) (c : Client) (w : HonestWrite) : Type 0 where
  pub root : client.root c (1 - viewer) ≡ w.choice.other_root
  pub part : client.public_part c w.aim.target w.aim.message ≡ public_part viewer w.choice w.aim
  pub proof : client.proof_of c (Write w.aim.target w.aim.message) w.game.ckey (1 - viewer)
      ≡ Some (frame.Proof (other_share viewer w.choice w.aim w.game))

abbrev pub ClientsSendTheirs : Type 0
ClientsSendTheirs =
    (viewer : ℕ) (c : Client) (aim : PlainAim) (game : PlainGame) → viewer < 2 →
    SendsAs viewer c (own_write viewer (drawn_by c) aim game)

-- under any public part and root, the honest server's leaves of it are the program's
abbrev pub LeavesAreReal : Type 0
LeavesAreReal =
    (viewer : ℕ) (drawn : Drawn) (aim : PlainAim) (game : PlainGame) (part : List ℕ) (root address : ℕ) →
    viewer < 2 → address < 2 ^ 128 → aim.target < 2 ^ 128 →
    leaves_of viewer (Some (own_write viewer drawn aim game)) part root address
    ≡ leaf_of part (1 - viewer) root address
