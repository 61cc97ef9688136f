-- In a run of clients each token that comes, and each frame that a client sends, keeps the relation.
use Rattle.std.proofs.Common.{◌≡◌, ℕ, false}
use Rattle.token_rules.specs.Tokens as token
use Rattle.token_rules.specs.Tokens.{Token, World}
use Rattle.token_rules.specs.Run.{client_sends}
use Rattle.run_rules.specs.Letters.{FrameWorld}
use Rattle.run_rules.specs.Run as frames
use Rattle.run_rules.specs.Book.{Book}
use Rattle.run_rules.specs.Follows.{Follows}
use Rattle.run_rules.specs.Known.{Known}
use Rattle.run_rules.specs.Laws.{ComesFollows}
use Rattle.run_rules.proofs.Honest as lanes
use Rattle.run_rules.proofs.Honest.{IsOfClient}
use Rattle.run_rules.proofs.WholeGrows.{IsOwn}

module _ (b : Book) (honest : (c : ℕ) → b.foreign c ≡ false) where
  own_is : (t : Token) → IsOwn t → IsOfClient b t
  own_is (token.Ordered n x) own = honest x.lane
  own_is (token.Replied n x) own = honest x.lane
  own_is (token.Injected to_leader lane) own = own
  own_is (token.Deposit c s) own = own
  own_is (token.Submission c s y) own = own
  own_is (token.ProofToHelper c s) own = own
  own_is (token.ProofToLeader c s) own = own
  own_is (token.HeldDeposit c s) own = own
  own_is (token.HeldProof c s) own = own
  own_is (token.Challenge c s) own = own
  own_is (token.Answer c s) own = own
  own_is (token.Later c s) own = own
  own_is (token.Foreign c) own = own

  pub comes_follow : (t : Token) → IsOwn t → ComesFollows b t
  comes_follow t own = lanes.comes_follow b t (own_is t own)

  pub sends_follow : (f : FrameWorld) (v w : World) (c : ℕ) → Known b v w → Follows b f w
      → Follows b (frames.client_sends f c) (client_sends w c)
  sends_follow f v w c known h = lanes.sends_follow b f v w c known h
