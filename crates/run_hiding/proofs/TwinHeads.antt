-- The oldest outstanding command, and what a token's frame names.
use Rattle.std.proofs.Common.{◌≡◌, ◌∙◌, ◌+◌, ℕ, zero, suc, Bool, true, false, cond, nat_eq, nat_le, nat_lt, ◌&&◌, List, [], ◌∷◌, length, drop, Option, Some, None, slice_get, refl, sym, ap, subst, arith}
use Rattle.std.proofs.lemmas.Bool.{cond_both, eqb-true}
use Rattle.frame_rules.specs.Frames.{PlainFrame, PlainBody}
use Rattle.mailbox_rules.specs.Requests.{Command, Line}
use Rattle.token_rules.specs.Tokens as token
use Rattle.token_rules.specs.Tokens.{Oracle, Phase, Token, World}
use Rattle.token_rules.specs.Rows.{Arrival, Kept, LeaderIssues, LeaderKept, LeaderLater, LeaderNothing, LeaderSays, Next, Passed, arrival_of, reply_step}
use Rattle.token_rules.specs.Run.{acknowledges, asked_operation, carries, carries_next, comes, command_comes, leader_says, reply_applied, reply_comes, with_leader}
use Rattle.token_rules.specs.Rows.{carried_row}
use Rattle.run_rules.specs.Book.{Book}
use Rattle.run_rules.specs.Frames.{deposit_at, frame_of, from_client, proof_at, submission_at}
use Rattle.run_rules.specs.Follows.{AreCommands, IsCommand}

-- ---- the lane of a client's frame

from_lane : (c s : ℕ) (o : Option PlainBody) (y : PlainFrame) → from_client c s o ≡ Some y → y.lane ≡ c
from_lane c s (Some body) y e = ap (λ (y : PlainFrame). y.lane) (inside (sym e))
  where
    inside : {x y : PlainFrame} → (let o : Option PlainFrame = Some x in o) ≡ Some y → x ≡ y
    inside e = cc e
from_lane c s None y e = absurd (cc e)

pub deposit_lane : (b : Book) (c s : ℕ) (y : PlainFrame) → frame_of b (token.Deposit c s) ≡ Some y → y.lane ≡ c
unfolding frame_of
deposit_lane b c s y e = from_lane c s (deposit_at b c s) y e

pub submission_lane : (b : Book) (c s : ℕ) (command : Command) (y : PlainFrame) → frame_of b (token.Submission c s command) ≡ Some y → y.lane ≡ c
unfolding frame_of
submission_lane b c s command y e = from_lane c s (submission_at b c s) y e

pub proof_lane : (b : Book) (c s : ℕ) (y : PlainFrame) → frame_of b (token.ProofToHelper c s) ≡ Some y → y.lane ≡ c
unfolding frame_of
proof_lane b c s y e = from_lane c s (proof_at b 1 c s) y e

pub other_proof_lane : (b : Book) (c s : ℕ) (y : PlainFrame) → frame_of b (token.ProofToLeader c s) ≡ Some y → y.lane ≡ c
unfolding frame_of
other_proof_lane b c s y e = from_lane c s (proof_at b 0 c s) y e

some_same : {x y : PlainFrame} → (let o : Option PlainFrame = Some x in o) ≡ Some y → x ≡ y
some_same e = cc e

pub ordered_lane : (b : Book) (n : ℕ) (x : Line) (y : PlainFrame) → frame_of b (token.Ordered n x) ≡ Some y → y.lane ≡ x.lane
unfolding frame_of
ordered_lane b n x y e = ap (λ (y : PlainFrame). y.lane) (some_same (sym e))

pub ordered_link : (b : Book) (n : ℕ) (x : Line) (y : PlainFrame) → frame_of b (token.Ordered n x) ≡ Some y → y.link ≡ n
unfolding frame_of
ordered_link b n x y e = ap (λ (y : PlainFrame). y.link) (some_same (sym e))

pub replied_lane : (b : Book) (n : ℕ) (x : Line) (y : PlainFrame) → frame_of b (token.Replied n x) ≡ Some y → y.lane ≡ x.lane
unfolding frame_of
replied_lane b n x y e = ap (λ (y : PlainFrame). y.lane) (some_same (sym e))

-- ---- the oldest outstanding command

pub record Head (b : Book) (n : ℕ) (xs : List Line) (y : PlainFrame) : Type 0 where
  pub line : Line
  pub is : slice_get xs 0 ≡ Some line
  pub command : IsCommand b (b.foreign line.lane) n line y

pub head_of : (b : Book) (n : ℕ) (xs : List Line) (fs : List PlainFrame) (y : PlainFrame) → AreCommands b n xs fs → slice_get fs 0 ≡ Some y → Head b n xs y
head_of b n (x ∷ xs) (k ∷ fs) y h e = record { line = x; is = refl; command = subst (IsCommand b (b.foreign x.lane) n x) (some_same e) h.0.0 }
head_of b n [] [] y h e = absurd (cc e)
head_of b n [] (k ∷ fs) y h e = absurd h
head_of b n (x ∷ xs) [] y h e = absurd h

pub head_link : (b : Book) (n : ℕ) (x : Line) (y : PlainFrame) (t : Bool) → IsCommand b t n x y → y.link ≡ n
head_link b n x y true h = h.0
head_link b n x y false h = ordered_link b n x y h

pub get_drop : (n : ℕ) (xs : List Line) → slice_get (drop n xs) 0 ≡ slice_get xs n
get_drop zero xs = refl
get_drop (suc n) [] = refl
get_drop (suc n) (x ∷ xs) = get_drop n xs

same_line : {x y : Line} → (let o : Option Line = Some x in o) ≡ Some y → x ≡ y
same_line e = cc e

pub head_here : (b : Book) (w : World) (fs : List PlainFrame) (n : ℕ) (x : Line) (y : PlainFrame) → AreCommands b (suc w.acknowledged) (drop w.acknowledged w.commands) fs
    → slice_get w.commands w.acknowledged ≡ Some x → b.foreign x.lane ≡ true → slice_get fs 0 ≡ Some y → IsCommand b true (suc w.acknowledged) x y
head_here b w fs n x y h there foreign e =
    let at = head_of b (suc w.acknowledged) (drop w.acknowledged w.commands) fs y h e in
    let same : at.line ≡ x = same_line (sym at.is ∙ get_drop w.acknowledged w.commands ∙ there) in
    subst (λ t. IsCommand b t (suc w.acknowledged) x y) foreign (subst (λ (z : Line). IsCommand b (b.foreign z.lane) (suc w.acknowledged) z y) same at.command)

-- ---- what comes of a client's lane takes no act

module _ (o p : Oracle) (w : World) (n : ℕ) (x : Line) (honest : w.foreign x.lane ≡ false) where
  carried_as : (q : Oracle) → carries_next q w x ≡ carries w x (carried_row x) (asked_operation w x)
  unfolding carries_next
  carried_as q = rw honest refl

  ordered_as : (a : Arrival) → command_comes p w n x a ≡ command_comes o w n x a
  unfolding command_comes
  ordered_as Next = carried_as p ∙ sym (carried_as o)
  ordered_as Kept = refl
  ordered_as Passed = refl

  pub ordered_same : comes p w (token.Ordered n x) ≡ comes o w (token.Ordered n x)
  unfolding comes
  ordered_same = ordered_as (arrival_of w.window w.carried n)

  arrival_moment : (a : Arrival) → (command_comes o w n x a).moment ≡ w.moment
  unfolding command_comes
  arrival_moment Next = ap (λ (v : World). v.moment) (carried_as o)
  arrival_moment Kept = refl
  arrival_moment Passed = refl

  pub ordered_moment : (comes o w (token.Ordered n x)).moment ≡ w.moment
  unfolding comes
  ordered_moment = arrival_moment (arrival_of w.window w.carried n)

  applied_as : (q : Oracle) → reply_applied q w x ≡ leader_says (with_leader (acknowledges w) x.lane (reply_step x.serial x.command).row) x.lane x.serial (reply_step x.serial x.command).row.phase (reply_step x.serial x.command).says
  unfolding reply_applied
  applied_as q = rw honest refl

  pub replied_same : comes p w (token.Replied n x) ≡ comes o w (token.Replied n x)
  unfolding comes reply_comes
  replied_same = ap (λ v. cond (nat_eq n (w.acknowledged + 1) && nat_lt w.acknowledged (length w.commands)) v w) (applied_as p ∙ sym (applied_as o))

  said_moment : (v : World) (c s : ℕ) (y : Phase) (says : LeaderSays) → (leader_says v c s y says).moment ≡ v.moment
  unfolding leader_says
  said_moment v c s y LeaderNothing = refl
  said_moment v c s y LeaderLater = refl
  said_moment v c s y LeaderKept = refl
  said_moment v c s y (LeaderIssues z) = refl

  pub replied_moment : (comes o w (token.Replied n x)).moment ≡ w.moment
  unfolding comes reply_comes
  replied_moment = cond_both {A = World} (nat_eq n (w.acknowledged + 1) && nat_lt w.acknowledged (length w.commands)) _ _ (λ v. v.moment ≡ w.moment)
      (λ e. ap (λ (v : World). v.moment) (applied_as o) ∙ said_moment (with_leader (acknowledges w) x.lane (reply_step x.serial x.command).row) x.lane x.serial _ _) (λ e. refl)

-- a command that is carried out is the next
pub carried_next : (o : Oracle) (w : World) (n : ℕ) (x : Line) → (comes o w (token.Ordered n x)).carried ≡ w.carried + 1 → n ≡ w.carried + 1
unfolding comes command_comes arrival_of
carried_next o w n x e = at_next (nat_eq n (w.carried + 1)) (nat_le n w.carried && nat_lt w.carried (n + w.window)) refl e
  where
    at_next : (p q : Bool) → nat_eq n (w.carried + 1) ≡ p → (command_comes o w n x (cond p Next (cond q Kept Passed))).carried ≡ w.carried + 1 → n ≡ w.carried + 1
    at_next true q t e = eqb-true _ _ t
    at_next false true t e = absurd (omega (arith, e))
    at_next false false t e = absurd (omega (arith, e))
