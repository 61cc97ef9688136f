-- A token of a foreign lane, or bytes from outside, come to a server, in both runs, with the act that the server takes.
use Rattle.std.proofs.Common.{◌≡◌, ◌<◌, ℕ, nat_eq, nat_le, nat_lt, arith, true, false, Bool, Some, None, Ok, refl, ap, ◌∙◌, subst}
use Rattle.std.proofs.lemmas.Bool.{eq-eqb, lt-leb, lt-ltb}
use Rattle.express_words.specs.declared.audit.ProofShare.{ProofShare}
use Rattle.frame_rules.specs.declared.frame.DepositBody.{DepositBody}
use Rattle.frame_rules.specs.declared.frame.DepositBody.TheVariants as deposit
use Rattle.frame_rules.specs.Frames as frame
use Rattle.frame_rules.specs.Frames.{PlainFrame, PlainBody}
use Rattle.frame_rules.specs.Spelling.{spelling, IsFrame}
use Rattle.frame_rules.specs.Whole.{whole}
use Rattle.token_rules.specs.Tokens as token
use Rattle.token_rules.specs.Tokens.{World}
use Rattle.step_rules.specs.Helper as helper
use Rattle.run_rules.specs.Letters.{Letter}
use Rattle.run_rules.specs.Book.{Book}
use Rattle.run_rules.specs.Values.{share_at}
use Rattle.run_rules.specs.Follows.{Carries, ForeignHolds}
use Rattle.run_rules.specs.Acts.{AreTaken, ForeignComesFollow, IsTaken, act_of, helper_takes, is_begun, leader_takes, taken, taken_in}
use Rattle.run_rules.proofs.Basics.{whole_spelled}
use Rattle.run_rules.proofs.ForeignHelperTurns.{TakesShare}
use Rattle.run_rules.proofs.ForeignHelperComes as at_helper
use Rattle.run_rules.proofs.ForeignHelperComes.{Brings}
use Rattle.run_rules.proofs.ForeignHelperOrdered.{ordered_follows_act}
use Rattle.run_rules.proofs.ForeignLeaderComes as at_leader
use Rattle.run_rules.proofs.ForeignLeaderComes.{BringsOf}
use Rattle.run_rules.proofs.ForeignLeaderFrames.{BringsBody}
use Rattle.run_rules.proofs.ForeignLeaderLink.{replied_follows_act}

-- ---- what a frame brings, by what was taken

deposit_holds : (b : Book) (c s : ℕ) (held : DepositBody) → b.foreign c ≡ true → IsTaken b 1 c s (frame.Deposit held)
    → ForeignHolds b c s (helper.Deposited held)
deposit_holds b c s (deposit.Register key) foreign h = rw foreign h
deposit_holds b c s (deposit.Write root) foreign h = rw foreign h
deposit_holds b c s (deposit.Read held) foreign h = tt

share_holds : (b : Book) (c s : ℕ) (share : ProofShare) (stage : helper.Stage) → b.foreign c ≡ true
    → (is_begun stage ≡ true → share ≡ b.brought.share 1 c s) → TakesShare b c s share stage
unfolding share_at
share_holds b c s share (helper.Begun write) foreign h = rw foreign (h refl)
share_holds b c s share helper.Idle foreign h = tt
share_holds b c s share (helper.Deposited held) foreign h = tt
share_holds b c s share (helper.Proved write before) foreign h = tt
share_holds b c s share (helper.Audited write closing) foreign h = tt
share_holds b c s share (helper.Done want) foreign h = tt

-- at the helper
helper_brings : (b : Book) (r : helper.Row) (g : PlainFrame) (body : PlainBody) → b.foreign g.lane ≡ true
    → g.body ≡ body → AreTaken b (helper_takes r g body) → Brings b r g.lane g.serial body
helper_brings b r g (frame.Deposit held) foreign is h = λ new.
    let t : nat_lt r.serial g.serial ≡ true = lt-ltb _ _ new in
    let took : AreTaken b (taken 1 g) = rw t at h in
    deposit_holds b g.lane g.serial held foreign (subst (IsTaken b 1 g.lane g.serial) is took.0)
helper_brings b r g (frame.Proof share) foreign is h = λ same.
    share_holds b g.lane g.serial share r.stage foreign (λ begun.
    let t : nat_eq g.serial r.serial ≡ true = eq-eqb _ _ same in
    let took : AreTaken b (taken 1 g) = rw (t, begun) at h in
    subst (IsTaken b 1 g.lane g.serial) is took.0)
helper_brings b r g (frame.Register address key) foreign is h = tt
helper_brings b r g (frame.Write root part) foreign is h = tt
helper_brings b r g (frame.Read n held) foreign is h = tt
helper_brings b r g (frame.Held proof) foreign is h = tt
helper_brings b r g (frame.Challenge ckey) foreign is h = tt
helper_brings b r g (frame.Registered n) foreign is h = tt
helper_brings b r g frame.Accepted foreign is h = tt
helper_brings b r g (frame.Message zero one) foreign is h = tt
helper_brings b r g (frame.Refused refusal) foreign is h = tt
helper_brings b r g (frame.LinkRegister address) foreign is h = tt
helper_brings b r g (frame.LinkBegin ckey part) foreign is h = tt
helper_brings b r g (frame.LinkAudit sigma opened) foreign is h = tt
helper_brings b r g (frame.LinkSettle closing) foreign is h = tt
helper_brings b r g (frame.LinkRead n) foreign is h = tt
helper_brings b r g (frame.LinkReply reply) foreign is h = tt
helper_brings b r g (frame.Retire n held) foreign is h = tt
helper_brings b r g (frame.LinkRetire n) foreign is h = tt
helper_brings b r g (frame.LinkBegun count draw) foreign is h = tt

-- at the leader
leader_brings : (b : Book) (c s : ℕ) (body : PlainBody) → b.foreign c ≡ true → IsTaken b 0 c s body → BringsBody b c s body
unfolding share_at
leader_brings b c s (frame.Register address key) foreign h = (h.0, rw foreign h.1)
leader_brings b c s (frame.Write root part) foreign h = (rw foreign h.0, rw foreign h.1)
leader_brings b c s (frame.Read n held) foreign h = h
leader_brings b c s (frame.Retire n held) foreign h = h
leader_brings b c s (frame.Proof share) foreign h = rw foreign h
leader_brings b c s body foreign h = tt

-- ---- they come

-- the frame that the bytes are, and its lane
lane_of : (b : Book) (to_leader : Bool) (c : ℕ) (l : Letter) (g : PlainFrame) → Carries b (token.Injected to_leader (Some c)) l
    → IsFrame g → l.bytes ≡ spelling g → g.lane ≡ c
lane_of b to_leader c l g k fr is =
    let here : whole l.bytes ≡ Ok k.1.0 = ap whole k.1.1.1.0 ∙ whole_spelled k.1.0 k.1.1.0 in
    let there : whole l.bytes ≡ Ok g = ap whole is ∙ whole_spelled g fr in
    let same : g ≡ k.1.0 = cc in
    ap (λ g. g.lane) same ∙ k.1.1.1.1.0

pub foreign_comes_follow : (b : Book) (v : World) → ForeignComesFollow b v
foreign_comes_follow b v f w (token.Injected false (Some c)) i l foreign known after e h k outside took =
    at_helper.injected_follows_act b f w c l known.sound h outside.names k (λ g fr is low.
    let read : whole l.bytes ≡ Ok g = ap whole is ∙ whole_spelled g fr in
    let lane = lane_of b false c l g k fr is in
    let all : AreTaken b (taken_in false f l.bytes (Ok g)) = subst (λ r. AreTaken b (taken_in false f l.bytes r)) read took in
    let here : b.foreign g.lane ≡ true = ap b.foreign lane ∙ outside.names in
    let settings = ap (λ s. s.lanes) h.helper.settings in
    let small : g.lane < f.helper.server.settings.lanes = omega (arith, low, lane, settings) in
    let there : nat_le f.helper.server.settings.lanes g.lane ≡ false = lt-leb _ _ small in
    let took : AreTaken b (helper_takes (helper.row_at f.helper.server g.lane) g g.body) = rw there at all in
    subst (λ d. Brings b (helper.row_at f.helper.server d) d g.serial g.body) lane
    (helper_brings b (helper.row_at f.helper.server g.lane) g g.body here refl took))
foreign_comes_follow b v f w (token.Injected true (Some c)) i l foreign known after e h k outside took =
    at_leader.injected_follows_act b f v w c l known after h outside.names k (λ g n command fr is link.
    let read : whole l.bytes ≡ Ok g = ap whole is ∙ whole_spelled g fr in
    let lane = lane_of b true c l g k fr is in
    let all : AreTaken b (taken_in true f l.bytes (Ok g)) = subst (λ r. AreTaken b (taken_in true f l.bytes r)) read took in
    let mine : AreTaken b (taken 0 g) = subst (λ a. AreTaken b (leader_takes g a)) link all in
    leader_brings b g.lane g.serial g.body (ap b.foreign lane ∙ outside.names) mine.0)
foreign_comes_follow b v f w (token.Injected false None) i l foreign known after e h k outside took =
    at_helper.outside_follows b (λ n. act_of f (token.Injected false None) l) f w l h k outside.bytes_are outside.few
foreign_comes_follow b v f w (token.Injected true None) i l foreign known after e h k outside took =
    at_leader.outside_follows b (λ n. act_of f (token.Injected true None) l) f w l h k outside.bytes_are outside.few
foreign_comes_follow b v f w (token.Ordered n x) i l foreign known after e h k outside took =
    ordered_follows_act b f v w n i x l known after e h foreign k
foreign_comes_follow b v f w (token.Replied n x) i l foreign known after e h k outside took =
    replied_follows_act b f v w n i x l known e h foreign k
foreign_comes_follow b v f w t i l foreign known after e h k outside took = absurd foreign
