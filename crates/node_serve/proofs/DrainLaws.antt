-- A reply that fits brings a drain nearer to its end.
use Rattle.std.specs.Prelude.{◌≡◌, ◌≢◌, ℕ, ◌+◌, ◌≤◌, ◌<◌, Bool, List, [], ◌∷◌, ◌++◌, drop, Option, Some, slice_get}
use Rattle.std.proofs.Common.{ap, arith}
use Rattle.std.proofs.lemmas.List.Sums.{sum_by-append}
use Rattle.express_words.specs.declared.refusal.Refusal.{Refusal}
use Rattle.frame_rules.specs.Frames.{PlainFrame, PlainBody}
use Rattle.frame_rules.specs.Whole.{linked, is_reply}
use Rattle.step_rules.specs.Boxes.{Box}
use Rattle.step_rules.specs.Leader.{Leader, Stage, AckTurn, Ignored}
use Rattle.step_rules.specs.LeaderReplies.{registered, began, audited, accepted, rejected, read, by_command, fits, if_fits, answers, if_reply, on_reply_bytes}
use Rattle.node_serve.specs.Draining.{rounds, rounds_left}

some_round : (body : PlainBody) → 1 ≤ rounds body
some_round body = grind arith

-- at most so many rounds are left where a command of these rounds was answered
abbrev Nearer : Leader → ℕ → AckTurn → Type 0
Nearer a most t = rounds_left t.leader.outstanding + 1 ≤ rounds_left (drop 1 a.outstanding) + most

abbrev Fits : Leader → ℕ → Option AckTurn → Type 0
Fits a most found = (t : AckTurn) → found ≡ Some t → Nearer a most t

settle_left : (commands : List PlainFrame) (settle : PlainFrame) → rounds settle.body ≡ 1 → rounds_left (commands ++ settle ∷ []) + 1 ≤ rounds_left commands + 2
settle_left commands settle one = omega (arith, sum_by-append (λ (c : PlainFrame). rounds c.body) commands (settle ∷ []))

reads_it : (a : Leader) (c : PlainFrame) (stays : Bool) (number : ℕ) (found : Option Box) (share : List ℕ) → Fits a 1 (read a c stays number found share)
unfolding read
reads_it a c stays number found share = grind arith

commands : (a : Leader) (c : PlainFrame) (command body : PlainBody) (stage : Stage) → Fits a (rounds command) (by_command a c command stage body)
unfolding by_command registered began audited accepted rejected
commands a c command body stage = grind (arith, settle_left, reads_it)

all_fits : (a : Leader) (c : PlainFrame) (body : PlainBody) (why : Option Refusal) → Fits a (rounds c.body) (fits a c body why)
unfolding fits
all_fits a c body why = grind (arith, commands, some_round)

-- ---- a reply that isn't ignored

abbrev Less : Leader → AckTurn → Type 0
Less a t = t.ack ≢ Ignored → rounds_left t.leader.outstanding < rounds_left a.outstanding

first_left : (commands : List PlainFrame) (c : PlainFrame) → slice_get commands 0 ≡ Some c → rounds_left (drop 1 commands) + rounds c.body ≡ rounds_left commands
first_left [] c e = cc
first_left (first ∷ others) c e =
    let same : first ≡ c = cc in
    omega (arith, sum_by-append (λ (x : PlainFrame). rounds x.body) (first ∷ []) others, ap (λ (x : PlainFrame). rounds x.body) same)

fitted : (a : Leader) (c : PlainFrame) (found : Option AckTurn) → slice_get a.outstanding 0 ≡ Some c → Fits a (rounds c.body) found → Less a (if_fits a found)
fitted a c found is fit = grind (arith, first_left)

found_less : (a : Leader) (found : Option PlainFrame) → Less a (if_reply a found)
unfolding if_reply answers
found_less a found = grind (arith, fitted, all_fits)

pub nearer : (a : Leader) (bytes : List ℕ) → (on_reply_bytes a bytes).ack ≢ Ignored → rounds_left (on_reply_bytes a bytes).leader.outstanding < rounds_left a.outstanding
nearer a bytes n = found_less a (linked is_reply a.settings.width bytes) n
