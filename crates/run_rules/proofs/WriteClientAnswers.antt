-- The answer to a write comes to its client, in both runs: it is told that the write was accepted, or why it wasn't.
use Rattle.std.proofs.Common.{◌≡◌, ℕ, suc, ◌<◌, true, false, Bool, List, length, map, Some, refl, sym, ap, ◌∙◌, subst, arith}
use Rattle.express_words.specs.declared.refusal.Refusal.TheVariants as refusal
use Rattle.mailbox_rules.specs.Requests.{Request, Register, Write, opening_of, request_at}
use Rattle.mailbox_rules.specs.Owned.{own_below}
use Rattle.token_rules.specs.Tokens as token
use Rattle.token_rules.specs.Tokens.{World}
use Rattle.token_rules.specs.Rows.{Finishes}
use Rattle.token_rules.specs.Run.{client_moves, sent_of}
use Rattle.token_rules.specs.Stages.{last_step}
use Rattle.token_rules.specs.Since.{below_of}
use Rattle.step_rules.specs.Client as client
use Rattle.step_rules.specs.Client.{Client, Current, ProvesToLeader, Finished}
use Rattle.step_rules.specs.ClientReplies.{on_leader_proof, on_refusal}
use Rattle.run_rules.specs.Book.{Book, all_boxes, own_boxes, owned_box, request_of}
use Rattle.run_rules.specs.Values.{ckey_at, closing_at, accepted_at}
use Rattle.run_rules.specs.Frames.{answer_at}
use Rattle.run_rules.specs.Follows.{ClientFollows, CurrentIs, says, message_told}
use Rattle.run_rules.specs.Known.{Known}
use Rattle.run_rules.specs.Laws.{ComesFollows}
use Rattle.run_rules.proofs.Answered.{answer_to}
use Rattle.run_rules.proofs.ClientHears.{client_at}
use Rattle.run_rules.proofs.HelperOrders.{asked_was_sent}
use Rattle.run_rules.proofs.OwnBoxes.{ended_has, has_all, own_length}
use Rattle.run_rules.proofs.ReadAnswers.{left, left_follows, last_pos}
use Rattle.run_rules.proofs.WriteClientSends.{present}
use Rattle.run_rules.proofs.Served.{EndsAt, request_ends}
use Rattle.run_rules.proofs.WriteLeaderRanges.{WriteIs}
use Rattle.run_rules.proofs.WriteLeaderSettled.{settled_answer, settled_answered}

abbrev pub outcome_of : Book → ℕ → ℕ → Bool → client.Outcome
outcome_of b c s true = client.Accepted
outcome_of b c s false =
    client.Refused (refusal.Rejected (closing_at b 0 c s).o (closing_at b 1 c s).o (closing_at b 0 c s).tau (closing_at b 1 c s).tau)

-- at the client's last step it ends the request
ends_it : (b : Book) (c s : ℕ) (t : Bool) (k : Client) (r : Request) (ckey : List ℕ)
    → answer_to k (record { request = r; step = ProvesToLeader ckey }) (settled_answer b c s t) ≡ record { client = left k; progress = Finished (outcome_of b c s t) }
unfolding on_leader_proof on_refusal
ends_it b c s true k r ckey = refl
ends_it b c s false k r ckey = refl

says_it : (b : Book) (c s : ℕ) (t : Bool) (message : List ℕ) → says (settled_answer b c s t) message ≡ Some (outcome_of b c s t)
says_it b c s true message = refl
says_it b c s false message = refl

own_same : (b : Book) (c s : ℕ) → own_below c s 0 (all_boxes b) ≡ own_below c (suc s) 0 (all_boxes b) → own_boxes b c s ≡ own_boxes b c (suc s)
unfolding own_boxes
own_same b c s e = ap (map (owned_box b c)) e

same_request : (x y : Request) → Some x ≡ Some y → x ≡ y
same_request x y e = cc

below_is : (w : World) (c n : ℕ) → (w.lanes c).step ≡ suc n → below_of w c ≡ (w.lanes c).serial
below_is w c n e = rw e refl

pub write_ends : (b : Book) (c s : ℕ) → WriteIs b c s → EndsAt b c s
write_ends b c s write f v w known h honest same at after now is =
    let hon = write.honest in
    let pos : 0 < (w.lanes c).step = let l = last_pos (w.lanes c).opening in let e = at.step in omega (arith, l, e) in
    let known_now = present b f v w c known h hon pos in
    let request = same_request known_now.request (Write write.target write.message) (sym known_now.asked ∙ ap (request_of b c) (sym same) ∙ write.is) in
    let step : (w.lanes c).step ≡ 4 = at.step ∙ ap last_step (known_now.opening ∙ ap opening_of request) in
    let mine : ClientFollows b c (f.clients c) 4 s = subst (ClientFollows b c (f.clients c) 4) (sym same) (subst (λ m. ClientFollows b c (f.clients c) m (w.lanes c).serial) step (client_at b f w c h hon)) in
    let here : CurrentIs b c 4 s (Some now) = subst (λ m. CurrentIs b c 4 m (Some now)) (sym same) (subst (λ m. CurrentIs b c m (w.lanes c).serial (Some now)) step is) in
    let now_is : now ≡ record { request = here.0; step = ProvesToLeader (ckey_at b c s) } = same_now now _ here.2 in
    let none : (address : ℕ) → request_at (sent_of w) c (w.lanes c).serial ≡ Some (Register address) → ⊥ = λ address e.
    no_register address (asked_was_sent b w c (w.lanes c).serial (Register address) (known.within.sent c) e) in
    let all : own_below c s 0 (all_boxes b) ≡ w.table.got c =
    ap (λ m. own_below c m 0 (all_boxes b)) (same ∙ sym (below_is w c 3 step)) ∙ has_all b v w c known honest (λ pos. none) in
    let ended : own_below c (suc s) 0 (all_boxes b) ≡ w.table.got c =
    ap (λ m. own_below c (suc m) 0 (all_boxes b)) same ∙ ended_has b v w c known honest (subst (λ m. Known b v (client_moves w c m Finishes)) same after) in
    let t = accepted_at b c s in
    let answer = settled_answered b c s write in
    record {
      left = left (f.clients c);
      outcome = outcome_of b c s t;
      is = ap (λ x. answer_to (f.clients c) x (answer_at b c s)) now_is ∙ ap (answer_to (f.clients c) (record { request = here.0; step = ProvesToLeader (ckey_at b c s) })) answer ∙ ends_it b c s t (f.clients c) here.0 (ckey_at b c s);
      follows = left_follows b c s 3 (f.clients c) mine (own_same b c s (all ∙ sym ended));
      all = ap length mine.owned ∙ own_length b c s (w.table.got c) all;
      tells = ap (λ x. says x (message_told b c s)) answer ∙ says_it b c s t (message_told b c s);
    }
  where
    same_now : (x y : Current) → Some x ≡ Some y → x ≡ y
    same_now x y e = cc

    no_register : (address : ℕ) → request_of b c (w.lanes c).serial ≡ Some (Register address) → ⊥
    no_register address e =
        let never = same_request (Register address) (Write write.target write.message) (sym e ∙ ap (request_of b c) (sym same) ∙ write.is) in cc never

pub write_answered : (b : Book) (c s : ℕ) → WriteIs b c s → ComesFollows b (token.Answer c s)
write_answered b c s write = request_ends b c s write.honest (write_ends b c s write)
