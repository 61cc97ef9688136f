-- What a client's write is made of.
use Rattle.std.proofs.Common.{◌≡◌, ◌≢◌, ◌^◌, ℕ, List, length, bit_xor, slice_index, take, Option, Some, None, option_map, refl, sym, ap, ◌∙◌}
use Rattle.std.specs.List.{range_with_len}
use Rattle.dpf_rules.specs.Expansion.{choice}
use Rattle.dpf_rules.specs.Keys.{honest_keys}
use Rattle.dpf_rules.specs.Walk.{leaf_of}
use Rattle.dpf_rules.specs.Evaluation.{difference_at}
use Rattle.dpf_rules.proofs.RangeLemmas.{stream_word_lt}
use Rattle.audit_rules.proofs.ChallengeLemmas.{all_map}
use Rattle.mailbox_rules.specs.Requests.{Write}
use Rattle.step_rules.specs.Client.{Client, Step, Deposits, Submits, ProvesToHelper, ProvesToLeader}
use Rattle.step_rules.specs.ClientAsks.{words, root, difference, public_part, share_for, deposit_of, submission_of, proof_of, sends, sent_at, Sent}
use Rattle.client_core.specs.declared.stage.CurrentStep.{CurrentStep}
use Rattle.client_core.specs.declared.state.ClientState.{ClientState}
use Rattle.client_core.specs.Answers.{bytes_of}
use Rattle.client_core.specs.Stages.{current_in}
use Rattle.client_core.specs.States.{client_in}
use Rattle.client_core.specs.Writes.{write_body, write_sent, AreWords}

pub difference_is : (c : Client) (target : ℕ) (message part drawn : List ℕ) (w0 w1 : ℕ) → part ≡ honest_keys target message (root c 0) (root c 1) → drawn ≡ words c →
    w0 ≡ leaf_of part 0 (slice_index drawn 0) target → w1 ≡ leaf_of part 1 (slice_index drawn 1) target → bit_xor w0 w1 ≡ difference c target message
unfolding difference public_part difference_at
difference_is c target message part drawn w0 w1 keyed e h0 h1 =
    let k0 = h0 ∙ (ap (λ ws. leaf_of part 0 (slice_index ws 0) target) e ∙ ap (λ p. leaf_of p 0 (root c 0) target) keyed) in
    let k1 = h1 ∙ (ap (λ ws. leaf_of part 1 (slice_index ws 1) target) e ∙ ap (λ p. leaf_of p 1 (root c 1) target) keyed) in
    ap (λ n. bit_xor n w1) k0 ∙ ap (bit_xor (leaf_of (honest_keys target message (root c 0) (root c 1)) 0 (root c 0) target)) k1

pub are_words : (c : Client) → AreWords (words c)
are_words c = record { count = refl; size = all_map (choice c.seed c.serial) (2 ^ 128) (λ k. stream_word_lt c.seed c.serial _) (range_with_len 0 16) }

-- a client has a request exactly where it has a stage
pub nothing_current : (s : ClientState) (c : Client) → client_in s ≡ c → s.stage ≡ None → c.current ≡ None
nothing_current s c view e = ap (λ (x : Client). x.current) (sym view) ∙ ap (option_map (λ (stage : CurrentStep). current_in stage s.message.items)) e

pub something_current : (s : ClientState) (c : Client) (stage : CurrentStep) → client_in s ≡ c → s.stage ≡ Some stage → c.current ≢ None
something_current s c stage view e none =
    let some = ap (λ (x : Client). x.current) (sym view) ∙ ap (option_map (λ (stage : CurrentStep). current_in stage s.message.items)) e in
    cc

pub nothing_sent : (c : Client) → c.current ≡ None → sends c ≡ None
unfolding sends
nothing_sent c e = ap (sent_at c) e

pub nothing_written : (o : Option Sent) (out : List ℕ) → o ≡ None → take (length (bytes_of o)) out ≡ bytes_of o
nothing_written None out e = refl
nothing_written (Some s) out e = absurd (cc e)

pub write_is : (c : Client) (target : ℕ) (message : List ℕ) (step : Step) → c.current ≡ Some (record { request = Write target message; step = step }) →
    sends c ≡ Some (write_sent c.lane c.serial (words c) target message step)
unfolding sends deposit_of submission_of proof_of share_for difference public_part write_body
write_is c target message Deposits e = ap (sent_at c) e
write_is c target message Submits e = ap (sent_at c) e
write_is c target message (ProvesToHelper ckey) e = ap (sent_at c) e
write_is c target message (ProvesToLeader ckey) e = ap (sent_at c) e
