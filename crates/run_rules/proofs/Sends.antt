-- A client's present frame is sent, in both runs: it is the one that the history gives.
use Rattle.std.proofs.Common.{◌≡◌, ◌∙◌, ℕ, zero, suc, false, [], ◌∷◌, Option, Some, None, refl, sym, ap, subst, arith}
use Rattle.frame_rules.specs.Frames.{PlainBody}
use Rattle.frame_rules.specs.Spelling.{spelling, IsFrame}
use Rattle.mailbox_rules.specs.Requests.{Request, Register, Write, Read, Retire}
use Rattle.token_rules.specs.Tokens as token
use Rattle.token_rules.specs.Tokens.{World}
use Rattle.token_rules.specs.Run.{client_sends, frame_of as token_frame}
use Rattle.step_rules.specs.Client.{Client, Current, Step, Deposits, Submits, ProvesToHelper, ProvesToLeader}
use Rattle.step_rules.specs.ClientAsks.{sends, sent_at, sent_with, body_of, server_of, deposit_of, difference, proof_of, public_part, read_deposit, read_submission, share_for, submission_of}
use Rattle.run_rules.specs.Letters.{Letter, letter, FrameWorld}
use Rattle.run_rules.specs.Run as frames
use Rattle.run_rules.specs.Book.{Book, client_at, request_of}
use Rattle.run_rules.specs.Values.{ckey_at}
use Rattle.run_rules.specs.Frames.{deposit_at, frame_of, frame_with, from_client, if_asked, proof_at, submission_at}
use Rattle.run_rules.specs.Follows.{Carries, ClientFollows, Follows, opening_in}
use Rattle.run_rules.proofs.LeaderClients.{posts_follow}
use Rattle.run_rules.proofs.ClientHears.{client_at as client_of}

-- ---- the client is the history's, but for its current request

same_client : (b : Book) (c n s : ℕ) (k : Client) → ClientFollows b c k (suc n) s
    → k ≡ record (client_at b c s) { current = k.current }
same_client b c n s k h = λ i. record {
  lane = h.mine i;
  seed = h.seed i;
  width = h.width i;
  capacity = h.capacity i;
  owned = h.owned i;
  serial = h.number i;
  current = k.current;
}

body_of_any : (k : Client) (now : Option Current) (r : Request) (step : Step) → body_of (record k { current = now }) r step ≡ body_of k r step
unfolding deposit_of submission_of proof_of read_deposit read_submission public_part share_for difference
body_of_any k now (Register address) Deposits = refl
body_of_any k now (Write target message) Deposits = refl
body_of_any k now (Read own) Deposits = refl
body_of_any k now (Retire own) Deposits = refl
body_of_any k now (Register address) Submits = refl
body_of_any k now (Write target message) Submits = refl
body_of_any k now (Read own) Submits = refl
body_of_any k now (Retire own) Submits = refl
body_of_any k now (Register address) (ProvesToHelper ckey) = refl
body_of_any k now (Write target message) (ProvesToHelper ckey) = refl
body_of_any k now (Read own) (ProvesToHelper ckey) = refl
body_of_any k now (Retire own) (ProvesToHelper ckey) = refl
body_of_any k now (Register address) (ProvesToLeader ckey) = refl
body_of_any k now (Write target message) (ProvesToLeader ckey) = refl
body_of_any k now (Read own) (ProvesToLeader ckey) = refl
body_of_any k now (Retire own) (ProvesToLeader ckey) = refl

body_same : (b : Book) (c n s : ℕ) (k : Client) (r : Request) (step : Step) → ClientFollows b c k (suc n) s
    → body_of k r step ≡ body_of (client_at b c s) r step
body_same b c n s k r step h = ap (λ k. body_of k r step) (same_client b c n s k h) ∙ body_of_any (client_at b c s) k.current r step

-- what the client sends at its step
abbrev pub body_at : Book → ℕ → ℕ → ℕ → Option PlainBody
body_at b c s zero = None
body_at b c s (suc zero) = deposit_at b c s
body_at b c s (suc (suc zero)) = submission_at b c s
body_at b c s (suc (suc (suc zero))) = proof_at b 1 c s
body_at b c s (suc (suc (suc (suc n)))) = proof_at b 0 c s

letters_are : (b : Book) (c n s : ℕ) (k : Client) (r : Request) (step : Step) (body : PlainBody) → ClientFollows b c k (suc n) s
    → k.current ≡ Some (record { request = r; step = step }) → body_of (client_at b c s) r step ≡ Some body
    → frames.sent_letters (sends k) ≡ letter (frames.server (server_of step)) (spelling (frame_with c s 0 body)) ∷ []
unfolding sends
letters_are b c n s k r step body h is e =
    ap (λ now. frames.sent_letters (sent_at k now)) is
    ∙ ap (λ x. frames.sent_letters (sent_with k step x)) (body_same b c n s k r step h ∙ e)
    ∙ ap (λ l. letter (frames.server (server_of step)) (spelling (frame_with l k.serial 0 body)) ∷ []) h.mine
    ∙ ap (λ x. letter (frames.server (server_of step)) (spelling (frame_with c x 0 body)) ∷ []) h.number

deposit_body : (b : Book) (c s : ℕ) (r : Request) → request_of b c s ≡ Some r → deposit_at b c s ≡ deposit_of (client_at b c s) r
unfolding deposit_at
deposit_body b c s r q = ap (if_asked (deposit_of (client_at b c s))) q

submission_body : (b : Book) (c s : ℕ) (r : Request) → request_of b c s ≡ Some r → submission_at b c s ≡ submission_of (client_at b c s) r
unfolding submission_at
submission_body b c s r q = ap (if_asked (submission_of (client_at b c s))) q

proof_body : (b : Book) (server c s : ℕ) (r : Request) → request_of b c s ≡ Some r → proof_at b server c s ≡ proof_of (client_at b c s) r (ckey_at b c s) server
unfolding proof_at
proof_body b server c s r q = ap (if_asked (λ r. proof_of (client_at b c s) r (ckey_at b c s) server)) q

-- ---- the frame is sent

module _ (b : Book) (f : FrameWorld) (w : World) (c s : ℕ) (body : PlainBody) (h : Follows b f w) (hon : b.foreign c ≡ false) (same : (w.lanes c).serial ≡ s)
    (opens : (w.lanes c).opening ≡ opening_in (request_of b c s)) (fr : IsFrame (frame_with c s 0 body)) where
  honest : w.foreign c ≡ false
  honest = ap (λ foreign. foreign c) h.foreign ∙ hon

  client : (n : ℕ) → (w.lanes c).step ≡ n → ClientFollows b c (f.clients c) n s
  client n e = subst (λ m. ClientFollows b c (f.clients c) n m) same (subst (λ m. ClientFollows b c (f.clients c) m (w.lanes c).serial) e (client_of b f w c h hon))

  -- a token and the letter of its frame
  sent : (t : token.Token) (l : Letter) → token_frame (w.lanes c).step c (w.lanes c).serial (w.lanes c).opening ≡ t ∷ []
      → frames.sent_letters (sends (f.clients c)) ≡ l ∷ [] → Carries b t l
      → Follows b (frames.client_sends f c) (client_sends w c)
  unfolding client_sends frames.client_sends
  sent t l e d k = rw (honest, e, d) (posts_follow b f w (t ∷ []) (l ∷ []) h (k, tt))

  pub sends_follow : (n : ℕ) → (w.lanes c).step ≡ n → body_at b c s n ≡ Some body
      → Follows b (frames.client_sends f c) (client_sends w c)
  unfolding token_frame frame_of
  sends_follow zero e d = absurd (cc d)
  sends_follow (suc zero) e d =
      let k = client 1 e in
      let now = k.current in
      sent (token.Deposit c s) _ (rw (e, same) refl) (letters_are b c 0 s (f.clients c) now.0 Deposits body k now.2 (sym (deposit_body b c s now.0 now.1) ∙ d))
      (record { lane = k.there (omega arith); frame = frame_with c s 0 body; is = ap (from_client c s) d; spelled = record { at = refl; bytes = refl; is_frame = fr } })
  sends_follow (suc (suc zero)) e d =
      let k = client 2 e in
      let now = k.current in
      sent (token.Submission c s (w.lanes c).opening) _ (rw (e, same) refl) (letters_are b c 1 s (f.clients c) now.0 Submits body k now.2 (sym (submission_body b c s now.0 now.1) ∙ d))
      (opens, record { lane = k.there (omega arith); frame = frame_with c s 0 body; is = ap (from_client c s) d; spelled = record { at = refl; bytes = refl; is_frame = fr } })
  sends_follow (suc (suc (suc zero))) e d =
      let k = client 3 e in
      let now = k.current in
      sent (token.ProofToHelper c s) _ (rw (e, same) refl) (letters_are b c 2 s (f.clients c) now.0 (ProvesToHelper (ckey_at b c s)) body k now.2 (sym (proof_body b 1 c s now.0 now.1) ∙ d))
      (record { lane = k.there (omega arith); frame = frame_with c s 0 body; is = ap (from_client c s) d; spelled = record { at = refl; bytes = refl; is_frame = fr } })
  sends_follow (suc (suc (suc (suc n)))) e d =
      let k = client (suc (suc (suc (suc n)))) e in
      let now = k.current in
      sent (token.ProofToLeader c s) _ (rw (e, same) refl) (letters_are b c (suc (suc (suc n))) s (f.clients c) now.0 (ProvesToLeader (ckey_at b c s)) body k now.2 (sym (proof_body b 0 c s now.0 now.1) ∙ d))
      (record { lane = k.there (omega arith); frame = frame_with c s 0 body; is = ap (from_client c s) d; spelled = record { at = refl; bytes = refl; is_frame = fr } })
