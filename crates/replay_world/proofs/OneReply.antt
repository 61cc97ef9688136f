-- The helper gives one reply to each command, and gives that one again.
use Rattle.std.proofs.Common.{◌≡◌, ◌∙◌, ◌+◌, ◌-◌, ◌<◌, ◌≤◌, ℕ, zero, suc, Bool, true, false, nat_eq, nat_le, is_none, List, [], ◌∷◌, ◌++◌, length, drop, Option, Some, None, Result, Ok, Err, slice_get, slice_index_or, refl, sym, ap, subst, inl, inr, arith, cond, length-append, append-nil, append_assoc, ◌&&◌}
use Rattle.std.proofs.lemmas.Bool.{cond_both, eqb-true, leb-true}
use Rattle.std.proofs.lemmas.List.{take-append-le}
use Rattle.std.proofs.lemmas.Option.{slice_get_within}
use Rattle.std.proofs.Math.Seq.{take-append_seam}
use Rattle.frame_rules.specs.Frames.{PlainFrame}
use Rattle.frame_rules.specs.Spelling.{spelling}
use Rattle.express_words.specs.declared.refusal.Refusal.{Refusal}
use Rattle.frame_rules.specs.Whole.{has_width, if_linked, is_command, linked, on_link, whole}
use Rattle.mailbox_rules.specs.Requests.{Request}
use Rattle.token_rules.specs.Run.{own_of}
use Rattle.token_rules.proofs.Lists.{get_end, get_left, get_more}
use Rattle.step_rules.specs.Helper as helper
use Rattle.step_rules.specs.Helper.{Helper, LinkTurn, Server, opened_helper}
use Rattle.step_rules.specs.HelperClients as at_helper
use Rattle.step_rules.specs.HelperCommands.{arrives, carried_with, carries_out, if_command, kept_for}
use Rattle.step_rules.specs.Leader as leader
use Rattle.step_rules.specs.LeaderClients as steps
use Rattle.step_rules.specs.LeaderReplies as replies
use Rattle.step_rules.specs.Client as client
use Rattle.step_rules.specs.Client.{Client, Fault, Finished, Progress}
use Rattle.step_rules.specs.ClientAsks.{Sent, asked, sends}
use Rattle.step_rules.specs.ClientReplies.{on_reply}
use Rattle.run_rules.specs.Letters.{Addressee, Ended, FrameWorld, JournalLine, Letter, NoOwnBox, ToClient, ToHelper, ToHelperLink, ToLeader, ToLeaderLink, helper_seed, letter, opened}
use Rattle.run_rules.specs.Run as frames
use Rattle.run_rules.specs.Run.{Inject}
use Rattle.replay_world.specs.Parts.{events_in}
use Rattle.replay_world.specs.Played.{run_of}
use Rattle.replay_world.specs.Replies.{AllSent, FromClient, Heard, IsOneOf, Met, Ordered, RepliesAreOne, WasSent, after, after_all, replies_to, reply_to}
use Rattle.replay_world.proofs.RunKeeps.{IsOfPool, Moves, run_keeps}

-- ---- replies that are among these

AllOf : List PlainFrame → List (List ℕ) → Type 0
AllOf rs [] = Unit {0}
AllOf rs (b ∷ bs) = IsOneOf rs b × AllOf rs bs

AllIn : List PlainFrame → List Letter → Type 0
AllIn rs [] = Unit {0}
AllIn rs (l ∷ ls) = (l.to ≡ ToLeaderLink → IsOneOf rs l.bytes) × AllIn rs ls

one_more : (rs : List PlainFrame) (r : PlainFrame) (bytes : List ℕ) → IsOneOf rs bytes → IsOneOf (rs ++ r ∷ []) bytes
one_more rs r bytes h = (h.0, h.1, get_left rs (r ∷ []) h.0 h.1 h.2, h.3)

of_more : (rs : List PlainFrame) (r : PlainFrame) (bs : List (List ℕ)) → AllOf rs bs → AllOf (rs ++ r ∷ []) bs
unfolding AllOf
of_more rs r [] h = tt
of_more rs r (b ∷ bs) h = (one_more rs r b h.0, of_more rs r bs h.1)

of_end : (rs : List PlainFrame) (bs : List (List ℕ)) (b : List ℕ) → AllOf rs bs → IsOneOf rs b → AllOf rs (bs ++ b ∷ [])
unfolding AllOf
of_end rs [] b h k = (k, tt)
of_end rs (x ∷ bs) b h k = (h.0, of_end rs bs b h.1 k)

of_drop : (rs : List PlainFrame) (n : ℕ) (bs : List (List ℕ)) → AllOf rs bs → AllOf rs (drop n bs)
unfolding AllOf
of_drop rs zero bs h = h
of_drop rs (suc n) [] h = h
of_drop rs (suc n) (b ∷ bs) h = of_drop rs n bs h.1

of_at : (rs : List PlainFrame) (bs : List (List ℕ)) (i : ℕ) → i < length bs → AllOf rs bs → IsOneOf rs (slice_index_or bs i [])
unfolding AllOf
of_at rs [] i low h = absurd (omega (arith, low))
of_at rs (b ∷ bs) zero low h = h.0
of_at rs (b ∷ bs) (suc i) low h = of_at rs bs i (omega (arith, low)) h.1

in_more : (rs : List PlainFrame) (r : PlainFrame) (ls : List Letter) → AllIn rs ls → AllIn (rs ++ r ∷ []) ls
unfolding AllIn
in_more rs r [] h = tt
in_more rs r (l ∷ ls) h = ((λ e. one_more rs r l.bytes (h.0 e)), in_more rs r ls h.1)

in_append : (rs : List PlainFrame) (ls ms : List Letter) → AllIn rs ls → AllIn rs ms → AllIn rs (ls ++ ms)
unfolding AllIn
in_append rs [] ms h k = k
in_append rs (l ∷ ls) ms h k = (h.0, in_append rs ls ms h.1 k)

in_at : (rs : List PlainFrame) (ls : List Letter) (n : ℕ) (l : Letter) → AllIn rs ls → slice_get ls n ≡ Some l → l.to ≡ ToLeaderLink
    → IsOneOf rs l.bytes
unfolding AllIn
in_at rs [] n l h e = absurd (cc e)
in_at rs (m ∷ ls) zero l h e = let same : m ≡ l = cc in subst (λ l. l.to ≡ ToLeaderLink → IsOneOf rs l.bytes) same h.0
in_at rs (m ∷ ls) (suc n) l h e = in_at rs ls n l h.1 e

Elsewhere : List Letter → Type 0
Elsewhere [] = Unit {0}
Elsewhere (l ∷ ls) = (l.to ≡ ToLeaderLink → ⊥) × Elsewhere ls

elsewhere_in : (rs : List PlainFrame) (ls : List Letter) → Elsewhere ls → AllIn rs ls
unfolding AllIn Elsewhere
elsewhere_in rs [] h = tt
elsewhere_in rs (l ∷ ls) h = ((λ e. absurd (h.0 e)), elsewhere_in rs ls h.1)

-- ---- what the helper heard

was_more : (pool ls : List Letter) (x : Heard) → WasSent pool x → WasSent (pool ++ ls) x
was_more pool ls (FromClient bytes) h = (h.0, get_left pool ls h.0 _ h.1)
was_more pool ls (Ordered c) h = (h.0, h.1, get_left pool ls h.0 _ h.2, h.3)

all_more : (pool ls : List Letter) (xs : List Heard) → AllSent pool xs → AllSent (pool ++ ls) xs
all_more pool ls [] h = tt
all_more pool ls (x ∷ xs) h = (was_more pool ls x h.0, all_more pool ls xs h.1)

all_end : (pool : List Letter) (xs : List Heard) (x : Heard) → AllSent pool xs → WasSent pool x → AllSent pool (xs ++ x ∷ [])
all_end pool [] x h k = (k, tt)
all_end pool (y ∷ xs) x h k = (h.0, all_end pool xs x h.1 k)

after_end : (h : Server) (xs : List Heard) (x : Heard) → after_all h (xs ++ x ∷ []) ≡ after (after_all h xs) x
unfolding after_all
after_end h [] x = refl
after_end h (y ∷ xs) x = after_end (after h y) xs x

replies_end : (h : Server) (xs : List Heard) (x : Heard) → replies_to h (xs ++ x ∷ []) ≡ replies_to h xs ++ reply_to (after_all h xs) x
unfolding after_all replies_to
replies_end h [] x = append-nil (reply_to h x)
replies_end h (y ∷ xs) x =
    ap (λ rs. reply_to h y ++ rs) (replies_end (after h y) xs x)
    ∙ sym (append_assoc (reply_to h y) (replies_to (after h y) xs) (reply_to (after_all (after h y) xs) x))

-- a command that is taken is what its bytes are
read_whole : (width : ℕ) (bytes : List ℕ) (c : PlainFrame) → linked is_command width bytes ≡ Some c → whole bytes ≡ Ok c
unfolding linked
read_whole width bytes c e = at_read (whole bytes) e
  where
    at_test : (t : Bool) (f : PlainFrame) → cond t (Some f) None ≡ Some c → f ≡ c
    at_test true f e = cc
    at_test false f e = absurd (cc e)

    at_read : (r : Result PlainFrame Refusal) → if_linked is_command width r ≡ Some c → r ≡ Ok c
    at_read (Ok f) e = ap Ok (at_test (is_command f.body && has_width width f.body) f e)
    at_read (Err x) e = absurd (cc e)

-- ---- the command that a line tells

met_end : (first : Server) (heard : List Heard) (x : Heard) (line : JournalLine) (r : PlainFrame) → Met first heard line r → Met first (heard ++ x ∷ []) line r
met_end first heard x line r m = record {
  place = m.place;
  command = m.command;
  is = get_left heard (x ∷ []) m.place _ m.is;
  step =
      let low : m.place ≤ length heard = let inside = slice_get_within heard m.place (Ordered m.command) m.is in omega (arith, inside) in
      ap (λ xs. reply_to (after_all first xs) (Ordered m.command)) (take-append-le m.place heard (x ∷ []) low) ∙ m.step;
  lane = m.lane;
  serial = m.serial;
  value = m.value;
}

-- the last one, at the server that heard all before it
met_now : (first : Server) (heard : List Heard) (c : PlainFrame) (h : Server) → h ≡ after_all first heard
    → let reply = on_link c c.link (carries_out h c).body in Met first (heard ++ Ordered c ∷ []) (frames.journal_line c reply) reply
met_now first heard c h stands = record {
  place = length heard;
  command = c;
  is = get_end heard (Ordered c);
  step =
      ap (λ xs. reply_to (after_all first xs) (Ordered c)) (take-append_seam heard (Ordered c ∷ []))
      ∙ ap (λ k. reply_to k (Ordered c)) (sym stands);
  lane = refl;
  serial = refl;
  value = refl;
}

-- ---- what every move keeps

record Good (first : Server) (f : FrameWorld) : Type 0 where
  heard : List Heard
  came : AllSent f.pool heard
  stands : f.helper.server ≡ after_all first heard
  rs : List PlainFrame
  are : rs ≡ replies_to first heard
  count : length rs ≡ f.helper.carried
  numbers : (i : ℕ) (r : PlainFrame) → slice_get rs i ≡ Some r → r.link ≡ suc i
  kept : AllOf rs f.helper.replies
  lines : length f.journal ≡ length rs
  told : (i : ℕ) (line : JournalLine) (r : PlainFrame) → slice_get f.journal i ≡ Some line → slice_get rs i ≡ Some r → Met first heard line r
  sent : AllIn rs f.pool

module _ (first : Server) where
  -- the link's end at the helper is as it was, and other letters came
  added : (f g : FrameWorld) (ls : List Letter) → g.helper ≡ f.helper → g.journal ≡ f.journal → g.pool ≡ f.pool ++ ls → Elsewhere ls → Good first f → Good first g
  added f g ls e journal pool other h = record {
    heard = h.heard;
    came = subst (λ pool. AllSent pool h.heard) (sym pool) (all_more f.pool ls h.heard h.came);
    stands = ap (λ (k : Helper). k.server) e ∙ h.stands;
    rs = h.rs;
    are = h.are;
    count = h.count ∙ ap (λ (k : Helper). k.carried) (sym e);
    numbers = h.numbers;
    kept = subst (AllOf h.rs) (ap (λ (k : Helper). k.replies) (sym e)) h.kept;
    lines = ap length journal ∙ h.lines;
    told = λ i line r at is. h.told i line r (ap (λ lines. slice_get lines i) (sym journal) ∙ at) is;
    sent = subst (AllIn h.rs) (sym pool) (in_append h.rs f.pool ls h.sent (elsewhere_in h.rs ls other));
  }

  abbrev Like : FrameWorld → FrameWorld → Type 0
  Like f g = (g.helper ≡ f.helper) × (g.journal ≡ f.journal) × (g.pool ≡ f.pool)

  like : (f g : FrameWorld) → Like f g → Good first f → Good first g
  like f g e h = record {
    heard = h.heard;
    came = subst (λ pool. AllSent pool h.heard) (sym e.2) h.came;
    stands = ap (λ (k : Helper). k.server) e.0 ∙ h.stands;
    rs = h.rs;
    are = h.are;
    count = h.count ∙ ap (λ (k : Helper). k.carried) (sym e.0);
    numbers = h.numbers;
    kept = subst (AllOf h.rs) (ap (λ (k : Helper). k.replies) (sym e.0)) h.kept;
    lines = ap length e.1 ∙ h.lines;
    told = λ i line r at is. h.told i line r (ap (λ lines. slice_get lines i) (sym e.1) ∙ at) is;
    sent = subst (AllIn h.rs) (sym e.2) h.sent;
  }

  by_answer : (f : FrameWorld) (c : ℕ) (rest : List Request) (next : FrameWorld) → Like f next → (a : Result Client Fault)
      → Like f (frames.was_asked f c rest next a)
  unfolding frames.was_asked
  by_answer f c rest next e (Ok k) = (refl, refl, refl)
  by_answer f c rest next e (Err (client.NoBox own)) = e
  by_answer f c rest next e (Err client.Busy) = (refl, refl, refl)
  by_answer f c rest next e (Err client.Spent) = (refl, refl, refl)
  by_answer f c rest next e (Err (client.Width width)) = (refl, refl, refl)
  by_answer f c rest next e (Err (client.OwnFull capacity)) = (refl, refl, refl)

  goes : (f : FrameWorld) (c : ℕ) (rs : List Request) → Like f (frames.goes_on f c rs)
  unfolding frames.goes_on
  goes f c [] = (refl, refl, refl)
  goes f c (r ∷ rest) =
      let refused = frames.notes f c (NoOwnBox (own_of r)) in
      by_answer f c rest (frames.goes_on refused c rest) (goes refused c rest) (asked (f.clients c) r)

  goes_after : (f : FrameWorld) (c : ℕ) (p : Progress) → Like f (frames.goes_on_after f c p)
  unfolding frames.goes_on_after
  goes_after f c (Finished outcome) = goes (frames.notes f c (Ended outcome)) c (f.waiting c)
  goes_after f c client.Ignored = (refl, refl, refl)
  goes_after f c (client.Later refusal) = (refl, refl, refl)
  goes_after f c client.Next = (refl, refl, refl)

  answers_elsewhere : (a : leader.Answer) → Elsewhere (frames.answer_letters a)
  unfolding Elsewhere
  answers_elsewhere (leader.Reply reply) = ((λ e. cc e), tt)
  answers_elsewhere (leader.Link number command) = ((λ e. cc e), tt)
  answers_elsewhere (leader.StillWaiting number) = tt

  acks_elsewhere : (a : leader.Ack) → Elsewhere (frames.ack_letters a)
  unfolding Elsewhere
  acks_elsewhere (leader.ToLane lane reply) = ((λ e. cc e), tt)
  acks_elsewhere (leader.Settles number command) = ((λ e. cc e), tt)
  acks_elsewhere leader.Ignored = tt

  -- ---- commands

  carried_good : (f : FrameWorld) (c : PlainFrame) → WasSent f.pool (Ordered c) → c.link ≡ f.helper.carried + 1 → Good first f
      → Good first (frames.to_helper_link f (Some c) (carried_with f.helper c (carries_out f.helper.server c)))
  unfolding frames.helper_answers AllIn
  carried_good f c sent e h =
      let reply = on_link c c.link (carries_out f.helper.server c).body in
      let rs = h.rs ++ reply ∷ [] in
      let here : IsOneOf rs (spelling reply) = (length h.rs, reply, get_end h.rs reply, refl) in
      let size = length-append h.rs (reply ∷ []) in
      let count = h.count in
      let lines = h.lines in
      let line_now : JournalLine = frames.journal_line c reply in
      let more = length-append f.journal (line_now ∷ []) in
      let next = h.heard ++ Ordered c ∷ [] in
      record {
        heard = next;
        came = all_more f.pool (letter ToLeaderLink (spelling reply) ∷ []) next (all_end f.pool h.heard (Ordered c) h.came sent);
        stands = ap (λ k. after k (Ordered c)) h.stands ∙ sym (after_end first h.heard (Ordered c));
        rs = rs;
        are =
            ap (λ rs. rs ++ reply ∷ []) h.are ∙ ap (λ k. replies_to first h.heard ++ reply_to k (Ordered c)) h.stands
            ∙ sym (replies_end first h.heard (Ordered c));
        count = omega (arith, size, count);
        numbers = λ i r is. elim (get_more h.rs reply i r is) [
          | inl old ↦ h.numbers i r old.1
          | inr new ↦ let at = new.0 in let link = ap (λ (g : PlainFrame). g.link) new.1 in omega (arith, at, link, e, count)
        ];
        lines = omega (arith, lines, size, more);
        told = λ i line r at is. elim (get_more f.journal line_now i line at) [
          | inl old ↦ elim (get_more h.rs reply i r is) [
            | inl there ↦ met_end first h.heard (Ordered c) line r (h.told i line r old.1 there.1)
            | inr new ↦ let low = old.0 in let end = new.0 in absurd (omega (arith, low, end, lines))
          ]
          | inr now ↦ elim (get_more h.rs reply i r is) [
            | inl there ↦ let low = there.0 in let end = now.0 in absurd (omega (arith, low, end, lines))
            | inr new ↦ subst (Met first next line) new.1 (subst (λ line. Met first next line reply) now.1 (met_now first h.heard c f.helper.server h.stands))
          ]
        ];
        kept = of_drop rs _ (f.helper.replies ++ spelling reply ∷ []) (of_end rs f.helper.replies (spelling reply) (of_more h.rs reply f.helper.replies h.kept) here);
        sent = in_append rs f.pool (letter ToLeaderLink (spelling reply) ∷ []) (in_more h.rs reply f.pool h.sent) ((λ t. here), tt);
      }

  repeated_good : (f : FrameWorld) (c : PlainFrame) → c.link ≤ f.helper.carried → f.helper.carried + 1 ≤ c.link + length f.helper.replies → Good first f
      → Good first (frames.to_helper_link f (Some c) (record { helper = f.helper; answer = helper.Repeated (kept_for f.helper c.link) }))
  unfolding frames.helper_answers AllIn
  repeated_good f c low high h = record {
    heard = h.heard;
    came = all_more f.pool (letter ToLeaderLink (kept_for f.helper c.link) ∷ []) h.heard h.came;
    stands = h.stands;
    rs = h.rs;
    are = h.are;
    count = h.count;
    numbers = h.numbers;
    kept = h.kept;
    lines = h.lines;
    told = h.told;
    sent = in_append h.rs f.pool (letter ToLeaderLink (kept_for f.helper c.link) ∷ []) h.sent
        ((λ t. of_at h.rs f.helper.replies (c.link + length f.helper.replies - (f.helper.carried + 1)) (omega (arith, low, high)) h.kept), tt);
  }

  ignored_good : (f : FrameWorld) (command : Option PlainFrame) → Good first f
      → Good first (frames.to_helper_link f command (record { helper = f.helper; answer = helper.Ignored }))
  unfolding frames.helper_answers
  ignored_good f command h = record { heard = h.heard; came = h.came; stands = h.stands; rs = h.rs; are = h.are; count = h.count; numbers = h.numbers; kept = h.kept; lines = h.lines; told = h.told; sent = h.sent }

  link_good : (f : FrameWorld) (command : Option PlainFrame) → ((c : PlainFrame) → command ≡ Some c → WasSent f.pool (Ordered c)) → Good first f → Good first (frames.to_helper_link f command (if_command f.helper command))
  unfolding if_command arrives
  link_good f None sent h = ignored_good f None h
  link_good f (Some c) sent h =
      cond_both {A = LinkTurn} (nat_eq c.link (f.helper.carried + 1)) _ _ (λ t. Good first (frames.to_helper_link f (Some c) t))
      (λ e. carried_good f c (sent c refl) (eqb-true _ _ e) h)
      (λ e. cond_both {A = LinkTurn} (nat_le c.link f.helper.carried) _ _ (λ t. Good first (frames.to_helper_link f (Some c) t))
      (λ low. cond_both {A = LinkTurn} (nat_le (f.helper.carried + 1) (c.link + length f.helper.replies)) _ _ (λ t. Good first (frames.to_helper_link f (Some c) t))
      (λ high. repeated_good f c (leb-true _ _ low) (leb-true _ _ high) h) (λ high. ignored_good f (Some c) h))
      (λ low. ignored_good f (Some c) h))

  -- bytes of a client come to the helper
  client_good : (f : FrameWorld) (bytes : List ℕ) → WasSent f.pool (FromClient bytes) → Good first f → Good first (frames.comes f ToHelper bytes)
  unfolding frames.comes AllIn
  client_good f bytes sent h =
      let turn = at_helper.on_client f.helper bytes in
      let more = letter (ToClient turn.reply.lane) (spelling turn.reply) ∷ [] in
      let next = h.heard ++ FromClient bytes ∷ [] in
      record {
        heard = next;
        came = all_more f.pool more next (all_end f.pool h.heard (FromClient bytes) h.came sent);
        stands = ap (λ k. after k (FromClient bytes)) h.stands ∙ sym (after_end first h.heard (FromClient bytes));
        rs = h.rs;
        are = h.are ∙ sym (append-nil (replies_to first h.heard)) ∙ sym (replies_end first h.heard (FromClient bytes));
        count = h.count;
        numbers = h.numbers;
        kept = h.kept;
        lines = h.lines;
        told = λ i line r at is. met_end first h.heard (FromClient bytes) line r (h.told i line r at is);
        sent = in_append h.rs f.pool more h.sent ((λ e. absurd (cc e)), tt);
      }

  comes_good : (f : FrameWorld) (to : Addressee) (bytes : List ℕ) (i : ℕ) → slice_get f.pool i ≡ Some (letter to bytes) → Good first f → Good first (frames.comes f to bytes)
  unfolding frames.comes Elsewhere
  comes_good f (ToClient c) bytes i at h =
      let turn = on_reply (f.clients c) bytes in
      like f (frames.goes_on_after (frames.with_client f c turn.client) c turn.progress) (goes_after (frames.with_client f c turn.client) c turn.progress) h
  comes_good f ToLeader bytes i at h =
      added f _ (frames.answer_letters (steps.on_client f.leader bytes).answer) refl refl refl (answers_elsewhere (steps.on_client f.leader bytes).answer) h
  comes_good f ToHelper bytes i at h = client_good f bytes (i, at) h
  comes_good f ToLeaderLink bytes i at h =
      added f _ (frames.ack_letters (replies.on_reply_bytes f.leader bytes).ack) refl refl refl (acks_elsewhere (replies.on_reply_bytes f.leader bytes).ack) h
  comes_good f ToHelperLink bytes i at h =
      let width = f.helper.server.settings.width in
      link_good f (linked is_command width bytes) (λ c e. (i, bytes, at, read_whole width bytes c e)) h

  -- ---- all moves

  delivers_good : (f : FrameWorld) (l : Option Letter) → IsOfPool f.pool l → Good first f → Good first (frames.delivers f l)
  unfolding frames.delivers
  delivers_good f (Some l) at h = comes_good f l.to l.bytes at.0 at.1 h
  delivers_good f None at h = h

  sent_elsewhere : (sent : Option Sent) → Elsewhere (frames.sent_letters sent)
  unfolding Elsewhere
  sent_elsewhere (Some sent) = (
    cond_both {A = Addressee} (nat_eq sent.server 0) ToLeader ToHelper (λ to. to ≡ ToLeaderLink → ⊥) (λ t e. cc e) (λ t e. cc e),
    tt,
  )
  sent_elsewhere None = tt

  resent_elsewhere : (command : Option PlainFrame) → Elsewhere (frames.command_letters command)
  unfolding Elsewhere
  resent_elsewhere (Some command) = ((λ e. cc e), tt)
  resent_elsewhere None = tt

  sends_good : (f : FrameWorld) (c : ℕ) → Good first f → Good first (frames.client_sends f c)
  unfolding frames.client_sends
  sends_good f c h = added f _ (frames.sent_letters (sends (f.clients c))) refl refl refl (sent_elsewhere (sends (f.clients c))) h

  ticks_good : (f : FrameWorld) → Good first f → Good first (frames.ticks f)
  unfolding frames.ticks
  ticks_good f h = added f _ (frames.command_letters (replies.resent f.leader)) refl refl refl (resent_elsewhere (replies.resent f.leader)) h

  shows_good : (f : FrameWorld) (n : ℕ) (l : Option Letter) → Good first f → Good first (frames.shows f n l)
  unfolding frames.shows
  shows_good f n (Some l) h = like f _ (refl, refl, refl) h
  shows_good f n None h = h

  asks_good : (f : FrameWorld) (c : ℕ) (r : Request) → Good first f → Good first (frames.asks f c r)
  asks_good f c r h = cond_both {A = FrameWorld} (is_none (f.clients c).current) _ _ (Good first)
      (λ e. like f (frames.goes_on f c (f.waiting c ++ r ∷ [])) (goes f c (f.waiting c ++ r ∷ [])) h) (λ e. like f _ (refl, refl, refl) h)

  injects_good : (f : FrameWorld) (to_leader : Bool) (bytes : List ℕ) → Good first f → Good first (frames.happens f (Inject to_leader bytes))
  unfolding frames.happens Elsewhere
  injects_good f true bytes h = added f _ (letter ToLeader bytes ∷ []) refl refl refl ((λ e. cc e), tt) h
  injects_good f false bytes h = added f _ (letter ToHelper bytes ∷ []) refl refl refl ((λ e. cc e), tt) h

  moves : Moves (Good first)
  moves = record {
    ask = asks_good;
    send = sends_good;
    tick = ticks_good;
    deliver = delivers_good;
    show = shows_good;
    inject = injects_good;
  }

pub replies_are_one : RepliesAreOne
unfolding run_of AllOf AllIn after_all replies_to
replies_are_one schedule =
    let settings = schedule.header.settings in
    let first : Server = (opened_helper settings (helper_seed schedule.header.seed)).server in
    let start : Good first (opened settings schedule.header.seed) = record { heard = []; came = tt; stands = refl; rs = []; are = refl; count = refl; numbers = λ i r e. absurd (cc e); kept = tt; lines = refl; told = λ i line r at is. absurd (cc at); sent = tt } in
    let h = run_keeps (Good first) (moves first) (opened settings schedule.header.seed) (events_in schedule.events) start in
    record { heard = h.heard; came = h.came; stands = h.stands; replies = h.rs; are = h.are; count = h.count; numbers = h.numbers; lines = h.lines ∙ h.count; told = h.told; sent = λ n l at to. in_at h.rs _ n l h.sent at to }
