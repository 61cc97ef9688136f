-- The oldest command is sent once more, and a client with no request sends nothing, in both runs.
use Rattle.std.proofs.Common.{◌≡◌, ℕ, zero, ◌<◌, ◌+◌, true, false, Bool, [], ◌∷◌, Option, Some, None, slice_get, refl, ap, ◌∙◌, subst}
use Rattle.frame_rules.specs.Frames.{PlainFrame}
use Rattle.frame_rules.specs.Spelling.{spelling, IsFrame}
use Rattle.mailbox_rules.specs.Requests.{Line}
use Rattle.token_rules.specs.Tokens as token
use Rattle.token_rules.specs.Tokens.{Token, World, Oracle}
use Rattle.token_rules.specs.Run.{ticks, resends, client_sends, frame_of as token_frame}
use Rattle.step_rules.specs.ClientAsks.{sends, sent_at}
use Rattle.run_rules.specs.Letters.{letter, ToHelperLink, FrameWorld}
use Rattle.run_rules.specs.Run as frames
use Rattle.run_rules.specs.Book.{Book}
use Rattle.run_rules.specs.Frames.{frame_of}
use Rattle.run_rules.specs.Follows.{ForeignBody, IsCommand, Carries, CurrentIs, Follows}
use Rattle.run_rules.proofs.LeaderClients.{posts_follow}
use Rattle.run_rules.proofs.LeaderReplies.{oldest_is, none_out, get_first, no_letters}
use Rattle.run_rules.proofs.ClientHears.{client_at as client_of}

-- ---- the oldest command once more

command_lane : (b : Book) (n : ℕ) (x : Line) (g : PlainFrame) → IsCommand b false n x g
    → frame_of b (token.Ordered n x) ≡ Some g
command_lane b n x g h = h

foreign_body : (b : Book) (n : ℕ) (x : Line) (g : PlainFrame) → IsCommand b true n x g
    → ForeignBody b (token.Ordered n x) g.body
foreign_body b n x g h = h.3

resent : (b : Book) (n : ℕ) (x : Line) (g : PlainFrame) (t : Bool) → b.foreign x.lane ≡ t
    → IsCommand b (b.foreign x.lane) n x g → IsFrame g → x.lane < b.settings.lanes
    → Carries b (token.Ordered n x) (letter ToHelperLink (spelling g))
resent b n x g true e h fr low =
    let k : IsCommand b true n x g = rw e at h in rw e (record { frame = g; link = k.0; lane = k.1; serial = k.2; body = foreign_body b n x g k; spelled = record { at = refl; bytes = refl; is_frame = fr } })
resent b n x g false e h fr low =
    let k : IsCommand b false n x g = rw e at h in rw e (record { lane = low; frame = g; is = k; spelled = record { at = refl; bytes = refl; is_frame = fr } })

pub ticks_follow : (b : Book) (f : FrameWorld) (w : World) → Follows b f w
    → Follows b (frames.ticks f) (ticks w)
unfolding ticks resends frames.ticks
ticks_follow b f w h = at_oldest (slice_get w.commands w.acknowledged) refl
  where
    at_oldest : (found : Option Line) → slice_get w.commands w.acknowledged ≡ found
        → Follows b (frames.posts f (frames.command_letters (slice_get f.leader.outstanding 0))) (resends w found)
    at_oldest (Some x) e =
        let a = oldest_is b f w x h e in
        rw a.is (posts_follow b f w (token.Ordered (w.acknowledged + 1) x ∷ []) _ h (resent b (w.acknowledged + 1) x a.command (b.foreign x.lane) refl a.of a.is_frame a.low, tt))
    at_oldest None e = let none = none_out b _ _ _ h.leader.outstanding (get_first w.acknowledged w.commands ∙ e) in rw none (no_letters b f w h)

-- ---- a client's frame

-- a client with no request sends nothing
pub idle_sends : (b : Book) (f : FrameWorld) (w : World) (c : ℕ) → Follows b f w → b.foreign c ≡ false
    → (w.lanes c).step ≡ zero → Follows b (frames.client_sends f c) (client_sends w c)
unfolding client_sends token_frame frames.client_sends sends
idle_sends b f w c h hon e =
    let client = client_of b f w c h hon in
    let now : (f.clients c).current ≡ None = subst (λ n. CurrentIs b c n (w.lanes c).serial (f.clients c).current) e client.current in
    let honest : w.foreign c ≡ false = ap (λ foreign. foreign c) h.foreign ∙ hon in
    let letters : frames.sent_letters (sent_at (f.clients c) (f.clients c).current) ≡ [] = ap (λ now. frames.sent_letters (sent_at (f.clients c) now)) now in
    rw (honest, e, letters) (posts_follow b f w [] [] h tt)
