-- What a step tells is its frame's.
use Rattle.std.proofs.Common.{◌≡◌, ◌⊎◌, inl, inr, ℕ, ◌+◌, Bool, true, false, List, [], ◌∷◌, ◌++◌, take, drop, length, Some, None, Result, Ok, Err, refl, sym, ap, ◌∙◌, subst, arith}
use Rattle.std.specs.Prelude.{cond, nat_le, nat_eq, option_map, slice_get}
use Rattle.std.proofs.Math.Seq.{take-length}
use Rattle.express_words.specs.declared.refusal.Refusal.{Refusal}
use Rattle.express_words.specs.declared.refusal.Refusal.TheVariants as refusal
use Rattle.frame_rules.specs.Frames as frame
use Rattle.frame_rules.specs.Frames.{PlainFrame, PlainBody}
use Rattle.frame_rules.specs.Spelling.{spelling}
use Rattle.frame_rules.specs.Whole.{if_linked, is_command, linked, refused_bytes, whole}
use Rattle.leader_core.specs.Told.{acked, acked_bytes, turned}
use Rattle.helper_core.specs.State as helper_state
use Rattle.step_rules.specs.Helper as helper
use Rattle.step_rules.specs.Helper.{Helper}
use Rattle.step_rules.specs.HelperClients.{RowTurn, by_kind, client_turn, if_lane, on_whole}
use Rattle.step_rules.specs.HelperCommands.{arrives, if_command, on_link_bytes}
use Rattle.step_rules.specs.Leader as leader
use Rattle.step_rules.specs.Leader.{Leader}
use Rattle.step_rules.specs.LeaderClients as lead
use Rattle.step_rules.specs.LeaderReplies.{on_reply_bytes}
use Rattle.step_laws.specs.Causes as causes
use Rattle.step_laws.specs.Causes.{AnswersBytes, AnswersIf, AnswersTaken}
use Rattle.step_laws.specs.Replies.{AckIsOwn, TurnIsOwn}
use Rattle.step_laws.proofs.LeaderCauses.{leader_answers}
use Rattle.step_laws.proofs.Replies.{acks_are_own, turns_are_own}
use Rattle.node_restart.specs.declared.server.Core.{Core}
use Rattle.node_restart.specs.declared.server.Core.TheVariants.{Lead, Help}
use Rattle.node_restart.specs.declared.did.Did.TheVariants as did
use Rattle.node_restart.specs.declared.frames.Sender.TheVariants.{Client, Peer}
use Rattle.node_restart.specs.Steps.{step_of, lead_client, lead_peer, help_client, help_peer, resent_by}
use Rattle.node_serve.specs.Draining.{IsOldest, IsHeeded}
use Rattle.node_serve.specs.Handing.{answer_of, is_ignored, sender_if, sender_of, told}
use Rattle.node_serve.specs.Own.{IsAnswerTo, IsToldOf, IsToldTo}

-- ---- a leader at a client's bytes

abbrev said : leader.Answer → List ℕ
said (leader.Reply reply) = spelling reply
said answer = []

client_says : (answer : leader.Answer) → take (told (did.Lead (turned answer))) (leader.written answer) ≡ said answer
client_says (leader.Reply reply) = take-length (spelling reply)
client_says (leader.Link number command) = refl
client_says (leader.StillWaiting number) = refl

no_command : (width : ℕ) (body : PlainBody) → causes.is_taken width body ≡ true → is_command body ≡ true → ⊥
no_command width body taken command = grind arith

-- the commands that are outstanding are this frame's
abbrev pub Stands : PlainFrame → Core → Type 0
Stands f (Lead a) =
    (a.outstanding ≡ []) ⊎ ((c : PlainFrame) × (a.outstanding ≡ c ∷ []) × (c.lane ≡ f.lane) × (c.serial ≡ f.serial))
Stands f (Help h) = ⊥

abbrev pub IsLead : Core → Type 0
IsLead (Lead a) = Unit {0}
IsLead (Help h) = ⊥

-- the bytes are those of the first command
abbrev IsFirst : List PlainFrame → List ℕ → Type 0
IsFirst commands sent = option_map spelling (slice_get commands 0) ≡ Some sent

-- to the one that gave these bytes, by a server that stood so
module _ (core : Core) (bytes : List ℕ) where
  pub own_frame : (f reply : PlainFrame) → whole bytes ≡ Ok f → IsAnswerTo f reply → IsToldTo core bytes (spelling reply)
  own_frame f reply is own = inr (subst (λ w. IsToldOf core w (spelling reply)) (sym is) (inl (reply, own, refl)))

  told_taken : (a : Leader) (f : PlainFrame) (answer : leader.Answer) → whole bytes ≡ Ok f → causes.is_taken a.settings.width f.body ≡ true
      → AnswersTaken a f answer → IsToldTo core bytes (said answer)
  told_taken a f (leader.Reply reply) is taken h =
      own_frame f reply is (record {
        lane = ap (λ (x : PlainFrame). x.lane) h.0;
        serial = ap (λ (x : PlainFrame). x.serial) h.0;
        number = λ command. absurd (no_command a.settings.width f.body taken command);
      })
  told_taken a f (leader.Link number command) is taken h = inl refl
  told_taken a f (leader.StillWaiting number) is taken h = inl refl

  refused_kind : (f : PlainFrame) (place : ℕ) → whole bytes ≡ Ok f → IsToldTo core bytes (spelling (refused_bytes (refusal.Malformed place)))
  refused_kind f place is =
      inr (subst (λ w. IsToldOf core w (spelling (refused_bytes (refusal.Malformed place)))) (sym is) (inr (inr (place, refl))))

  told_if : (a : Leader) (f : PlainFrame) (answer : leader.Answer) (taken : Bool) (place : ℕ) → whole bytes ≡ Ok f
      → causes.is_taken a.settings.width f.body ≡ taken → AnswersIf taken place a f answer → IsToldTo core bytes (said answer)
  told_if a f answer true place is taken h = told_taken a f answer is taken h
  told_if a f answer false place is taken h =
      subst (λ (x : leader.Answer). IsToldTo core bytes (said x)) (sym h) (refused_kind f place is)

  told_found : (a : Leader) (answer : leader.Answer) (found : Result PlainFrame Refusal) → whole bytes ≡ found
      → AnswersBytes a found answer → IsToldTo core bytes (said answer)
  told_found a answer (Ok f) is h = told_if a f answer (causes.is_taken a.settings.width f.body) (causes.wrong_at f.body) is refl h
  told_found a answer (Err why) is h =
      subst (λ (x : leader.Answer). IsToldTo core bytes (said x)) (sym h)
      (inr (subst (λ w. IsToldOf core w (spelling (refused_bytes why))) (sym is) refl))

  -- what a leader tells at a client's bytes
  pub lead_told : (a : Leader) → IsToldTo core bytes (answer_of (step_of (Lead a) Client bytes))
  unfolding lead_client
  lead_told a =
      let answer = (lead.on_client a bytes).answer in
      subst (IsToldTo core bytes) (sym (client_says answer)) (told_found a answer (whole bytes) refl (leader_answers a bytes))

  -- and it stands with that frame's command outstanding, or none
  issued : (a after : Leader) (f : PlainFrame) (answer : leader.Answer) → whole bytes ≡ Ok f → a.outstanding ≡ []
      → TurnIsOwn answer bytes a after → Stands f (Lead after)
  issued a after f (leader.Link number command) is none own =
      let same : f ≡ own.frame = cc (is, own.read) in
      inr (command, own.outstanding ∙ ap (λ (l : List PlainFrame). l ++ command ∷ []) none, own.lane ∙ ap (λ (x : PlainFrame). x.lane) (sym same), own.serial ∙ ap (λ (x : PlainFrame). x.serial) (sym same))
  issued a after f (leader.Reply reply) is none same = inl (ap (λ (x : Leader). x.outstanding) same ∙ none)
  issued a after f (leader.StillWaiting number) is none same = inl (ap (λ (x : Leader). x.outstanding) same ∙ none)

  none_left : (commands : List PlainFrame) → slice_get commands 0 ≡ None → commands ≡ []
  none_left [] none = refl
  none_left (c ∷ commands) none = absurd (cc none)

  pub client_step : (c : Core) (f : PlainFrame) → whole bytes ≡ Ok f → IsLead c → resent_by c ≡ None
      → Stands f (step_of c Client bytes).core × IsToldTo core bytes (answer_of (step_of c Client bytes))
  unfolding lead_client
  client_step (Lead a) f is leads none =
      (issued a _ f (lead.on_client a bytes).answer is (none_left a.outstanding none) (turns_are_own a bytes), lead_told a)
  client_step (Help h) f is leads none = absurd leads

  -- ---- a leader at its helper's bytes

  same_first : (c d : PlainFrame) (commands : List PlainFrame) → slice_get commands 0 ≡ Some c → commands ≡ d ∷ [] → c ≡ d
  same_first c d commands first is = cc (subst (λ (l : List PlainFrame). slice_get l 0 ≡ Some c) is first)

  acked_own : (a after : Leader) (f : PlainFrame) (ack : leader.Ack) (sent : List ℕ) → whole bytes ≡ Ok f → is_command f.body ≡ false → Stands f (Lead a)
      → IsOldest (Lead a) sent → is_ignored (did.Acked (acked ack)) ≡ false → AckIsOwn ack a after
      → Stands f (Lead after) × IsToldTo core bytes (take (told (did.Acked (acked ack))) (acked_bytes ack))
  acked_own a after f ack sent is client (inl none) oldest heeded own = absurd (nothing_oldest a.outstanding none oldest)
    where
      nothing_oldest : (commands : List PlainFrame) → commands ≡ [] → IsFirst commands sent → ⊥
      nothing_oldest [] none oldest = cc oldest
      nothing_oldest (c ∷ commands) none oldest = cc none
  acked_own a after f (leader.ToLane lane reply) sent is client (inr (d, alone, at_lane, at_serial)) oldest heeded (c, first, own) =
      let same : c ≡ d = same_first c d a.outstanding first alone in
      let left : after.outstanding ≡ [] = own.outstanding ∙ ap (drop 1) alone in
      let answers : IsAnswerTo f reply = record {
        lane = ap (λ (x : PlainFrame). x.lane) own.is ∙ ap (λ (x : PlainFrame). x.lane) same ∙ at_lane;
        serial = ap (λ (x : PlainFrame). x.serial) own.is ∙ ap (λ (x : PlainFrame). x.serial) same ∙ at_serial;
        number = λ command. absurd (cc (client, command));
      } in
      (inl left, subst (IsToldTo core bytes) (sym (take-length (spelling reply))) (own_frame f reply is answers))
  acked_own a after f (leader.Settles number command) sent is client (inr (d, alone, at_lane, at_serial)) oldest heeded (c, first, own) =
      let same : c ≡ d = same_first c d a.outstanding first alone in
      let left : after.outstanding ≡ command ∷ [] = own.outstanding ∙ ap (λ (l : List PlainFrame). drop 1 l ++ command ∷ []) alone in
      (inr (command, left, own.lane ∙ ap (λ (x : PlainFrame). x.lane) same ∙ at_lane, own.serial ∙ ap (λ (x : PlainFrame). x.serial) same ∙ at_serial), inl refl)
  acked_own a after f leader.Ignored sent is client (inr alone) oldest heeded own = absurd (cc heeded)

  pub peer_step : (c : Core) (f : PlainFrame) (sent got : List ℕ) → whole bytes ≡ Ok f → is_command f.body ≡ false → Stands f c → IsOldest c sent → IsHeeded c got
      → Stands f (step_of c Peer got).core × IsToldTo core bytes (answer_of (step_of c Peer got))
  unfolding lead_peer
  peer_step (Lead a) f sent got is client stands oldest heeded =
      acked_own a _ f (on_reply_bytes a got).ack sent is client stands oldest heeded (acks_are_own a got)
  peer_step (Help h) f sent got is client stands oldest heeded = absurd stands

-- ---- a helper

module _ (h : Helper) (bytes : List ℕ) where
  abbrev Tells : Result PlainFrame Refusal → PlainFrame → Type 0
  Tells found reply = IsToldOf (Help h) found (spelling reply)

  tells_either : (f : PlainFrame) (b : Bool) (x y : helper.Turn) → Tells (Ok f) x.reply → Tells (Ok f) y.reply → Tells (Ok f) (cond b x y).reply
  tells_either f true x y p q = p
  tells_either f false x y p q = q

  tells_answer : (f : PlainFrame) (body : PlainBody) → is_command f.body ≡ false → Tells (Ok f) (helper.says h.server f body).reply
  tells_answer f body client = inl (_, record { lane = refl; serial = refl; number = λ command. absurd (cc (client, command)) }, refl)

  tells_lane : (f : PlainFrame) (t : RowTurn) → is_command f.body ≡ false → Tells (Ok f) (if_lane h.server f t).reply
  unfolding if_lane
  tells_lane f t client = tells_either f (nat_le h.server.settings.lanes f.lane) _ _ (tells_answer f _ client) (tells_answer f _ client)

  tells_kind : (f : PlainFrame) (body : PlainBody) → f.body ≡ body → Tells (Ok f) (by_kind h.server f body).reply
  unfolding by_kind
  tells_kind f (frame.Deposit held) is = tells_lane f _ (ap is_command is)
  tells_kind f (frame.Proof share) is = tells_lane f _ (ap is_command is)
  tells_kind f body is = inr (inr (5, refl))

  tells_whole : (found : Result PlainFrame Refusal) → Tells found (on_whole h.server found).reply
  unfolding on_whole
  tells_whole (Ok f) = tells_kind f f.body refl
  tells_whole (Err why) = refl

  client_told : IsToldTo (Help h) bytes (answer_of (step_of (Help h) Client bytes))
  unfolding help_client
  client_told = subst (IsToldTo (Help h) bytes) (sym (take-length (spelling (client_turn h.server bytes).reply))) (inr (tells_whole (whole bytes)))

  link_says : (answer : helper.Answer) → take (told (did.Linked (helper_state.turned answer))) (helper.written answer) ≡ helper.written answer
  link_says (helper.Carried reply) = take-length (spelling reply)
  link_says (helper.Repeated kept) = take-length kept
  link_says helper.Ignored = refl

  abbrev Links : PlainFrame → helper.LinkTurn → Type 0
  Links f t = (helper.written t.answer ≡ []) ⊎ IsToldOf (Help h) (Ok f) (helper.written t.answer)

  links_either : (f : PlainFrame) (b : Bool) (x y : helper.LinkTurn) → Links f x → Links f y → Links f (cond b x y)
  links_either f true x y p q = p
  links_either f false x y p q = q

  arrived : (f : PlainFrame) → is_command f.body ≡ true → Links f (arrives h f)
  unfolding arrives
  arrived f command =
      links_either f (nat_eq f.link (h.carried + 1)) _ _ (inr (inl (_, record { lane = refl; serial = refl; number = λ e. refl }, refl)))
      (links_either f (nat_le f.link h.carried) _ _
      (links_either f (nat_le (h.carried + 1) (f.link + length h.replies)) _ _ (inr (inr (inl (command, refl)))) (inl refl)) (inl refl))

  found_links : (f : PlainFrame) (b : Bool) → is_command f.body ≡ true → Links f (if_command h (cond b (Some f) None))
  unfolding if_command
  found_links f true command = arrived f command
  found_links f false command = inl refl

  link_found : (f : PlainFrame) (found : Result PlainFrame Refusal) → found ≡ Ok f → is_command f.body ≡ true
      → Links f (if_command h (if_linked is_command h.server.settings.width found))
  link_found f (Ok g) is command =
      let same : f ≡ g = cc is in
      subst (λ (x : PlainFrame). Links f (if_command h (if_linked is_command h.server.settings.width (Ok x)))) same (found_links f _ command)
  link_found f (Err why) is command = absurd (cc is)

  link_told : (f : PlainFrame) → whole bytes ≡ Ok f → is_command f.body ≡ true → IsToldTo (Help h) bytes (answer_of (step_of (Help h) Peer bytes))
  unfolding help_peer linked
  link_told f is command =
      let answer = (on_link_bytes h bytes).answer in
      let tells : (helper.written answer ≡ []) ⊎ IsToldOf (Help h) (whole bytes) (helper.written answer)
      = subst (λ w. (helper.written answer ≡ []) ⊎ IsToldOf (Help h) w (helper.written answer)) (sym is) (link_found f (whole bytes) is command) in
      subst (IsToldTo (Help h) bytes) (sym (link_says answer)) tells

  by_class : (f : PlainFrame) (command : Bool) → whole bytes ≡ Ok f → is_command f.body ≡ command
      → IsToldTo (Help h) bytes (answer_of (step_of (Help h) (sender_if command) bytes))
  by_class f true is class = link_told f is class
  by_class f false is class = client_told

  by_found : (found : Result PlainFrame Refusal) → whole bytes ≡ found → IsToldTo (Help h) bytes (answer_of (step_of (Help h) (sender_of found) bytes))
  by_found (Ok f) is = by_class f (is_command f.body) is refl
  by_found (Err why) is = client_told

  -- what a helper tells at bytes of its leader's or of a client
  pub help_told : IsToldTo (Help h) bytes (answer_of (step_of (Help h) (sender_of (whole bytes)) bytes))
  help_told = by_found (whole bytes) refl
