-- Any bytes from outside come to the helper, in both runs.
use Rattle.std.proofs.Common.{◌≡◌, ℕ, ◌<◌, ◌≤◌, ◌^◌, ◌+◌, ◌==◌, cond, nat_le, length, true, false, Bool, List, [], ◌∷◌, All, Some, None, Result, Ok, Err, refl, sym, ap, ◌∙◌, subst, inl, inr, arith, lit<}
use Rattle.std.proofs.lemmas.Bool.{cases_Bool, leb-false}
use Rattle.express_words.specs.declared.refusal.Refusal.{Refusal}
use Rattle.express_words.specs.declared.refusal.Refusal.TheVariants as refusal
use Rattle.frame_rules.specs.declared.fault.FrameFault.{FrameFault}
use Rattle.frame_rules.specs.declared.fault.FrameFault.TheVariants as fault
use Rattle.frame_rules.specs.Frames as frame
use Rattle.frame_rules.specs.Frames.{PlainFrame, PlainBody}
use Rattle.frame_rules.specs.Spelling.{spelling, IsFrame, IsRefusal}
use Rattle.frame_rules.specs.Reading.{decoded}
use Rattle.frame_rules.specs.Whole.{whole, whole_of, is_from_client}
use Rattle.frame_rules.proofs.AnswerLaws.{client_serial}
use Rattle.run_rules.proofs.FaultLaws.{whole_refused}
use Rattle.frame_rules.proofs.WholeLaws.{whole_found, malformed_frame, version_frame}
use Rattle.token_rules.specs.Tokens as token
use Rattle.token_rules.specs.Tokens.{World, Token, Oracle, Act, no_act, put}
use Rattle.token_rules.specs.Run.{comes, injected_comes, foreign_frame_comes}
use Rattle.step_rules.specs.Helper as helper
use Rattle.step_rules.specs.Helper.{Server, Row, Deposited, row_at}
use Rattle.step_rules.specs.HelperClients as steps
use Rattle.step_rules.specs.HelperClients.{RowTurn, deposit_row, proof_row}
use Rattle.run_rules.specs.Letters.{Letter, ToHelper, FrameWorld}
use Rattle.run_rules.specs.Run as frames
use Rattle.run_rules.specs.Acts.{act_of, helper_act}
use Rattle.run_rules.specs.Book.{Book}
use Rattle.run_rules.specs.Follows.{Carries, OfNoFrame, ForeignHolds, ForeignHelperRow, HelperRowAt, Sound, Follows}
use Rattle.run_rules.proofs.Basics.{whole_spelled}
use Rattle.run_rules.proofs.LeaderClients.{posts_follow}
use Rattle.run_rules.proofs.ForeignHelperTurns.{stays, changes, helper_turns, Turns, answered, refused_turns, RowTurns, Came, TakesShare, deposit_turns, proof_turns}

-- what a frame of a client brings the helper's row, where the row takes it
abbrev pub Brings : Book → Row → ℕ → ℕ → PlainBody → Type 0
Brings b r c s (frame.Deposit held) = r.serial < s → ForeignHolds b c s (Deposited held)
Brings b r c s (frame.Proof share) = s ≡ r.serial → TakesShare b c s share r.stage
Brings b r c s body = Unit {0}

malformed : IsFrame (record { lane = 0; serial = 0; link = 0; body = frame.Refused (refusal.Malformed 5) })
malformed = malformed_frame 5 (lit< tt)

-- ---- frames of a client

module _ (b : Book) (f : FrameWorld) (w : World) (sound : Sound b) (h : Follows b f w) where
  abbrev server : Server
  server = f.helper.server

  lanes_small : server.settings.lanes < 2 ^ 16
  lanes_small =
      let few : b.settings.lanes ≤ 256 = sound.limits.2.1 in
      let same = ap (λ s. s.lanes) h.helper.settings in
      omega (arith, few, same)

  -- a frame is answered by its lane's row, if there is one
  lane_turns : (g : PlainFrame) (t : RowTurn) → Came g.lane g.serial → b.foreign g.lane ≡ true
      → (g.lane < b.settings.lanes → RowTurns b w.carried g.lane g.serial t) → Turns b w g.lane (steps.if_lane server g t)
  unfolding steps.if_lane
  lane_turns g t k foreign turn = elim (cases_Bool (nat_le server.settings.lanes g.lane)) [
    | inl past ↦ rw past (record {
      leaves = stays b f w g.lane h;
      why = inl foreign;
      is_frame = record { lane = k.lane; serial = k.serial; addressed = k.first; link = omega arith; linked = refl; body = lanes_small };
    })
    | inr there ↦
        let low : g.lane < b.settings.lanes = let l = leb-false _ _ there in let same = ap (λ s. s.lanes) h.helper.settings in omega (arith, l, same) in
        let turned = turn low in
        rw there (record {
          leaves = changes b f w g.lane t.row h low (rw foreign turned.row) (λ e. turned.begun);
          why = inl foreign;
          is_frame = turned.is_frame;
        })
  ]

  row_at_lane : (c : ℕ) → b.foreign c ≡ true → c < b.settings.lanes
      → ForeignHelperRow b c (row_at server c) (w.lanes c).helper
  row_at_lane c foreign low = subst (λ t. HelperRowAt b c t (row_at server c) (w.lanes c).helper) foreign (h.helper.rows c low)

  kind_turns : (g : PlainFrame) (body : PlainBody) → Came g.lane g.serial → b.foreign g.lane ≡ true
      → (g.lane < b.settings.lanes → Brings b (row_at server g.lane) g.lane g.serial body) → Turns b w g.lane (steps.by_kind server g body)
  unfolding steps.by_kind
  kind_turns g (frame.Deposit held) k foreign brings =
      lane_turns g (deposit_row (row_at server g.lane) g.serial held) k foreign (λ low.
      deposit_turns b w.carried g.lane g.serial (row_at server g.lane) (w.lanes g.lane).helper held (row_at_lane g.lane foreign low) (h.helper.begun g.lane low foreign) k (brings low))
  kind_turns g (frame.Proof share) k foreign brings =
      lane_turns g (proof_row (row_at server g.lane) g.serial share) k foreign (λ low.
      proof_turns b w.carried g.lane g.serial (row_at server g.lane) (w.lanes g.lane).helper share (row_at_lane g.lane foreign low) (h.helper.begun g.lane low foreign) k (brings low))
  kind_turns g body k foreign brings = refused_turns b f w g.lane (refusal.Malformed 5) h refl malformed

-- ---- what is no frame of a client

-- the bytes are refused, whatever the rows hold
record IsRefused (h : Server) (t : helper.Turn) : Type 0 where
  refusal : Refusal
  is : t ≡ helper.refuses_bytes h refusal
  why : OfNoFrame (frame.Refused refusal)
  is_frame : IsFrame (record { lane = 0; serial = 0; link = 0; body = frame.Refused refusal })

refused_body : (h : Server) (g : PlainFrame) (body : PlainBody) → (is_from_client body ≡ true → ⊥)
    → IsRefused h (steps.by_kind h g body)
unfolding steps.by_kind
refused_body h g (frame.Deposit held) never = absurd (never refl)
refused_body h g (frame.Proof share) never = absurd (never refl)
refused_body h g body never = record { refusal = refusal.Malformed 5; is = refl; why = refl; is_frame = malformed }

-- what is refused of bytes names a place or a version
pub named : (count : ℕ) (found : Result (PlainFrame × ℕ) FrameFault) (r : Refusal)
    → whole_of count found ≡ Err r → OfNoFrame (frame.Refused r)
unfolding whole_of
named count (Err (fault.Version version)) r e = let same : refusal.Version version ≡ r = cc in subst (λ r. OfNoFrame (frame.Refused r)) same refl
named count (Err (fault.Malformed place)) r e = let same : refusal.Malformed place ≡ r = cc in subst (λ r. OfNoFrame (frame.Refused r)) same refl
named count (Err fault.Short) r e = let same : refusal.Malformed count ≡ r = cc in subst (λ r. OfNoFrame (frame.Refused r)) same refl
named count (Ok found) r e = by_end (found.1 == count) e
  where
    by_end : (t : Bool) → (let read : Result PlainFrame Refusal = cond t (Ok found.0) (Err (refusal.Malformed found.1)) in read) ≡ Err r
        → OfNoFrame (frame.Refused r)
    by_end true e = absurd (cc e)
    by_end false e = let same : refusal.Malformed found.1 ≡ r = cc in subst (λ r. OfNoFrame (frame.Refused r)) same refl

pub refused_frame : (r : Refusal) → OfNoFrame (frame.Refused r) → IsRefusal r
    → IsFrame (record { lane = 0; serial = 0; link = 0; body = frame.Refused r })
refused_frame (refusal.Malformed place) of small = malformed_frame place small
refused_frame (refusal.Version version) of small = version_frame version small
refused_frame r of small = absurd (cc of)

-- bytes that are no frame of a client
no_frame : (h : Server) (bytes : List ℕ) (read : Result PlainFrame Refusal) → whole bytes ≡ read
    → ((r : Refusal) → read ≡ Err r → IsRefusal r)
    → ((g : PlainFrame) → read ≡ Ok g → is_from_client g.body ≡ true → ⊥)
    → IsRefused h (steps.on_whole h read)
unfolding steps.on_whole
no_frame h bytes (Err r) e small never =
    let of = named (length bytes) (decoded bytes) r e in
    record { refusal = r; is = refl; why = of; is_frame = refused_frame r of (small r refl) }
no_frame h bytes (Ok g) e small never = refused_body h g g.body (never g refl)

-- ---- they come

-- a turn with its act
turn_comes : (b : Book) (o : Oracle) (f : FrameWorld) (w : World) (c : ℕ) (l : Letter) → Follows b f w → b.foreign c ≡ true
    → l.to ≡ ToHelper → Turns b w c (steps.client_turn f.helper.server l.bytes) → o w.moment ≡ helper_act f c l.bytes
    → Follows b (frames.comes f l.to l.bytes) (comes o w (token.Injected false (Some c)))
unfolding comes injected_comes foreign_frame_comes frames.comes
turn_comes b o f w c l h foreign at k act =
    let t = steps.client_turn f.helper.server l.bytes in
    let other : w.foreign c ≡ true = ap (λ g. g c) h.foreign ∙ foreign in
    rw (at, other, act) (helper_turns b f w c (w.moment + 1) t.server (token.Foreign t.reply.lane ∷ []) _ h k.leaves (answered b w c t k))

-- a client's frame of a foreign lane
pub injected_follows : (b : Book) (o : Oracle) (f : FrameWorld) (w : World) (c : ℕ) (l : Letter) → Sound b → Follows b f w
    → b.foreign c ≡ true → Carries b (token.Injected false (Some c)) l
    → ((g : PlainFrame) → IsFrame g → l.bytes ≡ spelling g → c < b.settings.lanes → Brings b (row_at f.helper.server c) c g.serial g.body)
    → o w.moment ≡ helper_act f c l.bytes
    → Follows b (frames.comes f l.to l.bytes) (comes o w (token.Injected false (Some c)))
unfolding steps.on_whole
injected_follows b o f w c l sound h foreign k brings act =
    let g = k.1.0 in
    let fr : IsFrame g = k.1.1.0 in
    let spelled : l.bytes ≡ spelling g = k.1.1.1.0 in
    let lane : g.lane ≡ c = k.1.1.1.1.0 in
    let client : is_from_client g.body ≡ true = k.1.1.1.1.1 in
    let came : Came g.lane g.serial = record { lane = fr.lane; serial = fr.serial; first = client_serial g.body g.lane g.serial client fr.addressed } in
    let here : b.foreign g.lane ≡ true = ap b.foreign lane ∙ foreign in
    let brought : g.lane < b.settings.lanes → Brings b (row_at f.helper.server g.lane) g.lane g.serial g.body =
    subst (λ d. d < b.settings.lanes → Brings b (row_at f.helper.server d) d g.serial g.body) (sym lane) (brings g fr spelled) in
    let turn = kind_turns b f w sound h g g.body came here brought in
    let read : whole l.bytes ≡ Ok g = ap whole spelled ∙ whole_spelled g fr in
    let is : steps.client_turn f.helper.server l.bytes ≡ steps.by_kind f.helper.server g g.body = ap (steps.on_whole f.helper.server) read in
    turn_comes b o f w c l h foreign k.0
    (subst (Turns b w c) (sym is) (subst (λ d. Turns b w d (steps.by_kind f.helper.server g g.body)) lane turn)) act

-- with the act that is read off the helper's turn
pub injected_follows_act : (b : Book) (f : FrameWorld) (w : World) (c : ℕ) (l : Letter) → Sound b → Follows b f w
    → b.foreign c ≡ true → Carries b (token.Injected false (Some c)) l
    → ((g : PlainFrame) → IsFrame g → l.bytes ≡ spelling g → c < b.settings.lanes → Brings b (row_at f.helper.server c) c g.serial g.body)
    → Follows b (frames.comes f l.to l.bytes) (comes (λ n. act_of f (token.Injected false (Some c)) l) w (token.Injected false (Some c)))
injected_follows_act b f w c l sound h foreign k brings =
    injected_follows b (λ n. act_of f (token.Injected false (Some c)) l) f w c l sound h foreign k brings refl

-- bytes that aren't exactly one frame of a client
pub outside_follows : (b : Book) (o : Oracle) (f : FrameWorld) (w : World) (l : Letter) → Follows b f w
    → Carries b (token.Injected false None) l → All (λ n. n < 256) l.bytes
    → length l.bytes < 2 ^ 32
    → Follows b (frames.comes f l.to l.bytes) (comes o w (token.Injected false None))
unfolding comes injected_comes frames.comes
outside_follows b o f w l h k bytes few =
    let none = no_frame f.helper.server l.bytes (whole l.bytes) refl (λ r e. whole_refused l.bytes r bytes few e) (λ g e client.
    let s = whole_found l.bytes g bytes e in k.1 g s.is_frame s.spelled client) in
    rw (k.0, none.is) (posts_follow b f w (token.Foreign 0 ∷ []) _ h
    (record { frame = record { lane = 0; serial = 0; link = 0; body = frame.Refused none.refusal }; why = inr none.why; lane = refl; spelled = record { at = refl; bytes = refl; is_frame = none.is_frame } }, tt))
