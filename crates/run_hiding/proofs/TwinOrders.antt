-- A command comes to the helper in both runs: what it keeps, answers and enters stays alike.
use Rattle.std.proofs.Common.{◌≡◌, ◌∙◌, ◌<◌, ◌≤◌, ◌+◌, ◌-◌, ◌⊎◌, ℕ, true, cond, List, [], ◌∷◌, ◌++◌, length, take, Option, Some, None, slice_get, refl, sym, ap, subst, arith, inl, inr, length-append}
use Rattle.std.proofs.lemmas.Option.{slice_get_within}
use Rattle.frame_rules.specs.Frames as frame
use Rattle.frame_rules.specs.Frames.{PlainFrame, PlainBody}
use Rattle.frame_rules.specs.Spelling.{IsAddressed, IsFrame, spelling}
use Rattle.frame_rules.specs.Whole.{is_command, linked, on_link}
use Rattle.mailbox_rules.specs.Requests.{Entry, Line, entry}
use Rattle.token_rules.specs.Tokens as token
use Rattle.token_rules.specs.Tokens.{Act, Oracle, World}
use Rattle.token_rules.specs.Rows.{carried_row}
use Rattle.token_rules.specs.Run.{acted, asked_operation, carries, carries_next, comes}
use Rattle.token_rules.proofs.Lists.{get_more}
use Rattle.step_rules.specs.Helper as helper
use Rattle.step_rules.specs.Helper.{Helper}
use Rattle.step_rules.specs.HelperCommands.{arrives, carries_out, if_command, kept_for, last, on_link_bytes}
use Rattle.step_tokens.specs.HelperRows as helper_rows
use Rattle.run_rules.specs.Letters.{FrameWorld, Letter, ToHelperLink, ToLeaderLink, letter}
use Rattle.run_rules.specs.Run as frames
use Rattle.run_rules.specs.Book.{Book}
use Rattle.run_rules.specs.Acts.{act_of, carried_act, does_after}
use Rattle.run_rules.specs.Follows.{Follows, ForeignOrder, IsForeignLink}
use Rattle.run_rules.specs.Known.{Known}
use Rattle.run_rules.proofs.ForeignHelperCarried.{Orders}
use Rattle.run_rules.proofs.ForeignHelperOrdered.{carried_made}
use Rattle.run_rules.proofs.HelperOrders.{comes_next}
use Rattle.run_rules.proofs.HelperRegistered.{entry_is}
use Rattle.run_rules.proofs.WholeHelperRows.{answers_same}
use Rattle.run_rules.proofs.WriteHelperCarried.{journal_length}
use Rattle.run_hiding.proofs.TwinKept as kept
use Rattle.run_hiding.proofs.TwinKept.{Arrives, Ignores, Repeats, arrives_so, fewer, kept_later, kept_now}

-- a helper kept what it had, or one more reply
pub record Stays (h after : Helper) : Type 0 where
  pub number : after.carried ≡ h.carried
  pub replies : after.replies ≡ h.replies

pub record Keeps (h after : Helper) (bytes : List ℕ) : Type 0 where
  pub number : after.carried ≡ h.carried + 1
  pub replies : after.replies ≡ last h.server.settings.window (h.replies ++ bytes ∷ [])

abbrev pub Goes : Helper → Helper → Type 0
Goes h after = Stays h after ⊎ ((bytes : List ℕ) × Keeps h after bytes)

-- a letter that answers a command is the kept reply
pub record Answers (after : Helper) (n : ℕ) (l : Letter) : Type 0 where
  pub bytes : l.bytes ≡ kept_for after n
  pub old : n ≤ after.carried
  pub few : after.carried + 1 ≤ n + length after.replies

module _ (f : FrameWorld) (l : Letter) (to : l.to ≡ ToHelperLink) (room : 0 < f.helper.server.settings.window) where
  abbrev h : Helper
  h = f.helper

  abbrev next : FrameWorld
  next = frames.comes f l.to l.bytes

  abbrev order : Option PlainFrame
  order = linked is_command h.server.settings.width l.bytes

  next_is : next ≡ frames.to_helper_link f order (on_link_bytes h l.bytes)
  unfolding frames.comes
  next_is = rw to refl

  pub helper_after : next.helper ≡ (on_link_bytes h l.bytes).helper
  helper_after = ap (λ (w : FrameWorld). w.helper) next_is ∙ answers_same _ order (on_link_bytes h l.bytes).answer

  pub goes : Goes h next.helper
  unfolding if_command
  goes = subst (Goes h) (sym helper_after) (by_order order)
    where
      by_order : (o : Option PlainFrame) → Goes h (if_command h o).helper
      by_order None = inl (record { number = refl; replies = refl })
      by_order (Some y) = elim (arrives_so h y) [
        | inl carried ↦ inr (spelling carried.reply, record { number = carried.number; replies = carried.kept })
        | inr (inl again) ↦ inl (record { number = ap (λ (h : Helper). h.carried) again.same; replies = ap (λ (h : Helper). h.replies) again.same })
        | inr (inr none) ↦ inl (record { number = ap (λ (h : Helper). h.carried) none.same; replies = ap (λ (h : Helper). h.replies) none.same })
      ]

  small : (bytes : List ℕ) → length (h.replies ++ bytes ∷ []) - h.server.settings.window ≤ length h.replies
  small bytes = let n = length-append h.replies (bytes ∷ []) in omega (arith, n, room)

  pub answered : (n : ℕ) → ((y : PlainFrame) → order ≡ Some y → y.link ≡ n) → (i : ℕ) (m : Letter) → length f.pool ≤ i → slice_get next.pool i ≡ Some m
      → Answers next.helper n m
  unfolding if_command frames.helper_answers
  answered n links i m high is =
      subst (λ (k : Helper). Answers k n m) (sym helper_after) (by_order order refl (ap (λ (w : FrameWorld). slice_get w.pool i) (sym next_is) ∙ is))
    where
      never : slice_get f.pool i ≡ Some m → ⊥
      never e = let low = slice_get_within f.pool i m e in omega (arith, low, high)

      one_new : (bytes : List ℕ) → slice_get (f.pool ++ letter ToLeaderLink bytes ∷ []) i ≡ Some m → m.bytes ≡ bytes
      one_new bytes e = elim (get_more f.pool (letter ToLeaderLink bytes) i m e) [
        | inl old ↦ absurd (never old.1)
        | inr new ↦ ap (λ (l : Letter). l.bytes) (sym new.1)
      ]

      by_answer : (y : PlainFrame) → y.link ≡ n → (turn : helper.LinkTurn) → Arrives h y turn
          → slice_get (frames.helper_answers (record f { helper = turn.helper }) (Some y) turn.answer).pool i ≡ Some m → Answers turn.helper n m
      by_answer y link turn (inl c) e =
          let bytes = one_new (spelling c.reply) (ap (λ a. slice_get (frames.helper_answers (record f { helper = turn.helper }) (Some y) a).pool i) (sym c.says) ∙ e) in
          let number = c.number in
          let same : n ≡ h.carried + 1 = sym link ∙ c.next in
          let count = kept.count h turn.helper (spelling c.reply) c.kept c.number in
          let few = small (spelling c.reply) in
          record {
            bytes = bytes ∙ sym (ap (kept_for turn.helper) same ∙ kept_now h turn.helper (spelling c.reply) c.kept c.number few);
            old = omega (arith, same, number);
            few = omega (arith, same, number, count, few);
          }
      by_answer y link turn (inr (inl r)) e =
          let bytes = one_new (kept_for h y.link) (ap (λ a. slice_get (frames.helper_answers (record f { helper = turn.helper }) (Some y) a).pool i) (sym r.says) ∙ e) in
          subst (λ (k : Helper). Answers k n m) (sym r.same)
          (record {
            bytes = bytes ∙ ap (kept_for h) link;
            old = let low = r.old in omega (arith, low, link);
            few = let low = r.few in omega (arith, low, link);
          })
      by_answer y link turn (inr (inr none)) e =
          absurd (never (ap (λ a. slice_get (frames.helper_answers (record f { helper = turn.helper }) (Some y) a).pool i) (sym none.says) ∙ e))

      by_order : (o : Option PlainFrame) → order ≡ o → slice_get (frames.to_helper_link f o (if_command h o)).pool i ≡ Some m → Answers (if_command h o).helper n m
      by_order None e is = absurd (never is)
      by_order (Some y) e is = by_answer y (links y e) (arrives h y) (arrives_so h y) is

-- ---- the reply to a foreign command that is carried out is a frame

first_of : (b : Book) (i : ℕ) (x : Line) (y : PlainFrame) → ForeignOrder b i x y.body → IsFrame y → 1 ≤ y.serial
first_of b i x y order fr = by_body y.body order fr.addressed
  where
    by_body : (body : PlainBody) → ForeignOrder b i x body → IsAddressed body y.lane y.serial → 1 ≤ y.serial
    by_body (frame.LinkRegister address) h k = k
    by_body (frame.LinkBegin drawn part) h k = k
    by_body (frame.LinkAudit sigma opened) h k = k
    by_body (frame.LinkSettle closing) h k = k
    by_body (frame.LinkRead n) h k = k
    by_body (frame.LinkRetire n) h k = k
    by_body body h k = absurd h

module _ (b : Book) (f : FrameWorld) (v w : World) (n i : ℕ) (x : Line) (l : Letter) (known : Known b v w) (follows : Follows b f w)
    (foreign : b.foreign x.lane ≡ true) (at : slice_get w.pool i ≡ Some (token.Ordered n x)) (link : IsForeignLink b l ToHelperLink n x (token.Ordered n x))
    (after : Known b v (comes (λ m. act_of f (token.Ordered n x) l) w (token.Ordered n x)))
    (y : PlainFrame) (read : linked is_command f.helper.server.settings.width l.bytes ≡ Some y) (same : y ≡ link.frame)
    (c : kept.Carries f.helper y (arrives f.helper y).helper (arrives f.helper y).answer) where
  abbrev o : Oracle
  o = λ m. act_of f (token.Ordered n x) l

  number : n ≡ w.carried + 1
  number = sym link.link ∙ ap (λ (y : PlainFrame). y.link) (sym same) ∙ c.next ∙ ap (λ k. k + 1) follows.helper.number

  abbrev body : PlainBody
  body = link.frame.body

  y_is : y ≡ record { lane = x.lane; serial = x.serial; link = w.carried + 1; body = body }
  y_is =
      let lane = link.lane in
      let serial = link.serial in
      let num = link.link ∙ number in
      same ∙ (λ i. record { lane = lane i; serial = serial i; link = num i; body = body })

  c_says : (if_command f.helper (Some y)).answer ≡ helper.Carried c.reply
  unfolding if_command
  c_says = c.says

  abbrev act_at : Option PlainFrame → helper.Answer → Act
  act_at found answer = carried_act (helper_rows.bare (helper.row_at (on_link_bytes f.helper l.bytes).helper.server x.lane)) found answer

  does_is : (o w.moment).does ≡ does_after y.body c.reply.body
  does_is =
      ap (λ found. (act_at found (if_command f.helper found).answer).does) read ∙ ap (λ a. (act_at (Some y) a).does) c_says

  journal_is : (comes o w (token.Ordered n x)).journal ≡ w.journal ++ entry x (o w.moment).does ∷ []
  unfolding carries_next
  journal_is =
      let honest : w.foreign x.lane ≡ true = ap (λ g. g x.lane) follows.foreign ∙ foreign in
      ap (λ (u : World). u.journal) (comes_next o w n x number) ∙ ap (λ t. (cond t (carries (acted w) x (o w.moment).row (o w.moment).does) (carries w x (carried_row x) (asked_operation w x))).journal) honest

  entered : slice_get b.entries w.carried ≡ Some (entry x (does_after y.body c.reply.body))
  entered =
      let count = journal_length w known.lawful in
      let more : w.journal ++ entry x (o w.moment).does ∷ [] ≡ take (w.carried + 1) b.entries =
      sym journal_is ∙ after.within.journal ∙ ap (λ (es : List Entry). take (length es) b.entries) journal_is
      ∙ ap (λ m. take m b.entries) (length-append w.journal (entry x (o w.moment).does ∷ []) ∙ ap (λ m. m + 1) count) in
      entry_is b w x (o w.moment).does count more ∙ ap (λ d. Some (entry x d)) does_is

  pub reply_is_frame : IsFrame c.reply
  reply_is_frame =
      let fr = link.spelled.is_frame in
      let next = (known.lawful.coherent.pool i (token.Ordered n x) at).1 in
      let place = next.next in
      let due : slice_get w.commands w.carried ≡ Some x = subst (λ i. slice_get w.commands i ≡ Some x) (omega (arith, number, place)) next.is in
      let lane = fr.lane in
      let serial = fr.serial in
      let num = fr.link in
      let c_lane = link.lane in
      let c_serial = link.serial in
      let c_link = link.link in
      let first = first_of b (n - 1) x link.frame link.body fr in
      let orders : Orders b f w x = record {
        follows = follows;
        lane = omega (arith, lane, c_lane);
        serial = omega (arith, serial, c_serial);
        first = omega (arith, first, c_serial);
        number = omega (arith, num, c_link, number);
      } in
      let at : n - 1 ≡ w.carried = omega (arith, number) in
      let ordered : ForeignOrder b w.carried x body = subst (λ i. ForeignOrder b i x body) at link.body in
      let made = carried_made b f v w x known foreign orders due body ordered in
      let is : y ≡ record { lane = x.lane; serial = x.serial; link = w.carried + 1; body = body } = y_is in
      let told : slice_get b.entries w.carried ≡ Some (entry x (does_after body (carries_out f.helper.server (record { lane = x.lane; serial = x.serial; link = w.carried + 1; body = body })).body)) =
      entered ∙ ap (λ (r : PlainFrame). Some (entry x (does_after y.body r.body))) c.is ∙ ap (λ (y : PlainFrame). Some (entry x (does_after y.body (carries_out f.helper.server y).body))) is in
      subst IsFrame (sym (c.is ∙ ap (λ (y : PlainFrame). on_link y y.link (carries_out f.helper.server y).body) is)) (made told).is_frame
