-- Sights stay under the move, and the opposite move leads back.
use Rattle.std.proofs.Common.{◌≡◌, ◌∙◌, ◌<◌, ◌-◌, ℕ, true, false, cond, List, [], ◌∷◌, Option, Some, None, slice_get, slice_index_or, refl, sym, ap, ap₂, subst, arith, inl, inr}
use Rattle.std.specs.Option.{option_map}
use Rattle.std.proofs.lemmas.Bool.{cases_Bool}
use Rattle.std.proofs.lemmas.Option.{slice_get-map}
use Rattle.express_words.specs.Bytes.{xor_bytes}
use Rattle.frame_rules.specs.declared.frame.DepositBody.TheVariants as deposit
use Rattle.frame_rules.specs.Frames as frame
use Rattle.frame_rules.specs.Frames.{PlainBody, PlainFrame}
use Rattle.mailbox_rules.specs.Requests.{Request, Begins, Command, Registers, Audits, Settles, Reads, Retires, Entry, Line, Operation, AddBox, BeginWrite, AuditWrite, SettleWrite, ReadBox, RetireBox, Refuse}
use Rattle.mailbox_rules.specs.Tables.{Result, Registered, Taken, Full, Began, WasAudited, Settled, Gave, NoBox, Refused, result_outline, results_after}
use Rattle.mailbox_rules.specs.Laws.{AtSettle, AtSettles}
use Rattle.mailbox_rules.proofs.Folds.{results_stand}
use Rattle.mailbox_rules.proofs.Outlines.{result_outlines_agree}
use Rattle.mailbox_rules.specs.Owned.{own_below}
use Rattle.token_rules.specs.Tokens as token
use Rattle.token_rules.specs.Tokens.{Token}
use Rattle.write_hiding.specs.Choices.{PlainChoice, IsAim, IsChoice, IsGame}
use Rattle.write_hiding.specs.Views.{view}
use Rattle.write_hiding.specs.Moved.{moved}
use Rattle.write_hiding.proofs.HidingLemmas.{choices_stay, views_stay, moves_return}
use Rattle.run_rules.specs.Book.{Book, all_boxes, box_of, place, request_of, leaders_draw}
use Rattle.run_rules.specs.Values.{sigma_at}
use Rattle.run_rules.specs.Frames.{command_body, from_client, frame_with, reply_with}
use Rattle.run_rules.specs.Follows.{given_in}
use Rattle.run_rules.proofs.PlainAccepted.{places_differ}
use Rattle.run_rules.proofs.WriteLeaderRanges.{sigma_is_small}
use Rattle.run_hiding.specs.Ideal.{Ideal, IsIdeal, aim_at, game_at, writes}
use Rattle.run_hiding.specs.Sight.{closed_in, command_in, deposit_in, given_at, given_by, on_link, opened_in, others_shares, others_writes, part_in, proof_in, reply_by, reply_in, result_in, seen_at, sight_of, submission_in}
use Rattle.run_hiding.specs.Moved.{OtherAims, run_moved, with_choices, with_sent}
use Rattle.run_hiding.specs.Laws.{IdealsStay, RunsReturn, SightsStay}
use Rattle.run_hiding.proofs.Aims.{choose, false_branch, true_branch, quiet, same_address, same_kind, same_own}
use Rattle.run_hiding.proofs.Quiet.{same_accepted, same_closing, same_deposit, same_game, same_opened, same_part, same_proof, same_submission}
use Rattle.run_hiding.proofs.Histories.{history_stays}
use Rattle.run_hiding.proofs.Widths.{given_width}
use Rattle.run_hiding.proofs.Bytes.{length_moved, masked, unmasked}

-- functions that are one at each value are one
pub same_function : {X Y : Type 0} (f g : X → Y) → ((x : X) → f x ≡ g x) → f ≡ g
same_function f g h = λ i. λ x. h x i

-- what holds of every write holds at a journal's settles
pub settled : (P : ℕ → ℕ → Type 0) → ((c s : ℕ) → P c s) → (entries : List Entry) → AtSettles P entries
settled P h [] = tt
settled P h (e ∷ entries) = (by_what e.line e.does, settled P h entries)
  where
    by_what : (x : Line) (does : Operation) → AtSettle P x does
    by_what x (AddBox a) = tt
    by_what x BeginWrite = tt
    by_what x AuditWrite = tt
    by_what x SettleWrite = h x.lane x.serial
    by_what x (ReadBox n) = tt
    by_what x (RetireBox n) = tt
    by_what x Refuse = tt

-- a reply, by its result but for the bytes, and the masked bytes
reply_parts : ℕ → Ideal → ℕ → Line → Result → List ℕ → PlainBody
reply_parts viewer h i x WasAudited bytes = reply_in viewer h i x WasAudited
reply_parts viewer h i x (Gave n more) bytes = frame.LinkReply (frame.ReplyMasked bytes)
reply_parts viewer h i x result bytes = reply_with h.book i x result

in_parts : (viewer : ℕ) (h : Ideal) (i : ℕ) (x : Line) (r : Result)
    → reply_in viewer h i x r ≡ reply_parts viewer h i x (result_outline r) (xor_bytes (given_in r) (h.mask i))
unfolding reply_in reply_parts
in_parts viewer h i x (Registered n) = refl
in_parts viewer h i x (Taken n) = refl
in_parts viewer h i x (Full n) = refl
in_parts viewer h i x (Began n) = refl
in_parts viewer h i x WasAudited = refl
in_parts viewer h i x (Settled t) = refl
in_parts viewer h i x (Gave n bytes) = refl
in_parts viewer h i x (NoBox n) = refl
in_parts viewer h i x Refused = refl

module _ (viewer : ℕ) (h : Ideal) (sent : ℕ → List Request) (low : viewer < 2) (ideal : IsIdeal h) (other : OtherAims h.book sent) where
  abbrev b : Book
  b = h.book

  abbrev d : Book
  d = with_sent b sent

  abbrev gone : Ideal
  gone = with_choices viewer h sent

  abbrev width : ℕ
  width = b.settings.width

  -- ---- a write

  fair : (c s : ℕ) → IsGame (game_at b c s)
  fair c s = record { distinct = places_differ b ideal.history (place b c s Begins); sigma = sigma_is_small b c s }

  abbrev made : ℕ → ℕ → PlainChoice
  made c s = moved viewer (h.choice c s) (aim_at b c s) (aim_at d c s) (game_at b c s)

  made_is : (c s : ℕ) → writes b c s ≡ true → gone.choice c s ≡ made c s
  made_is c s w = true_branch (writes b c s) (made c s) (h.choice c s) w

  aimed : (c s : ℕ) → writes b c s ≡ true → IsAim width (game_at b c s) (aim_at d c s)
  aimed c s w = subst (λ g. IsAim width g (aim_at d c s)) (same_game b sent c s) (other.aims c s (same_kind b sent other c s ∙ w))

  seen : (c s : ℕ) → writes b c s ≡ true → seen_at viewer gone c s ≡ seen_at viewer h c s
  seen c s w =
      ap₂ (λ k g. view viewer k (aim_at d c s) g) (made_is c s w) (same_game b sent c s)
      ∙ views_stay width viewer (h.choice c s) (aim_at b c s) (aim_at d c s) (game_at b c s) low (fair c s) (ideal.choices c s w) (ideal.aims c s w) (aimed c s w)

  good : (c s : ℕ) → writes d c s ≡ true → IsChoice width (gone.choice c s)
  good c s v =
      let w = sym (same_kind b sent other c s) ∙ v in
      subst (λ k. IsChoice width k) (sym (made_is c s w))
      (choices_stay width viewer (h.choice c s) (aim_at b c s) (aim_at d c s) (game_at b c s) low (fair c s) (ideal.choices c s w) (ideal.aims c s w) (aimed c s w))

  gone_ideal : IsIdeal gone
  gone_ideal = record { history = history_stays b sent ideal.history other; aims = other.aims; choices = good; masks = ideal.masks }

  -- ---- what is of a write or as it was

  still : (c s : ℕ) → writes b c s ≡ false → request_of d c s ≡ request_of b c s
  still c s n = quiet b sent other c s n

  either : {X : Type 0} (c s : ℕ) (x' y' x y : X) → (writes b c s ≡ true → x' ≡ x) → (writes b c s ≡ false → y' ≡ y)
      → cond (writes d c s) x' y' ≡ cond (writes b c s) x y
  either c s x' y' x y f g = choose (writes d c s) (writes b c s) x' y' x y (same_kind b sent other c s) f g

  part_stays : (c s : ℕ) → part_in viewer gone c s ≡ part_in viewer h c s
  part_stays c s = either c s _ _ _ _ (λ w. ap (λ v. v.public) (seen c s w)) (λ n. same_part b sent c s (still c s n))

  opened_stays : (c s : ℕ) → opened_in viewer gone c s ≡ opened_in viewer h c s
  opened_stays c s = either c s _ _ _ _ (λ w. ap (λ v. v.opened) (seen c s w)) (λ n. same_opened b sent c s (still c s n) (1 - viewer))

  closed_stays : (c s : ℕ) → closed_in viewer gone c s ≡ closed_in viewer h c s
  closed_stays c s = either c s _ _ _ _ (λ w. ap (λ v. v.closed) (seen c s w)) (λ n. same_closing b sent c s (still c s n) (1 - viewer))

  deposit_stays : (c s : ℕ) → deposit_in viewer gone c s ≡ deposit_in viewer h c s
  deposit_stays c s = either c s _ _ _ _ (λ w. ap (λ v. Some (frame.Deposit (deposit.Write v.own_root))) (seen c s w)) (λ n. same_deposit b sent c s (still c s n))

  submission_stays : (c s : ℕ) → submission_in viewer gone c s ≡ submission_in viewer h c s
  submission_stays c s = either c s _ _ _ _ (λ w. ap (λ v. Some (frame.Write v.own_root v.public)) (seen c s w)) (λ n. same_submission b sent c s (still c s n))

  proof_stays : (c s : ℕ) → proof_in viewer gone c s ≡ proof_in viewer h c s
  proof_stays c s = either c s _ _ _ _ (λ w. ap (λ v. Some (frame.Proof v.proof)) (seen c s w)) (λ n. same_proof b sent c s (still c s n) viewer)

  command_stays : (i : ℕ) (x : Line) (command : Command) → command_in viewer gone i x command ≡ command_in viewer h i x command
  unfolding command_in command_body box_of sigma_at place
  command_stays i x Begins = ap (λ part. frame.LinkBegin (leaders_draw b i) part) (part_stays x.lane x.serial)
  command_stays i x Audits = ap (λ o. frame.LinkAudit (sigma_at b x.lane x.serial) o) (opened_stays x.lane x.serial)
  command_stays i x Settles = ap (λ k. frame.LinkSettle k) (closed_stays x.lane x.serial)
  command_stays i x Registers = ap (λ a. frame.LinkRegister a) (same_address b sent other x.lane x.serial)
  command_stays i x Reads = ap (λ own. frame.LinkRead (slice_index_or (own_below x.lane x.serial 0 (all_boxes b)) own 0)) (same_own b sent other x.lane x.serial)
  command_stays i x Retires = ap (λ own. frame.LinkRetire (slice_index_or (own_below x.lane x.serial 0 (all_boxes b)) own 0)) (same_own b sent other x.lane x.serial)

  -- ---- the other server's shares

  accepts_stay : (c s : ℕ) → (others_writes viewer gone).accepts c s ≡ (others_writes viewer h).accepts c s
  accepts_stay c s = either c s _ _ _ _ (λ w. refl) (λ n. same_accepted b sent c s (still c s n))

  outlines : (i : ℕ) (e : Entry) → slice_get b.entries i ≡ Some e
      → result_outline (result_in viewer gone i e) ≡ result_outline (result_in viewer h i e)
  unfolding result_in others_shares
  outlines i e is =
      let limit = b.settings.boxes in
      let mine = others_writes viewer h in
      let theirs = others_writes viewer gone in
      let outline = λ (r : Result). result_outline r in
      let all = result_outlines_agree limit width width mine theirs b.entries
      (settled (λ c s. theirs.accepts c s ≡ mine.accepts c s) accepts_stay b.entries) in
      let one : Some (outline (result_in viewer gone i e)) ≡ Some (outline (result_in viewer h i e)) =
      sym (slice_get-map outline (results_after limit width theirs b.entries) i ∙ ap (option_map outline) (results_stand limit width theirs b.entries i e is))
      ∙ ap (λ rs. slice_get rs i) all
      ∙ slice_get-map outline (results_after limit width mine b.entries) i ∙ ap (option_map outline) (results_stand limit width mine b.entries i e is) in
      cc one

  masks_stay : (i : ℕ) (e : Entry) → slice_get b.entries i ≡ Some e
      → xor_bytes (given_in (result_in viewer gone i e)) (xor_bytes (h.mask i) (xor_bytes (given_at viewer h i) (given_at viewer gone i)))
      ≡ xor_bytes (given_in (result_in viewer h i e)) (h.mask i)
  masks_stay i e is =
      let size = ideal.masks i in
      let one = given_width viewer h ideal i in
      let two = given_width viewer gone gone_ideal i in
      ap₂ (λ x y. xor_bytes x y) (ap (given_by viewer gone i) (sym is)) refl
      ∙ masked (given_at viewer h i) (given_at viewer gone i) (h.mask i) (omega (arith, size, one)) (omega (arith, size, two))
      ∙ ap (λ x. xor_bytes x (h.mask i)) (ap (given_by viewer h i) is)

  reply_stays : (i : ℕ) (x : Line) (r : Result) (bytes : List ℕ)
      → reply_parts viewer (run_moved viewer h sent) i x r bytes ≡ reply_parts viewer h i x r bytes
  unfolding reply_parts reply_in reply_with run_moved
  reply_stays i x (Registered n) bytes = refl
  reply_stays i x (Taken n) bytes = refl
  reply_stays i x (Full n) bytes = refl
  reply_stays i x (Began n) bytes = refl
  reply_stays i x WasAudited bytes =
      ap₂ (λ o k. frame.LinkReply (frame.ReplyAudited o k)) (opened_stays x.lane x.serial) (closed_stays x.lane x.serial)
  reply_stays i x (Settled true) bytes = refl
  reply_stays i x (Settled false) bytes = refl
  reply_stays i x (Gave n more) bytes = refl
  reply_stays i x (NoBox n) bytes = refl
  reply_stays i x Refused bytes = refl

  replies_stay : (i : ℕ) (o : Option Entry) → slice_get b.entries i ≡ o
      → reply_by viewer (run_moved viewer h sent) i o ≡ reply_by viewer h i o
  unfolding run_moved result_in others_shares
  replies_stay i None is = refl
  replies_stay i (Some e) is =
      ap (λ x. Some x)
      (in_parts viewer (run_moved viewer h sent) i e.line (result_in viewer gone i e)
      ∙ ap₂ (λ r bytes. reply_parts viewer (run_moved viewer h sent) i e.line r bytes) (outlines i e is) (masks_stay i e is)
      ∙ reply_stays i e.line (result_outline (result_in viewer h i e)) (xor_bytes (given_in (result_in viewer h i e)) (h.mask i))
      ∙ sym (in_parts viewer h i e.line (result_in viewer h i e)))

  -- ---- all frames

  pub same_sight : (t : Token) → sight_of viewer (run_moved viewer h sent) t ≡ sight_of viewer h t
  unfolding sight_of run_moved command_in
  same_sight (token.Deposit c s) = ap (from_client c s) (deposit_stays c s)
  same_sight (token.Submission c s command) = ap (from_client c s) (submission_stays c s)
  same_sight (token.ProofToHelper c s) = ap (from_client c s) (proof_stays c s)
  same_sight (token.ProofToLeader c s) = ap (from_client c s) (proof_stays c s)
  same_sight (token.Ordered n x) = ap (λ body. Some (frame_with x.lane x.serial n body)) (command_stays (n - 1) x x.command)
  same_sight (token.Replied n x) = ap (on_link n x) (replies_stay (n - 1) (slice_get b.entries (n - 1)) refl)
  same_sight (token.HeldDeposit c s) = refl
  same_sight (token.HeldProof c s) = refl
  same_sight (token.Challenge c s) = refl
  same_sight (token.Answer c s) = refl
  same_sight (token.Later c s) = refl
  same_sight (token.Injected to_leader lane) = refl
  same_sight (token.Foreign c) = refl

  pub ideal_stays : IsIdeal (run_moved viewer h sent)
  unfolding run_moved
  ideal_stays = record {
    history = gone_ideal.history;
    aims = gone_ideal.aims;
    choices = gone_ideal.choices;
    masks = λ i.
        let size = ideal.masks i in
        let one = given_width viewer h ideal i in
        let two = given_width viewer gone gone_ideal i in
        length_moved (given_at viewer h i) (given_at viewer gone i) (h.mask i) (omega (arith, size, one)) (omega (arith, size, two)) ∙ size;
  }

  -- ---- the way back

  abbrev back : Ideal
  back = with_choices viewer (run_moved viewer h sent) b.sent

  choice_back : (c s : ℕ) → back.choice c s ≡ h.choice c s
  unfolding run_moved
  choice_back c s = elim (cases_Bool (writes b c s)) [
    | inl w ↦
        true_branch (writes d c s) (moved viewer (gone.choice c s) (aim_at d c s) (aim_at b c s) (game_at d c s)) (gone.choice c s) (same_kind b sent other c s ∙ w)
        ∙ ap₂ (λ k g. moved viewer k (aim_at d c s) (aim_at b c s) g) (made_is c s w) (same_game b sent c s)
        ∙ moves_return width viewer (h.choice c s) (aim_at b c s) (aim_at d c s) (game_at b c s) low (fair c s) (ideal.choices c s w) (ideal.aims c s w) (aimed c s w)
    | inr n ↦
        false_branch (writes d c s) (moved viewer (gone.choice c s) (aim_at d c s) (aim_at b c s) (game_at d c s)) (gone.choice c s) (same_kind b sent other c s ∙ n)
        ∙ false_branch (writes b c s) (made c s) (h.choice c s) n
  ]

  choices_back : back.choice ≡ h.choice
  choices_back = same_function back.choice h.choice (λ c. same_function (back.choice c) (h.choice c) (λ s. choice_back c s))

  given_back : (i : ℕ) → given_at viewer back i ≡ given_at viewer h i
  unfolding run_moved result_in others_shares
  given_back i = ap (λ k. given_at viewer (record { book = b; choice = k; mask = h.mask }) i) choices_back

  mask_back : (i : ℕ) → (run_moved viewer (run_moved viewer h sent) b.sent).mask i ≡ h.mask i
  unfolding run_moved result_in others_shares
  mask_back i =
      let size = ideal.masks i in
      let one = given_width viewer h ideal i in
      let two = given_width viewer gone gone_ideal i in
      ap (λ z. xor_bytes (xor_bytes (h.mask i) (xor_bytes (given_at viewer h i) (given_at viewer gone i))) (xor_bytes (given_at viewer gone i) z)) (given_back i)
      ∙ unmasked (given_at viewer h i) (given_at viewer gone i) (h.mask i) (omega (arith, size, one)) (omega (arith, size, two))

  pub returned : run_moved viewer (run_moved viewer h sent) b.sent ≡ h
  unfolding run_moved result_in others_shares
  returned = ap₂ (λ k m. record { book = b; choice = k; mask = m }) choices_back (same_function (run_moved viewer (run_moved viewer h sent) b.sent).mask h.mask mask_back)

pub sights_stay : SightsStay
sights_stay viewer h sent low ideal other t = same_sight viewer h sent low ideal other t

pub ideals_stay : IdealsStay
ideals_stay viewer h sent low ideal other = ideal_stays viewer h sent low ideal other

pub moves_return_run : RunsReturn
moves_return_run viewer h sent low ideal other = returned viewer h sent low ideal other
