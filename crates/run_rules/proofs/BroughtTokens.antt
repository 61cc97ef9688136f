-- What a token that comes adds to the commands and to the journal of a token run.
use Rattle.std.proofs.Common.{◌≡◌, ◌+◌, ◌⊎◌, ℕ, nat_eq, nat_lt, ◌&&◌, true, false, Bool, List, [], ◌∷◌, ◌++◌, length, Option, Some, None, slice_get, refl, sym, ap, subst, ◌∙◌, inl, inr}
use Rattle.std.proofs.lemmas.Bool.{cond_both}
use Rattle.mailbox_rules.specs.Requests.{Request, Line, Entry, entry, Command, Audits, Settles}
use Rattle.token_rules.specs.Tokens.{Token, Deposit, Submission, ProofToHelper, ProofToLeader, Ordered, Replied, HeldDeposit, HeldProof, Challenge, Answer, Later, Injected, Foreign, Phase, World, Oracle}
use Rattle.token_rules.specs.Rows.{Arrival, Next, Kept, Passed, arrival_of, LeaderSays, LeaderNothing, LeaderLater, LeaderKept, LeaderIssues, ClientDoes, Stays, GoesOn, Finishes, ClientHears, client_does, reply_step}
use Rattle.token_rules.specs.Run.{with_leader, line_of, leader_says, carries_next, command_comes, acknowledges, acted, foreign_acks, has_settle, foreign_reply_comes, reply_applied, reply_comes, foreign_at_leader, foreign_frame_comes, injected_comes, is_full, notes, goes_on, is_refused, client_moves, client_hears, comes}
use Rattle.token_rules.proofs.Lists.{get_more}

-- the lines that a token has issued: of its own lane, or the settle of its audit
abbrev pub Issued : Oracle → World → Token → Line → Type 0
Issued o w (Submission c s y) x = x.lane ≡ c
Issued o w (ProofToLeader c s) x = x.lane ≡ c
Issued o w (Replied n y) x = (x.lane ≡ y.lane) × (w.foreign y.lane ≡ true → (x ≡ line_of y.lane y.serial Settles) × (y.command ≡ Audits))
Issued o w (Injected true (Some c)) x = (x.lane ≡ c) × ((y : Command) × ((o w.moment).issues ≡ Some y))
Issued o w t x = ⊥

-- the entry that a command's token leaves
abbrev pub Entered : Oracle → World → Token → Entry → Type 0
Entered o w (Ordered n x) e = (e.line ≡ x) × (w.foreign x.lane ≡ true → e.does ≡ (o w.moment).does)
Entered o w t e = ⊥

pub record Adds (P : Line → Type 0) (Q : Entry → Type 0) (w v : World) : Type 0 where
  pub commands : (k : ℕ) (x : Line) → slice_get v.commands k ≡ Some x → (slice_get w.commands k ≡ Some x) ⊎ P x
  pub entries : (k : ℕ) (e : Entry) → slice_get v.journal k ≡ Some e → (slice_get w.journal k ≡ Some e) ⊎ Q e

module _ (P : Line → Type 0) (Q : Entry → Type 0) (w : World) where
  abbrev To : World → Type 0
  To v = Adds P Q w v

  nothing : (v : World) → v.commands ≡ w.commands → v.journal ≡ w.journal → To v
  nothing v commands journal = record {
    commands = λ k x e. inl (ap (λ xs. slice_get xs k) (sym commands) ∙ e);
    entries = λ k x e. inl (ap (λ xs. slice_get xs k) (sym journal) ∙ e);
  }

  one_line : (v : World) (y : Line) → v.commands ≡ w.commands ++ y ∷ [] → v.journal ≡ w.journal → P y → To v
  one_line v y commands journal p = record {
    commands = λ k x e. elim (get_more w.commands y k x (ap (λ xs. slice_get xs k) (sym commands) ∙ e)) [
      | inl old ↦ inl old.1
      | inr new ↦ inr (subst P new.1 p)
    ];
    entries = λ k x e. inl (ap (λ xs. slice_get xs k) (sym journal) ∙ e);
  }

  one_entry : (v : World) (y : Entry) → v.commands ≡ w.commands → v.journal ≡ w.journal ++ y ∷ [] → Q y → To v
  one_entry v y commands journal q = record {
    commands = λ k x e. inl (ap (λ xs. slice_get xs k) (sym commands) ∙ e);
    entries = λ k x e. elim (get_more w.journal y k x (ap (λ xs. slice_get xs k) (sym journal) ∙ e)) [
      | inl old ↦ inl old.1
      | inr new ↦ inr (subst Q new.1 q)
    ];
  }

  said : (u : World) (c s : ℕ) (x : Phase) (says : LeaderSays) → u.commands ≡ w.commands → u.journal ≡ w.journal
      → ((y : Command) → P (line_of c s y)) → To (leader_says u c s x says)
  unfolding leader_says
  said u c s x LeaderNothing e f p = nothing _ e f
  said u c s x LeaderLater e f p = nothing _ e f
  said u c s x LeaderKept e f p = nothing _ e f
  said u c s x (LeaderIssues y) e f p = one_line _ (line_of c s y) (ap (λ xs. xs ++ line_of c s y ∷ []) e) f (p y)

  went_on : (u : World) (c : ℕ) (rs : List Request) → u.commands ≡ w.commands → u.journal ≡ w.journal → To (goes_on u c rs)
  unfolding goes_on
  went_on u c [] e f = nothing _ e f
  went_on u c (r ∷ rest) e f =
      cond_both {A = World} (is_refused u c r) _ _ To (λ t. went_on (notes u c _) c rest e f) (λ t. nothing _ e f)

  moved : (c s : ℕ) (does : ClientDoes) → To (client_moves w c s does)
  unfolding client_moves
  moved c s Stays = nothing _ refl refl
  moved c s GoesOn = nothing _ refl refl
  moved c s Finishes = went_on (notes w c _) c (w.requests c).waiting refl refl

  heard : (c s : ℕ) (h : ClientHears) → To (client_hears w c s h)
  unfolding client_hears
  heard c s h = cond_both {A = World} (nat_eq s (w.lanes c).serial) _ _ To (λ t. moved c s (client_does h (w.lanes c).step)) (λ t. nothing _ refl refl)

-- ---- each token

module _ (o : Oracle) (w : World) where
  abbrev For : Token → World → Type 0
  For t v = Adds (Issued o w t) (Entered o w t) w v

  ordered : (n : ℕ) (x : Line) (a : Arrival) → For (Ordered n x) (command_comes o w n x a)
  unfolding command_comes carries_next
  ordered n x Next = cond_both {A = World} (w.foreign x.lane) _ _ (For (Ordered n x))
      (λ t. one_entry _ _ w _ (entry x (o w.moment).does) refl refl (refl, λ t. refl))
      (λ t. one_entry _ _ w _ (entry x _) refl refl (refl, λ u. absurd (cc (t, u))))
  ordered n x Kept = nothing _ _ w _ refl refl
  ordered n x Passed = nothing _ _ w _ refl refl

  settle_of_audit : (x : Line) (settles : Bool) → has_settle x.command settles ≡ true → x.command ≡ Audits
  settle_of_audit x settles e = by_command x.command e
    where
      by_command : (y : Command) → has_settle y settles ≡ true → y ≡ Audits
      by_command Audits e = refl
      by_command y e = absurd (cc e)

  replied : (n : ℕ) (x : Line) → For (Replied n x) (reply_comes o w n x)
  unfolding reply_comes reply_applied foreign_reply_comes foreign_acks
  replied n x =
      cond_both {A = World} (nat_eq n (w.acknowledged + 1) && nat_lt w.acknowledged (length w.commands)) _ _ (For (Replied n x))
      (λ e. cond_both {A = World} (w.foreign x.lane) _ _ (For (Replied n x))
      (λ f. cond_both {A = World} (o w.moment).fits _ _ (For (Replied n x))
      (λ g. cond_both {A = World} (has_settle x.command (o w.moment).settles) _ _ (For (Replied n x))
      (λ i. one_line _ _ w _ (line_of x.lane x.serial Settles) refl refl (refl, λ t. (refl, settle_of_audit x (o w.moment).settles i)))
      (λ i. nothing _ _ w _ refl refl))
      (λ g. nothing _ _ w _ refl refl))
      (λ f. said _ _ w (with_leader (acknowledges w) x.lane (reply_step x.serial x.command).row) x.lane x.serial _ (reply_step x.serial x.command).says refl refl
      (λ y. (refl, λ t. absurd (cc (f, t))))))
      (λ e. nothing _ _ w _ refl refl)

  from_outside : (to_leader : Bool) (lane : Option ℕ) → For (Injected to_leader lane) (injected_comes o w to_leader lane)
  unfolding injected_comes foreign_frame_comes foreign_at_leader
  from_outside to_leader None = nothing _ _ w _ refl refl
  from_outside true (Some c) = cond_both {A = World} (w.foreign c) _ _ (For (Injected true (Some c)))
      (λ e. cond_both {A = World} (is_full (acted w)) _ _ (For (Injected true (Some c))) (λ f. nothing _ _ w _ refl refl) (λ f. by_issue (o w.moment).issues refl))
      (λ e. nothing _ _ w _ refl refl)
    where
      by_issue : (y : Option Command) → (o w.moment).issues ≡ y
          → For (Injected true (Some c)) (foreign_at_leader (acted w) c (o w.moment).row (o w.moment).says y)
      by_issue (Some y) is = one_line _ _ w _ (line_of c (o w.moment).row.serial y) refl refl (refl, (y, is))
      by_issue None is = nothing _ _ w _ refl refl
  from_outside false (Some c) = cond_both {A = World} (w.foreign c) _ _ (For (Injected false (Some c))) (λ e. nothing _ _ w _ refl refl) (λ e. nothing _ _ w _ refl refl)

  pub comes_adds : (t : Token) → For t (comes o w t)
  unfolding comes
  comes_adds (Deposit c s) = nothing _ _ w _ refl refl
  comes_adds (ProofToHelper c s) = nothing _ _ w _ refl refl
  comes_adds (Ordered n x) = ordered n x (arrival_of w.window w.carried n)
  comes_adds (Submission c s y) = said _ _ w (with_leader w c _) c s _ _ refl refl (λ y. refl)
  comes_adds (ProofToLeader c s) = said _ _ w (with_leader w c _) c s _ _ refl refl (λ y. refl)
  comes_adds (Replied n x) = replied n x
  comes_adds (HeldDeposit c s) = heard _ _ w c s _
  comes_adds (Challenge c s) = heard _ _ w c s _
  comes_adds (HeldProof c s) = heard _ _ w c s _
  comes_adds (Answer c s) = heard _ _ w c s _
  comes_adds (Later c s) = nothing _ _ w _ refl refl
  comes_adds (Injected to_leader lane) = from_outside to_leader lane
  comes_adds (Foreign c) = nothing _ _ w _ refl refl
