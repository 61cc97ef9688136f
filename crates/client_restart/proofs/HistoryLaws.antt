-- What holds of a client that remembers, whatever happens to it.
use Rattle.std.proofs.Common.{◌≡◌, ◌⊎◌, inl, inr, ◌<◌, ◌≤◌, ◌+◌, ◌-◌, ◌∙◌, ℕ, zero, suc, List, [], ◌∷◌, ◌++◌, drop, Bool, true, false, Option, Some, None, refl, sym, ap, subst, arith, append_assoc}
use Rattle.std.specs.Prelude.{if◌then◌else◌, nat_le, slice_get, length}
use Rattle.mailbox_rules.specs.Requests.{Request}
use Rattle.step_rules.specs.Client.{Client, Current, Fault, Owned, Step, Turn, Outcome, Progress, Ignored, Later, Next, Finished}
use Rattle.step_rules.specs.ClientAsks as asks
use Rattle.frame_rules.specs.Frames.{PlainBody}
use Rattle.step_rules.specs.ClientAsks.{Sent, asked_with, fault_at, owned_by, owning}
use Rattle.step_rules.specs.ClientReplies.{on_reply}
use Rattle.client_core.specs.GivingUp.{given_up, given_up_at}
use Rattle.client_restart.specs.declared.opening.ClientOpening.{ClientOpening}
use Rattle.client_restart.specs.declared.owned_box.OwnedBox.{OwnedBox}
use Rattle.client_restart.specs.Histories.{Happening, AreOfOne, noted_by, notes_of, after, told_by, told_in}
use Rattle.client_restart.specs.Notes.{Noted, Asked, Heard, Told, GivenUp, Owned as OwnedNote, Remark}
use Rattle.client_restart.specs.Steps.{CoreState, EndedRequest, client_or, ended, fold_from, opened, owned_with, step_of, untold_with}
use Rattle.client_restart.proofs.Turns.{Moves, Turns, owned_after}
use Rattle.client_restart.proofs.TurnLaws.{reply_turns}

-- ---- histories

pub notes-append : (h more : List Happening) → notes_of (h ++ more) ≡ notes_of h ++ notes_of more
notes-append [] more = refl
notes-append (x ∷ h) more = ap (λ (l : List Noted). noted_by x ++ l) (notes-append h more) ∙ sym (append_assoc (noted_by x) (notes_of h) (notes_of more))

pub fold-append : (k : CoreState) (xs ys : List Noted) → fold_from k (xs ++ ys) ≡ fold_from (fold_from k xs) ys
fold-append k [] ys = refl
fold-append k (x ∷ xs) ys = fold-append (step_of k x) xs ys

pub after-append : (o : ClientOpening) (h more : List Happening) → after o (h ++ more) ≡ fold_from (after o h) (notes_of more)
after-append o h more = ap (fold_from (opened o)) (notes-append h more) ∙ fold-append (opened o) (notes_of h) (notes_of more)

-- ---- what every note keeps

-- lane and seed stay, and the serial doesn't fall
pub record Goes (c d : Client) : Type 0 where
  pub lane : d.lane ≡ c.lane
  pub seed : d.seed ≡ c.seed
  pub serial : c.serial ≤ d.serial

goes_same : (c d : Client) → d ≡ c → Goes c d
goes_same c d is = record {
  lane = ap (λ (x : Client). x.lane) is;
  seed = ap (λ (x : Client). x.seed) is;
  serial = omega (arith, ap (λ (x : Client). x.serial) is);
}

goes_on : (c d e : Client) → Goes c d → Goes d e → Goes c e
goes_on c d e first second = record {
  lane = second.lane ∙ first.lane;
  seed = second.seed ∙ first.seed;
  serial = omega (arith, first.serial, second.serial);
}

goes_asked : (c : Client) (request : Request) (f : Option Fault) → Goes c (client_or c (asked_with c request f))
goes_asked c request None = record { lane = refl; seed = refl; serial = omega arith }
goes_asked c request (Some f) = record { lane = refl; seed = refl; serial = omega arith }

ask_goes : (c : Client) (request : Request) → Goes c (client_or c (asks.asked c request))
unfolding asks.asked
ask_goes c request = goes_asked c request (fault_at c request c.current)

goes_by : (c d : Client) (is : List Owned) (now : Option Current) (n : ℕ) → c.serial ≤ n → d ≡ record c { owned = is; current = now; serial = n } → Goes c d
goes_by c d is now n up e = record {
  lane = ap (λ (x : Client). x.lane) e;
  seed = ap (λ (x : Client). x.seed) e;
  serial = omega (arith, up, ap (λ (x : Client). x.serial) e);
}

move_goes : (c d : Client) (request : Request) (p : Progress) → Moves c request d p → Goes c d
move_goes c d request Ignored m = goes_same c d m
move_goes c d request (Later r) m = goes_same c d m
move_goes c d request Next m = goes_by c d c.owned _ c.serial (omega arith) m.1
move_goes c d request (Finished o) m = goes_by c d (owned_after c o) None (c.serial + 1) (omega arith) m

turn_goes : (c : Client) (now : Option Current) (t : Turn) → Turns c now t → Goes c t.client
turn_goes c None t turns = goes_same c t.client turns.0
turn_goes c (Some now) t turns = move_goes c t.client now.request t.progress turns

reply_goes : (c : Client) (bytes : List ℕ) → Goes c (on_reply c bytes).client
reply_goes c bytes = turn_goes c c.current (on_reply c bytes) (reply_turns c bytes)

give_up_at : (c : Client) (now : Option Current) → Goes c (given_up_at c now)
give_up_at c None = goes_same c c refl
give_up_at c (Some now) = record { lane = refl; seed = refl; serial = omega arith }

give_up_goes : (c : Client) → Goes c (given_up c)
unfolding given_up
give_up_goes c = give_up_at c c.current

own_if : (full : Bool) (k : CoreState) (b : OwnedBox) (now : Option Current) (c : Client) → Goes k.client c
    → Goes k.client (owned_with k b now (if full then None else Some c)).client
own_if true k b None c goes = goes_same k.client k.client refl
own_if true k b (Some now) c goes = goes_same k.client k.client refl
own_if false k b None c goes = goes
own_if false k b (Some now) c goes = goes_same k.client k.client refl

own_goes : (k : CoreState) (number serial : ℕ) → Goes k.client (step_of k (OwnedNote number serial)).client
unfolding owning
own_goes k number serial =
    own_if (nat_le k.client.capacity (length k.client.owned)) k (record { number = number; serial = serial }) k.client.current _
    (record { lane = refl; seed = refl; serial = omega arith })

step_goes : (k : CoreState) (n : Noted) → Goes k.client (step_of k n).client
step_goes k (Asked request) = ask_goes k.client request
step_goes k (Heard frame) = reply_goes k.client frame
step_goes k Told = goes_same k.client k.client refl
step_goes k GivenUp = give_up_goes k.client
step_goes k (OwnedNote number serial) = own_goes k number serial
step_goes k (Remark words) = goes_same k.client k.client refl

pub notes_go : (k : CoreState) (notes : List Noted) → Goes k.client (fold_from k notes).client
notes_go k [] = goes_same k.client k.client refl
notes_go k (n ∷ notes) = goes_on k.client (step_of k n).client (fold_from (step_of k n) notes).client (step_goes k n) (notes_go (step_of k n) notes)

pub happenings_go : (o : ClientOpening) (h more : List Happening) → Goes (after o h).client (after o (h ++ more)).client
happenings_go o h more =
    subst (λ (k : CoreState). Goes (after o h).client k.client) (sym (after-append o h more)) (notes_go (after o h) (notes_of more))

-- ---- one serial, one request

-- the serial is past, or the request is still that of the serial
abbrev pub Stays : ℕ → Request → Client → Type 0
Stays s request c = (s < c.serial) ⊎ ((c.serial ≡ s) × ((step : Step) × (c.current ≡ Some (record { request = request; step = step }))))

ask_busy : (c : Client) (request : Request) (now : Current) → c.current ≡ Some now → client_or c (asks.asked c request) ≡ c
unfolding asks.asked
ask_busy c request now e = ap (λ (x : Option Current). client_or c (asked_with c request (fault_at c request x))) e

own_busy : (k : CoreState) (number serial : ℕ) (now : Current) → k.client.current ≡ Some now → (step_of k (OwnedNote number serial)).client ≡ k.client
own_busy k number serial now e =
    ap (λ (x : Option Current). (owned_with k (record { number = number; serial = serial }) x (owning k.client number serial)).client) e

give_up_busy : (c : Client) (now : Current) → c.current ≡ Some now → (given_up c).serial ≡ c.serial + 1
unfolding given_up
give_up_busy c now e = ap (λ (x : Option Current). (given_up_at c x).serial) e

stays_moves : (s : ℕ) (c d : Client) (request : Request) (step : Step) (p : Progress) → Moves c request d p → c.serial ≡ s → c.current ≡ Some (record { request = request; step = step }) → Stays s request d
stays_moves s c d request step Ignored m at now = subst (Stays s request) (sym m) (inr (at, (step, now)))
stays_moves s c d request step (Later r) m at now = subst (Stays s request) (sym m) (inr (at, (step, now)))
stays_moves s c d request step Next m at now = inr (ap (λ (x : Client). x.serial) m.1 ∙ at, (m.0, ap (λ (x : Client). x.current) m.1))
stays_moves s c d request step (Finished o) m at now = inl (omega (arith, at, ap (λ (x : Client). x.serial) m))

stays_step : (s : ℕ) (k : CoreState) (n : Noted) (request : Request) (step : Step) → k.client.serial ≡ s → k.client.current ≡ Some (record { request = request; step = step })
    → Stays s request (step_of k n).client
stays_step s k (Asked other) request step at now = subst (Stays s request) (sym (ask_busy k.client other _ now)) (inr (at, (step, now)))
stays_step s k (Heard frame) request step at now =
    stays_moves s k.client (on_reply k.client frame).client request step (on_reply k.client frame).progress
    (subst (λ (x : Option Current). Turns k.client x (on_reply k.client frame)) now (reply_turns k.client frame)) at now
stays_step s k Told request step at now = inr (at, (step, now))
stays_step s k GivenUp request step at now = inl (omega (arith, at, give_up_busy k.client _ now))
stays_step s k (OwnedNote number serial) request step at now = subst (Stays s request) (sym (own_busy k number serial _ now)) (inr (at, (step, now)))
stays_step s k (Remark words) request step at now = inr (at, (step, now))

stays_on : (s : ℕ) (request : Request) (k : CoreState) (n : Noted) → Stays s request k.client → Stays s request (step_of k n).client
stays_on s request k n (inl past) = inl (omega (arith, past, (step_goes k n).serial))
stays_on s request k n (inr at) = stays_step s k n request at.1.0 at.0 at.1.1

stays_through : (s : ℕ) (request : Request) (k : CoreState) (notes : List Noted) → Stays s request k.client → Stays s request (fold_from k notes).client
stays_through s request k [] stays = stays
stays_through s request k (n ∷ notes) stays = stays_through s request (step_of k n) notes (stays_on s request k n stays)

of_one : (o : ClientOpening) (h more : List Happening) (x : Current) → (after o h).client.current ≡ Some x → (after o (h ++ more)).client.serial ≡ (after o h).client.serial
    → Stays (after o h).client.serial x.request (after o (h ++ more)).client → AreOfOne (after o h).client (after o (h ++ more)).client
of_one o h more x now same (inl past) = absurd (omega (arith, past, same))
of_one o h more x now same (inr at) = record {
  request = x.request;
  first = x.step;
  later = at.1.0;
  at_first = now;
  at_later = at.1.1;
  lane = (happenings_go o h more).lane;
  seed = (happenings_go o h more).seed;
}

sent_with_serial : (c : Client) (step : Step) (body : Option PlainBody) (s : Sent) → asks.sent_with c step body ≡ Some s → s.frame.serial ≡ c.serial
sent_with_serial c step None s e = absurd (cc e)
sent_with_serial c step (Some body) s e = let made : record { server = asks.server_of step; frame = record { lane = c.lane; serial = c.serial; link = 0; body = body } } ≡ s = cc in ap (λ (x : Sent). x.frame.serial) (sym made)

sent_current : (c : Client) (now : Option Current) (s : Sent) → asks.sent_at c now ≡ Some s → (s.frame.serial ≡ c.serial) × ((x : Current) × (now ≡ Some x))
sent_current c None s e = absurd (cc e)
sent_current c (Some x) s e = (sent_with_serial c x.step (asks.body_of c x.request x.step) s e, (x, refl))

sent_is : (c : Client) (s : Sent) → asks.sends c ≡ Some s → (s.frame.serial ≡ c.serial) × ((x : Current) × (c.current ≡ Some x))
unfolding asks.sends
sent_is c s e = sent_current c c.current s e

pub frames_are_one : (o : ClientOpening) (h more : List Happening) (s t : Sent) → asks.sends (after o h).client ≡ Some s → asks.sends (after o (h ++ more)).client ≡ Some t
    → t.frame.serial ≡ s.frame.serial → AreOfOne (after o h).client (after o (h ++ more)).client
frames_are_one o h more s t first second same =
    let a = sent_is (after o h).client s first in
    let b = sent_is (after o (h ++ more)).client t second in
    let serials : (after o (h ++ more)).client.serial ≡ (after o h).client.serial = sym b.0 ∙ same ∙ a.0 in
    let start : Stays (after o h).client.serial a.1.0.request (after o h).client = inr (refl, (a.1.0.step, a.1.1)) in
    let stays = subst (λ (k : CoreState). Stays (after o h).client.serial a.1.0.request k.client) (sym (after-append o h more))
    (stays_through (after o h).client.serial a.1.0.request (after o h) (notes_of more) start) in
    of_one o h more a.1.0 a.1.1 serials stays

-- ---- giving up

pub never_again : (o : ClientOpening) (h more : List Happening) (x : Happening) (now : Current) → (after o h).client.current ≡ Some now → noted_by x ≡ GivenUp ∷ []
    → (after o h).client.serial < (after o (h ++ x ∷ more)).client.serial
never_again o h more x now busy given =
    let k = after o h in
    let split : after o (h ++ x ∷ more) ≡ fold_from (step_of k GivenUp) (notes_of more) =
    after-append o h (x ∷ more) ∙ ap (λ (l : List Noted). fold_from k (l ++ notes_of more)) given in
    let up = give_up_busy k.client now busy in
    let rest = (notes_go (step_of k GivenUp) (notes_of more)).serial in
    omega (arith, up, rest, ap (λ (m : CoreState). m.client.serial) split)

-- ---- outcomes

behind : {X : Type 0} (xs ys : List X) (i : ℕ) (x : X) → slice_get xs i ≡ Some x → slice_get (xs ++ ys) i ≡ Some x
behind [] ys i x e = absurd (cc e)
behind (y ∷ xs) ys zero x e = e
behind (y ∷ xs) ys (suc i) x e = behind xs ys i x e

untold_behind : (k : List EndedRequest) (serial : ℕ) (now : Option Current) (p : Progress) (i : ℕ) (e : EndedRequest) → slice_get k i ≡ Some e → slice_get (untold_with k serial now p) i ≡ Some e
untold_behind k serial None p i e is = is
untold_behind k serial (Some now) (Finished o) i e is = behind k _ i e is
untold_behind k serial (Some now) Ignored i e is = is
untold_behind k serial (Some now) (Later r) i e is = is
untold_behind k serial (Some now) Next i e is = is

one_less : {X : Type 0} (xs : List X) (i : ℕ) (x : X) → slice_get xs i ≡ Some x → 1 ≤ i → slice_get (drop 1 xs) (i - 1) ≡ Some x
one_less [] i x e some = absurd (cc e)
one_less (y ∷ xs) zero x e some = absurd (omega arith)
one_less (y ∷ xs) (suc i) x e some = let same : suc i - 1 ≡ i = omega arith in rw same e

own_untold : (k : CoreState) (b : OwnedBox) (now : Option Current) (more : Option Client) → (owned_with k b now more).untold ≡ k.untold
own_untold k b None (Some c) = refl
own_untold k b None None = refl
own_untold k b (Some x) (Some c) = refl
own_untold k b (Some x) None = refl

whole : (xs : List EndedRequest) (i : ℕ) (e : EndedRequest) → slice_get xs i ≡ Some e → slice_get xs (i - 0) ≡ Some e
whole xs i e is = let same : i ≡ i - 0 = omega arith in subst (λ (j : ℕ). slice_get xs j ≡ Some e) same is

stands_step : (k : CoreState) (n : Noted) (i : ℕ) (e : EndedRequest) → slice_get k.untold i ≡ Some e → told_by n ≤ i → slice_get (step_of k n).untold (i - told_by n) ≡ Some e
stands_step k (Asked request) i e is few = whole k.untold i e is
stands_step k (Heard frame) i e is few = whole _ i e (untold_behind k.untold k.client.serial k.client.current (on_reply k.client frame).progress i e is)
stands_step k Told i e is few = one_less k.untold i e is few
stands_step k GivenUp i e is few = whole k.untold i e is
stands_step k (OwnedNote number serial) i e is few =
    whole _ i e
    (subst (λ (xs : List EndedRequest). slice_get xs i ≡ Some e)
    (sym (own_untold k (record { number = number; serial = serial }) k.client.current (owning k.client number serial))) is)
stands_step k (Remark words) i e is few = whole k.untold i e is

stands_through : (k : CoreState) (notes : List Noted) (i : ℕ) (e : EndedRequest) → slice_get k.untold i ≡ Some e → told_in notes ≤ i → slice_get (fold_from k notes).untold (i - told_in notes) ≡ Some e
stands_through k [] i e is few = whole k.untold i e is
stands_through k (n ∷ notes) i e is few =
    let here : told_by n ≤ i = omega arith in
    let rest : told_in notes ≤ i - told_by n = omega arith in
    let same : i - told_by n - told_in notes ≡ i - (told_by n + told_in notes) = omega arith in
    subst (λ (j : ℕ). slice_get (fold_from (step_of k n) notes).untold j ≡ Some e) same
    (stands_through (step_of k n) notes (i - told_by n) e (stands_step k n i e is here) rest)

pub outcome_stands : (o : ClientOpening) (h more : List Happening) (i : ℕ) (e : EndedRequest) → slice_get (after o h).untold i ≡ Some e → told_in (notes_of more) ≤ i
    → slice_get (after o (h ++ more)).untold (i - told_in (notes_of more)) ≡ Some e
outcome_stands o h more i e is few =
    subst (λ (k : CoreState). slice_get k.untold (i - told_in (notes_of more)) ≡ Some e) (sym (after-append o h more)) (stands_through (after o h) (notes_of more) i e is few)

pub outcome_ends : (o : ClientOpening) (h : List Happening) (x : Happening) (frame : List ℕ) (now : Current) (outcome : Outcome) → noted_by x ≡ Heard frame ∷ []
    → (after o h).client.current ≡ Some now → (on_reply (after o h).client frame).progress ≡ Finished outcome
    → (after o (h ++ x ∷ [])).untold ≡ (after o h).untold ++ ended (after o h).client.serial now outcome ∷ []
outcome_ends o h x frame now outcome noted busy finishes =
    let k = after o h in
    ap (λ (m : CoreState). m.untold) (after-append o h (x ∷ []))
    ∙ ap (λ (l : List Noted). (fold_from k (l ++ [])).untold) noted
    ∙ ap (λ (c : Option Current). untold_with k.untold k.client.serial c (on_reply k.client frame).progress) busy
    ∙ ap (λ (p : Progress). untold_with k.untold k.client.serial (Some now) p) finishes
