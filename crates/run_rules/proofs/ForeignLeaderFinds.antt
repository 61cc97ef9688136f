-- What the leader takes of a foreign frame is what the history says: the first that brings it.
use Rattle.std.proofs.Common.{◌≡◌, ℕ, suc, zero, cond, ◌&&◌, nat_lt, nat_eq, ◌<◌, ◌+◌, ◌^◌, true, false, Bool, All, List, [], ◌∷◌, ◌++◌, length, Option, Some, None, Ok, slice_get, refl, sym, ap, ◌∙◌, subst}
use Rattle.std.specs.List.{list_all}
use Rattle.std.proofs.lemmas.Bool.{and_from, and_parts, eqb-true, eq-eqb, lt-ltb}
use Rattle.std.proofs.lemmas.List.Elements.{All-head, All-tail}
use Rattle.express_words.specs.Limits.{levels_len}
use Rattle.express_words.specs.Ranges.{IsProofShare}
use Rattle.express_words.specs.declared.audit.ProofShare.{ProofShare}
use Rattle.frame_rules.specs.Frames as frame
use Rattle.frame_rules.specs.Frames.{PlainFrame, PlainBody}
use Rattle.frame_rules.specs.Spelling as spell
use Rattle.frame_rules.specs.Spelling.{spelling, IsFrame, IsBody}
use Rattle.frame_rules.specs.Whole.{whole, has_width}
use Rattle.mailbox_rules.specs.Requests.{Audits}
use Rattle.token_rules.specs.Tokens as token
use Rattle.token_rules.specs.Tokens.{World}
use Rattle.step_rules.specs.Leader as leader
use Rattle.step_rules.specs.Leader.{row_at}
use Rattle.step_rules.specs.LeaderClients as steps
use Rattle.run_rules.specs.Letters.{Letter, FrameWorld}
use Rattle.run_rules.specs.Book.{Book, Brought}
use Rattle.run_rules.specs.Follows.{Carries, Follows}
use Rattle.run_rules.specs.Known.{Known}
use Rattle.run_rules.specs.Acts.{AreTaken, IsTaken, Taken, address_in, brought_by, first_in, if_fits, if_here, is_share, is_word, key_in, leader_takes, number_in, or_else, part_in, root_in, share_in, taken_of, taken_in}
use Rattle.run_rules.proofs.Basics.{whole_spelled}
use Rattle.run_rules.proofs.ForeignLeaderTaken.{MayIssue, command_for, issued_for_frame}
use Rattle.run_rules.proofs.ForeignLeaderFirst.{HaveCommands, no_other, no_earlier}

-- ---- the first that brings it is found

pub first_found : {X : Type 0} (of : PlainBody → Option X) (server c s : ℕ) (default : X) (ts : List Taken) (t : Taken) (more : List Taken) (x : X)
    → ((i : ℕ) (u : Taken) → slice_get ts i ≡ Some u → if_here of server c s u ≡ None) → if_here of server c s t ≡ Some x
    → first_in (if_here of server c s) default ((ts ++ t ∷ []) ++ more) ≡ x
unfolding first_in
first_found of server c s default [] t more x none e = ap (λ found. or_else found (first_in (if_here of server c s) default more)) e
first_found of server c s default (u ∷ ts) t more x none e =
    ap (λ found. or_else found (first_in (if_here of server c s) default ((ts ++ t ∷ []) ++ more))) (none zero u refl)
    ∙ first_found of server c s default ts t more x (λ i. none (suc i)) e

pub brings_here : {X : Type 0} (of : PlainBody → Option X) (server : ℕ) (g : PlainFrame) (x : X) → of g.body ≡ Some x
    → if_here of server g.lane g.serial (record { server = server; frame = g }) ≡ Some x
brings_here of server g x e = rw (eq-eqb server server refl, eq-eqb g.lane g.lane refl, eq-eqb g.serial g.serial refl) e

pub absent : {X : Type 0} (of : PlainBody → Option X) (server c s : ℕ) (u : Taken)
    → (u.server ≡ server → u.frame.lane ≡ c → u.frame.serial ≡ s → of u.frame.body ≡ None) → if_here of server c s u ≡ None
absent of server c s u none = at_test (nat_eq u.server server && (nat_eq u.frame.lane c && nat_eq u.frame.serial s)) refl
  where
    at_test : (t : Bool) → (nat_eq u.server server && (nat_eq u.frame.lane c && nat_eq u.frame.serial s)) ≡ t → cond t (of u.frame.body) None ≡ None
    at_test false e = refl
    at_test true e =
        let p = and_parts _ _ e in
        let q = and_parts _ _ p.1 in
        none (eqb-true _ _ p.0) (eqb-true _ _ q.0) (eqb-true _ _ q.1)

-- ---- what fits

pub all_tested : (m : ℕ) (xs : List ℕ) → All (λ n. n < m) xs → list_all (λ n. nat_lt n m) xs ≡ true
all_tested m [] h = refl
all_tested m (x ∷ xs) h = and_from _ _ (lt-ltb _ _ (All-head (λ n. n < m) x xs h)) (all_tested m xs (All-tail (λ n. n < m) x xs h))

pub share_tested : (p : ProofShare) → IsProofShare p → is_share p ≡ true
share_tested p h =
    and_from _ _ (lt-ltb _ _ h.u) (and_from _ _ (lt-ltb _ _ h.v) (and_from _ _ (all_tested (2 ^ 128) p.h h.h) (and_from _ _ (eq-eqb _ _ h.size)
    (and_from _ _ (lt-ltb _ _ h.a) (and_from _ _ (lt-ltb _ _ h.b) (lt-ltb _ _ h.c))))))

pub fits : {X : Type 0} (t : Bool) (x : X) → t ≡ true → if_fits t x ≡ Some x
fits t x e = ap (λ t. if_fits t x) e

all_after : (m : ℕ) (xs ys : List ℕ) → All (λ n. n < m) (xs ++ ys) → All (λ n. n < m) ys
all_after m [] ys h = h
all_after m (x ∷ xs) ys h = all_after m xs ys (All-tail (λ n. n < m) x (xs ++ ys) h)

-- the public part of a frame of bytes is bytes
part_bytes : (g : PlainFrame) (root : ℕ) (part : List ℕ) → g.body ≡ frame.Write root part → All (λ n. n < 256) (spelling g) → All (λ n. n < 256) part
unfolding spelling
part_bytes g root part e h =
    let inner = all_after 256 (spell.header (spell.kind_of g.body) g.lane g.serial g.link (length (spell.body g.body))) (spell.body g.body) h in
    all_after 256 (spell.word root) part (subst (λ body. All (λ n. n < 256) (spell.body body)) e inner)

module _ (b : Book) (f : FrameWorld) (v w : World) (g command : PlainFrame) (n : ℕ) (bytes : List ℕ) (known : Known b v w) (h : Follows b f w)
    (foreign : b.foreign g.lane ≡ true) (read : whole bytes ≡ Ok g)
    (e : (steps.on_client f.leader bytes).answer ≡ leader.Link n command)
    (ts more : List Taken) (have : HaveCommands w.commands ts)
    (history : b.brought ≡ brought_by b.settings.width ((ts ++ record { server = 0; frame = g } ∷ []) ++ more)) where
  abbrev c : ℕ
  c = g.lane

  abbrev s : ℕ
  s = g.serial

  -- a submission is the first of its request's frames
  submitted : {X : Type 0} (of : PlainBody → Option X) → (row_at f.leader c).serial < s → (i : ℕ) (u : Taken) → slice_get ts i ≡ Some u → if_here of 0 c s u ≡ None
  submitted of small i u at =
      absent of 0 c s u (λ server lane serial. absurd (no_earlier b f v w g command n bytes known h foreign read e ts i u have at server lane serial small))

  shared : (share : ProofShare) → g.body ≡ frame.Proof share → (i : ℕ) (u : Taken) → slice_get ts i ≡ Some u → if_here share_in 0 c s u ≡ None
  shared share is i u at = absent share_in 0 c s u (λ server lane serial.
      of_body u.frame.body (λ kind. no_other b f v w g command n bytes known h foreign read e ts i u have at server lane serial (kind ∙ sym (ap command_for is))))
    where
      of_body : (body : PlainBody) → (command_for body ≡ Audits → ⊥) → share_in body ≡ None
      of_body (frame.Proof share) never = absurd (never refl)
      of_body body never = refl

  abbrev found : {X : Type 0} (of : PlainBody → Option X) (default x : X) → (((i : ℕ) (u : Taken) → slice_get ts i ≡ Some u → if_here of 0 c s u ≡ None)) → of g.body ≡ Some x
      → first_in (if_here of 0 c s) default ((ts ++ record { server = 0; frame = g } ∷ []) ++ more) ≡ x
  found of default x none is = first_found of 0 c s default ts (record { server = 0; frame = g }) more x none (brings_here of 0 g x is)

  is_taken : (body : PlainBody) → g.body ≡ body → IsBody body → MayIssue (row_at f.leader c) s body → has_width f.leader.settings.width body ≡ true
      → All (λ n. n < 256) (spelling g) → IsTaken b 0 c s body
  is_taken (frame.Register address key) is fr may sized small = (
    sym (ap (λ (x : Brought). x.address c s) history ∙ found address_in _ address (submitted address_in may) (ap address_in is ∙ fits (is_word address) address (lt-ltb _ _ fr.0))),
    sym (ap (λ (x : Brought). x.key 0 c s) history ∙ found key_in _ key (submitted key_in may) (ap key_in is ∙ fits _ key (eq-eqb _ _ fr.1))),
  )
  is_taken (frame.Write root part) is fr may sized small =
      let width = ap (λ x. x.width) h.leader.settings in
      let size : length part ≡ levels_len + b.settings.width = eqb-true _ _ sized ∙ ap (λ n. levels_len + n) width in (
        sym (ap (λ (x : Brought). x.root 0 c s) history ∙ found root_in _ root (submitted root_in may) (ap root_in is ∙ fits (is_word root) root (lt-ltb _ _ fr.0))),
        sym (ap (λ (x : Brought). x.part c s) history ∙ found (part_in b.settings.width) _ part (submitted (part_in b.settings.width) may)
            (ap (part_in b.settings.width) is ∙ fits _ part (and_from _ _ (eq-eqb _ _ size) (all_tested 256 part (part_bytes g root part is small))))),
      )
  is_taken (frame.Read number held) is fr may sized small =
      sym (ap (λ (x : Brought). x.number c s) history ∙ found number_in _ number (submitted number_in may) (ap number_in is ∙ fits _ number (lt-ltb _ _ fr.0)))
  is_taken (frame.Retire number held) is fr may sized small =
      sym (ap (λ (x : Brought). x.number c s) history ∙ found number_in _ number (submitted number_in may) (ap number_in is ∙ fits _ number (lt-ltb _ _ fr.0)))
  is_taken (frame.Proof share) is fr may sized small =
      sym (ap (λ (x : Brought). x.share 0 c s) history ∙ found share_in _ share (shared share is) (ap share_in is ∙ fits (is_share share) share (share_tested share fr)))
  is_taken body is fr may sized small = absurd may

  pub one_is_taken : IsFrame g → All (λ n. n < 256) (spelling g) → IsTaken b 0 c s g.body
  one_is_taken fr small =
      let one = issued_for_frame f.leader bytes g n command read e in
      is_taken g.body refl fr.body one.may one.sized small

by_answer : (b : Book) (f : FrameWorld) (v w : World) (g : PlainFrame) (bytes : List ℕ) → Known b v w → Follows b f w
    → b.foreign g.lane ≡ true → whole bytes ≡ Ok g → IsFrame g → All (λ n. n < 256) (spelling g)
    → (ts more : List Taken) → HaveCommands w.commands ts → (answer : leader.Answer) → (steps.on_client f.leader bytes).answer ≡ answer
    → b.brought ≡ brought_by b.settings.width ((ts ++ leader_takes g answer) ++ more)
    → AreTaken b (leader_takes g answer)
by_answer b f v w g bytes known h foreign read fr small ts more have (leader.Link n command) e history =
    (one_is_taken b f v w g command n bytes known h foreign read e ts more have history fr small, tt)
by_answer b f v w g bytes known h foreign read fr small ts more have (leader.Reply reply) e history = tt
by_answer b f v w g bytes known h foreign read fr small ts more have (leader.StillWaiting n) e history = tt

-- what the leader takes is the history's
pub leader_are_taken : (b : Book) (f : FrameWorld) (v w : World) (c : ℕ) (l : Letter) (ts more : List Taken) → Known b v w → Follows b f w
    → b.foreign c ≡ true → Carries b (token.Injected true (Some c)) l → All (λ n. n < 256) l.bytes → HaveCommands w.commands ts
    → b.brought ≡ brought_by b.settings.width ((ts ++ taken_of f (token.Injected true (Some c)) l) ++ more)
    → AreTaken b (taken_of f (token.Injected true (Some c)) l)
leader_are_taken b f v w c l ts more known h foreign k bytes have history =
    let g = k.1.0 in
    let fr : IsFrame g = k.1.1.0 in
    let spelled : l.bytes ≡ spelling g = k.1.1.1.0 in
    let lane : g.lane ≡ c = k.1.1.1.1.0 in
    let read : whole l.bytes ≡ Ok g = ap whole spelled ∙ whole_spelled g fr in
    let takes = ap (taken_in true f l.bytes) read in
    subst (AreTaken b) (sym takes)
    (by_answer b f v w g l.bytes known h (ap b.foreign lane ∙ foreign) read fr (subst (All (λ n. n < 256)) spelled bytes) ts more have
    (steps.on_client f.leader l.bytes).answer refl (subst (λ us. b.brought ≡ brought_by b.settings.width ((ts ++ us) ++ more)) takes history))
