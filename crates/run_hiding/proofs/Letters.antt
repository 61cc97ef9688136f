-- The letters of a run, and what stays of its results.
use Rattle.std.proofs.Common.{◌≡◌, ◌∙◌, ◌-◌, ℕ, zero, suc, true, false, Bool, List, [], ◌∷◌, Option, Some, None, slice_get, refl, sym, ap, subst, arith}
use Rattle.std.specs.Option.{option_map}
use Rattle.std.proofs.lemmas.Option.{slice_get-map}
use Rattle.mailbox_rules.specs.Requests.{Entry, Line, Request, lines_of}
use Rattle.mailbox_rules.specs.Tables.{Result, Writes, result_outline, results_after}
use Rattle.mailbox_rules.proofs.Folds.{results_stand}
use Rattle.mailbox_rules.proofs.Outlines.{result_outlines_agree}
use Rattle.token_rules.specs.Tokens as token
use Rattle.token_rules.specs.Tokens.{Token, World, oracle_of}
use Rattle.token_rules.proofs.Lists.{taken_get}
use Rattle.run_rules.specs.Letters.{Addressee, FrameWorld, Letter}
use Rattle.run_rules.specs.Book.{Book}
use Rattle.run_rules.specs.Values.{accepted_at}
use Rattle.run_rules.specs.Follows.{Carries, IsFrameOf, IsLinked, Pools}
use Rattle.run_rules.specs.History.{frame_run, token_run}
use Rattle.run_rules.specs.Acts.{ended_of, history_of}
use Rattle.run_rules.specs.Known.{IsWhole}
use Rattle.run_rules.specs.Plain.{IsHistory, plain_at, plain_of, plain_result}
use Rattle.run_rules.proofs.EveryEnd.{history_at_every_end}
use Rattle.run_rules.proofs.ForeignFollows.{foreign_runs_agree}
use Rattle.run_rules.proofs.PlainRegistered.{registered_accepted}
use Rattle.run_rules.proofs.WholeForeign.{whole, world_is}
use Rattle.run_hiding.specs.Ideal.{AreAims, real, writes}
use Rattle.run_hiding.specs.Sight.{IsEntered, IsSeen}
use Rattle.run_hiding.specs.Moved.{OtherAims, with_sent}
use Rattle.run_hiding.specs.Laws.{IsSpelledOf, IsTo, ResultsStay, RunsAreIdeal}
use Rattle.run_hiding.proofs.Aims.{quiet, same_kind}
use Rattle.run_hiding.proofs.Quiet.{same_accepted}
use Rattle.run_hiding.proofs.Histories.{history_stays}
use Rattle.run_hiding.proofs.Seen.{asked}
use Rattle.run_hiding.proofs.Stays.{settled}
use Rattle.run_hiding.proofs.Real.{same}

pub carried_at : (b : Book) (ts : List Token) (ls : List Letter) (k : ℕ) (t : Token) (l : Letter) → Pools b ts ls
    → slice_get ts k ≡ Some t → slice_get ls k ≡ Some l → Carries b t l
carried_at b [] ls k t l h one two = absurd (cc one)
carried_at b (x ∷ ts) [] k t l h one two = absurd h
carried_at b (x ∷ ts) (y ∷ ls) zero t l h one two =
    let first : x ≡ t = cc one in let second : y ≡ l = cc two in
    subst (λ y. Carries b t y) second (subst (λ x. Carries b x y) first h.0)
carried_at b (x ∷ ts) (y ∷ ls) (suc k) t l h one two = carried_at b ts ls k t l h.1 one two

of_line : (o : Option Entry) (x : Line) → option_map (λ (e : Entry). e.line) o ≡ Some x → (e : Entry) × ((o ≡ Some e) × (e.line ≡ x))
of_line None x h = absurd (cc h)
of_line (Some e) x h = (e, (refl, cc h))

module _ (b : Book) (k : IsHistory b) (v : World) (w : IsWhole b v) (f : FrameWorld) (pools : Pools b v.pool f.pool) (viewer : ℕ) (aims : AreAims b) where
  entered : (n : ℕ) (x : Line) (i : ℕ) → slice_get v.pool i ≡ Some (token.Replied n x) → b.foreign x.lane ≡ false → IsEntered b (n - 1) x
  entered n x i is lane =
      let told = (w.lawful.coherent.pool i (token.Replied n x) is).1 in
      let at = told.0.place in
      let next = told.0.next in
      let low = told.1 in
      let here : n - 1 ≡ at = omega (arith, next) in
      let there : slice_get (lines_of v.journal) at ≡ Some x =
      ap (λ ls. slice_get ls at) w.lawful.coherent.journal ∙ taken_get v.commands v.carried at x (omega (arith, next, low)) told.0.is in
      let e = of_line (slice_get v.journal at) x (sym (slice_get-map (λ (e : Entry). e.line) v.journal at) ∙ there) in
      record {
        does = e.0.does;
        is = ap (slice_get b.entries) here ∙ ap (λ es. slice_get es at) (sym w.journal) ∙ e.1.0 ∙ ap (λ y. Some (record { line = y; does = e.0.does })) e.1.1;
        lane = lane;
      }

  spelled : (t : Token) (l : Letter) (to : Addressee) (c : ℕ) → IsSeen viewer b t → IsFrameOf b l to c t → IsSpelledOf viewer (real viewer b) t l
  spelled t l to c seen h = record { frame = h.frame; is = same b k aims viewer t seen ∙ h.is; bytes = h.spelled.bytes }

  linked : (l : Letter) (to : Addressee) (n : ℕ) (x : Line) (t : Token) → b.foreign x.lane ≡ false
      → IsLinked b l to n x t (b.foreign x.lane) → IsFrameOf b l to x.lane t
  linked l to n x t lane h = subst (λ f. IsLinked b l to n x t f) lane h

  pub letters : (i : ℕ) (t : Token) (l : Letter) → slice_get v.pool i ≡ Some t → Carries b t l → IsTo viewer b t → IsSpelledOf viewer (real viewer b) t l
  letters i (token.Deposit c s) l is h to = spelled (token.Deposit c s) l _ c to h
  letters i (token.Submission c s command) l is h to = spelled (token.Submission c s command) l _ c to h.1
  letters i (token.ProofToHelper c s) l is h to = spelled (token.ProofToHelper c s) l _ c to h
  letters i (token.ProofToLeader c s) l is h to = spelled (token.ProofToLeader c s) l _ c to h
  letters i (token.Ordered n x) l is h to = spelled (token.Ordered n x) l _ x.lane to.0 (linked l _ n x (token.Ordered n x) to.1 h)
  letters i (token.Replied n x) l is h to =
      spelled (token.Replied n x) l _ x.lane (to.0, entered n x i is to.1) (linked l _ n x (token.Replied n x) to.1 h)
  letters i (token.HeldDeposit c s) l is h to = absurd to
  letters i (token.HeldProof c s) l is h to = absurd to
  letters i (token.Challenge c s) l is h to = absurd to
  letters i (token.Answer c s) l is h to = absurd to
  letters i (token.Later c s) l is h to = absurd to
  letters i (token.Injected to_leader lane) l is h to = absurd to
  letters i (token.Foreign c) l is h to = absurd to

pub runs_are_ideal : RunsAreIdeal
runs_are_ideal viewer settings seed foreign events limits fit few aims i t l one two to =
    let s = ended_of settings seed foreign events in
    let b = history_of settings seed foreign s in
    let v = token_run (oracle_of s.acts) settings foreign events in
    let f = frame_run settings seed events in
    let k : IsHistory b = history_at_every_end settings seed foreign events limits fit few in
    let w : IsWhole b v = subst (IsWhole b) (world_is settings seed foreign events limits fit few) (whole settings seed foreign events limits fit few) in
    let pools = (foreign_runs_agree settings seed foreign events limits fit few).pool in
    letters b k v w f pools viewer aims i t l one (carried_at b v.pool f.pool i t l pools one two) to

-- ---- results

accepts_stay : (b : Book) (sent : ℕ → List Request) → IsHistory b → AreAims b → OtherAims b sent → (c s : ℕ)
    → accepted_at (with_sent b sent) c s ≡ accepted_at b c s
accepts_stay b sent k aims other c s = by_kind (writes b c s) refl
  where
    by_kind : (t : Bool) → writes b c s ≡ t → accepted_at (with_sent b sent) c s ≡ accepted_at b c s
    by_kind true w =
        let v = same_kind b sent other c s ∙ w in
        let d = with_sent b sent in
        let j : IsHistory d = history_stays b sent k other in
        registered_accepted d j c s _ _ (asked d j other.aims c s v) (other.aims c s v).registered
        ∙ sym (registered_accepted b k c s _ _ (asked b k aims c s w) (aims c s w).registered)
    by_kind false n = same_accepted b sent c s (quiet b sent other c s n)

pub results_stay : ResultsStay
unfolding plain_result plain_at
results_stay b sent i e k aims other is =
    let limit = b.settings.boxes in
    let width = b.settings.width in
    let mine : Writes = plain_of b in
    let theirs : Writes = plain_of (with_sent b sent) in
    let outline = λ (r : Result). result_outline r in
    let all = result_outlines_agree limit width width mine theirs b.entries
    (settled (λ c s. theirs.accepts c s ≡ mine.accepts c s) (accepts_stay b sent k aims other) b.entries) in
    let one : Some (outline (plain_result (with_sent b sent) i e)) ≡ Some (outline (plain_result b i e)) =
    sym (slice_get-map outline (results_after limit width theirs b.entries) i ∙ ap (option_map outline) (results_stand limit width theirs b.entries i e is))
    ∙ ap (λ rs. slice_get rs i) all
    ∙ slice_get-map outline (results_after limit width mine b.entries) i ∙ ap (option_map outline) (results_stand limit width mine b.entries i e is) in
    cc one
