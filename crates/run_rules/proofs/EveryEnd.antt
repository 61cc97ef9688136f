-- What holds at the end of every schedule, with whatever bytes from outside.
use Rattle.std.proofs.Common.{◌≡◌, ◌≢◌, ◌≤◌, ◌+◌, ◌-◌, ℕ, Bool, true, false, cond, List, [], ◌∷◌, ◌++◌, length, Some, slice_get, refl, sym, ap, ◌∙◌, subst, inl, inr, arith}
use Rattle.std.proofs.lemmas.Bool.{cases_Bool, ne_eqb}
use Rattle.express_words.specs.declared.settings.Settings.{Settings}
use Rattle.express_words.specs.Limits.{KeepsLimits}
use Rattle.mailbox_rules.specs.Requests.{Entry, Request}
use Rattle.token_rules.specs.Tokens.{oracle_of}
use Rattle.token_rules.specs.Run.{sent_of}
use Rattle.token_rules.specs.Laws.{asked_by}
use Rattle.token_rules.proofs.Asked.{requests_were_asked}
use Rattle.run_rules.specs.Letters.{FrameWorld}
use Rattle.run_rules.specs.Run.{Event, Ask, Send, Tick, Deliver, Show, Finish, Inject}
use Rattle.run_rules.specs.Book.{Book, request_of}
use Rattle.run_rules.specs.Follows.{Follows, IsLineOf}
use Rattle.run_rules.specs.History.{frame_run, token_events, token_run}
use Rattle.run_rules.specs.Acts.{AreFitting, Both, ended_of, history_of}
use Rattle.run_rules.specs.Plain.{BoxesArePlain, ClientsAreReady, IsHistory, IsStrange, JournalInOrder, JournalIsTold, OutcomesArePlain, SharesAreFolds}
use Rattle.run_rules.specs.Soundness.{BadWritesAreCaught, SettledAsTheyPass}
use Rattle.run_rules.specs.EveryEnd.{AtEveryEnd, HistoryIsSo, RepliesFit}
use Rattle.run_rules.specs.Heeded.{CurrentIsHeeded}
use Rattle.run_rules.proofs.ForeignFollows.{foreign_runs_agree, frames_agree, outside_is_foreign, replies_fit}
use Rattle.run_rules.proofs.Heeded.{current_is_heeded}
use Rattle.run_rules.proofs.WholeBoth.{Outside}
use Rattle.run_rules.proofs.WholeForeign.{room, sound, whole, within, world_is}
use Rattle.run_rules.proofs.PlainStrangers.{is_strange}
use Rattle.run_rules.proofs.SoundEnds.{bad_writes_are_caught, settled_as_they_pass}
use Rattle.run_rules.proofs.PlainEnds.{boxes_are_plain, clients_are_ready, entry_there, is_answer, journal_is_told, line_at, outcomes_are_plain, shares_are_folds}

-- ---- a foreign lane is asked nothing

none_asked : (settings : Settings) (foreign : ℕ → Bool) (c : ℕ) (events : List Event) → AreFitting settings foreign events
    → foreign c ≡ true → asked_by c (token_events events) ≡ []
unfolding asked_by token_events
none_asked settings foreign c [] fit is = refl
none_asked settings foreign c (Ask d r ∷ events) fit is =
    let apart : c ≢ d = λ same. absurd (cc (is, ap foreign same, fit.0.1)) in
    ap (λ t. cond {A = List Request} t (r ∷ []) [] ++ asked_by c (token_events events)) (ne_eqb c d apart)
    ∙ none_asked settings foreign c events fit.1 is
none_asked settings foreign c (Send d ∷ events) fit is = none_asked settings foreign c events fit.1 is
none_asked settings foreign c (Tick ∷ events) fit is = none_asked settings foreign c events fit.1 is
none_asked settings foreign c (Deliver n ∷ events) fit is = none_asked settings foreign c events fit.1 is
none_asked settings foreign c (Show n ∷ events) fit is = none_asked settings foreign c events fit.1 is
none_asked settings foreign c (Finish d ∷ events) fit is = none_asked settings foreign c events fit.1 is
none_asked settings foreign c (Inject to_leader bytes ∷ events) fit is = none_asked settings foreign c events fit.1 is

module _ (settings : Settings) (seed : List ℕ) (foreign : ℕ → Bool) (events : List Event)
    (limits : KeepsLimits settings.width settings.boxes settings.lanes settings.window)
    (fit : AreFitting settings foreign events) (few : length events ≤ 20000) where
  abbrev s : Both
  s = ended_of settings seed foreign events

  abbrev b : Book
  b = history_of settings seed foreign s

  abbrev f : FrameWorld
  f = frame_run settings seed events

  same : s.world ≡ token_run (oracle_of s.acts) settings foreign events
  same = world_is settings seed foreign events limits fit few

  follows : Follows b f s.world
  follows = subst (Follows b f) (sym same) (foreign_runs_agree settings seed foreign events limits fit few)

  clients_ask : (c serial : ℕ) (r : Request) → request_of b c serial ≡ Some r → foreign c ≡ false
  clients_ask c serial r is = elim (cases_Bool (foreign c)) [
    | inl strange ↦
        let asked = (requests_were_asked (oracle_of s.acts) settings.width settings.boxes settings.window foreign (token_events events)
        (room settings seed foreign events limits fit few)).sent c (serial - 1) r
        (ap (λ w. slice_get (sent_of w c) (serial - 1)) (sym same) ∙ is) in
        let none = none_asked settings foreign c events fit strange in
        absurd (cc (asked.1, ap (λ rs. slice_get rs asked.0) none))
    | inr honest ↦ honest
  ]

  strange : (i : ℕ) (e : Entry) → slice_get b.entries i ≡ Some e → foreign e.line.lane ≡ true → IsStrange b i e
  strange i e is lane =
      let w = whole settings seed foreign events limits fit few in
      let at = line_at b s.world w 0 s.world.journal f.journal i e follows.journal (entry_there b s.world w i e is) in
      let none : 0 + i ≡ i = omega arith in
      is_strange b i e at.0 is (subst (λ t. IsLineOf b t i e at.0) lane (subst (λ n. IsLineOf b (foreign e.line.lane) n e at.0) none at.1.1))

  history : IsHistory b
  history = record {
    sound = sound settings seed foreign events limits fit few;
    asked = clients_ask;
    answers = is_answer b s.world (whole settings seed foreign events limits fit few);
    strange = strange;
  }

pub history_at_every_end : AtEveryEnd HistoryIsSo
history_at_every_end settings seed foreign events limits fit few =
    history settings seed foreign events limits fit few

pub outcomes_at_every_end : AtEveryEnd OutcomesArePlain
outcomes_at_every_end settings seed foreign events limits fit few =
    let s = ended_of settings seed foreign events in
    let b = history_of settings seed foreign s in
    let f = frame_run settings seed events in
    subst (OutcomesArePlain b f) (same settings seed foreign events limits fit few)
    (outcomes_are_plain b s.world (whole settings seed foreign events limits fit few) (history settings seed foreign events limits fit few)
    (within settings seed foreign events limits fit few) f (follows settings seed foreign events limits fit few))

pub journal_at_every_end : AtEveryEnd JournalIsTold
journal_at_every_end settings seed foreign events limits fit few =
    let s = ended_of settings seed foreign events in
    let b = history_of settings seed foreign s in
    let f = frame_run settings seed events in
    subst (JournalIsTold b f) (same settings seed foreign events limits fit few)
    (journal_is_told b s.world (whole settings seed foreign events limits fit few) f
    (history settings seed foreign events limits fit few) (follows settings seed foreign events limits fit few))

pub ready_at_every_end : AtEveryEnd ClientsAreReady
ready_at_every_end settings seed foreign events limits fit few =
    let s = ended_of settings seed foreign events in
    clients_are_ready (history_of settings seed foreign s) s.world (whole settings seed foreign events limits fit few)
    (frame_run settings seed events) (token_run (oracle_of s.acts) settings foreign events)
    (journal_at_every_end settings seed foreign events limits fit few)

pub shares_at_every_end : AtEveryEnd SharesAreFolds
shares_at_every_end settings seed foreign events limits fit few =
    let s = ended_of settings seed foreign events in
    let b = history_of settings seed foreign s in
    let f = frame_run settings seed events in
    subst (SharesAreFolds b f) (same settings seed foreign events limits fit few)
    (shares_are_folds b s.world (whole settings seed foreign events limits fit few) f (follows settings seed foreign events limits fit few))

pub boxes_at_every_end : AtEveryEnd BoxesArePlain
boxes_at_every_end settings seed foreign events limits fit few =
    let s = ended_of settings seed foreign events in
    let b = history_of settings seed foreign s in
    boxes_are_plain b s.world (whole settings seed foreign events limits fit few) (history settings seed foreign events limits fit few)

pub order_at_every_end : AtEveryEnd JournalInOrder
order_at_every_end settings seed foreign events limits fit few =
    let s = ended_of settings seed foreign events in
    let b = history_of settings seed foreign s in
    let w = whole settings seed foreign events limits fit few in
    subst (JournalInOrder b (frame_run settings seed events)) (same settings seed foreign events limits fit few)
    (record { entries = refl; once = w.lawful.once; order = w.lawful.order })

pub settled_at_every_end : AtEveryEnd SettledAsTheyPass
settled_at_every_end settings seed foreign events limits fit few =
    let s = ended_of settings seed foreign events in
    settled_as_they_pass (history_of settings seed foreign s) (history settings seed foreign events limits fit few)
    (frame_run settings seed events) (token_run (oracle_of s.acts) settings foreign events)
    (journal_at_every_end settings seed foreign events limits fit few)

pub bad_writes_at_every_end : AtEveryEnd BadWritesAreCaught
bad_writes_at_every_end settings seed foreign events limits fit few =
    let s = ended_of settings seed foreign events in
    bad_writes_are_caught (history_of settings seed foreign s) (history settings seed foreign events limits fit few)
    (frame_run settings seed events) (token_run (oracle_of s.acts) settings foreign events)

pub replies_at_every_end : AtEveryEnd RepliesFit
replies_at_every_end settings seed foreign events limits fit few =
    ap (λ w. w.misfits) (sym (same settings seed foreign events limits fit few)) ∙ replies_fit settings seed foreign events limits fit few

pub heeded_at_every_end : AtEveryEnd CurrentIsHeeded
heeded_at_every_end settings seed foreign events limits fit few =
    let s = ended_of settings seed foreign events in
    let b = history_of settings seed foreign s in
    let f = frame_run settings seed events in
    let outside : Outside foreign s.world f =
    subst (Outside foreign s.world) (frames_agree settings seed foreign events limits fit few) (outside_is_foreign settings seed foreign events limits fit few) in
    subst (CurrentIsHeeded b f) (same settings seed foreign events limits fit few)
    (current_is_heeded b f s.world (follows settings seed foreign events limits fit few) (whole settings seed foreign events limits fit few).lawful
    (sound settings seed foreign events limits fit few) (within settings seed foreign events limits fit few) outside)
