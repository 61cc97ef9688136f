-- A command is issued: the row that waits for it, and what holds of the link.
use Rattle.std.proofs.Common.{◌≡◌, ◌<◌, ◌≤◌, ◌+◌, ◌-◌, ◌^◌, ℕ, List, [], ◌∷◌, ◌++◌, length, set, refl, sym, ap, subst, ◌∙◌, arith}
use Rattle.std.specs.Prelude.{filter, not}
use Rattle.std.proofs.lemmas.List.{map-append, length-append}
use Rattle.std.proofs.lemmas.List.Elements.{All-append, All-cons, All-nil, filter-append}
use Rattle.std.proofs.lemmas.List.Filters.{length-filter_both}
use Rattle.express_words.specs.declared.settings.Settings.{Settings}
use Rattle.link_order.specs.Link.{Outstanding, IsOutstanding}
use Rattle.frame_rules.specs.Frames.{PlainFrame, PlainBody}
use Rattle.frame_rules.specs.Spelling.{spelling, IsFrame, Spells}
use Rattle.frame_rules.specs.Whole.{on_link}
use Rattle.frame_rules.proofs.WholeLaws.{whole_only}
use Rattle.server_boxes.specs.Held.{Holdings}
use Rattle.step_rules.specs.Leader as steps
use Rattle.step_rules.specs.LeaderClients.{issues, issued_for}
use Rattle.leader_core.specs.declared.asked.Asked.{Asked}
use Rattle.leader_core.specs.declared.asked.Asked.TheVariants as asked
use Rattle.leader_core.specs.declared.slot.LeaderSlot.{LeaderSlot}
use Rattle.leader_core.specs.Asked.{asked_with, command_for, draws_for}
use Rattle.leader_core.specs.Slots.{row_in, rows_in}
use Rattle.leader_core.specs.Commands.{frame_at, frame_or, commands_in, audits_in, is_audit, with_command}
use Rattle.leader_core.specs.State.{leader_of, IsCommand, IsLink}
use Rattle.leader_core.proofs.SlotLemmas.{rows_set}

-- ---- the bytes of a command are read as it

pub frame_is : (c : PlainFrame) → IsFrame c → frame_at (spelling c) ≡ c
frame_is c is = ap frame_or (whole_only c (spelling c) (record { is_frame = is; spelled = refl }))

pub commands_more : (frames : List (List ℕ)) (c : PlainFrame) → IsFrame c → commands_in (frames ++ spelling c ∷ []) ≡ commands_in frames ++ c ∷ []
commands_more frames c is = map-append frame_at frames (spelling c ∷ []) ∙ ap (λ (x : PlainFrame). commands_in frames ++ x ∷ []) (frame_is c is)

pub is_command : (lanes : ℕ) (c : PlainFrame) → IsFrame c → c.lane < lanes → 1 ≤ c.serial → IsCommand lanes (spelling c)
is_command lanes c is below some =
    let at = frame_is c is in
    record {
      spelled = subst (λ (x : PlainFrame). Spells x (spelling c)) (sym at) (record { is_frame = is; spelled = refl });
      lane = subst (λ (x : PlainFrame). x.lane < lanes) (sym at) below;
      serial = subst (λ (x : PlainFrame). 1 ≤ x.serial) (sym at) some;
    }

-- ---- a command for the row of a slot

pub issues_is : (settings : Settings) (held : Holdings) (slots : List LeaderSlot) (link : Outstanding) (draws : ℕ) (seed : List ℕ) (f : PlainFrame) (body : PlainBody) (stage : steps.Stage) (i : ℕ) (s : LeaderSlot) →
    i ≡ f.lane → row_in s ≡ steps.row f.serial stage → IsFrame (on_link f link.next body) →
    leader_of settings held (set slots i s) (with_command link (spelling (on_link f link.next body))) draws seed ≡ (issues (leader_of settings held slots link draws seed) f body stage).leader
issues_is settings held slots link draws seed f body stage i s at row_is is =
    ap (λ (rows : List steps.Row). record (leader_of settings held slots (with_command link (spelling (on_link f link.next body))) draws seed) { rows = rows }) (rows_set slots i f.lane s (steps.row f.serial stage) at row_is)
    ∙ ap (λ (commands : List PlainFrame). record (leader_of settings held slots link draws seed) { rows = set (rows_in slots) f.lane (steps.row f.serial stage); outstanding = commands; next = link.next + 1 })
    (commands_more link.frames (on_link f link.next body) is)

-- what a request's first command is issued as
pub issued_is : (a : steps.Leader) (f : PlainFrame) (x : Asked) (part : List ℕ) (draws : ℕ) → draws ≡ a.draws + draws_for x →
    issued_for a f (asked_with x part) ≡ issues (record a { draws = draws }) f (command_for x part) (steps.Waiting a.next (asked_with x part))
unfolding issued_for
issued_is a f (asked.Registering address key) part draws e = let same : a.draws ≡ draws = omega arith in ap (λ n. issues (record a { draws = n }) f (command_for (asked.Registering address key) part) (steps.Waiting a.next (asked_with (asked.Registering address key) part))) same
issued_is a f (asked.Writing root draw) part draws e = ap (λ n. issues (record a { draws = n }) f (command_for (asked.Writing root draw) part) (steps.Waiting a.next (asked_with (asked.Writing root draw) part))) (sym e)
issued_is a f (asked.Reading n) part draws e = let same : a.draws ≡ draws = omega arith in ap (λ k. issues (record a { draws = k }) f (command_for (asked.Reading n) part) (steps.Waiting a.next (asked_with (asked.Reading n) part))) same
issued_is a f (asked.Retiring n) part draws e = let same : a.draws ≡ draws = omega arith in ap (λ k. issues (record a { draws = k }) f (command_for (asked.Retiring n) part) (steps.Waiting a.next (asked_with (asked.Retiring n) part))) same

-- ---- what holds of the link

audits_most : (frames : List (List ℕ)) → audits_in frames ≤ length frames
audits_most frames =
    let both = length-filter_both (λ bytes. is_audit (frame_at bytes).body) (λ bytes. not (is_audit (frame_at bytes).body)) (λ bytes. refl) frames in
    omega (arith, both)

pub audits_more : (frames : List (List ℕ)) (bytes : List ℕ) → audits_in (frames ++ bytes ∷ []) ≡ audits_in frames + audits_in (bytes ∷ [])
audits_more frames bytes =
    let p = λ (b : List ℕ). is_audit (frame_at b).body in
    ap length (filter-append p frames (bytes ∷ [])) ∙ length-append (filter p frames) (filter p (bytes ∷ []))

pub link_more : (settings : Settings) (link : Outstanding) (draws more : ℕ) (c : PlainFrame) → IsLink settings link draws → settings.window ≤ 32 →
    link.next ≤ 2 ^ 64 - 65 → length link.frames < link.window → IsFrame c → c.lane < settings.lanes → 1 ≤ c.serial → more ≤ draws + 1 → IsOutstanding (with_command link (spelling c)) →
    IsLink settings (with_command link (spelling c)) more
link_more settings link draws more c is most next free is_frame below some few order = record {
  window = is.window;
  size = is.size;
  order = order;
  commands = All-append (IsCommand settings.lanes) link.frames (spelling c ∷ []) is.commands (All-cons (IsCommand settings.lanes) (spelling c) [] (is_command settings.lanes c is_frame below some) (All-nil (IsCommand settings.lanes)));
  last =
      let held = audits_most link.frames in
      let one = audits_most (spelling c ∷ []) in
      let sum = audits_more link.frames (spelling c) in
      let window = is.window in
      omega arith;
  drawn = let before = is.drawn in omega arith;
}
