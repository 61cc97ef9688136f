-- Each delivery is an event of a run, or two.
use Rattle.std.proofs.Common.{◌≡◌, inl, inr, ℕ, zero, suc, ◌+◌, ◌*◌, ◌<◌, ◌≤◌, Bool, true, false, List, [], ◌∷◌, ◌++◌, length, Option, Some, refl, sym, ap, ◌∙◌, subst, arith}
use Rattle.std.specs.Prelude.{Contains, slice_get}
use Rattle.std.proofs.Math.Seq.{get_or-append_seam}
use Rattle.std.proofs.lemmas.List.{append-nil, length-append}
use Rattle.std.proofs.lemmas.List.Elements.{Contains-append_cases, Contains-append_left, Contains-append_right}
use Rattle.std.proofs.lemmas.Option.{slice_get-get_or}
use Rattle.express_words.specs.declared.settings.Settings.{Settings}
use Rattle.frame_rules.specs.Frames.{PlainFrame}
use Rattle.frame_rules.specs.Spelling.{spelling}
use Rattle.frame_rules.specs.Whole.{linked, is_command}
use Rattle.step_rules.specs.Helper as helper
use Rattle.step_rules.specs.Helper.{Helper}
use Rattle.step_rules.specs.HelperClients as helper_clients
use Rattle.step_rules.specs.HelperCommands.{on_link_bytes}
use Rattle.step_rules.specs.Leader as leader
use Rattle.step_rules.specs.Leader.{Leader}
use Rattle.step_rules.specs.LeaderClients as leader_clients
use Rattle.step_rules.specs.LeaderReplies.{on_reply_bytes}
use Rattle.leader_core.specs.Told.{acked, acked_bytes, turned}
use Rattle.helper_core.specs.State as helper_state
use Rattle.run_rules.specs.Letters.{FrameWorld, Letter, ToClient, ToHelper, ToHelperLink, ToLeader, ToLeaderLink, letter}
use Rattle.run_rules.specs.Run.{Event, Deliver, Inject, ack_letters, answer_letters, comes, delivers, delivers_at, happens, helper_answers, run}
use Rattle.node_restart.specs.declared.did.Did.TheVariants as did
use Rattle.node_restart.specs.declared.frames.Sender.{Sender}
use Rattle.node_restart.specs.declared.frames.Sender.TheVariants.{Client, Peer}
use Rattle.node_restart.specs.declared.server.Core.{Core}
use Rattle.node_restart.specs.declared.server.Core.TheVariants.{Lead, Help}
use Rattle.node_restart.specs.Frames.{Handed, handed}
use Rattle.node_restart.specs.declared.did.Did.{Did}
use Rattle.node_restart.specs.Steps.{fold, fold_from, lead_client, lead_peer, help_client, help_peer}
use Rattle.run_rules.specs.Acts.{AreFitting}
use Rattle.log_laws.specs.Journals.{AreForeign, AtHelper, AtLeader, Both, Delivery, IsForeign, IsOf, LogsAreARun, MayAllCome, MayCome, both_opened, delivered, helper_opening, if_linked, is_linked, helpers, leader_opening, leaders, opened_with}

-- ---- the pool

-- each of these is in the pool as a letter for this addressee
abbrev Posted : List Letter → (List ℕ → Letter) → List (List ℕ) → Type 0
Posted pool as_letter written = (bytes : List ℕ) → Contains written bytes → Contains pool (as_letter bytes)

abbrev to_helper : List ℕ → Letter
to_helper bytes = letter ToHelperLink bytes

abbrev to_leader : List ℕ → Letter
to_leader bytes = letter ToLeaderLink bytes

posted_more : (pool more : List Letter) (as_letter : List ℕ → Letter) (written new : List (List ℕ)) → Posted pool as_letter written → Posted more as_letter new
    → Posted (pool ++ more) as_letter (written ++ new)
posted_more pool more as_letter written new old now bytes is = elim (Contains-append_cases written new bytes is) [
  | inl before ↦ Contains-append_left pool more (as_letter bytes) (old bytes before)
  | inr after ↦ Contains-append_right pool more (as_letter bytes) (now bytes after)
]

posted_still : (pool more : List Letter) (as_letter : List ℕ → Letter) (written : List (List ℕ)) → Posted pool as_letter written → Posted (pool ++ more) as_letter written
posted_still pool more as_letter written old bytes is = Contains-append_left pool more (as_letter bytes) (old bytes is)

found_at : (pool : List Letter) (l : Letter) → Contains pool l → (n : ℕ) × (slice_get pool n ≡ Some l)
found_at pool l (n, less, is) = (n, slice_get-get_or pool n l less ∙ ap Some is)

last_at : (pool : List Letter) (l : Letter) → slice_get (pool ++ l ∷ []) (length pool) ≡ Some l
last_at pool l =
    let less : length pool < length (pool ++ l ∷ []) = omega (arith, length-append pool (l ∷ [])) in
    slice_get-get_or (pool ++ l ∷ []) (length pool) l less ∙ ap Some (get_or-append_seam pool l [] l)

-- ---- where a run stands

pub record Stands (w : FrameWorld) (b : Both) : Type 0 where
  pub leads : Lead w.leader ≡ b.leader
  pub helps : Help w.helper ≡ b.helper
  pub commands : Posted w.pool to_helper b.commands
  pub replies : Posted w.pool to_leader b.replies

own_leader : (w : FrameWorld) (b : Both) → Stands w b → Stands w (record b { leader = Lead w.leader })
own_leader w b s = record { leads = refl; helps = s.helps; commands = s.commands; replies = s.replies }

own_helper : (w : FrameWorld) (b : Both) → Stands w b → Stands w (record b { helper = Help w.helper })
own_helper w b s = record { leads = s.leads; helps = refl; commands = s.commands; replies = s.replies }

-- the frame of a delivery
abbrev frame_of : Delivery → Handed
frame_of (AtLeader h) = h
frame_of (AtHelper h) = h

-- two events at most, which fit where the frame is one of a foreign lane
record Reaches (settings : Settings) (w : FrameWorld) (b : Both) (h : Handed) : Type 0 where
  events : List Event
  stands : Stands (run w events) b
  few : length events ≤ 2
  fit : (foreign : ℕ → Bool) → IsForeign foreign h.sender h.frame → AreFitting settings foreign events

one_posted : (bytes : List ℕ) (as_letter : List ℕ → Letter) → Posted (as_letter bytes ∷ []) as_letter (bytes ∷ [])
one_posted bytes as_letter other (zero, less, is) = subst (λ (x : List ℕ). Contains (as_letter bytes ∷ []) (as_letter x)) is (0, omega arith, refl)
one_posted bytes as_letter other (suc k, less, is) = absurd (omega (arith, less))

none_posted : (letters : List Letter) (as_letter : List ℕ → Letter) → Posted letters as_letter []
none_posted letters as_letter bytes (k, less, is) = absurd (omega (arith, less))

-- behind letters that were posted, the leader moved and more were posted
leader_moves : (w : FrameWorld) (b : Both) (new : Leader) (core : Core) (letters : List Letter) (written : List (List ℕ)) → Stands w b → Lead new ≡ core → Posted letters to_helper written
    → Stands (record w { leader = new; pool = w.pool ++ letters }) (record b { leader = core; commands = b.commands ++ written })
leader_moves w b new core letters written s is posted = record {
  leads = is;
  helps = s.helps;
  commands = posted_more w.pool letters to_helper b.commands written s.commands posted;
  replies = posted_still w.pool letters to_leader b.replies s.replies;
}

helper_moves : (w : FrameWorld) (b : Both) (new : Helper) (core : Core) (letters : List Letter) (written : List (List ℕ)) → Stands w b → Help new ≡ core → Posted letters to_leader written
    → Stands (record w { helper = new; pool = w.pool ++ letters }) (record b { helper = core; replies = b.replies ++ written })
helper_moves w b new core letters written s is posted = record {
  leads = s.leads;
  helps = is;
  commands = posted_still w.pool letters to_helper b.commands s.commands;
  replies = posted_more w.pool letters to_leader b.replies written s.replies posted;
}

-- the journal's lines are the run's own
with_lines : (w : FrameWorld) (b : Both) (journal : List _) → Stands w b → Stands (record w { journal = journal }) b
with_lines w b journal s = record { leads = s.leads; helps = s.helps; commands = s.commands; replies = s.replies }

injected : (w : FrameWorld) (b : Both) (l : Letter) → Stands w b → Stands (record w { pool = w.pool ++ l ∷ [] }) b
injected w b l s = record {
  leads = s.leads;
  helps = s.helps;
  commands = posted_still w.pool (l ∷ []) to_helper b.commands s.commands;
  replies = posted_still w.pool (l ∷ []) to_leader b.replies s.replies;
}

-- ---- events

-- a letter of the pool is delivered
delivering : (w : FrameWorld) (n : ℕ) (l : Letter) → slice_get w.pool n ≡ Some l → run w (Deliver n ∷ []) ≡ comes w l.to l.bytes
unfolding run happens delivers_at delivers
delivering w n l is = ap (delivers w) is

-- bytes come from outside, and are delivered
injecting : (w : FrameWorld) (bytes : List ℕ) → run w (Inject true bytes ∷ Deliver (length w.pool) ∷ []) ≡ comes (record w { pool = w.pool ++ letter ToLeader bytes ∷ [] }) ToLeader bytes
unfolding run happens delivers_at delivers
injecting w bytes = ap (delivers (record w { pool = w.pool ++ letter ToLeader bytes ∷ [] })) (last_at w.pool (letter ToLeader bytes))

injecting_helper : (w : FrameWorld) (bytes : List ℕ) → run w (Inject false bytes ∷ Deliver (length w.pool) ∷ []) ≡ comes (record w { pool = w.pool ++ letter ToHelper bytes ∷ [] }) ToHelper bytes
unfolding run happens delivers_at delivers
injecting_helper w bytes = ap (delivers (record w { pool = w.pool ++ letter ToHelper bytes ∷ [] })) (last_at w.pool (letter ToHelper bytes))

-- ---- each delivery

abbrev Other : Did → List ℕ → List (List ℕ)
Other d written = if_linked (is_linked d) written

client_posts : (answer : leader.Answer) → Posted (answer_letters answer) to_helper (Other (did.Lead (turned answer)) (leader.written answer))
client_posts (leader.Reply reply) = none_posted (answer_letters (leader.Reply reply)) to_helper
client_posts (leader.Link number command) = one_posted (spelling command) to_helper
client_posts (leader.StillWaiting number) = none_posted (answer_letters (leader.StillWaiting number)) to_helper

ack_posts : (ack : leader.Ack) → Posted (ack_letters ack) to_helper (Other (did.Acked (acked ack)) (acked_bytes ack))
ack_posts (leader.ToLane lane reply) = none_posted (ack_letters (leader.ToLane lane reply)) to_helper
ack_posts (leader.Settles number command) = one_posted (spelling command) to_helper
ack_posts leader.Ignored = none_posted (ack_letters leader.Ignored) to_helper

-- at the leader
from_client : (settings : Settings) (w : FrameWorld) (b : Both) (bytes : List ℕ) → Stands w b → Reaches settings w (delivered b (AtLeader (handed Client bytes))) (handed Client bytes)
unfolding comes lead_client
from_client settings w b bytes s =
    let l = letter ToLeader bytes in
    let there : FrameWorld = record w { pool = w.pool ++ l ∷ [] } in
    let turn = leader_clients.on_client w.leader bytes in
    let moves = leader_moves there (record b { leader = Lead w.leader }) turn.leader (Lead turn.leader) (answer_letters turn.answer) _ (injected w (record b { leader = Lead w.leader }) l (own_leader w b s)) refl (client_posts turn.answer) in
    record {
      events = Inject true bytes ∷ Deliver (length w.pool) ∷ [];
      stands = subst (λ (x : FrameWorld). Stands x (delivered b (AtLeader (handed Client bytes)))) (sym (injecting w bytes))
          (subst (λ (c : Core). Stands (comes there ToLeader bytes) (delivered (record b { leader = c }) (AtLeader (handed Client bytes)))) s.leads moves);
      few = omega arith;
      fit = λ foreign is. (is, (tt, tt));
    }

from_helper : (settings : Settings) (w : FrameWorld) (b : Both) (bytes : List ℕ) → Stands w b → Contains b.replies bytes → Reaches settings w (delivered b (AtLeader (handed Peer bytes))) (handed Peer bytes)
unfolding comes lead_peer
from_helper settings w b bytes s is =
    let found = found_at w.pool (to_leader bytes) (s.replies bytes is) in
    let turn = on_reply_bytes w.leader bytes in
    let moves = leader_moves w (record b { leader = Lead w.leader }) turn.leader (Lead turn.leader) (ack_letters turn.ack) _ (own_leader w b s) refl (ack_posts turn.ack) in
    record {
      events = Deliver found.0 ∷ [];
      stands = subst (λ (x : FrameWorld). Stands x (delivered b (AtLeader (handed Peer bytes)))) (sym (delivering w found.0 (to_leader bytes) found.1))
          (subst (λ (c : Core). Stands (comes w ToLeaderLink bytes) (delivered (record b { leader = c }) (AtLeader (handed Peer bytes)))) s.leads moves);
      few = omega arith;
      fit = λ foreign is. (tt, tt);
    }

-- at the helper
at_client : (settings : Settings) (w : FrameWorld) (b : Both) (bytes : List ℕ) → Stands w b → Reaches settings w (delivered b (AtHelper (handed Client bytes))) (handed Client bytes)
unfolding comes help_client
at_client settings w b bytes s =
    let l = letter ToHelper bytes in
    let there : FrameWorld = record w { pool = w.pool ++ l ∷ [] } in
    let turn = helper_clients.on_client w.helper bytes in
    let said : List Letter = letter (ToClient turn.reply.lane) (spelling turn.reply) ∷ [] in
    let moves = helper_moves there (record b { helper = Help w.helper }) turn.helper (Help turn.helper) said [] (injected w (record b { helper = Help w.helper }) l (own_helper w b s)) refl (none_posted said to_leader) in
    record {
      events = Inject false bytes ∷ Deliver (length w.pool) ∷ [];
      stands = subst (λ (x : FrameWorld). Stands x (delivered b (AtHelper (handed Client bytes)))) (sym (injecting_helper w bytes))
          (subst (λ (c : Core). Stands (comes there ToHelper bytes) (delivered (record b { helper = c }) (AtHelper (handed Client bytes)))) s.helps moves);
      few = omega arith;
      fit = λ foreign is. (is, (tt, tt));
    }

answer_moves : (w : FrameWorld) (b : Both) (command : Option PlainFrame) (new : Helper) (answer : helper.Answer) → Stands w b
    → Stands (helper_answers (record w { helper = new }) command answer)
    (record b { helper = Help new; replies = b.replies ++ Other (did.Linked (helper_state.turned answer)) (helper.written answer) })
unfolding helper_answers
answer_moves w b command new (helper.Carried reply) s =
    with_lines _ _ _ (helper_moves w b new (Help new) (letter ToLeaderLink (spelling reply) ∷ []) (spelling reply ∷ []) s refl (one_posted (spelling reply) to_leader))
answer_moves w b command new (helper.Repeated bytes) s =
    helper_moves w b new (Help new) (letter ToLeaderLink bytes ∷ []) (bytes ∷ []) s refl (one_posted bytes to_leader)
answer_moves w b command new helper.Ignored s = record {
  leads = s.leads;
  helps = refl;
  commands = s.commands;
  replies = subst (Posted w.pool to_leader) (sym (append-nil b.replies)) s.replies;
}

from_leader : (settings : Settings) (w : FrameWorld) (b : Both) (bytes : List ℕ) → Stands w b → Contains b.commands bytes → Reaches settings w (delivered b (AtHelper (handed Peer bytes))) (handed Peer bytes)
unfolding comes help_peer
from_leader settings w b bytes s is =
    let found = found_at w.pool (to_helper bytes) (s.commands bytes is) in
    let turn = on_link_bytes w.helper bytes in
    let moves = answer_moves w (record b { helper = Help w.helper }) (linked is_command w.helper.server.settings.width bytes) turn.helper turn.answer (own_helper w b s) in
    record {
      events = Deliver found.0 ∷ [];
      stands = subst (λ (x : FrameWorld). Stands x (delivered b (AtHelper (handed Peer bytes)))) (sym (delivering w found.0 (to_helper bytes) found.1))
          (subst (λ (c : Core). Stands (comes w ToHelperLink bytes) (delivered (record b { helper = c }) (AtHelper (handed Peer bytes)))) s.helps moves);
      few = omega arith;
      fit = λ foreign is. (tt, tt);
    }

reached : (settings : Settings) (w : FrameWorld) (b : Both) (d : Delivery) → Stands w b → MayCome b d → Reaches settings w (delivered b d) (frame_of d)
reached settings w b (AtLeader h) s may = at_leader h.sender h.frame may
  where
    at_leader : (sender : Sender) (bytes : List ℕ) → IsOf sender b.replies bytes → Reaches settings w (delivered b (AtLeader (handed sender bytes))) (handed sender bytes)
    at_leader Client bytes may = from_client settings w b bytes s
    at_leader Peer bytes may = from_helper settings w b bytes s may
reached settings w b (AtHelper h) s may = at_helper h.sender h.frame may
  where
    at_helper : (sender : Sender) (bytes : List ℕ) → IsOf sender b.commands bytes → Reaches settings w (delivered b (AtHelper (handed sender bytes))) (handed sender bytes)
    at_helper Client bytes may = at_client settings w b bytes s
    at_helper Peer bytes may = from_leader settings w b bytes s may

-- ---- all

all_delivered : Both → List Delivery → Both
all_delivered b [] = b
all_delivered b (d ∷ order) = all_delivered (delivered b d) order

run_both : (w : FrameWorld) (events more : List Event) → run w (events ++ more) ≡ run (run w events) more
unfolding run
run_both w [] more = refl
run_both w (event ∷ events) more = run_both (happens w event) events more

-- each frame is one of a foreign lane
abbrev AllForeign : (ℕ → Bool) → List Delivery → Type 0
AllForeign foreign [] = Unit {0}
AllForeign foreign (d ∷ order) = IsForeign foreign (frame_of d).sender (frame_of d).frame × AllForeign foreign order

all_foreign : (foreign : ℕ → Bool) (order : List Delivery) → AreForeign foreign (leaders order) → AreForeign foreign (helpers order) → AllForeign foreign order
all_foreign foreign [] one other = tt
all_foreign foreign (AtLeader h ∷ order) one other = (one.0, all_foreign foreign order one.1 other)
all_foreign foreign (AtHelper h ∷ order) one other = (other.0, all_foreign foreign order one other.1)

fit_both : (settings : Settings) (foreign : ℕ → Bool) (events more : List Event) → AreFitting settings foreign events → AreFitting settings foreign more → AreFitting settings foreign (events ++ more)
fit_both settings foreign [] more one other = other
fit_both settings foreign (event ∷ events) more one other = (one.0, fit_both settings foreign events more one.1 other)

record AllReached (settings : Settings) (w : FrameWorld) (b : Both) (order : List Delivery) : Type 0 where
  events : List Event
  stands : Stands (run w events) (all_delivered b order)
  few : length events ≤ 2 * length order
  fit : (foreign : ℕ → Bool) → AllForeign foreign order → AreFitting settings foreign events

all_reached : (settings : Settings) (w : FrameWorld) (b : Both) (order : List Delivery) → Stands w b → MayAllCome b order → AllReached settings w b order
unfolding all_delivered run
all_reached settings w b [] s may = record { events = []; stands = s; few = omega arith; fit = λ foreign is. tt }
all_reached settings w b (d ∷ order) s may =
    let one = reached settings w b d s may.0 in
    let rest = all_reached settings (run w one.events) (delivered b d) order one.stands may.1 in
    record {
      events = one.events ++ rest.events;
      stands = subst (λ (x : FrameWorld). Stands x (all_delivered (delivered b d) order)) (sym (run_both w one.events rest.events)) rest.stands;
      few = omega (arith, one.few, rest.few, length-append one.events rest.events);
      fit = λ foreign is. fit_both settings foreign one.events rest.events (one.fit foreign is.0) (rest.fit foreign is.1);
    }

leader_is : (b : Both) (order : List Delivery) → (all_delivered b order).leader ≡ fold_from b.leader (leaders order)
unfolding all_delivered
leader_is b [] = refl
leader_is b (AtLeader h ∷ order) = leader_is (delivered b (AtLeader h)) order
leader_is b (AtHelper h ∷ order) = leader_is (delivered b (AtHelper h)) order

helper_is : (b : Both) (order : List Delivery) → (all_delivered b order).helper ≡ fold_from b.helper (helpers order)
unfolding all_delivered
helper_is b [] = refl
helper_is b (AtLeader h ∷ order) = helper_is (delivered b (AtLeader h)) order
helper_is b (AtHelper h ∷ order) = helper_is (delivered b (AtHelper h)) order

count_is : (order : List Delivery) → length order ≡ length (leaders order) + length (helpers order)
count_is [] = refl
count_is (AtLeader h ∷ order) = omega (arith, count_is order)
count_is (AtHelper h ∷ order) = omega (arith, count_is order)

starts : (settings : Settings) (seed a b : List ℕ) → Stands (opened_with settings seed a b) (both_opened settings a b)
starts settings seed a b = record { leads = refl; helps = refl; commands = none_posted [] to_helper; replies = none_posted [] to_leader }

pub logs_are_a_run : LogsAreARun
logs_are_a_run settings seed a b one other e =
    let start = both_opened settings a b in
    let there = all_reached settings (opened_with settings seed a b) start e.order (starts settings seed a b) e.link in (
      there.events,
      record {
        ends = record {
          leads = there.stands.leads ∙ leader_is start e.order ∙ ap (fold (leader_opening settings a)) e.leader;
          helps = there.stands.helps ∙ helper_is start e.order ∙ ap (fold (helper_opening settings b)) e.helper;
        };
        few = omega (arith, there.few, count_is e.order, ap length e.leader, ap length e.helper);
        fit = λ foreign leads helps. there.fit foreign (all_foreign foreign e.order (subst (AreForeign foreign) (sym e.leader) leads) (subst (AreForeign foreign) (sym e.helper) helps));
      },
    )
