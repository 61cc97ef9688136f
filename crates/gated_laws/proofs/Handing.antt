-- The frames that gates hand on are deliveries to their cores.
use Rattle.std.proofs.Common.{◌≡◌, ℕ, ◌≤◌, Bool, List, [], ◌∷◌, ◌++◌, length, Option, Some, None}
use Rattle.std.proofs.Common.{append-nil, refl, sym, ◌∙◌, ap, subst, arith}
use Rattle.express_words.specs.declared.settings.Settings.{Settings}
use Rattle.step_rules.specs.Helper.{opened_helper}
use Rattle.node_restart.specs.declared.server.Core.{Core}
use Rattle.node_restart.specs.declared.server.Core.TheVariants.{Lead, Help}
use Rattle.node_restart.specs.Frames.{Handed}
use Rattle.node_restart.specs.Steps.{fold_from}
use Rattle.log_laws.specs.Journals as core
use Rattle.log_laws.specs.Journals.{AreEachOthers, AreForeign, AtHelper, AtLeader, Both, Delivery}
use Rattle.log_laws.specs.Journals.{LogsAreARun, MayAllCome, both_opened}
use Rattle.gated_servers.specs.Helpers.{opened_gated}
use Rattle.gated_servers.specs.Leaders.{opened_leading}
use Rattle.gated_servers.specs.Runs.{HelpersTakeAPart, LeadersTakeAPart}
use Rattle.gated_servers.specs.Runs.{frames_in, helper_behind, leader_behind}
use Rattle.gated_laws.specs.Logs.{GatedLogsAreARun, GatedPair, Logging, OfHelper, OfLeader}
use Rattle.gated_laws.specs.Logs.{IsOfOther, MayAllBeLogged, MayBeLogged, behind, cores, pair_opened}
use Rattle.gated_laws.specs.Logs.{helper_hands, helpers, leader_hands, leaders, written_for_other}
use Rattle.gated_laws.proofs.Framed.{fewer_foreign, helper_framed, leader_framed}
use Rattle.gated_laws.proofs.Moves.{core_behind, helper_core, leader_core}

-- deliveries of what the gates hand on, which may come in this order and lead to the same cores
record Delivers (p : GatedPair) (order : List Logging) : Type 0 where
  deliveries : List Delivery
  link : MayAllCome (cores p) deliveries
  leads : fold_from (Lead p.leader.leader) (core.leaders deliveries)
      ≡ Lead (leader_behind p.leader (leaders order)).leader
  helps : fold_from (Help p.helper.helper) (core.helpers deliveries)
      ≡ Help (helper_behind p.helper (helpers order)).helper
  few_lead : length (core.leaders deliveries) ≤ length (leaders order)
  few_help : length (core.helpers deliveries) ≤ length (helpers order)
  foreign_lead : (foreign : ℕ → Bool) → AreForeign foreign (frames_in (leaders order))
      → AreForeign foreign (core.leaders deliveries)
  foreign_help : (foreign : ℕ → Bool) → AreForeign foreign (frames_in (helpers order))
      → AreForeign foreign (core.helpers deliveries)

leader_same : (b : Both) (c d : Core) (xs ys : List (List ℕ)) → c ≡ d → xs ≡ ys
    → record b { leader = c; commands = xs } ≡ record b { leader = d; commands = ys }
leader_same b c d xs ys one two =
    ap (λ (k : Core). record b { leader = k; commands = xs }) one
    ∙ ap (λ (k : List (List ℕ)). record b { leader = d; commands = k }) two

helper_same : (b : Both) (c d : Core) (xs ys : List (List ℕ)) → c ≡ d → xs ≡ ys
    → record b { helper = c; replies = xs } ≡ record b { helper = d; replies = ys }
helper_same b c d xs ys one two =
    ap (λ (k : Core). record b { helper = k; replies = xs }) one
    ∙ ap (λ (k : List (List ℕ)). record b { helper = d; replies = k }) two

module _ (helpers_take : HelpersTakeAPart) (leaders_take : LeadersTakeAPart)
    (p : GatedPair) (bytes : List ℕ) (order : List Logging) where
  abbrev leader_wrote : Option Handed → List (List ℕ)
  leader_wrote o = p.commands ++ written_for_other (Lead p.leader.leader) o

  abbrev helper_wrote : Option Handed → List (List ℕ)
  helper_wrote o = p.replies ++ written_for_other (Help p.helper.helper) o

  leader_next : (o : Option Handed) → leader_hands p.leader bytes ≡ o → MayBeLogged p (OfLeader bytes)
      → Delivers (behind p (OfLeader bytes)) order → Delivers p (OfLeader bytes ∷ order)
  leader_next None is may rest =
      let moved = leader_core leaders_take p.leader bytes ∙ ap (core_behind (Lead p.leader.leader)) is in
      let wrote = ap leader_wrote is ∙ append-nil p.commands in
      let same = leader_same (cores p) _ _ _ _ moved wrote in
      record {
        deliveries = rest.deliveries;
        link = subst (λ b. MayAllCome b rest.deliveries) same rest.link;
        leads = ap (λ c. fold_from c (core.leaders rest.deliveries)) (sym moved) ∙ rest.leads;
        helps = rest.helps;
        few_lead = omega (arith, rest.few_lead);
        few_help = rest.few_help;
        foreign_lead = λ foreign are.
            let fewer = fewer_foreign foreign bytes (frames_in (leaders order)) are in
            rest.foreign_lead foreign fewer;
        foreign_help = rest.foreign_help;
      }
  leader_next (Some h) is may rest =
      let moved = leader_core leaders_take p.leader bytes ∙ ap (core_behind (Lead p.leader.leader)) is in
      let wrote = ap leader_wrote is in
      let same = leader_same (cores p) _ _ _ _ moved wrote in
      record {
        deliveries = AtLeader h ∷ rest.deliveries;
        link = (
          subst (λ o. IsOfOther o p.replies) is may,
          subst (λ b. MayAllCome b rest.deliveries) same rest.link,
        );
        leads = ap (λ c. fold_from c (core.leaders rest.deliveries)) (sym moved) ∙ rest.leads;
        helps = rest.helps;
        few_lead = omega (arith, rest.few_lead);
        few_help = rest.few_help;
        foreign_lead = λ foreign are.
            let first = leader_framed p.leader bytes h (frames_in (leaders order)) is in
            let all = subst (AreForeign foreign) first are in
            (all.0, rest.foreign_lead foreign all.1);
        foreign_help = rest.foreign_help;
      }

  helper_next : (o : Option Handed) → helper_hands p.helper bytes ≡ o → MayBeLogged p (OfHelper bytes)
      → Delivers (behind p (OfHelper bytes)) order → Delivers p (OfHelper bytes ∷ order)
  helper_next None is may rest =
      let moved = helper_core helpers_take p.helper bytes ∙ ap (core_behind (Help p.helper.helper)) is in
      let wrote = ap helper_wrote is ∙ append-nil p.replies in
      let same = helper_same (cores p) _ _ _ _ moved wrote in
      record {
        deliveries = rest.deliveries;
        link = subst (λ b. MayAllCome b rest.deliveries) same rest.link;
        leads = rest.leads;
        helps = ap (λ c. fold_from c (core.helpers rest.deliveries)) (sym moved) ∙ rest.helps;
        few_lead = rest.few_lead;
        few_help = omega (arith, rest.few_help);
        foreign_lead = rest.foreign_lead;
        foreign_help = λ foreign are.
            let fewer = fewer_foreign foreign bytes (frames_in (helpers order)) are in
            rest.foreign_help foreign fewer;
      }
  helper_next (Some h) is may rest =
      let moved = helper_core helpers_take p.helper bytes ∙ ap (core_behind (Help p.helper.helper)) is in
      let wrote = ap helper_wrote is in
      let same = helper_same (cores p) _ _ _ _ moved wrote in
      record {
        deliveries = AtHelper h ∷ rest.deliveries;
        link = (
          subst (λ o. IsOfOther o p.commands) is may,
          subst (λ b. MayAllCome b rest.deliveries) same rest.link,
        );
        leads = rest.leads;
        helps = ap (λ c. fold_from c (core.helpers rest.deliveries)) (sym moved) ∙ rest.helps;
        few_lead = rest.few_lead;
        few_help = omega (arith, rest.few_help);
        foreign_lead = rest.foreign_lead;
        foreign_help = λ foreign are.
            let first = helper_framed p.helper bytes h (frames_in (helpers order)) is in
            let all = subst (AreForeign foreign) first are in
            (all.0, rest.foreign_help foreign all.1);
      }

all_deliver : HelpersTakeAPart → LeadersTakeAPart → (p : GatedPair) (order : List Logging)
    → MayAllBeLogged p order → Delivers p order
all_deliver helpers_take leaders_take p [] may = record {
  deliveries = [];
  link = tt;
  leads = refl;
  helps = refl;
  few_lead = omega arith;
  few_help = omega arith;
  foreign_lead = λ foreign are. tt;
  foreign_help = λ foreign are. tt;
}
all_deliver helpers_take leaders_take p (OfLeader bytes ∷ order) may =
    let rest = all_deliver helpers_take leaders_take (behind p (OfLeader bytes)) order may.1 in
    leader_next helpers_take leaders_take p bytes order (leader_hands p.leader bytes) refl may.0 rest
all_deliver helpers_take leaders_take p (OfHelper bytes ∷ order) may =
    let rest = all_deliver helpers_take leaders_take (behind p (OfHelper bytes)) order may.1 in
    helper_next helpers_take leaders_take p bytes order (helper_hands p.helper bytes) refl may.0 rest

pub gated_logs_are_a_run : HelpersTakeAPart → LeadersTakeAPart → LogsAreARun → GatedLogsAreARun
gated_logs_are_a_run helpers_take leaders_take logs_are_a_run seed leader helper one other pair =
    let settings = leader.server.settings in
    let all = all_deliver helpers_take leaders_take (pair_opened leader helper) pair.order pair.link in
    let a = leader.server.seed in
    let b = helper.server.seed in
    let helpers_core = λ (s : Settings). Help (opened_helper s b) in
    let start : cores (pair_opened leader helper) ≡ both_opened settings a b =
    ap (λ (s : Settings). record (both_opened settings a b) { helper = helpers_core s }) pair.settings in
    let came = core.leaders all.deliveries in
    let came_there = core.helpers all.deliveries in
    let each : AreEachOthers settings a b came came_there = record {
      order = all.deliveries;
      leader = refl;
      helper = refl;
      link = subst (λ both. MayAllCome both all.deliveries) start all.link;
    } in
    let there = logs_are_a_run settings seed a b came came_there each in
    let leads = ap (λ r. Lead (leader_behind (opened_leading leader) r).leader) pair.leads in
    let helps = ap (λ r. Help (helper_behind (opened_gated helper) r).helper) pair.helps in
    let opens = ap (λ (s : Settings). fold_from (helpers_core s) came_there) pair.settings in
    let one_length = ap length pair.leads in
    let other_length = ap length pair.helps in (
      there.0,
      record {
        ends = record {
          leads = there.1.ends.leads ∙ all.leads ∙ leads;
          helps = there.1.ends.helps ∙ sym opens ∙ all.helps ∙ helps;
        };
        few = omega (arith, there.1.few, all.few_lead, all.few_help, one_length, other_length);
        fit = λ foreign one_are other_are.
            let lead_are = subst (λ r. AreForeign foreign (frames_in r)) (sym pair.leads) one_are in
            let help_are = subst (λ r. AreForeign foreign (frames_in r)) (sym pair.helps) other_are in
            there.1.fit foreign (all.foreign_lead foreign lead_are) (all.foreign_help foreign help_are);
      },
    )
