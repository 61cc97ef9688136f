use Rattle.std.proofs.Common.{◌≡◌, List, sym, ap, subst, ◌∙◌, length, arith}
use Rattle.std.specs.Prelude.{All}
use Rattle.frame_rules.specs.Frames.{plain}
use Rattle.frame_rules.specs.Spelling.{spelling}
use Rattle.frame_rules.proofs.GrammarLaws.{spelling_limit}
use Rattle.step_rules.specs.Boxes.{addresses_of}
use Rattle.step_rules.specs.Helper.{Server, Turn}
use Rattle.helper_core.specs.declared.slot.HelperSlot.{HelperSlot}
use Rattle.helper_core.specs.Slots.{rows_in, IsHelperSlot}
use Rattle.helper_core.specs.State.{server_in, IsServer}
use Rattle.helper_core.proofs.RowLemmas.{written_whole, is_of}
use Rattle.helper_core.proofs.server.Server.hear_client.Goals as goal

pub returns-clause-server : goal.returns-clause-server
returns-clause-server c =
    let i = c.self.inside in
    let turn = c.answer_client-reply.ensures.turn c.args.self.now (is_of c.args.self.now i.settings i.boxes i.slots.items c.deref_mut.result.now i.draws i.seed c.self.view_is c.deref_mut.ensures.value) in
    let same : length c.answer_client-reply.new.slots ≡ length i.slots.items = c.answer_client-reply.auto.slots ∙ ap length c.deref_mut.ensures.value in
    ap (λ (xs : List HelperSlot). server_in i.settings i.boxes xs i.draws i.seed) (written_whole i.slots.len c.answer_client-reply.new.slots i.slots.items same (omega arith))
    ∙ (ap (λ (h : Server). record h { rows = rows_in c.answer_client-reply.new.slots }) c.self.view_is
    ∙ ap (λ (t : Turn). t.server) (sym turn))

pub returns-clause-written : goal.returns-clause-written
returns-clause-written c =
    let i = c.self.inside in
    let turn = c.answer_client-reply.ensures.turn c.args.self.now (is_of c.args.self.now i.settings i.boxes i.slots.items c.deref_mut.result.now i.draws i.seed c.self.view_is c.deref_mut.ensures.value) in
    c.encode_into.ensures.spelled.spelled ∙ ap (λ (t : Turn). spelling t.reply) (sym turn)

pub returns-clause-length : goal.returns-clause-length
returns-clause-length c =
    let i = c.self.inside in
    let turn = c.answer_client-reply.ensures.turn c.args.self.now (is_of c.args.self.now i.settings i.boxes i.slots.items c.deref_mut.result.now i.draws i.seed c.self.view_is c.deref_mut.ensures.value) in
    c.encode_into.ensures.length ∙ ap (λ (t : Turn). length (spelling t.reply)) (sym turn)

pub encode_into-requires-clause-room : goal.encode_into-requires-clause-room
encode_into-requires-clause-room c = let l = spelling_limit (plain c.answer_client-reply.result) c.answer_client-reply.ensures.is_frame in omega arith

pub invariant_of-self : goal.invariant_of-self
invariant_of-self c =
    let i = c.self.inside in
    let v = c.self.invariant in
    let same : length c.answer_client-reply.new.slots ≡ length i.slots.items = c.answer_client-reply.auto.slots ∙ ap length c.deref_mut.ensures.value in
    let held = subst (All (IsHelperSlot i.settings.width i.settings.boxes (addresses_of i.boxes.boxes))) (sym c.deref_mut.ensures.value) v.rows in
    subst (IsServer i.settings i.boxes) (sym (written_whole i.slots.len c.answer_client-reply.new.slots i.slots.items same (omega arith)))
    (record {
      limit = v.limit;
      within = v.within;
      width = v.width;
      lanes = same ∙ v.lanes;
      rows = c.answer_client-reply.ensures.slots i.settings.width i.settings.boxes (addresses_of i.boxes.boxes) held;
    })
