-- What holds of a leader that was opened.
use Rattle.std.proofs.Common.{◌≡◌, ℕ, List, [], length, replicate, refl, sym, ap, subst, ◌∙◌, arith}
use Rattle.std.specs.Global.{Global}
use Rattle.std.specs.Prelude.{All, Vec}
use Rattle.std.proofs.lemmas.List.{length-map, length-replicate}
use Rattle.std.proofs.lemmas.List.Elements.{All-nil}
use Rattle.express_words.specs.declared.settings.Settings.{Settings}
use Rattle.link_order.specs.Link.{Outstanding, IsOutstanding}
use Rattle.server_boxes.specs.Held.{Holdings}
use Rattle.step_rules.specs.Boxes.{addresses_of}
use Rattle.step_rules.specs.Leader.{idle}
use Rattle.leader_core.specs.declared.slot.LeaderSlot.{LeaderSlot}
use Rattle.leader_core.specs.Slots.{row_in, rows_in, IsLeaderSlot}
use Rattle.leader_core.specs.State.{IsCommand, AreStores, IsLink}

opened_link : (settings : Settings) →
    IsOutstanding (record { next = 1; window = settings.window; size = 8213; frames = [] }) → IsLink settings (record { next = 1; window = settings.window; size = 8213; frames = [] }) 0
opened_link settings order = record {
  window = refl;
  size = refl;
  order = order;
  commands = All-nil (IsCommand settings.lanes);
  last = omega arith;
  drawn = omega arith;
}

pub opened_core : (settings : Settings) (held : Holdings) (slots : Vec LeaderSlot Global) (link : Outstanding) (seed : List ℕ) →
    held ≡ record { width = settings.width; limit = settings.boxes; boxes = [] } → rows_in slots.items ≡ replicate settings.lanes idle → All (IsLeaderSlot settings.width settings.boxes []) slots.items →
    link ≡ record { next = 1; window = settings.window; size = 8213; frames = [] } → IsOutstanding link →
    AreStores (record { settings = settings; boxes = held; slots = slots; link = link; draws = 0; seed = seed })
opened_core settings held slots link seed held_is rows all link_is order = record {
  server = record {
    limit = ap (λ (h : Holdings). h.limit) held_is;
    within = let none = ap (λ (h : Holdings). length h.boxes) held_is in omega arith;
    width = ap (λ (h : Holdings). h.width) held_is;
    lanes = sym (length-map slots.items row_in) ∙ (ap length rows ∙ length-replicate settings.lanes idle);
    rows = subst (λ (h : Holdings). All (IsLeaderSlot settings.width settings.boxes (addresses_of h.boxes)) slots.items) (sym held_is) all;
  };
  link = subst (λ (l : Outstanding). IsLink settings l 0) (sym link_is) (opened_link settings (subst IsOutstanding link_is order));
}
