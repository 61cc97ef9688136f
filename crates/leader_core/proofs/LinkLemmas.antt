-- The link after the oldest command's reply, and what bytes of the helper come to.
use Rattle.std.proofs.Common.{◌≡◌, ◌<◌, ◌≤◌, ◌+◌, ℕ, Bool, true, false, cond, List, [], ◌∷◌, ◌++◌, length, drop, get_or, Option, Some, None, refl, sym, ap, subst, ◌∙◌, arith}
use Rattle.std.specs.Prelude.{filter, slice_get, ◌==◌, ◌&&◌}
use Rattle.std.proofs.lemmas.List.{drop-map, length-append}
use Rattle.std.proofs.lemmas.List.Elements.{All-append, All-cons, All-drop, All-nil, filter-append}
use Rattle.express_words.specs.declared.audit.Closing.{Closing}
use Rattle.express_words.specs.declared.settings.Settings.{Settings}
use Rattle.link_order.specs.Link.{Outstanding, IsOutstanding}
use Rattle.frame_rules.specs.Frames as frame
use Rattle.frame_rules.specs.Frames.{PlainFrame, PlainBody}
use Rattle.frame_rules.specs.Spelling.{spelling, IsFrame}
use Rattle.frame_rules.specs.Whole.{answer, on_link}
use Rattle.step_rules.specs.Leader as steps
use Rattle.step_rules.specs.LeaderReplies.{answers, fits, if_fits, if_reply, ignored, refusal_in}
use Rattle.leader_core.specs.declared.stores.LeaderStores.{LeaderStores}
use Rattle.leader_core.specs.declared.issued.Issued.{Issued}
use Rattle.leader_core.specs.declared.turn.Ack.{Ack}
use Rattle.leader_core.specs.declared.turn.Ack.TheVariants as ack
use Rattle.leader_core.specs.Commands.{IsIssued}
use Rattle.leader_core.specs.Replies.{settled_with, told}
use Rattle.leader_core.specs.Slots.{kept_of}
use Rattle.leader_core.specs.Commands.{commands_in, frame_at, audits_in, is_audit, with_command}
use Rattle.leader_core.specs.State.{leader_in, IsCommand, AreStores, IsLink}
use Rattle.leader_core.specs.Told.{DoesAck, WritesFront}
use Rattle.leader_core.proofs.IssueLemmas.{audits_more, commands_more, frame_is, is_command}

abbrev pub dropped : Outstanding → Outstanding
dropped link = record { next = link.next; window = link.window; size = link.size; frames = drop 1 link.frames }

-- ---- the audits among the commands

one_audit : (bytes : List ℕ) (t : Bool) → is_audit (frame_at bytes).body ≡ t → audits_in (bytes ∷ []) ≡ cond t 1 0
one_audit bytes true e = rw e refl
one_audit bytes false e = rw e refl

audits_drop : (frames : List (List ℕ)) → 0 < length frames → audits_in frames ≡ audits_in (get_or frames 0 [] ∷ []) + audits_in (drop 1 frames)
audits_drop [] h = absurd (omega arith)
audits_drop (x ∷ xs) h =
    let p = λ (b : List ℕ). is_audit (frame_at b).body in
    ap length (filter-append p (x ∷ []) xs) ∙ length-append (filter p (x ∷ [])) (filter p xs)

pub link_less : (settings : Settings) (link : Outstanding) (draws : ℕ) → IsLink settings link draws → 0 < length link.frames → IsOutstanding (dropped link) → IsLink settings (dropped link) draws
link_less settings link draws is some order = record {
  window = is.window;
  size = is.size;
  order = order;
  commands = All-drop (IsCommand settings.lanes) 1 link.frames is.commands;
  last = let before = is.last in let parts = audits_drop link.frames some in omega arith;
  drawn = is.drawn;
}

pub link_settled : (settings : Settings) (link : Outstanding) (draws : ℕ) (c : PlainFrame) → IsLink settings link draws → 0 < length link.frames → is_audit (frame_at (get_or link.frames 0 [])).body ≡ true →
    IsFrame c → is_audit c.body ≡ false → c.lane < settings.lanes → 1 ≤ c.serial → IsOutstanding (with_command (dropped link) (spelling c)) → IsLink settings (with_command (dropped link) (spelling c)) draws
link_settled settings link draws c is some first is_frame other below serial order = record {
  window = is.window;
  size = is.size;
  order = order;
  commands = All-append (IsCommand settings.lanes) (drop 1 link.frames) (spelling c ∷ []) (All-drop (IsCommand settings.lanes) 1 link.frames is.commands)
      (All-cons (IsCommand settings.lanes) (spelling c) [] (is_command settings.lanes c is_frame below serial) (All-nil (IsCommand settings.lanes)));
  last =
      let before = is.last in
      let parts = audits_drop link.frames some in
      let head : audits_in (get_or link.frames 0 [] ∷ []) ≡ 1 = one_audit (get_or link.frames 0 []) true first in
      let added : audits_in (spelling c ∷ []) ≡ 0 = one_audit (spelling c) false (ap (λ (x : PlainFrame). is_audit x.body) (frame_is c is_frame) ∙ other) in
      let sum = audits_more (drop 1 link.frames) (spelling c) in
      omega arith;
  drawn = let before = is.drawn in omega arith;
}

-- ---- a lane's reply, and the settle

pub told_does : (c : LeaderStores) (l : Outstanding) (f reply : PlainFrame) (lane len : ℕ) (old new : List ℕ) → AreStores c → 0 < length c.link.frames → l ≡ dropped c.link → IsOutstanding l →
    reply ≡ answer f (kept_of (steps.row_at (leader_in c) f.lane).stage) → lane ≡ f.lane → len ≡ length (spelling reply) → WritesFront (spelling reply) old new →
    DoesAck (told (leader_in c) f) (record c { link = l }) (ack.Reply lane len) old new
told_does c l f reply lane len old new is some link_is order reply_is lane_is len_is front = record {
  leader = ap (λ (x : Outstanding). leader_in (record c { link = x })) link_is ∙ ap (λ (xs : List PlainFrame). record (leader_in c) { outstanding = xs }) (sym (drop-map frame_at 1 c.link.frames));
  acked = record {
    ack = ap (λ n. let x : Ack = ack.Reply n len in x) lane_is ∙ ap (λ n. let x : Ack = ack.Reply f.lane n in x) (len_is ∙ ap (λ (r : PlainFrame). length (spelling r)) reply_is);
    bytes = subst (λ (r : PlainFrame). WritesFront (spelling r) old new) reply_is front;
  };
  is = record { server = is.server; link = subst (λ (x : Outstanding). IsLink c.settings x c.draws) (sym link_is) (link_less c.settings c.link c.draws is.link some (subst IsOutstanding link_is order)) };
}

pub settled_does : (c : LeaderStores) (l : Outstanding) (f command : PlainFrame) (own : Closing) (number len : ℕ) (old new : List ℕ) → AreStores c → 0 < length c.link.frames →
    is_audit (frame_at (get_or c.link.frames 0 [])).body ≡ true → f.lane < c.settings.lanes → 1 ≤ f.serial → command ≡ on_link f c.link.next (frame.LinkSettle own) → IsFrame command →
    l ≡ with_command (dropped c.link) (spelling command) → IsOutstanding l → number ≡ c.link.next → len ≡ length (spelling command) → WritesFront (spelling command) old new →
    DoesAck (settled_with (leader_in c) f own) (record c { link = l }) (ack.Link number len) old new
settled_does c l f command own number len old new is some first below serial command_is is_frame link_is order number_is len_is front =
    let cmd = on_link f c.link.next (frame.LinkSettle own) in
    let right : IsFrame cmd = subst IsFrame command_is is_frame in
    let now : l ≡ with_command (dropped c.link) (spelling cmd) = link_is ∙ ap (λ (x : PlainFrame). with_command (dropped c.link) (spelling x)) command_is in
    record {
      leader =
          ap (λ (x : Outstanding). leader_in (record c { link = x })) now
          ∙ ap (λ (xs : List PlainFrame). record (leader_in c) { outstanding = xs; next = c.link.next + 1 })
          (commands_more (drop 1 c.link.frames) cmd right ∙ ap (λ (xs : List PlainFrame). xs ++ cmd ∷ []) (sym (drop-map frame_at 1 c.link.frames)));
      acked = record {
        ack = ap (λ n. let x : Ack = ack.Link n len in x) number_is ∙ ap (λ n. let x : Ack = ack.Link c.link.next n in x) (len_is ∙ ap (λ (r : PlainFrame). length (spelling r)) command_is);
        bytes = subst (λ (r : PlainFrame). WritesFront (spelling r) old new) command_is front;
      };
      is = record {
        server = is.server;
        link = subst (λ (x : Outstanding). IsLink c.settings x c.draws) (sym now) (link_settled c.settings c.link c.draws cmd is.link some first right refl below serial (subst IsOutstanding now order));
      };
    }

-- ---- bytes of the helper

pub ignores : (c : LeaderStores) (t : steps.AckTurn) (out : List ℕ) → AreStores c → t ≡ ignored (leader_in c) → DoesAck t c ack.Ignored out out
ignores c t out is t_is =
    let x : Ack = ack.Ignored in
    subst (λ (y : steps.AckTurn). DoesAck y c x out out) (sym t_is) (record { leader = refl; acked = record { ack = refl; bytes = record { front = refl; rest = refl } }; is = is })

pub no_reply : (a : steps.Leader) (o : Option PlainFrame) → o ≡ None → if_reply a o ≡ ignored a
unfolding if_reply
no_reply a o e = rw e refl

pub a_reply : (a : steps.Leader) (o : Option PlainFrame) (f : PlainFrame) → o ≡ Some f → if_reply a o ≡ answers a f (slice_get a.outstanding 0)
unfolding if_reply
a_reply a o f e = rw e refl

pub first_in : (frames : List (List ℕ)) → 0 < length frames → slice_get (commands_in frames) 0 ≡ Some (frame_at (get_or frames 0 []))
first_in [] h = absurd (omega arith)
first_in (x ∷ xs) h = refl

pub none_waits : (a : steps.Leader) (f : PlainFrame) (frames : List (List ℕ)) → frames ≡ [] → answers a f (slice_get (commands_in frames) 0) ≡ ignored a
unfolding answers
none_waits a f frames e = rw e refl

same_command : (f c : PlainFrame) (i : Issued) → IsIssued c i → ((f.link == c.link) && ((f.lane == c.lane) && (f.serial == c.serial))) ≡ ((f.link == i.link) && ((f.lane == i.lane) && (f.serial == i.serial)))
same_command f c i is = rw (is.link, is.lane, is.serial) refl

pub not_its : (a : steps.Leader) (f c : PlainFrame) (i : Issued) (o : Option PlainFrame) → o ≡ Some c → IsIssued c i → ((f.link == i.link) && ((f.lane == i.lane) && (f.serial == i.serial))) ≡ false → answers a f o ≡ ignored a
unfolding answers
not_its a f c i o e is never = rw e (ap (λ (b : Bool). cond b (if_fits a (fits a c f.body (refusal_in f.body))) (ignored a)) (same_command f c i is ∙ never))

pub its : (a : steps.Leader) (f c : PlainFrame) (i : Issued) (o : Option PlainFrame) → o ≡ Some c → IsIssued c i → ((f.link == i.link) && ((f.lane == i.lane) && (f.serial == i.serial))) ≡ true →
    answers a f o ≡ if_fits a (fits a c f.body (refusal_in f.body))
unfolding answers
its a f c i o e is sure = rw e (ap (λ (b : Bool). cond b (if_fits a (fits a c f.body (refusal_in f.body))) (ignored a)) (same_command f c i is ∙ sure))
