-- The outstanding commands, which are kept as bytes, and beside each what it orders.
use Rattle.std.specs.Prelude.{◌≡◌, ℕ, ◌+◌, Bool, true, false, Result, Ok, Err, List, [], ◌∷◌, ◌++◌, length, map, filter, slice_index_or, Option, Some, None}
use Rattle.express_words.specs.declared.refusal.Refusal.{Refusal}
use Rattle.frame_rules.specs.Frames as frame
use Rattle.frame_rules.specs.Frames.{PlainFrame, PlainBody}
use Rattle.frame_rules.specs.Whole.{whole, refused_bytes}
use Rattle.link_order.specs.Link.{Outstanding, IsOutstanding}
use Rattle.leader_core.specs.declared.issued.CommandOrder.{CommandOrder}
use Rattle.leader_core.specs.declared.issued.CommandOrder.TheVariants as order
use Rattle.leader_core.specs.declared.issued.Issued.{Issued}

abbrev pub frame_or : Result PlainFrame Refusal → PlainFrame
frame_or (Ok f) = f
frame_or (Err r) = refused_bytes r

abbrev pub frame_at : List ℕ → PlainFrame
frame_at bytes = frame_or (whole bytes)

abbrev pub commands_in : List (List ℕ) → List PlainFrame
commands_in frames = map frame_at frames

abbrev pub is_audit : PlainBody → Bool
is_audit (frame.LinkAudit sigma opened) = true
is_audit body = false

-- how many of them are audits, each of which a settle may follow
abbrev pub audits_in : List (List ℕ) → ℕ
audits_in frames = length (filter (λ bytes. is_audit (frame_at bytes).body) frames)

-- one command more
abbrev pub with_command : Outstanding → List ℕ → Outstanding
with_command link bytes = record {
  next = link.next + 1;
  window = link.window;
  size = link.size;
  frames = link.frames ++ bytes ∷ [];
}

abbrev pub order_in : PlainBody → Option CommandOrder
order_in (frame.LinkRegister address) = Some (order.Register address)
order_in (frame.LinkBegin drawn part) = Some order.Begin
order_in (frame.LinkAudit sigma opened) = Some order.Audit
order_in (frame.LinkSettle own) = Some order.Settle
order_in (frame.LinkRead number) = Some (order.Read number)
order_in (frame.LinkRetire number) = Some (order.Retire number)
order_in body = None

-- the command of a frame
pub record IsIssued (c : PlainFrame) (i : Issued) : Type 0 where
  pub lane : c.lane ≡ i.lane
  pub serial : c.serial ≡ i.serial
  pub link : c.link ≡ i.link
  pub order : order_in c.body ≡ i.order

-- the frame of this number, for a lane's request
abbrev pub frame_for : ℕ → ℕ → ℕ → PlainBody → PlainFrame
frame_for lane serial number body = record { lane = lane; serial = serial; link = number; body = body }

-- what a command is known by
abbrev pub issued_in : PlainFrame → Issued
issued_in c = record { lane = c.lane; serial = c.serial; link = c.link; order = order_in c.body }

abbrev pub issued_at : List ℕ → Issued
issued_at bytes = issued_in (frame_at bytes)

-- the oldest of them
abbrev pub first_of : Outstanding → PlainFrame
first_of link = frame_at (slice_index_or link.frames 0 [])

-- beside the bytes of each stands what it is
pub record AreCommands (link : Outstanding) (issued : List Issued) (capacity : ℕ) : Type 0 where
  pub order : IsOutstanding link
  pub room : capacity ≡ link.window
  pub beside : map issued_at link.frames ≡ issued
