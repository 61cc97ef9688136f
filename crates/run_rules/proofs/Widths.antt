-- Every box has the width at both servers' shares.
use Rattle.std.proofs.Common.{◌≡◌, ◌∙◌, ◌≤◌, ◌+◌, ◌-◌, ℕ, cond, true, false, Bool, List, length, take, Option, Some, None, slice_get, refl, ap, arith, length-drop}
use Rattle.express_words.specs.Limits.{levels_len}
use Rattle.dpf_rules.specs.Walk.{last_of, leaf_of, leaf_bytes}
use Rattle.dpf_rules.proofs.BoxLemmas.{length-write}
use Rattle.dpf_rules.proofs.WriteLemmas.{length-leaf_bytes}
use Rattle.mailbox_rules.specs.Requests.{Request, Register, Write, Read, Retire}
use Rattle.mailbox_rules.specs.Tables.{Mailbox}
use Rattle.mailbox_rules.specs.Widths.{AddsWithin}
use Rattle.mailbox_rules.proofs.Widths.{boxes_have_width}
use Rattle.step_rules.specs.Client.{Client}
use Rattle.step_rules.specs.ClientAsks.{root, public_part}
use Rattle.run_rules.specs.Book.{Book, request_of, client_at, message_of}
use Rattle.run_rules.specs.Values.{root_at, message_at, target_at, shares_at, writes_at}
use Rattle.run_rules.specs.Follows.{IsGood, Sound}

-- a request's message has the width, or there is none
message_few : (b : Book) (r : Option Request) → ((q : Request) → r ≡ Some q → IsGood b q)
    → length (message_of r) ≤ b.settings.width
message_few b (Some (Write target message)) h = let e = (h _ refl).1 in omega (arith, e)
message_few b (Some (Register address)) h = omega arith
message_few b (Some (Read own)) h = omega arith
message_few b (Some (Retire own)) h = omega arith
message_few b None h = omega arith

pub brought_length : (part : List ℕ) (width : ℕ) → length part ≡ levels_len + width → length (last_of part) ≡ width
unfolding last_of
brought_length part width e = length-drop 2064 part ∙ ap (λ n. n - 2064) e ∙ omega arith

own_length : (k : Client) (target : ℕ) (message : List ℕ) (leaf : ℕ)
    → length (leaf_bytes (public_part k target message) leaf) ≡ length message
unfolding public_part
own_length k target message leaf = length-leaf_bytes target message (root k 0) (root k 1) leaf

-- what a write adds to a box is no longer than the width
pub adds_within : (b : Book) (server : ℕ) → Sound b → AddsWithin b.settings.width (writes_at b server)
adds_within b server sound c s address accepted = by_lane (b.foreign c)
  where
    leaf : List ℕ → ℕ
    leaf part = leaf_of part server (root_at b server c s) address

    by_lane : (t : Bool) → (let part = cond t (b.brought.part c s) (public_part (client_at b c s) (target_at b c s) (message_at b c s)) in length (leaf_bytes part (leaf part)) ≤ b.settings.width)
    by_lane true =
        let e = length-write (b.brought.part c s) (leaf (b.brought.part c s)) ∙ brought_length (b.brought.part c s) b.settings.width (sound.parts c s) in
        omega (arith, e)
    by_lane false =
        let own = public_part (client_at b c s) (target_at b c s) (message_at b c s) in
        let e = own_length (client_at b c s) (target_at b c s) (message_at b c s) (leaf own) in
        let few = message_few b (request_of b c s) (λ q h. sound.requests c s q h) in
        omega (arith, e, few)

-- so each box at a server has the width
pub share_width : (b : Book) (server i n : ℕ) (box : Mailbox) → Sound b
    → slice_get (shares_at b server i).boxes n ≡ Some box → length box.bytes ≡ b.settings.width
unfolding shares_at
share_width b server i n box sound e =
    boxes_have_width b.settings.boxes b.settings.width (writes_at b server) (take i b.entries) n box (adds_within b server sound) e
