-- Bytes that are taken as they are wanted.
use Rattle.std.proofs.Common.{◌≡◌, ℕ, ◌≤◌, List, ◌++◌, length, drop, Option, Ok, Err, ap, append_assoc, arith}
use Rattle.std.specs.Int.{w32}
use Rattle.std.proofs.lemmas.Bool.Decides.{nat_tests}
use Rattle.std.proofs.lemmas.List.{length-append}
use Rattle.express_words.specs.Streams.{Stream, Gave}
use Rattle.frame_rules.specs.declared.fault.FrameFault.TheVariants.{Short}
use Rattle.frame_rules.specs.Bodies.{body_in}
use Rattle.frame_rules.specs.Frames.{PlainFrame}
use Rattle.frame_rules.specs.Gathering.{is_short, missing}
use Rattle.frame_rules.specs.Reading.{length_in, header_in, decoded}
use Rattle.frame_rules.proofs.Filling.{missing_room}
use Rattle.frame_rules.proofs.FormLaws.{bind_ok, ok_is}
use Rattle.frame_rules.proofs.GatheringLaws.{missing_is, length_missing}
use Rattle.frame_rules.proofs.GrammarLaws.{decoded_whole}
use Rattle.frame_rules.proofs.Growing.{Settles, number_grows}
use Rattle.frame_rules.proofs.Waiting.{decoded_short, header_length, length_limits}
use Rattle.node_exchange.specs.Taking.{IsWanted, IsOneFrame}

-- what a source gave in two takes
pub gave_more : (a b c : Option Stream) (x y : List ℕ) → Gave a b x → Gave b c y → Gave a c (x ++ y)
gave_more a b c x y g h = grind (arith, append_assoc)

-- a frame that was taken as it was wanted has nothing behind it
pub one_frame : (bytes : List ℕ) (x : PlainFrame × ℕ) → decoded bytes ≡ Ok x → IsWanted bytes → IsOneFrame bytes
unfolding decoded
one_frame bytes x e few =
    let h = bind_ok (header_in bytes) _ x e in
    let b = bind_ok (body_in h.0.kind h.0.lane h.0.serial h.0.left (drop 20 bytes)) _ x h.2 in
    let l = header_length bytes h.0 h.1 in
    let is = ok_is _ _ b.2 in
    (x.0, grind (arith, decoded_whole bytes x.0 x.1 e, l, length_limits bytes l.0 l.1))

-- what is wanted may be taken
pub more_wanted : (bytes more : List ℕ) → decoded bytes ≡ Err Short → length more ≤ missing bytes → IsWanted (bytes ++ more)
unfolding Settles length_in
more_wanted bytes more short few =
    grind (arith, nat_tests, number_grows w32 0 bytes more, length-append bytes more, missing_is bytes (ap is_short short), (decoded_short bytes short).length_right, length_missing bytes)

-- ---- what the calls cite

pub ruleset missing_laws = (missing_is, length_missing, missing_room, decoded_short)
