-- The challenge of a write comes to its client, in both runs.
use Rattle.std.proofs.Common.{◌≡◌, ℕ, false, sym, ap, ◌∙◌, subst, arith}
use Rattle.frame_rules.specs.Frames as frame
use Rattle.frame_rules.specs.Spelling.{IsFrame}
use Rattle.token_rules.specs.Tokens as token
use Rattle.run_rules.specs.Book.{Book}
use Rattle.run_rules.specs.Values.{ckey_at}
use Rattle.run_rules.specs.Frames.{frame_with, frame_of}
use Rattle.run_rules.specs.Follows.{opening_in}
use Rattle.run_rules.specs.Laws.{ComesFollows}
use Rattle.run_rules.proofs.HelperOrders.{asked_was_sent}
use Rattle.run_rules.proofs.ClientStays.{challenge_comes}

pub challenge_follows : (b : Book) (c s : ℕ) → b.foreign c ≡ false → ComesFollows b (token.Challenge c s)
unfolding frame_of
challenge_follows b c s hon o f v w i l k after e h carries =
    let is : carries.frame ≡ frame_with c s 0 (frame.Challenge (ckey_at b c s)) = cc carries.is in
    let fr = subst IsFrame is carries.spelled.is_frame in
    let first = fr.addressed in
    let honest : w.foreign c ≡ false = ap (λ foreign. foreign c) h.foreign ∙ hon in
    challenge_comes b o f w k.lawful.stages c s l (k.lawful.coherent.pool i (token.Challenge c s) e) (λ same.
    let last = k.lawful.openings c honest (omega (arith, first, same)) in
    last.opening ∙ sym (ap opening_in (asked_was_sent b w c (w.lanes c).serial last.request (k.within.sent c) last.is)))
    h hon carries
