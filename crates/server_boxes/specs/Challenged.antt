-- A write that was given challenges, without where its slices lie.
use Rattle.std.specs.Prelude.{ℕ, List}
use Rattle.audit_rules.specs.Values.{Write}
use Rattle.server_boxes.specs.declared.challenged.ChallengedWrite.{ChallengedWrite}

pub record PlainChallenged : Type 0 where
  pub serial : ℕ
  pub ckey : List ℕ
  pub part : List ℕ

abbrev pub plain_challenged : ChallengedWrite → PlainChallenged
plain_challenged c = record { serial = c.serial; ckey = c.ckey; part = c.part.now }

-- what of a write of this serial a proof has to prove
abbrev pub challenged_of : ℕ → Write → PlainChallenged
challenged_of serial w = record { serial = serial; ckey = w.ckey; part = w.part }
