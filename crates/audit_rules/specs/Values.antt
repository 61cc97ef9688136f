-- A server's values in the audit of a write that has begun there.
use Rattle.std.specs.Prelude.{ℕ, List, take}
use Rattle.express_words.specs.Bytes.{xor_bytes}
use Rattle.dpf_rules.specs.Bytes.{number_of}
use Rattle.dpf_rules.specs.Evaluation.{leaves}
use Rattle.express_words.specs.declared.audit.ProofShare.{ProofShare}
use Rattle.express_words.specs.declared.audit.Openings.{Openings}
use Rattle.express_words.specs.declared.audit.Closing.{Closing}
use Rattle.audit_rules.specs.declared.sums.Sums.{Sums}
use Rattle.audit_rules.specs.Audit.{opening_of, opened_of, closing_of}
unfoldable pub use Rattle.audit_rules.specs.Audit.{accepts}
use Rattle.audit_rules.specs.Challenges.{sums_under}

-- what the audit of a write needs of a server: its root, the public part, how many boxes there were when
-- the write began, and the key of the challenges
pub record Write : Type 0 where
  pub root : ℕ
  pub part : List ℕ
  pub count : ℕ
  pub ckey : List ℕ

-- the key of the challenges: the sum of both servers' draws
abbrev pub ckey_of : List ℕ → List ℕ → List ℕ
ckey_of leader helper = xor_bytes leader helper

-- the point of a proof: the number that the first 16 bytes of a draw spell, the lowest byte first
abbrev pub sigma_of : List ℕ → ℕ
sigma_of draw = number_of (take 16 draw)

-- the sums of a server's leaves at the addresses of the write's boxes
unfoldable pub sums_at : ℕ → Write → List ℕ → Sums
sums_at server w addresses = sums_under w.ckey addresses (leaves w.part server w.root addresses)

-- what a server opens at the point sigma
unfoldable pub opens : ℕ → Write → List ℕ → ProofShare → ℕ → Openings
opens server w addresses share sigma = opening_of (sums_at server w addresses) share sigma

-- one server's values of an audit
pub record Values : Type 0 where
  pub opened : Openings
  pub closing : Closing

-- a server's values at the point sigma, where the other server opened `other`
unfoldable pub values : ℕ → Write → List ℕ → ProofShare → ℕ → Openings → Values
values server w addresses share sigma other =
    let own = opens server w addresses share sigma in
    record { opened = own; closing = closing_of server share sigma (opened_of other own) }

-- an audit's eight values, in the order in which a journal prints them
pub record AuditValues : Type 0 where
  pub d0 : ℕ
  pub e0 : ℕ
  pub d1 : ℕ
  pub e1 : ℕ
  pub o0 : ℕ
  pub tau0 : ℕ
  pub o1 : ℕ
  pub tau1 : ℕ

-- both servers' values of one audit
unfoldable pub audit_values : Values → Values → AuditValues
audit_values zero one =
    record {
      d0 = zero.opened.d;
      e0 = zero.opened.e;
      d1 = one.opened.d;
      e1 = one.opened.e;
      o0 = zero.closing.o;
      tau0 = zero.closing.tau;
      o1 = one.closing.o;
      tau1 = one.closing.tau;
    }
