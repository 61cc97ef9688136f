-- What the frames of requests hold.
use Rattle.std.proofs.Common.{◌≡◌, ℕ, List, Option, Some, None, slice_get, false, refl, ap}
use Rattle.express_words.specs.declared.audit.ProofShare.{ProofShare}
use Rattle.frame_rules.specs.declared.frame.DepositBody.{DepositBody}
use Rattle.frame_rules.specs.declared.frame.DepositBody.TheVariants as deposit
use Rattle.frame_rules.specs.Frames as frame
use Rattle.frame_rules.specs.Frames.{PlainFrame, PlainBody}
use Rattle.dpf_rules.specs.Expansion.{owner_key}
use Rattle.mailbox_rules.specs.Requests.{Request, Register, Write, Read, Retire}
use Rattle.lane_table.specs.declared.row.Want.TheVariants as want
use Rattle.step_rules.specs.Client.{Client, Owned}
use Rattle.step_rules.specs.ClientAsks.{root, deposit_of, read_deposit, submission_of, read_submission, owned_token, proof_of, share_for}
use Rattle.step_rules.specs.Helper.{want_in}
use Rattle.run_rules.specs.Letters.{client_seed}
use Rattle.run_rules.specs.Book.{Book, request_of, wants, client_at, target_of, message_of}
use Rattle.run_rules.specs.Values.{share_at, ckey_at}
use Rattle.run_rules.specs.Frames.{frame_with, from_client, if_asked, deposit_at, submission_at, proof_at}

pub record FromClient (c s : ℕ) (o : Option PlainBody) (f : PlainFrame) : Type 0 where
  pub body : PlainBody
  pub is : o ≡ Some body
  pub frame : frame_with c s 0 body ≡ f

pub from_client_is : (c s : ℕ) (o : Option PlainBody) (f : PlainFrame) → from_client c s o ≡ Some f
    → FromClient c s o f
from_client_is c s (Some body) f e = record { body = body; is = refl; frame = cc }
from_client_is c s None f e = absurd (cc e)

-- ---- deposits

pub record Deposits (r : Option Request) (body : PlainBody) : Type 0 where
  pub held : DepositBody
  pub is : frame.Deposit held ≡ body
  pub want : want_in held ≡ wants r

pub deposit_is : (b : Book) (c s : ℕ) (body : PlainBody) → deposit_at b c s ≡ Some body
    → Deposits (request_of b c s) body
unfolding deposit_at deposit_of read_deposit
deposit_is b c s body e = by_request (client_at b c s) (request_of b c s) e
  where
    by_own : (k : Client) (own : Option Owned) (n : ℕ) → read_deposit k own ≡ Some body
        → Deposits (Some (Read n)) body
    by_own k (Some own) n e = record { held = deposit.Read (owned_token k (λ o. o.key1) own); is = cc; want = refl }
    by_own k None n e = absurd (cc e)

    by_request : (k : Client) (r : Option Request) → if_asked (deposit_of k) r ≡ Some body → Deposits r body
    by_request k (Some (Register address)) e = record { held = deposit.Register (owner_key k.seed k.serial 1); is = cc; want = refl }
    by_request k (Some (Write target message)) e = record { held = deposit.Write (root k 1); is = cc; want = refl }
    by_request k (Some (Read own)) e = by_own k (slice_get k.owned own) own e
    by_request k (Some (Retire own)) e = let d = by_own k (slice_get k.owned own) own e in record { held = d.held; is = d.is; want = d.want }
    by_request k None e = absurd (cc e)

-- ---- submissions of registers

pub register_is : (b : Book) (c s address : ℕ) (key : List ℕ)
    → submission_at b c s ≡ Some (frame.Register address key) → request_of b c s ≡ Some (Register address)
unfolding submission_at submission_of read_submission
register_is b c s address key e = by_request (client_at b c s) (request_of b c s) e
  where
    by_own : (k : Client) (own : Option Owned)
        → read_submission k frame.Read own ≡ Some (frame.Register address key) → ⊥
    by_own k (Some own) e = cc e
    by_own k None e = cc e

    by_retired : (k : Client) (own : Option Owned)
        → read_submission k frame.Retire own ≡ Some (frame.Register address key) → ⊥
    by_retired k (Some own) e = cc e
    by_retired k None e = cc e

    by_request : (k : Client) (r : Option Request)
        → if_asked (submission_of k) r ≡ Some (frame.Register address key) → r ≡ Some (Register address)
    by_request k (Some (Register other)) e = let same : other ≡ address = cc in ap (λ a. Some (Register a)) same
    by_request k (Some (Write target message)) e = absurd (cc e)
    by_request k (Some (Read own)) e = absurd (by_own k (slice_get k.owned own) e)
    by_request k (Some (Retire own)) e = absurd (by_retired k (slice_get k.owned own) e)
    by_request k None e = absurd (cc e)

-- the key at the leader that a register brings
abbrev pub key_of : Book → ℕ → ℕ → List ℕ
key_of b c s = owner_key (client_seed b.seed c) s 0

pub register_body : (b : Book) (c s address : ℕ) (body : PlainBody)
    → request_of b c s ≡ Some (Register address) → submission_at b c s ≡ Some body
    → body ≡ frame.Register address (key_of b c s)
unfolding submission_at submission_of
register_body b c s address body q e =
    let k : if_asked (submission_of (client_at b c s)) (Some (Register address)) ≡ Some body = rw q at e in cc

-- ---- proofs

pub record Proofs (b : Book) (server c s : ℕ) (body : PlainBody) : Type 0 where
  pub share : ProofShare
  pub is : frame.Proof share ≡ body
  pub share_is : share ≡ share_at b server c s
  pub want : wants (request_of b c s) ≡ want.Write

pub proof_is : (b : Book) (server c s : ℕ) (body : PlainBody) → b.foreign c ≡ false
    → proof_at b server c s ≡ Some body → Proofs b server c s body
unfolding proof_at proof_of share_at
proof_is b server c s body hon e =
    let a = by_request (client_at b c s) (ckey_at b c s) (request_of b c s) e in
    record { share = share_for (client_at b c s) (target_of (request_of b c s)) (message_of (request_of b c s)) (ckey_at b c s) server; is = a.0; share_is = rw hon refl; want = a.1 }
  where
    by_request : (k : Client) (ckey : List ℕ) (r : Option Request)
        → if_asked (λ q. proof_of k q ckey server) r ≡ Some body
        → (frame.Proof (share_for k (target_of r) (message_of r) ckey server) ≡ body) × (wants r ≡ want.Write)
    by_request k ckey (Some (Write target message)) e = (cc, refl)
    by_request k ckey (Some (Register address)) e = absurd (cc e)
    by_request k ckey (Some (Read own)) e = absurd (cc e)
    by_request k ckey (Some (Retire own)) e = absurd (cc e)
    by_request k ckey None e = absurd (cc e)
