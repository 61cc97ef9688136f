-- The words of proofs, openings and closings are numbers of the field.
use Rattle.std.specs.Prelude.{◌≡◌, ℕ, ◌<◌, ◌^◌, length, All}
use Rattle.express_words.specs.declared.audit.ProofShare.{ProofShare}
use Rattle.express_words.specs.declared.audit.Openings.{Openings}
use Rattle.express_words.specs.declared.audit.Closing.{Closing}

-- a number of the field, and of 16 bytes
abbrev pub IsWord : ℕ → Type 0
IsWord n = n < 2 ^ 128

pub record IsProofShare (share : ProofShare) : Type 0 where
  pub u : IsWord share.u
  pub v : IsWord share.v
  pub h : All IsWord share.h
  pub size : length share.h ≡ 5
  pub a : IsWord share.a
  pub b : IsWord share.b
  pub c : IsWord share.c

pub record IsOpenings (opened : Openings) : Type 0 where
  pub d : IsWord opened.d
  pub e : IsWord opened.e

pub record IsClosing (closing : Closing) : Type 0 where
  pub o : IsWord closing.o
  pub tau : IsWord closing.tau
