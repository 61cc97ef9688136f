-- The audit of a write on numbers of the field of 2^128 elements. The sketch with two challenge vectors is
-- this project's own; its proof is a client's, in the manner of Prio (Corrigan-Gibbs and Boneh, NSDI 2017,
-- section 4), with two multiplication gates, x·y and M·z, and one multiplication triple. A sum of field
-- values is their XOR.
use Rattle.std.specs.Prelude.{◌≡◌, ℕ, ◌==◌, ◌&&◌, Bool, if◌then◌else◌, List, [], ◌∷◌, slice_index, bit_xor}
use Rattle.tower_numbers.specs.Levels.{product_at, inverse_at}
use Rattle.tower_laws.specs.Polynomials.{value_at, plus_of, times_of}
use Rattle.tower_laws.specs.Through.{through}
use Rattle.express_words.specs.declared.audit.ProofShare.{ProofShare}
use Rattle.express_words.specs.declared.audit.Openings.{Openings}
use Rattle.express_words.specs.declared.audit.Closing.{Closing}
use Rattle.audit_rules.specs.declared.sums.Sums.{Sums}
use Rattle.audit_rules.specs.Sketch as sketch
use Rattle.audit_rules.specs.Passing.{Passes}

-- ---- the sketch

-- the product of two numbers of the field
abbrev pub product : ℕ → ℕ → ℕ
product a b = product_at 7 a b

-- the four sums of a vector w under the challenge vectors r and s
unfoldable pub sums_of : List ℕ → List ℕ → List ℕ → Sums
sums_of w r s =
    record {
      x = sketch.dot 0 bit_xor product w r;
      y = sketch.dot 0 bit_xor product w s;
      m = sketch.total 0 bit_xor w;
      z = sketch.dot3 0 bit_xor product w r s;
    }

-- the one value of s at place b that can hide a vector whose places a and b aren't zero
unfoldable pub bad_s : List ℕ → List ℕ → ℕ → ℕ → ℕ
bad_s w s a b = sketch.bad_s 0 bit_xor product (inverse_at 7) w s a b

-- what divides in the bad value of r: w_a·(y + M·s_a)
unfoldable pub bad_r_divisor : List ℕ → List ℕ → ℕ → ℕ
bad_r_divisor w s a = sketch.divisor 0 bit_xor product w s a

-- the one value of r at place a that can hide such a vector, where s at b isn't bad
unfoldable pub bad_r : List ℕ → List ℕ → List ℕ → ℕ → ℕ
bad_r w r s a = sketch.bad_r 0 bit_xor product (inverse_at 7) w r s a

-- ---- the proof

-- the value of a polynomial at a point
abbrev pub value : List ℕ → ℕ → ℕ
value p at = value_at 0 bit_xor product p at

-- the polynomial of degree at most 2 that has these values at 0, 1 and 2
abbrev pub through_three : ℕ → ℕ → ℕ → List ℕ
through_three at0 at1 at2 = through bit_xor product 2 at0 at1 at2

abbrev pub f_of : Sums → ProofShare → List ℕ
f_of sums proof = through_three proof.u sums.x sums.m

abbrev pub g_of : Sums → ProofShare → List ℕ
g_of sums proof = through_three proof.v sums.y sums.z

-- the proof passes at the point sigma: h(1) + h(2) = 0 and sigma·(f(sigma)·g(sigma) + h(sigma)) + (a·b + c)
-- = 0
unfoldable pub PassesAt : Sums → ProofShare → ℕ → Type 0
PassesAt sums proof sigma =
    Passes 0 1 bit_xor product (f_of sums proof) (g_of sums proof) proof.h 2
    (bit_xor (product proof.a proof.b) proof.c) sigma

-- ---- what one server opens and closes

unfoldable pub opening_of : Sums → ProofShare → ℕ → Openings
opening_of sums share sigma =
    record {
      d = bit_xor (value (f_of sums share) sigma) share.a;
      e = bit_xor (product sigma (value (g_of sums share) sigma)) share.b;
    }

-- the sum of both servers' openings
abbrev pub opened_of : Openings → Openings → Openings
opened_of zero one = record { d = bit_xor zero.d one.d; e = bit_xor zero.e one.e }

-- server 0 alone adds d·e
unfoldable pub closing_of : ℕ → ProofShare → ℕ → Openings → Closing
closing_of server share sigma opened =
    record {
      o = bit_xor (value share.h 1) (value share.h 2);
      tau = bit_xor
          (bit_xor
          (bit_xor (bit_xor (product opened.d share.b) (product opened.e share.a)) share.c)
          (product sigma (value share.h sigma)))
          (if server == 0 then product opened.d opened.e else 0);
    }

-- whether both closings together accept: both sums over the servers are 0
unfoldable pub accepts : Closing → Closing → Bool
accepts zero one = (bit_xor zero.o one.o == 0) && (bit_xor zero.tau one.tau == 0)

-- the same as a statement
unfoldable pub IsAccepted : Closing → Closing → Type 0
IsAccepted zero one = (bit_xor zero.o one.o ≡ 0) × (bit_xor zero.tau one.tau ≡ 0)

-- both servers, each with its sums and its share, accept at the point sigma
unfoldable pub ServersAccept : Sums → Sums → ProofShare → ProofShare → ℕ → Type 0
ServersAccept sums0 sums1 share0 share1 sigma =
    let opened = opened_of (opening_of sums0 share0 sigma) (opening_of sums1 share1 sigma) in
    IsAccepted (closing_of 0 share0 sigma opened) (closing_of 1 share1 sigma opened)

-- ---- both servers together

unfoldable pub whole_sums : Sums → Sums → Sums
whole_sums zero one =
    record {
      x = bit_xor zero.x one.x;
      y = bit_xor zero.y one.y;
      m = bit_xor zero.m one.m;
      z = bit_xor zero.z one.z;
    }

unfoldable pub whole_proof : ProofShare → ProofShare → ProofShare
whole_proof zero one =
    record {
      u = bit_xor zero.u one.u;
      v = bit_xor zero.v one.v;
      h = plus_of bit_xor zero.h one.h;
      a = bit_xor zero.a one.a;
      b = bit_xor zero.b one.b;
      c = bit_xor zero.c one.c;
    }

-- the sum of both servers' vectors
abbrev pub difference : List ℕ → List ℕ → List ℕ
difference zero one = sketch.both bit_xor zero one

-- ---- a client's proof for the difference m at a place with the challenge r and s, from its sixteen words

unfoldable pub zero_share : List ℕ → ProofShare
zero_share words =
    record {
      u = slice_index words 2;
      v = slice_index words 4;
      h = slice_index words 6 ∷ (slice_index words 7 ∷ (slice_index words 8
          ∷ (slice_index words 9 ∷ (slice_index words 10 ∷ []))));
      a = slice_index words 11;
      b = slice_index words 13;
      c = slice_index words 15;
    }

abbrev pub honest_f : ℕ → ℕ → List ℕ → List ℕ
honest_f m r words = through_three (bit_xor (slice_index words 2) (slice_index words 3)) (product m r) m

abbrev pub honest_g : ℕ → ℕ → ℕ → List ℕ → List ℕ
honest_g m r s words =
    let masks = bit_xor (slice_index words 4) (slice_index words 5) in
    through_three masks (product m s) (product (product m r) s)

-- server 1's h is f·g plus server 0's, and its c is a·b plus server 0's
unfoldable pub one_share : ℕ → ℕ → ℕ → List ℕ → ProofShare
one_share m r s words =
    record {
      u = slice_index words 3;
      v = slice_index words 5;
      h = plus_of bit_xor
          (times_of 0 bit_xor product (honest_f m r words) (honest_g m r s words))
          (zero_share words).h;
      a = slice_index words 12;
      b = slice_index words 14;
      c = bit_xor
          (product
          (bit_xor (slice_index words 11) (slice_index words 12))
          (bit_xor (slice_index words 13) (slice_index words 14)))
          (slice_index words 15);
    }
