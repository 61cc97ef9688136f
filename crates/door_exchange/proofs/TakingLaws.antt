-- Bytes that are taken as they are wanted.
use Rattle.std.proofs.Common.{◌≡◌, ℕ, ◌+◌, ◌≤◌, List, [], ◌++◌, length, take, Ok, None, Some, refl, sym, ap}
use Rattle.std.proofs.Common.{◌∙◌, subst, append-nil, inr, append_assoc, arith}
use Rattle.std.specs.Prelude.{Option, Result, Err}
use Rattle.std.proofs.Math.Seq.{take-add}
use Rattle.std.proofs.lemmas.Grind.{common_steps}
use Rattle.std.proofs.lemmas.List.{length-append}
use borrow.Rule.Slice.PartMut.{put_mid}
use Rattle.express_words.specs.Streams.{Stream, Gave}
use Rattle.http_door.specs.declared.request.Path.{Path}
use Rattle.http_door.specs.declared.reply.Reply.{Reply}
use Rattle.http_door.specs.declared.reply_fault.ReplyFault.{ReplyFault}
use Rattle.http_door.specs.Replies.{PlainReply, plain_reply}
use Rattle.http_door.specs.Reading.{IsRead, plain_read}
use Rattle.door_exchange.specs.Taking.{IsWanted}

-- what a source gave in two takes
pub gave_more : (a b c : Option Stream) (x y : List ℕ) → Gave a b x → Gave b c y → Gave a c (x ++ y)
gave_more a b c x y g h = grind (arith, append_assoc)

-- the bytes of one take behind those before
pub put : (count more k : ℕ) (into taken : List ℕ) → count ≤ length into → more ≤ length taken
    → take (count + more) (put_mid count k into taken) ≡ take count into ++ take more taken
put count more k into taken within few =
    grind (arith, common_steps, take-add count more (put_mid count k into taken))

-- a take of nothing leaves what was taken before
pub front : (count k : ℕ) (into taken : List ℕ) → count ≤ length into
    → take count (put_mid count k into taken) ≡ take count into
front count k into taken within = grind (arith, common_steps)

pub gave_none : (a b c : Option Stream) (x : List ℕ) → Gave a b x → Gave b c [] → Gave a c x
gave_none a b c x g h = grind (arith, append-nil)

-- what was read begins with an answer, where it isn't that more must come
pub whole_read : (path : Path) (held : List ℕ) (o : Option Reply) → (o ≡ None → ⊥)
    → IsRead path held (plain_read (Ok o)) → (reply : PlainReply) × IsRead path held (Ok (Some reply))
whole_read path held None some read = absurd (some refl)
whole_read path held (Some reply) some read = (plain_reply reply, read)

-- a take of no bytes gives nothing
pub gave_zero : (a b c : Option Stream) (x buf : List ℕ) (n : ℕ) → n ≡ 0 → Gave a b x → Gave b c (take n buf)
    → Gave a c x
gave_zero a b c x buf n none g h =
    gave_none a b c x g (subst (λ (k : ℕ). Gave b c (take k buf)) none h)

-- where an answer was read, no other is
pub not_none : (r : Result (Option Reply) ReplyFault) (o : Option Reply) (s : PlainReply) → r ≡ Ok o
    → o ≡ None
    → plain_read r ≡ Ok (Some s) → ⊥
not_none r o s is none once =
    let more = ap (λ (q : Option Reply). plain_read (Ok q)) none in
    absurd (cc (sym more ∙ sym (ap plain_read is) ∙ once))

pub not_err : (r : Result (Option Reply) ReplyFault) (e : ReplyFault) (s : PlainReply) → r ≡ Err e
    → plain_read r ≡ Ok (Some s) → ⊥
not_err r e s is once = absurd (cc (sym (ap plain_read is) ∙ once))

-- what was waited for may be taken
pub more_wanted : (path : Path) (front last : List ℕ) → length front + length last ≤ 12358
    → IsRead path front (Ok None) → IsWanted path (front ++ last)
more_wanted path front last few read = record {
  few = omega (arith, length-append front last);
  awaited = inr (front, last, refl, read);
}
