-- Exchanges and bytes after others.
use Rattle.std.proofs.Common.{◌≡◌, ℕ, List, [], ◌∷◌, ◌++◌, flat_map, Option, Some, None, append_assoc, refl, sym, ap, ◌∙◌, subst}
use Rattle.std.proofs.lemmas.List.{append-nil}
use Rattle.std.proofs.lemmas.Grind.{flat_map-append}
use Rattle.express_words.specs.Streams.{Took, TookPrefix}
use Rattle.node_client.specs.declared.finished.Finished.{Finished}
use Rattle.node_client.specs.declared.peers.Peers.{Peers}
use Rattle.node_client.specs.Talks.{Talk}
use Rattle.node_client.proofs.TalkLaws.{talks_both}
use Rattle.client_run.specs.Texts.{outcome_line}
use Rattle.client_run.specs.Telling.{Moment, Passed, PassedPart, TookPart, lines_of}

pub took_nothing : (old : Option (List ℕ)) → Took old old []
took_nothing None = tt
took_nothing (Some bytes) = sym (append-nil bytes)

pub took_both : (old mid new : Option (List ℕ)) (front text : List ℕ) → Took old mid front → Took mid new text
    → Took old new (front ++ text)
took_both None mid new front text one two = tt
took_both (Some old) None new front text one two = absurd one
took_both (Some old) (Some mid) None front text one two = absurd two
took_both (Some old) (Some mid) (Some new) front text one two =
    two ∙ ap (λ bytes. bytes ++ text) one ∙ append_assoc old front text

pub took_part : (old new : Option (List ℕ)) (text : List ℕ) → TookPrefix old new text → TookPart [] text old new
took_part old new text h = record { front = h.0; rest = h.1; cut = h.2; took = h.3 }

pub part_behind : (old mid new : Option (List ℕ)) (sure next : List ℕ) → Took old mid sure → TookPart [] next mid new
    → TookPart sure next old new
part_behind old mid new sure next one two = record {
  front = two.front;
  rest = two.rest;
  cut = two.cut;
  took = took_both old mid new sure two.front one two.took;
}

pub passed_both : (peers : Peers) (made more : List Talk) (bytes others : List ℕ) (a b c : Moment)
    → Passed peers made bytes a b → Passed peers more others b c → Passed peers (made ++ more) (bytes ++ others) a c
passed_both peers made more bytes others a b c one two = record {
  calls = talks_both peers made more a.calls b.calls c.calls one.calls two.calls;
  written = took_both a.written b.written c.written bytes others one.written two.written;
}

pub passed_part : (peers : Peers) (made more : List Talk) (bytes next : List ℕ) (a b c : Moment)
    → Passed peers made bytes a b → PassedPart peers more [] next b c → PassedPart peers (made ++ more) bytes next a c
passed_part peers made more bytes next a b c one two = record {
  calls = talks_both peers made more a.calls b.calls c.calls one.calls two.calls;
  written = part_behind a.written b.written c.written bytes next one.written two.written;
}

-- nothing more was written
pub passed_silent : (peers : Peers) (made more : List Talk) (bytes : List ℕ) (a b c : Moment)
    → Passed peers made bytes a b → Passed peers more [] b c → Passed peers (made ++ more) bytes a c
passed_silent peers made more bytes a b c one two =
    subst (λ (x : List ℕ). Passed peers (made ++ more) x a c) (append-nil bytes)
    (passed_both peers made more bytes [] a b c one two)

pub lines_more : (finished : List Finished) (f : Finished)
    → lines_of finished ++ outcome_line f ≡ lines_of (finished ++ f ∷ [])
lines_more finished f =
    ap (λ (x : List ℕ). lines_of finished ++ x) (sym (append-nil (outcome_line f)))
    ∙ sym (flat_map-append outcome_line finished (f ∷ []))
