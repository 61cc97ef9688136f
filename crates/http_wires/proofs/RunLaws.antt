-- Requests are asked in the order in which they came.
use Rattle.std.proofs.Common.{◌≡◌, ℕ, inl, inr, Bool, true, false, List, [], ◌∷◌, ◌++◌, length, take, drop, refl, sym, ap, ◌∙◌, subst, append_assoc, append-nil, arith}
use Rattle.std.specs.Prelude.{Option, Some, ◌==◌, not}
use Rattle.std.specs.List.{flat_map}
use Rattle.std.proofs.lemmas.Bool.{ne_eqb}
use Rattle.std.proofs.lemmas.List.{drop_at, drop_all, take-append-drop}
use Rattle.std.proofs.lemmas.List.Concat.{flat_map-cons, flat_map-append}
use Rattle.http_door.specs.Hearing.{PlainHeard}
use Rattle.many_words.specs.declared.door.Door.{Door}
use Rattle.many_words.specs.declared.hub.Taken.{Taken}
use Rattle.many_words.specs.declared.hub.Taken.TheVariants.{Bytes, Over, Pending}
use Rattle.many_words.specs.Events.{Event, Came, Ended, Blocked}
use Rattle.http_wires.specs.declared.client.Turn.{Turn}
use Rattle.http_wires.specs.declared.client.Turn.TheVariants as turn
use Rattle.http_wires.specs.Clients.{Client, Fills, Gives, GivesOnly, GoesBy, Hears, HearsNext, IsAsked, Takes, More, Next, TakesBy, AsksNext, answered, is_kept, next_turn, with_bytes}
use Rattle.http_wires.specs.Runs.{AsksWhatCame, HoldsRest, Lives, Begun, Took, Replied, Silent, Reads, Waits, Then, asked_bytes, came_in, given_by}

-- ---- what was read

reads_more : (came : List ℕ) (hs : List PlainHeard) (rest bytes : List ℕ) → Reads came hs rest
    → Reads (came ++ bytes) hs (rest ++ bytes)
reads_more came hs rest bytes (Waits held) = Waits (rest ++ bytes)
reads_more came hs rest bytes (Then seen after later heard more last hears reads) =
    let on = reads_more (after ++ later) more rest bytes reads in
    subst (λ (t : List ℕ). Reads t (heard ∷ more) (rest ++ bytes)) (sym (append_assoc seen later bytes))
    (Then seen after (later ++ bytes) heard more (rest ++ bytes) hears
    (subst (λ (t : List ℕ). Reads t more (rest ++ bytes)) (append_assoc after later bytes) on))

reads_next : (came : List ℕ) (hs : List PlainHeard) (rest after : List ℕ) (heard : PlainHeard) → Hears rest heard after
    → Reads came hs rest → Reads came (hs ++ heard ∷ []) after
reads_next came hs rest after heard hears (Waits held) =
    subst (λ (t : List ℕ). Reads t (heard ∷ []) after) (append-nil rest)
    (Then rest after [] heard [] after hears (subst (λ (t : List ℕ). Reads t [] after) (sym (append-nil after)) (Waits after)))
reads_next came hs rest after heard hears (Then seen behind later first more last hears_first reads) =
    Then seen behind later first (more ++ heard ∷ []) after hears_first
    (reads_next (behind ++ later) more rest after heard hears reads)

-- ---- the steps

more_held : (t : Turn) (held rest bytes : List ℕ) → HoldsRest t held rest → HoldsRest t (held ++ bytes) (rest ++ bytes)
more_held turn.Raw held rest bytes same = ap (λ (x : List ℕ). x ++ bytes) same
more_held turn.Client held rest bytes same = ap (λ (x : List ℕ). x ++ bytes) same
more_held (turn.Server keeps) held rest bytes same = ap (λ (x : List ℕ). x ++ bytes) same
more_held turn.Over held rest bytes same = tt

filled : (came gave bytes : List ℕ) (p : Client) → AsksWhatCame came gave p → AsksWhatCame (came ++ bytes) gave (with_bytes bytes p)
filled came gave bytes p now = record {
  requests = now.requests;
  rest = now.rest ++ bytes;
  reads = reads_more came now.requests now.rest bytes now.reads;
  asks = now.asks;
  held = more_held p.turn p.held now.rest bytes now.held;
}

given : (came gave buf : List ℕ) (n : ℕ) (p q : Client) → Gives p n buf q → AsksWhatCame came gave p
    → AsksWhatCame came (gave ++ take n buf) q
given came gave buf n p q gives now =
    subst (AsksWhatCame came (gave ++ take n buf)) (sym gives.rest) (record {
      requests = now.requests;
      rest = now.rest;
      reads = now.reads;
      asks =
          append_assoc gave (take n buf) (drop n p.coming)
          ∙ ap (λ (t : List ℕ). gave ++ (t ++ drop n p.coming)) gives.bytes
          ∙ ap (λ (t : List ℕ). gave ++ t) (take-append-drop n p.coming) ∙ now.asks;
      held = now.held;
    })

kept_turn : (keeps : Bool) (held rest : List ℕ) → held ≡ rest → HoldsRest (next_turn keeps) held rest
kept_turn true held rest same = same
kept_turn false held rest same = tt

replied_turn : (t : Turn) (held coming rest : List ℕ) → HoldsRest t held rest
    → HoldsRest (next_turn (is_kept (record { held = held; coming = coming; turn = t }))) held rest
replied_turn turn.Raw held coming rest same = tt
replied_turn turn.Client held coming rest same = tt
replied_turn (turn.Server keeps) held coming rest same = kept_turn _ held rest same
replied_turn turn.Over held coming rest same = tt

replied : (came gave : List ℕ) (p : Client) → AsksWhatCame came gave p → AsksWhatCame came gave (answered (is_kept p) p)
replied came gave p now = record {
  requests = now.requests;
  rest = now.rest;
  reads = now.reads;
  asks = now.asks;
  held = replied_turn p.turn p.held p.coming now.rest now.held;
}

silent : (came gave : List ℕ) (p : Client) → AsksWhatCame came gave p → AsksWhatCame came gave (answered false p)
silent came gave p now =
    record { requests = now.requests; rest = now.rest; reads = now.reads; asks = now.asks; held = tt }

same_client : (came gave : List ℕ) (p q : Client) → q ≡ p → AsksWhatCame came gave p → AsksWhatCame came gave q
same_client came gave p q is now = subst (AsksWhatCame came gave) (sym is) now

at_held : (t : Turn) (held rest : List ℕ) → t ≡ turn.Client → HoldsRest t held rest → held ≡ rest
at_held t held rest is same = subst (λ (u : Turn). HoldsRest u held rest) is same

one_more : (hs : List PlainHeard) (heard : PlainHeard)
    → flat_map asked_bytes (hs ++ heard ∷ []) ≡ flat_map asked_bytes hs ++ asked_bytes heard
one_more hs heard =
    flat_map-append asked_bytes hs (heard ∷ [])
    ∙ ap (λ (t : List ℕ). flat_map asked_bytes hs ++ t) (flat_map-cons asked_bytes heard [] ∙ append-nil (asked_bytes heard))

hears_on : (came gave : List ℕ) (p q : Client) → p.turn ≡ turn.Client → p.coming ≡ [] → HearsNext p q
    → AsksWhatCame came gave p → AsksWhatCame came gave q
hears_on came gave p q turn none (inl w) now = same_client came gave p q w.1 now
hears_on came gave p q turn none (inr w) now = asked w.3 where
  heard : PlainHeard
  heard = w.0

  reads : Reads came (now.requests ++ w.0 ∷ []) w.1
  reads = reads_next came now.requests now.rest w.1 w.0
      (subst (λ (t : List ℕ). Hears t w.0 w.1) (at_held p.turn p.held now.rest turn now.held) w.2) now.reads

  gave_all : gave ≡ flat_map asked_bytes now.requests
  gave_all = sym (append-nil gave) ∙ ap (λ (t : List ℕ). gave ++ t) (sym none) ∙ now.asks

  asked : IsAsked w.0 w.1 p q → AsksWhatCame came gave q
  asked (inl is) =
      same_client came gave _ q is (record {
        requests = now.requests ++ w.0 ∷ [];
        rest = w.1;
        reads = reads;
        asks = ap (λ (t : List ℕ). t ++ asked_bytes w.0) gave_all ∙ sym (one_more now.requests w.0);
        held = refl;
      })
  asked (inr is) =
      same_client came gave _ q is.1
      (record { requests = now.requests; rest = now.rest; reads = now.reads; asks = now.asks; held = tt })

goes_by : (came gave : List ℕ) (t : Turn) (p q : Client) → p.turn ≡ t → p.coming ≡ [] → GoesBy t p q
    → AsksWhatCame came gave p → AsksWhatCame came gave q
goes_by came gave turn.Raw p q is none goes now = same_client came gave p q goes now
goes_by came gave turn.Client p q is none goes now = hears_on came gave p q is none goes now
goes_by came gave (turn.Server keeps) p q is none goes now = same_client came gave p q goes now
goes_by came gave turn.Over p q is none goes now =
    same_client came gave _ q goes
    (record { requests = now.requests; rest = now.rest; reads = now.reads; asks = now.asks; held = over }) where
      over : HoldsRest p.turn [] now.rest
      over = subst (λ (u : Turn). HoldsRest u [] now.rest) (sym is) tt

-- ---- takes

asks_next : (came gave buf : List ℕ) (seen : Taken) (p : Client) (result : Taken) (q : Client) → p.coming ≡ []
    → AsksNext seen p result buf q → AsksWhatCame came gave p → AsksWhatCame came (gave ++ given_by result buf) q
asks_next came gave buf seen p (Bytes n) q none next now =
    given came gave buf n next.0 q next.2.1 (goes_by came gave p.turn p next.0 refl none next.1 now)
asks_next came gave buf seen p Over q none next now =
    subst (λ (t : List ℕ). AsksWhatCame came t q) (sym (append-nil gave))
    (same_client came gave next.0 q next.2.1 (goes_by came gave p.turn p next.0 refl none next.1 now))
asks_next came gave buf seen p Pending q none next now = absurd next.2

settles : (came gave buf : List ℕ) (seen : Taken) (p : Client) (result : Taken) (q : Client) → p.coming ≡ []
    → TakesBy seen p result buf q → AsksWhatCame came gave p → AsksWhatCame came (gave ++ given_by result buf) q
settles came gave buf (Bytes n) p result q none by now = asks_next came gave buf (Bytes n) p result q none by now
settles came gave buf Over p result q none by now = asks_next came gave buf Over p result q none by now
settles came gave buf Pending p result q none by now =
    subst (λ (t : Taken). AsksWhatCame came (gave ++ given_by t buf) q) (sym by.0)
    (subst (λ (t : List ℕ). AsksWhatCame came t q) (sym (append-nil gave)) (same_client came gave p q by.1 now))

abbrev told : List Event → Option (List Event)
told events = Some events

some_is : (a b : List Event) → told a ≡ told b → a ≡ b
some_is a b e = cc

-- a call that was made behind the others
last : (old new : List Event) (event : Event) → new ≡ old ++ event ∷ [] → drop (length old) new ≡ event ∷ []
last old new event adds = ap (drop (length old)) adds ∙ drop_at old (event ∷ []) (length old) refl

came_nothing : (came gave : List ℕ) (p : Client) (old new : List Event) → came_in (drop (length old) new) ≡ []
    → AsksWhatCame came gave p → AsksWhatCame (came ++ came_in (drop (length old) new)) gave p
came_nothing came gave p old new none now =
    subst (λ (t : List ℕ). AsksWhatCame t gave p) (sym (ap (λ (t : List ℕ). came ++ t) none ∙ append-nil came)) now

fills : (came gave : List ℕ) (old new : List Event) (place : ℕ) (door : Door) (seen : Taken) (p q : Client)
    → Fills (Some old) (Some new) place door seen p q → AsksWhatCame came gave p
    → AsksWhatCame (came ++ came_in (drop (length old) new)) gave q
fills came gave old new place door (Bytes n) p q w now =
    let bytes : came_in (drop (length old) new) ≡ w.0 = ap came_in (last old new (Came place w.0) w.1) ∙ append-nil w.0 in
    subst (λ (t : List ℕ). AsksWhatCame (came ++ t) gave q) (sym bytes)
    (same_client (came ++ w.0) gave _ q w.2 (filled came gave w.0 p now))
fills came gave old new place door Over p q w now =
    came_nothing came gave q old new (ap came_in (last old new (Ended place) w.0)) (same_client came gave p q w.1 now)
fills came gave old new place door Pending p q w now =
    came_nothing came gave q old new (ap came_in (last old new (Blocked place) w.1)) (same_client came gave p q w.2 now)

fills_coming : (old new : List Event) (place : ℕ) (door : Door) (seen : Taken) (p q : Client)
    → Fills (Some old) (Some new) place door seen p q → p.coming ≡ [] → q.coming ≡ []
fills_coming old new place door (Bytes n) p q w none = ap (λ (c : Client). c.coming) w.2 ∙ none
fills_coming old new place door Over p q w none = ap (λ (c : Client). c.coming) w.1 ∙ none
fills_coming old new place door Pending p q w none = ap (λ (c : Client). c.coming) w.2 ∙ none

no_ask : (xs : List ℕ) → not (length xs == 0) ≡ false → xs ≡ []
no_ask [] e = refl
no_ask (x ∷ xs) e = absurd (apart (sym (ap not (ne_eqb (length (x ∷ xs)) 0 (λ h. omega (arith, h)))) ∙ e)) where
  apart : true ≡ false → ⊥
  apart h = cc

gives_only : (came gave buf : List ℕ) (p : Client) (result : Taken) (q : Client) → GivesOnly p result buf q
    → AsksWhatCame came gave p → AsksWhatCame came (gave ++ given_by result buf) q
gives_only came gave buf p (Bytes n) q gives now = given came gave buf n p q gives now
gives_only came gave buf p Over q gives now = absurd gives
gives_only came gave buf p Pending q gives now = absurd gives

takes : (came gave : List ℕ) (old new : List Event) (place : ℕ) (door : Door) (p : Client) (result : Taken) (buf : List ℕ)
    (q : Client) → Takes (Some old) (Some new) place door p result buf q → AsksWhatCame came gave p
    → AsksWhatCame (came ++ came_in (drop (length old) new)) (gave ++ given_by result buf) q
takes came gave old new place door p result buf q (More asking same gives) now =
    came_nothing came (gave ++ given_by result buf) q old new
    (ap came_in (drop_all (length old) new (omega (arith, ap length (some_is new old same)))))
    (gives_only came gave buf p result q gives now)
takes came gave old new place door p result buf q (Next idle seen mid fill by) now =
    let none : p.coming ≡ [] = no_ask p.coming idle in
    settles (came ++ came_in (drop (length old) new)) gave buf seen mid result q
    (fills_coming old new place door seen p mid fill none) by (fills came gave old new place door seen p mid fill now)

pub asked_in_order : (came gave : List ℕ) (p : Client) → Lives came gave p → AsksWhatCame came gave p
asked_in_order came gave p Begun = record { requests = []; rest = []; reads = Waits []; asks = refl; held = refl }
asked_in_order came gave p (Took before old new place door result buf q step) =
    takes _ _ old new place door _ result buf q step (asked_in_order _ _ _ before)
asked_in_order came gave p (Replied before) = replied _ _ _ (asked_in_order _ _ _ before)
asked_in_order came gave p (Silent before) = silent _ _ _ (asked_in_order _ _ _ before)
