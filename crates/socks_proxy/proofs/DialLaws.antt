-- The calls of dials through a proxy.
use Rattle.std.proofs.Common.{◌≡◌, inl, inr, ℕ, ◌==◌, Bool, true, false, List, [], ◌∷◌, ◌++◌, Option, Some, None, refl, sym, ◌∙◌, ap, append_assoc, arith}
use Rattle.std.proofs.lemmas.List.{append-nil}
use Rattle.express_words.specs.Calls.{Call, Dialled, Closed, Adds, GivesTelling, AddsClose}
use Rattle.express_words.specs.Seen.{Seen}
use Rattle.express_words.specs.Streams.{Stream, Gave, Took, TookPrefix}
use Rattle.socks_proxy.specs.Talks.{IsYes}
use Rattle.socks_proxy.specs.Dials.{Makes, unreached, ReachesOn, RefusedOn, IsOpened}

pub makes_one : (a b : Option (List Call)) (x : Call) → Adds a b x → Makes a b (x ∷ [])
makes_one a None x h = tt
makes_one None (Some b) x h = absurd h
makes_one (Some a) (Some b) x h = h

pub makes_more : (a b c : Option (List Call)) (xs ys : List Call) → Makes a b xs → Makes b c ys → Makes a c (xs ++ ys)
makes_more a b None xs ys h k = tt
makes_more a None (Some c) xs ys h k = absurd k
makes_more None (Some b) (Some c) xs ys h k = absurd h
makes_more (Some a) (Some b) (Some c) xs ys h k = k ∙ ap (λ z. z ++ ys) h ∙ append_assoc a xs ys

pub makes_two : (a b c : Option (List Call)) (x y : Call) → Adds a b x → Adds b c y → Makes a c (x ∷ (y ∷ []))
makes_two a b c x y h k = makes_more a b c (x ∷ []) (y ∷ []) (makes_one a b x h) (makes_one b c y k)

-- the first place, or the second of two
pub reaches_first : (place : List ℕ) (others : List (List ℕ)) (a b : Option (List Call)) → Adds a b (Dialled place false)
    → ReachesOn (place ∷ others) a b
reaches_first place others a b h = (Dialled place false ∷ [], makes_one a b _ h, ([], place, others, refl, refl))

pub reaches_second : (one two : List ℕ) (a b c : Option (List Call)) → Adds a b (Dialled one true) → Adds b c (Dialled two false)
    → ReachesOn (one ∷ (two ∷ [])) a c
reaches_second one two a b c h k =
    (Dialled one true ∷ (Dialled two false ∷ []), makes_two a b c _ _ h k, (one ∷ [], two, [], refl, refl))

-- no call at all, and places that weren't reached
pub refused_before : (places : List (List ℕ)) (said : List ℕ) (a : Option (List Call)) → RefusedOn places said a a
refused_before places said None = ([], tt, inl refl)
refused_before places said (Some a) = ([], sym (append-nil a), inl refl)

pub refused_unreached : (places : List (List ℕ)) (said : List ℕ) (a b : Option (List Call)) → Makes a b (unreached places)
    → RefusedOn places said a b
refused_unreached places said a b h = (unreached places, h, inr (inl refl))

-- a connection that was refused is closed
closed_at : (places : List (List ℕ)) (said : List ℕ) (a : Option (List Call)) (b c : List Call) (given wrote now : List ℕ) (whole : Bool)
    → ReachesOn places a (Some b) → wrote ≡ [] → TookPrefix (Some wrote) (Some now) said → c ≡ b ++ Closed given now whole ∷ []
    → RefusedOn places said a (Some c)
closed_at places said None b c given wrote now whole reached blank took closed = absurd reached.1
closed_at places said (Some a) b c given wrote now whole reached blank took closed =
    let taken : now ≡ took.0 = took.3 ∙ ap (λ z. z ++ took.0) blank in (
      reached.0 ++ Closed given now whole ∷ [],
      closed ∙ ap (λ z. z ++ Closed given now whole ∷ []) reached.1 ∙ append_assoc a reached.0 (Closed given now whole ∷ []),
      inr (inr (reached.0, given, now, took.1, whole, reached.2, took.2 ∙ ap (λ z. z ++ took.1) (sym taken), refl)),
    )

pub refused_closed : (places : List (List ℕ)) (said : List ℕ) (a b c : Option (List Call)) (fc nc : Option Stream) (fw nw : Option (List ℕ)) (faults : ℕ)
    → ReachesOn places a b → GivesTelling b fc fw → TookPrefix fw nw said → AddsClose b c nc nw faults → RefusedOn places said a c
refused_closed places said a b None fc nc fw nw faults reached fresh took closed = ([], tt, inl refl)
refused_closed places said a b (Some c) fc None fw nw faults reached fresh took closed = absurd closed
refused_closed places said a b (Some c) fc (Some s) fw None faults reached fresh took closed = absurd closed
refused_closed places said a None (Some c) fc (Some s) fw (Some w) faults reached fresh took closed = absurd closed
refused_closed places said a (Some b) (Some c) None (Some s) fw (Some w) faults reached fresh took closed = absurd fresh
refused_closed places said a (Some b) (Some c) (Some f) (Some s) None (Some w) faults reached fresh took closed = absurd fresh
refused_closed places said a (Some b) (Some c) (Some f) (Some s) (Some v) (Some w) faults reached fresh took closed =
    closed_at places said a b c s.given v w (faults == 0) reached fresh.1 took closed

-- a connection whose proxy said yes
pub opened : (calls : Option (List Call)) (fc nc : Option Stream) (fw nw : Option (List ℕ)) (said answer : List ℕ) (now : Seen)
    → now.content ≡ nc → now.written ≡ nw → GivesTelling calls fc fw → Took fw nw said → Gave fc nc answer → IsYes answer → IsOpened calls now said
opened None fc nc fw nw said answer now is_c is_w fresh took gave granted = tt
opened (Some b) None nc fw nw said answer now is_c is_w fresh took gave granted = absurd fresh
opened (Some b) (Some f) nc None nw said answer now is_c is_w fresh took gave granted = absurd fresh
opened (Some b) (Some f) None (Some v) nw said answer now is_c is_w fresh took gave granted = absurd gave
opened (Some b) (Some f) (Some s) (Some v) None said answer now is_c is_w fresh took gave granted = absurd took
opened (Some b) (Some f) (Some s) (Some v) (Some w) said answer now is_c is_w fresh took gave granted = (
  is_w ∙ ap Some (took ∙ ap (λ z. z ++ said) fresh.1),
  (answer, s.left, granted, is_c ∙ ap Some (let e : s.given ≡ answer = gave.1 ∙ ap (λ z. z ++ answer) fresh.0 in grind (arith, e))),
)
