-- What events are to the state.
use Rattle.std.proofs.Common.{◌≡◌, ℕ, zero, suc, ◌-◌, ◌<◌, ◌≤◌, nat_eq, Bool, true, false, cond, List, [], ◌∷◌, ◌++◌, length, take, drop, get_or, Option, Some, None, Result, Ok, Err, refl, sym, ap, ap₂, ◌∙◌, append-nil, arith}
use Rattle.std.specs.Prelude.{option_map, slice_get, OnOk}
use Rattle.std.proofs.lemmas.List.{drop_all, take_all, length-drop}
use Rattle.std.proofs.lemmas.Option.{slice_get_past, slice_get_read}
use Rattle.client_core.specs.Answers.{addressed, bytes_of}
use Rattle.step_rules.specs.Client.{Client}
use Rattle.step_rules.specs.ClientAsks.{sends, Sent}
use Rattle.run_rules.specs.Letters.{Addressee, Letter, letter, ToLeader, ToHelper, FrameWorld, Shown}
use Rattle.run_rules.specs.Run.{happens, comes, Inject, server, sent_letters, client_sends, shows, delivers, last_for, posts}
use Rattle.replay_world.specs.declared.pool.Letter.{Letter as Posted}
use Rattle.replay_world.specs.Parts.{addressee_in, letter_in, pool_in}

-- what follows where a call found memory
pub on_ok : {A E P Q : Type 0} (r : Result A E) → (P → Q) → OnOk r P → OnOk r Q
on_ok (Ok x) f h = f h
on_ok (Err e) f h = tt

pub on_ok_both : {A E P Q R : Type 0} (r : Result A E) → (P → Q → R) → OnOk r P → OnOk r Q → OnOk r R
on_ok_both (Ok x) f h k = f h k
on_ok_both (Err e) f h k = tt

pub on_ok_all : {A E I Q : Type 0} (P : I → Type 0) (r : Result A E) → (((i : I) → P i) → Q) → ((i : I) → OnOk r (P i)) → OnOk r Q
on_ok_all P (Ok x) f h = f h
on_ok_all P (Err e) f h = tt

-- ---- injected bytes

pub injected_moves : (w : FrameWorld) (n : ℕ) (bytes : List ℕ) (to : Addressee) (pool : List Letter) → to ≡ server n → pool ≡ w.pool ++ letter to bytes ∷ []
    → record w { pool = pool } ≡ happens w (Inject (nat_eq n 0) bytes)
unfolding happens
injected_moves w n bytes to pool et ep =
    ap (λ (p : List Letter). record w { pool = p }) (ep ∙ ap (λ t. w.pool ++ letter t bytes ∷ []) et) ∙ at_test (nat_eq n 0)
  where
    at_test : (t : Bool) → posts w (letter (cond t ToLeader ToHelper) bytes ∷ []) ≡ happens w (Inject t bytes)
    at_test true = refl
    at_test false = refl

-- ---- frames of the pool

get_letter : (xs : List Posted) (n : ℕ) (o : Option Posted) → slice_get xs n ≡ o → slice_get (pool_in xs) n ≡ option_map letter_in o
get_letter [] n o e = cc
get_letter (x ∷ xs) zero o e = ap (option_map letter_in) e
get_letter (x ∷ xs) (suc n) o e = get_letter xs n o e

pub letter_there : (xs : List Posted) (n : ℕ) (x : Posted) → n < length xs → x ≡ get_or xs n x → Some (letter_in x) ≡ slice_get (pool_in xs) n
letter_there xs n x lt is = sym (get_letter xs n (Some x) (slice_get_read xs (length xs) n x refl lt is))

pub no_letter : (xs : List Posted) (n : ℕ) → length xs ≤ n → None ≡ slice_get (pool_in xs) n
no_letter xs n le = sym (get_letter xs n None (slice_get_past xs n le))

-- what is done with a frame that may be there
pub none_delivered : (w : FrameWorld) (o : Option Letter) → None ≡ o → w ≡ delivers w o
unfolding delivers
none_delivered w o e = ap (delivers w) e

pub one_delivered : (w v : FrameWorld) (o : Option Letter) (l m : Posted) → Some (letter_in l) ≡ o → m ≡ l → v ≡ comes w (addressee_in m.to) m.bytes → v ≡ delivers w o
unfolding delivers
one_delivered w v o l m e same moved = moved ∙ (ap (λ (x : Posted). comes w (addressee_in x.to) x.bytes) same ∙ ap (delivers w) e)

pub none_shown : (w : FrameWorld) (n : ℕ) (o : Option Letter) → None ≡ o → w ≡ shows w n o
unfolding shows
none_shown w n o e = ap (shows w n) e

pub one_shown : (w : FrameWorld) (n : ℕ) (o : Option Letter) (l : Posted) (shown : List Shown) → Some (letter_in l) ≡ o → shown ≡ w.shown ++ record { number = n; bytes = l.bytes } ∷ []
    → record w { shown = shown } ≡ shows w n o
unfolding shows
one_shown w n o l shown e es = ap (λ (s : List Shown). record w { shown = s }) es ∙ ap (shows w n) e

-- the frames from a place on
pub pool_from : (xs : List Posted) (n : ℕ) → pool_in (drop n xs) ≡ drop n (pool_in xs)
pool_from xs zero = refl
pool_from [] (suc n) = refl
pool_from (x ∷ xs) (suc n) = pool_from xs n

pub rest_from : (xs : List Posted) (n : ℕ) → take (length xs - n) (drop n xs) ≡ drop n xs
rest_from xs n = take_all (length xs - n) (drop n xs) (omega (arith, length-drop n xs))

pub none_from : (c n : ℕ) (xs : List Posted) → length xs ≤ n → None ≡ last_for c None (drop n (pool_in xs))
unfolding last_for
none_from c n xs le = sym (ap (λ (ys : List Posted). last_for c None (pool_in ys)) (drop_all n xs le)) ∙ ap (last_for c None) (pool_from xs n)

-- ---- a client's present frame

pub none_sent : (w : FrameWorld) (c : ℕ) (x : Client) → w.clients c ≡ x → None ≡ option_map addressed (sends x) → w ≡ client_sends w c
unfolding client_sends
none_sent w c x ex e = sym (ap (λ s. posts w (sent_letters s)) (ap sends ex ∙ at_sent (sends x) e) ∙ ap (λ (p : List Letter). record w { pool = p }) (append-nil w.pool))
  where
    at_sent : (s : Option Sent) → None ≡ option_map addressed s → s ≡ None
    at_sent None e = refl
    at_sent (Some sent) e = absurd (cc e)

pub one_sent : (w : FrameWorld) (c : ℕ) (x : Client) (n count : ℕ) (to : Addressee) (bytes out : List ℕ) (pool : List Letter) → w.clients c ≡ x
    → Some (n, count) ≡ option_map addressed (sends x) → bytes ≡ take count out → take (length (bytes_of (sends x))) out ≡ bytes_of (sends x) → to ≡ server n → pool ≡ w.pool ++ letter to bytes ∷ []
    → record w { pool = pool } ≡ client_sends w c
unfolding client_sends
one_sent w c x n count to bytes out pool ex e eb eo et ep =
    ap (λ (p : List Letter). record w { pool = p }) (ep ∙ ap (λ (ls : List Letter). w.pool ++ ls) (at_sent (sends x) e eo))
    ∙ sym (ap (λ s. posts w (sent_letters s)) (ap sends ex))
  where
    at_sent : (s : Option Sent) → Some (n, count) ≡ option_map addressed s → take (length (bytes_of s)) out ≡ bytes_of s → letter to bytes ∷ [] ≡ sent_letters s
    at_sent None e eo = absurd (cc e)
    at_sent (Some sent) e eo =
        let same : (n, count) ≡ addressed sent = some_is _ _ e in
        ap₂ (λ t (b : List ℕ). letter t b ∷ [])
        (et ∙ ap (λ (p : ℕ × ℕ). server p.0) same)
        (eb ∙ (ap (λ (p : ℕ × ℕ). take p.1 out) same ∙ eo))
      where
        some_is : (p q : ℕ × ℕ) → Some p ≡ Some q → p ≡ q
        some_is p q e = cc
