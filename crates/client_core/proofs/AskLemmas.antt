-- What a client answers when it is asked, and which boxes it owns.
use Rattle.std.proofs.Common.{◌≡◌, ℕ, true, false, [], ◌∷◌, ◌++◌, length, Some, None, Ok, Err, refl, sym, ap, subst, ◌∙◌}
use Rattle.std.specs.Prelude.{nat_le}
use Rattle.std.proofs.lemmas.List.{length-map}
use Rattle.mailbox_rules.specs.Requests.{Request}
use Rattle.step_rules.specs.Client.{Client, Fault}
use Rattle.step_rules.specs.ClientAsks.{asked, asked_with, fault_at, with_request, owning, owned_by}
use Rattle.client_core.specs.declared.state.ClientState.{ClientState}
use Rattle.client_core.specs.States.{client_in, owned_in}

pub refused_is : (c : Client) (r : Request) (f : Fault) → Some f ≡ fault_at c r c.current → asked c r ≡ Err f
unfolding asked
refused_is c r f e = ap (asked_with c r) (sym e)

pub asked_is : (c d : Client) (r : Request) → None ≡ fault_at c r c.current → with_request c r ≡ d → asked c r ≡ Ok d
unfolding asked
asked_is c d r e same = ap (asked_with c r) (sym e) ∙ ap Ok same

pub own_full : (s : ClientState) (c : Client) (number serial : ℕ) → client_in s ≡ c → true ≡ nat_le s.capacity (length s.owned.items) → owning c number serial ≡ None
unfolding owning
own_full s c number serial view full = subst (λ (x : Client). owning x number serial ≡ None) view (rw (length-map s.owned.items owned_in, ← full) refl)

pub own_more : (s : ClientState) (c d : Client) (number serial : ℕ) → client_in s ≡ c → false ≡ nat_le s.capacity (length s.owned.items) →
    d ≡ record (client_in s) { owned = (client_in s).owned ++ owned_by (client_in s) number serial ∷ [] } → owning c number serial ≡ Some d
unfolding owning
own_more s c d number serial view some e = subst (λ (x : Client). owning x number serial ≡ Some d) view (rw (length-map s.owned.items owned_in, ← some) (ap Some (sym e)))
