-- In a schedule of clients neither serials nor link numbers run out.
use Rattle.std.proofs.Common.{◌≡◌, ◌≤◌, ◌+◌, ◌*◌, ℕ, suc, cond, List, [], ◌∷◌, length, ap, ◌∙◌, subst, arith}
use Rattle.std.proofs.lemmas.Bool.{cond_both}
use Rattle.express_words.specs.declared.settings.Settings.{Settings}
use Rattle.mailbox_rules.specs.Requests.{Request}
use Rattle.token_rules.specs.Tokens.{World, Oracle}
use Rattle.token_rules.specs.Run as tokens
use Rattle.token_rules.specs.Run.{asks, client_sends, delivers_at, finished, ticks}
use Rattle.token_rules.specs.Lawful.{Lawful}
use Rattle.token_rules.proofs.Lawful.{moves_keep}
use Rattle.run_rules.specs.Run.{Event, Ask, Send, Tick, Deliver, Show, Finish, Inject}
use Rattle.frame_rules.specs.Whole.{whole}
use Rattle.run_rules.specs.History.{token_events, lane_from_client, AreOfClients}
use Rattle.run_rules.proofs.WholeGrows.{Grown, load, asks_grow, delivers_grow, finish_grows, sends_grow, ticks_grow}

-- after so many events
pub record Few (window i : ℕ) (w : World) : Type 0 where
  pub lawful : Lawful w
  pub window_is : w.window ≡ window
  pub small : window ≤ 32
  pub load : (c : ℕ) → load (w.requests c) ≤ i
  pub commands : length w.commands ≤ 32001600 * i

grown_few : (m i k : ℕ) (w v : World) → k ≤ 32001600 → Lawful v → Grown k w v → Few m i w → Few m (suc i) v
grown_few m i k w v le l g h = record {
  lawful = l;
  window_is = g.window ∙ h.window_is;
  small = h.small;
  load = λ c. let a = g.load c in let e = h.load c in omega (arith, a, e);
  commands = let a = g.commands in let e = h.commands in omega (arith, a, e, le);
}

later_few : (m i : ℕ) (w : World) → Few m i w → Few m (suc i) w
later_few m i w h = record {
  lawful = h.lawful;
  window_is = h.window_is;
  small = h.small;
  load = λ c. let e = h.load c in omega (arith, e);
  commands = let e = h.commands in omega (arith, e);
}

asked_few : (o : Oracle) (m i c : ℕ) (w : World) (r : Request) → Few m i w → Few m (suc i) (cond (w.foreign c) w (asks w c r))
asked_few o m i c w r h = cond_both {A = World} (w.foreign c) _ _ (Few m (suc i))
    (λ e. later_few m i w h)
    (λ e. let g = asks_grow w c r in record {
      lawful = (moves_keep o).ask w c r e h.lawful;
      window_is = g.window ∙ h.window_is;
      small = h.small;
      load = λ d. let a = g.load d in let e = h.load d in omega (arith, a, e);
      commands = let a = ap length g.commands in let e = h.commands in omega (arith, a, e);
    })

module _ (o : Oracle) (settings : Settings) where
  pub run_few_any : (events : List Event) (m i : ℕ) (w : World) → i + length events ≤ 20000
      → Few m i w → Few m (i + length events) (tokens.run o w (token_events events))
  unfolding token_events tokens.run tokens.happens
  run_few_any [] m i w le h = let e : i ≡ i + 0 = omega arith in subst (λ n. Few m n w) e h
  run_few_any (event ∷ events) m i w le h =
      let e : suc i + length events ≡ i + length (event ∷ events) = omega arith in
      subst (λ n. Few m n (tokens.run o w (token_events (event ∷ events)))) e
      (next event (λ v k. run_few_any events m (suc i) v (omega arith) k))
    where
      next : (event : Event)
          → ((v : World) → Few m (suc i) v → Few m (suc i + length events) (tokens.run o v (token_events events)))
          → Few m (suc i + length events) (tokens.run o w (token_events (event ∷ events)))
      next (Ask c r) go = go _ (asked_few o m i c w r h)
      next (Send c) go = go _ (grown_few m i 1 w _ (omega arith) ((moves_keep o).send w c h.lawful) (sends_grow w c) h)
      next Tick go = go _ (grown_few m i 1 w _ (omega arith) ((moves_keep o).tick w h.lawful) (ticks_grow w) h)
      next (Deliver n) go =
          go _ (grown_few m i 1 w _ (omega arith) ((moves_keep o).deliver o w n h.lawful) (delivers_grow o w n) h)
      next (Show n) go = go w (later_few m i w h)
      next (Finish c) go =
          go _ (grown_few m i (1600 * (i + 1)) w _ (omega arith) ((moves_keep o).happen o w (tokens.Finish c) h.lawful)
          (finish_grows o w c i h.lawful (let e = h.window_is in let l = h.small in omega (arith, e, l)) (h.load c)) h)
      next (Inject to_leader bytes) go =
          let l = (moves_keep o).inject w to_leader (lane_from_client (whole bytes)) h.lawful in
          go _ (let k = later_few m i w h in record { lawful = l; window_is = k.window_is; small = k.small; load = k.load; commands = k.commands })

  pub run_few : (events : List Event) (m i : ℕ) (w : World) → i + length events ≤ 20000 → AreOfClients settings events
      → Few m i w → Few m (i + length events) (tokens.run o w (token_events events))
  run_few events m i w le fit h = run_few_any events m i w le h
