use Rattle.std.proofs.Common.{◌++◌, ◌∷◌, [], ℕ, List, ap, ◌∙◌}
use Rattle.std.specs.Prelude.{slice_get}
use Rattle.std.proofs.lemmas.List.{map-append}
use Rattle.run_rules.specs.Letters as run
use Rattle.replay_world.specs.declared.pool.Letter.{Letter}
use Rattle.replay_world.specs.Parts.{pool_in, shown_in, shown_all_in}
use Rattle.replay_world.specs.View.{run_in}
use Rattle.replay_world.proofs.Events.{none_shown, one_shown}
use Rattle.replay_world.proofs.state.State.show.Goals as goal

pub returns-in-None-clause-moved : goal.returns-in-None-clause-moved
returns-in-None-clause-moved c header =
    none_shown (run_in header c.args.self.now) c.args.number (slice_get (pool_in c.args.self.now.pool.items) c.args.number)
    (c.in-None.ensures ∙ ap (λ (xs : List Letter). slice_get (pool_in xs) c.args.number) c.as_slice.ensures.value)

pub returns-clause-moved : goal.returns-clause-moved
returns-clause-moved c header =
    let s = c.args.self.now in
    let bytes = c.from_vec.ensures ∙ (c.in_ok-bytes-in-Some.ensures.items ∙ c.as_slice-in-Some.ensures) in
    let line : List ℕ → run.Shown = λ b. record { number = c.args.number; bytes = b } in
    let shown = ap shown_all_in c.in_ok-push.ensures.items ∙ (map-append shown_in s.shown.items _ ∙ ap (λ (b : List ℕ). shown_all_in s.shown.items ++ line b ∷ []) bytes) in
    one_shown (run_in header s) c.args.number (slice_get (pool_in s.pool.items) c.args.number) c.in-Some.letter.now (shown_all_in c.push.new.self.items)
    (c.in-Some.ensures ∙ ap (λ (xs : List Letter). slice_get (pool_in xs) c.args.number) c.as_slice.ensures.value) shown
