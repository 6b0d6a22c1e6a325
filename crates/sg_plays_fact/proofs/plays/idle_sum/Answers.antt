use Rattle.std.proofs.Common.{◌≡◌, ◌∙◌, ℕ, List, ap, sym, subst, take, replicate, arith, rules, of_z, to_z}
use Rattle.std.specs.Int.{w128}
use Rattle.std.proofs.lemmas.Int.{to_z-of_z}
use Rattle.std.proofs.lemmas.List.{take-replicate}
use Rattle.sg_model.specs.Games.{resource_count}
use Rattle.sg_model.specs.Plays.{IsLegal}
use Rattle.sg_plays_fact.specs.Testing.{play_sum}
use Rattle.sg_plays_fact.proofs.Few.{idle-legal}
use Rattle.sg_plays_fact.proofs.plays.idle_sum.Goals as goal

pub play_sum-requires-clause-legal : goal.play_sum-requires-clause-legal
play_sum-requires-clause-legal c =
    let g = c.args.game.now in
    let e : take c.resources.result (replicate 200 0) ≡ replicate (resource_count g) 0 = take-replicate c.resources.result 200 0 (omega (arith, c.resources.ensures.few)) ∙ ap (λ (n : ℕ). replicate n 0) c.resources.ensures.count in
    subst (λ (xs : List ℕ). IsLegal g xs) (sym e) (idle-legal g c.requires.security)

pub returns : goal.returns
returns c =
    let g = c.args.game.now in
    let e : take c.resources.result (replicate 200 0) ≡ replicate (resource_count g) 0 = take-replicate c.resources.result 200 0 (omega (arith, c.resources.ensures.few)) ∙ ap (λ (n : ℕ). replicate n 0) c.resources.ensures.count in
    let f : to_z w128 (of_z w128 c.play_sum.result) ≡ c.play_sum.result = search (rules, to_z-of_z) in
    f ∙ (c.play_sum.ensures ∙ ap (λ (xs : List ℕ). play_sum g c.args.fix.now c.args.stated.now.rho c.args.marks.now xs) e)
