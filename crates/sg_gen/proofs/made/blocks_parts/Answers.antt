use Rattle.std.proofs.Common.{◌≡◌, ◌∙◌, ◌/◌, ℕ, List, ap, arith, length, refl, subst, sym}
use Rattle.std.specs.Prelude.{Vec, codes}
use Rattle.std.specs.declared.alloc.Global.{Global}
use Rattle.sg_gen.specs.Generated.{block_lists, named_lists, shares_of}
use Rattle.sg_gen.proofs.Assembled.{blocks-parts}
use Rattle.sg_gen.proofs.Counted.{few-lists, shared, small-product}
use Rattle.sg_gen.proofs.made.blocks_parts.Goals as goal

pub overflow_cast-count-2 : goal.overflow_cast-count-2
overflow_cast-count-2 c =
    let n = subst (λ (xs : List (Vec ℕ Global)). length xs / c.args.blocks ≡ length (block_lists c.args.width 0)) (sym c.as_slice.ensures.value) (shared c.in_ok-schedules.schedules.items c.args.blocks c.args.width c.requires.0.at_least c.in_ok-schedules.ensures) in
    let few = few-lists c.args.width c.requires.1.at_least c.requires.1.at_most in
    omega (arith, n, few)

pub shares_of_blocks-requires-clause-short : goal.shares_of_blocks-requires-clause-short
shares_of_blocks-requires-clause-short c =
    let n = subst (λ (xs : List (Vec ℕ Global)). length xs / c.args.blocks ≡ length (block_lists c.args.width 0)) (sym c.as_slice.ensures.value) (shared c.in_ok-schedules.schedules.items c.args.blocks c.args.width c.requires.0.at_least c.in_ok-schedules.ensures) in
    let few = few-lists c.args.width c.requires.1.at_least c.requires.1.at_most in
    omega (arith, n, few)

pub returns : goal.returns
returns c =
    let n = subst (λ (xs : List (Vec ℕ Global)). length xs / c.args.blocks ≡ length (block_lists c.args.width 0)) (sym c.as_slice.ensures.value) (shared c.in_ok-schedules.schedules.items c.args.blocks c.args.width c.requires.0.at_least c.in_ok-schedules.ensures) in
    let schedules = c.in_ok-schedules-2.ensures ∙ ap (named_lists (codes "s") 1) c.in_ok-schedules.ensures in
    let resources = c.in_ok-resources-2.ensures ∙ ap (named_lists (codes "r") 1) (c.in_ok-resources.ensures ∙ ap (shares_of c.args.blocks) n) in
    let room = small-product c.args.blocks c.args.width c.requires.0.at_most c.requires.1.at_most in
    let drawn = c.in_ok-payoffs.ensures c.args.seed 0 (omega (arith, room)) c.generator-rng.ensures in
    blocks-parts _ c.args.blocks c.args.width c.args.span c.args.seed c.in_ok-payoffs.payoffs.items refl refl refl c.in_ok-goals.ensures schedules resources c.in_ok-types.ensures.seen c.in_ok-types.ensures.own c.in_ok-types.ensures.payoffs drawn.0
