use Rattle.std.proofs.Common.{◌∙◌, ◌+◌, ◌-◌, ◌++◌, ℕ, sym, ap, arith, filter_map, length, List, Some}
use Rattle.std.proofs.lemmas.List.{length_push}
use Rattle.sg_model.specs.Sums.{numbers, numbers_from}
use Rattle.sg_tree.specs.declared.fact.Fact.{Fact}
use Rattle.sg_bounds.specs.Regions.{alone}
use Rattle.sg_search.specs.Bounding.{fact_of}
use Rattle.sg_lanes.specs.ProvedCaps.{only_worked}
use Rattle.sg_lanes.proofs.Capping.{facts-missing, facts-step}
use Rattle.sg_lanes.proofs.cap.all_facts.Goals as goal

pub returns-in-None : goal.returns-in-None
returns-in-None c =
    facts-missing c.args.game.now (only_worked c.args.worked.now) c.args.l (c.loop-i.i + 1) (omega arith) (omega (arith, c.loop-i-test.true, c.actions-count.ensures.count)) (sym c.in-None.ensures)

pub loop-i-preserved : goal.loop-i-preserved
loop-i-preserved c =
    let i = c.loop-i.i in
    let n = c.actions-count.result in
    let xs : List Fact = c.loop-i.facts in
    let f : Fact = c.in_ok-copy-in-Some.field-0 in
    let h = λ (a : ℕ). fact_of c.args.worked.now (alone c.args.l a) in
    let k = length_push xs f in
    record {
      whole = ap (λ (ys : List Fact). ys ++ filter_map h (numbers_from (i + 1 + 1) (n - (i + 1)))) c.in_ok-push-in-Some.ensures.ok
          ∙ facts-step h xs (filter_map h (numbers n)) f i n c.loop-i-test.true c.loop-i.invariant.whole (sym c.in-Some.ensures ∙ ap (λ (x : Fact). Some x) (sym c.in_ok-copy-in-Some.ensures));
      long = ap (λ (ys : List Fact). length ys) c.in_ok-push-in-Some.ensures.ok ∙ omega (arith, k, c.loop-i.invariant.long);
    }
