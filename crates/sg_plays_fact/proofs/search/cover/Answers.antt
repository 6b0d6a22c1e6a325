use Rattle.std.proofs.Common.{◌≡◌, ◌∙◌, ◌<◌, ◌≤◌, ◌+◌, ◌||◌, ℕ, ℤ, Bool, List, ap, get_or, length, sym, subst, true, false, arith, rules, of_z, to_z}
use Rattle.std.specs.Int.{w128}
use Rattle.std.proofs.lemmas.Int.{ints, to_z-of_z}
use Rattle.std.proofs.lemmas.List.{take_all}
use Rattle.sg_plays_fact.specs.Searching.{HasRoom, fresh_sum, is_marked}
use Rattle.sg_plays_fact.proofs.Fresh.{IsCoveredTo, covered-again, covered-none, covered-now, covered-room, marked-at, member}
use Rattle.sg_plays_fact.proofs.Within.{fits_between}
use Rattle.sg_plays_fact.proofs.search.cover.Goals as goal
use Rattle.sg_plays_fact.proofs.search.cover.Goals.{then-not-covered-i, else-not-covered-i}

pub loop-t-init : goal.loop-t-init
loop-t-init c = covered-none c.args.weights.now c.args.targets.now c.args.covered.now (to_z w128 (of_z w128 c.args.sum))

pub overflow_add-total : goal.overflow_add-total
overflow_add-total c =
    let ws = c.args.weights.now in
    let i = c.loop-t.t-index in
    let x : ℕ = get_or c.args.targets.now i 0 in
    let lt : i < length c.args.targets.now = c.loop-t-test.true in
    let known = c.requires.known i 0 lt in
    let before : ℤ = to_z w128 (of_z w128 c.args.sum) in
    let start : before ≡ c.args.sum = search (rules, to_z-of_z) in
    let room : HasRoom ws c.args.covered.now before = subst (HasRoom ws c.args.covered.now) (sym start) c.requires.room in
    let w = c.weight_of-total.result in
    let e : to_z w128 (of_z w128 w) ≡ w = search (rules, to_z-of_z) in
    let m : is_marked c.loop-t.covered x ≡ false = marked-at c.loop-t.covered x known.at_least ∙ c.if-not-covered-i.true in
    let small = covered-room ws c.args.targets.now i x c.args.covered.now c.loop-t.covered before (to_z w128 c.loop-t.total-bits) lt (λ _. x) known c.loop-t.invariant m (omega (arith, c.requires.enough, c.loop-t.auto.covered)) room in
    fits_between _ (omega (arith, ints, e, c.weight_of-total.ensures, small.0)) (omega (arith, ints, e, c.weight_of-total.ensures, small.1))

pub loop-t-preserved : goal.loop-t-preserved
loop-t-preserved c =
    let ws = c.args.weights.now in
    let i = c.loop-t.t-index in
    let x : ℕ = get_or c.args.targets.now i 0 in
    let lt : i < length c.args.targets.now = c.loop-t-test.true in
    let known = c.requires.known i 0 lt in
    let before : ℤ = to_z w128 (of_z w128 c.args.sum) in
    let start : before ≡ c.args.sum = search (rules, to_z-of_z) in
    let room : HasRoom ws c.args.covered.now before = subst (HasRoom ws c.args.covered.now) (sym start) c.requires.room in
    let enough : length ws ≤ length c.loop-t.covered = omega (arith, c.requires.enough, c.loop-t.auto.covered) in
    elim c.if-not-covered-i.branch [
      | then-not-covered-i b ↦ (
          let w = b.weight_of-total.result in
          let e : to_z w128 (of_z w128 w) ≡ w = search (rules, to_z-of_z) in
          let m : is_marked c.loop-t.covered x ≡ false = marked-at c.loop-t.covered x known.at_least ∙ b.if-not-covered-i.true in
          let small = covered-room ws c.args.targets.now i x c.args.covered.now c.loop-t.covered before (to_z w128 c.loop-t.total-bits) lt (λ _. x) known c.loop-t.invariant m enough room in
          subst (λ (d : List Bool). IsCoveredTo ws c.args.targets.now (i + 1) c.args.covered.now d before (to_z w128 c.if-not-covered-i.total-bits)) (sym b.covered-is)
          (covered-now ws c.args.targets.now i x c.args.covered.now c.loop-t.covered before (to_z w128 c.loop-t.total-bits) lt (λ _. x) known c.loop-t.invariant m enough (to_z w128 c.if-not-covered-i.total-bits)
          (omega (arith, ints, e, b.weight_of-total.ensures, small.0, small.1, b.total-is))))
      | else-not-covered-i b ↦ (
          let m : is_marked c.loop-t.covered x ≡ true = marked-at c.loop-t.covered x known.at_least ∙ b.if-not-covered-i.false in
          subst (λ (d : List Bool). IsCoveredTo ws c.args.targets.now (i + 1) c.args.covered.now d before (to_z w128 c.if-not-covered-i.total-bits)) (sym b.covered-is)
          (subst (λ (z : ℤ). IsCoveredTo ws c.args.targets.now (i + 1) c.args.covered.now c.loop-t.covered before z) (omega (arith, ints, b.total-is))
          (covered-again ws c.args.targets.now i x c.args.covered.now c.loop-t.covered before (to_z w128 c.loop-t.total-bits) lt (λ _. x) known c.loop-t.invariant m)))
    ]

pub returns : goal.returns
returns c =
    let ws = c.args.weights.now in
    let all = take_all c.loop-t.t-index c.args.targets.now (omega arith) in
    let start : to_z w128 (of_z w128 c.args.sum) ≡ c.args.sum = search (rules, to_z-of_z) in
    let value = c.loop-t.invariant.value in
    let same = ap (λ (ts : List ℕ). fresh_sum ws c.args.covered.now (member ts)) all in
    record {
      marked = λ t k. c.loop-t.invariant.marked.each t k ∙ ap (λ (ts : List ℕ). is_marked c.args.covered.now t || member ts t) all;
      sum = omega (arith, ints, value, start, same);
    }
