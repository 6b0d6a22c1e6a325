use Rattle.std.proofs.Common.{◌≡◌, ◌<◌, ◌≤◌, ◌+◌, ℕ, ℤ, length, below_more, false, refl, sym, subst, arith, rules, of_z, to_z}
use Rattle.std.specs.Int.{w128}
use Rattle.std.proofs.lemmas.Bool.{false≢true}
use Rattle.std.proofs.lemmas.Int.{ints, to_z-of_z}
use Rattle.sg_model.specs.Games.{resource_count, resource_schedules}
use Rattle.sg_plays_fact.specs.Bounding.{rest_gain}
use Rattle.sg_plays_fact.specs.Searching.{HasRoom}
use Rattle.sg_plays_fact.proofs.Choosing.{cover-adds, cover-value, room-later, stays-as, stays-back, stays-cut, stays-each, stays-end, stays-forward}
use Rattle.sg_plays_fact.proofs.Fresh.{fresh-none}
use Rattle.sg_plays_fact.proofs.Within.{le_z-is}
use Rattle.sg_plays_fact.proofs.search.+stays_within.Goals as goal

pub returns-then-k-resources : goal.returns-then-k-resources
returns-then-k-resources t c =
    let e : c.args.k ≡ resource_count c.args.game.now = omega (arith, c.if-k-resources.true, c.resources.ensures.count) in
    let s : to_z w128 (of_z w128 c.args.sum) ≡ c.args.sum = search (rules, to_z-of_z) in
    let m : to_z w128 (of_z w128 c.args.mu) ≡ c.args.mu = search (rules, to_z-of_z) in
    let end = stays-end c.args.game.now c.args.weights.now c.args.mu c.args.covered.now c.args.k c.args.sum e in
    let test = le_z-is c.args.sum c.args.mu _ _ s m in
    (λ h. end.0 (test.0 h), λ h. test.1 (end.1 h))

pub is_cut-requires : goal.is_cut-requires
is_cut-requires t c =
    let s : to_z w128 (of_z w128 c.args.sum) ≡ c.args.sum = search (rules, to_z-of_z) in
    let room = c.requires.room (λ (t : ℕ). false) in
    omega (arith, ints, s, room.0, fresh-none c.args.weights.now c.args.covered.now)

pub returns-then-is_cut : goal.returns-then-is_cut
returns-then-is_cut t c =
    let g = c.args.game.now in
    let s : to_z w128 (of_z w128 c.args.sum) ≡ c.args.sum = search (rules, to_z-of_z) in
    let m : to_z w128 (of_z w128 c.args.mu) ≡ c.args.mu = search (rules, to_z-of_z) in
    let bound = c.is_cut.ensures (rest_gain g c.args.weights.now c.args.covered.now c.args.k) c.rest_gain.ensures c.if-is_cut.true in
    (λ _. stays-cut g c.args.weights.now c.args.covered.now c.args.mu c.args.k c.args.sum (omega (arith, ints, bound, s, m)), λ _. refl)

pub stays_within-requires : goal.stays_within-requires
stays_within-requires t c =
    let g = c.args.game.now in
    let ws = c.args.weights.now in
    let j = c.loop-choice.choice in
    let s : to_z w128 (of_z w128 c.args.sum) ≡ c.args.sum = search (rules, to_z-of_z) in
    let r : to_z w128 (of_z w128 c.cover-more.result) ≡ c.cover-more.result = search (rules, to_z-of_z) in
    let h = cover-adds g ws c.args.covered.now c.cover-more.new.covered c.args.k j c.choice_targets.result.now c.choice_targets.ensures.list c.cover-more.ensures.marked in
    let e = cover-value g ws c.args.covered.now c.args.k j c.choice_targets.result.now _ c.args.sum c.cover-more.result c.choice_targets.ensures.list s c.cover-more.ensures.sum in
    let room : HasRoom ws c.cover-more.new.covered c.cover-more.result = room-later g ws c.args.mu c.args.covered.now c.cover-more.new.covered c.args.k j c.args.sum c.cover-more.result h e c.requires.room in
    let lt : c.args.k + 1 ≤ resource_count g = omega (arith, c.requires.few, c.if-k-resources.false, c.resources.ensures.count) in
    (omega (arith, c.decreases, lt), (c.requires.security, (c.requires.one_each, (c.requires.enough, (lt, subst (HasRoom ws c.cover-more.new.covered) (sym r) room)))))

pub returns-then-not-stays_within : goal.returns-then-not-stays_within
returns-then-not-stays_within t c =
    let g = c.args.game.now in
    let ws = c.args.weights.now in
    let j = c.loop-choice.choice in
    let s : to_z w128 (of_z w128 c.args.sum) ≡ c.args.sum = search (rules, to_z-of_z) in
    let m : to_z w128 (of_z w128 c.args.mu) ≡ c.args.mu = search (rules, to_z-of_z) in
    let r : to_z w128 (of_z w128 c.cover-more.result) ≡ c.cover-more.result = search (rules, to_z-of_z) in
    let h = cover-adds g ws c.args.covered.now c.cover-more.new.covered c.args.k j c.choice_targets.result.now c.choice_targets.ensures.list c.cover-more.ensures.marked in
    let e = cover-value g ws c.args.covered.now c.args.k j c.choice_targets.result.now _ c.args.sum c.cover-more.result c.choice_targets.ensures.list s c.cover-more.ensures.sum in
    let first : j ≤ length (resource_schedules g (c.args.k + 1)) = omega (arith, c.loop-choice-test.true, c.choices-choice-end.ensures.count) in (
      λ n. absurd (false≢true n),
      λ stays. c.if-not-stays_within.ensures.1
          (stays-as g ws c.cover-more.new.covered (c.args.k + 1) c.args.mu _ c.cover-more.result _ m r
          (stays-back g ws c.args.mu c.args.covered.now c.cover-more.new.covered c.args.k j c.args.sum c.cover-more.result h e first stays)),
    )

pub loop-choice-preserved : goal.loop-choice-preserved
loop-choice-preserved t c =
    let g = c.args.game.now in
    let ws = c.args.weights.now in
    let j = c.loop-choice.choice in
    let mu' : ℤ = to_z w128 (of_z w128 c.args.mu) in
    let sum' : ℤ = to_z w128 (of_z w128 c.args.sum) in
    let more' : ℤ = to_z w128 (of_z w128 c.cover-more.result) in
    let s : to_z w128 (of_z w128 c.args.sum) ≡ c.args.sum = search (rules, to_z-of_z) in
    let r : to_z w128 (of_z w128 c.cover-more.result) ≡ c.cover-more.result = search (rules, to_z-of_z) in
    let h = cover-adds g ws c.args.covered.now c.cover-more.new.covered c.args.k j c.choice_targets.result.now c.choice_targets.ensures.list c.cover-more.ensures.marked in
    let e = cover-value g ws c.args.covered.now c.args.k j c.choice_targets.result.now _ sum' c.cover-more.result c.choice_targets.ensures.list refl c.cover-more.ensures.sum in
    below_more _ _ c.loop-choice.invariant
    (stays-forward g ws mu' c.args.covered.now c.cover-more.new.covered c.args.k j sum' c.cover-more.result h e
    (stays-as g ws c.cover-more.new.covered (c.args.k + 1) mu' mu' more' c.cover-more.result refl (sym r) (c.if-not-stays_within.ensures.0 refl)))

pub returns : goal.returns
returns t c =
    let g = c.args.game.now in
    let ws = c.args.weights.now in
    let s : to_z w128 (of_z w128 c.args.sum) ≡ c.args.sum = search (rules, to_z-of_z) in
    let m : to_z w128 (of_z w128 c.args.mu) ≡ c.args.mu = search (rules, to_z-of_z) in
    let lt : c.args.k < resource_count g = omega (arith, c.requires.few, c.if-k-resources.false, c.resources.ensures.count) in (
      λ _. stays-as g ws c.args.covered.now c.args.k _ c.args.mu _ c.args.sum (sym m) (sym s)
          (stays-each g ws _ c.args.covered.now c.args.k _ lt (λ j q. c.loop-choice.invariant j (omega (arith, q, c.loop-choice-test.false, c.choices-choice-end.ensures.count)))),
      λ _. refl,
    )
