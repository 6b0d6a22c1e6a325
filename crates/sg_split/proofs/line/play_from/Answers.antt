use Rattle.std.proofs.Common.{◌≡◌, ◌<◌, ◌++◌, ◌∷◌, [], ◌∙◌, ap, sym, subst, arith, length, get_or, to_z, of_z, List, ℤ, ℕ, pos, ◌+ℤ◌, ◌*ℤ◌}
use Rattle.std.specs.Int.{w128}
use Rattle.std.specs.Prelude.{FitsSigned}
use Rattle.std.proofs.lemmas.Int.{ints}
use Rattle.sg_split.specs.Laying.{play_at, target_at}
use Rattle.sg_split.specs.Lines.{IsBehind, spots}
use Rattle.sg_split.proofs.Counted.{map-numbers_from}
use Rattle.sg_split.proofs.Firsts.{behind_later}
use Rattle.sg_split.proofs.Legal.{get_or-play_at, length-play_at}
use Rattle.sg_split.proofs.line.play_from.Goals as goal

pub choice_of-requires : goal.choice_of-requires
choice_of-requires c =
    let line = c.args.line.now in
    omega (arith, ap length c.as_slice.ensures, ap length c.requires.code, length-play_at (spots line) line.patrols line.moments c.args.earlier.now.moment, c.loop-patrol-test.true)

pub target_from-target-requires-clause-behind : goal.target_from-target-requires-clause-behind
target_from-target-requires-clause-behind c =
    let line = c.args.line.now in
    let d : ℤ = line.moments in
    let r : ℕ = c.loop-patrol.patrol in
    let x : ℤ = c.args.earlier.now.moment in
    let fits : FitsSigned w128 c.args.moment = c.ranges.moment in
    let y : ℤ = to_z w128 (of_z w128 c.args.moment) in
    let lt : r < line.patrols = omega (arith, c.loop-patrol-test.true) in
    let e : c.choice_of.result ≡ target_at (spots line) ((pos r *ℤ d) +ℤ x) =
    c.choice_of.ensures ∙ (ap (λ (xs : List ℕ). get_or xs r 0) (c.as_slice.ensures ∙ c.requires.code) ∙ get_or-play_at (spots line) line.patrols d x r lt) in
    subst (λ (c : ℕ). IsBehind (spots line) c ((pos r *ℤ d) +ℤ y)) (sym e)
    (behind_later (spots line) ((pos r *ℤ d) +ℤ x) ((pos r *ℤ d) +ℤ y) (omega (arith, ints, c.requires.later, fits)))

pub loop-patrol-preserved : goal.loop-patrol-preserved
loop-patrol-preserved c =
    let line = c.args.line.now in
    let d : ℤ = line.moments in
    let r : ℕ = c.loop-patrol.patrol in
    let t : ℕ = c.target_from-target.result in
    let y : ℤ = to_z w128 (of_z w128 c.args.moment) in
    let f = λ (r : ℕ). target_at (spots line) ((pos r *ℤ d) +ℤ y) in
    let e : t ≡ f r = c.target_from-target.ensures in
    c.in_ok-push.ensures.ok ∙ (ap (λ (xs : List ℕ). xs ++ t ∷ []) c.loop-patrol.invariant ∙ (ap (λ (c : ℕ). play_at (spots line) r d y ++ c ∷ []) e ∙ sym (map-numbers_from f r)))
