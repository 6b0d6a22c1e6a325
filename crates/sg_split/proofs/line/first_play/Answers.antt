use Rattle.std.proofs.Common.{◌≡◌, ◌+◌, ◌++◌, ◌∷◌, [], ◌∙◌, ap, sym, subst, arith, List, ℤ, ℕ, pos, ◌+ℤ◌, ◌*ℤ◌}
use Rattle.std.proofs.lemmas.Int.{ints}
use Rattle.sg_split.specs.Laying.{play_at, target_at}
use Rattle.sg_split.specs.Lines.{IsBehind, spots}
use Rattle.sg_split.proofs.Counted.{map-numbers_from}
use Rattle.sg_split.proofs.Covered.{next_place}
use Rattle.sg_split.proofs.Firsts.{behind_later}
use Rattle.sg_split.proofs.line.first_play.Goals as goal

pub loop-patrol-preserved : goal.loop-patrol-preserved
loop-patrol-preserved c =
    let line = c.args.line.now in
    let d : ℤ = line.moments in
    let r : ℕ = c.loop-patrol.patrol in
    let t : ℕ = c.target_from-target.result in
    let f = λ (r : ℕ). target_at (spots line) ((pos r *ℤ d) +ℤ pos 0) in
    let e : t ≡ f r = c.target_from-target.ensures in
    record {
      so_far = c.in_ok-push.ensures.ok ∙ (ap (λ (xs : List ℕ). xs ++ t ∷ []) c.loop-patrol.invariant.so_far ∙ (ap (λ (c : ℕ). play_at (spots line) r d (pos 0) ++ c ∷ []) e ∙ sym (map-numbers_from f r)));
      behind = subst (λ (c : ℕ). IsBehind (spots line) c ((pos (r + 1) *ℤ d) +ℤ pos 0)) (sym e)
          (behind_later (spots line) ((pos r *ℤ d) +ℤ pos 0) ((pos (r + 1) *ℤ d) +ℤ pos 0) (omega (arith, ints, next_place r d (pos 0), c.requires.positive)));
    }
