-- A trail, one choice further and back.
use Rattle.std.proofs.Common.{◌≡◌, ◌∙◌, ℕ, ◌+◌, ◌<◌, Bool, ◌||◌, slice_index, List, [], ◌∷◌, ◌++◌, length, take, ℤ, ap, subst, sym, arith}
use Rattle.std.proofs.lemmas.List.{length-append}
use Rattle.std.proofs.Math.Seq.{take-append_seam}
use Rattle.sg_model.specs.Games.{Game}
use Rattle.sg_model.specs.Plays.{covers}
use Rattle.sg_walk.specs.declared.trail.Trail.{Trail}
use Rattle.sg_walk.specs.Marks.{AddsMarks, IsEntered, IsMarkable, IsMarked, TakesMarks, has_mark, is_among, mark_of, targets_by}
use Rattle.sg_walk.specs.Sums.{IsWeighted}
use Rattle.sg_walk.specs.Weights.{covered_sum, sum_where}
use Rattle.sg_walk.proofs.Going.{get_or-last}
use Rattle.sg_walk.proofs.Marked.{few-added, has-added, restored}
use Rattle.sg_walk.proofs.Pruned.{covers-more}
use Rattle.sg_walk.proofs.Summed.{sum_where-same}

pub still-marked : (g : Game) (old new : Trail) (c : ℕ) → IsMarked g old → IsEntered g old c new → IsMarked g new
still-marked g old new c marked entered =
    let ts : List ℕ = targets_by g (length old.play + 1) c in
    let long : length new.play ≡ length old.play + 1 = ap length entered.play ∙ length-append old.play (c ∷ []) in
    record {
      covered = λ t there.
          has-added (is_among ts) (length old.play + 1) old.marks new.marks (omega arith) entered.marks t there ∙ ap (λ (b : Bool). b || is_among ts t) (marked.covered t there)
          ∙ sym (covers-more g old.play c t) ∙ ap (λ (p : List ℕ). covers g p t) (sym entered.play);
      few = λ t there. few-added (is_among ts) (length old.play + 1) (length new.play) old.marks new.marks (omega (arith, long)) entered.marks t there (omega (arith, long, marked.few t there));
    }

-- the sum of the weights that are marked is that of what is covered
pub marked-sum : (g : Game) (ws : List ℤ) (trail : Trail) → IsWeighted g ws → IsMarked g trail → sum_where ws (has_mark trail.marks) (length ws) ≡ covered_sum g ws trail.play
marked-sum g ws trail weighted marked =
    sum_where-same ws (has_mark trail.marks) (covers g trail.play) (length ws) (λ t from to. marked.covered t (record { at_least = from; at_most = omega (arith, to, weighted.few) }))
    ∙ ap (sum_where ws (covers g trail.play)) weighted.one_each

-- the last item of two equal lists
apart : (p q : List ℕ) (c x : ℕ) → p ++ c ∷ [] ≡ q ++ x ∷ [] → (q ≡ p) × (x ≡ c)
apart p q c x e =
    let long : length p ≡ length q = omega (arith, ap length e, length-append p (c ∷ []), length-append q (x ∷ [])) in
    let same : q ≡ p = sym (sym (take-append_seam p (c ∷ [])) ∙ (ap (take (length p)) e ∙ (ap (λ (k : ℕ). take k (q ++ x ∷ [])) long ∙ take-append_seam q (x ∷ [])))) in
    let last : x ≡ c = sym (get_or-last q x) ∙ (ap (λ (k : ℕ). slice_index (q ++ x ∷ []) k) (sym long) ∙ (ap (λ (xs : List ℕ). slice_index xs (length p)) (sym e) ∙ get_or-last p c)) in
    (same, last)

pub left : (g : Game) (before now : Trail) (choice : ℕ) (play : List ℕ) (c r : ℕ) (marks : List ℕ) → IsEntered g before choice now → now.play ≡ play ++ c ∷ [] → r ≡ length now.play
    → length marks ≡ 10000 → TakesMarks now.marks (is_among (targets_by g r c)) r marks → record { play = play; marks = marks } ≡ before
left g before now choice play c r marks entered is at same takes =
    let parts = apart before.play play choice c (sym entered.play ∙ is) in
    let r_is : r ≡ length before.play + 1 = omega (arith, at, ap length entered.play, length-append before.play (choice ∷ [])) in
    let adds = subst (λ (k : ℕ). AddsMarks before.marks (is_among (targets_by g k choice)) k now.marks) (sym r_is) entered.marks in
    let off = subst (λ (k : ℕ). TakesMarks now.marks (is_among (targets_by g r k)) r marks) parts.1 takes in
    let less : (t : ℕ) → IsMarkable t → mark_of before.marks t < r = λ t there. omega (arith, r_is, entered.few t there) in
    let back = restored (is_among (targets_by g r choice)) r before.marks now.marks marks entered.long same less adds off in
    λ i. record { play = parts.0 i; marks = back i }
