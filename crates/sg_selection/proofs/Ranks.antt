-- Each choice has one rank.
use Rattle.std.proofs.Common.{◌≡◌, ◌≢◌, ℕ, true, true≢false, List, [], ◌∷◌, Option, Some, None, sym, ◌∙◌, ap, subst, refl, arith, inl, inr, ⊎_elim, pos, ◌≤ℤ◌}
use Rattle.sg_model.specs.Payoffs.{IsPeopled}
use Rattle.sg_model.proofs.Values.{prior_total-positive}
use Rattle.sg_frac.specs.Fractions.{Fraction}
use Rattle.sg_tree.specs.declared.fix.Fix.{Fix}
use Rattle.sg_bounds.specs.Leaves.{root_bound}
use Rattle.sg_search.specs.Searches.{Task, Search, IsCapNode}
use Rattle.sg_search.specs.Bounding.{inherited, is_over, own_bound}
use Rattle.sg_search.specs.Events.{IsRank, MayBranch, MayChoose}
use Rattle.sg_search.specs.TreeLaws.{AreFacts}
use Rattle.sg_search.proofs.Placed.{part-no_cap, part-one}
use Rattle.sg_search.proofs.Poorer.{inherited-positive}

some-one : {x y : Fraction} → Some x ≡ Some y → x ≡ y
some-one h = cc

-- a prefix to be split serves no cap
branch-no_cap : (p : Task) (s : Search) (node : Fix) → MayBranch p s node → IsCapNode p.game node → ⊥
branch-no_cap p s node b cap =
    let e : 1 ≡ cap.l = ap (λ (x : Fix). x.first) (sym b.node_is ∙ cap.node_is) in
    let two = cap.from_two in
    omega (arith, e, two)

pub rank-one : (p : Task) (s : Search) (node : Fix) (b c : Fraction) → IsRank p s node b → IsRank p s node c → b ≡ c
rank-one p s node b c x y = ⊎_elim
    (λ cap. ⊎_elim
    (λ cap2. cap.1 ∙ sym cap2.1)
    (λ other. ⊎_elim
    (λ part. absurd (part-no_cap p.game part.0 node part.1 cap.0))
    (λ branch. absurd (branch-no_cap p s node branch.0 cap.0))
    other)
    y)
    (λ rest. ⊎_elim
    (λ part. ⊎_elim
    (λ cap. absurd (part-no_cap p.game part.0 node part.1 cap.0))
    (λ other. ⊎_elim
    (λ part2. some-one (sym part.3 ∙ ap (inherited p.game s) (part-one p.game part.0 part2.0 node part.1 part2.1) ∙ part2.3))
    (λ branch. absurd (branch.0.nothing node part.2))
    other)
    y)
    (λ branch. ⊎_elim
    (λ cap. absurd (branch-no_cap p s node branch.0 cap.0))
    (λ other. ⊎_elim
    (λ part. absurd (branch.0.nothing node part.2))
    (λ branch2. some-one (sym branch.1 ∙ branch2.1))
    other)
    y)
    rest)
    x

over-some : (p : Task) (s : Search) (o : Option Fraction) → is_over p s o ≡ true → (b : Fraction) × (o ≡ Some b)
over-some p s None e = absurd (true≢false (sym e))
over-some p s (Some b) e = (b, refl)

branch-acts : (p : Task) (s : Search) (node : Fix) (b : MayBranch p s node) → b.acts ≡ node.acts
branch-acts p s node b = ap (λ (x : Fix). x.acts) (sym b.node_is)

pub rank-there : (p : Task) (s : Search) (node : Fix) → MayChoose p s node → (b : Fraction) × IsRank p s node b
rank-there p s node may = ⊎_elim
    (λ take. ⊎_elim
    (λ part. let q = over-some p s (inherited p.game s part.0) part.2 in (q.0, inr (inl (part.0, part.1, take, q.1))))
    (λ cap. (root_bound p.game, inl (cap, refl)))
    take.worth)
    (λ b. let q = over-some p s (own_bound p.game s b.acts) b.split.over in (q.0, inr (inr (b, ap (own_bound p.game s) (sym (branch-acts p s node b)) ∙ q.1))))
    may

own-positive : (p : Task) (s : Search) → IsPeopled p.game → AreFacts p.game s → (acts : List ℕ) (b : Fraction) → acts ≢ [] → own_bound p.game s acts ≡ Some b → pos 1 ≤ℤ b.den
own-positive p s peopled facts [] b some e = absurd (some refl)
own-positive p s peopled facts (a ∷ acts) b some e = inherited-positive p.game peopled s facts (a ∷ acts) b e

pub rank-positive : (p : Task) (s : Search) → IsPeopled p.game → AreFacts p.game s → (node : Fix) (b : Fraction) → IsRank p s node b → pos 1 ≤ℤ b.den
rank-positive p s peopled facts node b r = ⊎_elim
    (λ cap. subst (λ (x : Fraction). pos 1 ≤ℤ x.den) (sym cap.1) (prior_total-positive p.game peopled))
    (λ rest. ⊎_elim
    (λ part. inherited-positive p.game peopled s facts part.0 b part.3)
    (λ branch. own-positive p s peopled facts node.acts b (subst (λ (xs : List ℕ). xs ≢ []) (branch-acts p s node branch.0) branch.0.split.some) branch.1)
    rest)
    r
