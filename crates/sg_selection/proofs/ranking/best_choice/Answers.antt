use Rattle.std.proofs.Common.{◌≡◌, ◌+◌, ℕ, sym, subst, arith, true≢false, ◌∙◌}
use Rattle.sg_frac.specs.Fractions.{Fraction}
use Rattle.sg_selection.specs.Ranking.{IsLeader}
use Rattle.sg_selection.proofs.Leading.{leader-alone, leader-kept, leader-new}
use Rattle.sg_selection.proofs.ranking.best_choice.Goals as goal
use Rattle.sg_selection.proofs.ranking.best_choice.Goals.{then-is_above, else-is_above}

pub choices-init : goal.choices-init
choices-init g c = leader-alone (g.R.Ranked.is_rank c.args.ranks.now) c.rank_of-greatest.result c.rank_of-greatest.ensures.ranked c.rank_of-greatest.ensures.positive

at : (is_rank : ℕ → Fraction → Type 0) (count n n' : ℕ) (rank rank' : Fraction) → IsLeader is_rank count n rank → n' ≡ n → rank' ≡ rank → IsLeader is_rank count n' rank'
at is_rank count n n' rank rank' l e f = subst (λ (k : ℕ). IsLeader is_rank count k rank') (sym e) (subst (λ (b : Fraction). IsLeader is_rank count n b) (sym f) l)

pub choices-preserved : goal.choices-preserved
choices-preserved g c =
    let is_rank = g.R.Ranked.is_rank c.args.ranks.now in
    let i = c.choices.invariant in
    let r = c.rank_of-rank in
    elim c.if-is_above.branch [
      | then-is_above w ↦
          at is_rank (c.choices.n + 1) c.choices.n c.if-is_above.best r.result c.if-is_above.greatest
          (leader-new is_rank c.choices.n c.choices.best c.choices.greatest r.result i r.ensures.ranked r.ensures.positive (c.is_above.ensures.above.0 w.if-is_above.true)) w.best-is w.greatest-is
      | else-is_above w ↦
          at is_rank (c.choices.n + 1) c.choices.best c.if-is_above.best c.choices.greatest c.if-is_above.greatest
          (leader-kept is_rank c.choices.n c.choices.best c.choices.greatest r.result i r.ensures.ranked r.ensures.positive (λ h. true≢false (sym (c.is_above.ensures.above.1 h) ∙ w.if-is_above.false))) w.best-is w.greatest-is
    ]

pub returns : goal.returns
returns g c =
    let some = c.requires.some in
    let end = c.choices.auto.n-end some in
    let past = c.choices-test.false in
    let all : c.choices.n ≡ c.args.count = omega (arith, end, past) in
    (c.choices.greatest, subst (λ (k : ℕ). IsLeader (g.R.Ranked.is_rank c.args.ranks.now) k c.choices.best c.choices.greatest) all c.choices.invariant)
