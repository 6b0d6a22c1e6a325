-- The sum of a fact over a play is that of the idle play and the weights of the covered targets.
use Rattle.std.proofs.Common.{◌≡◌, ◌∙◌, ℕ, zero, suc, ◌+◌, ◌≤◌, Bool, true, false, cond, not, ◌&&◌, List, [], ◌∷◌, length, replicate, ℤ, pos, ◌+ℤ◌, ◌-ℤ◌, ◌*ℤ◌, ◌≤ℤ◌, eqb, ap, subst, sym, refl, arith, inl, inr, ◌↔◌}
use Rattle.std.specs.Prelude.{slice_index}
use Rattle.std.specs.List.{All, list_any}
use Rattle.std.proofs.lemmas.Bool.{cases_eq}
use Rattle.std.proofs.lemmas.Bool.Decides.{nat_tests}
use Rattle.std.proofs.lemmas.Int.{ints}
use Rattle.std.proofs.lemmas.List.Elements.{All-head, All-tail}
use Rattle.sg_model.specs.Games.{Game, attacker, is_matrix, payoff, resource_count}
use Rattle.sg_model.specs.Limits.{IsCount, IsGame}
use Rattle.sg_model.specs.Payoffs.{shift_of}
use Rattle.sg_model.specs.Plays.{IsLegal, covers, covers_from}
use Rattle.sg_model.specs.Sums.{nth, numbers, total}
use Rattle.sg_model.proofs.Ints.{v, n, plus, less, times, same_by}
use Rattle.sg_model.proofs.Numbers.{All-numbers}
use Rattle.sg_model.proofs.Sums.{total-add, total-same, total-scaled, total-zero}
use Rattle.sg_num.specs.Exact.{IsAtMost}
use Rattle.sg_tree.specs.declared.fact.Mark.{Mark}
use Rattle.sg_tree.specs.declared.fix.Fix.{Fix}
use Rattle.sg_bounds.specs.Coverage.{column_cost, covering, where_same}
use Rattle.sg_bounds.specs.Regions.{act_of, fixed}
use Rattle.sg_plays_fact.specs.declared.stated.Stated.{Stated}
use Rattle.sg_plays_fact.specs.Searching.{HasRoom, StaysWithin, fresh_sum, fresh_weight, is_marked}
use Rattle.sg_plays_fact.specs.Testing.{IsSizedFact, NonePlaysAbove, play_sum}
use Rattle.sg_plays_fact.specs.Weighing.{mark_entry, target_weight}
use Rattle.sg_plays_fact.proofs.Choosing.{idle-targets}
use Rattle.sg_plays_fact.proofs.Fixes.{act_of-known}
use Rattle.sg_plays_fact.proofs.Fresh.{single}
use Rattle.sg_plays_fact.proofs.Weighed.{all-fixed, gain_where, sum_where, target-high, where-top, worth_gap, worth_where}
use Rattle.sg_plays_fact.proofs.Within.{top}

-- ---- sums over covered targets

abbrev pub covered_part : (ℕ → Bool) → (ℕ → ℤ) → ℕ → ℤ
covered_part cov h t = cond (cov t) (h t) (pos 0)

abbrev pub covered_sum : ℕ → (ℕ → Bool) → (ℕ → ℤ) → ℤ
covered_sum m cov h = total (covered_part cov h) (numbers m)

module _ (m : ℕ) (cov : ℕ → Bool) where
  sum-none : covered_sum m cov (λ t. pos 0) ≡ pos 0
  sum-none =
      total-same (covered_part cov (λ t. pos 0)) (λ t. pos 0) (numbers m) (All-numbers (λ t. covered_part cov (λ t. pos 0) t ≡ pos 0) m (λ t low high. by (cov t)))
      ∙ total-zero (numbers m)
    where
      by : (b : Bool) → cond b (pos 0) (pos 0) ≡ pos 0
      by true = refl
      by false = refl

  sum-add : (f h : ℕ → ℤ) → covered_sum m cov (λ t. f t +ℤ h t) ≡ covered_sum m cov f +ℤ covered_sum m cov h
  sum-add f h =
      total-same (covered_part cov (λ t. f t +ℤ h t)) (λ t. covered_part cov f t +ℤ covered_part cov h t) (numbers m)
      (All-numbers (λ t. covered_part cov (λ t. f t +ℤ h t) t ≡ covered_part cov f t +ℤ covered_part cov h t) m (λ t low high. by (cov t) (f t) (h t)))
      ∙ total-add (covered_part cov f) (covered_part cov h) (numbers m)
    where
      by : (b : Bool) (x y : ℤ) → cond b (x +ℤ y) (pos 0) ≡ cond b x (pos 0) +ℤ cond b y (pos 0)
      by true x y = refl
      by false x y = omega (arith, ints)

  sum-times : (c : ℤ) (h : ℕ → ℤ) → covered_sum m cov (λ t. c *ℤ h t) ≡ c *ℤ covered_sum m cov h
  sum-times c h =
      total-same (covered_part cov (λ t. c *ℤ h t)) (λ t. c *ℤ covered_part cov h t) (numbers m)
      (All-numbers (λ t. covered_part cov (λ t. c *ℤ h t) t ≡ c *ℤ covered_part cov h t) m (λ t low high. by (cov t) (h t)))
      ∙ total-scaled (covered_part cov h) c (numbers m)
    where
      by : (b : Bool) (x : ℤ) → cond b (c *ℤ x) (pos 0) ≡ c *ℤ cond b x (pos 0)
      by true x = refl
      by false x = same_by (n 0) (times (v c) (n 0)) (omega arith)

  sum-less : (f h : ℕ → ℤ) → covered_sum m cov (λ t. f t -ℤ h t) ≡ covered_sum m cov f -ℤ covered_sum m cov h
  sum-less f h =
      let back = sum-add (λ t. f t -ℤ h t) h in
      let same : covered_sum m cov (λ t. (f t -ℤ h t) +ℤ h t) ≡ covered_sum m cov f = ap (covered_sum m cov) (λ i t. again (f t) (h t) i) in
      omega (arith, ints, back, same)
    where
      again : (x y : ℤ) → (x -ℤ y) +ℤ y ≡ x
      again x y = omega (arith, ints)

  -- what stands at one target
  sum-one : (s : ℕ) (z : ℤ) → 1 ≤ s → s ≤ m → covered_sum m cov (λ t. where_same s t z) ≡ cond (cov s) z (pos 0)
  sum-one s z low high =
      total-same (covered_part cov (λ t. where_same s t z)) (λ t. cond (eqb s t) (cond (cov s) z (pos 0)) (pos 0)) (numbers m)
      (All-numbers (λ t. covered_part cov (λ t. where_same s t z) t ≡ cond (eqb s t) (cond (cov s) z (pos 0)) (pos 0)) m (λ t from_one in_list. at t))
      ∙ single (cond (cov s) z (pos 0)) s m low high
    where
      none : (b : Bool) → cond b (pos 0) (pos 0) ≡ pos 0
      none true = refl
      none false = refl

      at : (t : ℕ) → covered_part cov (λ t. where_same s t z) t ≡ cond (eqb s t) (cond (cov s) z (pos 0)) (pos 0)
      at t = elim (cases_eq s t) [
        | inl same ↦ (
            let e : eqb s t ≡ true = grind (arith, nat_tests) in
            let f : cond (cov t) z (pos 0) ≡ cond (cov s) z (pos 0) = ap (λ (u : ℕ). cond (cov u) z (pos 0)) (sym same) in
            rw e f)
        | inr other ↦ (let e : eqb s t ≡ false = grind (arith, nat_tests) in rw e (none (cov t)))
      ]

-- ---- the parts of a fact

worth-split : (b : Bool) (prior dc du shift : ℤ) → prior *ℤ (cond b dc du +ℤ shift) ≡ (prior *ℤ (du +ℤ shift)) +ℤ cond b (prior *ℤ (dc -ℤ du)) (pos 0)
worth-split true prior dc du shift = same_by (times (v prior) (plus (v dc) (v shift))) (plus (times (v prior) (plus (v du) (v shift))) (times (v prior) (less (v dc) (v du)))) (omega arith)
worth-split false prior dc du shift = omega (arith, ints)

gain-split : (a b : Bool) (w ac au fc fu : ℤ) → w *ℤ (cond a ac au -ℤ cond b fc fu) ≡ (w *ℤ (au -ℤ fu)) +ℤ (w *ℤ (cond a (ac -ℤ au) (pos 0) +ℤ cond b (fu -ℤ fc) (pos 0)))
gain-split true true w ac au fc fu = same_by (times (v w) (less (v ac) (v fc))) (plus (times (v w) (less (v au) (v fu))) (times (v w) (plus (less (v ac) (v au)) (less (v fu) (v fc))))) (omega arith)
gain-split true false w ac au fc fu = same_by (times (v w) (less (v ac) (v fu))) (plus (times (v w) (less (v au) (v fu))) (times (v w) (plus (less (v ac) (v au)) (n 0)))) (omega arith)
gain-split false true w ac au fc fu = same_by (times (v w) (less (v au) (v fc))) (plus (times (v w) (less (v au) (v fu))) (times (v w) (plus (n 0) (less (v fu) (v fc))))) (omega arith)
gain-split false false w ac au fc fu = same_by (times (v w) (less (v au) (v fu))) (plus (times (v w) (less (v au) (v fu))) (times (v w) (plus (n 0) (n 0)))) (omega arith)

abbrev none : ℕ → Bool
none t = false

module _ (g : Game) (m : ℕ) (cov : ℕ → Bool) where
  -- the fixed types
  worths : (ps : List (ℕ × ℕ)) → All (λ (p : ℕ × ℕ). (1 ≤ p.1) × (p.1 ≤ m)) ps
      → total (worth_where g cov) ps ≡ total (worth_where g none) ps +ℤ covered_sum m cov (λ t. total (λ (p : ℕ × ℕ). where_same p.1 t (worth_gap g p)) ps)
  worths [] h = omega (arith, ints, sum-none m cov)
  worths (p ∷ ps) h =
      let P : ℕ × ℕ → Type 0 = λ p. (1 ≤ p.1) × (p.1 ≤ m) in
      let here = All-head P p ps h in
      let rest = worths ps (All-tail P p ps h) in
      let one = worth-split (cov p.1) (attacker g p.0).prior (payoff g p.0 p.1).dc (payoff g p.0 p.1).du (shift_of g) in
      let at = sum-one m cov p.1 (worth_gap g p) here.0 here.1 in
      let both = sum-add m cov (λ t. where_same p.1 t (worth_gap g p)) (λ t. total (λ (p : ℕ × ℕ). where_same p.1 t (worth_gap g p)) ps) in
      omega (arith, ints, rest, one, at, both)

  -- the marks
  gains-all : (fix : Fix) (ms : List Mark) → All (λ (x : Mark). ((1 ≤ x.a) × (x.a ≤ m)) × ((1 ≤ act_of fix x.l) × (act_of fix x.l ≤ m))) ms
      → total (gain_where g fix cov) ms ≡ total (gain_where g fix none) ms +ℤ covered_sum m cov (λ t. total (λ (x : Mark). x.v *ℤ mark_entry g fix t x) ms)
  gains-all fix [] h = omega (arith, ints, sum-none m cov)
  gains-all fix (x ∷ xs) h =
      let P : Mark → Type 0 = λ x. ((1 ≤ x.a) × (x.a ≤ m)) × ((1 ≤ act_of fix x.l) × (act_of fix x.l ≤ m)) in
      let here = All-head P x xs h in
      let rest = gains-all fix xs (All-tail P x xs h) in
      let act : ℕ = act_of fix x.l in
      let gap : ℤ = (payoff g x.l x.a).ac -ℤ (payoff g x.l x.a).au in
      let back : ℤ = (payoff g x.l act).au -ℤ (payoff g x.l act).ac in
      let one = gain-split (cov x.a) (cov act) x.v (payoff g x.l x.a).ac (payoff g x.l x.a).au (payoff g x.l act).ac (payoff g x.l act).au in
      let at = sum-one m cov x.a gap here.0.0 here.0.1 in
      let off = sum-one m cov act back here.1.0 here.1.1 in
      let entry = sum-add m cov (λ t. where_same x.a t gap) (λ t. where_same act t back) in
      let sums : covered_sum m cov (λ t. mark_entry g fix t x) ≡ cond (cov x.a) gap (pos 0) +ℤ cond (cov act) back (pos 0) = omega (arith, ints, entry, at, off) in
      let product = sum-times m cov x.v (λ t. mark_entry g fix t x) ∙ ap (λ (z : ℤ). x.v *ℤ z) sums in
      let both = sum-add m cov (λ t. x.v *ℤ mark_entry g fix t x) (λ t. total (λ (x : Mark). x.v *ℤ mark_entry g fix t x) xs) in
      omega (arith, ints, rest, one, product, both)

-- ---- the whole

spread-less : (rho a b c d : ℤ) → (rho *ℤ (a +ℤ b)) -ℤ (c +ℤ d) ≡ ((rho *ℤ a) -ℤ c) +ℤ ((rho *ℤ b) -ℤ d)
spread-less rho a b c d =
    same_by (less (times (v rho) (plus (v a) (v b))) (plus (v c) (v d))) (plus (less (times (v rho) (v a)) (v c)) (less (times (v rho) (v b)) (v d))) (omega arith)

module _ (g : Game) (game : IsGame g) (matrix : is_matrix g ≡ false) (fix : Fix) (s : Stated) (marks : List Mark) (h : IsSizedFact g fix s marks) where
  in-range : All (λ (p : ℕ × ℕ). (1 ≤ p.1) × (p.1 ≤ length g.goals)) (fixed fix)
  in-range = λ i d lt. let is = all-fixed g game matrix fix h.is_fix i d lt in (is.act_low, target-high g matrix _ _ (length g.goals) is.act_high refl)

  marks-in : All (λ (x : Mark). ((1 ≤ x.a) × (x.a ≤ length g.goals)) × ((1 ≤ act_of fix x.l) × (act_of fix x.l ≤ length g.goals))) marks
  marks-in = λ i d lt.
      let is = h.marked i d lt in
      let act = act_of-known g fix h.is_fix _ is.from_first is.in_range in
      ((is.from_one, target-high g matrix _ _ (length g.goals) is.action refl), (act.0, target-high g matrix _ _ (length g.goals) act.1 refl))

  -- what is covered adds its weights
  affine : (cov : ℕ → Bool) → sum_where g fix s.rho marks cov ≡ sum_where g fix s.rho marks none +ℤ covered_sum (length g.goals) cov (target_weight g fix s.rho marks)
  affine cov =
      let a = worths g (length g.goals) cov (fixed fix) in-range in
      let b = gains-all g (length g.goals) cov fix marks marks-in in
      let x : ℤ = total (worth_where g none) (fixed fix) in
      let y : ℤ = covered_sum (length g.goals) cov (λ t. column_cost g fix (covering t)) in
      let z : ℤ = total (gain_where g fix none) marks in
      let w : ℤ = covered_sum (length g.goals) cov (λ t. total (λ (x : Mark). x.v *ℤ mark_entry g fix t x) marks) in
      let weights : covered_sum (length g.goals) cov (target_weight g fix s.rho marks) ≡ (s.rho *ℤ y) -ℤ w =
      sum-less (length g.goals) cov (λ t. s.rho *ℤ column_cost g fix (covering t)) (λ t. total (λ (x : Mark). x.v *ℤ mark_entry g fix t x) marks)
      ∙ ap (λ (u : ℤ). u -ℤ w) (sum-times (length g.goals) cov s.rho (λ t. column_cost g fix (covering t))) in
      (λ i. (s.rho *ℤ a i) -ℤ b i) ∙ spread-less s.rho x y z w ∙ ap (λ (u : ℤ). ((s.rho *ℤ x) -ℤ z) +ℤ u) (sym weights)

  -- a play's sum is that of what it covers
  pub play-where : (play : List ℕ) → play_sum g fix s.rho marks play ≡ sum_where g fix s.rho marks (covers g play)
  play-where play = λ i.
      (s.rho *ℤ total (λ (p : ℕ × ℕ). (attacker g p.0).prior *ℤ (cond (matrix i) (nth (nth (attacker g p.0).leader (slice_index play 0) []) p.1 (pos 0)) (cond (covers g play p.1) (payoff g p.0 p.1).dc (payoff g p.0 p.1).du) +ℤ shift_of g)) (fixed fix))
      -ℤ total (λ (m : Mark).
      m.v *ℤ (cond (matrix i) (nth (nth (attacker g m.l).follower (slice_index play 0) []) m.a (pos 0)) (cond (covers g play m.a) (payoff g m.l m.a).ac (payoff g m.l m.a).au)
      -ℤ cond (matrix i) (nth (nth (attacker g m.l).follower (slice_index play 0) []) (act_of fix m.l) (pos 0)) (cond (covers g play (act_of fix m.l)) (payoff g m.l (act_of fix m.l)).ac (payoff g m.l (act_of fix m.l)).au))) marks

-- ---- the idle play

idle-covers : (g : Game) (r k t : ℕ) → covers_from g r (replicate k 0) t ≡ false
idle-covers g r zero t = refl
idle-covers g r (suc k) t = let e = ap (list_any (λ x. eqb x t)) (idle-targets g) in rw e (idle-covers g (r + 1) k t)

-- ---- as the search takes them

module _ (ws : List ℤ) (c : List Bool) (unmarked : (t : ℕ) → is_marked c t ≡ false) where
  -- with nothing marked, all that is covered is fresh
  fresh-covered : (h : ℕ → ℤ) → ((t : ℕ) → IsCount 1 (length ws) t → nth ws t (pos 0) ≡ h t) → (cov : ℕ → Bool) → fresh_sum ws c cov ≡ covered_sum (length ws) cov h
  fresh-covered h are cov =
      total-same (fresh_weight ws c cov) (covered_part cov h) (numbers (length ws))
      (All-numbers (λ t. fresh_weight ws c cov t ≡ covered_part cov h t) (length ws) (λ t low high.
      (λ i. cond (not (unmarked t i) && cov t) (nth ws t (pos 0)) (pos 0)) ∙ ap (λ (z : ℤ). cond (cov t) z (pos 0)) (are t (record { at_least = low; at_most = high }))))

pub unmarked-all : (m t : ℕ) → is_marked (replicate m false) t ≡ false
unmarked-all m zero = refl
unmarked-all zero (suc k) = refl
unmarked-all (suc m) (suc zero) = refl
unmarked-all (suc m) (suc (suc k)) = unmarked-all m (suc k)

module _ (g : Game) (game : IsGame g) (matrix : is_matrix g ≡ false) (fix : Fix) (s : Stated) (marks : List Mark) (h : IsSizedFact g fix s marks)
    (ws : List ℤ) (c : List Bool) (idle : ℤ) (long : length ws ≡ length g.goals) (unmarked : (t : ℕ) → is_marked c t ≡ false)
    (weights : (t : ℕ) → IsCount 1 (length ws) t → nth ws t (pos 0) ≡ target_weight g fix s.rho marks t)
    (is_idle : idle ≡ play_sum g fix s.rho marks (replicate (resource_count g) 0)) where
  idle-none : idle ≡ sum_where g fix s.rho marks none
  idle-none = is_idle ∙ play-where g game matrix fix s marks h (replicate (resource_count g) 0) ∙ ap (sum_where g fix s.rho marks) (λ i t. idle-covers g 1 (resource_count g) t i)

  whole : (cov : ℕ → Bool) → idle +ℤ fresh_sum ws c cov ≡ sum_where g fix s.rho marks cov
  whole cov =
      let a = fresh-covered ws c unmarked (target_weight g fix s.rho marks) weights cov in
      let b = ap (λ (m : ℕ). covered_sum m cov (target_weight g fix s.rho marks)) long in
      omega (arith, ints, idle-none, a, b, affine g game matrix fix s marks h cov)

  pub has-room : HasRoom ws c idle
  has-room cov = subst (IsAtMost top) (sym (whole cov)) (where-top g game matrix fix s marks h cov)

  play-is : (play : List ℕ) → idle +ℤ fresh_sum ws c (covers_from g (0 + 1) play) ≡ play_sum g fix s.rho marks play
  play-is play = whole (covers g play) ∙ sym (play-where g game matrix fix s marks h play)

  -- the search from the start is over all legal plays
  pub stays-is : StaysWithin g ws s.mu c 0 idle ↔ NonePlaysAbove g fix s marks
  stays-is = (
    λ stays play legal.
        let joint = rw matrix at legal in
        subst (λ (z : ℤ). z ≤ℤ s.mu) (play-is play) (stays play (record { one_each = omega (arith, joint.one_each); in_list = joint.in_list })),
    λ none play are.
        let legal : IsLegal g play = rw matrix (record { one_each = omega (arith, are.one_each); in_list = are.in_list }) in
        subst (λ (z : ℤ). z ≤ℤ s.mu) (sym (play-is play)) (none play legal),
  )
