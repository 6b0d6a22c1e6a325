-- Each commitment follows one leaf of a tree, and the leaf's bound bounds it.
use Rattle.std.proofs.Common.{◌≡◌, ◌≢◌, ℕ, zero, suc, ◌+◌, ◌-◌, ◌<◌, ◌≤◌, Bool, true, false, cond, List, [], ◌∷◌, ◌++◌, length, ℤ, pos, ◌+ℤ◌, ◌-ℤ◌, ◌*ℤ◌, ◌≤ℤ◌, sym, ◌∙◌, ap, subst, refl, arith, Option, Some, None, inl, inr, length-append}
use Rattle.std.specs.List.{All, Contains, zip}
use Rattle.std.specs.Prelude.{int_lt}
use Rattle.std.proofs.lemmas.Int.{ints}
use Rattle.std.proofs.lemmas.Bool.{cases_eq}
use Rattle.std.proofs.lemmas.List.Elements.{All-contains, Contains-append_left, Contains-append_right}
use Rattle.sg_model.specs.Sums.{total, numbers, numbers_from, nth}
use Rattle.sg_model.specs.Games.{Game, attacker, action_count, prior_total}
use Rattle.sg_model.specs.declared.ticket.Ticket.{Ticket}
use Rattle.sg_model.specs.Commitments.{IsCommitment, weight_total, sum_d, take_of, worth}
use Rattle.sg_model.specs.Payoffs.{greatest_of, shift_of, IsPeopled}
use Rattle.sg_tree.specs.declared.fact.Fact.{Fact}
use Rattle.sg_bounds.specs.Facts.{rho_of, mu_of, HoldsFor}
use Rattle.sg_tree.specs.declared.report.Cap.{Cap}
use Rattle.sg_bounds.specs.Caps.{no_cap, AreCaps}
use Rattle.sg_bounds.specs.Trees.{Node, unproved, closed, split, Parts, end, part, part_count, IsBase, IsTreeOf, ArePartsOf, IsRoot}
use Rattle.sg_bounds.specs.Regions.{prefix}
use Rattle.sg_frac.specs.Fractions.{Fraction}
use Rattle.sg_bounds.specs.Accepted.{IsNotAbove, IsSplitTree}
use Rattle.sg_bounds.specs.ReportLaws.{LeafIsMet, TreeBounds}
use Rattle.sg_bounds.specs.Leaves.{rest_of, fact_bound, base_bound, listed, leaf_bounds, part_bounds, root_bound, tree_bounds_of}
use Rattle.sg_model.proofs.Ints.{v, n, plus, less, times, same_by, le_by, le_from, mul-le, cancel-le}
use Rattle.sg_model.proofs.Sums.{total-append}
use Rattle.sg_model.proofs.Greatest.{Contains-head}
use Rattle.sg_model.proofs.Best.{Takes, take_of-reached}
use Rattle.sg_model.proofs.Covers.{weight_total-positive}
use Rattle.sg_bounds.proofs.Caps.{Follows, each_fact_bounds, holds-rho, holds-mu, in_region, is_fix, cap_bounds, one_le_product, empty_region}
use Rattle.sg_model.proofs.Values.{prior_total-positive}

numbers_from-split : (a m k : ℕ) → numbers_from a (m + k) ≡ numbers_from a m ++ numbers_from (a + m) k
numbers_from-split a zero k = let e : a + 0 ≡ a = omega arith in let f : 0 + k ≡ k = omega arith in rw (e, f) refl
numbers_from-split a (suc m) k =
    let e : suc m + k ≡ suc (m + k) = omega arith in
    let f : a + suc m ≡ a + 1 + m = omega arith in
    rw (e, f) (ap (λ (xs : List ℕ). a ∷ xs) (numbers_from-split (a + 1) m k))

-- one more type that answers
follows-more : (g : Game) (k : List Ticket) (r : ℕ) (acts : List ℕ) (a : ℕ) → Follows g k r acts → Takes g k (r + length acts) a → Follows g k r (acts ++ (a ∷ []))
follows-more g k r [] a f t = let e : r + 0 ≡ r = omega arith in (subst (λ (l : ℕ). Takes g k l a) e t, tt)
follows-more g k r (c ∷ cs) a f t =
    let e : r + suc (length cs) ≡ r + 1 + length cs = omega arith in
    (f.0, follows-more g k (r + 1) cs a f.1 (subst (λ (l : ℕ). Takes g k l a) e t))

-- the fixed types' sum, by types
fixed-sum : (g : Game) (k : List Ticket) (r : ℕ) (acts : List ℕ) → Follows g k r acts → (c : ℤ)
    → total (λ (p : ℕ × ℕ). (attacker g p.0).prior *ℤ (sum_d g k p.0 p.1 +ℤ c)) (zip (numbers_from r (length acts)) acts)
    ≡ total (λ l. (attacker g l).prior *ℤ take_of g k l) (numbers_from r (length acts)) +ℤ (c *ℤ total (λ l. (attacker g l).prior) (numbers_from r (length acts)))
fixed-sum g k r [] f c = same_by (n 0) (plus (n 0) (times (v c) (n 0))) (omega arith)
fixed-sum g k r (a ∷ as1) f c =
    let rest = fixed-sum g k (r + 1) as1 f.1 c in
    let p : ℤ = (attacker g r).prior in
    let t = f.0 in
    let e : p *ℤ (sum_d g k r a +ℤ c) ≡ p *ℤ (take_of g k r +ℤ c) = ap (λ (z : ℤ). p *ℤ (z +ℤ c)) (sym t.gives) in
    let x : ℤ = total (λ l. (attacker g l).prior *ℤ take_of g k l) (numbers_from (r + 1) (length as1)) in
    let y : ℤ = total (λ l. (attacker g l).prior) (numbers_from (r + 1) (length as1)) in
    let q : (p *ℤ (take_of g k r +ℤ c)) +ℤ (x +ℤ (c *ℤ y)) ≡ ((p *ℤ take_of g k r) +ℤ x) +ℤ (c *ℤ (p +ℤ y)) =
    same_by (plus (times (v p) (plus (v (take_of g k r)) (v c))) (plus (v x) (times (v c) (v y)))) (plus (plus (times (v p) (v (take_of g k r))) (v x)) (times (v c) (plus (v p) (v y)))) (omega arith) in
    omega (arith, ints, rest, e, q)

-- types whose takes are bounded by numbers
takes-below : (g : Game) → IsPeopled g → (k : List Ticket) (b : ℕ → ℤ) (a m : ℕ) → 1 ≤ a → a + m ≤ length g.types + 1
    → ((l : ℕ) → a ≤ l → l < a + m → take_of g k l ≤ℤ (b l *ℤ weight_total k))
    → total (λ l. (attacker g l).prior *ℤ take_of g k l) (numbers_from a m) ≤ℤ (total (λ l. (attacker g l).prior *ℤ b l) (numbers_from a m) *ℤ weight_total k)
takes-below g peopled k b a zero low high each = le_by (n 0) (times (n 0) (v (weight_total k))) (omega arith)
takes-below g peopled k b a (suc m) low high each =
    let d : ℤ = weight_total k in
    let p : ℤ = (attacker g a).prior in
    let rest = takes-below g peopled k b (a + 1) m (omega arith) (omega arith) (λ l low high. each l (omega arith) (omega arith)) in
    let q = mul-le (take_of g k a) (b a *ℤ d) p (each a (omega arith) (omega arith)) (let r = peopled.priors a low (omega arith) in omega (arith, ints, r)) in
    let x : ℤ = total (λ l. (attacker g l).prior *ℤ take_of g k l) (numbers_from (a + 1) m) in
    let y : ℤ = total (λ l. (attacker g l).prior *ℤ b l) (numbers_from (a + 1) m) in
    le_by (plus (times (v p) (v (take_of g k a))) (v x)) (times (plus (times (v p) (v (b a))) (v y)) (v d))
    (omega (arith, le_from (times (v (take_of g k a)) (v p)) (times (times (v (b a)) (v d)) (v p)) q, le_from (v x) (times (v y) (v d)) rest))

has-acts : (acts : List ℕ) → 1 ≤ length acts → acts ≢ []
has-acts [] h = absurd (omega (arith, h))
has-acts (a ∷ cs) h = λ e. cc

-- a bound that a commitment meets; none is met where there is none
pub record Meets (g : Game) (k : List Ticket) (b : Fraction) : Type 0 where
  pub positive : pos 1 ≤ℤ b.den
  pub below : (worth g k *ℤ b.den) ≤ℤ ((b.num *ℤ weight_total k) *ℤ prior_total g)

abbrev pub MeetsIn : Game → List Ticket → Option Fraction → Type 0
MeetsIn g k None = ⊥
MeetsIn g k (Some b) = Meets g k b

-- the arithmetic of a fact's bound
fact_step : (mu rho d wf wo worth co sh pf p : ℤ) → pos 0 ≤ℤ rho → pos 0 ≤ℤ p → worth ≡ wf +ℤ wo → (rho *ℤ (wf +ℤ ((sh *ℤ d) *ℤ pf))) ≤ℤ (mu *ℤ d) → wo ≤ℤ (co *ℤ d)
    → (worth *ℤ (rho *ℤ p)) ≤ℤ (((mu +ℤ (rho *ℤ (co -ℤ (sh *ℤ pf)))) *ℤ d) *ℤ p)
fact_step mu rho d wf wo worth co sh pf p rho_nonneg p_nonneg e fixed_low open_low =
    let a = mul-le wo (co *ℤ d) rho open_low rho_nonneg in
    let m = v mu in let r = v rho in let y = v d in let f = v wf in let o = v wo in let c = v co in let s = v sh in let q = v pf in
    let t : ((wf +ℤ wo) *ℤ rho) ≤ℤ ((mu +ℤ (rho *ℤ (co -ℤ (sh *ℤ pf)))) *ℤ d) =
    le_by (times (plus f o) r) (times (plus m (times r (less c (times s q)))) y)
    (omega (arith, le_from (times r (plus f (times (times s y) q))) (times m y) fixed_low, le_from (times o r) (times (times c y) r) a)) in
    let u = mul-le ((wf +ℤ wo) *ℤ rho) ((mu +ℤ (rho *ℤ (co -ℤ (sh *ℤ pf)))) *ℤ d) p t p_nonneg in
    let z : worth *ℤ (rho *ℤ p) ≡ (wf +ℤ wo) *ℤ (rho *ℤ p) = ap (λ (x : ℤ). x *ℤ (rho *ℤ p)) e in
    let b : (wf +ℤ wo) *ℤ (rho *ℤ p) ≡ ((wf +ℤ wo) *ℤ rho) *ℤ p = same_by (times (plus f o) (times r (v p))) (times (times (plus f o) r) (v p)) (omega arith) in
    omega (arith, ints, u, z, b)

module _ (g : Game) (peopled : IsPeopled g) (caps : List Cap) (are_caps : AreCaps g caps) (k : List Ticket) (is_k : IsCommitment g k) where
  open_below : (l : ℕ) → 2 ≤ l → l ≤ length g.types → take_of g k l ≤ℤ ((nth caps (l - 1) no_cap).v *ℤ weight_total k)
  open_below l low high = cap_bounds g peopled l (omega arith) high (nth caps (l - 1) no_cap).v (nth caps (l - 1) no_cap).proof (are_caps.allowed l low high) k is_k

  abbrev shifted : ℕ × ℕ → ℤ
  shifted p = (attacker g p.0).prior *ℤ (sum_d g k p.0 p.1 +ℤ (shift_of g *ℤ weight_total k))

  abbrev taken : List ℕ → ℤ
  taken ls = total (λ l. (attacker g l).prior *ℤ take_of g k l) ls

  abbrev priors : List ℕ → ℤ
  priors ls = total (λ l. (attacker g l).prior) ls

  fact-sum : (acts : List ℕ) → acts ≢ [] → length acts ≤ length g.types → Follows g k 1 acts → (f : Fact) → HoldsFor g (prefix acts) f
      → (rho_of f *ℤ total shifted (zip (numbers_from 1 (length acts)) acts)) ≤ℤ (mu_of f *ℤ weight_total k)
  fact-sum acts some low f_acts f holds = each_fact_bounds g (prefix acts) (is_fix g k 1 acts some (omega arith) (omega arith) f_acts) f holds k is_k (in_region g k 1 acts f_acts)

  worth-splits : (m : ℕ) → m ≤ length g.types → worth g k ≡ taken (numbers m) +ℤ taken (numbers_from (m + 1) (length g.types - m))
  worth-splits m low =
      let e : m + (length g.types - m) ≡ length g.types = omega arith in
      let c : 1 + m ≡ m + 1 = omega arith in
      let a : numbers (length g.types) ≡ numbers m ++ numbers_from (1 + m) (length g.types - m) = ap numbers (sym e) ∙ numbers_from-split 1 m (length g.types - m) in
      let b : worth g k ≡ taken (numbers m ++ numbers_from (1 + m) (length g.types - m)) = ap taken a in
      let f = total-append (λ l. (attacker g l).prior *ℤ take_of g k l) (numbers m) (numbers_from (1 + m) (length g.types - m)) in
      let h : taken (numbers_from (1 + m) (length g.types - m)) ≡ taken (numbers_from (m + 1) (length g.types - m)) = ap (λ (x : ℕ). taken (numbers_from x (length g.types - m))) c in
      omega (arith, ints, b, f, h)

  -- a fact of a prefix that the commitment follows is met
  fact-meets : (acts : List ℕ) → 1 ≤ length acts → length acts ≤ length g.types → Follows g k 1 acts → (f : Fact) → HoldsFor g (prefix acts) f → MeetsIn g k (fact_bound g caps (length acts) f)
  fact-meets acts some low f_acts f holds = by_mu (int_lt (pos 0) (mu_of f)) refl
    where
      by_mu : (b : Bool) → int_lt (pos 0) (mu_of f) ≡ b → MeetsIn g k (cond b (Some (record { num = mu_of f +ℤ (rho_of f *ℤ rest_of g caps (length acts)); den = rho_of f *ℤ prior_total g })) None)
      by_mu true e =
          let m : ℕ = length acts in
          let d : ℤ = weight_total k in
          let sh : ℤ = shift_of g in
          let sum = fact-sum acts (has-acts acts some) low f_acts f holds in
          let by_types = fixed-sum g k 1 acts f_acts (sh *ℤ d) in
          let scaled : rho_of f *ℤ total shifted (zip (numbers_from 1 (length acts)) acts) ≡ rho_of f *ℤ (taken (numbers m) +ℤ ((sh *ℤ d) *ℤ priors (numbers m))) = ap (λ (z : ℤ). rho_of f *ℤ z) by_types in
          let fixed_low : (rho_of f *ℤ (taken (numbers m) +ℤ ((sh *ℤ d) *ℤ priors (numbers m)))) ≤ℤ (mu_of f *ℤ d) = omega (arith, ints, sum, scaled) in
          let cap = λ (l : ℕ). (nth caps (l - 1) no_cap).v in
          let others_low = takes-below g peopled k cap (m + 1) (length g.types - m) (omega arith) (omega arith) (λ l lo hi. open_below l (omega arith) (omega arith)) in
          let p_positive = prior_total-positive g peopled in
          let rho_positive = holds-rho g (prefix acts) f holds in
          record {
            positive = one_le_product (rho_of f) (prior_total g) rho_positive p_positive;
            below = fact_step (mu_of f) (rho_of f) d (taken (numbers m)) (taken (numbers_from (m + 1) (length g.types - m))) (worth g k)
                (total (λ l. (attacker g l).prior *ℤ cap l) (numbers_from (m + 1) (length g.types - m))) sh (priors (numbers m)) (prior_total g)
                (omega (arith, ints, rho_positive)) (omega (arith, ints, p_positive)) (worth-splits m low) fixed_low others_low;
          }
      by_mu false e =
          let mu_nonneg = holds-mu g (prefix acts) f holds in
          let zero_mu : mu_of f ≡ pos 0 = omega (arith, ints, mu_nonneg, e) in
          absurd (empty_region g peopled (prefix acts) (is_fix g k 1 acts (has-acts acts some) (omega arith) (omega arith) f_acts) f holds zero_mu k is_k (in_region g k 1 acts f_acts))

  base-meets : (acts : List ℕ) → 1 ≤ length acts → length acts ≤ length g.types → Follows g k 1 acts → (above : Option Fraction) → MeetsIn g k above
      → (base : Option Fact) → IsBase (HoldsFor g) (prefix acts) base → MeetsIn g k (base_bound g caps (length acts) above base)
  base-meets acts some low f_acts above meets None is_base = meets
  base-meets acts some low f_acts above meets (Some f) is_base = fact-meets acts some low f_acts f is_base

  listed-met : (o : Option Fraction) → MeetsIn g k o → (b : Fraction) × Contains (listed o) b × Meets g k b
  listed-met None h = absurd h
  listed-met (Some b) h = (b, Contains-head b [], h)

  root-meets : Meets g k (root_bound g)
  root-meets =
      let m : ℕ = length g.types in
      let d : ℤ = weight_total k in
      let p_positive = prior_total-positive g peopled in
      let q = takes-below g peopled k (greatest_of g) 1 m (omega arith) (omega arith) (λ l lo hi. cap_bounds g peopled l lo (omega arith) (greatest_of g l) [] refl k is_k) in
      record {
        positive = p_positive;
        below = mul-le (worth g k) (total (λ l. (attacker g l).prior *ℤ greatest_of g l) (numbers m) *ℤ d) (prior_total g) q (omega (arith, ints, p_positive));
      }

  mutual
    leaf-met : (tree : Node) (acts : List ℕ) (above : Option Fraction) → 1 ≤ length acts → length acts ≤ length g.types → Follows g k 1 acts → MeetsIn g k above → IsTreeOf g (HoldsFor g) acts tree
        → (b : Fraction) × Contains (leaf_bounds g caps (length acts) above tree) b × Meets g k b
    leaf-met unproved acts above some low f_acts meets is_tree = listed-met above meets
    leaf-met (closed f) acts above some low f_acts meets is_tree = listed-met (fact_bound g caps (length acts) f) (fact-meets acts some low f_acts f is_tree)
    leaf-met (split l base parts) acts above some low f_acts meets is_tree =
        let in_range : length acts + 1 ≤ length g.types = omega (arith, is_tree.0, is_tree.1) in
        let t = take_of-reached g k (length acts + 1) (peopled.actions (length acts + 1) (omega arith) in_range) in
        let t1 = t.1 in
        let count : part_count parts ≡ action_count g (length acts + 1) = is_tree.3 ∙ ap (action_count g) is_tree.0 in
        part-met parts 1 t.0 acts (base_bound g caps (length acts) above base) in_range f_acts t1 t1.from_one (omega (arith, t1.in_range, count)) (base-meets acts some low f_acts above meets base is_tree.2) is_tree.4

    part-met : (parts : Parts) (a0 a : ℕ) (acts : List ℕ) (above : Option Fraction) → length acts + 1 ≤ length g.types → Follows g k 1 acts → Takes g k (length acts + 1) a
        → a0 ≤ a → a < a0 + part_count parts → MeetsIn g k above → ArePartsOf g (HoldsFor g) acts a0 parts → (b : Fraction) × Contains (part_bounds g caps (length acts + 1) above parts) b × Meets g k b
    part-met end a0 a acts above room f_acts t low high meets are_parts = absurd (omega arith)
    part-met (part tree rest) a0 a acts above room f_acts t low high meets are_parts =
        elim (cases_eq a0 a) [
          | inl e ↦ (
              let more : List ℕ = acts ++ (a0 ∷ []) in
              let longer : length more ≡ length acts + 1 = length-append acts (a0 ∷ []) in
              let c : length acts + 1 ≡ 1 + length acts = omega arith in
              let t0 : Takes g k (1 + length acts) a0 = subst (λ (l : ℕ). Takes g k l a0) c (subst (λ (x : ℕ). Takes g k (length acts + 1) x) (sym e) t) in
              let r = leaf-met tree more above (omega (arith, longer)) (omega (arith, longer)) (follows-more g k 1 acts a0 f_acts t0) meets are_parts.0 in
              let inside : Contains (leaf_bounds g caps (length acts + 1) above tree) r.0 = subst (λ (n : ℕ). Contains (leaf_bounds g caps n above tree) r.0) longer r.1 in
              (r.0, Contains-append_left (leaf_bounds g caps (length acts + 1) above tree) (part_bounds g caps (length acts + 1) above rest) r.0 inside, r.2))
          | inr other ↦ (
              let r = part-met rest (a0 + 1) a acts above room f_acts t (omega arith) (omega arith) meets are_parts.1 in
              (r.0, Contains-append_right (leaf_bounds g caps (length acts + 1) above tree) (part_bounds g caps (length acts + 1) above rest) r.0 r.1, r.2))
        ]

  root-met : (tree : Node) → IsRoot tree → IsTreeOf g (HoldsFor g) [] tree → (b : Fraction) × Contains (tree_bounds_of g caps tree) b × Meets g k b
  root-met unproved root is_tree = absurd root
  root-met (closed f) root is_tree = absurd root
  root-met (split l (Some f) parts) root is_tree = absurd root
  root-met (split l None parts) root is_tree =
      let some : 0 + 1 ≤ length g.types = omega (arith, peopled.types) in
      let t = take_of-reached g k (0 + 1) (peopled.actions (0 + 1) (omega arith) some) in
      let t1 = t.1 in
      let count : part_count parts ≡ action_count g (0 + 1) = is_tree.3 ∙ ap (action_count g) is_tree.0 in
      part-met parts 1 t.0 [] (Some (root_bound g)) some tt t1 t1.from_one (omega (arith, t1.in_range, count)) root-meets is_tree.4

  tree-below : (tree : Node) → IsSplitTree g tree → (bound : Fraction) → pos 1 ≤ℤ bound.den → All (λ leaf. IsNotAbove leaf bound) (tree_bounds_of g caps tree) → (worth g k *ℤ bound.den) ≤ℤ ((bound.num *ℤ weight_total k) *ℤ prior_total g)
  tree-below tree is_split bound positive above_all =
      let r = root-met tree is_split.root is_split.tree_of in
      let b : Fraction = r.0 in
      let num : ℤ = bound.num in let den : ℤ = bound.den in
      let meets = r.2 in
      let above : (b.num *ℤ den) ≤ℤ (num *ℤ b.den) = All-contains (λ (leaf : Fraction). IsNotAbove leaf bound) (tree_bounds_of g caps tree) b above_all r.1 in
      let w : ℤ = worth g k in let d : ℤ = weight_total k in let p : ℤ = prior_total g in
      let d_positive = weight_total-positive k is_k.some is_k.positive in
      let p_positive = prior_total-positive g peopled in
      let dp = one_le_product d p d_positive p_positive in
      let x = mul-le (w *ℤ b.den) ((b.num *ℤ d) *ℤ p) den meets.below (omega (arith, ints, positive)) in
      let y = mul-le (b.num *ℤ den) (num *ℤ b.den) (d *ℤ p) above (omega (arith, ints, dp)) in
      let e = v b.den in let q = v b.num in let z = v den in let u = v num in let i = v d in let j = v p in
      cancel-le (w *ℤ den) ((num *ℤ d) *ℤ p) b.den
      (le_by (times (times (v w) z) e) (times (times (times u i) j) e) (omega (arith, le_from (times (times (v w) e) z) (times (times (times q i) j) z) x, le_from (times (times q z) (times i j)) (times (times u e) (times i j)) y)))
      meets.positive

pub tree_bounds : TreeBounds
tree_bounds g peopled caps are_caps t is_split b positive above = record { positive = positive; bounds = λ k is_k. tree-below g peopled caps are_caps k is_k t is_split b positive above }

pub leaf_is_met : LeafIsMet
leaf_is_met g peopled caps are_caps t is_split k is_k =
    let r = root-met g peopled caps are_caps k is_k t is_split.root is_split.tree_of in
    let meets = r.2 in
    (r.0, r.1, meets.positive, meets.below)
