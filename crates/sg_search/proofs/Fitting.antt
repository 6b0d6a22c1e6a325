-- The sums that the report of a search states fit 128 bits.
use Rattle.std.proofs.Common.{◌≡◌, ◌≢◌, ℕ, zero, suc, ◌+◌, ◌-◌, ◌^◌, ◌≤◌, ◌<◌, Bool, true, false, cond, nat_eq, List, [], ◌∷◌, ◌++◌, map, length, get_or, sym, ◌∙◌, ap, subst, refl, arith, Option, Some, None, ℤ, pos, negsuc, ◌+ℤ◌, ◌-ℤ◌, ◌*ℤ◌, ◌≤ℤ◌, ◌<ℤ◌}
use Rattle.std.specs.Prelude.{int_lt, filter_map}
use Rattle.std.specs.List.{All}
use Rattle.std.proofs.lemmas.Int.{ints}
use Rattle.std.proofs.lemmas.Bool.{eqb-true}
use Rattle.std.proofs.lemmas.Bool.Decides.{nat_tests}
use Rattle.std.proofs.lemmas.List.Elements.{All-nil, All-cons, All-append, All-head, All-tail}
use Rattle.sg_model.specs.declared.ticket.Ticket.{Ticket}
use Rattle.sg_model.specs.Sums.{greatest, numbers, numbers_from, total}
use Rattle.sg_model.specs.Games.{Game, action_count, attacker, prior_total}
use Rattle.sg_model.specs.Payoffs.{IsPeopled, greatest_of, shift_of}
use Rattle.sg_model.specs.Commitments.{IsCommitment, weight_total}
use Rattle.sg_model.proofs.Ints.{v, n, times, le_by, le_from, mul-le}
use Rattle.sg_model.proofs.Numbers.{length-numbers_from, nth-map, nth-numbers_from}
use Rattle.sg_model.proofs.Covers.{weight_total-nonneg, weight_total-positive}
use Rattle.sg_model.proofs.Values.{prior_total-positive}
use Rattle.sg_tree.specs.declared.fact.Fact.{Fact}
use Rattle.sg_tree.specs.declared.fix.Fix.{Fix}
use Rattle.sg_tree.specs.declared.report.Cap.{Cap}
use Rattle.sg_bounds.specs.Regions.{IsFix, alone, prefix}
use Rattle.sg_bounds.specs.Facts.{mu_of, rho_of}
use Rattle.sg_bounds.specs.Caps.{cap_of, no_cap}
use Rattle.sg_bounds.specs.Trees.{Node, parts_of}
use Rattle.sg_bounds.specs.Leaves.{rest_of}
use Rattle.sg_bounds.specs.Sizes.{bound_sums, running, size_sums, value_sums, weight_sums, worth_sums}
use Rattle.sg_num.specs.Exact.{Fits}
use Rattle.sg_bounds.specs.Accepted.{base_sums, cap_sums, fact_sums, part_sums, proof_sums, tree_sums}
use Rattle.sg_bounds.proofs.Caps.{holds-rho}
use Rattle.sg_commit.proofs.Standing.{All-back}
use Rattle.sg_search.specs.Searches.{Search}
use Rattle.sg_search.specs.Bounding.{cap_at, cap_facts, caps_of, fact_of, is_split, leaf_with, least_cap, tree_at, tree_of}
use Rattle.sg_search.specs.Results.{IsNarrow, IsResult, least_caps, most_caps}
use Rattle.sg_search.proofs.Ranges.{caps-between, fact-source}

-- ---- what fits

fits-low : (z : ℤ) → Fits z → (pos 0 -ℤ pos (2 ^ 127)) ≤ℤ z
fits-low (pos m) h = omega (arith, ints)
fits-low (negsuc m) h = let k : m < 2 ^ 127 = grind (arith, nat_tests, h) in omega (arith, ints, k)

fits-high : (z : ℤ) → Fits z → z <ℤ pos (2 ^ 127)
fits-high (pos m) h = let k : m < 2 ^ 127 = grind (arith, nat_tests, h) in omega (arith, ints, k)
fits-high (negsuc m) h = omega (arith, ints)

inside-fits : (z : ℤ) → (pos 0 -ℤ pos (2 ^ 127)) ≤ℤ z → z <ℤ pos (2 ^ 127) → Fits z
inside-fits (pos m) low high = let k : m < 2 ^ 127 = omega (arith, ints, high) in grind (arith, nat_tests, k)
inside-fits (negsuc m) low high = let k : m < 2 ^ 127 = omega (arith, ints, low) in grind (arith, nat_tests, k)

pub fits-between : (a z b : ℤ) → Fits a → Fits b → a ≤ℤ z → z ≤ℤ b → Fits z
fits-between a z b low high from to =
    let x = fits-low a low in
    let y = fits-high b high in
    inside-fits z (omega (arith, ints, x, from)) (omega (arith, ints, y, to))

-- ---- the running totals of weights

weights-fit : (top z : ℤ) → Fits top → (k : List Ticket) → pos 0 ≤ℤ z → All (λ (x : Ticket). pos 1 ≤ℤ x.weight) k → (z +ℤ weight_total k) ≤ℤ top → All Fits (running z (map (λ (x : Ticket). x.weight) k))
weights-fit top z fit [] low positive high = All-nil Fits
weights-fit top z fit (x ∷ xs) low positive high =
    let P : Ticket → Type 0 = λ x. pos 1 ≤ℤ x.weight in
    let here = All-head P x xs positive in
    let rest = All-tail P x xs positive in
    let later = weight_total-nonneg xs rest in
    All-cons Fits (z +ℤ x.weight) (running (z +ℤ x.weight) (map (λ (x : Ticket). x.weight) xs))
    (fits-between (pos 0) (z +ℤ x.weight) top refl fit (omega (arith, ints, low, here)) (omega (arith, ints, high, later)))
    (weights-fit top (z +ℤ x.weight) fit xs (omega (arith, ints, low, here)) rest (omega (arith, ints, high)))

-- they fit where the sums under the value do, since the total times the priors is one of those
pub weight_sums-fit : (g : Game) → IsPeopled g → (k : List Ticket) → IsCommitment g k → All Fits (value_sums g k) → All Fits (weight_sums k)
weight_sums-fit g peopled k is_k fit =
    let sums : List ℤ = worth_sums g k (pos 0) (numbers (length g.types)) in
    let last = All-head Fits (weight_total k *ℤ prior_total g) [] (All-back Fits sums ((weight_total k *ℤ prior_total g) ∷ []) fit) in
    let positive = weight_total-positive k is_k.some is_k.positive in
    let priors = prior_total-positive g peopled in
    let up = mul-le (pos 1) (prior_total g) (weight_total k) priors (omega (arith, ints, positive)) in
    let le : weight_total k ≤ℤ (weight_total k *ℤ prior_total g) = le_by (v (weight_total k)) (times (v (weight_total k)) (v (prior_total g))) (omega (arith, le_from (times (n 1) (v (weight_total k))) (times (v (prior_total g)) (v (weight_total k))) up)) in
    weights-fit (weight_total k *ℤ prior_total g) (pos 0) last k (omega (arith, ints)) is_k.positive (omega (arith, ints, le))

-- ---- bounds under caps between

total-from : (f h : ℕ → ℤ) (b k : ℕ) → ((l : ℕ) → b ≤ l → l < b + k → f l ≤ℤ h l) → total f (numbers_from b k) ≤ℤ total h (numbers_from b k)
total-from f h b zero each = omega (arith, ints)
total-from f h b (suc k) each =
    let here = each b (omega arith) (omega arith) in
    let rest = total-from f h (b + 1) k (λ l low high. each l (omega (arith, low)) (omega (arith, high))) in
    omega (arith, ints, here, rest)

pub cap-map : (g : Game) (h : ℕ → Cap) (l : ℕ) → 2 ≤ l → l ≤ length g.types → cap_of (map h (numbers_from 2 (length g.types - 1))) l ≡ h l
cap-map g h l low high =
    let long = length-numbers_from 2 (length g.types - 1) in
    let e = nth-map h (numbers_from 2 (length g.types - 1)) (l - 1) no_cap 0 (omega (arith, low)) (omega (arith, high, low, long)) in
    let f : get_or (numbers_from 2 (length g.types - 1)) (l - 1 - 1) 0 ≡ l = let q = nth-numbers_from 2 (length g.types - 1) (l - 1 - 1) 0 (omega (arith, high, low)) in omega (arith, q, low) in
    e ∙ ap h f

-- lower caps leave less
rest-le : (g : Game) → IsPeopled g → (less_caps more_caps : List Cap) → ((l : ℕ) → 2 ≤ l → l ≤ length g.types → (cap_of less_caps l).v ≤ℤ (cap_of more_caps l).v)
    → (k : ℕ) → 1 ≤ k → k ≤ length g.types → rest_of g less_caps k ≤ℤ rest_of g more_caps k
rest-le g peopled less_caps more_caps le k low high =
    let a = total-from (λ l. (attacker g l).prior *ℤ (cap_of less_caps l).v) (λ l. (attacker g l).prior *ℤ (cap_of more_caps l).v) (k + 1) (length g.types - k)
    (λ l from to.
    let p = peopled.priors l (omega (arith, from)) (omega (arith, to, high)) in
    let q = mul-le (cap_of less_caps l).v (cap_of more_caps l).v (attacker g l).prior (le l (omega (arith, from, low)) (omega (arith, to, high))) (omega (arith, ints, p)) in
    le_by (times (v (attacker g l).prior) (v (cap_of less_caps l).v)) (times (v (attacker g l).prior) (v (cap_of more_caps l).v))
    (omega (arith, le_from (times (v (cap_of less_caps l).v) (v (attacker g l).prior)) (times (v (cap_of more_caps l).v) (v (attacker g l).prior)) q))) in
    omega (arith, ints, a)

-- the numbers under a bound fit where they do under lower and under higher caps
pub bound-fits : (g : Game) → IsPeopled g → (low_caps caps high_caps : List Cap)
    → ((l : ℕ) → 2 ≤ l → l ≤ length g.types → ((cap_of low_caps l).v ≤ℤ (cap_of caps l).v) × ((cap_of caps l).v ≤ℤ (cap_of high_caps l).v))
    → (k : ℕ) → 1 ≤ k → k ≤ length g.types → (f : Fact) → pos 1 ≤ℤ rho_of f → All Fits (bound_sums g low_caps k f) → All Fits (bound_sums g high_caps k f) → All Fits (bound_sums g caps k f)
bound-fits g peopled low_caps caps high_caps between k from to f rho low high = by (int_lt (pos 0) (mu_of f)) low high
  where
    by : (b : Bool) → All Fits (cond b ((rho_of f *ℤ rest_of g low_caps k) ∷ (mu_of f +ℤ (rho_of f *ℤ rest_of g low_caps k)) ∷ (rho_of f *ℤ prior_total g) ∷ []) [])
        → All Fits (cond b ((rho_of f *ℤ rest_of g high_caps k) ∷ (mu_of f +ℤ (rho_of f *ℤ rest_of g high_caps k)) ∷ (rho_of f *ℤ prior_total g) ∷ []) [])
        → All Fits (cond b ((rho_of f *ℤ rest_of g caps k) ∷ (mu_of f +ℤ (rho_of f *ℤ rest_of g caps k)) ∷ (rho_of f *ℤ prior_total g) ∷ []) [])
    by false a b = All-nil Fits
    by true a b =
        let r : ℤ = rho_of f in
        let m : ℤ = mu_of f in
        let x : ℤ = rest_of g low_caps k in
        let y : ℤ = rest_of g caps k in
        let z : ℤ = rest_of g high_caps k in
        let last : ℤ = r *ℤ prior_total g in
        let xy = rest-le g peopled low_caps caps (λ l p q. (between l p q).0) k from to in
        let yz = rest-le g peopled caps high_caps (λ l p q. (between l p q).1) k from to in
        let nonneg : pos 0 ≤ℤ r = omega (arith, ints, rho) in
        let up = mul-le x y r xy nonneg in
        let up2 = mul-le y z r yz nonneg in
        let le1 : (r *ℤ x) ≤ℤ (r *ℤ y) = le_by (times (v r) (v x)) (times (v r) (v y)) (omega (arith, le_from (times (v x) (v r)) (times (v y) (v r)) up)) in
        let le2 : (r *ℤ y) ≤ℤ (r *ℤ z) = le_by (times (v r) (v y)) (times (v r) (v z)) (omega (arith, le_from (times (v y) (v r)) (times (v z) (v r)) up2)) in
        let a1 = All-tail Fits (r *ℤ x) ((m +ℤ (r *ℤ x)) ∷ last ∷ []) a in
        let b1 = All-tail Fits (r *ℤ z) ((m +ℤ (r *ℤ z)) ∷ last ∷ []) b in
        All-cons Fits (r *ℤ y) ((m +ℤ (r *ℤ y)) ∷ last ∷ [])
        (fits-between (r *ℤ x) (r *ℤ y) (r *ℤ z) (All-head Fits (r *ℤ x) ((m +ℤ (r *ℤ x)) ∷ last ∷ []) a) (All-head Fits (r *ℤ z) ((m +ℤ (r *ℤ z)) ∷ last ∷ []) b) le1 le2)
        (All-cons Fits (m +ℤ (r *ℤ y)) (last ∷ [])
        (fits-between (m +ℤ (r *ℤ x)) (m +ℤ (r *ℤ y)) (m +ℤ (r *ℤ z)) (All-head Fits (m +ℤ (r *ℤ x)) (last ∷ []) a1) (All-head Fits (m +ℤ (r *ℤ z)) (last ∷ []) b1) (omega (arith, ints, le1)) (omega (arith, ints, le2)))
        (All-tail Fits (m +ℤ (r *ℤ x)) (last ∷ []) a1))

module _ (g : Game) (peopled : IsPeopled g) (s : Search) (results : All (IsResult g) s.worked) (first : List Ticket) (is_first : IsCommitment g first) where
  pub caps-within : (l : ℕ) → 2 ≤ l → l ≤ length g.types → ((cap_of (least_caps g) l).v ≤ℤ (cap_of (caps_of g s) l).v) × ((cap_of (caps_of g s) l).v ≤ℤ (cap_of (most_caps g) l).v)
  caps-within l low high =
      let b = caps-between g peopled s results first is_first l low high in (
        subst (λ (c : Cap). c.v ≤ℤ (cap_of (caps_of g s) l).v) (sym (cap-map g (λ l. record { l = l; v = pos 1 -ℤ shift_of g; proof = [] }) l low high)) b.0,
        subst (λ (c : Cap). (cap_of (caps_of g s) l).v ≤ℤ c.v) (sym (cap-map g (λ l. record { l = l; v = greatest_of g l; proof = [] }) l low high)) b.1,
      )

  -- those of a worked prefix's fact
  pub fact-fits : (acts : List ℕ) (f : Fact) → fact_of s.worked (prefix acts) ≡ Some f → All Fits (fact_sums g (caps_of g s) acts f)
  fact-fits acts f e =
      let src = fact-source (IsResult g) s.worked results (prefix acts) f e in
      let r = src.holds in
      let is_fix : IsFix g (prefix acts) = subst (IsFix g) src.fix r.node.is_fix in
      let narrow : IsNarrow g (prefix acts) f src.of.point = subst (λ (x : Fact). IsNarrow g (prefix acts) x src.of.point) src.fact (subst (λ (x : Fix). IsNarrow g x src.of.fact src.of.point) src.fix r.narrow) in
      let rho : pos 1 ≤ℤ rho_of f = subst (λ (x : Fact). pos 1 ≤ℤ rho_of x) src.fact (holds-rho g src.of.fix src.of.fact r.fact) in
      let to = is_fix.in_range in
      All-append Fits (size_sums g (prefix acts) f) (bound_sums g (caps_of g s) (length acts) f) narrow.size
      (bound-fits g peopled (least_caps g) (caps_of g s) (most_caps g) caps-within (length acts) (some-acts acts is_fix.some) (omega (arith, to)) f rho (narrow.least refl) (narrow.most refl))
    where
      some-acts : (xs : List ℕ) → xs ≢ [] → 1 ≤ length xs
      some-acts [] h = absurd (h refl)
      some-acts (x ∷ xs) h = omega arith

  -- those of the tree
  leaf-fits : (acts : List ℕ) (o : Option Fact) → ((f : Fact) → o ≡ Some f → All Fits (fact_sums g (caps_of g s) acts f)) → All Fits (tree_sums g (caps_of g s) acts (leaf_with o))
  leaf-fits acts None h = All-nil Fits
  leaf-fits acts (Some f) h = h f refl

  base-fits : (acts : List ℕ) (o : Option Fact) → ((f : Fact) → o ≡ Some f → All Fits (fact_sums g (caps_of g s) acts f)) → All Fits (base_sums g (caps_of g s) acts o)
  base-fits acts None h = All-nil Fits
  base-fits acts (Some f) h = h f refl

  parts-fit : (acts : List ℕ) (t : ℕ → Node) → ((a : ℕ) → All Fits (tree_sums g (caps_of g s) (acts ++ (a ∷ [])) (t a))) → (a k : ℕ) → All Fits (part_sums g (caps_of g s) acts a (parts_of (map t (numbers_from a k))))
  parts-fit acts t each a zero = All-nil Fits
  parts-fit acts t each a (suc k) = All-append Fits (tree_sums g (caps_of g s) (acts ++ (a ∷ [])) (t a)) (part_sums g (caps_of g s) acts (a + 1) (parts_of (map t (numbers_from (a + 1) k)))) (each a) (parts-fit acts t each (a + 1) k)

  tree-fits : (d : ℕ) (acts : List ℕ) → All Fits (tree_sums g (caps_of g s) acts (tree_at g s d acts))
  tree-fits zero acts = leaf-fits acts (fact_of s.worked (prefix acts)) (fact-fits acts)
  tree-fits (suc d) acts = by (is_split s.splits acts) (λ a. tree-fits d (acts ++ (a ∷ [])))
    where
      by : (b : Bool) → ((a : ℕ) → All Fits (tree_sums g (caps_of g s) (acts ++ (a ∷ [])) (tree_at g s d (acts ++ (a ∷ [])))))
          → All Fits (tree_sums g (caps_of g s) acts (cond {A = Node} b (Rattle.sg_bounds.specs.Trees.split (length acts + 1) (fact_of s.worked (prefix acts)) (parts_of (map (λ a. tree_at g s d (acts ++ (a ∷ []))) (numbers (action_count g (length acts + 1)))))) (leaf_with (fact_of s.worked (prefix acts)))))
      by false each = leaf-fits acts (fact_of s.worked (prefix acts)) (fact-fits acts)
      by true each = All-append Fits (base_sums g (caps_of g s) acts (fact_of s.worked (prefix acts))) (part_sums g (caps_of g s) acts 1 (parts_of (map (λ a. tree_at g s d (acts ++ (a ∷ []))) (numbers (action_count g (length acts + 1))))))
          (base-fits acts (fact_of s.worked (prefix acts)) (fact-fits acts))
          (parts-fit acts (λ a. tree_at g s d (acts ++ (a ∷ []))) each 1 (action_count g (length acts + 1)))

  pub tree_sums-fit : All Fits (tree_sums g (caps_of g s) [] (tree_of g s))
  tree_sums-fit = tree-fits (length g.types) []

  -- those of the caps
  proofs-fit : (l b k : ℕ) → length (filter_map (λ a. fact_of s.worked (alone l a)) (numbers_from b k)) ≡ k → All Fits (proof_sums g l b (filter_map (λ a. fact_of s.worked (alone l a)) (numbers_from b k)))
  proofs-fit l b zero e = All-nil Fits
  proofs-fit l b (suc k) e = by (fact_of s.worked (alone l b)) refl e (proofs-fit l (b + 1) k) (Rattle.sg_search.proofs.Capped.kept-le (λ a. fact_of s.worked (alone l a)) (b + 1) k)
    where
      rest : List Fact
      rest = filter_map (λ a. fact_of s.worked (alone l a)) (numbers_from (b + 1) k)

      by : (o : Option Fact) → fact_of s.worked (alone l b) ≡ o → length (Rattle.std.specs.List.cons_option o (filter_map (λ a. fact_of s.worked (alone l a)) (numbers_from (b + 1) k))) ≡ suc k
          → (length (filter_map (λ a. fact_of s.worked (alone l a)) (numbers_from (b + 1) k)) ≡ k → All Fits (proof_sums g l (b + 1) (filter_map (λ a. fact_of s.worked (alone l a)) (numbers_from (b + 1) k))))
          → length (filter_map (λ a. fact_of s.worked (alone l a)) (numbers_from (b + 1) k)) ≤ k
          → All Fits (proof_sums g l b (Rattle.std.specs.List.cons_option o (filter_map (λ a. fact_of s.worked (alone l a)) (numbers_from (b + 1) k))))
      by None q e later le = absurd (omega (arith, e, le))
      by (Some f) q e later le =
          let src = fact-source (IsResult g) s.worked results (alone l b) f q in
          let narrow : IsNarrow g (alone l b) f src.of.point = subst (λ (x : Fact). IsNarrow g (alone l b) x src.of.point) src.fact (subst (λ (x : Fix). IsNarrow g x src.of.fact src.of.point) src.fix src.holds.narrow) in
          All-append Fits (size_sums g (alone l b) f) (proof_sums g l (b + 1) (filter_map (λ a. fact_of s.worked (alone l a)) (numbers_from (b + 1) k))) narrow.size (later (omega (arith, e)))

  cap-fits : (l : ℕ) → All Fits (proof_sums g l 1 (cap_at g s l).proof)
  cap-fits l = by (nat_eq (length (cap_facts g s l)) (action_count g l)) refl
    where
      by : (b : Bool) → nat_eq (length (cap_facts g s l)) (action_count g l) ≡ b
          → All Fits (proof_sums g l 1 (cond {A = Cap} b (record { l = l; v = greatest (filter_map (least_cap g l) (cap_facts g s l)); proof = cap_facts g s l }) (record { l = l; v = greatest_of g l; proof = [] })).proof)
      by false e = All-nil Fits
      by true e = proofs-fit l 1 (action_count g l) (eqb-true (length (cap_facts g s l)) (action_count g l) e)

  caps-fit : (b k : ℕ) → All Fits (cap_sums g b (map (cap_at g s) (numbers_from b k)))
  caps-fit b zero = All-nil Fits
  caps-fit b (suc k) = All-append Fits (proof_sums g b 1 (cap_at g s b).proof) (cap_sums g (b + 1) (map (cap_at g s) (numbers_from (b + 1) k))) (cap-fits b) (caps-fit (b + 1) k)

  pub cap_sums-fit : All Fits (cap_sums g 2 (caps_of g s))
  cap_sums-fit = caps-fit 2 (length g.types - 1)
