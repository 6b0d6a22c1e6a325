-- Where a search's bounds don't meet, fewer nodes were worked than are enough.
use Rattle.std.proofs.Common.{◌≡◌, ◌⊎◌, ℕ, zero, suc, ◌+◌, ◌-◌, ◌≤◌, ◌<◌, nat_eq, Bool, true, false, true≢false, cond, List, [], ◌∷◌, length, sum_by, count_by, Option, Some, None, pos, ◌≤ℤ◌, sym, ◌∙◌, ap, subst, refl, arith, inl, ⊎_elim, Contains}
use Rattle.std.specs.List.{All}
use Rattle.std.specs.Prelude.{IfSome}
use Rattle.std.proofs.lemmas.Bool.{cases_Bool, eqb-true, false_from_ne_true}
use Rattle.std.proofs.lemmas.List.{length-map}
use Rattle.std.proofs.lemmas.List.Sums.{sum_by-cons}
use Rattle.sg_frac.specs.Fractions.{Fraction}
use Rattle.sg_model.specs.Sums.{numbers, numbers_from}
use Rattle.sg_model.specs.Games.{Game, action_count}
use Rattle.sg_commit.specs.Committed.{Committed}
use Rattle.sg_tree.specs.declared.fact.Fact.{Fact}
use Rattle.sg_tree.specs.declared.fix.Fix.{Fix}
use Rattle.sg_tree.specs.declared.worked.Worked.{Worked}
use Rattle.sg_bounds.specs.Accepted.{IsNotAbove}
use Rattle.sg_bounds.specs.Facts.{HoldsFor, no_fact}
use Rattle.sg_bounds.specs.Leaves.{fact_bound}
use Rattle.sg_bounds.specs.Regions.{IsFix, prefix}
use Rattle.sg_bounds.proofs.Caps.{holds-rho}
use Rattle.sg_search.specs.Searches.{Task, Search, same, worked_count, IsPartOf}
use Rattle.sg_search.specs.Bounding.{caps_of, fact_of, is_over, lower, value_fraction}
use Rattle.sg_search.specs.CountLaws.{enough_nodes, prefix_count}
use Rattle.sg_search.specs.EndLaws.{IsClosed}
use Rattle.sg_search.specs.Results.{IsPointOf, IsResult}
use Rattle.sg_search.proofs.Enough.{all-enough, all_nodes, counted, distinct, fixes, in-all, length-all, member}
use Rattle.sg_search.proofs.Listing.{either-in}
use Rattle.sg_search.proofs.Placed.{one_if, same-is}
use Rattle.sg_search.proofs.Poorer.{bound-positive, positive-value}
use Rattle.sg_search.proofs.Ranges.{fact-source}
use Rattle.sg_programs.specs.NodeTests.{Method}
use Rattle.sg_gap_laws.specs.Ends.{HasEnded}
use Rattle.sg_gap_laws.proofs.Barred.{tree-closed}
use Rattle.sg_gap_laws.proofs.Compared.{below-chain, not-both}
use Rattle.sg_gap_laws.proofs.Facts.{distinct-short}
use Rattle.sg_gap_laws.proofs.Full.{full-below}
use Rattle.sg_gap_laws.proofs.Reached.{is_peopled, lower-positive, placed, results, sound, splits}

module _ (m : Method) (p : Task) (t : Search) (h : HasEnded p.game m p t) where
  abbrev g : Game
  g = p.game

  -- ---- the fact of a worked prefix of all types

  -- a worked node is a result whose point isn't above the incumbent
  abbrev IsLowResult : Worked → Type 0
  IsLowResult w = IsResult g w × IfSome w.point (λ k. IsNotAbove (value_fraction g k.tickets) (lower p t))

  all-low : All IsLowResult t.worked
  all-low i d lt = (results m p t h i d lt, (sound m p t h).points i d lt)

  point-low : (x : List ℕ) (f : Fact) (o : Option Committed) → IfSome o (λ k. IsNotAbove (value_fraction g k.tickets) (lower p t)) → IsPointOf g (prefix x) f o
      → (k : Committed) → o ≡ Some k → (b : Fraction) → pos 1 ≤ℤ b.den → IsNotAbove b (value_fraction g k.tickets) → IsNotAbove b (lower p t)
  point-low x f None low point k e b positive below = absurd (none-some e)
    where
      none-some : None ≡ Some k → ⊥
      none-some q = cc
  point-low x f (Some j) low point k e b positive below =
      let same_as : k ≡ j = some-one e in
      below-chain b (value_fraction g j.tickets) (lower p t) positive (positive-value g (is_peopled m p t h) j.tickets point.2.commitment) (lower-positive m p t h)
      (subst (λ (c : Committed). IsNotAbove b (value_fraction g c.tickets)) same_as below) low
    where
      some-one : Some j ≡ Some k → k ≡ j
      some-one q = cc

  -- it has no bound above the incumbent
  pub full-low : (x : List ℕ) (f : Fact) → length x ≡ length g.types → fact_of t.worked (prefix x) ≡ Some f → is_over p t (fact_bound g (caps_of g t) (length x) f) ≡ true → ⊥
  full-low x f full e over = by (fact_bound g (caps_of g t) (length x) f) refl over
    where
      by : (o : Option Fraction) → fact_bound g (caps_of g t) (length x) f ≡ o → is_over p t o ≡ true → ⊥
      by None q up = true≢false (sym up)
      by (Some b) q up =
          let src = fact-source IsLowResult t.worked all-low (prefix x) f e in
          let r = src.holds.0 in
          let is_fix : IsFix g (prefix x) = subst (IsFix g) src.fix r.node.is_fix in
          let holds : HoldsFor g (prefix x) f = subst (HoldsFor g (prefix x)) src.fact (subst (λ (y : Fix). HoldsFor g y src.of.fact) src.fix r.fact) in
          let point : IsPointOf g (prefix x) f src.of.point = subst (λ (y : Fact). IsPointOf g (prefix x) y src.of.point) src.fact (subst (λ (y : Fix). IsPointOf g y src.of.fact src.of.point) src.fix r.point) in
          let positive = bound-positive g (is_peopled m p t h) (caps_of g t) (length x) f (holds-rho g (prefix x) f holds) b q in
          let k = full-below g (is_peopled m p t h) (caps_of g t) x is_fix full f holds src.of.point point b q in
          not-both b (lower p t) up (point-low x f src.of.point src.holds.1 point k.0 k.1 b positive k.2)

  -- ---- how many were worked

  in-nodes : (x : Fix) → Contains (fixes t.worked) x → Contains (all_nodes g) x
  in-nodes x at =
      let c = counted x t.worked (member x (fixes t.worked) at) in
      in-all p t (placed m p t h) (splits m p t h) x ((placed m p t h).known x (omega (arith, c)))

  worked-few : length t.worked ≤ length (all_nodes g)
  worked-few =
      let l = length-map t.worked (λ (w : Worked). w.fix) in
      let le = distinct-short (fixes t.worked) (all_nodes g) (distinct t.worked (λ x. let o = (placed m p t h).once x in omega (arith, o))) in-nodes in
      omega (arith, l, le)

  -- where a part isn't worked there is room for one more
  fewer : (acts : List ℕ) (node : Fix) → Contains t.splits acts → IsPartOf g acts node → worked_count t node ≡ 0 → length t.worked + 1 ≤ length (all_nodes g)
  fewer acts node at of fresh =
      let l = length-map t.worked (λ (w : Worked). w.fix) in
      let le = distinct-short (fixes (w0 ∷ t.worked)) (all_nodes g) (distinct (w0 ∷ t.worked) once) (λ x inside. ⊎_elim
      (λ e. subst (Contains (all_nodes g)) e (in-all p t (placed m p t h) (splits m p t h) node (inl (acts, at, of))))
      (λ later. in-nodes x later)
      (either-in node (fixes t.worked) x inside)) in
      omega (arith, l, le)
    where
      w0 : Worked
      w0 = record { fix = node; fact = no_fact; point = None }

      once : (x : Fix) → count_by (λ (v : Worked). same x v.fix) (w0 ∷ t.worked) ≤ 1
      once x =
          let c = sum_by-cons (λ (v : Worked). cond (same x v.fix) 1 0) w0 t.worked in
          ⊎_elim
          (λ yes.
          let z : one_if (same x node) ≡ 1 = ap one_if yes in
          let f : worked_count t x ≡ 0 = ap (worked_count t) (same-is x node yes) ∙ fresh in
          omega (arith, c, z, f))
          (λ out. let z : one_if (same x node) ≡ 0 = ap one_if out in let o = (placed m p t h).once x in omega (arith, c, z, o))
          (cases_Bool (same x node))

  -- with several types not all nodes that are enough can be worked; with one type all bounds meet where they are
  pub short : (IsClosed p t → ⊥) → length t.worked < enough_nodes g
  short unmet = by (length g.types) refl (is_peopled m p t h).types (length-all g)
    where
      enough-is : Bool → ℕ → ℕ
      enough-is b n = cond b (action_count g 1) (sum_by (action_count g) (numbers n) + sum_by (prefix_count g) (numbers n))

      full-or-less : (a b : ℕ) → (b ≤ a) ⊎ (a < b)
      full-or-less a b = grind arith

      -- one type
      closes : length g.types ≡ 1 → length (all_nodes g) ≤ length t.worked → IsClosed p t
      closes one le = tree-closed p t (placed m p t h) (splits m p t h)
          (λ acts node at of over fresh. let more = fewer acts node at of fresh in omega (arith, more, le))
          (λ acts may. nothing acts may.some (let s = may.short in omega (arith, s, one)))
          full-low
          (omega (arith, one))
        where
          nothing : (acts : List ℕ) → (acts ≡ [] → ⊥) → length acts < 1 → ⊥
          nothing [] some lt = some refl
          nothing (a ∷ acts) some lt = omega (arith, lt)

      by : (n : ℕ) → length g.types ≡ n → 1 ≤ n → length (all_nodes g) ≡ sum_by (prefix_count g) (numbers (length g.types)) + sum_by (action_count g) (numbers_from 2 (length g.types - 1)) → length t.worked < enough_nodes g
      by zero e low all = absurd (omega (arith, low))
      by (suc zero) e low all = ⊎_elim
          (λ le. absurd (unmet (closes e le)))
          (λ less. let en = all-enough g (is_peopled m p t h).types in omega (arith, less, en))
          (full-or-less (length t.worked) (length (all_nodes g)))
      by (suc (suc n)) e low all =
          let several : nat_eq (length g.types) 1 ≡ false = false_from_ne_true (nat_eq (length g.types) 1) (λ q. let z = eqb-true (length g.types) 1 q in omega (arith, z, e)) in
          let is : enough_nodes g ≡ sum_by (action_count g) (numbers (length g.types)) + sum_by (prefix_count g) (numbers (length g.types)) = ap (λ (b : Bool). enough-is b (length g.types)) several in
          let rest : length g.types - 1 ≡ suc n = omega (arith, e) in
          let first : sum_by (action_count g) (numbers (length g.types)) ≡ sum_by (action_count g) (numbers (suc (suc n))) = ap (λ (k : ℕ). sum_by (action_count g) (numbers k)) e in
          let c = sum_by-cons (action_count g) 1 (numbers_from 2 (suc n)) in
          let later : sum_by (action_count g) (numbers_from 2 (length g.types - 1)) ≡ sum_by (action_count g) (numbers_from 2 (suc n)) = ap (λ (k : ℕ). sum_by (action_count g) (numbers_from 2 k)) rest in
          let some = (is_peopled m p t h).actions 1 (omega arith) (omega (arith, e)) in
          let few = worked-few in
          omega (arith, all, is, first, c, later, some, few)
