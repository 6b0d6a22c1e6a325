-- The bounds of a search's tree can be formed, and its tickets have lists of one length.
use Rattle.std.proofs.Common.{◌≡◌, ◌∙◌, ℕ, ◌+◌, ◌≤◌, Bool, true, false, List, [], ◌∷◌, ◌++◌, length, map, ℤ, pos, ◌≤ℤ◌, sym, ap, subst, refl, arith, Option, Some, None, All, length-append, cond}
use Rattle.std.specs.Prelude.{MatchBool}
use Rattle.std.proofs.lemmas.List.Elements.{All-head, All-tail, All-weaker}
use Rattle.sg_commit.proofs.Standing.{All-back, All-front}
use Rattle.sg_num.specs.declared.step.Wide.{Wide}
use Rattle.sg_num.specs.Exact.{Fits}
use Rattle.sg_num.specs.Operations.{first_wide, value_of_step}
use Rattle.sg_rows.proofs.Fitting.{first_wide-append_fits, fits-cons}
use Rattle.sg_model.specs.declared.ticket.Ticket.{Ticket}
use Rattle.sg_model.specs.Games.{Game, is_matrix, resource_count}
use Rattle.sg_model.specs.Plays.{IsLegal, IsLegalJoint, IsRow}
use Rattle.sg_tree.specs.Claims.{HaveOneLength}
use Rattle.sg_tree.specs.declared.fact.Fact.{Fact}
use Rattle.sg_tree.specs.declared.fix.Fix.{Fix}
use Rattle.sg_tree.specs.declared.report.Cap.{Cap}
use Rattle.sg_bounds.specs.Regions.{prefix}
use Rattle.sg_bounds.specs.Accepted.{IsSplitTree, base_sums, fact_sums, part_sums, tree_sums}
use Rattle.sg_bounds.specs.Facts.{HoldsFor, rho_of}
use Rattle.sg_bounds.specs.SizeSteps.{bound_steps}
use Rattle.sg_bounds.specs.Sizes.{bound_sums, size_sums}
use Rattle.sg_bounds.specs.Trees.{ArePartsOf, IsBase, IsTreeOf, Node, Parts, closed, end, part, split, unproved}
use Rattle.sg_bounds.proofs.Caps.{holds-rho}
use Rattle.sg_bounds.proofs.StepResults.{are_results}
use Rattle.sg_upper.specs.TreeSteps.{base_bound_steps, node_steps, part_steps}
use Rattle.sg_upper.specs.Tops.{IsBoundedTree}

-- ---- operations whose results fit

all-formed : (steps : List Wide) → All Fits (map value_of_step steps) → first_wide steps ≡ None
all-formed [] h = refl
all-formed (w ∷ ws) h = fits-cons w ws (All-head Fits (value_of_step w) (map value_of_step ws) h) (all-formed ws (All-tail Fits (value_of_step w) (map value_of_step ws) h))

module _ (g : Game) (caps : List Cap) where
  bound-formed : (n : ℕ) (f : Fact) → All Fits (bound_sums g caps n f) → first_wide (bound_steps g caps n f) ≡ None
  bound-formed n f h = all-formed (bound_steps g caps n f) (subst (All Fits) (are_results.bounds g caps n f) h)

  fact-formed : (acts : List ℕ) (n : ℕ) (f : Fact) → length acts ≡ n → All Fits (fact_sums g caps acts f) → first_wide (bound_steps g caps n f) ≡ None
  fact-formed acts n f e h = subst (λ k. first_wide (bound_steps g caps k f) ≡ None) e (bound-formed (length acts) f (All-back Fits (size_sums g (prefix acts) f) (bound_sums g caps (length acts) f) h))

  base-formed : (acts : List ℕ) (n : ℕ) (base : Option Fact) → length acts ≡ n → All Fits (base_sums g caps acts base) → first_wide (base_bound_steps g caps n base) ≡ None
  base-formed acts n None e h = refl
  base-formed acts n (Some f) e h = fact-formed acts n f e h

  joined : (xs ys : List Wide) → first_wide xs ≡ None → first_wide ys ≡ None → first_wide (xs ++ ys) ≡ None
  joined xs ys a b = first_wide-append_fits xs ys a ∙ b

  longer : (acts : List ℕ) (n a : ℕ) → length acts ≡ n → length (acts ++ (a ∷ [])) ≡ n + 1
  longer acts n a e = let l = length-append acts (a ∷ []) in omega (arith, l, e)

  mutual
    pub node-formed : (t : Node) (acts : List ℕ) (n : ℕ) → length acts ≡ n → All Fits (tree_sums g caps acts t) → first_wide (node_steps g caps n t) ≡ None
    node-formed unproved acts n e h = refl
    node-formed (closed f) acts n e h = fact-formed acts n f e h
    node-formed (split l base parts) acts n e h =
        joined (base_bound_steps g caps n base) (part_steps g caps (n + 1) parts)
        (base-formed acts n base e (All-front Fits (base_sums g caps acts base) (part_sums g caps acts 1 parts) h))
        (parts-formed parts acts n 1 e (All-back Fits (base_sums g caps acts base) (part_sums g caps acts 1 parts) h))

    parts-formed : (ps : Parts) (acts : List ℕ) (n a : ℕ) → length acts ≡ n → All Fits (part_sums g caps acts a ps) → first_wide (part_steps g caps (n + 1) ps) ≡ None
    parts-formed end acts n a e h = refl
    parts-formed (part t rest) acts n a e h =
        joined (node_steps g caps (n + 1) t) (part_steps g caps (n + 1) rest)
        (node-formed t (acts ++ (a ∷ [])) (n + 1) (longer acts n a e) (All-front Fits (tree_sums g caps (acts ++ (a ∷ [])) t) (part_sums g caps acts (a + 1) rest) h))
        (parts-formed rest acts n (a + 1) e (All-back Fits (tree_sums g caps (acts ++ (a ∷ [])) t) (part_sums g caps acts (a + 1) rest) h))

-- ---- facts that hold have a multiplier of at least 1 of what the defender gets

module _ (g : Game) where
  base-weaker : (fix : Fix) (base : Option Fact) → IsBase (HoldsFor g) fix base → IsBase (λ x f. pos 1 ≤ℤ rho_of f) fix base
  base-weaker fix None h = tt
  base-weaker fix (Some f) h = holds-rho g fix f h

  mutual
    tree-weaker : (t : Node) (acts : List ℕ) → IsTreeOf g (HoldsFor g) acts t → IsTreeOf g (λ fix f. pos 1 ≤ℤ rho_of f) acts t
    tree-weaker unproved acts h = tt
    tree-weaker (closed f) acts h = holds-rho g (prefix acts) f h
    tree-weaker (split l base parts) acts h = (h.0, h.1, base-weaker (prefix acts) base h.2, h.3, parts-weaker parts acts 1 h.4)

    parts-weaker : (ps : Parts) (acts : List ℕ) (a : ℕ) → ArePartsOf g (HoldsFor g) acts a ps → ArePartsOf g (λ fix f. pos 1 ≤ℤ rho_of f) acts a ps
    parts-weaker end acts a h = tt
    parts-weaker (part t rest) acts a h = (tree-weaker t (acts ++ (a ∷ [])) h.0, parts-weaker rest acts (a + 1) h.1)

  pub bounded-tree : (t : Node) → IsSplitTree g t → IsBoundedTree g t
  bounded-tree t h = record { root = h.root; tree_of = tree-weaker t [] h.tree_of }

  -- ---- the lists of legal plays have one length

  play-length : (play : List ℕ) → IsLegal g play → length play ≡ cond (is_matrix g) 1 (resource_count g)
  play-length play = elim (is_matrix g) as (λ (b : Bool). MatchBool b (IsRow g play) (IsLegalJoint g play) → length play ≡ cond b 1 (resource_count g)) [ true ↦ (λ r. r.one) | false ↦ (λ j. j.one_each) ]

  pub tickets-alike : (k : List Ticket) → All (λ (x : Ticket). IsLegal g x.play.code) k → HaveOneLength k
  tickets-alike k legal =
      (cond (is_matrix g) 1 (resource_count g), All-weaker (λ (x : Ticket). IsLegal g x.play.code) (λ (x : Ticket). length x.play.code ≡ cond (is_matrix g) 1 (resource_count g)) (λ x. play-length x.play.code) k legal)
