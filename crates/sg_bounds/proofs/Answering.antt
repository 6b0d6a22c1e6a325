-- The answer to a report, by its tests.
use Rattle.std.proofs.Common.{◌≡◌, ℕ, ◌+◌, ◌-◌, ◌^◌, Bool, true, false, cond, List, [], ◌∷◌, ◌++◌, sym, subst, refl, inl, inr, ◌⊎◌, Option, Some, None}
use Rattle.std.specs.Prelude.{min}
use Rattle.std.proofs.lemmas.Bool.Decides.{not_from_Decides}
use Rattle.sg_model.specs.Games.{Game}
use Rattle.sg_tree.specs.declared.report.Report.{Report}
use Rattle.sg_bounds.specs.Trees.{Node, node_of}
use Rattle.sg_bounds.specs.Accepted.{IsAccepted}
use Rattle.sg_bounds.specs.Checking.{AllPass, FirstFails, IsReportValue, IsRefused, Stop, bound_stops, judged, root_line, root_stops, stops_of, ticket_stops, topped, tree_lines, value_stops}
use Rattle.sg_bounds.specs.CheckLaws.{EachIsAnswered}
use Rattle.sg_bounds.proofs.Checks.{passed_accepted}
use Rattle.sg_bounds.proofs.Deciding.{Decides-passes, passes}

-- the line and reason of the first test that fails
abbrev pub answer : Game → Report → Node → List Stop → Option (ℕ × ℕ)
answer g r t [] = None
answer g r t (s ∷ ss) = cond (passes g r t s.test) (answer g r t ss) (Some (s.line, s.reason))

-- the tests, where the tree is these nodes
abbrev pub stops_at : Game → Report → Node → List Stop
stops_at g r t =
    ticket_stops 3 r.tickets.tickets
    ++ (value_stops r ++ (bound_stops r ++ (root_stops g (root_line r) t
    ++ (record { line = root_line r + tree_lines t; reason = 7; test = topped } ∷ record { line = root_line r + tree_lines t + 1; reason = 8; test = judged } ∷ []))))

-- all pass, or the first that fails
abbrev Told : Game → Report → List Stop → Option (ℕ × ℕ) → Type 0
Told g r ss None = AllPass g r ss
Told g r ss (Some (line, reason)) = FirstFails g r ss line reason

module _ (g : Game) (r : Report) where
  after : (s : Stop) (ss : List Stop) (o : Option (ℕ × ℕ)) → passes g r (node_of r.tree) s.test ≡ true → Told g r ss o → Told g r (s ∷ ss) o
  after s ss None e h = ((Decides-passes g r s.test).0 e, h)
  after s ss (Some (line, reason)) e h = inr ((Decides-passes g r s.test).0 e, h)

  told : (ss : List Stop) → Told g r ss (answer g r (node_of r.tree) ss)
  told [] = tt
  told (s ∷ ss) = by (told ss) (passes g r (node_of r.tree) s.test) refl
    where
      by : Told g r ss (answer g r (node_of r.tree) ss) → (b : Bool) → passes g r (node_of r.tree) s.test ≡ b → Told g r (s ∷ ss) (cond b (answer g r (node_of r.tree) ss) (Some (s.line, s.reason)))
      by rest true e = after s ss (answer g r (node_of r.tree) ss) e rest
      by rest false e = inl (not_from_Decides (passes g r (node_of r.tree) s.test) (Decides-passes g r s.test) e, refl, refl)

  pub accepted_by : (t : Node) → node_of r.tree ≡ t → IsReportValue r → answer g r t (stops_at g r t) ≡ None → IsAccepted g r
  accepted_by t same formed e =
      let f : answer g r (node_of r.tree) (stops_of g r) ≡ None = subst (λ (u : Node). answer g r u (stops_at g r u) ≡ None) (sym same) e in
      passed_accepted g r formed (subst (Told g r (stops_of g r)) f (told (stops_of g r)))

  pub refused_by : (t : Node) → node_of r.tree ≡ t → (line reason n : ℕ) → line ≡ min n (2 ^ 64 - 1) → answer g r t (stops_at g r t) ≡ Some (n, reason) → IsRefused g r line reason
  refused_by t same line reason n held e =
      let f : answer g r (node_of r.tree) (stops_of g r) ≡ Some (n, reason) = subst (λ (u : Node). answer g r u (stops_at g r u) ≡ Some (n, reason)) (sym same) e in
      (n, subst (Told g r (stops_of g r)) f (told (stops_of g r)), held)

pub each_is_answered : EachIsAnswered
each_is_answered g r formed = by (answer g r (node_of r.tree) (stops_of g r)) (told g r (stops_of g r))
  where
    by : (o : Option (ℕ × ℕ)) → Told g r (stops_of g r) o → IsAccepted g r ⊎ ((line : ℕ) × (reason : ℕ) × IsRefused g r line reason)
    by None h = inl (passed_accepted g r formed h)
    by (Some (line, reason)) h = inr (min line (2 ^ 64 - 1), reason, (line, h, refl))
