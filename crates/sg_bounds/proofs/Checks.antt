-- A report whose tests all pass is accepted.
use Rattle.std.proofs.Common.{◌≡◌, ℕ, ◌+◌, ◌-◌, ◌<◌, ◌≤◌, Bool, true, false, cond, sym, List, [], ◌∷◌, ◌++◌, length, ℤ, ◌∙◌, subst, refl, arith, inl, inr, Option, Some, None}
use Rattle.std.specs.List.{All}
use Rattle.std.specs.Prelude.{MatchBool}
use Rattle.std.proofs.lemmas.Bool.{cases_eq}
use Rattle.std.proofs.lemmas.List.Elements.{All-nil, All-cons, All-append}
use Rattle.sg_model.specs.declared.ticket.Ticket.{Ticket}
use Rattle.sg_model.specs.Sums.{nth}
use Rattle.sg_model.specs.Games.{Game}
use Rattle.sg_model.specs.Plays.{IsLegal}
use Rattle.sg_model.specs.Limits.{is_scaled}
use Rattle.sg_model.proofs.Promises.{nth-all}
use Rattle.sg_tree.specs.declared.fact.Fact.{Fact}
use Rattle.sg_tree.specs.declared.fact.Fact.TheVariants.{Plays, Cover, Water}
use Rattle.sg_tree.specs.declared.report.Cap.{Cap}
use Rattle.sg_tree.specs.declared.report.Report.{Report}
use Rattle.sg_bounds.specs.Regions.{alone, prefix}
use Rattle.sg_bounds.specs.Facts.{HoldsFor, no_fact}
use Rattle.sg_bounds.specs.Caps.{IsAllowedBy, IsUnderCap, no_cap}
use Rattle.sg_bounds.specs.Trees.{Node, unproved, closed, split, Parts, end, part, node_of, IsBase, IsRoot, IsTreeOf, ArePartsOf}
use Rattle.sg_bounds.specs.Sizes.{value_sums, weight_sums}
use Rattle.sg_num.specs.Exact.{Fits}
use Rattle.sg_bounds.specs.Accepted.{IsAccepted, IsSplitTree, IsWaterTree, base_sums, cap_sums, fact_sums, part_sums, proof_sums, tree_sums}
use Rattle.sg_bounds.specs.Checking.{AllPass, IsCapShape, IsReportValue, IsWaterRoot, Stop, base_lines, base_stops, bound_stops, cap_stops, cap_within, caps_end, caps_stops, end_stops, fact_lines, fact_stops, leveled, part_stops, proof_lines, proof_stops, root_line, root_stops, stops_of, ticket_stops, tree_lines, tree_stops, value_line, value_stops}
use Rattle.sg_bounds.proofs.Claims.{claim_commits}
use Rattle.sg_bounds.proofs.Places.{nth-first, nth-next}

module _ (g : Game) (r : Report) where
  pub pass-left : (xs ys : List Stop) → AllPass g r (xs ++ ys) → AllPass g r xs
  pass-left [] ys h = tt
  pass-left (x ∷ xs) ys h = (h.0, pass-left xs ys h.1)

  pub pass-right : (xs ys : List Stop) → AllPass g r (xs ++ ys) → AllPass g r ys
  pass-right [] ys h = h
  pass-right (x ∷ xs) ys h = pass-right xs ys h.1

  all-legal : (line : ℕ) (k : List Ticket) → AllPass g r (ticket_stops line k) → All (λ (x : Ticket). IsLegal g x.play.code) k
  all-legal line [] h = All-nil (λ (x : Ticket). IsLegal g x.play.code)
  all-legal line (x ∷ xs) h = All-cons (λ (x : Ticket). IsLegal g x.play.code) x xs h.0 (all-legal (line + 1) xs h.1)

  -- ---- caps

  proof-at : (l n line : ℕ) (fs : List Fact) → AllPass g r (proof_stops l n line fs)
      → (m : ℕ) → n ≤ m → m < n + length fs → (i : ℕ) → i ≡ m - n + 1 → HoldsFor g (alone l m) (nth fs i no_fact)
  proof-at l n line [] h m low high i e = absurd (omega arith)
  proof-at l n line (f ∷ fs) h m low high i e =
      elim (cases_eq n m) [
        | inl same ↦ (
            let at : nth (f ∷ fs) i no_fact ≡ f = nth-first f fs i no_fact (omega (arith, e)) in
            rw at (subst (λ (x : ℕ). HoldsFor g (alone l x) f) same h.1.0))
        | inr other ↦ (
            let at : nth (f ∷ fs) i no_fact ≡ nth fs (m - (n + 1) + 1) no_fact = nth-next f fs i (m - (n + 1) + 1) no_fact (omega (arith, e)) (omega arith) in
            rw at (proof-at l (n + 1) (line + fact_lines f) fs h.1.1 m (omega arith) (omega arith) (m - (n + 1) + 1) refl))
      ]

  allowed-by : (l line : ℕ) (w : ℤ) (proof : List Fact) → IsCapShape g l w proof → AllPass g r (proof_stops l 1 (line + 1) proof) → All (IsUnderCap g l w) proof → IsAllowedBy g l w proof
  allowed-by l line w [] shape h within = shape
  allowed-by l line w (f ∷ fs) shape h within =
      (shape, λ m low high. (proof-at l 1 (line + 1) (f ∷ fs) h m low (omega (arith, shape)) m (omega arith), nth-all (IsUnderCap g l w) (f ∷ fs) no_fact within m low (omega (arith, high, shape))))

  caps-at : (n line : ℕ) (cs : List Cap) → AllPass g r (caps_stops n line cs) → (l : ℕ) → n ≤ l → l < n + length cs → (i : ℕ) → i ≡ l - n + 1
      → ((nth cs i no_cap).l ≡ l) × IsAllowedBy g l (nth cs i no_cap).v (nth cs i no_cap).proof
  caps-at n line [] h l low high i e = absurd (omega arith)
  caps-at n line (c ∷ cs) h l low high i e =
      let here = cap_stops n line c in
      let rest = caps_stops (n + 1) (line + 1 + proof_lines c.proof) cs in
      let facts = proof_stops n 1 (line + 1) c.proof in
      let last : List Stop = record { line = line; reason = 4; test = cap_within n c.v c.proof } ∷ [] in
      let p = pass-left here rest h in
      elim (cases_eq n l) [
        | inl same ↦ (
            let at : nth (c ∷ cs) i no_cap ≡ c = nth-first c cs i no_cap (omega (arith, e)) in
            rw at (p.0.1 ∙ same, subst (λ (x : ℕ). IsAllowedBy g x c.v c.proof) same (allowed-by n line c.v c.proof p.0.2 (pass-left facts last p.1) (pass-right facts last p.1).0)))
        | inr other ↦ (
            let at : nth (c ∷ cs) i no_cap ≡ nth cs (l - (n + 1) + 1) no_cap = nth-next c cs i (l - (n + 1) + 1) no_cap (omega (arith, e)) (omega arith) in
            rw at (caps-at (n + 1) (line + 1 + proof_lines c.proof) cs (pass-right here rest h) l (omega arith) (omega arith) (l - (n + 1) + 1) refl))
      ]

  proof-fits : (l n line : ℕ) (fs : List Fact) → AllPass g r (proof_stops l n line fs) → All Fits (proof_sums g l n fs)
  proof-fits l n line [] h = All-nil Fits
  proof-fits l n line (f ∷ fs) h = All-append Fits _ (proof_sums g l (n + 1) fs) h.0 (proof-fits l (n + 1) (line + fact_lines f) fs h.1.1)

  caps-fit : (l line : ℕ) (cs : List Cap) → AllPass g r (caps_stops l line cs) → All Fits (cap_sums g l cs)
  caps-fit l line [] h = All-nil Fits
  caps-fit l line (c ∷ cs) h =
      let here = cap_stops l line c in
      let rest = caps_stops (l + 1) (line + 1 + proof_lines c.proof) cs in
      let last : List Stop = record { line = line; reason = 4; test = cap_within l c.v c.proof } ∷ [] in
      let p = pass-left here rest h in
      All-append Fits (proof_sums g l 1 c.proof) (cap_sums g (l + 1) cs) (proof-fits l 1 (line + 1) c.proof (pass-left (proof_stops l 1 (line + 1) c.proof) last p.1))
      (caps-fit (l + 1) (line + 1 + proof_lines c.proof) cs (pass-right here rest h))

  -- ---- the tree

  fact-fits : (line : ℕ) (acts : List ℕ) (f : Fact) → AllPass g r (fact_stops line acts f) → All Fits (fact_sums g r.caps acts f)
  fact-fits line acts f h = All-append Fits _ _ h.0 h.1.1.0

  base-form : (line : ℕ) (acts : List ℕ) (base : Option Fact) → AllPass g r (base_stops line acts base) → IsBase (HoldsFor g) (prefix acts) base × All Fits (base_sums g r.caps acts base)
  base-form line acts None h = (tt, All-nil Fits)
  base-form line acts (Some f) h = (h.1.0, fact-fits line acts f h)

  mutual
    tree-form : (tree : Node) (line : ℕ) (acts : List ℕ) → AllPass g r (tree_stops line acts tree) → IsTreeOf g (HoldsFor g) acts tree × All Fits (tree_sums g r.caps acts tree)
    tree-form unproved line acts h = (tt, All-nil Fits)
    tree-form (closed f) line acts h = (h.1.0, fact-fits line acts f h)
    tree-form (split l base parts) line acts h =
        let left = base_stops (line + 1) acts base in
        let right = part_stops (line + 1 + base_lines base) acts 1 parts in
        let b = base-form (line + 1) acts base (pass-left left right h.1) in
        let p = part-form parts (line + 1 + base_lines base) acts 1 (pass-right left right h.1) in
        ((h.0.0, h.0.1, b.0, h.0.2, p.0), All-append Fits (base_sums g r.caps acts base) (part_sums g r.caps acts 1 parts) b.1 p.1)

    part-form : (parts : Parts) (line : ℕ) (acts : List ℕ) (n : ℕ) → AllPass g r (part_stops line acts n parts) → ArePartsOf g (HoldsFor g) acts n parts × All Fits (part_sums g r.caps acts n parts)
    part-form end line acts n h = (tt, All-nil Fits)
    part-form (part t rest) line acts n h =
        let left = tree_stops line (acts ++ (n ∷ [])) t in
        let right = part_stops (line + tree_lines t) acts (n + 1) rest in
        let a = tree-form t line (acts ++ (n ∷ [])) (pass-left left right h) in
        let b = part-form rest (line + tree_lines t) acts (n + 1) (pass-right left right h) in
        ((a.0, b.0), All-append Fits (tree_sums g r.caps (acts ++ (n ∷ [])) t) (part_sums g r.caps acts (n + 1) rest) a.1 b.1)

  water-fits : (t : Node) → IsWaterTree g t → All Fits (tree_sums g r.caps [] t)
  water-fits unproved h = absurd h
  water-fits (split l base parts) h = absurd h
  water-fits (closed (Plays rho mu marks)) h = absurd h
  water-fits (closed (Cover rho mu lines)) h = absurd h
  water-fits (closed (Water level why)) h = All-nil Fits

  root-form : (line : ℕ) (t : Node) → MatchBool (is_scaled g) (IsWaterRoot t) (IsRoot t)
      → AllPass g r (cond (is_scaled g) (record { line = line; reason = 6; test = leveled } ∷ []) (tree_stops line [] t))
      → t ≡ node_of r.tree → MatchBool (is_scaled g) (IsWaterTree g t) (IsSplitTree g t) × All Fits (tree_sums g r.caps [] t)
  root-form line t root h same = by_form (is_scaled g) root h
    where
      by_form : (b : Bool) → MatchBool b (IsWaterRoot t) (IsRoot t) → AllPass g r (cond b (record { line = line; reason = 6; test = leveled } ∷ []) (tree_stops line [] t))
          → MatchBool b (IsWaterTree g t) (IsSplitTree g t) × All Fits (tree_sums g r.caps [] t)
      by_form true root h = let w : IsWaterTree g t = subst (IsWaterTree g) (sym same) h.0 in (w, water-fits t w)
      by_form false root h = let f = tree-form t line [] h in (record { root = root; tree_of = f.0 }, f.1)

pub passed_accepted : (g : Game) (r : Report) → IsReportValue r → AllPass g r (stops_of g r) → IsAccepted g r
passed_accepted g r formed h =
    let k = r.tickets.tickets in
    let first : List Stop = ticket_stops 3 k in
    let total : List Stop = value_stops r in
    let caps : List Stop = bound_stops r in
    let each : List Stop = caps_stops 2 (value_line r + 1) r.caps in
    let last : List Stop = record { line = root_line r; reason = 4; test = caps_end } ∷ [] in
    let root : List Stop = root_stops g (root_line r) (node_of r.tree) in
    let ends : List Stop = end_stops r in
    let h1 = pass-right g r first (total ++ (caps ++ (root ++ ends))) h in
    let h2 = pass-right g r total (caps ++ (root ++ ends)) h1 in
    let h3 = pass-right g r caps (root ++ ends) h2 in
    let t = pass-left g r total (caps ++ (root ++ ends)) h1 in
    let c = pass-left g r caps (root ++ ends) h2 in
    let of_caps = pass-left g r each last c in
    let one_each = (pass-right g r each last c).0 in
    let n = pass-left g r root ends h3 in
    let e = pass-right g r root ends h3 in
    let f = root-form g r (root_line r) (node_of r.tree) n.0 n.1 refl in
    let legal = all-legal g r 3 k (pass-left g r first (total ++ (caps ++ (root ++ ends))) h) in
    let at = λ (l : ℕ) (low : 2 ≤ l) (high : l ≤ length g.types). caps-at g r 2 (value_line r + 1) r.caps of_caps l low (omega (arith, one_each)) (l - 1) (omega arith) in
    record {
      tickets = claim_commits g k formed.tickets legal;
      total = t.1.0;
      lowest = t.1.1.0;
      value = t.1.1.1.1.0;
      value_reduced = formed.value;
      caps = record { one_each = one_each; in_order = λ l low high. (at l low high).0; allowed = λ l low high. (at l low high).1 };
      tree = f.0;
      upper = e.0;
      upper_reduced = formed.upper;
      ending = e.1.0;
      sums = All-append Fits (weight_sums k) (value_sums g k ++ (cap_sums g 2 r.caps ++ tree_sums g r.caps [] (node_of r.tree))) t.0
          (All-append Fits (value_sums g k) (cap_sums g 2 r.caps ++ tree_sums g r.caps [] (node_of r.tree)) t.1.1.1.0
          (All-append Fits (cap_sums g 2 r.caps) (tree_sums g r.caps [] (node_of r.tree)) (caps-fit g r 2 (value_line r + 1) r.caps of_caps) f.1));
    }
