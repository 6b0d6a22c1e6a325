-- All tests of an accepted report pass.
use Rattle.std.proofs.Common.{◌≡◌, ℕ, ◌+◌, ◌-◌, ◌≤◌, Bool, true, false, cond, List, [], ◌∷◌, ◌++◌, length, ℤ, subst, refl, arith, Option, Some, None}
use Rattle.std.specs.List.{All}
use Rattle.std.specs.Prelude.{MatchBool}
use Rattle.std.proofs.lemmas.List.Elements.{All-head, All-tail, All-nil, All-cons}
use Rattle.sg_model.specs.declared.ticket.Ticket.{Ticket}
use Rattle.sg_model.specs.Sums.{nth}
use Rattle.sg_model.specs.Games.{Game}
use Rattle.sg_model.specs.Plays.{IsLegal}
use Rattle.sg_model.specs.Limits.{is_scaled}
use Rattle.sg_tree.specs.declared.fact.Fact.{Fact}
use Rattle.sg_tree.specs.declared.fact.Fact.TheVariants.{Plays, Cover, Water}
use Rattle.sg_tree.specs.declared.report.Cap.{Cap}
use Rattle.sg_tree.specs.declared.report.Report.{Report}
use Rattle.sg_bounds.specs.Regions.{alone, prefix}
use Rattle.sg_bounds.specs.Facts.{HoldsFor, no_fact}
use Rattle.sg_bounds.specs.Caps.{IsAllowedBy, IsUnderCap, no_cap}
use Rattle.sg_bounds.specs.Trees.{Node, unproved, closed, split, Parts, end, part, node_of, IsBase, IsRoot, IsTreeOf, ArePartsOf}
use Rattle.sg_bounds.specs.Sizes.{bound_sums, size_sums, value_sums, weight_sums}
use Rattle.sg_num.specs.Exact.{Fits}
use Rattle.sg_bounds.specs.Accepted.{IsAccepted, IsSplitTree, IsWaterTree, base_sums, cap_sums, fact_sums, part_sums, proof_sums, tree_sums}
use Rattle.sg_bounds.specs.Checking.{AllPass, IsCapShape, IsWaterRoot, Stop, base_lines, base_stops, bound_stops, cap_stops, cap_within, caps_end, caps_stops, end_stops, fact_lines, fact_stops, leveled, part_stops, proof_lines, proof_stops, root_line, root_stops, stops_of, ticket_stops, tree_lines, tree_stops, value_line, value_stops}
use Rattle.sg_bounds.proofs.Places.{All-left, All-right, nth-next}

module _ (g : Game) (r : Report) where
  join : (xs ys : List Stop) → AllPass g r xs → AllPass g r ys → AllPass g r (xs ++ ys)
  join [] ys h k = k
  join (x ∷ xs) ys h k = (h.0, join xs ys h.1 k)

  tickets-pass : (line : ℕ) (k : List Ticket) → All (λ (x : Ticket). IsLegal g x.play.code) k → AllPass g r (ticket_stops line k)
  tickets-pass line [] h = tt
  tickets-pass line (x ∷ xs) h = (All-head (λ (x : Ticket). IsLegal g x.play.code) x xs h, tickets-pass (line + 1) xs (All-tail (λ (x : Ticket). IsLegal g x.play.code) x xs h))

  -- ---- caps: facts from action n on, and caps from type n on, by their places

  proof-passes : (l n line : ℕ) (fs : List Fact) → ((i : ℕ) → 1 ≤ i → i ≤ length fs → HoldsFor g (alone l (n + i - 1)) (nth fs i no_fact))
      → All Fits (proof_sums g l n fs) → AllPass g r (proof_stops l n line fs)
  proof-passes l n line [] h fit = tt
  proof-passes l n line (f ∷ fs) h fit =
      let e : n + 1 - 1 ≡ n = omega arith in
      let sums : List ℤ = size_sums g (alone l n) f in
      let later : List ℤ = proof_sums g l (n + 1) fs in
      let rest : (i : ℕ) → 1 ≤ i → i ≤ length fs → HoldsFor g (alone l (n + 1 + i - 1)) (nth fs i no_fact) =
      λ i low high.
      let next = h (i + 1) (omega arith) (omega arith) in
      let at : nth (f ∷ fs) (i + 1) no_fact ≡ nth fs i no_fact = nth-next f fs (i + 1) i no_fact refl low in
      let same : n + (i + 1) - 1 ≡ n + 1 + i - 1 = omega arith in
      subst (λ (m : ℕ). HoldsFor g (alone l m) (nth fs i no_fact)) same (subst (λ (x : Fact). HoldsFor g (alone l (n + (i + 1) - 1)) x) at next) in
      (All-left Fits sums later fit, (subst (λ (m : ℕ). HoldsFor g (alone l m) f) e (h 1 (omega arith) (omega arith)), proof-passes l (n + 1) (line + fact_lines f) fs rest (All-right Fits sums later fit)))

  within-all : (l : ℕ) (w : ℤ) (fs : List Fact) → ((i : ℕ) → 1 ≤ i → i ≤ length fs → IsUnderCap g l w (nth fs i no_fact)) → All (IsUnderCap g l w) fs
  within-all l w [] h = All-nil (IsUnderCap g l w)
  within-all l w (f ∷ fs) h =
      All-cons (IsUnderCap g l w) f fs (h 1 (omega arith) (omega arith))
      (within-all l w fs (λ i low high. let at : nth (f ∷ fs) (i + 1) no_fact ≡ nth fs i no_fact = nth-next f fs (i + 1) i no_fact refl low in subst (IsUnderCap g l w) at (h (i + 1) (omega arith) (omega arith))))

  cap-passes : (l line : ℕ) (c : Cap) → l ≤ length g.types → c.l ≡ l → IsAllowedBy g l c.v c.proof → All Fits (proof_sums g l 1 c.proof) → AllPass g r (cap_stops l line c)
  cap-passes l line c high same allowed fit =
      let p = by_proof c.proof allowed fit in
      let last : List Stop = record { line = line; reason = 4; test = cap_within l c.v c.proof } ∷ [] in
      (p.0, join (proof_stops l 1 (line + 1) c.proof) last p.1 (p.2, tt))
    where
      by_proof : (fs : List Fact) → IsAllowedBy g l c.v fs → All Fits (proof_sums g l 1 fs)
          → ((l ≤ length g.types) × (c.l ≡ l) × IsCapShape g l c.v fs) × AllPass g r (proof_stops l 1 (line + 1) fs) × All (IsUnderCap g l c.v) fs
      by_proof [] allowed fit = ((high, same, allowed), tt, All-nil (IsUnderCap g l c.v))
      by_proof (f ∷ fs) allowed fit = (
        (high, same, allowed.0),
        proof-passes l 1 (line + 1) (f ∷ fs) (λ i low high. let e : i ≡ 1 + i - 1 = omega arith in subst (λ (m : ℕ). HoldsFor g (alone l m) (nth (f ∷ fs) i no_fact)) e (allowed.1 i low (omega (arith, high, allowed.0))).0) fit,
        within-all l c.v (f ∷ fs) (λ i low high. (allowed.1 i low (omega (arith, high, allowed.0))).1),
      )

  caps-pass : (n line : ℕ) (cs : List Cap) → n + length cs ≤ length g.types + 1
      → ((i : ℕ) → 1 ≤ i → i ≤ length cs → ((nth cs i no_cap).l ≡ n + i - 1) × IsAllowedBy g (n + i - 1) (nth cs i no_cap).v (nth cs i no_cap).proof)
      → All Fits (cap_sums g n cs) → AllPass g r (caps_stops n line cs)
  caps-pass n line [] room h fit = tt
  caps-pass n line (c ∷ cs) room h fit =
      let here = cap_stops n line c in
      let later = caps_stops (n + 1) (line + 1 + proof_lines c.proof) cs in
      let sums : List ℤ = proof_sums g n 1 c.proof in
      let others : List ℤ = cap_sums g (n + 1) cs in
      let e : n + 1 - 1 ≡ n = omega arith in
      let first = subst (λ (m : ℕ). (c.l ≡ m) × IsAllowedBy g m c.v c.proof) e (h 1 (omega arith) (omega arith)) in
      let rest : (i : ℕ) → 1 ≤ i → i ≤ length cs → ((nth cs i no_cap).l ≡ n + 1 + i - 1) × IsAllowedBy g (n + 1 + i - 1) (nth cs i no_cap).v (nth cs i no_cap).proof =
      λ i low high.
      let next = h (i + 1) (omega arith) (omega arith) in
      let at : nth (c ∷ cs) (i + 1) no_cap ≡ nth cs i no_cap = nth-next c cs (i + 1) i no_cap refl low in
      let same : n + (i + 1) - 1 ≡ n + 1 + i - 1 = omega arith in
      subst (λ (m : ℕ). ((nth cs i no_cap).l ≡ m) × IsAllowedBy g m (nth cs i no_cap).v (nth cs i no_cap).proof) same
      (subst (λ (x : Cap). (x.l ≡ n + (i + 1) - 1) × IsAllowedBy g (n + (i + 1) - 1) x.v x.proof) at next) in
      join here later (cap-passes n line c (omega arith) first.0 first.1 (All-left Fits sums others fit)) (caps-pass (n + 1) (line + 1 + proof_lines c.proof) cs (omega arith) rest (All-right Fits sums others fit))

  -- ---- the tree

  fact-passes : (line : ℕ) (acts : List ℕ) (f : Fact) → HoldsFor g (prefix acts) f → All Fits (fact_sums g r.caps acts f) → AllPass g r (fact_stops line acts f)
  fact-passes line acts f h fit =
      let sums : List ℤ = size_sums g (prefix acts) f in let bounds : List ℤ = bound_sums g r.caps (length acts) f in
      (All-left Fits sums bounds fit, (h, (All-right Fits sums bounds fit, tt)))

  base-passes : (line : ℕ) (acts : List ℕ) (base : Option Fact) → IsBase (HoldsFor g) (prefix acts) base → All Fits (base_sums g r.caps acts base) → AllPass g r (base_stops line acts base)
  base-passes line acts None h fit = tt
  base-passes line acts (Some f) h fit = fact-passes line acts f h fit

  mutual
    tree-passes : (tree : Node) (line : ℕ) (acts : List ℕ) → IsTreeOf g (HoldsFor g) acts tree → All Fits (tree_sums g r.caps acts tree) → AllPass g r (tree_stops line acts tree)
    tree-passes unproved line acts h fit = tt
    tree-passes (closed f) line acts h fit = fact-passes line acts f h fit
    tree-passes (split l base parts) line acts h fit =
        let left = base_stops (line + 1) acts base in
        let right = part_stops (line + 1 + base_lines base) acts 1 parts in
        let sums : List ℤ = base_sums g r.caps acts base in let others : List ℤ = part_sums g r.caps acts 1 parts in
        ((h.0, h.1, h.3), join left right (base-passes (line + 1) acts base h.2 (All-left Fits sums others fit)) (part-passes parts (line + 1 + base_lines base) acts 1 h.4 (All-right Fits sums others fit)))

    part-passes : (parts : Parts) (line : ℕ) (acts : List ℕ) (n : ℕ) → ArePartsOf g (HoldsFor g) acts n parts → All Fits (part_sums g r.caps acts n parts) → AllPass g r (part_stops line acts n parts)
    part-passes end line acts n h fit = tt
    part-passes (part t rest) line acts n h fit =
        let left = tree_stops line (acts ++ (n ∷ [])) t in
        let right = part_stops (line + tree_lines t) acts (n + 1) rest in
        let sums : List ℤ = tree_sums g r.caps (acts ++ (n ∷ [])) t in let others : List ℤ = part_sums g r.caps acts (n + 1) rest in
        join left right (tree-passes t line (acts ++ (n ∷ [])) h.0 (All-left Fits sums others fit)) (part-passes rest (line + tree_lines t) acts (n + 1) h.1 (All-right Fits sums others fit))

  water-root : (t : Node) → IsWaterTree g t → IsWaterRoot t
  water-root unproved h = absurd h
  water-root (split l base parts) h = absurd h
  water-root (closed (Plays rho mu marks)) h = absurd h
  water-root (closed (Cover rho mu lines)) h = absurd h
  water-root (closed (Water level why)) h = tt

  root-passes : (line : ℕ) → MatchBool (is_scaled g) (IsWaterTree g (node_of r.tree)) (IsSplitTree g (node_of r.tree)) → All Fits (tree_sums g r.caps [] (node_of r.tree)) → AllPass g r (root_stops g line (node_of r.tree))
  root-passes line tree fit = by_form (is_scaled g) tree
    where
      by_form : (b : Bool) → MatchBool b (IsWaterTree g (node_of r.tree)) (IsSplitTree g (node_of r.tree))
          → MatchBool b (IsWaterRoot (node_of r.tree)) (IsRoot (node_of r.tree)) × AllPass g r (cond b (record { line = line; reason = 6; test = leveled } ∷ []) (tree_stops line [] (node_of r.tree)))
      by_form true tree = (water-root (node_of r.tree) tree, (tree, tt))
      by_form false tree = (tree.root, tree-passes (node_of r.tree) line [] tree.tree_of fit)

pub accepted_passes : (g : Game) (r : Report) → IsAccepted g r → AllPass g r (stops_of g r)
accepted_passes g r h =
    let k = r.tickets.tickets in
    let tree : Node = node_of r.tree in
    let c = h.caps in
    let tickets = h.tickets in
    let weights : List ℤ = weight_sums k in let values : List ℤ = value_sums g k in let of_caps : List ℤ = cap_sums g 2 r.caps in let of_tree : List ℤ = tree_sums g r.caps [] tree in
    let f1 = All-right Fits weights (values ++ (of_caps ++ of_tree)) h.sums in
    let f2 = All-right Fits values (of_caps ++ of_tree) f1 in
    let each : List Stop = caps_stops 2 (value_line r + 1) r.caps in
    let last : List Stop = record { line = root_line r; reason = 4; test = caps_end } ∷ [] in
    let root : List Stop = root_stops g (root_line r) tree in
    let ends : List Stop = end_stops r in
    let at = λ (i : ℕ) (low : 1 ≤ i) (high : i ≤ length r.caps).
    let back : 2 + i - 1 - 1 ≡ i = omega arith in
    let q : ((nth r.caps (2 + i - 1 - 1) no_cap).l ≡ 2 + i - 1) × IsAllowedBy g (2 + i - 1) (nth r.caps (2 + i - 1 - 1) no_cap).v (nth r.caps (2 + i - 1 - 1) no_cap).proof =
    (c.in_order (2 + i - 1) (omega arith) (omega (arith, c.one_each)), c.allowed (2 + i - 1) (omega arith) (omega (arith, c.one_each))) in
    subst (λ (n : ℕ). ((nth r.caps n no_cap).l ≡ 2 + i - 1) × IsAllowedBy g (2 + i - 1) (nth r.caps n no_cap).v (nth r.caps n no_cap).proof) back q in
    let caps_pass = caps-pass g r 2 (value_line r + 1) r.caps (omega (arith, c.one_each)) at (All-left Fits of_caps of_tree f2) in
    let root_pass = root-passes g r (root_line r) h.tree (All-right Fits of_caps of_tree f2) in
    join g r (ticket_stops 3 k) (value_stops r ++ (bound_stops r ++ (root ++ ends))) (tickets-pass g r 3 k tickets.legal)
    (join g r (value_stops r) (bound_stops r ++ (root ++ ends)) (All-left Fits weights (values ++ (of_caps ++ of_tree)) h.sums, (h.total, (h.lowest, (All-left Fits values (of_caps ++ of_tree) f1, (h.value, tt)))))
    (join g r (bound_stops r) (root ++ ends) (join g r each last caps_pass (c.one_each, tt))
    (join g r root ends root_pass (h.upper, (h.ending, tt)))))
