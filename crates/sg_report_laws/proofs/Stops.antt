-- The row on the line that each test of a report names.
use Rattle.std.proofs.Common.{◌≡◌, ℕ, ◌+◌, Bool, true, false, cond, List, [], ◌∷◌, ◌++◌, length, map, refl, sym, ap, ◌∙◌, arith, length-append, append_assoc, subst, Option, Some, None}
use Rattle.std.specs.Prelude.{codes, All, Contains}
use Rattle.std.specs.List.{flat_map}
use Rattle.std.proofs.lemmas.List.{length-map}
use Rattle.std.proofs.lemmas.List.Elements.{All-nil, All-cons, All-append, Contains-append_right}
use Rattle.sg_model.specs.declared.ticket.Ticket.{Ticket}
use Rattle.sg_model.specs.Sums.{nth}
use Rattle.sg_model.specs.Games.{Game}
use Rattle.sg_model.specs.Limits.{is_scaled}
use Rattle.sg_tree.specs.declared.fact.Fact.{Fact}
use Rattle.sg_tree.specs.declared.fact.Fact.TheVariants.{Plays, Cover, Water}
use Rattle.sg_tree.specs.declared.report.Cap.{Cap}
use Rattle.sg_tree.specs.declared.report.Report.{Report}
use Rattle.sg_cert.specs.Text.{FieldRow, base_rows, cap_row, cap_rows, fact_rows, fraction_row, head_rows, node_rows, report_rows, split_row, tail_rows, ticket_row, verdict_row}
use Rattle.sg_bounds.specs.Regions.{alone, prefix}
use Rattle.sg_bounds.specs.Trees.{Node, unproved, closed, split, Parts, end, part, node_of, part_count}
use Rattle.sg_bounds.specs.Checking.{Stop, base_lines, base_stops, bound_stops, bounded, cap_stops, cap_within, capped, caps_end, caps_stops, end_stops, fact_lines, fact_stops, forks, holds, judged, legal, leveled, lowest, part_stops, proof_lines, proof_stops, root_line, root_stops, rooted, sized, stops_of, ticket_stops, topped, totalled, tree_lines, tree_stops, upper_line, value_fits, value_line, value_stops, valued, weights_fit}
use Rattle.sg_report_laws.specs.Stops.{IsRowOf, first_row, total_row}
use Rattle.sg_report_laws.proofs.Rows.{StandsAt, all_at, first_at, left_at, right_at, same_at}
use Rattle.sg_report_laws.proofs.Nodes.{base_count, caps_count, fact_count, part_rows, proof_count, rows_are, rows_of, tree_count}

-- an item among others
among : {X : Type 0} (before : List X) (x : X) (xs : List X) → Contains (before ++ x ∷ xs) x
among before x xs = Contains-append_right before (x ∷ xs) x (0, omega arith, refl)

module _ (r : Report) (rows : List FieldRow) where
  abbrev Good : Stop → Type 0
  Good s = IsRowOf r s.test (nth rows s.line [])

  tickets : (line : ℕ) (before ts : List Ticket) → before ++ ts ≡ r.tickets.tickets → StandsAt rows line (map ticket_row ts) → All Good (ticket_stops line ts)
  tickets line before [] e h = All-nil Good
  tickets line before (x ∷ xs) e h =
      All-cons Good (record { line = line; reason = 1; test = legal x.play.code }) (ticket_stops (line + 1) xs)
      (x, subst (λ (ts : List Ticket). Contains ts x) e (among before x xs), refl, first_at rows line (ticket_row x) (map ticket_row xs) h)
      (tickets (line + 1) (before ++ x ∷ []) xs (append_assoc before (x ∷ []) xs ∙ e) (right_at rows line (line + 1) (ticket_row x ∷ []) (map ticket_row xs) refl h))

  -- ---- facts and caps

  fact_first : (line : ℕ) (f : Fact) → StandsAt rows line (fact_rows f) → nth rows line [] ≡ first_row (fact_rows f)
  fact_first line (Plays rho mu marks) h = first_at rows line _ _ h
  fact_first line (Cover rho mu lines) h = first_at rows line _ _ h
  fact_first line (Water level why) h = first_at rows line _ _ h

  proof_facts : (l a line : ℕ) (fs : List Fact) → StandsAt rows line (flat_map fact_rows fs) → All Good (proof_stops l a line fs)
  proof_facts l a line [] h = All-nil Good
  proof_facts l a line (f ∷ fs) h =
      let first = fact_first line f (left_at rows line (fact_rows f) (flat_map fact_rows fs) h) in
      let next = line + fact_lines f in
      let rest = proof_facts l (a + 1) next fs (right_at rows line next (fact_rows f) (flat_map fact_rows fs) (omega (arith, fact_count f)) h) in
      let more = proof_stops l (a + 1) next fs in
      let inequalities : Stop = record { line = line; reason = 6; test = holds (alone l a) f } in
      All-cons Good (record { line = line; reason = 9; test = sized (alone l a) f }) (inequalities ∷ more) first (All-cons Good inequalities more first rest)

  one_cap : (l line : ℕ) (c : Cap) → Contains r.caps c → StandsAt rows line (cap_rows c) → All Good (cap_stops l line c)
  one_cap l line c is h =
      let first = first_at rows line (cap_row c) (flat_map fact_rows c.proof) h in
      let facts = proof_stops l 1 (line + 1) c.proof in
      let last : Stop = record { line = line; reason = 4; test = cap_within l c.v c.proof } in
      All-cons Good (record { line = line; reason = 4; test = capped l c }) (facts ++ last ∷ []) (is, first)
      (All-append Good facts (last ∷ []) (proof_facts l 1 (line + 1) c.proof (right_at rows line (line + 1) (cap_row c ∷ []) (flat_map fact_rows c.proof) refl h))
      (All-cons Good last [] (c, is, refl, refl, first) (All-nil Good)))

  caps : (l line : ℕ) (before cs : List Cap) → before ++ cs ≡ r.caps → StandsAt rows line (flat_map cap_rows cs) → All Good (caps_stops l line cs)
  caps l line before [] e h = All-nil Good
  caps l line before (c ∷ cs) e h =
      let next = line + 1 + proof_lines c.proof in
      let is : Contains r.caps c = subst (λ (ds : List Cap). Contains ds c) e (among before c cs) in
      All-append Good (cap_stops l line c) (caps_stops (l + 1) next cs) (one_cap l line c is (left_at rows line (cap_rows c) (flat_map cap_rows cs) h))
      (caps (l + 1) next (before ++ c ∷ []) cs (append_assoc before (c ∷ []) cs ∙ e) (right_at rows line next (cap_rows c) (flat_map cap_rows cs) (omega (arith, proof_count c.proof)) h))

  -- ---- the tree

  tree_fact : (line : ℕ) (acts : List ℕ) (f : Fact) → StandsAt rows line (fact_rows f) → All Good (fact_stops line acts f)
  tree_fact line acts f h =
      let first = fact_first line f h in
      let inequalities : Stop = record { line = line; reason = 6; test = holds (prefix acts) f } in
      let last : Stop = record { line = line; reason = 9; test = bounded (length acts) f } in
      All-cons Good (record { line = line; reason = 9; test = sized (prefix acts) f }) (inequalities ∷ last ∷ []) first
      (All-cons Good inequalities (last ∷ []) first (All-cons Good last [] first (All-nil Good)))

  tree_base : (line : ℕ) (acts : List ℕ) (b : Option Fact) → StandsAt rows line (base_rows b) → All Good (base_stops line acts b)
  tree_base line acts None h = All-nil Good
  tree_base line acts (Some f) h = tree_fact line acts f h

  mutual
    tree : (line : ℕ) (acts : List ℕ) (t : Node) → StandsAt rows line (rows_of t) → All Good (tree_stops line acts t)
    tree line acts unproved h = All-nil Good
    tree line acts (closed f) h = tree_fact line acts f h
    tree line acts (split l base parts) h =
        let row = split_row l (part_count parts) in
        let behind = right_at rows line (line + 1) (row ∷ []) (base_rows base ++ part_rows parts) refl h in
        let next = line + 1 + base_lines base in
        let bases = base_stops (line + 1) acts base in
        let others = part_stops next acts 1 parts in
        All-cons Good (record { line = line; reason = 5; test = forks acts l (part_count parts) }) (bases ++ others) (first_at rows line row (base_rows base ++ part_rows parts) h)
        (All-append Good bases others (tree_base (line + 1) acts base (left_at rows (line + 1) (base_rows base) (part_rows parts) behind))
        (tree_parts next acts 1 parts (right_at rows (line + 1) next (base_rows base) (part_rows parts) (omega (arith, base_count base)) behind)))

    tree_parts : (line : ℕ) (acts : List ℕ) (a : ℕ) (parts : Parts) → StandsAt rows line (part_rows parts) → All Good (part_stops line acts a parts)
    tree_parts line acts a end h = All-nil Good
    tree_parts line acts a (part t rest) h =
        let next = line + tree_lines t in
        All-append Good (tree_stops line (acts ++ (a ∷ [])) t) (part_stops next acts (a + 1) rest) (tree line (acts ++ (a ∷ [])) t (left_at rows line (rows_of t) (part_rows rest) h))
        (tree_parts next acts (a + 1) rest (right_at rows line next (rows_of t) (part_rows rest) (omega (arith, tree_count t)) h))

  node_first : (line : ℕ) (t : Node) → StandsAt rows line (rows_of t) → nth rows line [] ≡ first_row (rows_of t)
  node_first line unproved h = first_at rows line _ _ h
  node_first line (closed f) h = fact_first line f h
  node_first line (split l base parts) h = first_at rows line _ _ h

  root : (g : Game) (line : ℕ) (t : Node) → StandsAt rows line (rows_of t) → nth rows line [] ≡ first_row (node_rows r.tree) → All Good (root_stops g line t)
  root g line t h first =
      All-cons Good (record { line = line; reason = 5; test = rooted }) (cond (is_scaled g) (record { line = line; reason = 6; test = leveled } ∷ []) (tree_stops line [] t)) first (by_form (is_scaled g))
    where
      by_form : (b : Bool) → All Good (cond b (record { line = line; reason = 6; test = leveled } ∷ []) (tree_stops line [] t))
      by_form true = All-cons Good (record { line = line; reason = 6; test = leveled }) [] first (All-nil Good)
      by_form false = tree line [] t h

pub stop_lines : (g : Game) (r : Report) → All (λ (s : Stop). IsRowOf r s.test (nth (report_rows r) s.line [])) (stops_of g r)
stop_lines g r =
    let rows = report_rows r in
    let good : Stop → Type 0 = λ (s : Stop). IsRowOf r s.test (nth rows s.line []) in
    let k = r.tickets.tickets in
    let t = node_of r.tree in
    let value = fraction_row (codes "value") r.value in
    let front = head_rows r in
    let of_caps = flat_map cap_rows r.caps in
    let of_tree = node_rows r.tree in
    let ends = tail_rows r in
    let top : FieldRow = codes "patrol-report" ∷ codes "1" ∷ [] in
    let count : length (map ticket_row k) ≡ length k = length-map k ticket_row in
    let front_count = length-append (map ticket_row k) (value ∷ []) in
    let at_all = all_at rows in
    let at_front = left_at rows 1 front (of_caps ++ (of_tree ++ ends)) at_all in
    let at_total = right_at rows 1 2 (top ∷ []) (total_row r ∷ (map ticket_row k ++ value ∷ [])) refl at_front in
    let at_tickets = right_at rows 2 3 (total_row r ∷ []) (map ticket_row k ++ value ∷ []) refl at_total in
    let at_value = right_at rows 3 (value_line r) (map ticket_row k) (value ∷ []) (omega (arith, count)) at_tickets in
    let at_caps = right_at rows 1 (value_line r + 1) front (of_caps ++ (of_tree ++ ends)) (omega (arith, count, front_count)) at_all in
    let at_tree = right_at rows (value_line r + 1) (root_line r) of_caps (of_tree ++ ends) (omega (arith, caps_count r.caps)) at_caps in
    let node = same_at rows (root_line r) of_tree (rows_of t) (rows_are r.tree) (left_at rows (root_line r) of_tree ends at_tree) in
    let tree_size : length of_tree ≡ tree_lines t = ap length (rows_are r.tree) ∙ tree_count t in
    let at_upper = right_at rows (root_line r) (upper_line r) of_tree ends (omega (arith, tree_size)) at_tree in
    let at_verdict = right_at rows (upper_line r) (upper_line r + 1) (fraction_row (codes "upper") r.upper ∷ []) (verdict_row r.ending ∷ (codes "end" ∷ []) ∷ []) refl at_upper in
    let total_is = first_at rows 2 (total_row r) (map ticket_row k ++ value ∷ []) at_total in
    let value_is = first_at rows (value_line r) value [] at_value in
    let root_is = node_first r rows (root_line r) t node ∙ ap first_row (sym (rows_are r.tree)) in
    let upper_is = first_at rows (upper_line r) (fraction_row (codes "upper") r.upper) (verdict_row r.ending ∷ (codes "end" ∷ []) ∷ []) at_upper in
    let verdict_is = first_at rows (upper_line r + 1) (verdict_row r.ending) ((codes "end" ∷ []) ∷ []) at_verdict in
    let s1 : Stop = record { line = 2; reason = 9; test = weights_fit } in
    let s2 : Stop = record { line = 2; reason = 2; test = totalled } in
    let s3 : Stop = record { line = 2; reason = 2; test = lowest } in
    let s4 : Stop = record { line = value_line r; reason = 9; test = value_fits } in
    let s5 : Stop = record { line = value_line r; reason = 3; test = valued } in
    let missing : Stop = record { line = root_line r; reason = 4; test = caps_end } in
    let s6 : Stop = record { line = upper_line r; reason = 7; test = topped } in
    let s7 : Stop = record { line = upper_line r + 1; reason = 8; test = judged } in
    let values = All-cons good s1 (s2 ∷ s3 ∷ s4 ∷ s5 ∷ []) total_is (All-cons good s2 (s3 ∷ s4 ∷ s5 ∷ []) total_is (All-cons good s3 (s4 ∷ s5 ∷ []) total_is (All-cons good s4 (s5 ∷ []) value_is (All-cons good s5 [] value_is (All-nil good))))) in
    let each = caps_stops 2 (value_line r + 1) r.caps in
    let bounds = All-append good each (missing ∷ []) (caps r rows 2 (value_line r + 1) [] r.caps refl (left_at rows (value_line r + 1) of_caps (of_tree ++ ends) at_caps)) (All-cons good missing [] root_is (All-nil good)) in
    let last = All-cons good s6 (s7 ∷ []) upper_is (All-cons good s7 [] verdict_is (All-nil good)) in
    let roots = root_stops g (root_line r) t in
    All-append good (ticket_stops 3 k) (value_stops r ++ (bound_stops r ++ (roots ++ end_stops r))) (tickets r rows 3 [] k refl (left_at rows 3 (map ticket_row k) (value ∷ []) at_tickets))
    (All-append good (value_stops r) (bound_stops r ++ (roots ++ end_stops r)) values
    (All-append good (bound_stops r) (roots ++ end_stops r) bounds
    (All-append good roots (end_stops r) (root r rows g (root_line r) t node root_is) last)))
