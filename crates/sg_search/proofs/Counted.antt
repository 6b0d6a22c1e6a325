-- Worked nodes are all different, and keep within the budget.
use Rattle.std.proofs.Common.{◌≡◌, ◌≢◌, ℕ, zero, suc, ◌+◌, ◌-◌, ◌≤◌, Bool, true, cond, List, [], ◌∷◌, set, get_or, count_by, is_some, sym, ◌∙◌, ap, subst, refl, arith, Option, Some, None, AllPairs, length-append, length-set}
use Rattle.std.proofs.lemmas.List.{length-replicate}
use Rattle.std.proofs.lemmas.List.Sums.{sum_by-cons, get_or-le-sum_by}
use Rattle.sg_tree.specs.declared.fix.Fix.{Fix}
use Rattle.sg_tree.specs.declared.worked.Worked.{Worked}
use Rattle.sg_search.specs.declared.held.Held.{Held}
use Rattle.sg_search.specs.Searches.{Task, Search, first_search, same, busy_count}
use Rattle.sg_search.specs.Changes.{Change, takes, branches, moves, ends, works, sticks, Goes, MayBegin, Holds, with_lane, begun, first_part}
use Rattle.sg_search.specs.PlaceLaws.{BudgetKept, IsInBudget, WorkedDiffer}
use Rattle.sg_search.proofs.Placed.{one_if, same-self, lane-set, runs-keep, free-none, known_in_one_place}

count-cons : (x : Fix) (w : Worked) (ws : List Worked) → count_by (λ (v : Worked). same x v.fix) (w ∷ ws) ≡ one_if (same x w.fix) + count_by (λ (v : Worked). same x v.fix) ws
count-cons x w ws = sum_by-cons (λ (v : Worked). cond (same x v.fix) 1 0) w ws

-- where no node is there twice, those at two places differ
once-differ : (ws : List Worked) → ((x : Fix) → count_by (λ (v : Worked). same x v.fix) ws ≤ 1) → AllPairs (λ (w v : Worked). w.fix ≢ v.fix) ws
once-differ [] once i j d low high = absurd (omega (arith, high))
once-differ (w ∷ ws) once i zero d low high = absurd (omega (arith, low))
once-differ (w ∷ ws) once zero (suc j) d low high = λ e.
    let a = once w.fix in
    let b = count-cons w.fix w ws in
    let c = get_or-le-sum_by (λ (v : Worked). cond (same w.fix v.fix) 1 0) ws j d (omega (arith, high)) in
    let y : one_if (same w.fix w.fix) ≡ 1 = ap one_if (same-self w.fix) in
    let z : one_if (same w.fix (get_or ws j d).fix) ≡ 1 = ap one_if (subst (λ (x : Fix). same w.fix x ≡ true) e (same-self w.fix)) in
    omega (arith, a, b, c, y, z)
once-differ (w ∷ ws) once (suc i) (suc j) d low high = once-differ ws (λ x. let a = once x in let b = count-cons x w ws in omega (arith, a, b)) i j d (omega (arith, low)) (omega (arith, high))

pub worked_differ : WorkedDiffer
worked_differ p peopled cs t run =
    let placed = known_in_one_place p peopled cs t run in
    once-differ t.worked (λ x. let a = placed.once x in omega (arith, a))

-- ---- the budget

begun-in : (p : Task) (s : Search) (lane : ℕ) (node : Fix) → IsInBudget p s → MayBegin p s lane → IsInBudget p (with_lane s lane (begun node))
begun-in p s lane node in_b begin =
    let free = begin.free in
    let e = lane-set is_some s lane (begun node) free.from_one free.in_range in
    let f : count_by is_some (set s.lanes (lane - 1) (begun node)) + 0 ≡ busy_count s + 1 = rw free.nothing at e in
    let room = begin.room in
    record { nodes = omega (arith, f, room); lanes = length-set s.lanes (lane - 1) (begun node) ∙ in_b.lanes }

let-go : (s : Search) (lane : ℕ) (node : Fix) (b : Bool) → Holds s lane node b → busy_count (with_lane s lane None) + 1 ≡ busy_count s
let-go s lane node b h =
    let e = lane-set is_some s lane None h.from_one h.in_range in
    let f : count_by is_some (set s.lanes (lane - 1) None) + 1 ≡ busy_count s + 0 = rw h.held at e in
    omega (arith, f)

step-budget : (p : Task) (s : Search) → IsInBudget p s → (c : Change) (t : Search) → Goes p s c t → IsInBudget p t
step-budget p s in_b (takes lane node) t goes = subst (IsInBudget p) (sym goes.2) (begun-in p s lane node in_b goes.0)
step-budget p s in_b (branches lane acts) t goes =
    let b = begun-in p s lane (first_part acts) in_b goes.0 in
    subst (IsInBudget p) (sym goes.4) (record { nodes = b.nodes; lanes = b.lanes })
step-budget p s in_b (moves lane) t goes = subst (IsInBudget p) (sym goes.2) in_b
step-budget p s in_b (ends lane) t goes =
    let h = goes.1 in
    let k : Option Held = Some (record { node = goes.0; ended = true }) in
    let e = lane-set is_some s lane k h.from_one h.in_range in
    let f : count_by is_some (set s.lanes (lane - 1) k) + 1 ≡ busy_count s + 1 = rw h.held at e in
    let n = in_b.nodes in
    subst (IsInBudget p) (sym goes.2) (record { nodes = omega (arith, f, n); lanes = length-set s.lanes (lane - 1) k ∙ in_b.lanes })
step-budget p s in_b (works lane fact point) t goes =
    let e = let-go s lane goes.0 true goes.1 in
    let n = in_b.nodes in
    let w : Worked = record { fix = goes.0; fact = fact; point = point } in
    let l = length-append s.worked (w ∷ []) in
    subst (IsInBudget p) (sym goes.2) (record { nodes = omega (arith, e, n, l); lanes = length-set s.lanes (lane - 1) None ∙ in_b.lanes })
step-budget p s in_b (sticks lane cause) t goes =
    let e = let-go s lane goes.0 true goes.1 in
    let n = in_b.nodes in
    subst (IsInBudget p) (sym goes.2) (record { nodes = omega (arith, e, n); lanes = length-set s.lanes (lane - 1) None ∙ in_b.lanes })

start-budget : (p : Task) → IsInBudget p (first_search p)
start-budget p = let e = free-none is_some refl p.lanes in record { nodes = omega (arith, e); lanes = length-replicate p.lanes None }

pub budget_kept : BudgetKept
budget_kept p peopled cs t run = runs-keep p (IsInBudget p) (step-budget p) cs (first_search p) t (start-budget p) run
