-- No more nodes are ever taken than are enough.
use Rattle.std.proofs.Common.{◌≡◌, ℕ, ◌+◌, ◌≤◌, Bool, true, false, cond, List, [], ◌∷◌, ◌++◌, map, length, count_by, is_some, sym, ◌∙◌, ap, refl, arith, Option, Some, None, ⊎_elim, length-append}
use Rattle.std.specs.Prelude.{◌||◌}
use Rattle.std.specs.List.{list_any, IsDistinct, AllByRecursion}
use Rattle.std.proofs.lemmas.Bool.{cases_Bool, true≢false}
use Rattle.std.proofs.lemmas.List.{length-map}
use Rattle.std.proofs.lemmas.List.Sums.{sum_by-append, sum_by-cons}
use Rattle.std.proofs.lemmas.Map.Made.{length-le_from_is_member}
use Rattle.sg_tree.specs.declared.fix.Fix.{Fix}
use Rattle.sg_tree.specs.declared.worked.Worked.{Worked}
use Rattle.sg_search.specs.declared.held.Held.{Held}
use Rattle.sg_search.specs.declared.held.Stuck.{Stuck}
use Rattle.sg_search.specs.Searches.{Search, Task, busy_count, held_count, holds_node, same, stuck_count, taken_count, worked_count}
use Rattle.sg_search.specs.CountLaws.{TakenAtMost, enough_nodes}
use Rattle.sg_search.proofs.Placed.{known_in_one_place, one_if, same-self}
use Rattle.sg_search.proofs.Grown.{are_splits}
use Rattle.sg_search.proofs.Enough.{all-enough, all_nodes, fixes, in-all, member, same-laws}

-- how often a node stands in a list
abbrev times_in : Fix → List Fix → ℕ
times_in x ns = count_by (same x) ns

times-cons : (x n : Fix) (ns : List Fix) → times_in x (n ∷ ns) ≡ one_if (same x n) + times_in x ns
times-cons x n ns = sum_by-cons (λ (y : Fix). cond (same x y) 1 0) n ns

-- the nodes that the lanes hold
abbrev held_nodes : List (Option Held) → List Fix
held_nodes [] = []
held_nodes (None ∷ hs) = held_nodes hs
held_nodes (Some h ∷ hs) = h.node ∷ held_nodes hs

length-held : (hs : List (Option Held)) → length (held_nodes hs) ≡ count_by is_some hs
length-held [] = refl
length-held (None ∷ hs) = let c = sum_by-cons (λ (o : Option Held). cond (is_some o) 1 0) None hs in let r = length-held hs in omega (arith, c, r)
length-held (Some h ∷ hs) = let c = sum_by-cons (λ (o : Option Held). cond (is_some o) 1 0) (Some h) hs in let r = length-held hs in omega (arith, c, r)

times-held : (x : Fix) (hs : List (Option Held)) → times_in x (held_nodes hs) ≡ count_by (holds_node x) hs
times-held x [] = refl
times-held x (None ∷ hs) = let c = sum_by-cons (λ (o : Option Held). cond (holds_node x o) 1 0) None hs in let r = times-held x hs in omega (arith, c, r)
times-held x (Some h ∷ hs) =
    let c = sum_by-cons (λ (o : Option Held). cond (holds_node x o) 1 0) (Some h) hs in
    let d = times-cons x h.node (held_nodes hs) in
    let r = times-held x hs in
    omega (arith, c, d, r)

times-worked : (x : Fix) (ws : List Worked) → times_in x (fixes ws) ≡ count_by (λ (w : Worked). same x w.fix) ws
times-worked x [] = refl
times-worked x (w ∷ ws) =
    let c = sum_by-cons (λ (v : Worked). cond (same x v.fix) 1 0) w ws in
    let d = times-cons x w.fix (fixes ws) in
    let r = times-worked x ws in
    omega (arith, c, d, r)

abbrev stuck_nodes : List Stuck → List Fix
stuck_nodes xs = map (λ (y : Stuck). y.node) xs

times-stuck : (x : Fix) (xs : List Stuck) → times_in x (stuck_nodes xs) ≡ count_by (λ (y : Stuck). same x y.node) xs
times-stuck x [] = refl
times-stuck x (y ∷ xs) =
    let c = sum_by-cons (λ (v : Stuck). cond (same x v.node) 1 0) y xs in
    let d = times-cons x y.node (stuck_nodes xs) in
    let r = times-stuck x xs in
    omega (arith, c, d, r)

-- all that are taken
abbrev taken_nodes : Search → List Fix
taken_nodes s = held_nodes s.lanes ++ (fixes s.worked ++ stuck_nodes s.stuck)

times-taken : (s : Search) (x : Fix) → times_in x (taken_nodes s) ≡ taken_count s x
times-taken s x =
    let a = sum_by-append (λ (y : Fix). cond (same x y) 1 0) (held_nodes s.lanes) (fixes s.worked ++ stuck_nodes s.stuck) in
    let b = sum_by-append (λ (y : Fix). cond (same x y) 1 0) (fixes s.worked) (stuck_nodes s.stuck) in
    let h = times-held x s.lanes in
    let w = times-worked x s.worked in
    let k = times-stuck x s.stuck in
    omega (arith, a, b, h, w, k)

length-taken : (s : Search) → length (taken_nodes s) ≡ busy_count s + length s.worked + length s.stuck
length-taken s =
    let a = length-append (held_nodes s.lanes) (fixes s.worked ++ stuck_nodes s.stuck) in
    let b = length-append (fixes s.worked) (stuck_nodes s.stuck) in
    let h = length-held s.lanes in
    let w = length-map s.worked (λ (v : Worked). v.fix) in
    let k = length-map s.stuck (λ (y : Stuck). y.node) in
    omega (arith, a, b, h, w, k)

-- ---- nodes that stand once

apart : (x : Fix) (ns : List Fix) → times_in x ns ≡ 0 → AllByRecursion (λ y. same x y ≡ false) ns
apart x [] e = tt
apart x (n ∷ ns) e =
    let c = times-cons x n ns in (
      ⊎_elim (λ yes. let q : one_if (same x n) ≡ 1 = ap one_if yes in absurd (omega (arith, q, c, e))) (λ h. h) (cases_Bool (same x n)),
      apart x ns (omega (arith, c, e)),
    )

distinct : (ns : List Fix) → ((x : Fix) → times_in x ns ≤ 1) → IsDistinct same ns
unfolding IsDistinct
distinct [] once = tt
distinct (n ∷ ns) once =
    let a = once n in
    let b = times-cons n n ns in
    let y : one_if (same n n) ≡ 1 = ap one_if (same-self n) in
    (apart n ns (omega (arith, a, b, y)), distinct ns (λ x. let c = once x in let d = times-cons x n ns in omega (arith, c, d)))

counted : (x : Fix) (ns : List Fix) → list_any (same x) ns ≡ true → 1 ≤ times_in x ns
counted x [] e = absurd (true≢false (sym e))
counted x (n ∷ ns) e =
    let c = times-cons x n ns in
    ⊎_elim
    (λ yes. let q : one_if (same x n) ≡ 1 = ap one_if yes in omega (arith, q, c))
    (λ h. let r = counted x ns (sym (ap (λ (b : Bool). b || list_any (same x) ns) h) ∙ e) in omega (arith, r, c))
    (cases_Bool (same x n))

pub taken_at_most : TakenAtMost
taken_at_most p peopled cs t run =
    let placed = known_in_one_place p peopled cs t run in
    let ok = are_splits p peopled cs t run in
    let le = length-le_from_is_member same-laws (taken_nodes t) (all_nodes p.game)
    (distinct (taken_nodes t) (λ x. let a = placed.once x in let e = times-taken t x in omega (arith, a, e)))
    (λ x m. member x (all_nodes p.game) (in-all p t placed ok x (placed.known x (let c = counted x (taken_nodes t) m in let e = times-taken t x in omega (arith, c, e))))) in
    let l = length-taken t in
    let enough = all-enough p.game peopled.types in
    omega (arith, le, l, enough)
