-- How many nodes may be chosen.
use Rattle.std.proofs.Common.{◌≡◌, ◌⊎◌, ℕ, zero, suc, ◌+◌, ◌-◌, ◌*◌, ◌≤◌, ◌<◌, ◌^◌, Bool, true, false, cond, List, [], ◌∷◌, ◌++◌, map, length, flat_map, sum_by, sym, ◌∙◌, ap, subst, refl, arith, inl, inr, ⊎_elim, Contains, All, length-append}
use Rattle.std.proofs.lemmas.List.{length-map}
use Rattle.std.proofs.lemmas.List.Concat.{length-flat_map}
use Rattle.std.proofs.lemmas.List.Sums.{sum_by-cons}
use Rattle.std.proofs.lemmas.List.Elements.{All-contains}
use Rattle.sg_model.specs.Sums.{numbers, numbers_from}
use Rattle.sg_model.specs.Games.{Game, action_count}
use Rattle.sg_model.specs.Limits.{IsGame}
use Rattle.sg_model.proofs.Numbers.{length-numbers_from}
use Rattle.sg_game.specs.Counts.{IsTypeOf}
use Rattle.sg_game.proofs.Promises.{acts, are_types}
use Rattle.sg_tree.specs.declared.fix.Fix.{Fix}
use Rattle.sg_tree.specs.declared.worked.Worked.{Worked}
use Rattle.sg_bounds.specs.Regions.{alone, prefix}
use Rattle.sg_search.specs.Searches.{Task, Search, first_search, same, worked_count, busy_count}
use Rattle.sg_search.specs.Changes.{MaySplit}
use Rattle.sg_search.specs.Events.{AreChoices, MayChoose}
use Rattle.sg_search.proofs.Counted.{budget_kept}
use Rattle.sg_search.proofs.Enough.{cap_nodes_of, fixes}
use Rattle.sg_search.proofs.Grown.{are_splits}
use Rattle.sg_search.proofs.Listing.{here-in, later-in, order-short}
use Rattle.sg_search.proofs.Told.{cap_nodes, in-caps, in-parts, parts}
use Rattle.std.proofs.Common.{count_by}
use Rattle.std.proofs.lemmas.Bool.{cases_Bool}
use Rattle.sg_search.proofs.Placed.{one_if, same-is}
use Rattle.sg_lanes.specs.declared.ripe.Ripe.{Ripe}
use Rattle.std.proofs.Common.{Option}
use Rattle.sg_frac.specs.Fractions.{Fraction}
use Rattle.sg_search.specs.Bounding.{is_open}
use Rattle.sg_lanes.proofs.Openness.{open-is}
use Rattle.sg_lanes.specs.Choices.{is_open_by, is_over_by, choice_list, open_parts, or_else, ripe_nodes, split_choices}
use Rattle.sg_lanes.specs.Frontiers.{Frontier, IsFrontier}
use Rattle.sg_lanes.specs.Machines.{Machine}
use Rattle.sg_lanes.proofs.Chosen.{choices-are, last-in}
use Rattle.sg_lanes.proofs.Glued.{seen}

pub count-told : (p : Task) (s : Search) (f : Frontier) (m : Machine) (n : ℕ) → seen p s ≡ m → IsFrontier p s f → n ≡ length (choice_list f.group f.value f.parts f.lone f.undone f.ripe)
    → (nodes : List Fix) × AreChoices (MayChoose m.task m.search) nodes × (n ≡ length nodes)
count-told p s f m n e h is = subst (λ (x : Machine). (nodes : List Fix) × AreChoices (MayChoose x.task x.search) nodes × (n ≡ length nodes)) e
    (choice_list f.group f.value f.parts f.lone f.undone f.ripe, choices-are p s f h, is)

-- ---- they are few

sum-few : (f : ℕ → ℕ) (top b k : ℕ) → ((l : ℕ) → b ≤ l → l < b + k → f l ≤ top) → sum_by f (numbers_from b k) ≤ k * top
sum-few f top b zero each = omega arith
sum-few f top b (suc k) each =
    let here = each b (omega arith) (omega arith) in
    let rest = sum-few f top (b + 1) k (λ l low high. each l (omega (arith, low)) (omega (arith, high))) in
    let c = sum_by-cons f b (numbers_from (b + 1) k) in
    let d = Rattle.std.proofs.Common.suc-mul k top in
    omega (arith, here, rest, c, d)

sum-equal : (f h : ℕ → ℕ) (b k : ℕ) → ((l : ℕ) → f l ≡ h l) → sum_by f (numbers_from b k) ≡ sum_by h (numbers_from b k)
sum-equal f h b zero each = refl
sum-equal f h b (suc k) each = sum_by-cons f b (numbers_from (b + 1) k) ∙ ap (λ (n : ℕ). n + sum_by f (numbers_from (b + 1) k)) (each b) ∙ ap (λ (n : ℕ). h b + n) (sum-equal f h (b + 1) k each) ∙ sym (sum_by-cons h b (numbers_from (b + 1) k))

types-few : (g : Game) → IsGame g → length g.types ≤ 8
types-few g is = (are_types g is).count.at_most

module _ (p : Task) (s : Search) (f : Frontier) (h : IsFrontier p s f) (game : IsGame p.game) where
  parts-few : length f.parts ≤ 10000
  parts-few =
      let ok = are_splits p h.peopled h.changes s h.runs in
      let short = ok.short h.last (last-in p s f h) in
      let a = order-short f.parts (parts p.game h.last) h.parts.in_order (λ y at. in-parts p.game h.last y ((h.parts.each y).0 at).0) in
      let b = length-map (numbers (action_count p.game (length h.last + 1))) (λ a. prefix (h.last ++ (a ∷ []))) in
      let c = length-numbers_from 1 (action_count p.game (length h.last + 1)) in
      let d = (acts p.game game (length h.last + 1) (omega arith, omega (arith, short))).few in
      omega (arith, a, b, c, d)

  lone-few : length f.lone ≤ 70000
  lone-few =
      let g = p.game in
      let n : ℕ = length g.types in
      let a = order-short f.lone (cap_nodes g) h.lone.in_order (λ y at. in-caps g y ((h.lone.each y).0 at).0) in
      let b = length-flat_map (cap_nodes_of g) (numbers_from 2 (n - 1)) in
      let c = sum-equal (λ (l : ℕ). length (cap_nodes_of g l)) (action_count g) 2 (n - 1) (λ l. length-map (numbers (action_count g l)) (alone l) ∙ length-numbers_from 1 (action_count g l)) in
      let d = sum-few (action_count g) 10000 2 (n - 1) (λ l low high. (acts g game l (omega (arith, low), omega (arith, high, low))).few) in
      let e = types-few g game in
      omega (arith, a, b, c, d, e)

  ripe-few : length f.ripe ≤ 1000000
  ripe-few =
      let a = order-short (ripe_nodes f.ripe) (fixes s.worked) h.ripe.in_order (λ y at. let r = (h.ripe.each y).0 at in worked-in y r.0 r.1 r.2) in
      let b = length-map f.ripe (λ (x : Ripe). x.node) in
      let c = length-map s.worked (λ (w : Worked). w.fix) in
      let d = (budget_kept p h.peopled h.changes s h.runs).nodes in
      let e = h.few in
      omega (arith, a, b, c, d, e)
    where
      worked-in : (y : Fix) (x : List ℕ) → y ≡ prefix x → MaySplit p s x → Contains (fixes s.worked) y
      worked-in y x e may = subst (Contains (fixes s.worked)) (sym e) (by s.worked may.worked)
        where
          by : (ws : List Worked) → 1 ≤ count_by (λ (v : Worked). same (prefix x) v.fix) ws → Contains (fixes ws) (prefix x)
          by [] k = absurd (omega (arith, k))
          by (w ∷ ws) k =
              let c = sum_by-cons (λ (v : Worked). cond (same (prefix x) v.fix) 1 0) w ws in
              ⊎_elim
              (λ yes. subst (λ (z : Fix). Contains (w.fix ∷ fixes ws) z) (sym (same-is (prefix x) w.fix yes)) (here-in w.fix (fixes ws)))
              (λ other. let q : one_if (same (prefix x) w.fix) ≡ 0 = ap one_if other in later-in w.fix (fixes ws) (prefix x) (by ws (omega (arith, k, c, q))))
              (cases_Bool (same (prefix x) w.fix))

  pub choices-few : length (choice_list f.group f.value f.parts f.lone f.undone f.ripe) < 2 ^ 32
  choices-few =
      let a = parts-few in
      let b = lone-few in
      let c = ripe-few in
      let o = open-few (is_over_by f.group f.value) in
      let u = split-few f.undone in
      let t = length-append (open_parts f.group f.value f.parts) f.lone in
      let r = or-few (open_parts f.group f.value f.parts ++ f.lone) (split_choices f.undone f.ripe) in
      ⊎_elim (λ e. omega (arith, e, t, o, a, b)) (λ e. omega (arith, e, u, c)) r
    where
      open-few : (b : Bool) → length (cond b f.parts []) ≤ length f.parts
      open-few true = omega arith
      open-few false = omega arith

      split-few : (us : List Fix) → length (split_choices us f.ripe) ≤ length f.ripe
      split-few [] = let e = length-map f.ripe (λ (x : Ripe). x.node) in omega (arith, e)
      split-few (x ∷ xs) = omega arith

      or-few : (xs ys : List Fix) → (length (or_else xs ys) ≡ length xs) ⊎ (length (or_else xs ys) ≡ length ys)
      or-few [] ys = inr refl
      or-few (x ∷ xs) ys = inl refl

-- the count of the choices, from the counts of their lists
pub count-of : (group : Option Fraction) (value : Fraction) (parts lone undone : List Fix) (ripe : List Ripe) (takes n : ℕ) (a b c : List Fix) (d : List Ripe)
    → takes ≡ length (open_parts group value a) → a ≡ parts → b ≡ lone → c ≡ undone → d ≡ ripe
    → ((o : Option Fraction) (w : Fraction) (xs : List Fix) → takes ≡ length (open_parts o w xs) → n ≡ length (choice_list o w xs b c d))
    → n ≡ length (choice_list group value parts lone undone ripe)
count-of group value parts lone undone ripe takes n a b c d e ea eb ec ed says =
    let t : takes ≡ length (open_parts group value parts) = e ∙ ap (λ (xs : List Fix). length (open_parts group value xs)) ea in
    says group value parts t
    ∙ ap (λ (xs : List Fix). length (choice_list group value parts xs c d)) eb
    ∙ ap (λ (xs : List Fix). length (choice_list group value parts lone xs d)) ec
    ∙ ap (λ (rs : List Ripe). length (choice_list group value parts lone undone rs)) ed

-- whether the upper bound is above the incumbent, from the same
pub open-of : (p : Task) (s : Search) (f : Frontier) (m : Machine) (takes : ℕ) (result : Bool) (a tops : List Fix) (ripe : List Ripe) → seen p s ≡ m → IsFrontier p s f
    → takes ≡ length (open_parts f.group f.value a) → a ≡ f.parts → tops ≡ f.tops → ripe ≡ f.ripe
    → ((o : Option Fraction) (xs : List Fix) → takes ≡ length (open_parts o f.value xs) → result ≡ is_open_by f.root o f.value xs tops ripe)
    → (node : Fix) × MayChoose m.task m.search node → result ≡ is_open m.task m.search
open-of p s f m takes result a tops ripe e h is_takes ea et er says may =
    let node = subst (λ (x : Machine). (node : Fix) × MayChoose x.task x.search node) (sym e) may in
    subst (λ (x : Machine). result ≡ is_open x.task x.search) e
    (says f.group f.parts (is_takes ∙ ap (λ (xs : List Fix). length (open_parts f.group f.value xs)) ea)
    ∙ ap (λ (xs : List Fix). is_open_by f.root f.group f.value f.parts xs ripe) et
    ∙ ap (λ (rs : List Ripe). is_open_by f.root f.group f.value f.parts f.tops rs) er
    ∙ open-is p s f h f.root h.root node.0 node.1)
