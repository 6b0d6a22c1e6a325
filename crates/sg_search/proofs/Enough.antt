-- How many nodes are enough.
use Rattle.std.proofs.Common.{◌≡◌, ◌⊎◌, ℕ, zero, suc, ◌+◌, ◌-◌, ◌*◌, ◌≤◌, nat_eq, Bool, true, false, true≢false, cond, ◌||◌, List, [], ◌∷◌, ◌++◌, map, length, flat_map, sum_by, count_by, sym, ◌∙◌, ap, subst, refl, arith, inl, inr, ⊎_elim, Contains, length-append, suc-mul}
use Rattle.std.proofs.lemmas.Bool.{cases_Bool, eqb-true, false_from_ne_true}
use Rattle.std.proofs.lemmas.List.{length-map}
use Rattle.std.proofs.lemmas.List.Concat.{length-flat_map}
use Rattle.std.proofs.lemmas.List.Sums.{sum_by-cons}
use Rattle.std.proofs.lemmas.List.Elements.{Contains-append_left, Contains-append_right}
use Rattle.std.specs.Cmp.{IsEquivalence}
use Rattle.std.specs.List.{list_any, IsDistinct, AllByRecursion}
use Rattle.std.proofs.lemmas.Map.Made.{length-le_from_is_member}
use Rattle.std.proofs.lemmas.List.Folds.{list_any-from_Any}
use Rattle.sg_model.specs.Sums.{numbers, numbers_from}
use Rattle.sg_model.specs.Games.{Game, action_count}
use Rattle.sg_model.proofs.Numbers.{length-numbers_from}
use Rattle.sg_model.proofs.Payoffs.{Contains-flat_map, Contains-map, Contains-numbers, Contains-numbers_from}
use Rattle.sg_tree.specs.declared.fix.Fix.{Fix}
use Rattle.sg_tree.specs.declared.worked.Worked.{Worked}
use Rattle.sg_bounds.specs.Regions.{alone, prefix}
use Rattle.sg_search.specs.Searches.{Task, Search, same, worked_count, IsKnown, ArePlaced}
use Rattle.sg_search.specs.CountLaws.{enough_nodes, prefix_count, WorkedAtMost}
use Rattle.sg_search.proofs.Placed.{known_in_one_place, one_if, same-is, same-self}
use Rattle.sg_search.proofs.Grown.{AreSplits, are_splits, last-of, worked-parent}

-- ---- all nodes there can be

abbrev pub lists_of : Game → ℕ → List (List ℕ)
lists_of g zero = [] ∷ []
lists_of g (suc k) = flat_map (λ acts. map (λ a. acts ++ (a ∷ [])) (numbers (action_count g (k + 1)))) (lists_of g k)

abbrev pub prefixes : Game → List Fix
prefixes g = flat_map (λ k. map prefix (lists_of g k)) (numbers (length g.types))

abbrev pub cap_nodes_of : Game → ℕ → List Fix
cap_nodes_of g l = map (alone l) (numbers (action_count g l))

abbrev pub all_nodes : Game → List Fix
all_nodes g = prefixes g ++ flat_map (cap_nodes_of g) (numbers_from 2 (length g.types - 1))

-- ---- how many they are

sum-same : {X : Type 0} (f : X → ℕ) (c : ℕ) (xs : List X) → ((x : X) → f x ≡ c) → sum_by f xs ≡ length xs * c
sum-same f c [] each = sym (zero-times c)
  where
    zero-times : (n : ℕ) → 0 * n ≡ 0
    zero-times n = omega arith
sum-same f c (x ∷ xs) each = sum_by-cons f x xs ∙ ap (λ (n : ℕ). n + sum_by f xs) (each x) ∙ ap (λ (n : ℕ). c + n) (sum-same f c xs each) ∙ more (length xs) c
  where
    more : (n m : ℕ) → m + n * m ≡ suc n * m
    more n m = let e = suc-mul n m in omega (arith, e)

sum-equal : {X : Type 0} (f h : X → ℕ) (xs : List X) → ((x : X) → f x ≡ h x) → sum_by f xs ≡ sum_by h xs
sum-equal f h [] each = refl
sum-equal f h (x ∷ xs) each = sum_by-cons f x xs ∙ ap (λ (n : ℕ). n + sum_by f xs) (each x) ∙ ap (λ (n : ℕ). h x + n) (sum-equal f h xs each) ∙ sym (sum_by-cons h x xs)

length-lists : (g : Game) (k : ℕ) → length (lists_of g k) ≡ prefix_count g k
length-lists g zero = refl
length-lists g (suc k) =
    length-flat_map (λ acts. map (λ a. acts ++ (a ∷ [])) (numbers (action_count g (k + 1)))) (lists_of g k)
    ∙ sum-same (λ (acts : List ℕ). length (map (λ a. acts ++ (a ∷ [])) (numbers (action_count g (k + 1))))) (action_count g (k + 1)) (lists_of g k)
    (λ acts. length-map (numbers (action_count g (k + 1))) (λ a. acts ++ (a ∷ [])) ∙ length-numbers_from 1 (action_count g (k + 1)))
    ∙ ap (λ (n : ℕ). n * action_count g (k + 1)) (length-lists g k)

pub length-all : (g : Game) → length (all_nodes g) ≡ sum_by (prefix_count g) (numbers (length g.types)) + sum_by (action_count g) (numbers_from 2 (length g.types - 1))
length-all g =
    let a = length-flat_map (λ k. map prefix (lists_of g k)) (numbers (length g.types)) in
    let b = sum-equal (λ (k : ℕ). length (map prefix (lists_of g k))) (prefix_count g) (numbers (length g.types)) (λ k. length-map (lists_of g k) prefix ∙ length-lists g k) in
    let c = length-flat_map (cap_nodes_of g) (numbers_from 2 (length g.types - 1)) in
    let d = sum-equal (λ (l : ℕ). length (cap_nodes_of g l)) (action_count g) (numbers_from 2 (length g.types - 1)) (λ l. length-map (numbers (action_count g l)) (alone l) ∙ length-numbers_from 1 (action_count g l)) in
    let e = length-append (prefixes g) (flat_map (cap_nodes_of g) (numbers_from 2 (length g.types - 1))) in
    omega (arith, a, b, c, d, e)

pub all-enough : (g : Game) → 1 ≤ length g.types → length (all_nodes g) ≤ enough_nodes g
all-enough g some = by (length g.types) some (length-all g)
  where
    by : (n : ℕ) → 1 ≤ n → length (all_nodes g) ≡ sum_by (prefix_count g) (numbers n) + sum_by (action_count g) (numbers_from 2 (n - 1))
        → length (all_nodes g) ≤ cond (nat_eq n 1) (action_count g 1) (sum_by (action_count g) (numbers n) + sum_by (prefix_count g) (numbers n))
    by zero low e = absurd (omega (arith, low))
    by (suc zero) low e = let q : prefix_count g 1 ≡ action_count g 1 = times-one (action_count g 1) in omega (arith, e, q)
      where
        times-one : (n : ℕ) → 1 * n ≡ n
        times-one n = omega arith
    by (suc (suc n)) low e =
        let c = sum_by-cons (action_count g) 1 (numbers_from 2 (suc n)) in
        let z : suc (suc n) - 1 ≡ suc n = omega arith in
        let e2 : length (all_nodes g) ≡ sum_by (prefix_count g) (numbers (suc (suc n))) + sum_by (action_count g) (numbers_from 2 (suc n)) =
        e ∙ ap (λ (m : ℕ). sum_by (prefix_count g) (numbers (suc (suc n))) + sum_by (action_count g) (numbers_from 2 m)) z in
        let several : nat_eq (suc (suc n)) 1 ≡ false = false_from_ne_true (nat_eq (suc (suc n)) 1) (λ h. let q = eqb-true (suc (suc n)) 1 h in omega (arith, q)) in
        subst (λ (b : Bool). length (all_nodes g) ≤ cond b (action_count g 1) (sum_by (action_count g) (numbers (suc (suc n))) + sum_by (prefix_count g) (numbers (suc (suc n)))))
        (sym several) (omega (arith, e2, c))

-- ---- each known node is one of them

in-lists : (p : Task) (s : Search) → ArePlaced p.game s → AreSplits p s → (n : ℕ) (acts : List ℕ) → length acts ≡ n → (acts ≡ []) ⊎ (1 ≤ worked_count s (prefix acts)) → Contains (lists_of p.game n) acts
in-lists p s placed ok zero [] e w = (0, omega arith, refl)
in-lists p s placed ok zero (y ∷ ys) e w = absurd (omega (arith, e))
in-lists p s placed ok (suc n) [] e w = absurd (omega (arith, e))
in-lists p s placed ok (suc n) (y ∷ ys) e (inl none) = let l : length (y ∷ ys) ≡ 0 = ap length none in absurd (omega (arith, l))
in-lists p s placed ok (suc n) (y ∷ ys) e (inr w) =
    let r = last-of y ys in
    let l = r.3 in
    let long : length r.0 ≡ n = omega (arith, l, e) in
    let up = worked-parent p s placed r.0 r.1 (subst (λ (z : List ℕ). 1 ≤ worked_count s (prefix z)) r.2 w) in
    let above = in-lists p s placed ok n r.0 long (ok.worked r.0 up.0) in
    subst (Contains (lists_of p.game (suc n))) (sym r.2)
    (Contains-flat_map (λ acts. map (λ a. acts ++ (a ∷ [])) (numbers (action_count p.game (n + 1)))) (lists_of p.game n) r.0 (r.0 ++ (r.1 ∷ [])) above
    (Contains-map (λ a. r.0 ++ (a ∷ [])) (numbers (action_count p.game (n + 1))) r.1 (Contains-numbers (action_count p.game (n + 1)) r.1 up.1 (subst (λ (m : ℕ). r.1 ≤ action_count p.game (m + 1)) long up.2))))

pub in-all : (p : Task) (s : Search) → ArePlaced p.game s → AreSplits p s → (x : Fix) → IsKnown p.game s x → Contains (all_nodes p.game) x
in-all p s placed ok x (inl below) =
    let g = p.game in
    let acts = below.0 in
    let of = below.2 in
    let short = ok.short acts below.1 in
    let above = in-lists p s placed ok (length acts) acts refl (ok.worked acts below.1) in
    let here : Contains (lists_of g (suc (length acts))) (acts ++ (of.act ∷ [])) =
    Contains-flat_map (λ xs. map (λ a. xs ++ (a ∷ [])) (numbers (action_count g (length acts + 1)))) (lists_of g (length acts)) acts (acts ++ (of.act ∷ [])) above
    (Contains-map (λ a. acts ++ (a ∷ [])) (numbers (action_count g (length acts + 1))) of.act (Contains-numbers (action_count g (length acts + 1)) of.act of.from_one of.in_range)) in
    subst (Contains (all_nodes g)) (sym of.node_is)
    (Contains-append_left (prefixes g) (flat_map (cap_nodes_of g) (numbers_from 2 (length g.types - 1))) (prefix (acts ++ (of.act ∷ [])))
    (Contains-flat_map (λ k. map prefix (lists_of g k)) (numbers (length g.types)) (suc (length acts)) (prefix (acts ++ (of.act ∷ [])))
    (Contains-numbers (length g.types) (suc (length acts)) (omega arith) (omega (arith, short)))
    (Contains-map prefix (lists_of g (suc (length acts))) (acts ++ (of.act ∷ [])) here)))
in-all p s placed ok x (inr lone) =
    let g = p.game in
    let high = lone.type_in_range in
    let low = lone.from_two in
    subst (Contains (all_nodes g)) (sym lone.node_is)
    (Contains-append_right (prefixes g) (flat_map (cap_nodes_of g) (numbers_from 2 (length g.types - 1))) (alone lone.l lone.act)
    (Contains-flat_map (cap_nodes_of g) (numbers_from 2 (length g.types - 1)) lone.l (alone lone.l lone.act)
    (Contains-numbers_from 2 (length g.types - 1) lone.l low (omega (arith, high, low)))
    (Contains-map (alone lone.l) (numbers (action_count g lone.l)) lone.act (Contains-numbers (action_count g lone.l) lone.act lone.from_one lone.in_range))))

-- ---- different nodes of a list are at most as many as the list

pub same-laws : IsEquivalence same
same-laws = record {
  refl = same-self;
  symm = λ x y. both (same x y) (same y x) (λ e. subst (λ (z : Fix). same z x ≡ true) (same-is x y e) (same-self x)) (λ e. subst (λ (z : Fix). same z y ≡ true) (same-is y x e) (same-self y));
  congr = λ x y z e. ap (λ (w : Fix). same w z) (same-is x y e);
}
  where
    both : (a b : Bool) → (a ≡ true → b ≡ true) → (b ≡ true → a ≡ true) → a ≡ b
    both true b f h = sym (f refl)
    both false true f h = h refl
    both false false f h = refl

abbrev pub fixes : List Worked → List Fix
fixes ws = map (λ (w : Worked). w.fix) ws

apart : (x : Fix) (ws : List Worked) → count_by (λ (v : Worked). same x v.fix) ws ≡ 0 → AllByRecursion (λ y. same x y ≡ false) (fixes ws)
apart x [] e = tt
apart x (w ∷ ws) e =
    let c = sum_by-cons (λ (v : Worked). cond (same x v.fix) 1 0) w ws in (
      ⊎_elim (λ yes. let q : one_if (same x w.fix) ≡ 1 = ap one_if yes in absurd (omega (arith, q, c, e))) (λ h. h) (cases_Bool (same x w.fix)),
      apart x ws (omega (arith, c, e)),
    )

pub distinct : (ws : List Worked) → ((x : Fix) → count_by (λ (v : Worked). same x v.fix) ws ≤ 1) → IsDistinct same (fixes ws)
unfolding IsDistinct
distinct [] once = tt
distinct (w ∷ ws) once =
    let a = once w.fix in
    let b = sum_by-cons (λ (v : Worked). cond (same w.fix v.fix) 1 0) w ws in
    let y : one_if (same w.fix w.fix) ≡ 1 = ap one_if (same-self w.fix) in
    (apart w.fix ws (omega (arith, a, b, y)), distinct ws (λ x. let c = once x in let d = sum_by-cons (λ (v : Worked). cond (same x v.fix) 1 0) w ws in omega (arith, c, d)))

pub counted : (x : Fix) (ws : List Worked) → list_any (same x) (fixes ws) ≡ true → 1 ≤ count_by (λ (v : Worked). same x v.fix) ws
counted x [] e = absurd (true≢false (sym e))
counted x (w ∷ ws) e =
    let c = sum_by-cons (λ (v : Worked). cond (same x v.fix) 1 0) w ws in
    ⊎_elim
    (λ yes. let q : one_if (same x w.fix) ≡ 1 = ap one_if yes in omega (arith, q, c))
    (λ h. let r = counted x ws (sym (ap (λ (b : Bool). b || list_any (same x) (fixes ws)) h) ∙ e) in omega (arith, r, c))
    (cases_Bool (same x w.fix))

pub member : (x : Fix) (ns : List Fix) → Contains ns x → list_any (same x) ns ≡ true
member x ns at = list_any-from_Any (same x) ns (at.0, x, at.1, at.2, same-self x)

pub worked_at_most : WorkedAtMost
worked_at_most p peopled cs t run =
    let placed = known_in_one_place p peopled cs t run in
    let ok = are_splits p peopled cs t run in
    let le = length-le_from_is_member same-laws (fixes t.worked) (all_nodes p.game)
    (distinct t.worked (λ x. let a = placed.once x in omega (arith, a)))
    (λ x m. member x (all_nodes p.game) (in-all p t placed ok x (placed.known x (let c = counted x t.worked m in omega (arith, c))))) in
    let l = length-map t.worked (λ (w : Worked). w.fix) in
    let enough = all-enough p.game peopled.types in
    omega (arith, le, l, enough)
