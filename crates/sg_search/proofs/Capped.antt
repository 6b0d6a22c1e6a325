-- The caps of the moment are allowed.
use Rattle.std.proofs.Common.{◌≡◌, ℕ, zero, suc, ◌+◌, ◌-◌, ◌*◌, ◌/◌, ◌%◌, ◌≤◌, ◌<◌, nat_eq, Bool, true, false, cond, List, [], ◌∷◌, length, filter_map, get_or, ℤ, pos, negsuc, ◌+ℤ◌, ◌-ℤ◌, ◌*ℤ◌, ◌≤ℤ◌, int_lt, int_div, sym, ◌∙◌, ap, subst, refl, arith, Option, Some, None, inl, inr, Contains, mod-lt, div-add-mod'}
use Rattle.std.proofs.lemmas.Int.{ints}
use Rattle.std.proofs.lemmas.Bool.{eqb-true}
use Rattle.std.proofs.lemmas.List.{length-map}
use Rattle.std.proofs.lemmas.List.Elements.{All-contains}
use Rattle.sg_model.specs.Sums.{greatest, nth, numbers_from}
use Rattle.sg_model.specs.Games.{Game, attacker, action_count}
use Rattle.sg_model.specs.Payoffs.{IsPeopled, greatest_of, shift_of}
use Rattle.sg_model.proofs.Best.{greatest-bounds}
use Rattle.sg_model.proofs.Ints.{v, plus, times, le_by, le_from, mul-le}
use Rattle.sg_model.proofs.Numbers.{length-numbers_from, nth-map, nth-numbers_from}
use Rattle.sg_tree.specs.declared.fact.Fact.{Fact}
use Rattle.sg_tree.specs.declared.report.Cap.{Cap}
use Rattle.sg_bounds.specs.Regions.{alone}
use Rattle.sg_bounds.specs.Facts.{HoldsFor, mu_of, no_fact, rho_of}
use Rattle.sg_bounds.specs.Caps.{IsAllowedBy, IsUnderCap, cap_of, no_cap}
use Rattle.sg_bounds.proofs.Caps.{holds-mu, holds-rho, one_le_product}
use Rattle.sg_search.specs.Searches.{Search}
use Rattle.sg_search.specs.Bounding.{cap_at, cap_facts, caps_of, fact_of, least_cap}
use Rattle.sg_search.specs.TreeLaws.{AreFacts}
use Rattle.sg_search.specs.CapLaws.{CapsHold}
use Rattle.sg_search.proofs.Grown.{fact-holds}

-- ---- rounding up

-- a quotient rounded up, times the divisor, is no less
pub rounded-up : (m d : ℤ) → pos 1 ≤ℤ m → pos 1 ≤ℤ d → m ≤ℤ (int_div (m +ℤ (d -ℤ pos 1)) d *ℤ d)
rounded-up (negsuc m) d low high = absurd (omega (arith, ints, low))
rounded-up (pos m) (negsuc k) low high = absurd (omega (arith, ints, high))
rounded-up (pos m) (pos zero) low high = absurd (omega (arith, ints, high))
rounded-up (pos m) (pos (suc k)) low high =
    let e : pos m +ℤ (pos (suc k) -ℤ pos 1) ≡ pos (m + k) = omega (arith, ints) in
    let a = div-add-mod' (m + k) (suc k) in
    let b : (m + k) % suc k < suc k = mod-lt (m + k) (omega arith) in
    let c : pos ((m + k) / suc k) *ℤ pos (suc k) ≡ pos ((m + k) / suc k * suc k) = refl in
    subst (λ (z : ℤ). pos m ≤ℤ (int_div z (pos (suc k)) *ℤ pos (suc k))) (sym e)
    (subst (λ (z : ℤ). pos m ≤ℤ z) (sym c) (omega (arith, ints, a, b)))

-- what a fact's least cap is at most is within it
pub within : (g : Game) (l : ℕ) (top : ℤ) (f : Fact) → pos 1 ≤ℤ rho_of f → pos 0 ≤ℤ mu_of f → pos 1 ≤ℤ (attacker g l).prior
    → ((x : ℤ) → least_cap g l f ≡ Some x → x ≤ℤ top) → IsUnderCap g l top f
within g l top f rho mu prior below = by (int_lt (pos 0) (mu_of f)) refl below
  where
    d : ℤ
    d = rho_of f *ℤ (attacker g l).prior

    by : (b : Bool) → int_lt (pos 0) (mu_of f) ≡ b
        → ((x : ℤ) → cond b (Some (int_div (mu_of f +ℤ ((rho_of f *ℤ (attacker g l).prior) -ℤ pos 1)) (rho_of f *ℤ (attacker g l).prior) -ℤ shift_of g)) None ≡ Some x → x ≤ℤ top)
        → IsUnderCap g l top f
    by false e h = inl (omega (arith, ints, e, mu))
    by true e h =
        let r : ℤ = rho_of f in
        let p : ℤ = (attacker g l).prior in
        let m : ℤ = mu_of f in
        let sh : ℤ = shift_of g in
        let one = one_le_product r p rho prior in
        let positive : pos 1 ≤ℤ m = omega (arith, ints, e) in
        let q : ℤ = int_div (m +ℤ ((r *ℤ p) -ℤ pos 1)) (r *ℤ p) in
        let up = rounded-up m (r *ℤ p) positive one in
        let high = h (q -ℤ sh) refl in
        let high2 : q ≤ℤ (top +ℤ sh) = omega (arith, ints, high) in
        let nonneg : pos 0 ≤ℤ (r *ℤ p) = omega (arith, ints, one) in
        let prod = mul-le q (top +ℤ sh) (r *ℤ p) high2 nonneg in
        inr (le_by (v m) (times (v r) (times (v p) (plus (v top) (v sh))))
        (omega (arith, le_from (v m) (times (v q) (times (v r) (v p))) up, le_from (times (v q) (times (v r) (v p))) (times (plus (v top) (v sh)) (times (v r) (v p))) prod)))

-- ---- lists of what is there

pub kept-le : {X : Type 0} (h : ℕ → Option X) (b k : ℕ) → length (filter_map h (numbers_from b k)) ≤ k
kept-le h b zero = omega arith
kept-le {X} h b (suc k) = by (h b) (kept-le h (b + 1) k)
  where
    by : (o : Option X) → length (filter_map h (numbers_from (b + 1) k)) ≤ k → length (Rattle.std.specs.List.cons_option o (filter_map h (numbers_from (b + 1) k))) ≤ suc k
    by None r = omega (arith, r)
    by (Some x) r = omega (arith, r)

-- where nothing is left out, each place holds what its number gives
pub kept-all : {X : Type 0} (h : ℕ → Option X) (b k : ℕ) (d : X) → length (filter_map h (numbers_from b k)) ≡ k → (i : ℕ) → i < k → h (b + i) ≡ Some (get_or (filter_map h (numbers_from b k)) i d)
kept-all h b zero d e i lt = absurd (omega (arith, lt))
kept-all {X} h b (suc k) d e i lt = by (h b) refl e i lt (λ e2 j lt2. kept-all h (b + 1) k d e2 j lt2) (kept-le h (b + 1) k)
  where
    by : (o : Option X) → h b ≡ o → length (Rattle.std.specs.List.cons_option o (filter_map h (numbers_from (b + 1) k))) ≡ suc k → (i : ℕ) → i < suc k
        → (length (filter_map h (numbers_from (b + 1) k)) ≡ k → (j : ℕ) → j < k → h (b + 1 + j) ≡ Some (get_or (filter_map h (numbers_from (b + 1) k)) j d))
        → length (filter_map h (numbers_from (b + 1) k)) ≤ k
        → h (b + i) ≡ Some (get_or (Rattle.std.specs.List.cons_option o (filter_map h (numbers_from (b + 1) k))) i d)
    by None q e i lt rest le = absurd (omega (arith, e, le))
    by (Some x) q e zero lt rest le = let z : b + 0 ≡ b = omega arith in rw z q
    by (Some x) q e (suc j) lt rest le = let z : b + suc j ≡ b + 1 + j = omega arith in rw z (rest (omega (arith, e)) j (omega (arith, lt)))

-- what is there of one of a list is among what is there of the list
pub kept-in : (h : Fact → Option ℤ) (fs : List Fact) (i : ℕ) (d : Fact) (x : ℤ) → i < length fs → h (get_or fs i d) ≡ Some x → Contains (filter_map h fs) x
kept-in h [] i d x lt e = absurd (omega (arith, lt))
kept-in h (f ∷ fs) zero d x lt e = subst (λ (o : Option ℤ). Contains (Rattle.std.specs.List.cons_option o (filter_map h fs)) x) (sym e) (0, omega arith, refl)
kept-in h (f ∷ fs) (suc i) d x lt e = by (h f) (kept-in h fs i d x (omega (arith, lt)) e)
  where
    by : (o : Option ℤ) → Contains (filter_map h fs) x → Contains (Rattle.std.specs.List.cons_option o (filter_map h fs)) x
    by None c = c
    by (Some y) c = let lt2 = c.1 in (suc c.0, omega (arith, lt2), c.2)

-- ---- one cap

proved-allowed : (g : Game) → IsPeopled g → (s : Search) → AreFacts g s → (l : ℕ) → 2 ≤ l → l ≤ length g.types → (fs : List Fact) → fs ≡ cap_facts g s l → length fs ≡ action_count g l
    → IsAllowedBy g l (greatest (filter_map (least_cap g l) fs)) fs
proved-allowed g peopled s facts l low high [] is e = let some = peopled.actions l (omega (arith, low)) high in absurd (omega (arith, e, some))
proved-allowed g peopled s facts l low high (f0 ∷ fs0) is e = (e, λ a from_one in_range. each a from_one in_range)
  where
    fs : List Fact
    fs = f0 ∷ fs0

    top : ℤ
    top = greatest (filter_map (least_cap g l) (f0 ∷ fs0))

    at : (i : ℕ) → i < action_count g l → HoldsFor g (alone l (1 + i)) (get_or (f0 ∷ fs0) i no_fact)
    at i lt =
        let long : length (cap_facts g s l) ≡ action_count g l = sym (ap length is) ∙ e in
        let q = kept-all (λ a. fact_of s.worked (alone l a)) 1 (action_count g l) no_fact long i lt in
        fact-holds g s.worked facts (alone l (1 + i)) (get_or (f0 ∷ fs0) i no_fact) (q ∙ ap (λ (ys : List Fact). Some (get_or ys i no_fact)) (sym is))

    each : (a : ℕ) → 1 ≤ a → a ≤ action_count g l → HoldsFor g (alone l a) (nth (f0 ∷ fs0) a no_fact) × IsUnderCap g l (greatest (filter_map (least_cap g l) (f0 ∷ fs0))) (nth (f0 ∷ fs0) a no_fact)
    each zero from_one in_range = absurd (omega (arith, from_one))
    each (suc i) from_one in_range =
        let x : Fact = get_or (f0 ∷ fs0) i no_fact in
        let z : 1 + i ≡ suc i = omega arith in
        let h = at i (omega (arith, in_range)) in (
          subst (λ (a : ℕ). HoldsFor g (alone l a) x) z h,
          within g l (greatest (filter_map (least_cap g l) (f0 ∷ fs0))) x (holds-rho g (alone l (1 + i)) x h) (holds-mu g (alone l (1 + i)) x h) (peopled.priors l (omega (arith, low)) high)
              (λ y there. All-contains (λ w. w ≤ℤ greatest (filter_map (least_cap g l) (f0 ∷ fs0))) (filter_map (least_cap g l) (f0 ∷ fs0)) y (greatest-bounds (filter_map (least_cap g l) (f0 ∷ fs0)))
              (kept-in (least_cap g l) (f0 ∷ fs0) i no_fact y (omega (arith, in_range, e)) there)),
        )

cap-allowed : (g : Game) → IsPeopled g → (s : Search) → AreFacts g s → (l : ℕ) → 2 ≤ l → l ≤ length g.types → IsAllowedBy g l (cap_at g s l).v (cap_at g s l).proof
cap-allowed g peopled s facts l low high = by (nat_eq (length (cap_facts g s l)) (action_count g l)) refl
  where
    by : (b : Bool) → nat_eq (length (cap_facts g s l)) (action_count g l) ≡ b
        → IsAllowedBy g l (cond {A = Cap} b (record { l = l; v = greatest (filter_map (least_cap g l) (cap_facts g s l)); proof = cap_facts g s l }) (record { l = l; v = greatest_of g l; proof = [] })).v
        (cond {A = Cap} b (record { l = l; v = greatest (filter_map (least_cap g l) (cap_facts g s l)); proof = cap_facts g s l }) (record { l = l; v = greatest_of g l; proof = [] })).proof
    by true e = proved-allowed g peopled s facts l low high (cap_facts g s l) refl (eqb-true (length (cap_facts g s l)) (action_count g l) e)
    by false e = refl

cap-type : (g : Game) (s : Search) (l : ℕ) → (cap_at g s l).l ≡ l
cap-type g s l = by (nat_eq (length (cap_facts g s l)) (action_count g l))
  where
    by : (b : Bool) → (cond {A = Cap} b (record { l = l; v = greatest (filter_map (least_cap g l) (cap_facts g s l)); proof = cap_facts g s l }) (record { l = l; v = greatest_of g l; proof = [] })).l ≡ l
    by true = refl
    by false = refl

pub cap-is : (g : Game) (s : Search) (l : ℕ) → 2 ≤ l → l ≤ length g.types → cap_of (caps_of g s) l ≡ cap_at g s l
cap-is g s l low high =
    let long = length-numbers_from 2 (length g.types - 1) in
    let e = nth-map (cap_at g s) (numbers_from 2 (length g.types - 1)) (l - 1) no_cap 0 (omega (arith, low)) (omega (arith, high, low, long)) in
    let f : get_or (numbers_from 2 (length g.types - 1)) (l - 1 - 1) 0 ≡ l = let q = nth-numbers_from 2 (length g.types - 1) (l - 1 - 1) 0 (omega (arith, high, low)) in omega (arith, q, low) in
    e ∙ ap (cap_at g s) f

pub caps_hold : CapsHold
caps_hold g peopled s facts = record {
  one_each = let some = peopled.types in let a = length-map (numbers_from 2 (length g.types - 1)) (cap_at g s) in let b = length-numbers_from 2 (length g.types - 1) in omega (arith, some, a, b);
  in_order = λ l low high. ap (λ (c : Cap). c.l) (cap-is g s l low high) ∙ cap-type g s l;
  allowed = λ l low high. subst (λ (c : Cap). IsAllowedBy g l c.v c.proof) (sym (cap-is g s l low high)) (cap-allowed g peopled s facts l low high);
}
