-- How the value of tickets is formed: sums over the tickets one after another, and what is taken of the best actions.
use Rattle.std.proofs.Common.{◌≡◌, ◌∙◌, ℕ, suc, ◌+◌, ◌<◌, ◌≤◌, Bool, true, false, cond, List, [], ◌∷◌, ◌++◌, length, drop, get_or, ℤ, pos, ◌+ℤ◌, ◌*ℤ◌, ◌≤ℤ◌, ◌<ℤ◌, ap, sym, subst, refl, arith, ◌⊎◌, inl, inr}
use Rattle.std.specs.List.{All, Contains, filter, flat_map}
use Rattle.std.proofs.lemmas.Int.{ints, by_lt_z, int_max_is}
use Rattle.std.specs.Int.{int_max}
use Rattle.std.proofs.lemmas.Bool.{cases_eq}
use Rattle.std.proofs.lemmas.List.{append_assoc, drop_all, drop_more}
use Rattle.std.proofs.lemmas.List.Elements.{All-nil, All-cons, All-head, All-tail, All-append, All-contains}
use Rattle.sg_model.specs.declared.ticket.Ticket.{Ticket}
use Rattle.sg_model.specs.Sums.{numbers, numbers_from, total}
use Rattle.sg_model.specs.Games.{Game, action_count, attacker, prior_total}
use Rattle.sg_model.specs.Commitments.{is_best, sum_a, sum_d, take_of, weight_total, worth, AreLegal}
use Rattle.sg_model.proofs.Numbers.{All-numbers, All-numbers-at}
use Rattle.sg_model.proofs.Best.{is_best-from, is_best-out, passes_have, take_of-bounds, take_of-reached}
use Rattle.sg_model.proofs.Payoffs.{Contains-numbers}
use Rattle.sg_model.specs.Plays.{IsLegal}
use Rattle.sg_model.specs.Limits.{IsGame}
use Rattle.sg_model.specs.Commitments.{IsValue}
use Rattle.sg_model.proofs.Covers.{weight_total-positive}
use Rattle.sg_model.proofs.Promises.{peopled}
use Rattle.sg_model.proofs.Values.{prior_total-positive}
use Rattle.sg_model.proofs.Ints.{v, times, same_by}
use Rattle.sg_num.proofs.Signs.{mul-pos}
use Rattle.sg_tree.specs.declared.report.Report.{Report}
use Rattle.sg_tree.specs.Claims.{is_claim}
use Rattle.sg_bounds.specs.Checking.{AllPass, ticket_stops}
use Rattle.sg_bounds.proofs.Claims.{claim_commits}
use Rattle.sg_model.proofs.Lists.{All-flat_map}
use Rattle.sg_num.specs.Exact.{Fits}
use Rattle.sg_bounds.specs.Sizes.{pay_sums, take_sums, value_sums, worth_sums}
use Rattle.sg_check.specs.declared.value.Best.{Best}
use Rattle.std.specs.Prelude.{Option, Some, None, MatchOption}
use Rattle.sg_check.specs.declared.quotient.Quotient.{Quotient}
use Rattle.sg_check.specs.Valuing.{AreSumsFormed, BestAreFormed, Forms, IsBestOf, IsTakenSum, IsWorthOf, paired, under_a, under_d}
use Rattle.sg_frac.specs.Fractions.{Fraction, IsReduced, IsReducedForm}
use Rattle.sg_frac.proofs.Reduced.{reduced_form-unique}

-- ---- sums over the tickets

-- after some of the tickets the sum is z, and the others are left
pub record IsSummed (pays : List ℕ → ℤ) (all : List Ticket) (z : ℤ) (rest : List Ticket) : Type 0 where
  pub back : All Fits (pay_sums pays z rest) → All Fits (pay_sums pays (pos 0) all)
  pub on : All Fits (pay_sums pays (pos 0) all) → All Fits (pay_sums pays z rest)
  pub sum : z +ℤ total (λ (x : Ticket). x.weight *ℤ pays x.play.code) rest ≡ total (λ (x : Ticket). x.weight *ℤ pays x.play.code) all

pub step-forms : (sum product w p : ℤ) (r : Option ℤ) → Fits (w *ℤ p) → product ≡ w *ℤ p → MatchOption r (Fits (sum +ℤ product) → ⊥) (λ v. Fits (sum +ℤ product) × (v ≡ sum +ℤ product))
    → Forms r ((w *ℤ p) ∷ (sum +ℤ (w *ℤ p)) ∷ []) (sum +ℤ (w *ℤ p))
step-forms sum product w p (Some z) fit e h =
    (All-cons Fits (w *ℤ p) ((sum +ℤ (w *ℤ p)) ∷ []) fit (All-cons Fits (sum +ℤ (w *ℤ p)) [] (subst (λ (y : ℤ). Fits (sum +ℤ y)) e h.0) (All-nil Fits)), omega (arith, ints, e, h.1))
step-forms sum product w p None fit e h =
    λ all. h (subst (λ (y : ℤ). Fits (sum +ℤ y)) (sym e) (All-head Fits (sum +ℤ (w *ℤ p)) [] (All-tail Fits (w *ℤ p) ((sum +ℤ (w *ℤ p)) ∷ []) all)))

-- both numbers of one ticket
abbrev pub both : (List ℕ → ℤ) → ℤ → Ticket → List ℤ
both pays z x = (x.weight *ℤ pays x.play.code) ∷ (z +ℤ (x.weight *ℤ pays x.play.code)) ∷ []

module _ (pays : List ℕ → ℤ) (all : List Ticket) (i : ℕ) (x : Ticket) (z : ℤ) (lt : i < length all) (is : x ≡ get_or all i x) (h : IsSummed pays all z (drop i all)) where
  at : drop i all ≡ x ∷ drop (i + 1) all
  at = drop_more all i x lt ∙ ap (λ y. y ∷ drop (i + 1) all) (sym is)

  now : IsSummed pays all z (x ∷ drop (i + 1) all)
  now = subst (IsSummed pays all z) at h

  pub summed-more : (more : ℤ) → All Fits (both pays z x) → more ≡ z +ℤ (x.weight *ℤ pays x.play.code) → IsSummed pays all more (drop (i + 1) all)
  summed-more more fit e =
      let p : ℤ = x.weight *ℤ pays x.play.code in
      let rest : List ℤ = pay_sums pays (z +ℤ p) (drop (i + 1) all) in
      subst (λ (s : ℤ). IsSummed pays all s (drop (i + 1) all)) (sym e) (record {
        back = λ k. now.back (All-cons Fits p ((z +ℤ p) ∷ rest) (All-head Fits p ((z +ℤ p) ∷ []) fit) (All-cons Fits (z +ℤ p) rest (All-head Fits (z +ℤ p) [] (All-tail Fits p ((z +ℤ p) ∷ []) fit)) k));
        on = λ k. All-tail Fits (z +ℤ p) rest (All-tail Fits p ((z +ℤ p) ∷ rest) (now.on k));
        sum = omega (arith, ints, now.sum);
      })

  pub summed-wide : (All Fits (both pays z x) → ⊥) → All Fits (pay_sums pays (pos 0) all) → ⊥
  summed-wide wide k =
      let p : ℤ = x.weight *ℤ pays x.play.code in
      let rest : List ℤ = pay_sums pays (z +ℤ p) (drop (i + 1) all) in
      let f = now.on k in
      wide (All-cons Fits p ((z +ℤ p) ∷ []) (All-head Fits p ((z +ℤ p) ∷ rest) f) (All-cons Fits (z +ℤ p) [] (All-head Fits (z +ℤ p) rest (All-tail Fits p ((z +ℤ p) ∷ rest) f)) (All-nil Fits)))

pub summed-end : (pays : List ℕ → ℤ) (all : List Ticket) (i : ℕ) (z : ℤ) → length all ≤ i → IsSummed pays all z (drop i all)
    → All Fits (pay_sums pays (pos 0) all) × (z ≡ total (λ (x : Ticket). x.weight *ℤ pays x.play.code) all)
summed-end pays all i z le h =
    let now = subst (IsSummed pays all z) (drop_all i all le) h in
    (now.back (All-nil Fits), omega (arith, ints, now.sum))

-- ---- lists of lists

All-front : {X : Type 0} (P : X → Type 0) (xs ys : List X) → All P (xs ++ ys) → All P xs
All-front P [] ys h = All-nil P
All-front P (x ∷ xs) ys h = All-cons P x xs (All-head P x (xs ++ ys) h) (All-front P xs ys (All-tail P x (xs ++ ys) h))

All-back : {X : Type 0} (P : X → Type 0) (xs ys : List X) → All P (xs ++ ys) → All P ys
All-back P [] ys h = h
All-back P (x ∷ xs) ys h = All-back P xs ys (All-tail P x (xs ++ ys) h)

each_from_flat : (f : ℕ → List ℤ) (xs : List ℕ) → All Fits (flat_map f xs) → All (λ (x : ℕ). All Fits (f x)) xs
each_from_flat f [] h = All-nil (λ (x : ℕ). All Fits (f x))
each_from_flat f (x ∷ xs) h = All-cons (λ (x : ℕ). All Fits (f x)) x xs (All-front Fits (f x) (flat_map f xs) h) (each_from_flat f xs (All-back Fits (f x) (flat_map f xs) h))

from_flat : (f : ℕ → List ℤ) (xs : List ℕ) → All Fits (flat_map f xs) → (x : ℕ) → Contains xs x → All Fits (f x)
from_flat f xs h x at = All-contains (λ (x : ℕ). All Fits (f x)) xs x (each_from_flat f xs h) at

-- what holds of those that pass holds of what is left of them
both_pass : {X : Type 0} (p : X → Bool) (P : X → Type 0) (xs : List X) → All (λ x. p x ≡ true → P x) xs → All P (filter p xs)
both_pass p P [] h = All-nil P
both_pass p P (x ∷ xs) h =
    elim (p x) as (λ b. p x ≡ b → All P (cond b (x ∷ filter p xs) (filter p xs))) [
      | true ↦ (λ e. All-cons P x (filter p xs) (All-head (λ x. p x ≡ true → P x) x xs h e) (both_pass p P xs (All-tail (λ x. p x ≡ true → P x) x xs h)))
      | false ↦ (λ e. both_pass p P xs (All-tail (λ x. p x ≡ true → P x) x xs h))
    ] refl

-- equal or not
cases_eq_z : (a b : ℤ) → (a ≡ b) ⊎ (a ≡ b → ⊥)
cases_eq_z a b =
    by_lt_z a b (λ lt. inr (λ e. omega (arith, ints, lt, e))) (λ le. by_lt_z b a (λ lt. inr (λ e. omega (arith, ints, lt, e))) (λ ge. inl (omega (arith, ints, le, ge))))

-- ---- the best actions

module _ (g : Game) (k : List Ticket) (l : ℕ) where
  pub formed-first : All Fits (under_a g k l 1) → AreSumsFormed g k l 1
  formed-first h a low high = let e : 1 ≡ a = omega (arith, low, high) in subst (λ (b : ℕ). All Fits (under_a g k l b)) e h

  pub formed-more : (i : ℕ) → AreSumsFormed g k l i → All Fits (under_a g k l (i + 1)) → AreSumsFormed g k l (i + 1)
  formed-more i h now a low high = elim (cases_eq a (i + 1)) [
    | inl e ↦ subst (λ (b : ℕ). All Fits (under_a g k l b)) (sym e) now
    | inr ne ↦ h a low (omega (arith, high, ne))
  ]

  pub best-first : (z : ℤ) → z ≡ sum_a g k l 1 → IsBestOf g k l 1 (record { action = 1; sum = z })
  best-first z e = record {
    from_one = omega arith;
    in_range = omega arith;
    sum = sym e;
    most = λ a low high. let q : 1 ≡ a = omega (arith, low, high) in let s = ap (sum_a g k l) q in omega (arith, ints, s, e);
  }

  -- one action more: the old best one stays, or the new one is better
  pub best-kept : (i : ℕ) (best : Best) (z : ℤ) → z ≡ sum_a g k l (i + 1) → z ≤ℤ best.sum → IsBestOf g k l i best → IsBestOf g k l (i + 1) best
  best-kept i best z e le h = record {
    from_one = h.from_one;
    in_range = omega (arith, h.in_range);
    sum = h.sum;
    most = λ a low high. elim (cases_eq a (i + 1)) [
      | inl q ↦ (let s = ap (sum_a g k l) q in omega (arith, ints, s, e, le))
      | inr ne ↦ h.most a low (omega (arith, high, ne))
    ];
  }

  pub best-new : (i : ℕ) (best : Best) (z : ℤ) → z ≡ sum_a g k l (i + 1) → (z ≤ℤ best.sum → ⊥) → IsBestOf g k l i best → IsBestOf g k l (i + 1) (record { action = i + 1; sum = z })
  best-new i best z e above h =
      let lt : best.sum <ℤ z = by_lt_z best.sum z (λ lt. lt) (λ le. absurd (above le)) in record {
        from_one = omega arith;
        in_range = omega arith;
        sum = sym e;
        most = λ a low high. elim (cases_eq a (i + 1)) [
          | inl q ↦ (let s = ap (sum_a g k l) q in omega (arith, ints, s, e))
          | inr ne ↦ (let m = h.most a low (omega (arith, high, ne)) in omega (arith, ints, m, lt))
        ];
      }

  pub best-next : (i : ℕ) (best next : Best) (z : ℤ) → z ≡ sum_a g k l (i + 1) → (z ≤ℤ best.sum → next ≡ best) → ((z ≤ℤ best.sum → ⊥) → next ≡ record { action = i + 1; sum = z })
      → IsBestOf g k l i best → IsBestOf g k l (i + 1) next
  best-next i best next z e kept new h =
      by_lt_z best.sum z
      (λ lt. let above : z ≤ℤ best.sum → ⊥ = λ le. omega (arith, ints, lt, le) in subst (IsBestOf g k l (i + 1)) (sym (new above)) (best-new i best z e above h))
      (λ le. subst (IsBestOf g k l (i + 1)) (sym (kept le)) (best-kept i best z e le h))

  -- ---- what is taken

  pub taken-first : (n : ℕ) (best : Best) (z : ℤ) → n ≡ action_count g l → IsBestOf g k l n best → z ≡ sum_d g k l best.action → IsTakenSum g k l 0 best.sum z
  taken-first n best z e h q = record {
    reached = (best.action, h.from_one, omega (arith, h.in_range, e), h.sum, sym q);
    most = λ a low high. absurd (omega (arith, low, high));
  }

  pub taken-best : (i : ℕ) (top taken next : ℤ) → i < action_count g l → sum_a g k l (i + 1) ≡ top → next ≡ int_max taken (sum_d g k l (i + 1)) → IsTakenSum g k l i top taken → IsTakenSum g k l (i + 1) top next
  taken-best i top taken next lt is e h = record {
    reached = by_lt_z taken (sum_d g k l (i + 1))
        (λ less. (i + 1, omega arith, omega (arith, lt), is, omega (arith, ints, less, e, int_max_is taken (sum_d g k l (i + 1)))))
        (λ le. (h.reached.0, h.reached.1, h.reached.2, h.reached.3, omega (arith, ints, le, e, int_max_is taken (sum_d g k l (i + 1)), h.reached.4)));
    most = λ a low high same. elim (cases_eq a (i + 1)) [
      | inl q ↦ (let s = ap (sum_d g k l) q in omega (arith, ints, s, e, int_max_is taken (sum_d g k l (i + 1))))
      | inr ne ↦ (let m = h.most a low (omega (arith, high, ne)) same in omega (arith, ints, m, e, int_max_is taken (sum_d g k l (i + 1))))
    ];
  }

  pub taken-other : (i : ℕ) (top taken : ℤ) → (sum_a g k l (i + 1) ≡ top → ⊥) → IsTakenSum g k l i top taken → IsTakenSum g k l (i + 1) top taken
  taken-other i top taken not h = record {
    reached = h.reached;
    most = λ a low high same. elim (cases_eq a (i + 1)) [
      | inl q ↦ absurd (not (ap (sum_a g k l) (sym q) ∙ same))
      | inr ne ↦ h.most a low (omega (arith, high, ne)) same
    ];
  }

  pub best_formed-best : (i : ℕ) (top : ℤ) → BestAreFormed g k l i top → All Fits (under_d g k l (i + 1)) → BestAreFormed g k l (i + 1) top
  best_formed-best i top h now a low high same = elim (cases_eq a (i + 1)) [
    | inl e ↦ subst (λ (b : ℕ). All Fits (under_d g k l b)) (sym e) now
    | inr ne ↦ h a low (omega (arith, high, ne)) same
  ]

  pub best_formed-other : (i : ℕ) (top : ℤ) → (sum_a g k l (i + 1) ≡ top → ⊥) → BestAreFormed g k l i top → BestAreFormed g k l (i + 1) top
  best_formed-other i top not h a low high same = elim (cases_eq a (i + 1)) [
    | inl q ↦ absurd (not (ap (sum_a g k l) (sym q) ∙ same))
    | inr ne ↦ h a low (omega (arith, high, ne)) same
  ]

  -- what is formed so far of both
  pub record IsTakenSoFar (i : ℕ) (top taken : ℤ) : Type 0 where
    pub formed : BestAreFormed g k l i top
    pub is : IsTakenSum g k l i top taken

  pub taken-next : (i : ℕ) (top taken next : ℤ) → i < action_count g l
      → ((sum_a g k l (i + 1) ≡ top) → All Fits (under_d g k l (i + 1)) × (next ≡ int_max taken (sum_d g k l (i + 1))))
      → (((sum_a g k l (i + 1) ≡ top) → ⊥) → next ≡ taken) → IsTakenSoFar i top taken → IsTakenSoFar (i + 1) top next
  taken-next i top taken next lt best other h =
      elim (cases_eq_z (sum_a g k l (i + 1)) top) [
        | inl is ↦ record { formed = best_formed-best i top h.formed (best is).0; is = taken-best i top taken next lt is (best is).1 h.is }
        | inr not ↦ record { formed = best_formed-other i top not h.formed; is = subst (IsTakenSum g k l (i + 1) top) (sym (other not)) (taken-other i top taken not h.is) }
      ]

  -- it is what is meant
  pub taken-is : (best : Best) (taken : ℤ) → IsBestOf g k l (action_count g l) best → IsTakenSum g k l (action_count g l) best.sum taken → taken ≡ take_of g k l
  taken-is best taken b h =
      let n : ℕ = action_count g l in
      let r = h.reached in
      let t = take_of-reached g k l (omega (arith, b.from_one, b.in_range)) in
      let equal : sum_a g k l t.0 ≡ best.sum = (let p = t.1.best best.action b.from_one b.in_range in let q = b.most t.0 t.1.from_one t.1.in_range in omega (arith, ints, p, q, b.sum)) in
      let low = h.most t.0 t.1.from_one t.1.in_range equal in
      let high = take_of-bounds g k l r.0 r.1 r.2 (λ c from_one in_range. let q = b.most c from_one in_range in let e = r.3 in omega (arith, ints, q, e)) in
      let d = r.4 in
      omega (arith, ints, low, high, t.1.gives, d)

  -- ---- the numbers under it

  is_best-is : (best : Best) → IsBestOf g k l (action_count g l) best → (a : ℕ) → 1 ≤ a → a ≤ action_count g l → is_best g k l a ≡ true → sum_a g k l a ≡ best.sum
  is_best-is best b a low high e =
      let p = is_best-out g k l a e best.action b.from_one b.in_range in
      let q = b.most a low high in
      omega (arith, ints, p, q, b.sum)

  best-is_best : (best : Best) → IsBestOf g k l (action_count g l) best → (a : ℕ) → sum_a g k l a ≡ best.sum → is_best g k l a ≡ true
  best-is_best best b a e = is_best-from g k l a (λ c low high. let q = b.most c low high in omega (arith, ints, q, e))

  -- both lists
  pub under_as : List ℤ
  under_as = flat_map (under_a g k l) (numbers (action_count g l))

  pub under_ds : List ℤ
  under_ds = flat_map (under_d g k l) (filter (is_best g k l) (numbers (action_count g l)))

  pub take-formed : All Fits (take_sums g k l) → AreSumsFormed g k l (action_count g l)
  take-formed h a low high = from_flat (under_a g k l) (numbers (action_count g l)) (All-front Fits (flat_map (under_a g k l) (numbers (action_count g l))) _ h) a (Contains-numbers (action_count g l) a low high)

  pub take-best_formed : (best : Best) → IsBestOf g k l (action_count g l) best → All Fits (take_sums g k l) → BestAreFormed g k l (action_count g l) best.sum
  take-best_formed best b h a low high same =
      let n : ℕ = action_count g l in
      let each : All (λ (c : ℕ). All Fits (under_d g k l c)) (filter (is_best g k l) (numbers n)) = each_from_flat (under_d g k l) (filter (is_best g k l) (numbers n)) (All-back Fits (flat_map (under_a g k l) (numbers n)) (flat_map (under_d g k l) (filter (is_best g k l) (numbers n))) h) in
      All-numbers-at (λ (c : ℕ). is_best g k l c ≡ true → All Fits (under_d g k l c)) n (passes_have (is_best g k l) (λ (c : ℕ). All Fits (under_d g k l c)) (numbers n) each) a low high (best-is_best best b a same)

  pub formed-take : (best : Best) → IsBestOf g k l (action_count g l) best → AreSumsFormed g k l (action_count g l) → BestAreFormed g k l (action_count g l) best.sum → All Fits (take_sums g k l)
  formed-take best b h i =
      let n : ℕ = action_count g l in
      All-append Fits (flat_map (under_a g k l) (numbers n)) (flat_map (under_d g k l) (filter (is_best g k l) (numbers n)))
      (All-flat_map Fits (under_a g k l) (numbers n) (All-numbers (λ (c : ℕ). All Fits (under_a g k l c)) n h))
      (All-flat_map Fits (under_d g k l) (filter (is_best g k l) (numbers n)) (both_pass (is_best g k l) (λ (c : ℕ). All Fits (under_d g k l c)) (numbers n) (All-numbers (λ (c : ℕ). is_best g k l c ≡ true → All Fits (under_d g k l c)) n (λ c low high e. i c low high (is_best-is best b c low high e)))))

-- ---- what is taken, formed or not

module _ (g : Game) (k : List Ticket) (l : ℕ) where
  pub take-forms : (best : Best) → IsBestOf g k l (action_count g l) best → AreSumsFormed g k l (action_count g l) → (r : Option ℤ)
      → MatchOption r (BestAreFormed g k l (action_count g l) best.sum → ⊥) (λ taken. BestAreFormed g k l (action_count g l) best.sum × IsTakenSum g k l (action_count g l) best.sum taken)
      → Forms r (take_sums g k l) (take_of g k l)
  take-forms best b f (Some z) h = (formed-take g k l best b f h.0, taken-is g k l best z b h.1)
  take-forms best b f None h = λ all. h (take-best_formed g k l best b all)

  pub take-none : (AreSumsFormed g k l (action_count g l) → ⊥) → All Fits (take_sums g k l) → ⊥
  take-none none all = none (take-formed g k l all)

  -- a best action whose sum doesn't fit
  pub best-wide : (best : Best) → IsBestOf g k l (action_count g l) best → (All Fits (under_d g k l best.action) → ⊥) → BestAreFormed g k l (action_count g l) best.sum → ⊥
  best-wide best b none all = none (all best.action b.from_one b.in_range b.sum)

  -- a looked-at action whose sum doesn't fit
  pub look-wide : (i : ℕ) (top taken : ℤ) → i < action_count g l
      → ((sum_a g k l (i + 1) ≡ top) → All Fits (under_d g k l (i + 1)) → ⊥)
      → (((sum_a g k l (i + 1) ≡ top) → ⊥) → None ≡ Some taken) → BestAreFormed g k l (action_count g l) top → ⊥
  look-wide i top taken lt best other all =
      elim (cases_eq_z (sum_a g k l (i + 1)) top) [
        | inl is ↦ best is (all (i + 1) (omega arith) (omega (arith, lt)) is)
        | inr not ↦ (let e = other not in cc)
      ]

  pub look-next : (i : ℕ) (top taken next : ℤ) → i < action_count g l
      → ((sum_a g k l (i + 1) ≡ top) → All Fits (under_d g k l (i + 1)) × (next ≡ int_max taken (sum_d g k l (i + 1))))
      → (((sum_a g k l (i + 1) ≡ top) → ⊥) → Some next ≡ Some taken) → IsTakenSoFar g k l i top taken → IsTakenSoFar g k l (i + 1) top next
  look-next i top taken next lt best other h = taken-next g k l i top taken next lt best (λ not. let e = other not in some_same next taken e) h
    where
      some_same : (x y : ℤ) → Some x ≡ Some y → x ≡ y
      some_same x y e = cc

  pub taken-start : (best : Best) (z : ℤ) → IsBestOf g k l (action_count g l) best → z ≡ sum_d g k l best.action → IsTakenSoFar g k l 0 best.sum z
  taken-start best z b e = record { formed = λ a low high same. absurd (omega (arith, low, high)); is = taken-first g k l (action_count g l) best z refl b e }

  pub taken-end : (i : ℕ) (top taken : ℤ) → i ≡ action_count g l → IsTakenSoFar g k l i top taken → BestAreFormed g k l (action_count g l) top × IsTakenSum g k l (action_count g l) top taken
  taken-end i top taken e h = (subst (λ (n : ℕ). BestAreFormed g k l n top) e h.formed, subst (λ (n : ℕ). IsTakenSum g k l n top taken) e h.is)

-- ---- the worth

-- what is summed after z of the types from a on, of which there are n
abbrev pub worth_from : Game → List Ticket → ℤ → ℕ → ℕ → List ℤ
worth_from g k z a n = worth_sums g k z (numbers_from a n)

-- after some of the types the sum is z, and n are left from a on
pub record IsWorthSoFar (g : Game) (k : List Ticket) (z : ℤ) (a n : ℕ) : Type 0 where
  pub back : All Fits (worth_from g k z a n) → All Fits (worth_from g k (pos 0) 1 (length g.types))
  pub on : All Fits (worth_from g k (pos 0) 1 (length g.types)) → All Fits (worth_from g k z a n)
  pub sum : z +ℤ total (λ l. (attacker g l).prior *ℤ take_of g k l) (numbers_from a n) ≡ worth g k

pub worth-start : (g : Game) (k : List Ticket) → IsWorthSoFar g k (pos 0) 1 (length g.types)
worth-start g k = record { back = λ h. h; on = λ h. h; sum = omega (arith, ints) }

-- the numbers under one type
abbrev pub of_type : Game → List Ticket → ℤ → ℕ → List ℤ
of_type g k z l = take_sums g k l ++ (((attacker g l).prior *ℤ take_of g k l) ∷ (z +ℤ ((attacker g l).prior *ℤ take_of g k l)) ∷ [])

module _ (g : Game) (k : List Ticket) (z : ℤ) (a n : ℕ) where
  abbrev pub here : ℤ
  here = (attacker g a).prior *ℤ take_of g k a

  abbrev behind : List ℤ
  behind = worth_from g k (z +ℤ here) (a + 1) n

  parts : worth_from g k z a (suc n) ≡ of_type g k z a ++ behind
  parts = sym (append_assoc (take_sums g k a) (here ∷ (z +ℤ here) ∷ []) behind)

  pub worth-more : (more : ℤ) → IsWorthSoFar g k z a (suc n) → All Fits (of_type g k z a) → more ≡ z +ℤ here → IsWorthSoFar g k more (a + 1) n
  worth-more more h fit e = subst (λ (s : ℤ). IsWorthSoFar g k s (a + 1) n) (sym e) (record {
    back = λ f. h.back (subst (All Fits) (sym parts) (All-append Fits (of_type g k z a) behind fit f));
    on = λ f. All-back Fits (of_type g k z a) behind (subst (All Fits) parts (h.on f));
    sum = omega (arith, ints, h.sum);
  })

  pub worth-wide : IsWorthSoFar g k z a (suc n) → (All Fits (of_type g k z a) → ⊥) → All Fits (worth_from g k (pos 0) 1 (length g.types)) → ⊥
  worth-wide h wide f = wide (All-front Fits (of_type g k z a) behind (subst (All Fits) parts (h.on f)))

pub worth-end : (g : Game) (k : List Ticket) (z : ℤ) (a n : ℕ) → n ≡ 0 → IsWorthSoFar g k z a n → All Fits (worth_from g k (pos 0) 1 (length g.types)) × (z ≡ worth g k)
worth-end g k z a n none h =
    let h' = subst (IsWorthSoFar g k z a) none h in
    (h'.back (All-nil Fits), omega (arith, ints, h'.sum))

joined-forms : (g : Game) (k : List Ticket) (z : ℤ) (l : ℕ) (r : Option ℤ) → All Fits (take_sums g k l)
    → Forms r (((attacker g l).prior *ℤ take_of g k l) ∷ (z +ℤ ((attacker g l).prior *ℤ take_of g k l)) ∷ []) (z +ℤ ((attacker g l).prior *ℤ take_of g k l))
    → Forms r (of_type g k z l) (z +ℤ ((attacker g l).prior *ℤ take_of g k l))
joined-forms g k z l (Some x) taken f =
    let w : ℤ = (attacker g l).prior *ℤ take_of g k l in
    (All-append Fits (take_sums g k l) (w ∷ (z +ℤ w) ∷ []) taken f.0, f.1)
joined-forms g k z l None taken f =
    let w : ℤ = (attacker g l).prior *ℤ take_of g k l in
    λ all. f (All-back Fits (take_sums g k l) (w ∷ (z +ℤ w) ∷ []) all)

-- one type: what is taken, and then its product and the sum
pub type-forms : (g : Game) (k : List Ticket) (z : ℤ) (l : ℕ) (y p t : ℤ) (r : Option ℤ) → y ≡ z → p ≡ (attacker g l).prior → t ≡ take_of g k l → All Fits (take_sums g k l)
    → Forms r ((p *ℤ t) ∷ (y +ℤ (p *ℤ t)) ∷ []) (y +ℤ (p *ℤ t)) → Forms r (of_type g k z l) (z +ℤ ((attacker g l).prior *ℤ take_of g k l))
type-forms g k z l y p t r ez ep et taken h =
    let a : ℤ = (attacker g l).prior in
    let b : ℤ = take_of g k l in
    let one = subst (λ (x : ℤ). Forms r ((x *ℤ t) ∷ (y +ℤ (x *ℤ t)) ∷ []) (y +ℤ (x *ℤ t))) ep h in
    let two = subst (λ (x : ℤ). Forms r ((a *ℤ x) ∷ (y +ℤ (a *ℤ x)) ∷ []) (y +ℤ (a *ℤ x))) et one in
    joined-forms g k z l r taken (subst (λ (x : ℤ). Forms r ((a *ℤ b) ∷ (x +ℤ (a *ℤ b)) ∷ []) (x +ℤ (a *ℤ b))) ez two)

pub type-wide : (g : Game) (k : List Ticket) (z : ℤ) (l : ℕ) → (All Fits (take_sums g k l) → ⊥) → All Fits (of_type g k z l) → ⊥
type-wide g k z l wide f = wide (All-front Fits (take_sums g k l) (((attacker g l).prior *ℤ take_of g k l) ∷ (z +ℤ ((attacker g l).prior *ℤ take_of g k l)) ∷ []) f)

-- ---- the value

module _ (g : Game) (k : List Ticket) where
  abbrev pub sums : List ℤ
  sums = worth_from g k (pos 0) 1 (length g.types)

  abbrev d : ℤ
  d = weight_total k *ℤ prior_total g

  pub value-forms : (w n : ℤ) (num den : Option ℤ) (q : Option Quotient) → w ≡ weight_total k → n ≡ prior_total g
      → Forms num sums (worth g k)
      → MatchOption den (Fits (w *ℤ n) → ⊥) (λ v. Fits (w *ℤ n) × (v ≡ w *ℤ n))
      → q ≡ paired num den
      → MatchOption q (All Fits (value_sums g k) → ⊥) (λ v. All Fits (value_sums g k) × IsWorthOf g k v)
  value-forms w n (Some a) (Some b) q ew en x y e =
      let den_is : w *ℤ n ≡ d = (λ i. ew i *ℤ en i) in
      subst (λ (o : Option Quotient). MatchOption o (All Fits (value_sums g k) → ⊥) (λ v. All Fits (value_sums g k) × IsWorthOf g k v)) (sym e)
      (All-append Fits sums (d ∷ []) x.0 (All-cons Fits d [] (subst Fits den_is y.0) (All-nil Fits)), record { num = x.1; den = y.1 ∙ den_is })
  value-forms w n None den q ew en x y e =
      subst (λ (o : Option Quotient). MatchOption o (All Fits (value_sums g k) → ⊥) (λ v. All Fits (value_sums g k) × IsWorthOf g k v)) (sym e)
      (λ all. x (All-front Fits sums (d ∷ []) all))
  value-forms w n (Some a) None q ew en x y e =
      let den_is : w *ℤ n ≡ d = (λ i. ew i *ℤ en i) in
      subst (λ (o : Option Quotient). MatchOption o (All Fits (value_sums g k) → ⊥) (λ v. All Fits (value_sums g k) × IsWorthOf g k v)) (sym e)
      (λ all. y (subst Fits (sym den_is) (All-head Fits d [] (All-back Fits sums (d ∷ []) all))))

-- ---- the tickets of a report

pub legal-from : (g : Game) (r : Report) (line : ℕ) (k : List Ticket) → AllPass g r (ticket_stops line k) → AreLegal g k
legal-from g r line [] h = All-nil (λ (x : Ticket). IsLegal g x.play.code)
legal-from g r line (x ∷ xs) h = All-cons (λ (x : Ticket). IsLegal g x.play.code) x xs h.0 (legal-from g r (line + 1) xs h.1)

pub den-positive : (g : Game) (k : List Ticket) → IsGame g → is_claim k ≡ true → AreLegal g k → pos 1 ≤ℤ (weight_total k *ℤ prior_total g)
den-positive g k game rules legal =
    let c = claim_commits g k rules legal in
    let w = weight_total-positive k c.some c.positive in
    let p = prior_total-positive g (peopled g game) in
    let m = mul-pos (weight_total k) (prior_total g) (omega (arith, ints, w)) (omega (arith, ints, p)) in
    omega (arith, ints, m)

-- the stated value, by the crosswise products
pub crossed : (g : Game) (k : List Ticket) (q : Quotient) (num den : ℤ) → IsWorthOf g k q → IsValue g k num den → q.num *ℤ den ≡ num *ℤ q.den
crossed g k q num den w h =
    ap (λ (z : ℤ). z *ℤ den) w.num ∙ (h.same ∙ (same_by (times (times (v num) (v (weight_total k))) (v (prior_total g))) (times (v num) (times (v (weight_total k)) (v (prior_total g)))) (omega arith) ∙ ap (λ (z : ℤ). num *ℤ z) (sym w.den)))

pub value-is : (g : Game) (k : List Ticket) (q : Quotient) (num den : ℤ) → IsWorthOf g k q → pos 1 ≤ℤ den → q.num *ℤ den ≡ num *ℤ q.den → IsValue g k num den
value-is g k q num den w low e = record {
  positive = low;
  same = ap (λ (z : ℤ). z *ℤ den) (sym w.num) ∙ (e ∙ (ap (λ (z : ℤ). num *ℤ z) w.den ∙ same_by (times (v num) (times (v (weight_total k)) (v (prior_total g)))) (times (times (v num) (v (weight_total k))) (v (prior_total g))) (omega arith)));
}

-- ---- the stated value

-- a reduced fraction is the reduced form where the crosswise products are equal
pub same-form : (num den : ℤ) (f stated : Fraction) → pos 1 ≤ℤ den → IsReducedForm num den f → IsReduced stated → num *ℤ stated.den ≡ stated.num *ℤ den → f ≡ stated
same-form num den f stated low h r e = reduced_form-unique num den f stated (λ z. omega (arith, ints, z, low)) h (record { reduced = r; equal = sym e })

pub form-same : (num den : ℤ) (f stated : Fraction) → IsReducedForm num den f → f ≡ stated → num *ℤ stated.den ≡ stated.num *ℤ den
form-same num den f stated h e = subst (λ (s : Fraction). num *ℤ s.den ≡ s.num *ℤ den) e (sym h.equal)
