-- The plays of matchings: what they cover.
use Rattle.std.proofs.Common.{◌≡◌, ◌∙◌, ◌≢◌, ◌⊎◌, ℕ, zero, suc, ◌+◌, ◌-◌, ◌<◌, ◌≤◌, Bool, true, false, cond, eqb, List, [], ◌∷◌, ◌++◌, length, get_or, ap, subst, sym, refl, arith, inl, inr}
use Rattle.std.specs.Prelude.{ℤ, pos, ◌+ℤ◌, ◌≤ℤ◌, All, MatchBool}
use Rattle.std.specs.List.{Contains, list_any}
use Rattle.std.proofs.lemmas.Int.{ints}
use Rattle.std.proofs.lemmas.List.Elements.{All-cons, All-head, All-nil, All-tail}
use Rattle.std.proofs.lemmas.Bool.{cases_Bool, cases_eq, cases_lt, cond-true, cond-false, eq-eqb, eqb-true, ne_eqb, true≢false}
use Rattle.sg_model.specs.declared.ticket.Ticket.{Ticket}
use Rattle.sg_model.specs.Sums.{total, nth}
use Rattle.sg_model.specs.Games.{Game, resource_count, resource_schedules, schedule_targets, is_matrix}
use Rattle.sg_model.specs.Limits.{IsGame}
use Rattle.sg_model.specs.PlayLaws.{IsHeld}
use Rattle.sg_model.specs.Plays.{IsLegal, IsLegalJoint, IsRow, covers}
use Rattle.sg_model.specs.Commitments.{cover_count, weight_total}
use Rattle.sg_model.proofs.Held.{any-contains, contains-any, covers-held, held}
use Rattle.sg_game.specs.Counting.{IsSingle}
use Rattle.sg_bounds.specs.Coverage.{choice_holds}
use Rattle.sg_matchings.specs.declared.part.Part.{Part}
use Rattle.sg_linear.specs.Sums.{sum_below}
use Rattle.sg_matchings.specs.Tables.{cell}
use Rattle.sg_matchings.specs.Decompositions.{IsMatching, cell_weight}
use Rattle.sg_matchings.proofs.Places.{sum_below-add, sum_below-once, sum_below-same, sum_below-zero}
use Rattle.sg_matchings.proofs.PadSteps.{each-pushed, length-pushed}
use Rattle.sg_split.specs.ByTarget.{none, more, AreServed, AreTicketsFor, HasChoiceTo, IsChoiceFor, IsChoiceTo, IsPlayFor, IsTargetOf, IsTicketFor}
use Rattle.sg_split.proofs.Singles.{holds_is, idle, target_of_choice}

-- ---- one play

module _ (g : Game) (game : IsGame g) (single : IsSingle g) (columns code : List ℕ) (is : IsPlayFor g columns code) where
  -- a resource at a target has the target's column
  at_column : (i t : ℕ) → i < resource_count g → choice_holds g (suc i) (get_or code i 0) (suc t) ≡ true → get_or columns i 0 ≡ t
  at_column i t li holds =
      let p : i + 1 ≡ suc i = omega arith in
      let for : IsChoiceFor g (suc i) (get_or columns i 0) (get_or code i 0) = subst (λ (r : ℕ). IsChoiceFor g r (get_or columns i 0) (get_or code i 0)) p (is.each i li) in
      elim (cases_lt (get_or columns i 0) (length g.goals)) [
        | inl inside ↦ (
            let to = for.inside inside in
            let target = target_of_choice g game single (suc i) (get_or code i 0) (omega arith) (omega (arith, li)) to.from_one to.in_list in
            let x : ℕ = target.0 in
            let a : x ≡ suc t = eqb-true x (suc t) (sym (holds_is g (suc i) (get_or code i 0) x target.1 (suc t)) ∙ holds) in
            let b : x ≡ get_or columns i 0 + 1 = eqb-true x (get_or columns i 0 + 1) (sym (holds_is g (suc i) (get_or code i 0) x target.1 (get_or columns i 0 + 1)) ∙ to.holds) in
            omega (arith, a, b))
        | inr outside ↦ (
            let idles : choice_holds g (suc i) (get_or code i 0) (suc t) ≡ false = ap (λ (j : ℕ). choice_holds g (suc i) j (suc t)) (for.outside outside) ∙ idle g (suc t) in
            absurd (true≢false (sym holds ∙ idles)))
      ]

  -- and a column that is a target has its resource there
  column_at : (i t : ℕ) → i < resource_count g → t < length g.goals → get_or columns i 0 ≡ t → choice_holds g (suc i) (get_or code i 0) (suc t) ≡ true
  column_at i t li lt e =
      let p : i + 1 ≡ suc i = omega arith in
      let for : IsChoiceFor g (suc i) (get_or columns i 0) (get_or code i 0) = subst (λ (r : ℕ). IsChoiceFor g r (get_or columns i 0) (get_or code i 0)) p (is.each i li) in
      let to = for.inside (omega (arith, e, lt)) in
      let q : get_or columns i 0 + 1 ≡ suc t = omega (arith, e) in
      subst (λ (x : ℕ). choice_holds g (suc i) (get_or code i 0) x ≡ true) q to.holds

  covered_at : (t : ℕ) → covers g code (suc t) ≡ true → (i : ℕ) × ((i < resource_count g) × (get_or columns i 0 ≡ t))
  covered_at t e = from_held (held g code (suc t) e)
    where
      from_held : IsHeld g code (suc t) → (i : ℕ) × ((i < resource_count g) × (get_or columns i 0 ≡ t))
      from_held (zero, low, high, holds) = absurd (omega (arith, low))
      from_held (suc i, low, high, holds) =
          let li : i < resource_count g = omega (arith, high, is.one_each) in
          (i, (li, at_column i t li (any-contains (schedule_targets g (nth (resource_schedules g (suc i)) (get_or code i 0) 0)) (suc t) holds)))

  at_covers : (i t : ℕ) → i < resource_count g → t < length g.goals → get_or columns i 0 ≡ t → covers g code (suc t) ≡ true
  at_covers i t li lt e =
      covers-held g code (suc t) (suc i, omega arith, omega (arith, li, is.one_each), contains-any (schedule_targets g (nth (resource_schedules g (suc i)) (get_or code i 0) 0)) (suc t) (column_at i t li lt e))

  -- what a play covers, by resource
  pub cover_sum : (t : ℕ) (w : ℤ) → t < length g.goals → ((i k : ℕ) → i < k → k < resource_count g → get_or columns i 0 < length g.goals → get_or columns i 0 ≢ get_or columns k 0)
      → cond (covers g code (suc t)) w (pos 0) ≡ sum_below (resource_count g) (λ i. cond (eqb (get_or columns i 0) t) w (pos 0))
  cover_sum t w lt apart = elim (cases_Bool (covers g code (suc t))) [
    | inl holds ↦ (
        let some = covered_at t holds in
        let k : ℕ = some.0 in
        let at : get_or columns k 0 ≡ t = some.1.1 in
        let alone : (i : ℕ) → i < resource_count g → get_or columns i 0 ≡ t → k ≡ i = λ i li e. elim (cases_eq k i) [
          | inl q ↦ q
          | inr ne ↦ elim (cases_lt k i) [
            | inl before ↦ absurd (apart k i before li (omega (arith, at, lt)) (at ∙ sym e))
            | inr after ↦ absurd (apart i k (omega (arith, after, ne)) some.1.0 (omega (arith, e, lt)) (e ∙ sym at))
          ]
        ] in
        let same = sum_below-same (resource_count g) (λ i. cond (eqb (get_or columns i 0) t) w (pos 0)) (λ i. cond (eqb k i) w (pos 0)) (λ i li. elim (cases_eq k i) [
          | inl q ↦ (let here : get_or columns i 0 ≡ t = subst (λ (x : ℕ). get_or columns x 0 ≡ t) q at in
              cond-true (eqb (get_or columns i 0) t) w (pos 0) (eq-eqb (get_or columns i 0) t here) ∙ sym (cond-true (eqb k i) w (pos 0) (eq-eqb k i q)))
          | inr ne ↦ cond-false (eqb (get_or columns i 0) t) w (pos 0) (ne_eqb (get_or columns i 0) t (λ e. ne (alone i li e))) ∙ sym (cond-false (eqb k i) w (pos 0) (ne_eqb k i ne))
        ]) in
        omega (arith, ints, cond-true (covers g code (suc t)) w (pos 0) holds, same, sum_below-once (resource_count g) k w some.1.0))
    | inr hidden ↦ omega (
      arith,
      ints,
      cond-false (covers g code (suc t)) w (pos 0) hidden,
      sum_below-zero (resource_count g) (λ i. cond (eqb (get_or columns i 0) t) w (pos 0)) (λ i li. cond-false (eqb (get_or columns i 0) t) w (pos 0) (ne_eqb (get_or columns i 0) t (λ e. true≢false (sym (at_covers i t li lt e) ∙ hidden)))),
    )
  ]

  pub play_legal : IsLegal g code
  play_legal =
      let joint : IsLegalJoint g code = record {
        one_each = is.one_each;
        in_list = λ k lt.
            let lk : k < resource_count g = omega (arith, lt, is.one_each) in
            let for = is.each k lk in
            elim (cases_lt (get_or columns k 0) (length g.goals)) [
              | inl inside ↦ (for.inside inside).in_list
              | inr outside ↦ omega (arith, for.outside outside)
            ];
      } in
      subst (λ (b : Bool). MatchBool b (IsRow g code) (IsLegalJoint g code)) (sym single.security) joint

-- ---- all tickets

total-below : {X : Type 0} (n : ℕ) (f : ℕ → X → ℤ) (xs : List X) → total (λ x. sum_below n (λ i. f i x)) xs ≡ sum_below n (λ i. total (f i) xs)
total-below n f [] = sym (sum_below-zero n (λ i. pos 0) (λ i l. refl))
total-below n f (x ∷ xs) = ap (λ (z : ℤ). sum_below n (λ i. f i x) +ℤ z) (total-below n f xs) ∙ sym (sum_below-add n (λ i. f i x) (λ i. total (f i) xs))

module _ (g : Game) (game : IsGame g) (single : IsSingle g) (rows : List (List ℤ)) (long : length rows ≡ resource_count g) where
  -- matchings of resources and targets
  abbrev Fits : Part → Type 0
  Fits part = IsMatching rows (length g.goals) part.columns

  pub tickets_weigh : (parts : List Part) (xs : List Ticket) → AreTicketsFor g parts xs → weight_total xs ≡ total (λ (part : Part). part.weight) parts
  tickets_weigh [] [] none = refl
  tickets_weigh [] (x ∷ xs) e = elim e [ ]
  tickets_weigh (part ∷ parts) [] e = elim e [ ]
  tickets_weigh (part ∷ parts) (x ∷ xs) (more _ _ _ _ is rest) = omega (arith, ints, is.weight, tickets_weigh parts xs rest)

  pub tickets_positive : (parts : List Part) (xs : List Ticket) → AreTicketsFor g parts xs → All (λ (part : Part). pos 1 ≤ℤ part.weight) parts → All (λ (x : Ticket). pos 1 ≤ℤ x.weight) xs
  tickets_positive [] [] none h = All-nil (λ (x : Ticket). pos 1 ≤ℤ x.weight)
  tickets_positive [] (x ∷ xs) e h = elim e [ ]
  tickets_positive (part ∷ parts) [] e h = elim e [ ]
  tickets_positive (part ∷ parts) (x ∷ xs) (more _ _ _ _ is rest) h =
      All-cons (λ (x : Ticket). pos 1 ≤ℤ x.weight) x xs (omega (arith, ints, is.weight, All-head (λ (p : Part). pos 1 ≤ℤ p.weight) part parts h))
      (tickets_positive parts xs rest (All-tail (λ (p : Part). pos 1 ≤ℤ p.weight) part parts h))

  pub tickets_legal : (parts : List Part) (xs : List Ticket) → AreTicketsFor g parts xs → All (λ (x : Ticket). IsLegal g x.play.code) xs
  tickets_legal [] [] none = All-nil (λ (x : Ticket). IsLegal g x.play.code)
  tickets_legal [] (x ∷ xs) e = elim e [ ]
  tickets_legal (part ∷ parts) [] e = elim e [ ]
  tickets_legal (part ∷ parts) (x ∷ xs) (more _ _ _ _ is rest) =
      All-cons (λ (x : Ticket). IsLegal g x.play.code) x xs (play_legal g game single part.columns x.play.code is.play) (tickets_legal parts xs rest)

  pub tickets_many : (parts : List Part) (xs : List Ticket) → AreTicketsFor g parts xs → length xs ≡ length parts
  tickets_many [] [] none = refl
  tickets_many [] (x ∷ xs) e = elim e [ ]
  tickets_many (part ∷ parts) [] e = elim e [ ]
  tickets_many (part ∷ parts) (x ∷ xs) (more _ _ _ _ is rest) = omega (arith, tickets_many parts xs rest)

  by_part : (t : ℕ) → t < length g.goals → (parts : List Part) (xs : List Ticket) → AreTicketsFor g parts xs → All Fits parts
      → cover_count g xs (suc t) ≡ total (λ (part : Part). sum_below (resource_count g) (λ i. cell_weight i t part)) parts
  by_part t lt [] [] none h = refl
  by_part t lt [] (x ∷ xs) e h = elim e [ ]
  by_part t lt (part ∷ parts) [] e h = elim e [ ]
  by_part t lt (part ∷ parts) (x ∷ xs) (more _ _ _ _ is rest) h =
      let fits = All-head Fits part parts h in
      let apart = λ (i k : ℕ) (before : i < k) (lk : k < resource_count g) (low : get_or part.columns i 0 < length g.goals). fits.different i k before (omega (arith, lk, long)) low in
      let one = cover_sum g game single part.columns x.play.code is.play t x.weight lt apart in
      let same : sum_below (resource_count g) (λ i. cond (eqb (get_or part.columns i 0) t) x.weight (pos 0)) ≡ sum_below (resource_count g) (λ i. cell_weight i t part) =
      ap (λ (w : ℤ). sum_below (resource_count g) (λ i. cond (eqb (get_or part.columns i 0) t) w (pos 0))) is.weight in
      omega (arith, ints, one, same, by_part t lt parts xs rest (All-tail Fits part parts h))

  pub tickets_cover : (t : ℕ) → t < length g.goals → (parts : List Part) (xs : List Ticket) → AreTicketsFor g parts xs → All Fits parts
      → cover_count g xs (suc t) ≡ sum_below (resource_count g) (λ i. total (cell_weight i t) parts)
  tickets_cover t lt parts xs are h = by_part t lt parts xs are h ∙ total-below (resource_count g) (λ i part. cell_weight i t part) parts

pub tickets-pushed : (g : Game) (parts : List Part) (xs : List Ticket) (part : Part) (x : Ticket) → AreTicketsFor g parts xs → IsTicketFor g part x → AreTicketsFor g (parts ++ part ∷ []) (xs ++ x ∷ [])
tickets-pushed g [] [] part x none is = more part [] x [] is none
tickets-pushed g [] (y ∷ ys) part x e is = elim e [ ]
tickets-pushed g (p ∷ ps) [] part x e is = elim e [ ]
tickets-pushed g (p ∷ ps) (y ∷ ys) part x (more _ _ _ _ one rest) is = more p (ps ++ part ∷ []) y (ys ++ x ∷ []) one (tickets-pushed g ps ys part x rest is)

-- ---- choice by choice

-- none of the first choices holds the target
abbrev pub HoldNot : Game → ℕ → ℕ → ℕ → Type 0
HoldNot g r t k = (j : ℕ) → j < k → choice_holds g r (suc j) t ≡ false

pub hold_not-more : (g : Game) (r t k x : ℕ) → HoldNot g r t k → IsTargetOf g r (k + 1) x → x ≢ t → HoldNot g r t (k + 1)
hold_not-more g r t k x before is ne j lt = elim (cases_eq j k) [
  | inl e ↦ (let p : k + 1 ≡ suc j = omega (arith, e) in subst (λ (i : ℕ). choice_holds g r i t ≡ false) p (holds_is g r (k + 1) x is t ∙ ne_eqb x t ne))
  | inr other ↦ before j (omega (arith, lt, other))
]

pub holds_here : (g : Game) (r t k x : ℕ) → IsTargetOf g r (k + 1) x → x ≡ t → choice_holds g r (k + 1) t ≡ true
holds_here g r t k x is e = holds_is g r (k + 1) x is t ∙ eq-eqb x t e

pub never_none : (g : Game) (r t k : ℕ) → HasChoiceTo g r t → HoldNot g r t k → k ≡ length (resource_schedules g r) → ⊥
never_none g r t k some not_yet e = at some.0 some.1
  where
    at : (j : ℕ) → IsChoiceTo g r t j → ⊥
    at zero is = absurd (omega (arith, is.from_one))
    at (suc j) is = true≢false (sym is.holds ∙ not_yet j (omega (arith, is.in_list, e)))

-- ---- resource by resource

pub record IsPlayUpTo (g : Game) (columns code : List ℕ) (k : ℕ) : Type 0 where
  pub long : length code ≡ k
  pub each : (i : ℕ) → i < length code → IsChoiceFor g (i + 1) (get_or columns i 0) (get_or code i 0)

pub play-none : (g : Game) (columns : List ℕ) → IsPlayUpTo g columns [] 0
play-none g columns = record { long = refl; each = λ i lt. absurd (omega (arith, lt)) }

pub play-more : (g : Game) (columns code code' : List ℕ) (k c : ℕ) → IsPlayUpTo g columns code k → IsChoiceFor g (k + 1) (get_or columns k 0) c → code' ≡ code ++ c ∷ [] → IsPlayUpTo g columns code' (k + 1)
play-more g columns code code' k c are is e = rw e (record {
  long = length-pushed code c ∙ ap (λ (x : ℕ). x + 1) are.long;
  each = each-pushed 0 (λ i z. IsChoiceFor g (i + 1) (get_or columns i 0) z) code c are.each (subst (λ (x : ℕ). IsChoiceFor g (x + 1) (get_or columns x 0) c) (sym are.long) is);
})

pub play-all : (g : Game) (columns code : List ℕ) (k : ℕ) → k ≡ resource_count g → IsPlayUpTo g columns code k → IsPlayFor g columns code
play-all g columns code k e are = record { one_each = are.long ∙ e; each = λ i lt. are.each i (omega (arith, lt, are.long, e)) }
