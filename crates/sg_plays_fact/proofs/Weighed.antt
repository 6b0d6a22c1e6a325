-- The weights of targets, within the size sum of a fact.
use Rattle.std.proofs.Common.{◌≡◌, ◌≢◌, ◌∙◌, ℕ, ◌+◌, ◌<◌, ◌≤◌, Bool, true, false, cond, List, [], ◌∷◌, length, map, take, get_or, ℤ, pos, ◌+ℤ◌, ◌-ℤ◌, ◌*ℤ◌, ◌≤ℤ◌, eqb, ap, subst, refl, arith, inl, inr, slice_index}
use Rattle.std.specs.List.{All, Contains}
use Rattle.std.proofs.lemmas.Bool.{cases_eq}
use Rattle.std.proofs.lemmas.Bool.Decides.{nat_tests}
use Rattle.std.proofs.lemmas.Int.{ints}
use Rattle.std.proofs.lemmas.List.Elements.{All-head, All-tail, All-take}
use Rattle.sg_model.specs.Games.{Game, action_count, attacker, is_matrix, payoff}
use Rattle.sg_model.specs.Limits.{IsGame}
use Rattle.sg_model.specs.Payoffs.{shift_of}
use Rattle.sg_model.specs.Sums.{total}
use Rattle.sg_model.proofs.Ints.{v, n, plus, less, times, same_by, product_nonneg}
use Rattle.sg_model.proofs.Promises.{peopled}
use Rattle.sg_model.proofs.Sums.{total-nonneg}
use Rattle.sg_num.specs.Exact.{Fits, IsAtMost}
use Rattle.sg_tree.specs.declared.fact.Mark.{Mark}
use Rattle.sg_tree.specs.declared.fix.Fix.{Fix}
use Rattle.sg_bounds.specs.Coverage.{column_cost, covering, where_same}
use Rattle.sg_bounds.specs.Facts.{IsMarkOf}
use Rattle.sg_bounds.specs.Regions.{IsFix, act_of, fixed}
use Rattle.sg_bounds.specs.Sizes.{attacker_most, attacker_payoffs_of, defender_most, fixed_priors}
use Rattle.sg_bounds.proofs.Cover.{fixed_pairs}
use Rattle.sg_bounds.proofs.Small.{add-times, at_most-add, at_most-more, scaled-small}
use Rattle.sg_bounds.proofs.Spans.{covered-listed, defender-between, difference-small, guarded-listed, of-type, one-at-most, open-listed, uncovered-listed}
use Rattle.sg_plays_fact.specs.declared.stated.Stated.{Stated}
use Rattle.sg_plays_fact.specs.Testing.{IsSizedFact}
use Rattle.sg_plays_fact.specs.Weighing.{mark_entry}
use Rattle.sg_plays_fact.proofs.Adding.{prior_at, total-next}
use Rattle.sg_plays_fact.proofs.Coverings.{is-security}
use Rattle.sg_plays_fact.proofs.Fixes.{act_of-known, fixed-all, fixed-at, fixed-count}
use Rattle.sg_plays_fact.proofs.Formed.{has-size}
use Rattle.sg_plays_fact.proofs.Regrets.{multiplier, take-le, total-more}
use Rattle.sg_plays_fact.proofs.Running.{total-map}
use Rattle.sg_plays_fact.proofs.Within.{top, top_from_Fits}

-- ---- sums of products

pub sums-small : {X : Type 0} (b f : X → ℤ) (xs : List X) → All (λ x. IsAtMost (b x) (f x)) xs → IsAtMost (total b xs) (total f xs)
sums-small b f [] h = (omega (arith, ints), omega (arith, ints))
sums-small {X} b f (x ∷ xs) h =
    let P : X → Type 0 = λ x. IsAtMost (b x) (f x) in
    at_most-add (b x) (total b xs) (f x) (total f xs) (All-head P x xs h) (sums-small b f xs (All-tail P x xs h))

pub total-times : {X : Type 0} (w : X → ℤ) (m : ℤ) (xs : List X) → total (λ x. w x *ℤ m) xs ≡ total w xs *ℤ m
total-times w m [] = same_by (n 0) (times (n 0) (v m)) (omega arith)
total-times w m (x ∷ xs) = ap (λ (z : ℤ). (w x *ℤ m) +ℤ z) (total-times w m xs) ∙ add-times (w x) (total w xs) m

take-away : (b c y z : ℤ) → IsAtMost b y → IsAtMost c z → IsAtMost (b +ℤ c) (y -ℤ z)
take-away b c y z h k = let p = h.0 in let q = h.1 in let r = k.0 in let s = k.1 in (omega (arith, ints, p, s), omega (arith, ints, q, r))

none-small : (m : ℤ) → pos 0 ≤ℤ m → IsAtMost m (pos 0)
none-small m h = (omega (arith, ints, h), omega (arith, ints, h))

same-small : (m z : ℤ) (a t : ℕ) → pos 0 ≤ℤ m → IsAtMost m z → IsAtMost m (where_same a t z)
same-small m z a t low h = elim (eqb a t) as (λ b. IsAtMost m (cond b z (pos 0))) [ true ↦ h | false ↦ none-small m low ]

-- two numbers of which at most one counts
one-of-two : (m : ℤ) (b s t : ℕ) (x y : ℤ) → pos 0 ≤ℤ m → b ≢ s → IsAtMost m x → IsAtMost m y → IsAtMost m (where_same b t x +ℤ where_same s t y)
one-of-two m b s t x y low apart h k =
    elim (cases_eq b t) [
      | inl e ↦ (
          let other : eqb s t ≡ false = grind (arith, nat_tests, apart, e) in
          let right : where_same s t y ≡ pos 0 = rw other refl in
          let here = same-small m x b t low h in
          let p = here.0 in let q = here.1 in (omega (arith, ints, right, p), omega (arith, ints, right, q)))
      | inr ne ↦ (
          let other : eqb b t ≡ false = grind (arith, nat_tests, ne) in
          let left : where_same b t x ≡ pos 0 = rw other refl in
          let here = same-small m y s t low k in
          let p = here.0 in let q = here.1 in (omega (arith, ints, left, p), omega (arith, ints, left, q)))
    ]

-- ---- the parts of a fact

-- what covering its action is worth against a fixed type
abbrev pub worth_gap : Game → ℕ × ℕ → ℤ
worth_gap g p = (attacker g p.0).prior *ℤ ((payoff g p.0 p.1).dc -ℤ (payoff g p.0 p.1).du)

-- what a fixed type is worth where these targets are covered, and what a marked action gains
abbrev pub worth_where : Game → (ℕ → Bool) → ℕ × ℕ → ℤ
worth_where g cov p = (attacker g p.0).prior *ℤ (cond (cov p.1) (payoff g p.0 p.1).dc (payoff g p.0 p.1).du +ℤ shift_of g)

abbrev pub gain_where : Game → Fix → (ℕ → Bool) → Mark → ℤ
gain_where g fix cov m =
    m.v *ℤ (cond (cov m.a) (payoff g m.l m.a).ac (payoff g m.l m.a).au -ℤ cond (cov (act_of fix m.l)) (payoff g m.l (act_of fix m.l)).ac (payoff g m.l (act_of fix m.l)).au)

-- the sum of a fact where these targets are covered
abbrev pub sum_where : Game → Fix → ℤ → List Mark → (ℕ → Bool) → ℤ
sum_where g fix rho marks cov = (rho *ℤ total (worth_where g cov) (fixed fix)) -ℤ total (gain_where g fix cov) marks

-- a fixed type with its action
pub record IsFixed (g : Game) (p : ℕ × ℕ) : Type 0 where
  pub type_low : 1 ≤ p.0
  pub type_high : p.0 ≤ length g.types
  pub act_low : 1 ≤ p.1
  pub act_high : p.1 ≤ action_count g p.0

module _ (g : Game) (game : IsGame g) (matrix : is_matrix g ≡ false) (fix : Fix) (is_fix : IsFix g fix) where
  pub all-fixed : All (IsFixed g) (fixed fix)
  all-fixed = λ i d lt.
      let pair = fixed_pairs fix i d lt in
      let act = is_fix.acts i d lt in
      let a = is_fix.from_one in let b = is_fix.in_range in
      record { type_low = omega (arith, pair.low, a); type_high = omega (arith, pair.high, b); act_low = act.0; act_high = act.1 }

  prior-low : (p : ℕ × ℕ) → IsFixed g p → pos 0 ≤ℤ prior_at g p
  prior-low p is = let q = (peopled g game).priors p.0 is.type_low is.type_high in omega (arith, ints, q)

  module _ (p : ℕ × ℕ) (is : IsFixed g p) where
    covered-between : (pos 1 ≤ℤ ((payoff g p.0 p.1).dc +ℤ shift_of g)) × (((payoff g p.0 p.1).dc +ℤ shift_of g) ≤ℤ defender_most g)
    covered-between = defender-between g p.0 p.1 is.type_low is.type_high is.act_low is.act_high (payoff g p.0 p.1).dc (guarded-listed g (is-security g matrix) p.0 p.1)

    open-between : (pos 1 ≤ℤ ((payoff g p.0 p.1).du +ℤ shift_of g)) × (((payoff g p.0 p.1).du +ℤ shift_of g) ≤ℤ defender_most g)
    open-between = defender-between g p.0 p.1 is.type_low is.type_high is.act_low is.act_high (payoff g p.0 p.1).du (open-listed g (is-security g matrix) p.0 p.1)

    gap-small : IsAtMost (prior_at g p *ℤ defender_most g) (worth_gap g p)
    gap-small =
        let a = covered-between in let b = open-between in
        scaled-small (prior_at g p) (defender_most g) ((payoff g p.0 p.1).dc -ℤ (payoff g p.0 p.1).du) (prior-low p is) (omega (arith, ints, a.0, a.1, b.0, b.1), omega (arith, ints, a.0, a.1, b.0, b.1))

    share-nonneg : pos 0 ≤ℤ (prior_at g p *ℤ defender_most g)
    share-nonneg = let h = gap-small in let x = h.0 in let y = h.1 in omega (arith, ints, x, y)

    -- covered or not
    pub worth-small : (b : Bool) → IsAtMost (prior_at g p *ℤ defender_most g) (prior_at g p *ℤ (cond b (payoff g p.0 p.1).dc (payoff g p.0 p.1).du +ℤ shift_of g))
    worth-small true = let a = covered-between in scaled-small (prior_at g p) (defender_most g) ((payoff g p.0 p.1).dc +ℤ shift_of g) (prior-low p is) (omega (arith, ints, a.0, a.1), a.1)
    worth-small false = let b = open-between in scaled-small (prior_at g p) (defender_most g) ((payoff g p.0 p.1).du +ℤ shift_of g) (prior-low p is) (omega (arith, ints, b.0, b.1), b.1)

  -- the most of each share of the priors
  abbrev share : ℕ × ℕ → ℤ
  share p = prior_at g p *ℤ defender_most g

  shares-nonneg : All (λ (p : ℕ × ℕ). pos 0 ≤ℤ share p) (fixed fix)
  shares-nonneg = λ i d lt. share-nonneg _ (all-fixed i d lt)

  shares-all : total share (fixed fix) ≡ fixed_priors g fix *ℤ defender_most g
  shares-all = total-times (prior_at g) (defender_most g) (fixed fix)

  shares-to : (i : ℕ) → total share (take i (fixed fix)) ≤ℤ (fixed_priors g fix *ℤ defender_most g)
  shares-to i = let le = take-le share (fixed fix) shares-nonneg i in omega (arith, ints, le, shares-all)

  -- sums of what is covered or gained, over the first i fixed types
  gaps-small : (i t : ℕ) → IsAtMost (fixed_priors g fix *ℤ defender_most g) (total (λ (p : ℕ × ℕ). where_same p.1 t (worth_gap g p)) (take i (fixed fix)))
  gaps-small i t =
      at_most-more (total share (take i (fixed fix))) (fixed_priors g fix *ℤ defender_most g) (total (λ (p : ℕ × ℕ). where_same p.1 t (worth_gap g p)) (take i (fixed fix))) (shares-to i)
      (sums-small share (λ (p : ℕ × ℕ). where_same p.1 t (worth_gap g p)) (take i (fixed fix))
      (All-take (λ (p : ℕ × ℕ). IsAtMost (share p) (where_same p.1 t (worth_gap g p))) i (fixed fix)
      (λ j d lt. let is = all-fixed j d lt in same-small _ _ _ t (share-nonneg _ is) (gap-small _ is))))

  pub worths-small : (cov : ℕ → Bool) → IsAtMost (fixed_priors g fix *ℤ defender_most g) (total (worth_where g cov) (fixed fix))
  worths-small cov =
      subst (λ (c : ℤ). IsAtMost c (total (worth_where g cov) (fixed fix))) shares-all
      (sums-small share (worth_where g cov) (fixed fix) (λ j d lt. worth-small _ (all-fixed j d lt) (cov _)))

  one-small : (i : ℕ) → i < length fix.acts → IsAtMost (fixed_priors g fix *ℤ defender_most g) (worth_gap g (fix.first + i, slice_index fix.acts i))
  one-small i lt =
      let p : ℕ × ℕ = (fix.first + i, slice_index fix.acts i) in
      let is : IsFixed g p = subst (IsFixed g) (fixed-at fix i (0, 0) lt) (all-fixed i (0, 0) (omega (arith, lt, fixed-count fix))) in
      let nonneg = total-nonneg share (take i (fixed fix)) (All-take (λ (p : ℕ × ℕ). pos 0 ≤ℤ share p) i (fixed fix) shares-nonneg) in
      let more = total-next share fix i lt in
      let all = shares-to (i + 1) in
      at_most-more (share p) (fixed_priors g fix *ℤ defender_most g) (worth_gap g p) (omega (arith, ints, nonneg, more, all)) (gap-small p is)

  module _ (rho : ℤ) (positive : pos 1 ≤ℤ rho) where
    turn : rho *ℤ (fixed_priors g fix *ℤ defender_most g) ≡ (rho *ℤ fixed_priors g fix) *ℤ defender_most g
    turn = same_by (times (v rho) (times (v (fixed_priors g fix)) (v (defender_most g)))) (times (times (v rho) (v (fixed_priors g fix))) (v (defender_most g))) (omega arith)

    pub rho-small : (z : ℤ) → IsAtMost (fixed_priors g fix *ℤ defender_most g) z → IsAtMost ((rho *ℤ fixed_priors g fix) *ℤ defender_most g) (rho *ℤ z)
    rho-small z h = subst (λ (c : ℤ). IsAtMost c (rho *ℤ z)) turn (scaled-small rho (fixed_priors g fix *ℤ defender_most g) z (omega (arith, ints, positive)) h)

    module _ (fits : Fits ((rho *ℤ fixed_priors g fix) *ℤ defender_most g)) where
      rho-top : (z : ℤ) → IsAtMost (fixed_priors g fix *ℤ defender_most g) z → IsAtMost top (rho *ℤ z)
      rho-top z h = at_most-more ((rho *ℤ fixed_priors g fix) *ℤ defender_most g) top (rho *ℤ z) (top_from_Fits _ fits) (rho-small z h)

      pub gaps-top : (i t : ℕ) → IsAtMost top (rho *ℤ total (λ (p : ℕ × ℕ). where_same p.1 t (worth_gap g p)) (take i (fixed fix)))
      gaps-top i t = rho-top _ (gaps-small i t)

      pub one-top : (i : ℕ) → i < length fix.acts → IsAtMost top (rho *ℤ worth_gap g (fix.first + i, slice_index fix.acts i))
      one-top i lt = rho-top _ (one-small i lt)

  -- covering a target, over all fixed types
  pub column-small : (t : ℕ) → IsAtMost (fixed_priors g fix *ℤ defender_most g) (column_cost g fix (covering t))
  column-small t = subst (λ (ps : List (ℕ × ℕ)). IsAtMost (fixed_priors g fix *ℤ defender_most g) (total (λ (p : ℕ × ℕ). where_same p.1 t (worth_gap g p)) ps)) (fixed-all fix (length fix.acts) refl) (gaps-small (length fix.acts) t)

  -- ---- marks

  module _ (m : Mark) (is : IsMarkOf g fix m) where
    pub mark-type : (1 ≤ m.l) × (m.l ≤ length g.types)
    mark-type = let a = is_fix.from_one in let b = is_fix.in_range in (omega (arith, is.from_first, a), omega (arith, is.in_range, b))

    act-known : (1 ≤ act_of fix m.l) × (act_of fix m.l ≤ action_count g m.l)
    act-known = act_of-known g fix is_fix m.l is.from_first is.in_range

    most-nonneg : pos 0 ≤ℤ attacker_most g
    most-nonneg = let o = one-at-most g in omega (arith, ints, o)

    paid : (t : ℕ) → 1 ≤ t → t ≤ action_count g m.l → (b : Bool) → Contains (attacker_payoffs_of g m.l) (cond b (payoff g m.l t).ac (payoff g m.l t).au)
    paid t low high true = of-type g m.l t (payoff g m.l t).ac low high (covered-listed g (is-security g matrix) m.l t)
    paid t low high false = of-type g m.l t (payoff g m.l t).au low high (uncovered-listed g (is-security g matrix) m.l t)

    -- what another action pays above the fixed one, whatever is covered
    gain-small : (a b : Bool) → IsAtMost (attacker_most g) (cond a (payoff g m.l m.a).ac (payoff g m.l m.a).au -ℤ cond b (payoff g m.l (act_of fix m.l)).ac (payoff g m.l (act_of fix m.l)).au)
    gain-small a b =
        difference-small g m.l mark-type.0 mark-type.1 (cond a (payoff g m.l m.a).ac (payoff g m.l m.a).au) (cond b (payoff g m.l (act_of fix m.l)).ac (payoff g m.l (act_of fix m.l)).au)
        (paid m.a is.from_one is.action a) (paid (act_of fix m.l) act-known.0 act-known.1 b)

    pub gain_where-small : (cov : ℕ → Bool) → IsAtMost (m.v *ℤ attacker_most g) (gain_where g fix cov m)
    gain_where-small cov = let p = is.positive in scaled-small m.v (attacker_most g) _ (omega (arith, ints, p)) (gain-small (cov m.a) (cov (act_of fix m.l)))

    gap-of : (t : ℕ) → 1 ≤ t → t ≤ action_count g m.l → (a b : Bool) → IsAtMost (attacker_most g) (cond a (payoff g m.l t).ac (payoff g m.l t).au -ℤ cond b (payoff g m.l t).ac (payoff g m.l t).au)
    gap-of t low high a b =
        difference-small g m.l mark-type.0 mark-type.1 (cond a (payoff g m.l t).ac (payoff g m.l t).au) (cond b (payoff g m.l t).ac (payoff g m.l t).au) (paid t low high a) (paid t low high b)

    pub entry-small : (t : ℕ) → IsAtMost (m.v *ℤ attacker_most g) (m.v *ℤ mark_entry g fix t m)
    entry-small t =
        let p = is.positive in
        scaled-small m.v (attacker_most g) (mark_entry g fix t m) (omega (arith, ints, p))
        (one-of-two (attacker_most g) m.a (act_of fix m.l) t ((payoff g m.l m.a).ac -ℤ (payoff g m.l m.a).au) ((payoff g m.l (act_of fix m.l)).au -ℤ (payoff g m.l (act_of fix m.l)).ac) most-nonneg is.other
        (gap-of m.a is.from_one is.action true false) (gap-of (act_of fix m.l) act-known.0 act-known.1 false true))

-- ---- weights as they are formed

pub same-times : (c z : ℤ) (a t : ℕ) → where_same a t (c *ℤ z) ≡ c *ℤ where_same a t z
same-times c z a t = elim (eqb a t) as (λ b. cond b (c *ℤ z) (pos 0) ≡ c *ℤ cond b z (pos 0)) [ true ↦ refl | false ↦ same_by (n 0) (times (v c) (n 0)) (omega arith) ]

same-less : (z : ℤ) (a t : ℕ) → where_same a t (pos 0 -ℤ z) ≡ pos 0 -ℤ where_same a t z
same-less z a t = elim (eqb a t) as (λ b. cond b (pos 0 -ℤ z) (pos 0) ≡ pos 0 -ℤ cond b z (pos 0)) [ true ↦ refl | false ↦ omega (arith, ints) ]

spread : (c x y : ℤ) → c *ℤ (x +ℤ y) ≡ (c *ℤ x) +ℤ (c *ℤ y)
spread c x y = same_by (times (v c) (plus (v x) (v y))) (plus (times (v c) (v x)) (times (v c) (v y))) (omega arith)

-- one type more
pub types-step : (g : Game) (fix : Fix) (rho : ℤ) (i l a t : ℕ) (part by w next : ℤ) → i < length fix.acts → l ≡ fix.first + i → a ≡ slice_index fix.acts i
    → part ≡ (attacker g l).prior *ℤ ((payoff g l a).dc -ℤ (payoff g l a).du) → by ≡ rho *ℤ part
    → w ≡ rho *ℤ total (λ (p : ℕ × ℕ). where_same p.1 t (worth_gap g p)) (take i (fixed fix)) → next ≡ w +ℤ where_same a t by
    → next ≡ rho *ℤ total (λ (p : ℕ × ℕ). where_same p.1 t (worth_gap g p)) (take (i + 1) (fixed fix))
types-step g fix rho i l a t part by w next lt at act is e before f =
    let p : ℕ × ℕ = (fix.first + i, slice_index fix.acts i) in
    let h : ℕ × ℕ → ℤ = λ p. where_same p.1 t (worth_gap g p) in
    let same : part ≡ worth_gap g p = is ∙ (λ j. worth_gap g (at j, act j)) in
    let added : where_same a t by ≡ rho *ℤ h p = (λ j. where_same (act j) t (e j)) ∙ same-times rho part p.1 t ∙ ap (λ (z : ℤ). rho *ℤ where_same p.1 t z) same in
    let more : rho *ℤ total h (take (i + 1) (fixed fix)) ≡ (rho *ℤ total h (take i (fixed fix))) +ℤ (rho *ℤ h p) = ap (λ (z : ℤ). rho *ℤ z) (total-next h fix i lt) ∙ spread rho (total h (take i (fixed fix))) (h p) in
    omega (arith, ints, f, before, added, more)

-- as the code reads them
pub gap-as : (g : Game) (fix : Fix) (i l a : ℕ) (part : ℤ) → l ≡ fix.first + i → a ≡ slice_index fix.acts i → part ≡ (attacker g l).prior *ℤ ((payoff g l a).dc -ℤ (payoff g l a).du)
    → part ≡ worth_gap g (fix.first + i, slice_index fix.acts i)
gap-as g fix i l a part at act is = is ∙ (λ j. worth_gap g (at j, act j))

pub same-here : (a : ℕ) (z : ℤ) → where_same a a z ≡ z
same-here a z = let here : eqb a a ≡ true = grind (arith, nat_tests) in rw here refl

pub times-none : (c : ℤ) → pos 0 ≡ c *ℤ pos 0
times-none c = same_by (n 0) (times (v c) (n 0)) (omega arith)

pub target-high : (g : Game) → is_matrix g ≡ false → (l a count : ℕ) → a ≤ action_count g l → count ≡ length g.goals → a ≤ count
target-high g matrix l a count le e = let f : a ≤ length g.goals = rw matrix at le in omega (arith, f, e)

-- one mark
module _ (g : Game) (fix : Fix) (m : Mark) (other : m.a ≢ act_of fix m.l) (marked fixed_part : ℤ)
    (is : marked ≡ m.v *ℤ ((payoff g m.l m.a).ac -ℤ (payoff g m.l m.a).au)) (is_fixed : fixed_part ≡ m.v *ℤ ((payoff g m.l (act_of fix m.l)).ac -ℤ (payoff g m.l (act_of fix m.l)).au)) where
  abbrev gap : ℤ
  gap = (payoff g m.l m.a).ac -ℤ (payoff g m.l m.a).au

  abbrev back : ℤ
  back = (payoff g m.l (act_of fix m.l)).au -ℤ (payoff g m.l (act_of fix m.l)).ac

  turned : fixed_part ≡ pos 0 -ℤ m.v *ℤ back
  turned =
      let x : ℤ = (payoff g m.l (act_of fix m.l)).ac in let y : ℤ = (payoff g m.l (act_of fix m.l)).au in
      is_fixed ∙ same_by (times (v m.v) (less (v x) (v y))) (less (n 0) (times (v m.v) (less (v y) (v x)))) (omega arith)

  -- what is taken off at each target
  pub taken-off : (t : ℕ) → where_same m.a t (pos 0 -ℤ marked) +ℤ where_same (act_of fix m.l) t fixed_part ≡ pos 0 -ℤ m.v *ℤ mark_entry g fix t m
  taken-off t =
      let a : where_same m.a t (pos 0 -ℤ marked) ≡ pos 0 -ℤ m.v *ℤ where_same m.a t gap = same-less marked m.a t ∙ ap (λ (z : ℤ). pos 0 -ℤ where_same m.a t z) is ∙ ap (λ (z : ℤ). pos 0 -ℤ z) (same-times m.v gap m.a t) in
      let b : where_same (act_of fix m.l) t fixed_part ≡ pos 0 -ℤ m.v *ℤ where_same (act_of fix m.l) t back =
      ap (λ (z : ℤ). where_same (act_of fix m.l) t z) turned ∙ same-less (m.v *ℤ back) (act_of fix m.l) t ∙ ap (λ (z : ℤ). pos 0 -ℤ z) (same-times m.v back (act_of fix m.l) t) in
      let c = spread m.v (where_same m.a t gap) (where_same (act_of fix m.l) t back) in
      omega (arith, ints, a, b, c)

  -- at the marked action, and at the fixed one
  pub off-marked : pos 0 -ℤ marked ≡ pos 0 -ℤ m.v *ℤ mark_entry g fix m.a m
  off-marked =
      let here : eqb m.a m.a ≡ true = grind (arith, nat_tests) in
      let there : eqb (act_of fix m.l) m.a ≡ false = grind (arith, nat_tests, other) in
      let e : where_same m.a m.a (pos 0 -ℤ marked) ≡ pos 0 -ℤ marked = rw here refl in
      let f : where_same (act_of fix m.l) m.a fixed_part ≡ pos 0 = rw there refl in
      omega (arith, ints, e, f, taken-off m.a)

  pub off-fixed : (w : ℤ) → (w +ℤ where_same m.a (act_of fix m.l) (pos 0 -ℤ marked)) +ℤ fixed_part ≡ w -ℤ m.v *ℤ mark_entry g fix (act_of fix m.l) m
  off-fixed w =
      let here : eqb (act_of fix m.l) (act_of fix m.l) ≡ true = grind (arith, nat_tests) in
      let f : where_same (act_of fix m.l) (act_of fix m.l) fixed_part ≡ fixed_part = rw here refl in
      omega (arith, ints, f, taken-off (act_of fix m.l))

-- ---- the whole

module _ (g : Game) (game : IsGame g) (matrix : is_matrix g ≡ false) (fix : Fix) (s : Stated) (marks : List Mark) (h : IsSizedFact g fix s marks) where
  abbrev gain_most : ℤ
  gain_most = (s.rho *ℤ fixed_priors g fix) *ℤ defender_most g

  abbrev load_most : ℤ
  load_most = total multiplier marks *ℤ attacker_most g

  sum-top : (gain_most +ℤ load_most) ≤ℤ top
  sum-top =
      let fit = (has-size g fix s.rho s.mu marks h.size).sum in
      let same : gain_most +ℤ (total (λ v. v) (map multiplier marks) *ℤ attacker_most g) ≡ gain_most +ℤ load_most = ap (λ (z : ℤ). gain_most +ℤ (z *ℤ attacker_most g)) (total-map multiplier marks) in
      top_from_Fits (gain_most +ℤ load_most) (subst Fits same fit)

  abbrev load : Mark → ℤ
  load m = m.v *ℤ attacker_most g

  loads-nonneg : All (λ (m : Mark). pos 0 ≤ℤ load m) marks
  loads-nonneg = λ i d lt. let p = (h.marked i d lt).positive in let o = one-at-most g in product_nonneg _ (attacker_most g) (omega (arith, ints, p)) (omega (arith, ints, o))

  loads-all : total load marks ≡ load_most
  loads-all = total-times multiplier (attacker_most g) marks

  -- the weight of a target by the first i marks
  abbrev pub weight_to : ℕ → ℕ → ℤ
  weight_to i t = (s.rho *ℤ column_cost g fix (covering t)) -ℤ total (λ (m : Mark). m.v *ℤ mark_entry g fix t m) (take i marks)

  pub weight-top : (i t : ℕ) → IsAtMost top (weight_to i t)
  weight-top i t =
      let sums = sums-small load (λ (m : Mark). m.v *ℤ mark_entry g fix t m) (take i marks)
      (All-take (λ (m : Mark). IsAtMost (load m) (m.v *ℤ mark_entry g fix t m)) i marks (λ j d lt. entry-small g game matrix fix h.is_fix _ (h.marked j d lt) t)) in
      let le = take-le load marks loads-nonneg i in
      let entries = at_most-more (total load (take i marks)) load_most (total (λ (m : Mark). m.v *ℤ mark_entry g fix t m) (take i marks)) (omega (arith, ints, le, loads-all)) sums in
      at_most-more (gain_most +ℤ load_most) top (weight_to i t) sum-top
      (take-away gain_most load_most (s.rho *ℤ column_cost g fix (covering t)) (total (λ (m : Mark). m.v *ℤ mark_entry g fix t m) (take i marks))
      (rho-small g game matrix fix h.is_fix s.rho h.rho (column_cost g fix (covering t)) (column-small g game matrix fix h.is_fix t)) entries)

  -- one mark more
  pub weight-more : (i t : ℕ) (x : Mark) (w next : ℤ) → i < length marks → x ≡ get_or marks i x → w ≡ weight_to i t → next ≡ w -ℤ (x.v *ℤ mark_entry g fix t x) → next ≡ weight_to (i + 1) t
  weight-more i t x w next lt is before e =
      let more = total-more (λ (m : Mark). m.v *ℤ mark_entry g fix t m) marks i x lt is in
      omega (arith, ints, more, before, e)

  -- the sum of the fact where these targets are covered
  pub where-top : (cov : ℕ → Bool) → IsAtMost top (sum_where g fix s.rho marks cov)
  where-top cov =
      let sums = sums-small load (gain_where g fix cov) marks (λ j d lt. gain_where-small g game matrix fix h.is_fix _ (h.marked j d lt) cov) in
      let gains = subst (λ (c : ℤ). IsAtMost c (total (gain_where g fix cov) marks)) loads-all sums in
      at_most-more (gain_most +ℤ load_most) top (sum_where g fix s.rho marks cov) sum-top
      (take-away gain_most load_most (s.rho *ℤ total (worth_where g cov) (fixed fix)) (total (gain_where g fix cov) marks)
      (rho-small g game matrix fix h.is_fix s.rho h.rho (total (worth_where g cov) (fixed fix)) (worths-small g game matrix fix h.is_fix cov)) gains)
