-- The regret of a play, mark by mark, and the sum of a fact, within its size sum.
use Rattle.std.proofs.Common.{◌≡◌, ◌∙◌, ℕ, zero, suc, ◌+◌, ◌<◌, ◌≤◌, List, [], ◌∷◌, ◌++◌, length, map, take, get_or, ℤ, pos, ◌+ℤ◌, ◌*ℤ◌, ◌≤ℤ◌, of_z, to_z, ap, subst, sym, refl, arith}
use Rattle.std.specs.Prelude.{FitsSigned}
use Rattle.std.specs.Int.{w128}
use Rattle.std.specs.List.{All}
use Rattle.std.proofs.lemmas.Int.{ints, to_z-of_z}
use Rattle.std.proofs.lemmas.List.{take_all, take_more}
use Rattle.std.proofs.lemmas.List.Elements.{All-cons, All-nil, All-tail, All-take}
use Rattle.sg_model.specs.Sums.{total}
use Rattle.sg_model.specs.Games.{Game}
use Rattle.sg_model.specs.Limits.{IsGame}
use Rattle.sg_model.specs.Plays.{IsLegal}
use Rattle.sg_model.proofs.Ints.{mul-le}
use Rattle.sg_model.proofs.Promises.{peopled}
use Rattle.sg_model.proofs.Sums.{total-append, total-nonneg}
use Rattle.sg_num.specs.Exact.{Fits, IsAtMost}
use Rattle.sg_tree.specs.declared.fact.Mark.{Mark}
use Rattle.sg_tree.specs.declared.fix.Fix.{Fix}
use Rattle.sg_bounds.specs.Facts.{IsMarkOf, cost, regret}
use Rattle.sg_bounds.specs.PlayRows.{gain}
use Rattle.sg_bounds.specs.Sizes.{attacker_most}
use Rattle.sg_bounds.proofs.SizeBounds.{play_sums}
use Rattle.sg_bounds.proofs.Small.{at_most-more}
use Rattle.sg_bounds.proofs.Spans.{one-at-most}
use Rattle.sg_plays_fact.specs.declared.stated.Stated.{Stated}
use Rattle.sg_plays_fact.specs.Testing.{IsSizedFact, NonePlaysAbove, play_sum}
use Rattle.sg_plays_fact.proofs.Formed.{has-size}
use Rattle.sg_plays_fact.proofs.Running.{total-map}
use Rattle.sg_plays_fact.proofs.Within.{fits_between, top, top_from_Fits}

-- ---- sums and products within 128 bits

pub at_most-FitsSigned : (z : ℤ) → IsAtMost top z → FitsSigned w128 z
at_most-FitsSigned z h = fits_between z h.0 h.1

pub product-fits : (x y x' y' : ℤ) → x' ≡ x → y' ≡ y → IsAtMost top (x *ℤ y) → FitsSigned w128 (x' *ℤ y')
product-fits x y x' y' e f h = subst (FitsSigned w128) (sym (λ i. e i *ℤ f i)) (at_most-FitsSigned (x *ℤ y) h)

pub product-read : (x y x' y' : ℤ) → x' ≡ x → y' ≡ y → IsAtMost top (x *ℤ y) → to_z w128 (of_z w128 (x' *ℤ y')) ≡ x *ℤ y
product-read x y x' y' e f h = to_z-of_z w128 (x' *ℤ y') (product-fits x y x' y' e f h) ∙ (λ i. e i *ℤ f i)

pub take-le : {X : Type 0} (f : X → ℤ) (xs : List X) → All (λ x. pos 0 ≤ℤ f x) xs → (i : ℕ) → total f (take i xs) ≤ℤ total f xs
take-le f xs h zero = total-nonneg f xs h
take-le f [] h (suc i) = omega (arith, ints)
take-le {X} f (x ∷ xs) h (suc i) = let P : X → Type 0 = λ x. pos 0 ≤ℤ f x in omega (arith, ints, take-le f xs (All-tail P x xs h) i)

abbrev pub multiplier : Mark → ℤ
multiplier m = m.v

positives : (g : Game) (fix : Fix) (marks : List Mark) → All (IsMarkOf g fix) marks → All (λ (m : Mark). pos 0 ≤ℤ multiplier m) marks
positives g fix marks are = λ i d lt. let p = (are i d lt).positive in omega (arith, ints, p)

-- one mark more
pub total-more : (f : Mark → ℤ) (marks : List Mark) (i : ℕ) (x : Mark) → i < length marks → x ≡ get_or marks i x → total f (take (i + 1) marks) ≡ total f (take i marks) +ℤ f x
total-more f marks i x lt is =
    ap (total f) (take_more marks i x lt ∙ ap (λ (y : Mark). take i marks ++ y ∷ []) (sym is)) ∙ total-append f (take i marks) (x ∷ []) ∙ omega (arith, ints)

module _ (g : Game) (game : IsGame g) (fix : Fix) (s : Stated) (marks : List Mark) (h : IsSizedFact g fix s marks) where
  abbrev pub loaded : ℤ
  loaded = total multiplier marks *ℤ attacker_most g

  pub load-top : loaded ≤ℤ top
  load-top =
      let fit = (has-size g fix s.rho s.mu marks h.size).load in
      let same : total (λ v. v) (map multiplier marks) *ℤ attacker_most g ≡ loaded = ap (λ (z : ℤ). z *ℤ attacker_most g) (total-map multiplier marks) in
      top_from_Fits loaded (subst Fits same fit)

  most-nonneg : pos 0 ≤ℤ attacker_most g
  most-nonneg = let o = one-at-most g in omega (arith, ints, o)

  -- the multipliers of the first i marks, times the most
  pub load-to : (i : ℕ) → (total multiplier (take i marks) *ℤ attacker_most g) ≤ℤ top
  load-to i =
      let le = mul-le (total multiplier (take i marks)) (total multiplier marks) (attacker_most g) (take-le multiplier marks (positives g fix marks h.marked) i) most-nonneg in
      omega (arith, ints, le, load-top)

  -- one multiplier times the most
  pub load-at : (i : ℕ) (x : Mark) → i < length marks → x ≡ get_or marks i x → (x.v *ℤ attacker_most g) ≤ℤ top
  load-at i x lt is =
      let nonneg = total-nonneg multiplier (take i marks) (All-take (λ (m : Mark). pos 0 ≤ℤ multiplier m) i marks (positives g fix marks h.marked)) in
      let all = take-le multiplier marks (positives g fix marks h.marked) (i + 1) in
      let more = total-more multiplier marks i x lt is in
      let le = mul-le x.v (total multiplier marks) (attacker_most g) (omega (arith, ints, nonneg, all, more)) most-nonneg in
      omega (arith, ints, le, load-top)

  pub mark-at : (i : ℕ) (x : Mark) → i < length marks → x ≡ get_or marks i x → IsMarkOf g fix x
  mark-at i x lt is = subst (IsMarkOf g fix) (sym is) (h.marked i x lt)

  module _ (play : List ℕ) (legal : IsLegal g play) where
    -- the regret over the first i marks
    pub regret-small : (i : ℕ) → IsAtMost top (regret g fix (take i marks) play)
    regret-small i =
        let small = play_sums g (peopled g game) fix h.is_fix s.rho s.mu h.rho (take i marks) (All-take (IsMarkOf g fix) i marks h.marked) play legal in
        at_most-more (total multiplier (take i marks) *ℤ attacker_most g) top (regret g fix (take i marks) play) (load-to i) small.entries_small

    -- one mark's part
    pub part-small : (i : ℕ) (x : Mark) → i < length marks → x ≡ get_or marks i x → IsAtMost top (x.v *ℤ gain g fix play (x.l, x.a))
    part-small i x lt is =
        let one : ℤ = x.v *ℤ gain g fix play (x.l, x.a) in
        let small = (play_sums g (peopled g game) fix h.is_fix s.rho s.mu h.rho (x ∷ []) (All-cons (IsMarkOf g fix) x [] (mark-at i x lt is) (All-nil (IsMarkOf g fix))) play legal).entries_small in
        let same : (x.v +ℤ pos 0) *ℤ attacker_most g ≡ x.v *ℤ attacker_most g = ap (λ (z : ℤ). z *ℤ attacker_most g) (omega (arith, ints)) in
        let sum : one +ℤ pos 0 ≡ one = omega (arith, ints) in
        let le = load-at i x lt is in
        at_most-more (x.v *ℤ attacker_most g) top one le (subst (λ (z : ℤ). IsAtMost z one) same (subst (λ (z : ℤ). IsAtMost ((x.v +ℤ pos 0) *ℤ attacker_most g) z) sum small))

    -- one mark more
    pub regret-more : (i : ℕ) (x : Mark) (sum part next : ℤ) → i < length marks → x ≡ get_or marks i x → sum ≡ regret g fix (take i marks) play → part ≡ x.v *ℤ gain g fix play (x.l, x.a)
        → next ≡ sum +ℤ part → next ≡ regret g fix (take (i + 1) marks) play
    regret-more i x sum part next lt is before e f =
        let more = total-more (λ (m : Mark). m.v *ℤ gain g fix play (m.l, m.a)) marks i x lt is in
        omega (arith, ints, more, before, e, f)

    pub next-small : (i : ℕ) (x : Mark) (sum part : ℤ) → i < length marks → x ≡ get_or marks i x → sum ≡ regret g fix (take i marks) play → part ≡ x.v *ℤ gain g fix play (x.l, x.a) → IsAtMost top (sum +ℤ part)
    next-small i x sum part lt is before e = subst (IsAtMost top) (sym (regret-more i x sum part (sum +ℤ part) lt is before e refl)) (regret-small (i + 1))

    pub regret-all : (i : ℕ) (sum : ℤ) → length marks ≤ i → sum ≡ regret g fix (take i marks) play → sum ≡ regret g fix marks play
    regret-all i sum le e = e ∙ ap (λ (ms : List Mark). regret g fix ms play) (take_all i marks le)

    -- the whole
    pub gain-top : IsAtMost top (s.rho *ℤ cost g fix play)
    gain-top =
        let small = (play_sums g (peopled g game) fix h.is_fix s.rho s.mu h.rho marks h.marked play legal).costs in
        at_most-more _ top (s.rho *ℤ cost g fix play) (top_from_Fits _ (has-size g fix s.rho s.mu marks h.size).gain) small

    pub sum-top : IsAtMost top (play_sum g fix s.rho marks play)
    sum-top =
        let small = (play_sums g (peopled g game) fix h.is_fix s.rho s.mu h.rho marks h.marked play legal).difference in
        at_most-more _ top (play_sum g fix s.rho marks play) (top_from_Fits _ (has-size g fix s.rho s.mu marks h.size).sum) small

-- as the code reads them
pub above-as : (g : Game) (fix : Fix) (s t : Stated) (marks : List Mark) → s.rho ≡ t.rho → s.mu ≡ t.mu → NonePlaysAbove g fix s marks → NonePlaysAbove g fix t marks
above-as g fix s t marks e f h play legal = subst (λ (z : ℤ). play_sum g fix z marks play ≤ℤ t.mu) e (subst (λ (z : ℤ). play_sum g fix s.rho marks play ≤ℤ z) f (h play legal))
