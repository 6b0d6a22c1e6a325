-- Operations formed one after another: a running total, and the values of a fact.
use Rattle.std.proofs.Common.{◌≡◌, ◌∙◌, ℕ, Bool, true, false, cond, List, [], ◌∷◌, ◌++◌, length, ℤ, ◌+ℤ◌, ◌*ℤ◌, Option, Some, None, Result, Ok, Err, ap, sym, refl, arith}
use Rattle.std.proofs.lemmas.Int.{ints}
use Rattle.sg_num.specs.declared.step.Op.TheVariants.{Sum, Times}
use Rattle.sg_num.specs.declared.step.Wide.{Wide}
use Rattle.sg_num.specs.Exact.{exact_sum, exact_times, fits}
use Rattle.sg_num.specs.Operations.{first_wide, formed, plus, times}
use Rattle.sg_model.specs.Sums.{total}
use Rattle.sg_bounds.specs.SizeSteps.{running_steps}
use Rattle.std.proofs.lemmas.Bool.Decides.{nat_tests}
use Rattle.std.specs.Prelude.{nat_eq}
use Rattle.sg_model.specs.Games.{Game}
use Rattle.sg_tree.specs.declared.fact.Fact.{Fact}
use Rattle.sg_tree.specs.declared.fix.Fix.{Fix}
use Rattle.sg_bounds.specs.SizeSteps.{bound_steps}
use Rattle.sg_rows.proofs.Fitting.{Err-stops, Ok-fits, Ok-value, first_wide-append_fits, first_wide-append_stops}
use Rattle.sg_search.specs.Results.{least_caps, most_caps}
use Rattle.sg_programs.specs.Shown.{both_bounds}
use Rattle.sg_upper.proofs.Quotients.{step-Err, step-Ok}

-- the total of numbers that are added to z one after another
abbrev pub running_total : ℤ → List ℤ → Result ℤ Wide
running_total z xs = formed (running_steps z xs) (z +ℤ total (λ v. v) xs)

pub running-next : (z x v : ℤ) (xs : List ℤ) → Ok v ≡ exact_sum z x → running_total z (x ∷ xs) ≡ running_total v xs
running-next z x v xs e = go (fits (z +ℤ x)) e
  where
    same : (z +ℤ x) +ℤ total (λ v. v) xs ≡ z +ℤ (x +ℤ total (λ v. v) xs)
    same = omega (arith, ints)

    go : (t : Bool) → ◌≡◌ {A = Result ℤ Wide} (Ok v) (cond t (Ok (z +ℤ x)) (Err (plus z x)))
        → ◌≡◌ {A = Result ℤ Wide} (cond t (formed (running_steps (z +ℤ x) xs) (z +ℤ (x +ℤ total (λ v. v) xs))) (Err (plus z x))) (running_total v xs)
    go true e =
        let is : v ≡ z +ℤ x = cc in
        ap (λ (y : ℤ). formed (running_steps (z +ℤ x) xs) y) (sym same) ∙ ap (λ (y : ℤ). running_total y xs) (sym is)
    go false e = absurd (cc)

pub running-stops : (z x : ℤ) (w : Wide) (xs : List ℤ) → Err w ≡ exact_sum z x → ◌≡◌ {A = Result ℤ Wide} (running_total z (x ∷ xs)) (Err w)
running-stops z x w xs e = go (fits (z +ℤ x)) e
  where
    go : (t : Bool) → ◌≡◌ {A = Result ℤ Wide} (Err w) (cond t (Ok (z +ℤ x)) (Err (plus z x)))
        → ◌≡◌ {A = Result ℤ Wide} (cond t (formed (running_steps (z +ℤ x) xs) (z +ℤ (x +ℤ total (λ v. v) xs))) (Err (plus z x))) (Err w)
    go true e = absurd (cc)
    go false e = cc

-- ---- the size sum: of two lists, of which the values are known, and then the product with the most of an attacker and the sum

module _ (gains totals : List Wide) (gain total most : ℤ) where
  abbrev pub last_steps : List Wide
  last_steps = times total most ∷ plus gain (total *ℤ most) ∷ []

  pub gain-stops : (w : Wide) → Err w ≡ formed gains gain → Some w ≡ first_wide (gains ++ (totals ++ last_steps))
  gain-stops w e = sym (first_wide-append_stops gains (totals ++ last_steps) w (Err-stops gains gain w e))

  module _ (g : ℤ) (e : Ok g ≡ formed gains gain) where
    gains-fit : first_wide (gains ++ (totals ++ last_steps)) ≡ first_wide (totals ++ last_steps)
    gains-fit = first_wide-append_fits gains (totals ++ last_steps) (Ok-fits gains gain g e)

    pub total-stops : (w : Wide) → Err w ≡ formed totals total → Some w ≡ first_wide (gains ++ (totals ++ last_steps))
    total-stops w f = sym (gains-fit ∙ first_wide-append_stops totals last_steps w (Err-stops totals total w f))

    module _ (t : ℤ) (f : Ok t ≡ formed totals total) where
      both-fit : first_wide (gains ++ (totals ++ last_steps)) ≡ first_wide last_steps
      both-fit = gains-fit ∙ first_wide-append_fits totals last_steps (Ok-fits totals total t f)

      g-is : g ≡ gain
      g-is = Ok-value gains gain g e

      t-is : t ≡ total
      t-is = Ok-value totals total t f

      pub regret-stops : (w : Wide) → Err w ≡ exact_times t most → Some w ≡ first_wide (gains ++ (totals ++ last_steps))
      regret-stops w h = sym (both-fit ∙ step-Err Times total most w (plus gain (total *ℤ most) ∷ []) (h ∙ ap (λ z. exact_times z most) t-is))

      module _ (r : ℤ) (h : Ok r ≡ exact_times t most) where
        regret : (first_wide last_steps ≡ first_wide (plus gain (total *ℤ most) ∷ [])) × (r ≡ total *ℤ most)
        regret = step-Ok Times total most r (plus gain (total *ℤ most) ∷ []) (h ∙ ap (λ z. exact_times z most) t-is)

        sum-is : exact_sum g r ≡ exact_sum gain (total *ℤ most)
        sum-is = ap (λ z. exact_sum z r) g-is ∙ ap (exact_sum gain) regret.1

        pub sum-stops : (w : Wide) → Err w ≡ exact_sum g r → Some w ≡ first_wide (gains ++ (totals ++ last_steps))
        sum-stops w k = sym (both-fit ∙ (regret.0 ∙ step-Err Sum gain (total *ℤ most) w [] (k ∙ sum-is)))

        pub sum-fits : (v : ℤ) → Ok v ≡ exact_sum g r → ◌≡◌ {A = Option Wide} None (first_wide (gains ++ (totals ++ last_steps)))
        sum-fits v k = sym (both-fit ∙ (regret.0 ∙ (step-Ok Sum gain (total *ℤ most) v [] (k ∙ sum-is)).0))

-- ---- two lists of operations, one after the other

pub first-stops : (xs ys : List Wide) (w : Wide) → Some w ≡ first_wide xs → Some w ≡ first_wide (xs ++ ys)
first-stops xs ys w e = sym (first_wide-append_stops xs ys w (sym e))

pub then-second : (xs ys : List Wide) (o : Option Wide) → None ≡ first_wide xs → o ≡ first_wide ys → o ≡ first_wide (xs ++ ys)
then-second xs ys o e f = f ∙ sym (first_wide-append_fits xs ys (sym e))

-- ---- the bounds of a prefix

prefix-bounds : (g : Game) (fix : Fix) (f : Fact) (n : ℕ) → fix.first ≡ 1 → n ≡ length fix.acts → both_bounds g fix f ≡ bound_steps g (most_caps g) n f ++ bound_steps g (least_caps g) n f
prefix-bounds g fix f n e is =
    let same : nat_eq fix.first 1 ≡ true = grind (arith, nat_tests, e) in
    rw (is, same) refl

pub most-stops : (g : Game) (fix : Fix) (f : Fact) (n : ℕ) (w : Wide) → fix.first ≡ 1 → n ≡ length fix.acts → Some w ≡ first_wide (bound_steps g (most_caps g) n f) → Some w ≡ first_wide (both_bounds g fix f)
most-stops g fix f n w e is h = first-stops (bound_steps g (most_caps g) n f) (bound_steps g (least_caps g) n f) w h ∙ ap first_wide (sym (prefix-bounds g fix f n e is))

pub least-after : (g : Game) (fix : Fix) (f : Fact) (n : ℕ) (o : Option Wide) → fix.first ≡ 1 → n ≡ length fix.acts → None ≡ first_wide (bound_steps g (most_caps g) n f) → o ≡ first_wide (bound_steps g (least_caps g) n f) → o ≡ first_wide (both_bounds g fix f)
least-after g fix f n o e is h k = then-second (bound_steps g (most_caps g) n f) (bound_steps g (least_caps g) n f) o h k ∙ ap first_wide (sym (prefix-bounds g fix f n e is))
