-- The values of a move, part by part.
use Rattle.std.proofs.Common.{◌≡◌, ℕ, List, [], ◌∷◌, ◌++◌, flat_map, map, pos, ap, sym, ◌∙◌, subst, Some, None, Result, Ok, Err}
use Rattle.std.specs.Prelude.{ℤ, ◌-ℤ◌, ◌*ℤ◌}
use Rattle.sg_num.specs.declared.step.Wide.{Wide}
use Rattle.sg_num.specs.Operations.{first_wide, formed, minus, times}
use Rattle.sg_rows.specs.Rows.{dot_from, dot_steps}
use Rattle.sg_rows.proofs.Fitting.{Err-stops, Ok-fits}
use Rattle.sg_lp.specs.Programs.{IsBounded, Program, member_cost}
use Rattle.sg_lp.specs.States.{IsTableau, Tableau}
use Rattle.sg_lp.specs.Moves.{IsEntering, NamedStep, entries_of, first_shown, gap_of, gap_steps, move_steps, multiplier_steps, under_name, row_product_steps, products_of, row_steps}
use Rattle.sg_lp.specs.declared.column.Enter.{Enter}
use Rattle.sg_lp.proofs.Leaving.{leaving-one}
use Rattle.sg_simplex.specs.Trying.{HasLeaving, IsMisfit, MayExchange}
use Rattle.sg_simplex.proofs.Shown.{alone-fits, alone-stops, named-fits, named-stops}

same4 : (f : List ℤ → List ℤ → ℤ → ℤ → Result ℤ Wide) (a a' b b' : List ℤ) (c c' d d' : ℤ) → a ≡ a' → b ≡ b' → c ≡ c' → d ≡ d' → f a b c d ≡ f a' b' c' d'
same4 f a a' b b' c c' d d' p q r s = cc

-- the gap by the entries as they stand written
pub gap_by : (p : Program) (t : Tableau) (s : Enter) (y es : List ℤ) (rho cost : ℤ) (result : Result ℤ Wide) → y ≡ t.y → es ≡ entries_of p s → rho ≡ t.rho → cost ≡ member_cost p s
    → result ≡ formed (dot_steps (pos 0) y es ++ (times rho cost ∷ minus (dot_from (pos 0) y es) (rho *ℤ cost) ∷ [])) (dot_from (pos 0) y es -ℤ (rho *ℤ cost)) → result ≡ formed (gap_steps p t s) (gap_of p t s)
gap_by p t s y es rho cost result ey ee er ec e =
    e ∙ same4 (λ a b c d. formed (dot_steps (pos 0) a b ++ (times c d ∷ minus (dot_from (pos 0) a b) (c *ℤ d) ∷ [])) (dot_from (pos 0) a b -ℤ (c *ℤ d))) y t.y es (entries_of p s) rho t.rho cost (member_cost p s) ey ee er ec

-- the products by the entries as they stand written
pub products_by : (p : Program) (t : Tableau) (s : Enter) (q es : List ℤ) → es ≡ entries_of p s → q ≡ map (λ (row : List ℤ). dot_from (pos 0) row es) t.rows → q ≡ products_of p t s
products_by p t s q es e is = is ∙ ap (λ (z : List ℤ). map (λ (row : List ℤ). dot_from (pos 0) row z) t.rows) e

pub products_fit : (p : Program) (t : Tableau) (s : Enter) (es : List ℤ) (u : Unit {0}) → es ≡ entries_of p s → ◌≡◌ {A = Result (Unit {0}) Wide} (Ok u) (formed (flat_map (λ (row : List ℤ). dot_steps (pos 0) row es) t.rows) tt) → first_wide (row_product_steps p t s) ≡ None
products_fit p t s es u e is = subst (λ (z : List ℤ). first_wide (flat_map (λ (row : List ℤ). dot_steps (pos 0) row z) t.rows) ≡ None) e (Ok-fits (flat_map (λ (row : List ℤ). dot_steps (pos 0) row es) t.rows) tt u is)

pub products_wide : (p : Program) (t : Tableau) (s : Enter) (es : List ℤ) (w : Wide) → es ≡ entries_of p s → ◌≡◌ {A = Result (Unit {0}) Wide} (Err w) (formed (flat_map (λ (row : List ℤ). dot_steps (pos 0) row es) t.rows) tt) → first_wide (row_product_steps p t s) ≡ Some w
products_wide p t s es w e is = subst (λ (z : List ℤ). first_wide (flat_map (λ (row : List ℤ). dot_steps (pos 0) row z) t.rows) ≡ Some w) e (Err-stops (flat_map (λ (row : List ℤ). dot_steps (pos 0) row es) t.rows) tt w is)

-- a product that doesn't fit is the first value, whichever row leaves
pub products_stop : (p : Program) (t : Tableau) (s : Enter) → IsBounded p → IsTableau p t → IsEntering p t s → (n : ℕ) (w : Wide) → n ≡ 2 → first_wide (row_product_steps p t s) ≡ Some w → IsMisfit p t s (record { name = n; wide = w })
products_stop p t s b st e n w is stops =
    let l = leaving-one p t s b st e in
    record {
      row = l.0;
      leaves = l.1;
      shown = named-stops 2 (row_product_steps p t s) _ w stops ∙ ap (λ (k : ℕ). Some (record { name = k; step = w })) (sym is);
    }

module _ (p : Program) (t : Tableau) (s : Enter) (q : List ℤ) (r : ℕ) (h : HasLeaving p t s q r) where
  abbrev lists : List ℤ → List NamedStep
  lists x = under_name 3 (row_steps t.rows x r)

  abbrev ends : List ℤ → ℤ → List NamedStep
  ends x g = under_name 3 (multiplier_steps t x g r)

  abbrev middle : List NamedStep
  middle = under_name 2 (gap_steps p t s)

  -- the same by the products that stand written
  behind : first_shown (move_steps p t s r) ≡ first_shown (lists q ++ (middle ++ ends q (gap_of p t s)))
  behind = named-fits 2 (row_product_steps p t s) _ h.fit ∙ ap (λ (x : List ℤ). first_shown (lists x ++ (middle ++ ends x (gap_of p t s)))) (sym h.products)

  pub rows_stop : (w : Wide) → first_wide (row_steps t.rows q r) ≡ Some w → IsMisfit p t s (record { name = 3; wide = w })
  rows_stop w e = record { row = r; leaves = h.leaves; shown = behind ∙ named-stops 3 (row_steps t.rows q r) _ w e }

  module _ (rows : first_wide (row_steps t.rows q r) ≡ None) where
    pub gap_stops : (w : Wide) → first_wide (gap_steps p t s) ≡ Some w → IsMisfit p t s (record { name = 2; wide = w })
    gap_stops w e = record { row = r; leaves = h.leaves; shown = behind ∙ named-fits 3 (row_steps t.rows q r) _ rows ∙ named-stops 2 (gap_steps p t s) _ w e }

    module _ (gaps : first_wide (gap_steps p t s) ≡ None) (g : ℤ) (is : g ≡ gap_of p t s) where
      last_is : first_shown (move_steps p t s r) ≡ first_shown (ends q g)
      last_is = behind ∙ named-fits 3 (row_steps t.rows q r) _ rows ∙ named-fits 2 (gap_steps p t s) _ gaps ∙ ap (λ (z : ℤ). first_shown (ends q z)) (sym is)

      pub multipliers_stop : (w : Wide) → first_wide (multiplier_steps t q g r) ≡ Some w → IsMisfit p t s (record { name = 3; wide = w })
      multipliers_stop w e = record { row = r; leaves = h.leaves; shown = last_is ∙ alone-stops 3 (multiplier_steps t q g r) w e }

      pub all_fit : first_wide (multiplier_steps t q g r) ≡ None → MayExchange p t s q r g
      all_fit e = record {
        leaves = h.leaves;
        products = h.products;
        gap_is = is;
        rows_fit = rows;
        multipliers_fit = e;
        fit = last_is ∙ alone-fits 3 (multiplier_steps t q g r) e;
      }
