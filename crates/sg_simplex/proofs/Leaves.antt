-- The row that leaves, by the products as they stand written.
use Rattle.std.proofs.Common.{◌≡◌, ℕ, ◌<◌, inl, inr, List, length, ap, arith, sym, ◌∙◌, subst, None}
use Rattle.std.specs.Prelude.{ℤ, pos, ◌<ℤ◌, ◌≤ℤ◌}
use Rattle.std.proofs.lemmas.Int.{ints}
use Rattle.sg_linear.specs.Sums.{LexPositive, combined, dot}
use Rattle.sg_linear.proofs.RunLaws.{below-either}
use Rattle.sg_num.specs.Operations.{first_wide}
use Rattle.sg_rows.specs.Rows.{place}
use Rattle.sg_lp.specs.Programs.{IsBounded, Program, member_cost, member_entry}
use Rattle.sg_lp.specs.States.{IsTableau, Tableau, member_at, row_at}
use Rattle.sg_lp.specs.Moves.{IsEntering, row_product_steps, products_of}
use Rattle.sg_lp.specs.declared.column.Enter.{Enter}
use Rattle.sg_lp.proofs.Leaving.{leaving-one}
use Rattle.sg_lp.proofs.Multiplied.{product-is}
use Rattle.sg_simplex.specs.Least.{AreNeverEqual, Below, IsLeast}
use Rattle.sg_simplex.specs.Trying.{HasLeaving}

module _ (p : Program) (t : Tableau) (s : Enter) (q : List ℤ) (st : IsTableau p t) (qs : q ≡ products_of p t s) where
  abbrev n : ℕ
  n = p.height

  abbrev M : ℕ → ℕ → ℤ
  M i = place (row_at t i)

  abbrev d : ℕ → ℤ
  d k = dot n (M k) (member_entry p s)

  q_is : (k : ℕ) → k < n → place q k ≡ d k
  q_is k h = ap (λ (z : List ℤ). place z k) qs ∙ product-is p t s st k h

  many : length t.rows ≡ n
  many = st.shaped.rows_long

  above_by : (k : ℕ) → k < n → pos 0 <ℤ d k → pos 0 <ℤ place q k
  above_by k h up = subst (λ (z : ℤ). pos 0 <ℤ z) (sym (q_is k h)) up

  below_by : (i k : ℕ) → i < n → k < n → LexPositive n (combined (d i) (d k) (M k) (M i)) → Below (length t.rows) t.rows q i k
  below_by i k hi hk l = subst (λ (z : ℕ). LexPositive z (combined (place q i) (place q k) (M k) (M i))) (sym many)
      (subst (λ (z : ℤ). LexPositive n (combined (place q i) z (M k) (M i))) (sym (q_is k hk)) (subst (λ (z : ℤ). LexPositive n (combined z (d k) (M k) (M i))) (sym (q_is i hi)) l))

  by_below : (i k : ℕ) → i < n → k < n → Below (length t.rows) t.rows q i k → LexPositive n (combined (d i) (d k) (M k) (M i))
  by_below i k hi hk l = subst (λ (z : ℤ). LexPositive n (combined z (d k) (M k) (M i))) (q_is i hi)
      (subst (λ (z : ℤ). LexPositive n (combined (place q i) z (M k) (M i))) (q_is k hk) (subst (λ (z : ℕ). LexPositive z (combined (place q i) (place q k) (M k) (M i))) many l))

  -- of two lists one stands below the other, each over its product
  pub apart_lists : AreNeverEqual (length t.rows) t.rows q
  apart_lists i k hi hk ne up =
      let li : i < n = (let m = many in omega arith) in
      let lk : k < n = (let m = many in omega arith) in
      elim (below-either n (member_entry p) (member_cost p) (member_at t) M (place t.y) t.rho st.state s i k li lk ne (subst (λ (z : ℤ). pos 0 <ℤ z) (q_is i li) up)) [
        | inl b ↦ inl (below_by i k li lk b)
        | inr b ↦ inr (below_by k i lk li b)
      ]

  -- the least of them is the one that leaves
  pub leaving_of : (r : ℕ) → first_wide (row_product_steps p t s) ≡ None → IsLeast (length t.rows) t.rows q (length t.rows) r → HasLeaving p t s q r
  leaving_of r fit l =
      let lr : r < n = (let m = many in let w = l.within in omega arith) in
      record {
        leaves = record {
          within = lr;
          positive = subst (λ (z : ℤ). pos 0 <ℤ z) (q_is r lr) l.positive;
          least = λ k hk ne up. by_below r k lr hk (l.least k (let m = many in omega arith) ne (above_by k hk up));
        };
        products = qs;
        fit = fit;
      }

  -- where a member enters, some list has a product above 0
  pub some_leaves : IsBounded p → IsEntering p t s → ((k : ℕ) → k < length t.rows → place q k ≤ℤ pos 0) → ⊥
  some_leaves b e none =
      let l = leaving-one p t s b st e in
      let up = above_by l.0 l.1.within l.1.positive in
      let down = none l.0 (let m = many in let w = l.1.within in omega arith) in
      omega (arith, ints, up, down)
