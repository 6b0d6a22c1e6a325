-- The products of the lists of a state with a member's entries.
use Rattle.std.proofs.Common.{◌≡◌, ℕ, ◌<◌, [], length, arith, ◌∙◌}
use Rattle.std.specs.Prelude.{pos}
use Rattle.std.proofs.lemmas.List.{get_or-map, length-map}
use Rattle.sg_linear.specs.Sums.{dot}
use Rattle.sg_rows.specs.Rows.{place}
use Rattle.sg_lp.specs.Programs.{Program, member_entry}
use Rattle.sg_lp.specs.States.{IsTableau, Tableau, row_at}
use Rattle.sg_lp.specs.Moves.{product_with, products_of}
use Rattle.sg_lp.specs.declared.column.Enter.{Enter}
use Rattle.sg_lp.proofs.Dots.{dot_from-is}

pub product_at : (p : Program) (t : Tableau) (s : Enter) (k : ℕ) → k < length t.rows → place (products_of p t s) k ≡ product_with p s (row_at t k)
product_at p t s k h = get_or-map (product_with p s) t.rows k [] (pos 0) h

pub row_long : (p : Program) (t : Tableau) → IsTableau p t → (k : ℕ) → k < p.height → length (row_at t k) ≡ p.height
row_long p t st k h = st.shaped.row_long k [] (let z = st.shaped.rows_long in omega arith)

-- by place they are what the definitions of a state speak of
pub product-is : (p : Program) (t : Tableau) (s : Enter) → IsTableau p t → (k : ℕ) → k < p.height → place (products_of p t s) k ≡ dot p.height (place (row_at t k)) (member_entry p s)
product-is p t s st k h = product_at p t s k (let z = st.shaped.rows_long in omega arith) ∙ dot_from-is p.height (row_at t k) (member_entry p s) (row_long p t st k h)

pub length-products : (p : Program) (t : Tableau) (s : Enter) → IsTableau p t → length (products_of p t s) ≡ p.height
length-products p t s st = length-map t.rows (product_with p s) ∙ st.shaped.rows_long
