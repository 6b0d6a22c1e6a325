-- The columns and rows of a program over the coverage table, by their numbers.
use Rattle.std.proofs.Common.{◌≡◌, ◌≢◌, ℕ, suc, ◌+◌, List, [], ◌∷◌, ◌++◌, map, length, sym, ◌∙◌, ap, subst, refl, arith, get_or}
use Rattle.std.specs.List.{All}
use Rattle.std.specs.Prelude.{ℤ, ◌+ℤ◌}
use Rattle.std.proofs.lemmas.List.{append_assoc, get_or-append-add, length-append, length-map}
use Rattle.sg_model.specs.Sums.{nth, numbers, numbers_from, total}
use Rattle.sg_model.specs.Games.{Game}
use Rattle.sg_tree.specs.declared.fix.Fix.{Fix}
use Rattle.sg_model.proofs.Before.{Lesser, pairs-map, rise-numbers_from}
use Rattle.sg_model.proofs.Best.{All-from_map}
use Rattle.sg_model.proofs.Numbers.{length-numbers_from}
use Rattle.sg_model.proofs.Payoffs.{Contains-map, Contains-numbers}
use Rattle.sg_bounds.specs.Coverage as table
use Rattle.sg_bounds.specs.RowLaws.{AreAllColumns}
use Rattle.sg_bounds.proofs.Listed.{columns_are_all}
use Rattle.sg_linear.specs.Sums.{sum_below}
use Rattle.sg_programs.specs.CoverLaws.{ColumnsAreTable}
use Rattle.sg_programs.specs.CoverPrograms.{number_in_table, column_numbered, cover_program, table_column}
use Rattle.sg_programs.proofs.Multipliers.{sum-first}

-- ---- columns

-- a list by its places
pub listed-again : {X : Type 0} (ps xs : List X) (d : X) → map (λ m. nth (ps ++ xs) m d) (numbers_from (suc (length ps)) (length xs)) ≡ xs
listed-again {X = X} ps [] d = refl
listed-again {X = X} ps (x ∷ xs) d =
    let first : get_or (ps ++ x ∷ xs) (length ps) d ≡ x = (let e : length ps ≡ length ps + 0 = omega arith in ap (λ (i : ℕ). get_or (ps ++ x ∷ xs) i d) e ∙ get_or-append-add ps (x ∷ xs) 0 d) in
    let from : suc (length ps) + 1 ≡ suc (length (ps ++ x ∷ [])) = omega (arith, length-append ps (x ∷ [])) in
    let rest =
    ap (λ (a : ℕ). map (λ m. nth (ps ++ x ∷ xs) m d) (numbers_from a (length xs))) from
    ∙ ap (λ (ys : List X). map (λ m. nth ys m d) (numbers_from (suc (length (ps ++ x ∷ []))) (length xs))) (sym (append_assoc ps (x ∷ []) xs))
    ∙ listed-again (ps ++ x ∷ []) xs d in
    ap (λ (y : X). y ∷ map (λ m. nth (ps ++ x ∷ xs) m d) (numbers_from (suc (length ps) + 1) (length xs))) first ∙ ap (λ (ys : List X). x ∷ ys) rest

map-again : {X Y Z : Type 0} (f : X → Y) (h : Y → Z) (xs : List X) → map h (map f xs) ≡ map (λ x. h (f x)) xs
map-again f h [] = refl
map-again f h (x ∷ xs) = ap (λ zs. h (f x) ∷ zs) (map-again f h xs)

pub columns-told : (g : Game) → map (table_column g) (map column_numbered (numbers (length (table.columns g)))) ≡ table.columns g
columns-told g = map-again column_numbered (table_column g) (numbers (length (table.columns g))) ∙ listed-again [] (table.columns g) table.always

pub columns_are_table : ColumnsAreTable
columns_are_table g fix = record {
  numbered = λ n low high.
      let m : ℕ = length (table.columns g) in
      Contains-map column_numbered (numbers m) n (Contains-numbers m n low (omega (arith, high, length-map (numbers m) column_numbered, length-numbers_from 1 m)));
  told = columns-told g;
  each_once = subst (AreAllColumns g) (sym (columns-told g)) (columns_are_all g);
  distinct = pairs-map Lesser (λ c d. c ≢ d) column_numbered (λ a b lt e. let same : a ≡ b = ap number_in_table e in omega (arith, lt, same)) (numbers (length (table.columns g))) (rise-numbers_from 1 (length (table.columns g)));
}

-- what holds of the table's columns holds of what the program's columns stand for
pub over-columns : (g : Game) (fix : Fix) (P : table.Column → Type 0) → All P (table.columns g) → All (λ c. P (table_column g c)) (cover_program g fix).columns
over-columns g fix P all = All-from_map (table_column g) P (map column_numbered (numbers (length (table.columns g)))) (subst (All P) (sym (columns-told g)) all)

-- ---- rows

-- a sum over the places of a list
below-total : {X : Type 0} (f : X → ℤ) (xs : List X) (d : X) → sum_below (length xs) (λ k. f (get_or xs k d)) ≡ total f xs
below-total f [] d = refl
below-total f (x ∷ xs) d = sum-first (length xs) (λ k. f (get_or (x ∷ xs) k d)) ∙ ap (λ (z : ℤ). f x +ℤ z) (below-total f xs d)

-- a sum over the rows from row 0
pub rows-total : {X : Type 0} (f : X → ℤ) (xs : List X) (d : X) → sum_below (length xs + 1) (λ j. f (nth xs j d)) ≡ f d +ℤ total f xs
rows-total f xs d =
    let n : length xs + 1 ≡ suc (length xs) = omega arith in
    ap (λ (k : ℕ). sum_below k (λ j. f (nth xs j d))) n ∙ sum-first (length xs) (λ j. f (nth xs j d)) ∙ ap (λ (z : ℤ). f d +ℤ z) (below-total f xs d)
