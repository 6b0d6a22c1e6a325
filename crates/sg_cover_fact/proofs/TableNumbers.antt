-- The rows of the table by their numbers.
use Rattle.std.proofs.Common.{◌≡◌, ◌∙◌, ℕ, ◌+◌, ◌-◌, ◌<◌, ◌≤◌, length, sym, ap, arith}
use Rattle.sg_model.specs.Sums.{nth}
use Rattle.sg_model.specs.Games.{Game, resource_count}
use Rattle.sg_tree.specs.declared.fix.Fix.{Fix}
use Rattle.sg_bounds.specs.Coverage.{table_rows, whole}
use Rattle.sg_bounds.specs.RowLaws.{HasRows}
use Rattle.sg_cover_fact.specs.declared.row.TableRow.TheVariants.{Held, Within}
use Rattle.sg_cover_fact.specs.TableRows.{IsRowAt}

pub held-at : (g : Game) (fix : Fix) → HasRows g fix → (n r : ℕ) → r ≡ resource_count g → r < n → n ≤ r + length g.goals → IsRowAt g fix n (Held (n - r))
held-at g fix rows n r e low high =
    let t : ℕ = n - r in
    let place : resource_count g + t ≡ n = omega (arith, e, low) in
    record {
      names = sym (rows.targets t (omega arith) (omega arith)) ∙ ap (λ (k : ℕ). nth (table_rows g fix) k whole) place;
      known = (omega arith, omega arith);
    }

pub within-at : (g : Game) (fix : Fix) → HasRows g fix → (n r m : ℕ) → r ≡ resource_count g → m ≡ length g.goals → r + m < n → n ≤ r + m + m → IsRowAt g fix n (Within (n - r - m))
within-at g fix rows n r m e f low high =
    let t : ℕ = n - r - m in
    let place : resource_count g + length g.goals + t ≡ n = omega (arith, e, f, low) in
    record {
      names = sym (rows.targets_again t (omega arith) (omega arith)) ∙ ap (λ (k : ℕ). nth (table_rows g fix) k whole) place;
      known = (omega arith, omega arith);
    }
