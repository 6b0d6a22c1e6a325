-- Blocks of rows within all rows, by the lines on which they stand.
use Rattle.std.proofs.Common.{◌≡◌, ℕ, ◌+◌, List, [], ◌∷◌, ◌++◌, length, refl, sym, ap, subst, ◌∙◌, arith, append_assoc, length-append}
use Rattle.std.proofs.lemmas.List.{append-nil}
use Rattle.sg_model.specs.Sums.{nth}
use Rattle.sg_bounds.proofs.Places.{nth-first, nth-next}
use Rattle.sg_cert.specs.Text.{FieldRow}

-- these rows stand together among all rows, the first of them on this line
pub record StandsAt (rows : List FieldRow) (line : ℕ) (block : List FieldRow) : Type 0 where
  pub before : List FieldRow
  pub after : List FieldRow
  pub whole : rows ≡ before ++ (block ++ after)
  pub line_is : line ≡ length before + 1

nth_behind : (before : List FieldRow) (x : FieldRow) (rest : List FieldRow) (line : ℕ) → line ≡ length before + 1 → nth (before ++ x ∷ rest) line [] ≡ x
nth_behind [] x rest line e = nth-first x rest line [] (omega (arith, e))
nth_behind (b ∷ bs) x rest line e =
    nth-next b (bs ++ x ∷ rest) line (length bs + 1) [] (omega (arith, e)) (omega arith) ∙ nth_behind bs x rest (length bs + 1) refl

-- the row on the line is the first of them
pub first_at : (rows : List FieldRow) (line : ℕ) (x : FieldRow) (xs : List FieldRow) → StandsAt rows line (x ∷ xs) → nth rows line [] ≡ x
first_at rows line x xs h = ap (λ (rs : List FieldRow). nth rs line []) h.whole ∙ nth_behind h.before x (xs ++ h.after) line h.line_is

pub left_at : (rows : List FieldRow) (line : ℕ) (xs ys : List FieldRow) → StandsAt rows line (xs ++ ys) → StandsAt rows line xs
left_at rows line xs ys h = record {
  before = h.before;
  after = ys ++ h.after;
  whole = h.whole ∙ ap (λ (rs : List FieldRow). h.before ++ rs) (append_assoc xs ys h.after);
  line_is = h.line_is;
}

pub right_at : (rows : List FieldRow) (line next : ℕ) (xs ys : List FieldRow) → next ≡ line + length xs → StandsAt rows line (xs ++ ys) → StandsAt rows next ys
right_at rows line next xs ys e h = record {
  before = h.before ++ xs;
  after = h.after;
  whole = h.whole ∙ ap (λ (rs : List FieldRow). h.before ++ rs) (append_assoc xs ys h.after) ∙ sym (append_assoc h.before xs (ys ++ h.after));
  line_is = omega (arith, e, h.line_is, length-append h.before xs);
}

pub same_at : (rows : List FieldRow) (line : ℕ) (xs ys : List FieldRow) → xs ≡ ys → StandsAt rows line xs → StandsAt rows line ys
same_at rows line xs ys e h = subst (StandsAt rows line) e h

pub all_at : (rows : List FieldRow) → StandsAt rows 1 rows
all_at rows = record { before = []; after = []; whole = sym (append-nil rows); line_is = refl }
