-- Matchings taken off so far, and what is left.
use Rattle.std.proofs.Common.{◌≡◌, ◌⊎◌, ℕ, zero, suc, ◌+◌, ◌<◌, ◌≤◌, List, [], ◌∷◌, ◌++◌, true, false, length, cond, eqb, get_or, set, inl, inr, arith, ap, sym, ◌∙◌, subst, get_or-set_same, get_or-set_other}
use Rattle.std.specs.Prelude.{ℤ, pos, ◌+ℤ◌, ◌-ℤ◌, ◌≤ℤ◌, int_lt, All}
use Rattle.std.proofs.Math.ListN.{length-set}
use Rattle.std.proofs.lemmas.Int.{ints}
use Rattle.std.proofs.lemmas.List.Elements.{All-push, All-nil}
use Rattle.std.proofs.lemmas.Bool.{cases_eq, cond-false, ne_eqb}
use Rattle.sg_model.specs.Sums.{total}
use Rattle.sg_model.proofs.Sums.{total-append}
use Rattle.sg_matchings.specs.declared.part.Part.{Part}
use Rattle.sg_linear.specs.Sums.{sum_below}
use Rattle.sg_matchings.specs.Sums.{occurrences}
use Rattle.sg_matchings.specs.Tables.{cell, HasLineSum, IsPerfectMatching}
use Rattle.sg_matchings.specs.Matchings.{AreMatched}
use Rattle.sg_matchings.specs.Padding.{AreWithin, IsPadded, row_total, column_total}
use Rattle.sg_matchings.specs.Decompositions.{IsDecomposition, IsMatching, positive_counts, cell_weight}
use Rattle.sg_matchings.specs.Mirrors.{IsFront, IsMirrored, IsOnce, IsMatchingStep, IsTurned, positive_cells}
use Rattle.sg_matchings.proofs.Counts.{occurrences-set}
use Rattle.sg_matchings.proofs.Places.{sum_below-same, sum_below-nonnegative}
use Rattle.sg_matchings.proofs.PaddedSums.{padded-line_sum}
use Rattle.sg_matchings.proofs.PadSteps.{length-pushed}
use Rattle.sg_matchings.proofs.Perfect.{hit-apart, hit-nonnegative}
use Rattle.sg_matchings.proofs.Steps.{cell-upto, fewer_positive, line_sum-less, line_sum-nonnegative, mirrored-less, smaller_cells, weight-positive}

-- a flag as a number
abbrev flag : ℤ → ℤ
flag z = cond (int_lt (pos 0) z) (pos 1) (pos 0)

flag-low : (z : ℤ) → pos 0 ≤ℤ flag z
flag-low z = elim (int_lt (pos 0) z) as (λ b. pos 0 ≤ℤ cond b (pos 1) (pos 0)) [ true ↦ omega (arith, ints) | false ↦ omega (arith, ints) ]

flag-high : (z : ℤ) → flag z ≤ℤ pos 1
flag-high z = elim (int_lt (pos 0) z) as (λ b. cond b (pos 1) (pos 0) ≤ℤ pos 1) [ true ↦ omega (arith, ints) | false ↦ omega (arith, ints) ]

flags-high : (n : ℕ) (f : ℕ → ℤ) → sum_below n (λ i. flag (f i)) ≤ℤ pos n
flags-high zero f = omega (arith, ints)
flags-high (suc n) f = omega (arith, ints, flags-high n f, flag-high (f n))

flags-low : (n : ℕ) (f : ℕ → ℤ) → pos 0 ≤ℤ sum_below n (λ i. flag (f i))
flags-low n f = sum_below-nonnegative n (λ i. flag (f i)) (λ i l. flag-low (f i))

pub cells-low : (count width : ℕ) (rows : List (List ℤ)) → pos 0 ≤ℤ positive_cells count width rows
cells-low count width rows =
    let a = sum_below-nonnegative count (λ i. sum_below width (λ j. flag (cell rows i j))) (λ i l. flags-low width (λ j. cell rows i j)) in
    let b = flags-low count (λ i. cell rows i (width + i)) in
    let c = flags-low width (λ t. cell rows (count + t) t) in
    omega (arith, ints, a, b, c)

-- parts of counts, and the table that is left
pub record AreParts (counts : List (List ℤ)) (width : ℕ) (most : ℤ) (parts : List Part) (rows : List (List ℤ)) (left : ℤ) : Type 0 where
  pub mirrored : IsMirrored (length counts) width rows
  pub line : HasLineSum rows left
  pub matchings : All (λ (part : Part). IsMatching counts width part.columns) parts
  pub positive : All (λ (part : Part). pos 1 ≤ℤ part.weight) parts
  pub whole : total (λ (part : Part). part.weight) parts +ℤ left ≡ most
  pub each_cell : (i j : ℕ) → i < length counts → j < width → total (cell_weight i j) parts +ℤ cell rows i j ≡ cell counts i j
  pub smaller : (i j : ℕ) → i < length counts → j < width → cell rows i j ≤ℤ cell counts i j
  pub few : (pos (length parts) +ℤ positive_cells (length counts) width rows) ≤ℤ (positive_counts counts width +ℤ pos (length counts) +ℤ pos width)

pub padded-mirrored : (counts : List (List ℤ)) (width : ℕ) (most : ℤ) (rows : List (List ℤ)) → IsPadded counts width most rows → IsMirrored (length counts) width rows
padded-mirrored counts width most rows padded = record {
  long = padded.long;
  right = λ i k li lk ne. padded.right i k li lk ∙ cond-false (eqb i k) (most -ℤ row_total counts width i) (pos 0) (ne_eqb i k ne);
  below = λ t j lt lj ne. padded.below t j lt lj ∙ cond-false (eqb t j) (most -ℤ column_total counts t) (pos 0) (ne_eqb t j ne);
  corner = λ t k lt lk. padded.corner t k lt lk ∙ sym (padded.inside k t lk lt);
}

pub parts-none : (counts : List (List ℤ)) (width : ℕ) (most : ℤ) (rows : List (List ℤ)) → 1 ≤ length counts + width → AreWithin counts width most → IsPadded counts width most rows → AreParts counts width most [] rows most
parts-none counts width most rows some within padded = record {
  mirrored = padded-mirrored counts width most rows padded;
  line = padded-line_sum counts width most rows within padded some;
  matchings = All-nil (λ (part : Part). IsMatching counts width part.columns);
  positive = All-nil (λ (part : Part). pos 1 ≤ℤ part.weight);
  whole = omega (arith, ints);
  each_cell = λ i j li lj. omega (arith, ints, padded.inside i j li lj);
  smaller = λ i j li lj. omega (arith, ints, padded.inside i j li lj);
  few =
      let inner : sum_below (length counts) (λ i. sum_below width (λ j. flag (cell rows i j))) ≡ positive_counts counts width =
      sum_below-same (length counts) (λ i. sum_below width (λ j. flag (cell rows i j))) (λ i. sum_below width (λ j. flag (cell counts i j)))
      (λ i li. sum_below-same width (λ j. flag (cell rows i j)) (λ j. flag (cell counts i j)) (λ j lj. ap flag (padded.inside i j li lj))) in
      omega (arith, ints, inner, flags-high (length counts) (λ i. cell rows i (width + i)), flags-high width (λ t. cell rows (length counts + t) t));
}

front-matching : (counts : List (List ℤ)) (width : ℕ) (rows : List (List ℤ)) (columns front : List ℕ) → length rows ≡ length counts + width
    → ((i j : ℕ) → i < length counts → j < width → cell rows i j ≤ℤ cell counts i j) → IsPerfectMatching rows columns → IsFront (length counts) columns front → IsMatching counts width front
front-matching counts width rows columns front long smaller is at = record {
  each_row = at.long;
  positive = λ i li low.
      let e : get_or front i 0 ≡ get_or columns i 0 = at.same i li in
      let up : pos 1 ≤ℤ cell rows i (get_or front i 0) = subst (λ (x : ℕ). pos 1 ≤ℤ cell rows i x) (sym e) (is.positive i (omega (arith, li, long))) in
      omega (arith, ints, up, smaller i (get_or front i 0) li low);
  different = λ i k before lk low q.
      is.different i k before (omega (arith, lk, long)) (sym (at.same i (omega (arith, before, lk))) ∙ (q ∙ at.same k lk));
}

-- the weight on a cell is told by the first columns
front-weight : (i j : ℕ) (columns front : List ℕ) (weight : ℤ) → get_or front i 0 ≡ get_or columns i 0 → cell_weight i j (record { columns = front; weight = weight }) ≡ cell_weight i j (record { columns = columns; weight = weight })
front-weight i j columns front weight e = ap (λ (x : ℕ). cond (eqb x j) weight (pos 0)) e

pub parts-more : (counts : List (List ℤ)) (width : ℕ) (most : ℤ) (parts parts' : List Part) (rows rows' : List (List ℤ)) (left left' : ℤ) (columns front : List ℕ) (weight : ℤ)
    → AreParts counts width most parts rows left → IsMatchingStep rows (record { columns = columns; weight = weight }) rows' → IsTurned (length counts) width columns → IsFront (length counts) columns front
    → left' ≡ left -ℤ weight → parts' ≡ parts ++ record { columns = front; weight = weight } ∷ [] → AreParts counts width most parts' rows' left'
parts-more counts width most parts parts' rows rows' left left' columns front weight are step turned at e f =
    let full : Part = record { columns = columns; weight = weight } in
    let part : Part = record { columns = front; weight = weight } in
    let less = smaller_cells rows left are.line full rows' step in
    let long : length rows ≡ length counts + width = are.mirrored.long in
    rw (e, f) (record {
      mirrored = mirrored-less rows left are.line full rows' step (length counts) width are.mirrored turned;
      line = line_sum-less rows left are.line full rows' step;
      matchings = All-push (λ (x : Part). IsMatching counts width x.columns) parts part are.matchings (front-matching counts width rows columns front long are.smaller step.matching at);
      positive = All-push (λ (x : Part). pos 1 ≤ℤ x.weight) parts part are.positive (weight-positive rows full rows' step);
      whole = omega (arith, ints, total-append (λ (x : Part). x.weight) parts (part ∷ []), are.whole);
      each_cell = λ i j li lj. omega (
        arith,
        ints,
        total-append (cell_weight i j) parts (part ∷ []),
        are.each_cell i j li lj,
        step.less.cells i j (omega (arith, li, long)) (omega (arith, lj, long)),
        front-weight i j columns front weight (at.same i li),
      );
      smaller = λ i j li lj. omega (arith, ints, less i j (omega (arith, li, long)) (omega (arith, lj, long)), are.smaller i j li lj);
      few = omega (arith, ints, length-pushed parts part, fewer_positive rows left are.line full rows' step (length counts) width are.mirrored turned, are.few);
    })

pub parts-all : (counts : List (List ℤ)) (width : ℕ) (most : ℤ) (parts : List Part) (rows : List (List ℤ)) (left : ℤ) → AreParts counts width most parts rows left → left ≤ℤ pos 0 → IsDecomposition counts width most parts
parts-all counts width most parts rows left are end =
    let long : length rows ≡ length counts + width = are.mirrored.long in
    let none = line_sum-nonnegative rows left are.line in
    record {
      matchings = are.matchings;
      positive = are.positive;
      each_cell = λ i j li lj.
          let ki : i < length rows = omega (arith, li, long) in
          let kj : j < length rows = omega (arith, lj, long) in
          omega (arith, ints, are.each_cell i j li lj, cell-upto rows left are.line i j ki kj, are.line.nonnegative i j ki kj, end);
      whole = omega (arith, ints, are.whole, none, end);
      few = omega (arith, ints, are.few, cells-low (length counts) width rows);
    }

-- ---- rows that are freed

-- the rows before one are free or have a positive cell
pub record AreFreed (rows : List (List ℤ)) (m m' : List ℕ) (k : ℕ) : Type 0 where
  pub each_row : length m' ≡ length rows
  pub done : (i : ℕ) → i < k → (get_or m' i 0 ≡ length rows) ⊎ ((get_or m' i 0 < length rows) × (pos 1 ≤ℤ cell rows i (get_or m' i 0)))
  pub rest : (i : ℕ) → k ≤ i → i < length rows → get_or m' i 0 < length rows
  pub once : (j : ℕ) → j < length rows → occurrences j m' ≤ℤ pos 1

pub freed-none : (rows : List (List ℤ)) (m : List ℕ) → IsOnce (length rows) m → AreFreed rows m m 0
freed-none rows m is = record { each_row = is.each_row; done = λ i lt. absurd (omega (arith, lt)); rest = λ i le lt. is.within i lt; once = is.once }

pub freed-zero : (rows : List (List ℤ)) (m m' m'' : List ℕ) (k : ℕ) → k < length rows → AreFreed rows m m' k → m'' ≡ set m' k (length rows) → AreFreed rows m m'' (k + 1)
freed-zero rows m m' m'' k lt are e =
    let n : ℕ = length rows in
    let inside : k < length m' = omega (arith, lt, are.each_row) in
    rw e (record {
      each_row = length-set m' k n ∙ are.each_row;
      done = λ i l. elim (cases_eq i k) [
        | inl q ↦ inl (rw q (get_or-set_same m' k n 0 inside))
        | inr ne ↦ subst (λ (x : ℕ). (x ≡ n) ⊎ ((x < n) × (pos 1 ≤ℤ cell rows i x))) (sym (get_or-set_other m' k i n 0 ne)) (are.done i (omega (arith, l, ne)))
      ];
      rest = λ i le l. subst (λ (x : ℕ). x < n) (sym (get_or-set_other m' k i n 0 (λ q. absurd (omega (arith, q, le))))) (are.rest i (omega (arith, le)) l);
      once = λ j l. omega (arith, ints, occurrences-set m' k n j inside, hit-apart n j (λ q. absurd (omega (arith, q, l))), hit-nonnegative (get_or m' k 0) j, are.once j l);
    })

pub freed-kept : (rows : List (List ℤ)) (m m' m'' : List ℕ) (k : ℕ) → k < length rows → AreFreed rows m m' k → pos 1 ≤ℤ cell rows k (get_or m' k 0) → m'' ≡ m' → AreFreed rows m m'' (k + 1)
freed-kept rows m m' m'' k lt are up e = rw e (record {
  each_row = are.each_row;
  done = λ i l. elim (cases_eq i k) [
    | inl q ↦ rw q (inr (are.rest k (omega arith) lt, up))
    | inr ne ↦ are.done i (omega (arith, l, ne))
  ];
  rest = λ i le l. are.rest i (omega (arith, le)) l;
  once = are.once;
})

pub freed-all : (rows : List (List ℤ)) (m m' : List ℕ) (k : ℕ) → k ≡ length rows → AreFreed rows m m' k → AreMatched rows m' 0
freed-all rows m m' k e are = record {
  positive = record { each_row = are.each_row; each = λ i lt. are.done i (omega (arith, lt, e)) };
  once = λ j l. absurd (omega (arith, l));
  at_most = λ j from lt. are.once j lt;
}

pub perfect-once : (rows rows' : List (List ℤ)) (m : List ℕ) → length rows' ≡ length rows → IsPerfectMatching rows m → IsOnce (length rows') m
perfect-once rows rows' m long is = record {
  each_row = is.each_row ∙ sym long;
  within = λ i lt. omega (arith, is.within i (omega (arith, lt, long)), long);
  once = λ j lt. omega (arith, ints, is.each_column j (omega (arith, lt, long)));
}

pub is_above : (x : ℤ) → int_lt (pos 0) x ≡ true → pos 1 ≤ℤ x
is_above x e = grind (arith, ints)
