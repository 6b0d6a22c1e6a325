-- From tickets of matchings to a commitment.
use Rattle.std.proofs.Common.{◌≡◌, ◌∙◌, ◌≢◌, ℕ, zero, suc, ◌+◌, ◌<◌, ◌≤◌, false, List, [], ◌∷◌, map, length, get_or, ap, subst, sym, refl, arith, bytes_eq}
use Rattle.std.specs.Prelude.{ℤ, pos, ◌+ℤ◌, ◌*ℤ◌, ◌≤ℤ◌, All, AllPairs, unsigned_abs}
use Rattle.std.specs.Int.{◌∣◌}
use Rattle.std.specs.List.{Contains}
use Rattle.std.proofs.lemmas.Int.{ints, unsigned_abs-mul}
use Rattle.std.proofs.lemmas.List.Elements.{All-map, All-weaker}
use Rattle.std.proofs.Math.Nat.{dvd-mul_left}
use Rattle.sg_model.specs.declared.ticket.Ticket.{Ticket}
use Rattle.sg_model.specs.Sums.{total}
use Rattle.sg_model.specs.Games.{Game, is_matrix, resource_count}
use Rattle.sg_game.specs.Counts.{target_count}
use Rattle.sg_model.specs.Limits.{IsGame}
use Rattle.sg_model.specs.Plays.{IsLegal, covers}
use Rattle.sg_model.specs.Commitments.{cover_count, scaled, weight_on, weight_total}
use Rattle.sg_model.specs.OptimalityLaws.{AreOneMix}
use Rattle.sg_model.proofs.Ints.{v, times, same_by, mul-le}
use Rattle.sg_model.proofs.Joined.{same_cover_count, same_weight_total}
use Rattle.sg_model.proofs.Scaled.{weight_total-scaled}
use Rattle.sg_commit.specs.Committed.{Committed, IsCommitted}
use Rattle.sg_commit.specs.Parts.{AreMultiple}
use Rattle.sg_commit.proofs.Kept.{has_weight, kept, legal_parts, scaled-passing}
use Rattle.sg_matchings.specs.declared.part.Part.{Part}
use Rattle.sg_linear.specs.Sums.{sum_below}
use Rattle.sg_matchings.specs.Tables.{cell}
use Rattle.sg_matchings.specs.Padding.{AreWithin, column_total}
use Rattle.sg_matchings.specs.Decompositions.{IsDecomposition, IsMatching, cell_weight}
use Rattle.sg_matchings.proofs.Places.{sum_below-same}
use Rattle.sg_split.specs.ByTarget.{AreServed, AreTargetRows, AreTicketsFor, HasChoiceTo}
use Rattle.sg_split.specs.Matched.{AreChoiceCounts, IsMatched, asked, positive_entries}
use Rattle.sg_split.proofs.Few.{Contains-map, few_plays}
use Rattle.sg_split.proofs.Legal.{holds-weighed}
use Rattle.sg_split.proofs.Served.{tickets_cover, tickets_legal, tickets_many, tickets_positive, tickets_weigh}
use Rattle.sg_split.proofs.TargetRows.{cell_some, column_is, positive_few}

pub targets_count : (g : Game) (t : ℕ) → is_matrix g ≡ false → t ≡ target_count g → t ≡ length g.goals
targets_count g t form e = rw form at e

pub within_as : (rows rows' : List (List ℤ)) (m t : ℕ) (most d : ℤ) → rows' ≡ rows → t ≡ m → d ≡ most → AreWithin rows m most → AreWithin rows' t d
within_as rows rows' m t most d e f q h =
    subst (λ (x : List (List ℤ)). AreWithin x t d) (sym e) (subst (λ (x : ℕ). AreWithin rows x d) (sym f) (subst (λ (x : ℤ). AreWithin rows m x) (sym q) h))

pub decomposed_as : (rows rows' : List (List ℤ)) (m t : ℕ) (most d : ℤ) → rows' ≡ rows → t ≡ m → d ≡ most → (parts : List Part) → IsDecomposition rows' t d parts → IsDecomposition rows m most parts
decomposed_as rows rows' m t most d e f q parts h =
    subst (λ (x : ℤ). IsDecomposition rows m x parts) q (subst (λ (x : ℕ). IsDecomposition rows x d parts) f (subst (λ (x : List (List ℤ)). IsDecomposition x t d parts) e h))

-- the columns of each matching can be served
served : (g : Game) (game : IsGame g) (counts : List (List ℤ)) (tickets : ℤ) (are : AreChoiceCounts g counts tickets) (rows : List (List ℤ)) (target : AreTargetRows g counts rows)
    → (columns : List ℕ) → IsMatching rows (length g.goals) columns → AreServed g columns
served g game counts tickets are rows target columns is = record {
  one_each = is.each_row ∙ target.long;
  each = λ i li low.
      let inside : i < length rows = omega (arith, li, target.long) in
      let p : suc i ≡ i + 1 = omega arith in
      let q : suc (get_or columns i 0) ≡ get_or columns i 0 + 1 = omega arith in
      subst (λ (r : ℕ). HasChoiceTo g r (get_or columns i 0 + 1)) p (subst (λ (t : ℕ). HasChoiceTo g (suc i) t) q (cell_some g game counts tickets are rows target i (get_or columns i 0) inside low (is.positive i inside low)));
}

pub all_served : (g : Game) (game : IsGame g) (counts : List (List ℤ)) (tickets : ℤ) (are : AreChoiceCounts g counts tickets) (rows : List (List ℤ)) (target : AreTargetRows g counts rows)
    → (parts : List Part) → IsDecomposition rows (length g.goals) tickets parts → All (λ (part : Part). AreServed g part.columns) parts
all_served g game counts tickets are rows target parts is =
    All-weaker (λ (part : Part). IsMatching rows (length g.goals) part.columns) (λ (part : Part). AreServed g part.columns) (λ part m. served g game counts tickets are rows target part.columns m) parts is.matchings

module _ (g : Game) (game : IsGame g) (counts : List (List ℤ)) (tickets : ℤ) (are : AreChoiceCounts g counts tickets) (rows : List (List ℤ)) (target : AreTargetRows g counts rows)
    (parts : List Part) (is : IsDecomposition rows (length g.goals) tickets parts) (xs : List Ticket) (for : AreTicketsFor g parts xs) where
  pub whole_weight : weight_total xs ≡ tickets
  whole_weight = tickets_weigh g game are.single rows target.long parts xs for ∙ is.whole

  pub all_positive : All (λ (x : Ticket). pos 1 ≤ℤ x.weight) xs
  all_positive = tickets_positive g game are.single rows target.long parts xs for is.positive

  covered_in : (t : ℕ) → t < length g.goals → cover_count g xs (suc t) ≡ asked g counts (suc t)
  covered_in t lt =
      tickets_cover g game are.single rows target.long t lt parts xs for is.matchings
      ∙ (sum_below-same (resource_count g) (λ i. total (cell_weight i t) parts) (λ i. cell rows i t) (λ i li. is.each_cell i t (omega (arith, li, target.long)) lt)
      ∙ (ap (λ (n : ℕ). sum_below n (λ i. cell rows i t)) (sym target.long) ∙ column_is g game counts tickets are rows target t lt))

  pub matched_is : (k : Committed) → AreMultiple xs k.tickets → IsCommitted k → IsMatched g counts tickets k
  matched_is k multiple rules =
      let c : ℤ = multiple.0 in
      let mix : AreOneMix xs (scaled c k.tickets) = multiple.2 in
      let whole : tickets ≡ c *ℤ k.total =
      sym whole_weight ∙ (same_weight_total g xs (scaled c k.tickets) mix ∙ (weight_total-scaled c k.tickets ∙ ap (λ (z : ℤ). c *ℤ z) (sym rules.sum))) in
      let count : (t : ℕ) → t < length g.goals → asked g counts (suc t) ≡ c *ℤ cover_count g k.tickets (suc t) = λ t lt.
      sym (covered_in t lt) ∙ (same_cover_count g xs (scaled c k.tickets) mix (suc t) ∙ scaled-passing (λ p. covers g p (suc t)) c k.tickets) in
      let share : (t : ℕ) → t < length g.goals → cover_count g k.tickets (suc t) *ℤ tickets ≡ asked g counts (suc t) *ℤ k.total = λ t lt.
      let a : ℤ = cover_count g k.tickets (suc t) in
      let e : a *ℤ tickets ≡ a *ℤ (c *ℤ k.total) = ap (λ (z : ℤ). a *ℤ z) whole in
      let f : a *ℤ (c *ℤ k.total) ≡ (c *ℤ a) *ℤ k.total = same_by (times (v a) (times (v c) (v k.total))) (times (times (v c) (v a)) (v k.total)) (omega arith) in
      e ∙ (f ∙ ap (λ (z : ℤ). z *ℤ k.total) (sym (count t lt))) in
      let commitment = kept g k rules (legal_parts g xs k rules multiple (tickets_legal g game are.single rows target.long parts xs for)) in
      record {
        commitment = commitment;
        covered = λ t low high. from_one (λ x. cover_count g k.tickets x *ℤ tickets ≡ asked g counts x *ℤ k.total) share t low high;
        divides = subst (λ (m : ℕ). unsigned_abs k.total ∣ m) (sym (ap unsigned_abs whole ∙ unsigned_abs-mul c k.total)) (dvd-mul_left (unsigned_abs k.total) (unsigned_abs c));
        few = omega (
          arith,
          ints,
          few_plays xs k.tickets rules.positive commitment.distinct multiple,
          tickets_many g game are.single rows target.long parts xs for,
          is.few,
          positive_few g game counts tickets are rows target,
          target.long,
        );
      }
    where
      from_one : (P : ℕ → Type 0) → ((t : ℕ) → t < length g.goals → P (suc t)) → (t : ℕ) → 1 ≤ t → t ≤ length g.goals → P t
      from_one P h zero low high = absurd (omega (arith, low))
      from_one P h (suc t) low high = h t (omega (arith, high))
