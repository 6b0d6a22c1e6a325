-- A commitment that covers each target in just what a coverage point's counts ask for reaches the bound of the multipliers' fact.
use Rattle.std.proofs.Common.{◌≡◌, ◌⊎◌, ◌≢◌, ℕ, ◌+◌, ◌<◌, ◌≤◌, List, [], ◌∷◌, length, sym, ◌∙◌, ap, refl, arith, inl, inr, slice_index_or}
use Rattle.std.specs.Prelude.{ℤ, pos, ◌+ℤ◌, ◌-ℤ◌, ◌*ℤ◌, ◌≤ℤ◌, ◌<ℤ◌}
use Rattle.std.proofs.lemmas.Int.{ints}
use Rattle.sg_num.proofs.Ring.{var, ◌⊕◌, ◌⊖◌, ◌⊗◌, ring}
use Rattle.sg_num.proofs.Signs.{cancel, mul-nonneg}
use Rattle.sg_model.specs.declared.kind.Kind.TheVariants.{Security}
use Rattle.sg_model.specs.declared.ticket.Ticket.{Ticket}
use Rattle.sg_model.specs.Sums.{total}
use Rattle.sg_model.specs.Games.{Game, action_count, attacker, payoff}
use Rattle.sg_model.specs.Limits.{IsGame}
use Rattle.sg_model.specs.Payoffs.{shift_of}
use Rattle.sg_model.specs.Commitments.{cover_count, sum_a, sum_d, weight_total}
use Rattle.sg_model.proofs.Best.{is_best-from}
use Rattle.sg_model.proofs.Covers.{weight_total-nonneg}
use Rattle.sg_model.proofs.Forms.{no_matrix}
use Rattle.sg_model.proofs.Promises.{peopled}
use Rattle.sg_model.proofs.Sums.{total-same, total-scaled}
use Rattle.sg_commit.specs.Committed.{Committed, IsCommitted}
use Rattle.sg_search.specs.Results.{Reaches}
use Rattle.sg_game.specs.Counting.{IsSingle}
use Rattle.sg_tree.specs.declared.fix.Fix.{Fix}
use Rattle.sg_bounds.specs.Coverage as table
use Rattle.sg_bounds.specs.Facts.{shifted_sum}
use Rattle.sg_bounds.specs.Regions.{IsFix, act_of, fixed}
use Rattle.sg_bounds.proofs.Caps.{empty_region}
use Rattle.sg_split.specs.Matched.{IsMatched}
use Rattle.sg_linear.proofs.Lex.{same_or}
use Rattle.sg_rows.specs.Rows.{place}
use Rattle.sg_lp.specs.States.{IsTableau, Tableau}
use Rattle.sg_programs.specs.CoverPointLaws.{KeepsTable, MatchedReachesFact, NoCoverMeansEmpty}
use Rattle.sg_programs.specs.CoverPoints.{AreCountsUnder, amount_of, cover_whole, coverage_sum}
use Rattle.sg_programs.specs.CoverPrograms.{cover_fact, cover_program}
use Rattle.sg_programs.proofs.CoverCounts.{single-secure}
use Rattle.sg_programs.proofs.CoverFacts.{final_is_cover_fact}
use Rattle.sg_programs.proofs.CoverKeeps.{point_keeps_table}
use Rattle.sg_programs.proofs.CoverRows.{own-target}
use Rattle.sg_programs.proofs.CoverSized.{cover_is_sized}
use Rattle.sg_programs.proofs.CoverTickets.{attacker-sum, defender-sum}
use Rattle.sg_programs.proofs.PointSums.{le-cancel, whole-above}

-- ---- sums over tickets by cover counts

-- over other tickets, of which a target has the same share
other-tickets : (inside outside all part tickets count : ℤ) → count *ℤ all ≡ part *ℤ tickets → all *ℤ coverage_sum inside outside tickets count ≡ tickets *ℤ coverage_sum inside outside all part
other-tickets inside outside all part tickets count e =
    ring (inside ∷ outside ∷ all ∷ tickets ∷ count ∷ []) (var 2 ⊗ (var 1 ⊗ var 3 ⊕ (var 0 ⊖ var 1) ⊗ var 4)) ((var 1 ⊗ var 3) ⊗ var 2 ⊕ (var 0 ⊖ var 1) ⊗ (var 4 ⊗ var 2)) tt
    ∙ ap (λ (z : ℤ). ((outside *ℤ tickets) *ℤ all) +ℤ ((inside -ℤ outside) *ℤ z)) e
    ∙ ring (inside ∷ outside ∷ all ∷ tickets ∷ part ∷ []) ((var 1 ⊗ var 3) ⊗ var 2 ⊕ (var 0 ⊖ var 1) ⊗ (var 4 ⊗ var 3)) (var 3 ⊗ (var 1 ⊗ var 2 ⊕ (var 0 ⊖ var 1) ⊗ var 4)) tt

-- a larger number has a larger product with one not below 0
times-le : (d x y : ℤ) → pos 0 ≤ℤ d → x ≤ℤ y → (d *ℤ x) ≤ℤ (d *ℤ y)
times-le d x y low le =
    let p = mul-nonneg d (y -ℤ x) low (omega (arith, ints, le)) in
    let e : d *ℤ (y -ℤ x) ≡ (d *ℤ y) -ℤ (d *ℤ x) = ring (d ∷ x ∷ y ∷ []) (var 0 ⊗ (var 2 ⊖ var 1)) (var 0 ⊗ var 2 ⊖ var 0 ⊗ var 1) tt in
    omega (arith, ints, p, e)

-- ---- the commitment

module _ (g : Game) (h : IsGame g) (unscaled : g.scale ≡ pos 0) (single : IsSingle g) (fix : Fix) (is_fix : IsFix g fix) (t : Tableau) (st : IsTableau (cover_program g fix) t) (above : pos 0 <ℤ place t.y 0)
    (counts : List (List ℤ)) (are : AreCountsUnder g (amount_of g fix t) counts) (k : Committed) (is_k : IsCommitted k) (matched : IsMatched g counts (cover_whole g fix t) k) where
  secure : g.kind ≡ Security
  secure = single-secure g h single

  keeps : KeepsTable g fix t
  keeps = point_keeps_table g h unscaled secure fix is_fix t st

  abbrev amount : table.Column → ℤ
  amount c = amount_of g fix t c

  abbrev all : ℤ
  all = amount table.always

  abbrev kts : List Ticket
  kts = k.tickets

  abbrev tickets : ℤ
  tickets = weight_total kts

  all-above : pos 0 <ℤ all
  all-above = let w = whole-above (cover_program g fix) t (cover_is_sized g h unscaled secure fix is_fix) st in let e = keeps.filled above in omega (arith, ints, w, e)

  shares : (u : ℕ) → 1 ≤ u → u ≤ length g.goals → cover_count g kts u *ℤ all ≡ amount (table.covering u) *ℤ tickets
  shares u low high =
      ap (λ (z : ℤ). cover_count g kts u *ℤ z) (keeps.filled above) ∙ matched.covered u low high ∙ ap (λ (z : ℤ). z *ℤ k.total) (are.asked_is u low high) ∙ ap (λ (z : ℤ). amount (table.covering u) *ℤ z) is_k.sum

  defender : (l u : ℕ) → 1 ≤ u → u ≤ length g.goals → all *ℤ sum_d g kts l u ≡ tickets *ℤ coverage_sum (payoff g l u).dc (payoff g l u).du all (amount (table.covering u))
  defender l u low high =
      ap (λ (z : ℤ). all *ℤ z) (defender-sum g secure kts l u)
      ∙ other-tickets (payoff g l u).dc (payoff g l u).du all (amount (table.covering u)) tickets (cover_count g kts u) (shares u low high)

  attack : (l u : ℕ) → 1 ≤ u → u ≤ length g.goals → all *ℤ sum_a g kts l u ≡ tickets *ℤ coverage_sum (payoff g l u).ac (payoff g l u).au all (amount (table.covering u))
  attack l u low high =
      ap (λ (z : ℤ). all *ℤ z) (attacker-sum g secure kts l u)
      ∙ other-tickets (payoff g l u).ac (payoff g l u).au all (amount (table.covering u)) tickets (cover_count g kts u) (shares u low high)

  tickets-low : pos 0 ≤ℤ tickets
  tickets-low = weight_total-nonneg kts is_k.positive

  targets-are : (l : ℕ) → action_count g l ≡ length g.goals
  targets-are l = rw (no_matrix g secure) refl

  no-gain : (l b : ℕ) → fix.first ≤ l → l < fix.first + length fix.acts → 1 ≤ b → b ≤ action_count g l → sum_a g kts l b ≤ℤ sum_a g kts l (act_of fix l)
  no-gain l b low high from_one action = go (same_or b (act_of fix l))
    where
      own : (1 ≤ act_of fix l) × (act_of fix l ≤ length g.goals)
      own = own-target g secure fix is_fix l low high

      go : (b ≡ act_of fix l) ⊎ (b ≢ act_of fix l) → sum_a g kts l b ≤ℤ sum_a g kts l (act_of fix l)
      go (inl e) = rw e (omega (arith, ints))
      go (inr ne) =
          let less = times-le tickets _ _ tickets-low (keeps.gains l b (record { from_first = low; in_range = high; from_one = from_one; action = action; other = ne })) in
          le-cancel all (sum_a g kts l b) (sum_a g kts l (act_of fix l)) all-above
          (omega (arith, ints, less, attack l b from_one (omega (arith, action, targets-are l)), attack l (act_of fix l) own.0 own.1))

  worth : all *ℤ shifted_sum g fix kts
      ≡ tickets *ℤ total (λ (q : ℕ × ℕ). (attacker g q.0).prior *ℤ (coverage_sum (payoff g q.0 q.1).dc (payoff g q.0 q.1).du all (amount (table.covering q.1)) +ℤ (shift_of g *ℤ all))) (fixed fix)
  worth =
      let mine : ℕ × ℕ → ℤ = λ q. (attacker g q.0).prior *ℤ (sum_d g kts q.0 q.1 +ℤ (shift_of g *ℤ tickets)) in
      let theirs : ℕ × ℕ → ℤ = λ q. (attacker g q.0).prior *ℤ (coverage_sum (payoff g q.0 q.1).dc (payoff g q.0 q.1).du all (amount (table.covering q.1)) +ℤ (shift_of g *ℤ all)) in
      sym (total-scaled mine all (fixed fix))
      ∙ total-same (λ (q : ℕ × ℕ). all *ℤ mine q) (λ (q : ℕ × ℕ). tickets *ℤ theirs q) (fixed fix)
      (λ i d lt.
      let q : ℕ × ℕ = slice_index_or (fixed fix) i d in
      let act = is_fix.acts i d lt in
      of-type (attacker g q.0).prior (shift_of g) (sum_d g kts q.0 q.1) (coverage_sum (payoff g q.0 q.1).dc (payoff g q.0 q.1).du all (amount (table.covering q.1))) (defender q.0 q.1 act.0 (omega (arith, act.1, targets-are q.0))))
      ∙ total-scaled theirs tickets (fixed fix)
    where
      of-type : (prior shift s c : ℤ) → all *ℤ s ≡ tickets *ℤ c → all *ℤ (prior *ℤ (s +ℤ (shift *ℤ tickets))) ≡ tickets *ℤ (prior *ℤ (c +ℤ (shift *ℤ all)))
      of-type prior shift s c e =
          ring (prior ∷ shift ∷ s ∷ all ∷ tickets ∷ []) (var 3 ⊗ (var 0 ⊗ (var 2 ⊕ var 1 ⊗ var 4))) (var 0 ⊗ (var 3 ⊗ var 2 ⊕ var 1 ⊗ (var 4 ⊗ var 3))) tt
          ∙ ap (λ (z : ℤ). prior *ℤ (z +ℤ (shift *ℤ (tickets *ℤ all)))) e
          ∙ ring (prior ∷ shift ∷ c ∷ all ∷ tickets ∷ []) (var 0 ⊗ (var 4 ⊗ var 2 ⊕ var 1 ⊗ (var 4 ⊗ var 3))) (var 4 ⊗ (var 0 ⊗ (var 2 ⊕ var 1 ⊗ var 3))) tt

  equal : t.rho *ℤ shifted_sum g fix kts ≡ place t.y 0 *ℤ tickets
  equal =
      let sum : ℤ = total (λ (q : ℕ × ℕ). (attacker g q.0).prior *ℤ (coverage_sum (payoff g q.0 q.1).dc (payoff g q.0 q.1).du all (amount (table.covering q.1)) +ℤ (shift_of g *ℤ all))) (fixed fix) in
      cancel all (t.rho *ℤ shifted_sum g fix kts) (place t.y 0 *ℤ tickets) all-above
      (ring (all ∷ t.rho ∷ shifted_sum g fix kts ∷ []) (var 0 ⊗ (var 1 ⊗ var 2)) (var 1 ⊗ (var 0 ⊗ var 2)) tt
      ∙ ap (λ (z : ℤ). t.rho *ℤ z) worth
      ∙ ring (t.rho ∷ tickets ∷ sum ∷ []) (var 0 ⊗ (var 1 ⊗ var 2)) (var 1 ⊗ (var 0 ⊗ var 2)) tt
      ∙ ap (λ (z : ℤ). tickets *ℤ z) (keeps.value ∙ ap (λ (z : ℤ). z *ℤ place t.y 0) (sym (keeps.filled above)))
      ∙ ring (tickets ∷ all ∷ place t.y 0 ∷ []) (var 0 ⊗ (var 1 ⊗ var 2)) (var 1 ⊗ (var 2 ⊗ var 0)) tt)

  pub reaches : Reaches g fix (cover_fact t.y t.rho) kts
  reaches = record {
    commitment = matched.commitment;
    region = λ l low high. is_best-from g kts l (act_of fix l) (λ b from_one action. no-gain l b low high from_one action);
    equal = equal;
  }

pub matched_reaches_fact : MatchedReachesFact
matched_reaches_fact g h unscaled single fix is_fix t st above counts are k is_k matched = reaches g h unscaled single fix is_fix t st above counts are k is_k matched

pub no_cover_means_empty : NoCoverMeansEmpty
no_cover_means_empty g h security fix is_fix t st final none k is_k region = empty_region g (peopled g h) fix is_fix (cover_fact t.y t.rho) (final_is_cover_fact g security fix t st final) none k is_k region
