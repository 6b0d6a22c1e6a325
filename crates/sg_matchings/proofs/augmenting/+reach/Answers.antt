use Rattle.std.proofs.Common.{◌≡◌, ◌<◌, ◌∙◌, ℕ, List, length, arith, get_or, true, false, sym, set, subst, get_or-set_same}
use Rattle.std.proofs.Math.ListN.{length-set}
use Rattle.sg_matchings.specs.Tables.{cell}
use Rattle.sg_matchings.specs.Matchings.{is_seen, Gains, IsOnPositive}
use Rattle.sg_matchings.proofs.Paths.{gains-free, gains-along, keeps-mark, keeps-match, keeps-trans, unseen-before, unseen-set, tried-other, tried-blocked, cell_taken, not_positive}
use Rattle.sg_matchings.proofs.augmenting.+reach.Goals.{then-not-seen-row+then-is_positive+else-other-rows+else-reach, else-not-seen-row, else-not-seen-row-via-then-not-seen-row+else-is_positive, else-not-seen-row-via-else-not-seen-row}
use Rattle.sg_matchings.proofs.augmenting.+reach.Goals as goal

pub returns-then-other-rows-clause-keeps : goal.returns-then-other-rows-clause-keeps
returns-then-other-rows-clause-keeps t c =
    let s0 = c.args.seen.now in
    let m0 = c.args.matched.now in
    let s = c.loop-row.seen in
    let m = c.loop-row.matched in
    let k : ℕ = c.loop-row.row in
    let lt : k < length s = omega (arith, c.loop-row-test.true, c.loop-row.auto.seen, c.requires.seen) in
    let inv = c.loop-row.invariant in
    let before : is_seen s0 k ≡ false = unseen-before s0 s m0 m k inv.keeps c.if-not-seen-row.true in
    keeps-match s0 (set s k true) m0 m k c.args.column before (keeps-trans s0 s (set s k true) m0 m m inv.keeps (keeps-mark s m k lt c.if-not-seen-row.true))

pub returns-then-other-rows-clause-found : goal.returns-then-other-rows-clause-found
returns-then-other-rows-clause-found t c _ =
    let m = c.loop-row.matched in
    let k : ℕ = c.loop-row.row in
    let n : ℕ = length c.args.rows.now in
    let lt : k < length m = omega (arith, c.loop-row-test.true, c.loop-row.auto.matched, c.requires.matched.each_row) in
    subst (λ (x : List ℕ). Gains n c.args.column x (set m k c.args.column)) c.loop-row.invariant.same (gains-free n c.args.column k m lt c.if-other-rows.true)

pub reach-requires : goal.reach-requires
reach-requires t c =
    let s = c.loop-row.seen in
    let k : ℕ = c.loop-row.row in
    let lt : k < length s = omega (arith, c.loop-row-test.true, c.loop-row.auto.seen, c.requires.seen) in
    let less = unseen-set s k lt c.if-not-seen-row.true in
    let fewer = c.loop-row.invariant.keeps.fewer in
    let on : IsOnPositive c.args.rows.now c.loop-row.matched = subst (λ (x : List ℕ). IsOnPositive c.args.rows.now x) (sym c.loop-row.invariant.same) c.requires.matched in
    (omega (arith, less, fewer, c.decreases), (c.requires.table, (cell_taken c.args.rows.now c.loop-row.matched k c.loop-row-test.true on c.if-other-rows.false, (length-set s k true ∙ (c.loop-row.auto.seen ∙ c.requires.seen), on))))

pub returns-then-reach-clause-keeps : goal.returns-then-reach-clause-keeps
returns-then-reach-clause-keeps t c =
    let s0 = c.args.seen.now in
    let m0 = c.args.matched.now in
    let s = c.loop-row.seen in
    let m = c.loop-row.matched in
    let s2 = c.reach.new.seen in
    let m2 = c.reach.new.matched in
    let k : ℕ = c.loop-row.row in
    let lt : k < length s = omega (arith, c.loop-row-test.true, c.loop-row.auto.seen, c.requires.seen) in
    let inv = c.loop-row.invariant in
    let before : is_seen s0 k ≡ false = unseen-before s0 s m0 m k inv.keeps c.if-not-seen-row.true in
    keeps-match s0 s2 m0 m2 k c.args.column before
    (keeps-trans s0 s s2 m0 m m2 inv.keeps (keeps-trans s (set s k true) s2 m m m2 (keeps-mark s m k lt c.if-not-seen-row.true) c.reach.ensures.keeps))

pub returns-then-reach-clause-found : goal.returns-then-reach-clause-found
returns-then-reach-clause-found t c _ =
    let s = c.loop-row.seen in
    let m = c.loop-row.matched in
    let m2 = c.reach.new.matched in
    let k : ℕ = c.loop-row.row in
    let n : ℕ = length c.args.rows.now in
    let lt_s : k < length s = omega (arith, c.loop-row-test.true, c.loop-row.auto.seen, c.requires.seen) in
    let lt : k < length m2 = omega (arith, c.loop-row-test.true, c.reach.ensures.matched.each_row) in
    let stays : get_or m2 k 0 ≡ get_or m k 0 = c.reach.ensures.keeps.stays_matched k (get_or-set_same s k true false lt_s) in
    subst (λ (x : List ℕ). Gains n c.args.column x (set m2 k c.args.column)) c.loop-row.invariant.same
    (gains-along n c.args.column (get_or m k 0) k m m2 lt stays (c.reach.ensures.found c.if-reach.true))

pub loop-row-preserved : goal.loop-row-preserved
loop-row-preserved t c =
    let rows = c.args.rows.now in
    let s0 = c.args.seen.now in
    let m0 = c.args.matched.now in
    let s = c.loop-row.seen in
    let m = c.loop-row.matched in
    let k : ℕ = c.loop-row.row in
    let inv = c.loop-row.invariant in
    let lt : k < length s = omega (arith, c.loop-row-test.true, c.loop-row.auto.seen, c.requires.seen) in
    let on : IsOnPositive rows m = subst (λ (x : List ℕ). IsOnPositive rows x) (sym inv.same) c.requires.matched in
    elim c.if-not-seen-row.branch [
      | then-not-seen-row+then-is_positive+else-other-rows+else-reach w ↦
          tried-blocked rows c.args.column s0 s w.reach.new.seen c.if-not-seen-row.seen m0 m w.reach.new.matched c.if-not-seen-row.matched k w.seen-is w.matched-is
          lt w.if-not-seen-row.true (cell_taken rows m k c.loop-row-test.true on w.if-other-rows.false) w.reach.ensures.keeps (w.reach.ensures.blocked w.if-reach.false) inv
      | else-not-seen-row w ↦ tried-other rows c.args.column s0 s c.if-not-seen-row.seen m0 m c.if-not-seen-row.matched k w.seen-is w.matched-is
          (elim w.else-not-seen-row.branch [
            | else-not-seen-row-via-then-not-seen-row+else-is_positive v ↦ (λ p. absurd (not_positive (cell rows k c.args.column) (sym v.is_positive.ensures ∙ v.if-is_positive.false) p))
            | else-not-seen-row-via-else-not-seen-row v ↦ (λ p. v.if-not-seen-row.false)
          ]) inv
    ]
