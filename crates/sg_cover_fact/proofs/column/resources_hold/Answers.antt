use Rattle.std.proofs.Common.{ℕ, pos, arith, refl, slice_index_or}
use Rattle.sg_cover_fact.specs.Holding.{ResourceHolds}
use Rattle.sg_cover_fact.proofs.Columns.{from-one}
use Rattle.sg_cover_fact.proofs.column.resources_hold.Goals as goal

pub returns : goal.returns
returns c =
    (λ _ r known. from-one (λ (n : ℕ). ResourceHolds c.args.game.now c.args.held.now n (slice_index_or c.args.spent.now n (pos 0))) c.loop-k.k c.loop-k.invariant r known.0 (omega (arith, known.1, c.resources-k-end.ensures.count)), λ _. refl)
