use Rattle.std.proofs.Common.{◌≡◌, ◌<◌, ℕ, pos, length}
use Rattle.std.specs.Prelude.{slice_index_or}
use Rattle.sg_bounds.specs.Leaves.{rest_of}
use Rattle.sg_upper.proofs.rest.rests_of.Given as goal

-- the numbers of the first counts
abbrev pub invariant-loop-n : goal.invariant-loop-n
invariant-loop-n l = record {
  nine : length l.by_fixed ≡ 9;
  made : (k : ℕ) → k < l.n → slice_index_or l.by_fixed k (pos 0) ≡ rest_of l.game l.caps k;
}
