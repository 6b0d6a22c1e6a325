use Rattle.std.proofs.Common.{pos, get_or, ℤ}
use Rattle.std.specs.Ordering.{int_cmp, is_lt}
use Rattle.std.proofs.lemmas.Cmp.{int_cmp_total}
use Rattle.std.proofs.lemmas.List.Sorted.{sorted_far, ranks_by}
use Rattle.sg_split.proofs.Tickets.{not_less}
use Rattle.sg_split.proofs.laying.sort.Goals as goal

pub returns-clause-rising : goal.returns-clause-rising
returns-clause-rising c = λ i j le lt.
    let xs = c.sort_unstable.new.self in
    not_less (get_or xs j (pos 0)) (get_or xs i (pos 0))
    (sorted_far (λ (x y : ℤ). is_lt (int_cmp x y)) (ranks_by int_cmp_total (λ (x : ℤ). x)) xs c.sort_unstable.ensures.sorted i j (pos 0) le lt)
