use Rattle.std.proofs.Common.{rules}
use Rattle.std.proofs.lemmas.List.Sorted.{answers_always}
use Rattle.sg_commit.proofs.Orders.{comes_before, comes_before-order}
use Rattle.sg_commit.proofs.joining.sort.Goals as goal

pub returns-clause-sorted : goal.returns-clause-sorted
returns-clause-sorted c = c.sort_unstable_by.ensures.sorted comes_before comes_before-order (answers_always _ _ _ (λ f a r g h. search rules))
