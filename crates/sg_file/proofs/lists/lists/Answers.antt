use Rattle.sg_format.specs.Lists.{named_lists_at}
use Rattle.sg_file.proofs.lists.lists.Goals as goal

pub returns-clause-gives : goal.returns-clause-gives
unfolding named_lists_at
returns-clause-gives c = λ names known. rw (← c.limit.ensures.exact, c.in_ok-values.ensures.gives) (c.lists_of.ensures.gives names known)
