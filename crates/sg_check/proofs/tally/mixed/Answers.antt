use Rattle.sg_check.proofs.Spans.{mixed_made}
use Rattle.sg_check.proofs.tally.mixed.Goals as goal

pub overflow_mul-result : goal.overflow_mul-result
overflow_mul-result c = (mixed_made c.args.total c.args.count c.args.uncovered c.args.more c.requires.counts c.requires.outside (record { low = c.requires.least; high = c.requires.most })).all

pub overflow_mul-result-2 : goal.overflow_mul-result-2
overflow_mul-result-2 c = (mixed_made c.args.total c.args.count c.args.uncovered c.args.more c.requires.counts c.requires.outside (record { low = c.requires.least; high = c.requires.most })).some

pub overflow_add-result : goal.overflow_add-result
overflow_add-result c = (mixed_made c.args.total c.args.count c.args.uncovered c.args.more c.requires.counts c.requires.outside (record { low = c.requires.least; high = c.requires.most })).sum

pub returns : goal.returns
returns c = (mixed_made c.args.total c.args.count c.args.uncovered c.args.more c.requires.counts c.requires.outside (record { low = c.requires.least; high = c.requires.most })).value
