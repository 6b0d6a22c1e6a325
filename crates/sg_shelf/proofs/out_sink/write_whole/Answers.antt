use Rattle.std.proofs.Common.{rules}
use Rattle.sg_shelf.proofs.Written.{Appends-more}
use Rattle.sg_shelf.proofs.out_sink.write_whole.Goals as goal

pub loop-taken-preserved : goal.loop-taken-preserved
loop-taken-preserved g c =
    let (within, so_far, no_fault) = c.loop-taken.invariant in
    (search rules, Appends-more _ _ _ c.args.piece.now c.loop-taken.taken c.in-Some.count so_far c.in-Some.ensures.bytes, search rules)
