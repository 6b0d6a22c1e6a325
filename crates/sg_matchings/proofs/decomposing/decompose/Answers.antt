use Rattle.std.proofs.Common.{◌∙◌, arith, ap, length}
use Rattle.sg_matchings.proofs.Perfect.{free_at}
use Rattle.sg_matchings.proofs.decomposing.decompose.Goals as goal

pub take_all-requires-clause-matched : goal.take_all-requires-clause-matched
take_all-requires-clause-matched c =
    let rows = c.as_mut_slice.ensures.value in
    free_at c.as_mut_slice.result.now c.as_mut_slice-2.result.now c.len-2.result c.len.result (omega (arith, c.len-2.ensures, ap length rows)) (omega (arith, c.len.ensures, ap length rows))
    (c.as_mut_slice-2.ensures.value ∙ c.in_ok-matched.ensures.items_if_clones_equal (λ y h. h))
