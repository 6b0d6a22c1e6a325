use Rattle.sg_search.proofs.Told.{lanes_are_told, told_once}
use Rattle.sg_search.proofs.ready_laws.lanes_are_told.Goals as goal

pub returns : goal.returns
returns c = record { there = lanes_are_told; once = told_once }
