use Rattle.std.specs.Prelude.{FitsSigned}
use Rattle.std.specs.Int.{w64}
use Rattle.std.proofs.Common.{rules}
use Rattle.std.proofs.lemmas.Int.{to_z-of_z}
use Rattle.sg_cert.specs.Fields.{fields}
use Rattle.sg_cert_reader.proofs.Heads.{proved_done, proved_none}
use Rattle.sg_cert_reader.proofs.node.proved_in.Goals as goal

pub returns-in-Err : goal.returns-in-Err
returns-in-Err c =
    proved_none (fields c.args.line.now) c.in_ok-l.field-0 _ c.in_ok-v.v c.natural.new.self c.next_bound.new.left c.in_ok-shaped.ensures (rw c.after-left.ensures at c.in_ok-l.ensures.read) (rw c.after-left-2.ensures at c.in_ok-v.ensures) c.in-Err.ensures.read

pub returns-in-Ok : goal.returns-in-Ok
returns-in-Ok c =
    let b : FitsSigned w64 c.in_ok-v.v = search rules in
    simp to_z-of_z (proved_done (fields c.args.line.now) c.in_ok-l.field-0 c.in-Ok.n c.in_ok-v.v c.natural.new.self c.next_bound.new.left c.natural-2.new.self c.in_ok-shaped.ensures (rw c.after-left.ensures at c.in_ok-l.ensures.read) (rw c.after-left-2.ensures at c.in_ok-v.ensures) c.in-Ok.ensures.read)
