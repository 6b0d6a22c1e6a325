use Rattle.sg_cert_writer.proofs.row.put_spent_looks.Goals as goal

pub returns : goal.returns
returns g c = c.put_step_line.ensures
