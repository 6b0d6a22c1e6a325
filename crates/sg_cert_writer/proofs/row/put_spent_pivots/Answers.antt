use Rattle.sg_cert_writer.proofs.row.put_spent_pivots.Goals as goal

pub returns : goal.returns
returns g c = c.put_node_line.ensures
