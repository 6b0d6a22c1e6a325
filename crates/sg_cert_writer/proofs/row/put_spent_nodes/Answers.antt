use Rattle.sg_cert_writer.proofs.row.put_spent_nodes.Goals as goal

pub returns : goal.returns
returns g c = c.put_number_line.ensures
