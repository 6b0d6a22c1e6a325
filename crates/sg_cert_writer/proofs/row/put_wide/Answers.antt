use Rattle.sg_cert_writer.proofs.row.put_wide.Goals as goal

pub returns : goal.returns
returns g c = c.put_value_line.ensures
