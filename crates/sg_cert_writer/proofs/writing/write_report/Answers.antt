use Rattle.sg_cert.specs.Text.{report_text}
use Rattle.sg_cert_writer.proofs.Adding.{whole_end, front_end}
use Rattle.sg_cert_writer.proofs.writing.write_report.Goals as goal

pub returns-in-Ok-clause-whole : goal.returns-in-Ok-clause-whole
returns-in-Ok-clause-whole g c = whole_end c.flush.result _ _ _ _ _ _ (report_text c.args.report.now) c.new-block.ensures c.in-Ok.ensures c.flush.ensures.text c.flush.ensures.empty

pub returns-in-Ok-clause-front : goal.returns-in-Ok-clause-front
returns-in-Ok-clause-front g c = front_end c.flush.result _ _ _ _ _ _ (report_text c.args.report.now) c.new-block.ensures c.in-Ok.ensures c.flush.ensures.text
