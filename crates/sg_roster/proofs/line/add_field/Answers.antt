use Rattle.sg_roster.proofs.Rowed.{field_added}
use Rattle.sg_roster.proofs.line.add_field.Goals as goal
use Rattle.sg_roster.proofs.line.add_field.Goals.{in-Ok, in-Err}

pub returns : goal.returns
returns c = elim c.match-write_field.branch [
  | in-Ok w ↦
      rw w.result-is (field_added c.args.writer.now c.write_field.new.self c.args.field.now (record {
        text = w.in-Ok.ensures.text;
        same = w.in-Ok.ensures.same;
        count = w.in-Ok.ensures.count;
        wrote = w.in-Ok.ensures.wrote;
        stays = w.in-Ok.ensures.stays;
      }))
  | in-Err w ↦ rw w.result-is tt
]
