use Rattle.std.proofs.Common.{◌∙◌, ◌-◌}
use Rattle.sg_lanes.proofs.Toplevel.{set-back}
use Rattle.sg_lanes.proofs.tops.put_cap.Goals as goal

pub returns-in-Err-clause-kept : goal.returns-in-Err-clause-kept
returns-in-Err-clause-kept c = set-back c.args.caps.now.items (c.args.cap.l - 2) c.replace-old.new.dest c.replace-old.result _ (c.replace-old.ensures.value ∙ c.index_mut.ensures.value)
