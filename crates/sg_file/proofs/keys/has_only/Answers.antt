use Rattle.std.proofs.Common.{◌∙◌}
use Rattle.sg_file.specs.Sections.{is_key_of}
use Rattle.sg_file.proofs.Steps.{has_only-view}
use Rattle.sg_file.proofs.keys.has_only.Goals as goal

pub returns : goal.returns
returns c = c.all_known.ensures ∙ has_only-view (is_key_of c.args.section) c.args.table.now.entries
