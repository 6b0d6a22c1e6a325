use Rattle.std.proofs.Common.{◌∙◌, string_bytes, refl}
use Rattle.std.proofs.lemmas.Map.Text.{btree_map_updates_text}
use Rattle.sg_file.proofs.Numbers.{Numbers-insert}
use Rattle.sg_file.proofs.names.keep.Goals as goal

pub returns-in-Ok-clause-indexed : goal.returns-in-Ok-clause-indexed
returns-in-Ok-clause-indexed c = λ before known count.
    Numbers-insert c.args.index.now c.insert.new.self before c.args.name.now c.args.number known c.requires count
    (λ q. btree_map_updates_text (string_bytes c.in_ok-from_str.field-0) c.args.index.now c.insert.new.self _ c.in-Ok.ensures.updates q ∙ rw c.in_ok-from_str.ensures.ok refl)
