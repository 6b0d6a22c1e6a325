use Rattle.std.proofs.Common.{◌∙◌, ap, sym, map}
use Rattle.sg_words.specs.Usages.{usage_of}
use Rattle.sg_words.proofs.Calls.{first_named, row_found}
use Rattle.sg_words.proofs.reading.read_words.Goals as goal

pub arguments_given-requires : goal.arguments_given-requires
arguments_given-requires c =
    let row = row_found (map usage_of c.args.usages.now) c.as_str.result.now (usage_of c.in-Some.usage.now) c.requires c.in-Some.ensures in
    record {
      table = row.table;
      named = first_named c.in-Some.usage.now.name.now c.args.words.now c.name-item.result c.in-len1-up.len_at_least c.name-item.is (sym c.as_str.ensures.value ∙ sym row.named);
    }
