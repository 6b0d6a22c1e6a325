use Rattle.std.proofs.Common.{◌≡◌, drop, map}
use Rattle.sg_words.specs.Usages.{usage_named, usage_of}
use Rattle.sg_words.proofs.reading.usage_named.Given as goal

abbrev pub invariant-loop-usage : goal.invariant-loop-usage
invariant-loop-usage l = usage_named (map usage_of (drop l.usage-index l.usages)) l.name ≡ usage_named (map usage_of l.usages) l.name
