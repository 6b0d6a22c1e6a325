use Rattle.std.proofs.Common.{◌≡◌, drop, map}
use Rattle.sg_words.specs.Kinds.{kind_written}
use Rattle.sg_words.specs.Usages.{are_of}
use Rattle.sg_words.proofs.arguments.are_of.Given as goal

abbrev pub invariant-loop-k : goal.invariant-loop-k
invariant-loop-k l = are_of (map kind_written (drop l.k l.kinds)) (map (λ text. text.now) (drop l.k l.texts)) ≡ are_of (map kind_written l.kinds) (map (λ text. text.now) l.texts)
