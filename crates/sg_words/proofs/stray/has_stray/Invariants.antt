use Rattle.std.proofs.Common.{◌≡◌, drop, map, string_bytes}
use Rattle.sg_words.specs.Stray.{has_stray}
use Rattle.sg_words.proofs.stray.has_stray.Given as goal

abbrev pub invariant-loop-word : goal.invariant-loop-word
invariant-loop-word l = has_stray (map (λ setting. setting.name.now) l.settings) (map string_bytes (drop l.word-index l.words)) ≡ has_stray (map (λ setting. setting.name.now) l.settings) (map string_bytes l.words)
