use Rattle.std.proofs.Common.{◌≡◌, drop, map}
use Rattle.sg_words.specs.Words.{has_name}
use Rattle.sg_words.proofs.stray.has_name.Given as goal

abbrev pub invariant-loop-setting : goal.invariant-loop-setting
invariant-loop-setting l = has_name (map (λ setting. setting.name.now) (drop l.setting-index l.settings)) l.name ≡ has_name (map (λ setting. setting.name.now) l.settings) l.name
