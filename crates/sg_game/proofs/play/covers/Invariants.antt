use Rattle.std.proofs.Common.{◌≡◌, ◌+◌, drop}
use Rattle.sg_model.specs.Plays.{covers, covers_from}
use Rattle.sg_game.proofs.play.covers.Given as goal

-- what is left decides
abbrev pub invariant-loop-k : goal.invariant-loop-k
invariant-loop-k l = covers l.game l.code l.target ≡ covers_from l.game (l.k + 1) (drop l.k l.code) l.target
