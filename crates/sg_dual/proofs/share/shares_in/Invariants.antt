use Rattle.std.proofs.Common.{◌≡◌, length}
use Rattle.sg_dual.proofs.Shared.{HaveShares}
use Rattle.sg_dual.proofs.share.shares_in.Given as goal

-- the shares of the rows before this one
abbrev pub invariant-loop-i : goal.invariant-loop-i
invariant-loop-i g l = (length l.entries ≡ (g.F.Family.program l.family).height) × HaveShares (g.F.Family.program l.family) l.state.tableau l.i l.shares
