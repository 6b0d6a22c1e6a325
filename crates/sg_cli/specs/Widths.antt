-- Numbers that are kept in 128 bits.
use Rattle.std.specs.Prelude.{◌<◌, ◌^◌, length}
use Rattle.sg_frac.specs.Fractions.{Fraction}
use Rattle.sg_tree.specs.Claims.{Claimed}
use Rattle.sg_tree.specs.declared.fact.Fact.{Fact}
use Rattle.sg_tree.specs.declared.fact.Fact.TheVariants.{Plays, Cover, Water}
use Rattle.sg_tree.specs.declared.tree.Tree.{Tree}
use Rattle.sg_tree.specs.declared.tree.Tree.TheOpen.{Tree-F}
use Rattle.sg_tree.specs.declared.tree.Tree.TheViews.{out-Tree}
use Rattle.sg_num.specs.Exact.{Fits}

-- tickets that are counted in 64 bits, with a total of 128
pub record IsSized (c : Claimed) : Type 0 where
  pub count : length c.tickets < 2 ^ 64
  pub total : Fits c.total

-- both parts fit
abbrev pub BothPartsFit : Fraction → Type 0
BothPartsFit f = Fits f.num × Fits f.den

-- the level of a fact, where it has one
abbrev pub HasPartsFact : Fact → Type 0
HasPartsFact (Plays rho mu marks) = Unit {0}
HasPartsFact (Cover rho mu lines) = Unit {0}
HasPartsFact (Water level why) = BothPartsFit level

-- the level of a tree that is one fact
abbrev pub HasPartsLayer : Tree-F Tree → Type 0
HasPartsLayer Tree-F.Unproved = Unit {0}
HasPartsLayer (Tree-F.Closed f) = HasPartsFact f
HasPartsLayer (Tree-F.Split l base parts) = Unit {0}

abbrev pub HasParts : Tree → Type 0
HasParts t = HasPartsLayer (out-Tree t)
