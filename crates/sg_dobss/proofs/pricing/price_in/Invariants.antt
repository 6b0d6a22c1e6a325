use Rattle.std.proofs.Common.{◌≡◌, drop}
use Rattle.sg_lp.specs.Listing.{listing_answer}
use Rattle.sg_lp.specs.Programs.{Program}
use Rattle.sg_dobss.specs.Tables.{AreTablesOf}
use Rattle.sg_dobss.proofs.pricing.price_in.Given as goal

-- what is answered from the start is answered from here on
abbrev pub invariant-loop-k : goal.invariant-loop-k
invariant-loop-k l = (p : Program) → AreTablesOf p l.costs l.rows → listing_answer p l.y l.rho l.budget 0 p.columns ≡ listing_answer p l.y l.rho l.budget l.k (drop l.k p.columns)
