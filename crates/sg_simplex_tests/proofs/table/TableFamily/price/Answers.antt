use Rattle.sg_lp.proofs.Listing.{says_listing}
use Rattle.sg_simplex_tests.specs.Tables.{table_program}
use Rattle.sg_simplex_tests.proofs.table.TableFamily.price.Goals as goal

pub returns-clause-says : goal.returns-clause-says
returns-clause-says c = says_listing (table_program c.args.self.now) c.args.y.now c.args.rho c.args.budget c.requires
