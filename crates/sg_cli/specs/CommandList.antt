-- The list of commands: which command is asked for.
use Rattle.sg_words.specs.Commands.{Asked, solve, check, show, roster, make}
use Rattle.sg_cli.specs.Commands.{Command}
use Rattle.sg_cli.specs.Solving.{solving}
use Rattle.sg_cli.specs.Checking.{checking}
use Rattle.sg_cli.specs.Showing.{showing}
use Rattle.sg_cli.specs.Rostering.{rostering}
use Rattle.sg_cli.specs.Making.{making}

abbrev pub command_for : Asked → Command
command_for (solve game budget order) = solving game budget order
command_for (check game report) = checking game report
command_for (show game report) = showing game report
command_for (roster game report seed) = rostering game report seed
command_for (make shape seed) = making shape seed
