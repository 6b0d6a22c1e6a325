use Rattle.std.proofs.Common.{◌≡◌, drop}
use Rattle.sg_shelf.specs.Files.{bytes_under}
use Rattle.sg_shelf.specs.NamedFiles.{files_of}
use Rattle.sg_shelf.proofs.mem_shelf.bytes_of.Given as goal

-- what the files from here on hold under the name is what all hold
abbrev pub invariant-loop-file : goal.invariant-loop-file
invariant-loop-file l = bytes_under (files_of (drop l.file-index l.files)) l.name ≡ bytes_under (files_of l.files) l.name
