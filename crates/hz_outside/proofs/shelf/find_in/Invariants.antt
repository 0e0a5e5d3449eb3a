use Rattle.std.proofs.Common.{◌≡◌, drop}
use Rattle.hz_outside.specs.Shelf.{contents_of}
use Rattle.hz_outside.proofs.shelf.find_in.Given as goal

-- what is left decides
abbrev pub invariant-loop-file : goal.invariant-loop-file
invariant-loop-file l = contents_of (drop l.file-index l.files) l.name ≡ contents_of l.files l.name
