-- Files that are held in memory under names.
use Rattle.std.specs.Prelude.{ℕ, List, [], ◌∷◌, bytes_eq, if◌then◌else◌}

-- a file with its name
pub record NamedBytes : Type 0 where
  pub name : List ℕ
  pub bytes : List ℕ

-- the bytes held under a name: those of the first file of this name, and none if there is no such file
abbrev pub contents_of : List NamedBytes → List ℕ → List ℕ
contents_of [] name = []
contents_of (file ∷ files) name =
    if bytes_eq file.name name then file.bytes else contents_of files name
