-- The keys of a table of names.
use Rattle.std.specs.Prelude.{◌≡◌, ℕ, ◌-◌, ◌<◌, ◌≤◌, List, length}
use Rattle.std.specs.Hash.FoldHasher.{read_u32}
use Rattle.std.specs.List.{slice_index_or}

-- a name that has four bytes begins and ends with these four, each as one number
pub record HasEnds (name : List ℕ) (first last : ℕ) : Type 0 where
  pub begins : 4 ≤ length name → first ≡ read_u32 name 0
  pub ends : 4 ≤ length name → last ≡ read_u32 name (length name - 4)
  pub bytes : 4 ≤ length name → (place : ℕ) → slice_index_or name place 0 < 256
