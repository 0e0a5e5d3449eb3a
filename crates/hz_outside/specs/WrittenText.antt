-- What became of the bytes that were put into a sink: they are written, or they wait.
use Rattle.std.specs.Prelude.{◌≡◌, ℕ, List, [], ◌++◌, Option, Some, None}

-- the text with more bytes after it, if it is told
unfoldable pub extended_text : Option (List ℕ) → List ℕ → Option (List ℕ)
extended_text None more = None
extended_text (Some text) more = Some (text ++ more)

-- a text grew by a prefix of the piece, and the rest was not written
pub record GrewByPrefix (was : Option (List ℕ)) (piece : List ℕ)
    (now : Option (List ℕ)) : Type 0 where
  pub front : List ℕ
  pub rest : List ℕ
  pub parts : front ++ rest ≡ piece
  pub grew : now ≡ extended_text was front

-- what is written, if it is told, and the bytes that were taken and are not yet written
pub record Output : Type 0 where
  pub written : Option (List ℕ)
  pub waiting : List ℕ

-- an output of which nothing waits
abbrev pub settled : Option (List ℕ) → Output
settled written = record { written = written; waiting = [] }

-- these bytes wait after all that waits already
abbrev pub with_more : Output → List ℕ → Output
with_more out more = record out { waiting = out.waiting ++ more }

-- A piece was taken: what waited and then the piece is what was written since and what waits now.
pub record Took (was : Output) (piece : List ℕ) (now : Output) : Type 0 where
  pub front : List ℕ
  pub parts : front ++ now.waiting ≡ was.waiting ++ piece
  pub grew : now.written ≡ extended_text was.written front

-- A prefix was taken: what was written since and what waits now are a prefix of what waited and then the piece. The rest
-- is lost.
pub record TookPrefix (was : Output) (piece : List ℕ) (now : Output) : Type 0 where
  pub front : List ℕ
  pub rest : List ℕ
  pub parts : front ++ now.waiting ++ rest ≡ was.waiting ++ piece
  pub grew : now.written ≡ extended_text was.written front
