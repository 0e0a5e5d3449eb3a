-- What a writer of a text over a sink ensures. The sink's `output` and `faults` come first, then the text, then the sink as it
-- was and as it is now.
use Rattle.std.specs.Prelude.{◌≡◌, ◌≢◌, ℕ, ◌≤◌, List, [], ◌∷◌, ◌++◌, Option, Result, MatchResult}
use Rattle.std.specs.List.{concat}
use Rattle.hz_outside.specs.Counts.{Rose}
use Rattle.hz_outside.specs.WrittenText.{Output, Took, TookPrefix}
use Rattle.hz_outside.specs.declared.fault.PutFault.{PutFault}
use Rattle.hz_outside.specs.declared.fault.PutFault.TheVariants.{Failed}

-- the bytes that end a line
abbrev pub newline : List ℕ
newline = 10 ∷ []

-- the line of these pieces
unfoldable pub line_of : List (List ℕ) → List ℕ
line_of pieces = concat pieces ++ newline

-- the sink took the whole text, and counted no fault
pub record Puts {S : Type 0} (output : S → Output) (faults : S → ℕ) (text : List ℕ)
    (was now : S) : Type 0 where
  pub grew : Took (output was) text (output now)
  pub quiet : faults now ≡ faults was

-- the sink took a prefix of the text; its count tells whether a put failed: it rose if one did, and else it is as it was
pub record Stops {S : Type 0} (output : S → Output) (faults : S → ℕ) (fault : PutFault)
    (text : List ℕ) (was now : S) : Type 0 where
  pub front : TookPrefix (output was) text (output now)
  pub cause : fault ≡ Failed → Rose (faults was) (faults now)
  pub quiet : fault ≢ Failed → faults now ≡ faults was
  pub never_fell : faults was ≤ faults now

-- the answer of a writer of this text
abbrev pub Wrote : {S : Type 0} → (S → Output) → (S → ℕ) → List ℕ → S → S →
    Result (Unit {0}) PutFault → Type 0
Wrote output faults text was now result =
    MatchResult result (λ _. Puts output faults text was now)
    (λ fault. Stops output faults fault text was now)

-- the text is what the sink took and then what waits in the buffer
pub record IsBuffered {S : Type 0} (output : S → Output) (faults : S → ℕ) (text : List ℕ)
    (was now : S) (waiting : List ℕ) : Type 0 where
  pub done : List ℕ
  pub puts : Puts output faults done was now
  pub parts : done ++ waiting ≡ text

-- the answer of a call after which some of this text may wait in the buffer
abbrev pub WroteBuffered : {S : Type 0} → (S → Output) → (S → ℕ) → List ℕ → S → S → List ℕ →
    Result (Unit {0}) PutFault → Type 0
WroteBuffered output faults text was now waiting result =
    MatchResult result (λ _. IsBuffered output faults text was now waiting)
    (λ fault. Stops output faults fault text was now)
