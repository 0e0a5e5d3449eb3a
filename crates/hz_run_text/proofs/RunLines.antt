-- The commonest line of a run text.
use Rattle.std.proofs.Common.{◌≡◌, ◌∙◌, ℕ, true, List, [], ◌∷◌, ◌++◌, Option, Some, None, map, codes, refl, ap, arith}
use Rattle.std.specs.List.{list_all}
use Rattle.std.specs.Option.{option_map}
use Rattle.std.specs.Str.{bytes_eq}
use Rattle.std.proofs.lemmas.Slice.Eq.{bytes_eq-Decides}
use Rattle.hz_core.specs.Netlist.{Netlist}
use Rattle.hz_line.specs.Byte.{class_of, is_word_byte}
use Rattle.hz_line.specs.Reading.{by_tokens}
use Rattle.hz_line.specs.Statement.{Means, meaning_of, meaning_of_tokens}
use Rattle.hz_line.specs.Token.{TokenOf, WordOf, tokens_of, with_token}
use Rattle.hz_line.proofs.WrittenLemmas.{tokens_of-space, tokens_of-word_before, is_word_byte-separators}
use Rattle.hz_run_text.specs.declared.keyword.RunKeyword.TheVariants as keyword
use Rattle.hz_run_text.specs.RunStatement.{Variable, Step, run_keyword_of, variables_of_tokens}
use Rattle.hz_run_text.specs.RunResolution.{resolve_run_tokens, variables_by, variable_named}

step_word : (run_keyword_of (codes "step") ≡ Some keyword.Step) × (list_all is_word_byte (codes "step") ≡ true)
unfolding run_keyword_of class_of
step_word = (refl, refl)

-- the tokens of a line behind the keyword and a space
step_tokens : (rest : List ℕ) → tokens_of (codes "step " ++ rest) ≡ with_token (WordOf (codes "step")) (tokens_of rest)
step_tokens rest =
    tokens_of-word_before (codes "step") (32 ∷ rest) (omega arith) step_word.1 is_word_byte-separators.0
    ∙ ap (with_token (WordOf (codes "step"))) (tokens_of-space rest)

-- what the step is, by its one variable
step_means :
    (netlist : Netlist) (tokens : Option (List TokenOf)) (variable : Option ℕ) → by_tokens (variables_by netlist) tokens ≡ Some (variable ∷ []) →
    meaning_of_tokens (resolve_run_tokens netlist) (with_token (WordOf (codes "step")) tokens) ≡ Means (Step (variable ∷ []))
step_means netlist None variable e = cc
step_means netlist (Some tokens) variable e = by_variables (variables_of_tokens tokens) refl e
  where
    by_variables :
        (read : Option (List Variable)) → variables_of_tokens tokens ≡ read → option_map (map (variable_named netlist)) read ≡ Some (variable ∷ []) →
        meaning_of_tokens (resolve_run_tokens netlist) (Some (WordOf (codes "step") ∷ tokens)) ≡ Means (Step (variable ∷ []))
    by_variables None r w = cc
    by_variables (Some variables) r w =
        let same : map (variable_named netlist) variables ≡ variable ∷ [] = cc in
        rw (step_word.0, r, same) refl

pub short_step :
    (netlist : Netlist) (line word rest : List ℕ) (variable : Option ℕ) → line ≡ word ++ rest → bytes_eq word (codes "step ") ≡ true →
    by_tokens (variables_by netlist) (tokens_of rest) ≡ Some (variable ∷ []) → meaning_of (resolve_run_tokens netlist) line ≡ Means (Step (variable ∷ []))
short_step netlist line word rest variable e w h =
    let first : word ≡ codes "step " = (bytes_eq-Decides word (codes "step ")).0 w in
    ap (meaning_of_tokens (resolve_run_tokens netlist)) (ap tokens_of (e ∙ ap (λ front. front ++ rest) first) ∙ step_tokens rest)
    ∙ step_means netlist (tokens_of rest) variable h
