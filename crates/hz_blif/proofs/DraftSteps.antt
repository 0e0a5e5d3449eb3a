-- What a draft holds, step by step: names, inputs, outputs.
use Rattle.std.proofs.Common.{◌≡◌, ◌∙◌, refl, sym, ap, subst, ℕ, ◌<◌, List, [], ◌∷◌, ◌++◌, length, Option, Some, None, option_map, arith, append_assoc}
use Rattle.std.specs.List.{IsDistinct}
use Rattle.std.specs.Option.{option_or}
use Rattle.std.specs.Str.{bytes_eq}
use Rattle.std.proofs.lemmas.List.{append-nil, map-append}
use Rattle.std.proofs.lemmas.List.Elements.{All-push, All-same}
use Rattle.hz_line.specs.Statement.{Numbered, first_passing_line}
use Rattle.hz_netlist.specs.Names.{Names, AreNamesOf, seen_at, seen_names, with_definition, with_sight, with_use, on_line, AreNumbers, names_at, name_at}
use Rattle.hz_netlist.proofs.NameLaws.{names-define, names-use}
use Rattle.hz_blif.specs.declared.cover.Cover.{Cover as CoverRead}
use Rattle.hz_blif.specs.declared.draft.Draft.{Draft}
use Rattle.hz_blif.specs.declared.notes.Redefinition.{Redefinition}
use Rattle.hz_blif.specs.Check.{twice_after, twice_or}
use Rattle.hz_blif.specs.Cover.{Cover}
use Rattle.hz_blif.specs.Draft.{Holds, HoldsCovers, HoldsCurrent, Read, twice_fault, with_inputs, with_outputs}
use Rattle.hz_blif.proofs.EntryLemmas.{elements-same, named-more}
use Rattle.hz_blif.proofs.NumberSteps.{KeepsNames, constant-numbers-kept, constants-kept, definer-at, definition-names, keeps-same, kept-length, name-kept, names-kept, numbers-kept, sight-distinct, sight-keeps, sight-named, use-names}

-- the cover that is being read, where there are more names
pub current-kept : (old new : Names) (current : Option Cover) (cover : CoverRead) → KeepsNames old new → HoldsCurrent old current cover → HoldsCurrent new current cover
current-kept old new None cover kept is = tt
current-kept old new (Some one) cover kept is = record {
  line = is.line;
  pins = names-kept old new cover.pins.items kept is.pin_numbers ∙ is.pins;
  pin_numbers = numbers-kept old new cover.pins.items kept is.pin_numbers;
  output = name-kept old new cover.output kept is.output_number ∙ is.output;
  output_number = (let longer = kept-length old new kept in let few = is.output_number in omega (arith, longer, few));
  rows = is.rows;
}

-- the gates and the constant covers, where there are more names
pub covers-kept : (covers : List Cover) (old : Draft) (names : Names) → KeepsNames old.names names → HoldsCovers covers old → HoldsCovers covers (record old { names = names })
covers-kept covers old names kept is = record {
  gates = λ few. elements-same (length old.names) (name_at names) (name_at old.names) old.gates is.gate_numbers (λ number few. name-kept old.names names number kept few) ∙ is.gates few;
  holds = is.holds;
  gate_numbers = named-more (length old.names) (length names) old.gates (kept-length old.names names kept) is.gate_numbers;
  counted = is.counted;
  constants = constants-kept old.names names old.constants.items kept is.constant_numbers ∙ is.constants;
  constant_numbers = constant-numbers-kept old.names names old.constants.items kept is.constant_numbers;
  pins = names-kept old.names names old.constant_pins.items kept is.pin_numbers ∙ is.pins;
  pin_numbers = numbers-kept old.names names old.constant_pins.items kept is.pin_numbers;
}

-- what is kept where there are more names, or more is said of these
holds-renamed : (read : Read) (old : Draft) (names : Names) (definitions used told : List (Numbered (List ℕ))) (again : Option Redefinition)
    → KeepsNames old.names names → IsDistinct bytes_eq (seen_names names) → AreNamesOf definitions used names → option_map twice_fault again ≡ twice_after [] definitions
    → (held : Holds read old) → (held.used ≡ read.used → used ≡ told)
    → Holds (record read { definitions = definitions; used = told }) (record old { names = names; notes = record old.notes { again = again } })
holds-renamed read old names definitions used told again kept distinct named twice held uses =
    record {
      long_name = held.long_name;
      construct = held.construct;
      distinct = distinct;
      used = used;
      named = named;
      again = twice;
      inputs = names-kept old.names names old.inputs.items kept held.input_numbers ∙ held.inputs;
      input_numbers = numbers-kept old.names names old.inputs.items kept held.input_numbers;
      outputs = names-kept old.names names old.outputs.items kept held.output_numbers ∙ held.outputs;
      output_numbers = numbers-kept old.names names old.outputs.items kept held.output_numbers;
      wrong_row_is = held.wrong_row_is;
      is_open = held.is_open;
      current = λ right. current-kept old.names names read.current old.cover kept (held.current right);
      excess_is = held.excess_is;
      few = held.few;
      uses = λ right small. uses (held.uses right small);
      covers = λ right small. (let is = covers-kept read.done old names kept (held.covers right small) in record { gates = is.gates; holds = is.holds; gate_numbers = is.gate_numbers; counted = is.counted; constants = is.constants; constant_numbers = is.constant_numbers; pins = is.pins; pin_numbers = is.pin_numbers });
    }

-- names that define and use the same
pub holds-seen : (read : Read) (old : Draft) (name : List ℕ) (names : Names) → names ≡ with_sight old.names name → Holds read old → Holds read (record old { names = names })
holds-seen read old name names is held =
    holds-renamed read old names read.definitions held.used read.used old.notes.again (subst (KeepsNames old.names) (sym is) (sight-keeps old.names name))
    (subst (λ names. IsDistinct bytes_eq (seen_names names)) (sym is) (sight-distinct old.names name held.distinct))
    (subst (AreNamesOf read.definitions held.used) (sym is) (sight-named read.definitions held.used old.names name held.named)) held.again held (λ same. same)

-- one definition more
twice-push : (before items : List (Numbered (List ℕ))) (next : Numbered (List ℕ))
    → twice_after before (items ++ next ∷ []) ≡ option_or (twice_after before items) (twice_or next.line (first_passing_line (bytes_eq next.statement) (before ++ items)) None)
twice-push before [] next = ap (λ all. twice_or next.line (first_passing_line (bytes_eq next.statement) all) None) (sym (append-nil before))
twice-push before (first ∷ rest) next =
    ap (twice_or first.line (first_passing_line (bytes_eq first.statement) before)) (twice-push (before ++ first ∷ []) rest next)
    ∙ by_first (first_passing_line (bytes_eq first.statement) before)
    ∙ ap (λ all. option_or (twice_or first.line (first_passing_line (bytes_eq first.statement) before) (twice_after (before ++ first ∷ []) rest)) (twice_or next.line (first_passing_line (bytes_eq next.statement) all) None))
    (append_assoc before (first ∷ []) rest)
  where
    by_first : (line : Option ℕ)
        → twice_or first.line line (option_or (twice_after (before ++ first ∷ []) rest) (twice_or next.line (first_passing_line (bytes_eq next.statement) ((before ++ first ∷ []) ++ rest)) None))
        ≡ option_or (twice_or first.line line (twice_after (before ++ first ∷ []) rest)) (twice_or next.line (first_passing_line (bytes_eq next.statement) ((before ++ first ∷ []) ++ rest)) None)
    by_first None = refl
    by_first (Some line) = refl

-- a second definition is noted, if none was noted before
abbrev pub again_with : Option Redefinition → ℕ → Option ℕ → Option Redefinition
again_with again line None = again
again_with again line (Some first) = option_or again (Some (record { line = line; first = first }))

again-told : (again : Option Redefinition) (line : ℕ) (first : Option ℕ) → option_map twice_fault (again_with again line first) ≡ option_or (option_map twice_fault again) (twice_or line first None)
again-told None line None = refl
again-told None line (Some first) = refl
again-told (Some one) line None = refl
again-told (Some one) line (Some first) = refl

pub holds-defined : (read : Read) (old : Draft) (number line : ℕ) (names : Names) (again : Option Redefinition) → number < length old.names
    → names ≡ with_definition old.names (name_at old.names number) line → again ≡ again_with old.notes.again line (seen_at old.names number).definer
    → Holds read old → Holds (record read { definitions = read.definitions ++ record { line = line; statement = name_at old.names number } ∷ [] }) (record old { names = names; notes = record old.notes { again = again } })
holds-defined read old number line names again few is noted held =
    let name = name_at old.names number in
    let same : seen_names names ≡ seen_names old.names = ap seen_names is ∙ definition-names old.names number line few in
    let kept : KeepsNames old.names names = keeps-same old.names names same in
    let first : (seen_at old.names number).definer ≡ first_passing_line (bytes_eq name) read.definitions = definer-at old.names number held.distinct few ∙ held.named.definer name in
    let twice = ap (option_map twice_fault) noted ∙ again-told old.notes.again line (seen_at old.names number).definer
    ∙ ap (λ first. option_or (option_map twice_fault old.notes.again) (twice_or line first None)) first
    ∙ ap (λ again. option_or again (twice_or line (first_passing_line (bytes_eq name) read.definitions) None)) held.again
    ∙ sym (twice-push [] read.definitions (record { line = line; statement = name })) in
    holds-renamed read old names (read.definitions ++ record { line = line; statement = name } ∷ []) held.used read.used again kept (subst (IsDistinct bytes_eq) (sym same) held.distinct)
    (subst (AreNamesOf (read.definitions ++ record { line = line; statement = name } ∷ []) held.used) (sym is) (names-define read.definitions held.used old.names name line held.named)) twice held (λ same. same)

-- one use more
pub holds-used : (read : Read) (old : Draft) (number line : ℕ) (names : Names) → number < length old.names → names ≡ with_use old.names (name_at old.names number) line
    → Holds read old → Holds (record read { used = read.used ++ record { line = line; statement = name_at old.names number } ∷ [] }) (record old { names = names })
holds-used read old number line names few is held =
    let name = name_at old.names number in
    let same : seen_names names ≡ seen_names old.names = ap seen_names is ∙ use-names old.names number line few in
    let kept : KeepsNames old.names names = keeps-same old.names names same in
    holds-renamed read old names read.definitions (held.used ++ record { line = line; statement = name } ∷ []) (read.used ++ record { line = line; statement = name } ∷ []) old.notes.again kept (subst (IsDistinct bytes_eq) (sym same) held.distinct)
    (subst (AreNamesOf read.definitions (held.used ++ record { line = line; statement = name } ∷ [])) (sym is) (names-use read.definitions held.used old.names name line held.named)) held.again held (ap (λ used. used ++ record { line = line; statement = name } ∷ []))

pub names-push : (names : Names) (numbers more : List ℕ) (number : ℕ) (told : List (List ℕ)) → more ≡ numbers ++ number ∷ [] → names_at names numbers ≡ told → names_at names more ≡ told ++ name_at names number ∷ []
names-push names numbers more number told is are =
    ap (names_at names) is ∙ map-append (name_at names) numbers (number ∷ []) ∙ ap (λ all. all ++ name_at names number ∷ []) are

pub numbers-push : (names : Names) (numbers more : List ℕ) (number : ℕ) → more ≡ numbers ++ number ∷ [] → number < length names → AreNumbers names numbers → AreNumbers names more
numbers-push names numbers more number is few are = All-same (λ number. number < length names) more (numbers ++ number ∷ []) is (All-push (λ number. number < length names) numbers number are few)

-- other inputs and outputs
holds-ports : (read : Read) (old more : Draft) (inputs outputs : List (List ℕ)) → names_at old.names more.inputs.items ≡ inputs → AreNumbers old.names more.inputs.items
    → names_at old.names more.outputs.items ≡ outputs → AreNumbers old.names more.outputs.items
    → Holds read old → Holds (record read { inputs = inputs; outputs = outputs }) (record old { inputs = more.inputs; outputs = more.outputs })
holds-ports read old more inputs outputs ins in_numbers outs out_numbers held =
    record {
      long_name = held.long_name;
      construct = held.construct;
      distinct = held.distinct;
      used = held.used;
      named = held.named;
      again = held.again;
      inputs = ins;
      input_numbers = in_numbers;
      outputs = outs;
      output_numbers = out_numbers;
      wrong_row_is = held.wrong_row_is;
      is_open = held.is_open;
      current = held.current;
      excess_is = held.excess_is;
      few = held.few;
      uses = held.uses;
      covers = λ right small. (let is = held.covers right small in record { gates = is.gates; holds = is.holds; gate_numbers = is.gate_numbers; counted = is.counted; constants = is.constants; constant_numbers = is.constant_numbers; pins = is.pins; pin_numbers = is.pin_numbers });
    }

-- an input more
pub holds-input : (read : Read) (old new : Draft) (number : ℕ) → new ≡ record old { inputs = new.inputs } → new.inputs.items ≡ old.inputs.items ++ number ∷ [] → number < length old.names
    → Holds read old → Holds (record read { inputs = read.inputs ++ name_at old.names number ∷ [] }) new
holds-input read old new number same is few held =
    subst (Holds (record read { inputs = read.inputs ++ name_at old.names number ∷ [] })) (sym same)
    (holds-ports read old (record old { inputs = new.inputs }) (read.inputs ++ name_at old.names number ∷ []) read.outputs (names-push old.names old.inputs.items new.inputs.items number read.inputs is held.inputs)
    (numbers-push old.names old.inputs.items new.inputs.items number is few held.input_numbers) held.outputs held.output_numbers held)

pub holds-output : (read : Read) (old new : Draft) (number : ℕ) → new ≡ record old { outputs = new.outputs } → new.outputs.items ≡ old.outputs.items ++ number ∷ [] → number < length old.names
    → Holds read old → Holds (record read { outputs = read.outputs ++ name_at old.names number ∷ [] }) new
holds-output read old new number same is few held =
    subst (Holds (record read { outputs = read.outputs ++ name_at old.names number ∷ [] })) (sym same)
    (holds-ports read old (record old { outputs = new.outputs }) read.inputs (read.outputs ++ name_at old.names number ∷ []) held.inputs held.input_numbers
    (names-push old.names old.outputs.items new.outputs.items number read.outputs is held.outputs) (numbers-push old.names old.outputs.items new.outputs.items number is few held.output_numbers) held)
