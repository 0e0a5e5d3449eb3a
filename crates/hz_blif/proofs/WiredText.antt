-- The elements of a text without fault make a circuit.
use Rattle.std.proofs.Common.{◌≡◌, ◌≢◌, ◌∙◌, refl, sym, ap, subst, ℕ, inl, Bool, true, false, cond, not, ◌||◌, List, [], ◌∷◌, ◌++◌, map, filter, append_assoc, arith}
use Rattle.std.specs.Prelude.{◌&&◌, Contains}
use Rattle.std.specs.List.{AllByRecursion, flat_map, list_any}
use Rattle.std.specs.Str.{bytes_eq}
use Rattle.std.proofs.lemmas.List.Folds.{list_any_at, list_any-append}
use Rattle.std.proofs.lemmas.Slice.Eq.{bytes_eq-Decides}
use Rattle.hz_line.specs.Statement.{Numbered}
use Rattle.hz_netlist.specs.Build.{Apart, AreWired, HasNodeName, UsesKnown}
use Rattle.hz_netlist.specs.Circuit.{all_inputs, node_names}
use Rattle.hz_netlist.specs.Element.{Element, Input, Cut, Gate, Output, input_names, cut_names, gate_names}
use Rattle.hz_blif.specs.declared.fault.BlifFault.TheVariants as fault
use Rattle.hz_blif.specs.Plain.{IsPlain}
use Rattle.hz_blif.specs.Circuit.{elements_of_lines}
use Rattle.hz_blif.specs.Cover.{Cover, cover_of_line, covers_of, definitions_of, definitions_with, inputs_of, inputs_with, is_constant, is_skipped, is_used, kept_covers, leading_rows, outputs_of, uses_of}
use Rattle.hz_blif.specs.Fault.{IsFaultless}
use Rattle.hz_blif.specs.Gates.{cover_gates}
use Rattle.hz_blif.specs.Line.{Line, Blank, Model, Inputs, Outputs, Names, Row, End, Construct, lines_in}
use Rattle.hz_blif.proofs.KeptCovers.{HasTerms, kept-terms}
use Rattle.hz_netlist.proofs.Lists.{all-append, all-cut}
use Rattle.hz_blif.proofs.Lists.{all-as, all-both, all-contained, all-kept, kept-passing, passing-kept}
use Rattle.hz_blif.proofs.NameLaws.{AreApart, HaveApartOutputs, IsNameOf, IsSmallCover, covers-apart, gate_names-append, later-names, names-differ}
use Rattle.hz_blif.proofs.WiredGates.{ReadsThat, cover-node, cover-output, cover-read, rows-long}
use Rattle.hz_blif.proofs.WiredLines.{DifferFromOutputs, HaveNames, covers-have, inputs-have, join-apart, lined, text-apart}
use Rattle.hz_blif.proofs.WiredNames.{IsTextName, text-names}
use Rattle.hz_blif.proofs.WiredPins.{FitsGates, IsRightGate, fits, gates-right, wired-few, wired-pins}
use Rattle.hz_netlist.specs.Names.{is_among, names_of, on_line}

outputs-kept : (test : Cover → Bool) (covers : List Cover) → HaveApartOutputs covers → HaveApartOutputs (filter test covers)
outputs-kept test [] apart = tt
outputs-kept test (first ∷ rest) apart = by_test (test first) (outputs-kept test rest apart.1)
  where
    by_test : (passes : Bool) → HaveApartOutputs (filter test rest) → HaveApartOutputs (cond passes (first ∷ filter test rest) (filter test rest))
    by_test true more = (all-kept (λ other. first.output ≢ other.output) test rest apart.0, more)
    by_test false more = more

-- the names of the inputs, of the cuts and of the gates
record HasNames (names : List (List ℕ)) (gates : List Element) (elements : List Element) : Type 0 where
  inputs : input_names elements ≡ names
  cuts : cut_names elements ≡ []
  gates_are : gate_names elements ≡ gate_names gates

outputs-named : (outputs : List (Numbered (List ℕ))) → HasNames [] [] (map (λ (output : Numbered (List ℕ)). Output output.statement) outputs)
outputs-named [] = record { inputs = refl; cuts = refl; gates_are = refl }
outputs-named (output ∷ rest) = let more = outputs-named rest in record { inputs = more.inputs; cuts = more.cuts; gates_are = more.gates_are }

gates-named : (gates : List Element) (outputs : List (Numbered (List ℕ))) → AllByRecursion IsRightGate gates → HasNames [] gates (gates ++ map (λ (output : Numbered (List ℕ)). Output output.statement) outputs)
gates-named [] outputs right = outputs-named outputs
gates-named (Input name ∷ rest) outputs right = absurd right.0
gates-named (Cut name source ∷ rest) outputs right = absurd right.0
gates-named (Gate name kind sources ∷ rest) outputs right =
    let more = gates-named rest outputs right.1 in record { inputs = more.inputs; cuts = more.cuts; gates_are = ap (λ names. name ∷ names) more.gates_are }
gates-named (Output name ∷ rest) outputs right = absurd right.0

elements-named : (names : List (List ℕ)) (gates : List Element) (outputs : List (Numbered (List ℕ))) → AllByRecursion IsRightGate gates
    → HasNames names gates (map Input names ++ (gates ++ map (λ (output : Numbered (List ℕ)). Output output.statement) outputs))
elements-named [] gates outputs right = gates-named gates outputs right
elements-named (name ∷ names) gates outputs right =
    let more = elements-named names gates outputs right in record { inputs = ap (λ names. name ∷ names) more.inputs; cuts = more.cuts; gates_are = more.gates_are }

nothing-more : (names : List (List ℕ)) → names ++ [] ≡ names
nothing-more [] = refl
nothing-more (name ∷ names) = ap (λ names. name ∷ names) (nothing-more names)

-- names that are apart are new where they come
absent : (name : List ℕ) (front rest : List (List ℕ)) → AreApart (front ++ name ∷ rest) → list_any (bytes_eq name) front ≡ false
absent name [] rest apart = refl
absent name (first ∷ front) rest apart = by_test (bytes_eq name first) refl (absent name front rest apart.1)
  where
    there : (front : List (List ℕ)) → AllByRecursion (λ other. first ≢ other) (front ++ name ∷ rest) → first ≢ name
    there [] all = all.0
    there (one ∷ front) all = there front all.1

    by_test : (same : Bool) → bytes_eq name first ≡ same → list_any (bytes_eq name) front ≡ false → (same || list_any (bytes_eq name) front) ≡ false
    by_test true is more = absurd (there front apart.0 (sym ((bytes_eq-Decides name first).0 is)))
    by_test false is more = more

new-names : (front back : List (List ℕ)) → AreApart (front ++ back) → Apart front back
new-names front [] apart = tt
new-names front (name ∷ rest) apart = (absent name front rest apart, new-names (front ++ name ∷ []) rest (subst AreApart (sym (append_assoc front (name ∷ []) rest)) apart))

front-apart : (front back : List (List ℕ)) → AreApart (front ++ back) → AreApart front
front-apart [] back apart = tt
front-apart (name ∷ front) back apart = ((all-cut (λ other. name ≢ other) front back apart.0).0, front-apart front back apart.1)

true-or : (one other : Bool) → one ≡ true → (one || other) ≡ true
true-or true other h = refl
true-or false other h = let e : false ≡ true = h in cc

or-true : (one other : Bool) → other ≡ true → (one || other) ≡ true
or-true true other h = refl
or-true false other h = h

-- each name is among those that it stands among
among-own : (front names : List (List ℕ)) → AllByRecursion (λ name. list_any (bytes_eq name) (front ++ names) ≡ true) names
among-own front [] = tt
among-own front (name ∷ rest) = (
  list_any-append (bytes_eq name) front (name ∷ rest)
      ∙ or-true (list_any (bytes_eq name) front) _ (true-or (bytes_eq name name) (list_any (bytes_eq name) rest) ((bytes_eq-Decides name name).1 refl)),
  subst (λ all. AllByRecursion (λ name. list_any (bytes_eq name) all ≡ true) rest) (append_assoc front (name ∷ []) rest) (among-own (front ++ name ∷ []) rest),
)

-- what holds of the inputs and of the outputs of covers holds of the names that are defined
names-defined : (P : List ℕ → Type 0) (lines : List (Numbered Line)) → AllByRecursion P (inputs_of lines) → AllByRecursion (λ cover. P cover.output) (covers_of lines)
    → AllByRecursion P (names_of (definitions_of lines))
names-defined P [] inputs covers = tt
names-defined P (line ∷ rest) inputs covers = by_line line.statement inputs covers (names-defined P rest)
  where
    by_line : (one : Line) → AllByRecursion P (inputs_with one ++ inputs_of rest) → AllByRecursion (λ cover. P cover.output) (cover_of_line line.line one (leading_rows rest) (covers_of rest))
        → (AllByRecursion P (inputs_of rest) → AllByRecursion (λ cover. P cover.output) (covers_of rest) → AllByRecursion P (names_of (definitions_of rest)))
        → AllByRecursion P (names_of (definitions_with line.line one ++ definitions_of rest))
    by_line Blank inputs covers more = more inputs covers
    by_line (Model names) inputs covers more = more inputs covers
    by_line (Inputs names) inputs covers more =
        let parts = all-cut P names (inputs_of rest) inputs in
        subst (AllByRecursion P) (sym (lined line.line names (definitions_of rest))) (all-append P names (names_of (definitions_of rest)) parts.0 (more parts.1 covers))
    by_line (Outputs names) inputs covers more = more inputs covers
    by_line (Names []) inputs covers more = more inputs covers
    by_line (Names (name ∷ names)) inputs covers more = (covers.0, more inputs covers.1)
    by_line (Row tokens) inputs covers more = more inputs covers
    by_line (End tokens) inputs covers more = more inputs covers
    by_line Construct inputs covers more = more inputs covers

-- a name that is among those that have a property, if they are it
from-among : (K : List ℕ → Type 0) (name : List ℕ) (names : List (List ℕ)) → AllByRecursion (λ other. bytes_eq name other ≡ true → K name) names → is_among names name ≡ true → K name
from-among K name [] all among = let e : false ≡ true = among in cc
from-among K name (first ∷ rest) all among = by_test (bytes_eq name first) refl among (from-among K name rest all.1)
  where
    by_test : (same : Bool) → bytes_eq name first ≡ same → (same || is_among rest name) ≡ true → (is_among rest name ≡ true → K name) → K name
    by_test true is among more = all.0 is
    by_test false is among more = more among

not-skipped : (lines : List (Numbered Line)) (cover : Cover) → is_used lines cover.output ≡ true → not (is_skipped lines cover) ≡ true
not-skipped lines cover used = ap (λ used. not (is_constant cover && not used)) used ∙ by_test (is_constant cover)
  where
    by_test : (constant : Bool) → not (constant && false) ≡ true
    by_test true = refl
    by_test false = refl

-- the names that covers and outputs use, one by one
line-uses : (D : List ℕ → Type 0) (line : ℕ) (names : List (List ℕ)) → AllByRecursion (λ (one : Numbered (List ℕ)). D one.statement) (on_line line names) → AllByRecursion D names
line-uses D line [] all = tt
line-uses D line (name ∷ names) all = (all.0, line-uses D line names all.1)

cover-uses : (D : List ℕ → Type 0) (covers : List Cover) → AllByRecursion (λ (one : Numbered (List ℕ)). D one.statement) (flat_map (λ (cover : Cover). on_line cover.line cover.pins) covers)
    → AllByRecursion (λ cover. AllByRecursion D cover.pins) covers
cover-uses D [] all = tt
cover-uses D (cover ∷ rest) all =
    let parts = all-cut (λ (one : Numbered (List ℕ)). D one.statement) (on_line cover.line cover.pins) (flat_map (λ (cover : Cover). on_line cover.line cover.pins) rest) all in
    (line-uses D cover.line cover.pins parts.0, cover-uses D rest parts.1)

-- gates of covers, cover by cover
gates-have : (P : Element → Type 0) (covers : List Cover) → AllByRecursion (λ cover. AllByRecursion P (cover_gates cover)) covers → AllByRecursion P (flat_map cover_gates covers)
gates-have P [] all = tt
gates-have P (cover ∷ rest) all = all-append P (cover_gates cover) (flat_map cover_gates rest) all.0 (gates-have P rest all.1)

covers-named : (P : List ℕ → Type 0) (covers : List Cover) → AllByRecursion P (gate_names (flat_map cover_gates covers)) → AllByRecursion (λ cover. AllByRecursion P (gate_names (cover_gates cover))) covers
covers-named P [] all = tt
covers-named P (cover ∷ rest) all =
    let parts = all-cut P (gate_names (cover_gates cover)) (gate_names (flat_map cover_gates rest)) (subst (AllByRecursion P) (gate_names-append (cover_gates cover) (flat_map cover_gates rest)) all) in
    (parts.0, covers-named P rest parts.1)

gates-use : (names : List (List ℕ)) (gates : List Element) → AllByRecursion IsRightGate gates → AllByRecursion (ReadsThat (λ name. list_any (bytes_eq name) names ≡ true)) gates → AllByRecursion (UsesKnown names) gates
gates-use names [] right all = tt
gates-use names (Input name ∷ rest) right all = absurd right.0
gates-use names (Cut name source ∷ rest) right all = absurd right.0
gates-use names (Gate name kind sources ∷ rest) right all = (all.0, gates-use names rest right.1 all.1)
gates-use names (Output name ∷ rest) right all = absurd right.0

module _ (text : List ℕ) (faultless : IsFaultless text) where
  abbrev lines : List (Numbered Line)
  lines = lines_in text

  abbrev kept : List Cover
  kept = kept_covers (lines_in text)

  abbrev gates : List Element
  gates = flat_map cover_gates (kept_covers (lines_in text))

  abbrev is_kept : Cover → Bool
  is_kept cover = not (is_skipped (lines_in text) cover)

  inputs-text : AllByRecursion IsTextName (inputs_of lines)
  inputs-text = inputs-have IsTextName lines (text-names text faultless)

  covers-text : AllByRecursion (HaveNames IsTextName) (covers_of lines)
  covers-text = covers-have IsTextName lines (text-names text faultless)

  covers-fit : AllByRecursion FitsGates (covers_of lines)
  covers-fit = all-contained FitsGates (covers_of lines) (fits text faultless)

  covers-term : AllByRecursion HasTerms kept
  covers-term =
      passing-kept HasTerms is_kept (covers_of lines)
      (all-contained (λ cover. is_kept cover ≡ true → HasTerms cover) (covers_of lines) (λ cover there passes. kept-terms text faultless cover there (not-true (is_skipped lines cover) passes)))
    where
      not-true : (b : Bool) → not b ≡ true → b ≡ false
      not-true true h = let e : false ≡ true = h in cc
      not-true false h = refl

  -- names
  gates-node : AllByRecursion HasNodeName gates
  gates-node =
      gates-have HasNodeName kept
      (all-kept (λ cover. AllByRecursion HasNodeName (cover_gates cover)) is_kept (covers_of lines)
      (all-both (HaveNames IsTextName) FitsGates (λ cover. AllByRecursion HasNodeName (cover_gates cover)) (λ cover names fits. cover-node cover names.1 fits) (covers_of lines) covers-text covers-fit))

  inputs-node : (names : List (List ℕ)) → AllByRecursion IsTextName names → AllByRecursion HasNodeName (map Input names)
  inputs-node [] all = tt
  inputs-node (name ∷ names) all =
      let is = all.0 in
      let short = is.short in
      (record { some = is.some; short = omega (arith, short); bytes = is.bytes }, inputs-node names all.1)

  outputs-node : (outputs : List (Numbered (List ℕ))) → AllByRecursion HasNodeName (map (λ (output : Numbered (List ℕ)). Output output.statement) outputs)
  outputs-node [] = tt
  outputs-node (output ∷ rest) = (tt, outputs-node rest)

  wired-named : AllByRecursion HasNodeName (elements_of_lines lines)
  wired-named =
      let outputs : List Element = map (λ (output : Numbered (List ℕ)). Output output.statement) (outputs_of lines) in
      all-append HasNodeName (map Input (inputs_of lines)) (gates ++ outputs) (inputs-node (inputs_of lines) inputs-text)
      (all-append HasNodeName gates outputs gates-node (outputs-node (outputs_of lines)))

  -- names are apart
  covers-small : AllByRecursion IsSmallCover kept
  covers-small =
      all-kept IsSmallCover is_kept (covers_of lines)
      (all-both (HaveNames IsTextName) FitsGates IsSmallCover
      (λ cover names fits.
      let name = names.1 in
      let pins = fits.0 in
      let rows = fits.1 in
      record { plain = name.plain; pins = omega (arith, pins); rows = omega (arith, rows, rows-long cover) })
      (covers_of lines) covers-text covers-fit)

  names-apart : AreApart (inputs_of lines ++ gate_names gates)
  names-apart =
      let apart = text-apart text faultless in
      join-apart (inputs_of lines) (gate_names gates) apart.0 (covers-apart kept covers-small (outputs-kept is_kept (covers_of lines) apart.1))
      (all-both IsTextName (DifferFromOutputs (covers_of lines)) (λ name. AllByRecursion (λ other. name ≢ other) (gate_names gates))
      (λ name is differ.
      all-as (λ name'. (other : List ℕ) × IsPlain other × (name ≢ other) × IsNameOf other name') (λ other. name ≢ other)
      (λ other at. names-differ name at.0 name other is.plain at.1 at.2 (inl refl) at.3)
      (gate_names gates) (later-names name kept covers-small (all-kept (λ cover. name ≢ cover.output) is_kept (covers_of lines) differ)))
      (inputs_of lines) inputs-text apart.2)

  named : HasNames (inputs_of lines) gates (elements_of_lines lines)
  named = elements-named (inputs_of lines) gates (outputs_of lines) (gates-right text faultless)

  inputs-are : all_inputs (elements_of_lines lines) ≡ inputs_of lines
  inputs-are = ap (λ cuts. input_names (elements_of_lines lines) ++ cuts) named.cuts ∙ nothing-more (input_names (elements_of_lines lines)) ∙ named.inputs

  nodes-are : node_names (elements_of_lines lines) ≡ inputs_of lines ++ gate_names gates
  nodes-are = ap (λ inputs. inputs ++ gate_names (elements_of_lines lines)) inputs-are ∙ ap (λ names. inputs_of lines ++ names) named.gates_are

  -- names that are used are those of nodes
  abbrev IsKnown : List ℕ → Type 0
  IsKnown name = list_any (bytes_eq name) (node_names (elements_of_lines (lines_in text))) ≡ true

  nodes-known : AllByRecursion IsKnown (inputs_of lines) × AllByRecursion IsKnown (gate_names gates)
  nodes-known = all-cut IsKnown (inputs_of lines) (gate_names gates) (subst (AllByRecursion IsKnown) nodes-are (among-own [] (node_names (elements_of_lines lines))))

  outputs-known : AllByRecursion (λ cover. is_kept cover ≡ true → IsKnown cover.output) (covers_of lines)
  outputs-known =
      kept-passing (λ cover. IsKnown cover.output) is_kept (covers_of lines)
      (all-both HasTerms (λ cover. AllByRecursion IsKnown (gate_names (cover_gates cover))) (λ cover. IsKnown cover.output)
      (λ cover terms known. cover-output IsKnown cover terms.0 terms.1 known) kept covers-term (covers-named IsKnown kept nodes-known.1))

  known-name : (name : List ℕ) → is_among (names_of (definitions_of lines)) name ≡ true → is_used lines name ≡ true → IsKnown name
  known-name name defined used =
      from-among IsKnown name (names_of (definitions_of lines))
      (names-defined (λ other. bytes_eq name other ≡ true → IsKnown name) lines
      (all-as IsKnown (λ other. bytes_eq name other ≡ true → IsKnown name) (λ other known same. subst IsKnown (sym ((bytes_eq-Decides name other).0 same)) known) (inputs_of lines) nodes-known.0)
      (all-as (λ cover. is_kept cover ≡ true → IsKnown cover.output) (λ cover. bytes_eq name cover.output ≡ true → IsKnown name)
      (λ cover known same.
      let is : name ≡ cover.output = (bytes_eq-Decides name cover.output).0 same in
      subst IsKnown (sym is) (known (not-skipped lines cover (subst (λ name. is_used lines name ≡ true) is used))))
      (covers_of lines) outputs-known))
      defined

  abbrev IsDefined : List ℕ → Type 0
  IsDefined name = is_among (names_of (definitions_of (lines_in text))) name ≡ true

  uses-defined : AllByRecursion (λ (one : Numbered (List ℕ)). IsDefined one.statement) (uses_of lines)
  uses-defined =
      all-contained (λ (one : Numbered (List ℕ)). IsDefined one.statement) (uses_of lines)
      (λ one there. by_test one there (is_among (names_of (definitions_of lines)) one.statement) refl)
    where
      by_test : (one : Numbered (List ℕ)) → Contains (uses_of lines) one → (defined : Bool) → is_among (names_of (definitions_of lines)) one.statement ≡ defined → defined ≡ true
      by_test one there true h = refl
      by_test one there false h = absurd (faultless (fault.Undefined one.line) (one.statement, there, h))

  -- pins are used
  pins-used : AllByRecursion (λ cover. AllByRecursion (λ pin. is_used lines pin ≡ true) cover.pins) (covers_of lines)
  pins-used =
      all-contained (λ cover. AllByRecursion (λ pin. is_used lines pin ≡ true) cover.pins) (covers_of lines)
      (λ cover there.
      all-as (λ pin. is_among cover.pins pin ≡ true) (λ pin. is_used lines pin ≡ true)
      (λ pin among. true-or _ (is_among (names_of (outputs_of lines)) pin) (there-used cover there pin among)) cover.pins (among-own [] cover.pins))
    where
      there-used : (cover : Cover) → Contains (covers_of lines) cover → (pin : List ℕ) → is_among cover.pins pin ≡ true → list_any (λ (cover : Cover). is_among cover.pins pin) (covers_of lines) ≡ true
      there-used cover there pin among =
          list_any_at (λ (cover : Cover). is_among cover.pins pin) (covers_of lines) there.0 cover there.1
          (ap (λ (cover : Cover). is_among cover.pins pin) there.2 ∙ among)

  pins-known : AllByRecursion (λ cover. AllByRecursion IsKnown cover.pins) kept
  pins-known =
      let parts = all-cut (λ (one : Numbered (List ℕ)). IsDefined one.statement) (flat_map (λ (cover : Cover). on_line cover.line cover.pins) kept) (outputs_of lines) uses-defined in
      all-both (λ cover. AllByRecursion IsDefined cover.pins) (λ cover. AllByRecursion (λ pin. is_used lines pin ≡ true) cover.pins) (λ cover. AllByRecursion IsKnown cover.pins)
      (λ cover defined used. all-both IsDefined (λ pin. is_used lines pin ≡ true) IsKnown known-name cover.pins defined used)
      kept (cover-uses IsDefined kept parts.0) (all-kept (λ cover. AllByRecursion (λ pin. is_used lines pin ≡ true) cover.pins) is_kept (covers_of lines) pins-used)

  gates-known : AllByRecursion (ReadsThat IsKnown) gates
  gates-known =
      gates-have (ReadsThat IsKnown) kept
      (all-both (λ cover. HasTerms cover × AllByRecursion IsKnown cover.pins) (λ cover. AllByRecursion IsKnown (gate_names (cover_gates cover))) (λ cover. AllByRecursion (ReadsThat IsKnown) (cover_gates cover))
      (λ cover terms known. cover-read IsKnown cover terms.0.1 terms.1 known) kept
      (all-both HasTerms (λ cover. AllByRecursion IsKnown cover.pins) (λ cover. HasTerms cover × AllByRecursion IsKnown cover.pins) (λ cover terms known. (terms, known)) kept covers-term pins-known)
      (covers-named IsKnown kept nodes-known.1))

  outputs-use : (outputs : List (Numbered (List ℕ))) → AllByRecursion (λ (one : Numbered (List ℕ)). IsKnown one.statement) outputs
      → AllByRecursion (UsesKnown (node_names (elements_of_lines lines))) (map (λ (output : Numbered (List ℕ)). Output output.statement) outputs)
  outputs-use [] all = tt
  outputs-use (output ∷ rest) all = (all.0, outputs-use rest all.1)

  used-outputs : (front back : List (Numbered (List ℕ))) → AllByRecursion (λ (one : Numbered (List ℕ)). is_among (names_of (front ++ back)) one.statement ≡ true) back
  used-outputs front [] = tt
  used-outputs front (one ∷ rest) = (
    subst (λ names. is_among names one.statement ≡ true) (sym (names-append front (one ∷ rest)))
        (list_any-append (bytes_eq one.statement) (names_of front) (names_of (one ∷ rest))
        ∙ or-true _ _ (true-or (bytes_eq one.statement one.statement) (is_among (names_of rest) one.statement) ((bytes_eq-Decides one.statement one.statement).1 refl))),
    subst (λ all. AllByRecursion (λ (one : Numbered (List ℕ)). is_among (names_of all) one.statement ≡ true) rest) (append_assoc front (one ∷ []) rest) (used-outputs (front ++ one ∷ []) rest),
  )
    where
      names-append : (front back : List (Numbered (List ℕ))) → names_of (front ++ back) ≡ names_of front ++ names_of back
      names-append [] back = refl
      names-append (first ∷ front) back = ap (λ names. first.statement ∷ names) (names-append front back)

  inputs-use : (names : List (List ℕ)) → AllByRecursion (UsesKnown (node_names (elements_of_lines lines))) (map Input names)
  inputs-use [] = tt
  inputs-use (name ∷ names) = (tt, inputs-use names)

  wired-defined : AllByRecursion (UsesKnown (node_names (elements_of_lines lines))) (elements_of_lines lines)
  wired-defined =
      let names = node_names (elements_of_lines lines) in
      let outputs : List Element = map (λ (output : Numbered (List ℕ)). Output output.statement) (outputs_of lines) in
      let parts = all-cut (λ (one : Numbered (List ℕ)). IsDefined one.statement) (flat_map (λ (cover : Cover). on_line cover.line cover.pins) kept) (outputs_of lines) uses-defined in
      all-append (UsesKnown names) (map Input (inputs_of lines)) (gates ++ outputs) (inputs-use (inputs_of lines))
      (all-append (UsesKnown names) gates outputs (gates-use names gates (gates-right text faultless) gates-known)
      (outputs-use (outputs_of lines)
      (all-both (λ (one : Numbered (List ℕ)). IsDefined one.statement) (λ (one : Numbered (List ℕ)). is_among (names_of (outputs_of lines)) one.statement ≡ true) (λ (one : Numbered (List ℕ)). IsKnown one.statement)
      (λ one defined used. known-name one.statement defined (or-true (list_any (λ (cover : Cover). is_among cover.pins one.statement) (covers_of lines)) _ used))
      (outputs_of lines) parts.1 (used-outputs [] (outputs_of lines)))))

-- the elements of a text without fault make a circuit
pub wired-text : (text : List ℕ) → IsFaultless text → AreWired (elements_of_lines (lines_in text))
wired-text text faultless =
    let lines = lines_in text in
    let is = named text faultless in
    let apart = names-apart text faultless in
    record {
      named = wired-named text faultless;
      inputs_apart = subst (Apart []) (sym is.inputs) (new-names [] (inputs_of lines) (front-apart (inputs_of lines) (gate_names (gates text faultless)) apart));
      cuts_apart = subst (Apart (input_names (elements_of_lines lines))) (sym is.cuts) tt;
      gates_apart = subst (λ inputs. Apart inputs (gate_names (elements_of_lines lines))) (sym (inputs-are text faultless))
          (subst (Apart (inputs_of lines)) (sym is.gates_are) (new-names (inputs_of lines) (gate_names (gates text faultless)) apart));
      pins = wired-pins text faultless;
      defined = wired-defined text faultless;
      few = wired-few text faultless;
    }
