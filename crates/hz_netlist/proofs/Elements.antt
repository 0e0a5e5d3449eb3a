-- The names of elements, one list of them after another.
use Rattle.std.proofs.Common.{◌≡◌, ◌∙◌, refl, sym, ap, List, [], ◌∷◌, ◌++◌, append_assoc}
use Rattle.std.proofs.lemmas.List.{append-nil}
use Rattle.hz_netlist.specs.Element.{Element, Input, Cut, Gate, Output, input_names, cut_names, data_names, gate_names, output_names, source_names}

-- a list that each element adds to is that of the front and then that of the back
pub told-append : {B : Type 0} (told : List Element → List B) → told [] ≡ [] → ((first : Element) (rest : List Element) → told (first ∷ rest) ≡ told (first ∷ []) ++ told rest)
    → (front back : List Element) → told (front ++ back) ≡ told front ++ told back
told-append told none next [] back = ap (λ list. list ++ told back) (sym none)
told-append told none next (first ∷ rest) back =
    next first (rest ++ back) ∙ (ap (λ list. told (first ∷ []) ++ list) (told-append told none next rest back)
    ∙ (sym (append_assoc (told (first ∷ [])) (told rest) (told back)) ∙ ap (λ list. list ++ told back) (sym (next first rest))))

pub inputs-append : (front back : List Element) → input_names (front ++ back) ≡ input_names front ++ input_names back
inputs-append = told-append input_names refl next
  where
    next : (first : Element) (rest : List Element) → input_names (first ∷ rest) ≡ input_names (first ∷ []) ++ input_names rest
    next (Input name) rest = refl
    next (Cut name source) rest = refl
    next (Gate name kind sources) rest = refl
    next (Output name) rest = refl

pub cuts-append : (front back : List Element) → cut_names (front ++ back) ≡ cut_names front ++ cut_names back
cuts-append = told-append cut_names refl next
  where
    next : (first : Element) (rest : List Element) → cut_names (first ∷ rest) ≡ cut_names (first ∷ []) ++ cut_names rest
    next (Input name) rest = refl
    next (Cut name source) rest = refl
    next (Gate name kind sources) rest = refl
    next (Output name) rest = refl

pub data-append : (front back : List Element) → data_names (front ++ back) ≡ data_names front ++ data_names back
data-append = told-append data_names refl next
  where
    next : (first : Element) (rest : List Element) → data_names (first ∷ rest) ≡ data_names (first ∷ []) ++ data_names rest
    next (Input name) rest = refl
    next (Cut name source) rest = refl
    next (Gate name kind sources) rest = refl
    next (Output name) rest = refl

pub gates-append : (front back : List Element) → gate_names (front ++ back) ≡ gate_names front ++ gate_names back
gates-append = told-append gate_names refl next
  where
    next : (first : Element) (rest : List Element) → gate_names (first ∷ rest) ≡ gate_names (first ∷ []) ++ gate_names rest
    next (Input name) rest = refl
    next (Cut name source) rest = refl
    next (Gate name kind sources) rest = refl
    next (Output name) rest = refl

pub outputs-append : (front back : List Element) → output_names (front ++ back) ≡ output_names front ++ output_names back
outputs-append = told-append output_names refl next
  where
    next : (first : Element) (rest : List Element) → output_names (first ∷ rest) ≡ output_names (first ∷ []) ++ output_names rest
    next (Input name) rest = refl
    next (Cut name source) rest = refl
    next (Gate name kind sources) rest = refl
    next (Output name) rest = refl

pub sources-append : (front back : List Element) → source_names (front ++ back) ≡ source_names front ++ source_names back
sources-append = told-append source_names refl next
  where
    next : (first : Element) (rest : List Element) → source_names (first ∷ rest) ≡ source_names (first ∷ []) ++ source_names rest
    next (Input name) rest = refl
    next (Cut name source) rest = refl
    next (Gate name kind sources) rest = ap (λ front. front ++ source_names rest) (sym (append-nil sources))
    next (Output name) rest = refl
