-- The words of outputs, and where their letters stand.
use Rattle.std.proofs.Common.{◌≡◌, ◌∙◌, refl, sym, ap, subst, ℕ, zero, suc, ◌+◌, ◌-◌, ◌<◌, ◌≤◌, List, [], ◌∷◌, ◌++◌, length, set, map, take, drop, get_or, slice_get, Some, append_assoc, arith}
use Rattle.std.proofs.lemmas.List.{length-append, length-drop, length-map, length-set, length-take-le, map-append, append-nil, set-append_left, set-append_right, drop-append-le, drop-set-add, get_or-append_right, get_or_default, take_more, take_all, take-append-drop}
use Rattle.std.proofs.lemmas.Option.{get_or_from_slice_get}
use Rattle.hz_core.specs.declared.tri.Tri.{Tri}
use Rattle.hz_core.specs.declared.tri.Tri.TheVariants.{Zero, One, Unknown}
use Rattle.hz_core.specs.Netlist.{Netlist, node_name}
use Rattle.hz_write.specs.Writes.{newline}
use Rattle.hz_batch.specs.Outputs.{output_stem, output_word, output_words}
use Rattle.hz_batch.specs.LineInside.{letter_places, values_at}
use Rattle.hz_core.specs.Letters.{tri_letter}
use Rattle.hz_batch.specs.Letters.{letter_value}

-- a value has one letter
one-letter : (value : Tri) → length (tri_letter value) ≡ 1
one-letter Zero = refl
one-letter One = refl
one-letter Unknown = refl

-- how long the word of an output is
word-length : (netlist : Netlist) (node : ℕ) (values : Tri × Tri) → length (output_word netlist node values) ≡ length (output_stem netlist node) + 2
word-length netlist node values =
    omega (arith, length-append (output_stem netlist node) (tri_letter values.0 ++ tri_letter values.1), length-append (tri_letter values.0) (tri_letter values.1), one-letter values.0, one-letter values.1)

-- where the letters of an output stand
abbrev letter_place : Netlist → List ℕ → ℕ → ℕ
letter_place netlist [] place = 0
letter_place netlist (node ∷ nodes) zero = length (output_stem netlist node)
letter_place netlist (node ∷ nodes) (suc place) = length (output_stem netlist node) + 2 + letter_place netlist nodes place

place-at : (netlist : Netlist) (start : ℕ) (nodes : List ℕ) (place : ℕ) → place < length nodes → get_or (letter_places netlist start nodes) place 0 ≡ start + letter_place netlist nodes place
place-at netlist start [] place inside = absurd (omega (arith, inside))
place-at netlist start (node ∷ nodes) zero inside = refl
place-at netlist start (node ∷ nodes) (suc place) inside =
    let later = place-at netlist (start + length (output_stem netlist node) + 2) nodes place (omega (arith, inside)) in
    omega (arith, later)

length-places : (netlist : Netlist) (start : ℕ) (nodes : List ℕ) → length (letter_places netlist start nodes) ≡ length nodes
length-places netlist start [] = refl
length-places netlist start (node ∷ nodes) = ap suc (length-places netlist (start + length (output_stem netlist node) + 2) nodes)

-- both letters are in the text
place-inside : (netlist : Netlist) (nodes : List ℕ) (values : List (Tri × Tri)) (place : ℕ) → length values ≡ length nodes → place < length nodes → letter_place netlist nodes place + 1 < length (output_words netlist nodes values)
place-inside netlist [] values place long inside = absurd (omega (arith, inside))
place-inside netlist (node ∷ nodes) [] place long inside = absurd (omega (arith, long))
place-inside netlist (node ∷ nodes) (pair ∷ values) zero long inside =
    omega (arith, word-length netlist node pair, length-append (output_word netlist node pair) (output_words netlist nodes values))
place-inside netlist (node ∷ nodes) (pair ∷ values) (suc place) long inside =
    omega (arith, place-inside netlist nodes values place (omega (arith, long)) (omega (arith, inside)), word-length netlist node pair, length-append (output_word netlist node pair) (output_words netlist nodes values))

-- the two letters behind a stem
two-set : (stem rest : List ℕ) (a b x y : ℕ) → set (set ((stem ++ (a ∷ b ∷ [])) ++ rest) (length stem) x) (length stem + 1) y ≡ (stem ++ (x ∷ y ∷ [])) ++ rest
two-set [] rest a b x y = refl
two-set (byte ∷ stem) rest a b x y =
    let next : suc (length stem) + 1 ≡ suc (length stem + 1) = omega arith in
    rw next (ap (λ (list : List ℕ). byte ∷ list) (two-set stem rest a b x y))

letters-set : (netlist : Netlist) (node : ℕ) (rest : List ℕ) (was now : Tri × Tri) (x y : ℕ) → tri_letter now.0 ≡ x ∷ [] → tri_letter now.1 ≡ y ∷ [] →
    set (set (output_word netlist node was ++ rest) (length (output_stem netlist node)) x) (length (output_stem netlist node) + 1) y ≡ output_word netlist node now ++ rest
letters-set netlist node rest was now x y first second =
    rw (first, second) (by_letters was.0 was.1)
  where
    by_letters : (one other : Tri) → set (set ((output_stem netlist node ++ (tri_letter one ++ tri_letter other)) ++ rest) (length (output_stem netlist node)) x) (length (output_stem netlist node) + 1) y ≡ (output_stem netlist node ++ (x ∷ y ∷ [])) ++ rest
    by_letters Zero Zero = two-set (output_stem netlist node) rest 48 48 x y
    by_letters Zero One = two-set (output_stem netlist node) rest 48 49 x y
    by_letters Zero Unknown = two-set (output_stem netlist node) rest 48 88 x y
    by_letters One Zero = two-set (output_stem netlist node) rest 49 48 x y
    by_letters One One = two-set (output_stem netlist node) rest 49 49 x y
    by_letters One Unknown = two-set (output_stem netlist node) rest 49 88 x y
    by_letters Unknown Zero = two-set (output_stem netlist node) rest 88 48 x y
    by_letters Unknown One = two-set (output_stem netlist node) rest 88 49 x y
    by_letters Unknown Unknown = two-set (output_stem netlist node) rest 88 88 x y

-- a byte behind a word
set-behind : (word rest : List ℕ) (n k i x : ℕ) → length word ≡ n → i ≡ n + k → set (word ++ rest) i x ≡ word ++ set rest k x
set-behind word rest n k i x long at =
    let there : n ≤ i = omega (arith, at) in
    let back : i - n ≡ k = omega (arith, at) in
    set-append_right word rest n i x long there ∙ ap (λ (m : ℕ). word ++ set rest m x) back

-- an output gets other values: its two letters change
words-set : (netlist : Netlist) (nodes : List ℕ) (values : List (Tri × Tri)) (place : ℕ) (now : Tri × Tri) (x y : ℕ) → length values ≡ length nodes → place < length nodes → tri_letter now.0 ≡ x ∷ [] → tri_letter now.1 ≡ y ∷ [] →
    set (set (output_words netlist nodes values) (letter_place netlist nodes place) x) (letter_place netlist nodes place + 1) y ≡ output_words netlist nodes (set values place now)
words-set netlist [] values place now x y long inside first second = absurd (omega (arith, inside))
words-set netlist (node ∷ nodes) [] place now x y long inside first second = absurd (omega (arith, long))
words-set netlist (node ∷ nodes) (pair ∷ values) zero now x y long inside first second = letters-set netlist node (output_words netlist nodes values) pair now x y first second
words-set netlist (node ∷ nodes) (pair ∷ values) (suc place) now x y long inside first second =
    let word = output_word netlist node pair in
    let words = output_words netlist nodes values in
    let n = length (output_stem netlist node) + 2 in
    let k = letter_place netlist nodes place in
    let one = set-behind word words n k (n + k) x (word-length netlist node pair) refl in
    let two = set-behind word (set words k x) n (k + 1) (n + k + 1) y (word-length netlist node pair) (omega arith) in
    let later = words-set netlist nodes values place now x y (omega (arith, long)) (omega (arith, inside)) first second in
    ap (λ (list : List ℕ). set list (n + k + 1) y) one ∙ two ∙ ap (λ (list : List ℕ). word ++ list) later

-- each output has a place, and its letters stand in the text
pub has-place : (netlist : Netlist) (values : List (Tri × Tri)) (places : List ℕ) (output : ℕ) → length values ≡ length netlist.outputs → output < length values →
    places ≡ letter_places netlist 10 netlist.outputs → output < length places
has-place netlist values places output long inside at = rw at (omega (arith, long, inside, length-places netlist 10 netlist.outputs))

place-is : (netlist : Netlist) (values : List (Tri × Tri)) (places : List ℕ) (output place : ℕ) (d : ℕ) → length values ≡ length netlist.outputs → output < length values →
    places ≡ letter_places netlist 10 netlist.outputs → place ≡ get_or places output d → place ≡ 10 + letter_place netlist netlist.outputs output
place-is netlist values places output place d long inside at is =
    let within : output < length netlist.outputs = omega (arith, long, inside) in
    let there : get_or places output 0 ≡ 10 + letter_place netlist netlist.outputs output = rw at (place-at netlist 10 netlist.outputs output within) in
    is ∙ get_or_default places output d 0 (has-place netlist values places output long inside at) ∙ there

-- how long a text is, by what stands behind its first ten bytes
how-long : (text words : List ℕ) → drop 10 text ≡ words ++ newline → length text ≡ 11 + length words
how-long text words is = omega (arith, sym (length-drop 10 text) ∙ ap (length {A = ℕ}) is ∙ length-append words newline)

pub has-letters : (netlist : Netlist) (values : List (Tri × Tri)) (text places : List ℕ) (output place : ℕ) (d : ℕ) → length values ≡ length netlist.outputs → output < length values →
    drop 10 text ≡ output_words netlist netlist.outputs values ++ newline → places ≡ letter_places netlist 10 netlist.outputs → place ≡ get_or places output d → place + 1 < length text
has-letters netlist values text places output place d long inside words at is =
    omega (
      arith,
      place-is netlist values places output place d long inside at is,
      how-long text (output_words netlist netlist.outputs values) words,
      place-inside netlist netlist.outputs values output long (omega (arith, long, inside)),
    )

-- two bytes behind the first ten change, which are not the last one
two-behind : (text words : List ℕ) (k x y : ℕ) → drop 10 text ≡ words ++ newline → k + 1 < length words →
    drop 10 (set (set text (10 + k) x) (10 + k + 1) y) ≡ set (set words k x) (k + 1) y ++ newline
two-behind text words k x y is inside =
    let next : 10 + k + 1 ≡ 10 + (k + 1) = omega arith in
    let one : drop 10 (set text (10 + k) x) ≡ set words k x ++ newline =
    drop-set-add 10 text k x ∙ ap (λ (list : List ℕ). set list k x) is ∙ set-append_left words newline k x (omega (arith, inside)) in
    let within : k + 1 < length (set words k x) = omega (arith, inside, length-set words k x) in
    ap (λ (m : ℕ). drop 10 (set (set text (10 + k) x) m y)) next
    ∙ drop-set-add 10 (set text (10 + k) x) (k + 1) y
    ∙ ap (λ (list : List ℕ). set list (k + 1) y) one
    ∙ set-append_left (set words k x) newline (k + 1) y within

-- what a line's text is once an output has other values
pub line-set : (netlist : Netlist) (values : List (Tri × Tri)) (text places : List ℕ) (output place d : ℕ) (now : Tri × Tri) (x y : ℕ) → length values ≡ length netlist.outputs → output < length values →
    drop 10 text ≡ output_words netlist netlist.outputs values ++ newline → places ≡ letter_places netlist 10 netlist.outputs → place ≡ get_or places output d → tri_letter now.0 ≡ x ∷ [] → tri_letter now.1 ≡ y ∷ [] →
    drop 10 (set (set text place x) (place + 1) y) ≡ output_words netlist netlist.outputs (set values output now) ++ newline
line-set netlist values text places output place d now x y long inside words at is first second =
    let within : output < length netlist.outputs = omega (arith, long, inside) in
    let k = letter_place netlist netlist.outputs output in
    rw (place-is netlist values places output place d long inside at is)
    (two-behind text (output_words netlist netlist.outputs values) k x y words (place-inside netlist netlist.outputs values output long within)
    ∙ ap (λ (list : List ℕ). list ++ newline) (words-set netlist netlist.outputs values output now x y long within first second))

-- one output more
pub words-push : (netlist : Netlist) (nodes : List ℕ) (values : List (Tri × Tri)) (node : ℕ) (pair : Tri × Tri) → length values ≡ length nodes →
    output_words netlist (nodes ++ node ∷ []) (values ++ pair ∷ []) ≡ output_words netlist nodes values ++ output_word netlist node pair
words-push netlist [] [] node pair long = append-nil (output_word netlist node pair)
words-push netlist [] (other ∷ values) node pair long = absurd (omega (arith, long))
words-push netlist (other ∷ nodes) [] node pair long = absurd (omega (arith, long))
words-push netlist (other ∷ nodes) (earlier ∷ values) node pair long =
    ap (λ (list : List ℕ). output_word netlist other earlier ++ list) (words-push netlist nodes values node pair (omega (arith, long)))
    ∙ sym (append_assoc (output_word netlist other earlier) (output_words netlist nodes values) (output_word netlist node pair))

pub places-push : (netlist : Netlist) (start : ℕ) (nodes : List ℕ) (values : List (Tri × Tri)) (node n : ℕ) → length values ≡ length nodes → n ≡ start + length (output_words netlist nodes values) + length (output_stem netlist node) →
    letter_places netlist start (nodes ++ node ∷ []) ≡ letter_places netlist start nodes ++ n ∷ []
places-push netlist start [] [] node n long is =
    let same : start + length (output_stem netlist node) ≡ n = omega (arith, is) in
    ap (λ (m : ℕ). m ∷ []) same
places-push netlist start [] (other ∷ values) node n long is = absurd (omega (arith, long))
places-push netlist start (other ∷ nodes) [] node n long is = absurd (omega (arith, long))
places-push netlist start (other ∷ nodes) (earlier ∷ values) node n long is =
    let next = start + length (output_stem netlist other) + 2 in
    let at : n ≡ next + length (output_words netlist nodes values) + length (output_stem netlist node) =
    omega (arith, is, word-length netlist other earlier, length-append (output_word netlist other earlier) (output_words netlist nodes values)) in
    ap (λ (list : List ℕ). (start + length (output_stem netlist other)) ∷ list) (places-push netlist next nodes values node n (omega (arith, long)) at)

-- the letters behind a stem
letters-at : (stem rest : List ℕ) (a b : ℕ) → (get_or ((stem ++ (a ∷ b ∷ [])) ++ rest) (length stem) 0 ≡ a) × (get_or ((stem ++ (a ∷ b ∷ [])) ++ rest) (length stem + 1) 0 ≡ b)
letters-at [] rest a b = (refl, refl)
letters-at (byte ∷ stem) rest a b =
    let later = letters-at stem rest a b in
    let next : suc (length stem) + 1 ≡ suc (length stem + 1) = omega arith in
    (later.0, ap (λ (n : ℕ). get_or (((byte ∷ stem) ++ (a ∷ b ∷ [])) ++ rest) n 0) next ∙ later.1)

-- the values that the letters of a text say at a place
abbrev said : List ℕ → ℕ → Tri × Tri
said text place = (letter_value (get_or text place 0), letter_value (get_or text (place + 1) 0))

-- the letters of an output say its values
said-by-word : (netlist : Netlist) (node : ℕ) (pair : Tri × Tri) (front rest : List ℕ) → said (front ++ (output_word netlist node pair ++ rest)) (length front + length (output_stem netlist node)) ≡ pair
said-by-word netlist node pair front rest = by_letters pair.0 pair.1
  where
    moved : (word : List ℕ) → said (front ++ word) (length front + length (output_stem netlist node)) ≡ said word (length (output_stem netlist node))
    moved word =
        let n = length front in
        let k = length (output_stem netlist node) in
        let one : n + k - n ≡ k = omega arith in
        let two : n + k + 1 - n ≡ k + 1 = omega arith in
        let first : get_or (front ++ word) (n + k) 0 ≡ get_or word k 0 = get_or-append_right front word n (n + k) 0 refl (omega arith) ∙ ap (λ (m : ℕ). get_or word m 0) one in
        let second : get_or (front ++ word) (n + k + 1) 0 ≡ get_or word (k + 1) 0 = get_or-append_right front word n (n + k + 1) 0 refl (omega arith) ∙ ap (λ (m : ℕ). get_or word m 0) two in
        rw (first, second) refl

    by_bytes : (a b : ℕ) → said (front ++ ((output_stem netlist node ++ (a ∷ b ∷ [])) ++ rest)) (length front + length (output_stem netlist node)) ≡ (letter_value a, letter_value b)
    by_bytes a b =
        let at = letters-at (output_stem netlist node) rest a b in
        moved ((output_stem netlist node ++ (a ∷ b ∷ [])) ++ rest) ∙ rw (at.0, at.1) refl

    by_letters : (one other : Tri) → said (front ++ ((output_stem netlist node ++ (tri_letter one ++ tri_letter other)) ++ rest)) (length front + length (output_stem netlist node)) ≡ (one, other)
    by_letters Zero Zero = by_bytes 48 48
    by_letters Zero One = by_bytes 48 49
    by_letters Zero Unknown = by_bytes 48 88
    by_letters One Zero = by_bytes 49 48
    by_letters One One = by_bytes 49 49
    by_letters One Unknown = by_bytes 49 88
    by_letters Unknown Zero = by_bytes 88 48
    by_letters Unknown One = by_bytes 88 49
    by_letters Unknown Unknown = by_bytes 88 88

-- the letters of all outputs say their values
said-behind : (netlist : Netlist) (nodes : List ℕ) (values : List (Tri × Tri)) (front rest : List ℕ) (n : ℕ) → length values ≡ length nodes → length front ≡ n →
    values_at (front ++ (output_words netlist nodes values ++ rest)) (letter_places netlist n nodes) ≡ values
said-behind netlist [] [] front rest n long at = refl
said-behind netlist [] (pair ∷ values) front rest n long at = absurd (omega (arith, long))
said-behind netlist (node ∷ nodes) [] front rest n long at = absurd (omega (arith, long))
said-behind netlist (node ∷ nodes) (pair ∷ values) front rest n long at =
    let word = output_word netlist node pair in
    let words = output_words netlist nodes values in
    let stem = length (output_stem netlist node) in
    let whole = front ++ ((word ++ words) ++ rest) in
    let next : length (front ++ word) ≡ n + stem + 2 = omega (arith, length-append front word, word-length netlist node pair, at) in
    let behind : whole ≡ front ++ (word ++ (words ++ rest)) = ap (λ (list : List ℕ). front ++ list) (append_assoc word words rest) in
    let later : values_at whole (letter_places netlist (n + stem + 2) nodes) ≡ values =
    ap (λ (text : List ℕ). values_at text (letter_places netlist (n + stem + 2) nodes)) (behind ∙ sym (append_assoc front word (words ++ rest)))
    ∙ said-behind netlist nodes values (front ++ word) rest (n + stem + 2) (omega (arith, long)) next in
    let here : said whole (n + stem) ≡ pair =
    ap (λ (text : List ℕ). said text (n + stem)) behind
    ∙ ap (λ (m : ℕ). said (front ++ (word ++ (words ++ rest))) (m + stem)) (sym at) ∙ said-by-word netlist node pair front (words ++ rest) in
    ap (λ (first : Tri × Tri). first ∷ values_at whole (letter_places netlist (n + stem + 2) nodes)) here ∙ ap (λ (list : List (Tri × Tri)). pair ∷ list) later

pub said-by-line : (netlist : Netlist) (values : List (Tri × Tri)) (text places : List ℕ) → length values ≡ length netlist.outputs → drop 10 text ≡ output_words netlist netlist.outputs values ++ newline → places ≡ letter_places netlist 10 netlist.outputs → values_at text places ≡ values
said-by-line netlist values text places long words at =
    let tall : 10 ≤ length text = omega (arith, how-long text (output_words netlist netlist.outputs values) words) in
    let parts : text ≡ take 10 text ++ (output_words netlist netlist.outputs values ++ newline) =
    sym (take-append-drop 10 text) ∙ ap (λ (list : List ℕ). take 10 text ++ list) words in
    ap (λ (list : List ℕ). values_at list places) parts
    ∙ ap (values_at (take 10 text ++ (output_words netlist netlist.outputs values ++ newline))) at
    ∙ said-behind netlist netlist.outputs values (take 10 text) newline 10 long (length-take-le 10 text tall)

-- there are two values for each output
pub count-values : (netlist : Netlist) (text places : List ℕ) → places ≡ letter_places netlist 10 netlist.outputs → length (values_at text places) ≡ length netlist.outputs
count-values netlist text places at = length-map places (said text) ∙ (ap (length {A = ℕ}) at ∙ length-places netlist 10 netlist.outputs)

-- other digits in front leave the values
pub same-values : (netlist : Netlist) (text text' places : List ℕ) → drop 10 text' ≡ drop 10 text → drop 10 text ≡ output_words netlist netlist.outputs (values_at text places) ++ newline → places ≡ letter_places netlist 10 netlist.outputs →
    values_at text' places ≡ values_at text places
same-values netlist text text' places same words at = said-by-line netlist (values_at text places) text' places (count-values netlist text places at) (same ∙ words) at

pub line-kept : (netlist : Netlist) (text text' places : List ℕ) → drop 10 text' ≡ drop 10 text → drop 10 text ≡ output_words netlist netlist.outputs (values_at text places) ++ newline → places ≡ letter_places netlist 10 netlist.outputs →
    drop 10 text' ≡ output_words netlist netlist.outputs (values_at text' places) ++ newline
line-kept netlist text text' places same words at =
    same ∙ words ∙ ap (λ (values : List (Tri × Tri)). output_words netlist netlist.outputs values ++ newline) (sym (same-values netlist text text' places same words at))

-- the line of the outputs so far, with X for each value
abbrev pub unknowns : List ℕ → List (Tri × Tri)
unknowns nodes = map (λ _. (Unknown, Unknown)) nodes

pub record IsLineOf (netlist : Netlist) (nodes text places : List ℕ) : Type 0 where
  pub tall : 10 ≤ length text
  pub text_is : drop 10 text ≡ output_words netlist nodes (unknowns nodes)
  pub places_are : places ≡ letter_places netlist 10 nodes

pub line-next : (netlist : Netlist) (items : List ℕ) (i : ℕ) (name text text' places places' : List ℕ) →
    items ≡ netlist.outputs → i < length items → slice_get netlist.names (get_or items i 0) ≡ Some name →
    IsLineOf netlist (take i netlist.outputs) text places →
    text' ≡ text ++ (((32 ∷ name) ++ 61 ∷ []) ++ 88 ∷ 88 ∷ []) → places' ≡ places ++ (length text + length ((32 ∷ name) ++ 61 ∷ [])) ∷ [] →
    IsLineOf netlist (take (i + 1) netlist.outputs) text' places'
line-next netlist items i name text text' places places' same inside named line worded placed =
    let nodes = take i netlist.outputs in
    let node = get_or items i 0 in
    let values = unknowns nodes in
    let word = ((32 ∷ name) ++ 61 ∷ []) ++ 88 ∷ 88 ∷ [] in
    let unknown : ℕ → Tri × Tri = λ _. (Unknown, Unknown) in
    let is : node_name netlist.names node ≡ name = get_or_from_slice_get netlist.names node name [] named in
    let more : take (i + 1) netlist.outputs ≡ nodes ++ node ∷ [] = subst (λ (list : List ℕ). take (i + 1) list ≡ take i list ++ get_or items i 0 ∷ []) same (take_more items i 0 inside) in
    let long : length values ≡ length nodes = length-map nodes unknown in
    let pushed : unknowns (nodes ++ node ∷ []) ≡ values ++ (Unknown, Unknown) ∷ [] = map-append unknown nodes (node ∷ []) in
    let grown : drop 10 text' ≡ output_words netlist nodes values ++ word =
    ap (drop 10) worded ∙ drop-append-le 10 text word line.tall ∙ ap (λ (list : List ℕ). list ++ word) line.text_is in
    let count : length text ≡ 10 + length (output_words netlist nodes values) =
    omega (arith, line.tall, sym (length-drop 10 text) ∙ ap (length {A = ℕ}) line.text_is) in
    record {
      tall = rw worded (omega (arith, line.tall, length-append text word));
      text_is = rw (more, pushed) (grown ∙ (ap (λ (list : List ℕ). output_words netlist nodes values ++ (((32 ∷ list) ++ 61 ∷ []) ++ 88 ∷ 88 ∷ [])) (sym is) ∙ sym (words-push netlist nodes values node (Unknown, Unknown) long)));
      places_are = rw more (placed ∙ (ap (λ (list : List ℕ). list ++ (length text + length ((32 ∷ name) ++ 61 ∷ [])) ∷ []) line.places_are ∙ sym (places-push netlist 10 nodes values node (length text + length ((32 ∷ name) ++ 61 ∷ [])) long (rw (is, count) (omega arith)))));
    }

-- the line of all outputs, with its end, says X for each
pub line-whole : (netlist : Netlist) (i : ℕ) (text text' places : List ℕ) → length netlist.outputs ≤ i → IsLineOf netlist (take i netlist.outputs) text places → text' ≡ text ++ newline →
    (values_at text' places ≡ unknowns netlist.outputs) × (drop 10 text' ≡ output_words netlist netlist.outputs (values_at text' places) ++ newline) × (places ≡ letter_places netlist 10 netlist.outputs)
line-whole netlist i text text' places all line ended =
    let outputs = netlist.outputs in
    let whole : take i outputs ≡ outputs = take_all i outputs all in
    let words : drop 10 text ≡ output_words netlist outputs (unknowns outputs) = line.text_is ∙ ap (λ (nodes : List ℕ). output_words netlist nodes (unknowns nodes)) whole in
    let behind : drop 10 text' ≡ output_words netlist outputs (unknowns outputs) ++ newline =
    ap (drop 10) ended ∙ drop-append-le 10 text newline line.tall ∙ ap (λ (list : List ℕ). list ++ newline) words in
    let at : places ≡ letter_places netlist 10 outputs = line.places_are ∙ ap (letter_places netlist 10) whole in
    let said_is = said-by-line netlist (unknowns outputs) text' places (length-map outputs (λ _. (Unknown, Unknown))) behind at in
    (said_is, behind ∙ ap (λ (values : List (Tri × Tri)). output_words netlist outputs values ++ newline) (sym said_is), at)
