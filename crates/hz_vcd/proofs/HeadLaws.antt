-- Reading the words of a head.
use Rattle.std.proofs.Common.{◌≡◌, ◌≢◌, ◌∙◌, ℕ, suc, ◌+◌, ◌-◌, ◌<◌, Bool, true, false, not, List, [], ◌∷◌, ◌++◌, map, refl, sym, ap, subst, arith, append_assoc}
use Rattle.std.specs.Prelude.{codes}
use Rattle.std.specs.List.{flat_map, range_with_len, All}
use Rattle.std.specs.Str.{bytes_eq}
use Rattle.std.proofs.lemmas.Slice.Eq.{bytes_eq-Decides}
use Rattle.std.proofs.lemmas.List.Elements.{All-nil, All-cons, All-head, All-tail}
use Rattle.hz_core.specs.Netlist.{Netlist, IsCircuit}
use Rattle.hz_vcd.specs.Word.{words_of}
use Rattle.hz_vcd.specs.Printed.{dump_line, declaration_line}
use Rattle.hz_vcd.specs.Dump.{end_word, IsBlock, OpensBlock, Place, fixed, command, head_places, declaration_of, variables_of}
use Rattle.hz_vcd.proofs.WordLemmas.{Spells-line, Spells-words}
use Rattle.hz_vcd.proofs.WrittenLaws.{declaration-words}
use Rattle.hz_vcd.specs.Reading.{WordsLeft, Ending, Word, BlockEnd, Blocks, Comes, Goes, Past, Stuck, all_words, all_places}
use Rattle.hz_vcd.proofs.ReadingLaws.{past-word, wrong-word, wrong-end}

-- the parts of lists that are the same
pub same-first : {X : Type 0} {x y : X} {xs ys : List X} → x ∷ xs ≡ y ∷ ys → x ≡ y
same-first e = cc

pub same-later : {X : Type 0} {x y : X} {xs ys : List X} → x ∷ xs ≡ y ∷ ys → xs ≡ ys
same-later e = cc

pub none-is : {X : Type 0} {x : X} {xs : List X} → [] ≡ x ∷ xs → ⊥
none-is e = cc

-- a word, and then the rest
module _ (word : List ℕ) (next : Ending) (goes : Goes next []) where
  pub word-goes : Goes (Word word next) []
  word-goes = (word ∷ goes.0, goes.1, goes.2, (goes.0, refl, goes.3))

  pub word-end : (was : WordsLeft) (number : ℕ) → was.words ≡ [] → number ≡ was.read + 1 → Stuck (Word word next) was number
  word-end was number none place = wrong-end (Word word next) was number none place word-goes (λ state steps comes. none-is comes.1)

  pub word-wrong : (was : WordsLeft) (number : ℕ) (found : List ℕ) (later : List (List ℕ)) → was.words ≡ found ∷ later → number ≡ was.read + 1 → found ≢ word → Stuck (Word word next) was number
  word-wrong was number found later are place differ =
      wrong-word (Word word next) was found later number are place word-goes (λ more state steps comes. differ (same-first comes.1))

pub word-past : (word : List ℕ) (next : Ending) (was now : WordsLeft) (found : List ℕ) → was.words ≡ found ∷ now.words → now.read ≡ was.read + 1 → found ≡ word → Past (Word word next) was next now
word-past word next was now found are counts same =
    past-word (Word word next) was next now word (are ∙ ap (λ (w : List ℕ). w ∷ now.words) same) counts
    (λ more state steps comes. subst (λ (words : List (List ℕ)). Comes next words state steps) (sym (same-later comes.1)) comes.2)
    (λ more state steps comes. (more, refl, comes))

-- what the comparison of two words says
pub same-word : (a b : List ℕ) → false ≡ not (bytes_eq a b) → a ≡ b
same-word a b e = (bytes_eq-Decides a b).0 (not-false (bytes_eq a b) (sym e))
  where
    not-false : (t : Bool) → not t ≡ false → t ≡ true
    not-false true f = refl
    not-false false f = absurd (cc)

pub other-word : (a b : List ℕ) → true ≡ not (bytes_eq a b) → a ≢ b
other-word a b e same = clash (bytes_eq a b) (sym e) ((bytes_eq-Decides a b).1 same)
  where
    clash : (t : Bool) → not t ≡ true → t ≡ true → ⊥
    clash true f g = absurd (cc)
    clash false f g = absurd (cc)

pub equal-word : (a b : List ℕ) → true ≡ bytes_eq a b → a ≡ b
equal-word a b e = (bytes_eq-Decides a b).0 (sym e)

pub differing-word : (a b : List ℕ) → false ≡ bytes_eq a b → a ≢ b
differing-word a b e same = clash (bytes_eq a b) (sym e) ((bytes_eq-Decides a b).1 same)
  where
    clash : (t : Bool) → t ≡ false → t ≡ true → ⊥
    clash true f g = absurd (cc)
    clash false f g = absurd (cc)

-- words, and then the rest
pub all-goes : (words : List (List ℕ)) (next : Ending) → Goes next [] → Goes (all_words words next) []
all-goes [] next goes = goes
all-goes (word ∷ words) next goes = word-goes word (all_words words next) (all-goes words next goes)

-- the end of a block, and then the rest
pub block-goes : (next : Ending) → Goes next [] → Goes (BlockEnd next) []
block-goes next goes = (end_word ∷ goes.0, goes.1, goes.2, ([], goes.0, All-nil (λ word. word ≢ end_word), refl, goes.3))

no-words : (inside : List (List ℕ)) (later : List (List ℕ)) → [] ≡ inside ++ end_word ∷ later → ⊥
no-words [] later e = none-is e
no-words (word ∷ inside) later e = none-is e

pub block-end : (next : Ending) (goes : Goes next []) (was : WordsLeft) (number : ℕ) → was.words ≡ [] → number ≡ was.read + 1 → Stuck (BlockEnd next) was number
block-end next goes was number none place =
    wrong-end (BlockEnd next) was number none place (block-goes next goes) (λ state steps comes. no-words comes.0 comes.1 comes.3)

pub block-last : (next : Ending) (was now : WordsLeft) (found : List ℕ) → was.words ≡ found ∷ now.words → now.read ≡ was.read + 1 → found ≡ end_word → Past (BlockEnd next) was next now
block-last next was now found are counts same =
    past-word (BlockEnd next) was next now end_word (are ∙ ap (λ (w : List ℕ). w ∷ now.words) same) counts
    (λ more state steps comes. onward more state steps comes.0 comes.1 comes.2 comes.3 comes.4)
    (λ more state steps comes. ([], more, All-nil (λ word. word ≢ end_word), refl, comes))
  where
    onward : (more : List (List ℕ)) (state : List Bool) (steps : List (List ℕ)) (inside later : List (List ℕ)) → All (λ word. word ≢ end_word) inside → end_word ∷ more ≡ inside ++ end_word ∷ later → Comes next later state steps → Comes next more state steps
    onward more state steps [] later none is comes = subst (λ (words : List (List ℕ)). Comes next words state steps) (sym (same-later is)) comes
    onward more state steps (word ∷ inside) later none is comes = absurd (All-head (λ word. word ≢ end_word) word inside none (sym (same-first is)))

pub block-inside : (next : Ending) (was now : WordsLeft) (found : List ℕ) → was.words ≡ found ∷ now.words → now.read ≡ was.read + 1 → found ≢ end_word → Past (BlockEnd next) was (BlockEnd next) now
block-inside next was now found are counts differ =
    past-word (BlockEnd next) was (BlockEnd next) now found are counts
    (λ more state steps comes. onward more state steps comes.0 comes.1 comes.2 comes.3 comes.4)
    (λ more state steps comes. (found ∷ comes.0, comes.1, All-cons (λ word. word ≢ end_word) found comes.0 differ comes.2, ap (λ (words : List (List ℕ)). found ∷ words) comes.3, comes.4))
  where
    onward : (more : List (List ℕ)) (state : List Bool) (steps : List (List ℕ)) (inside later : List (List ℕ)) → All (λ word. word ≢ end_word) inside → found ∷ more ≡ inside ++ end_word ∷ later → Comes next later state steps → Comes (BlockEnd next) more state steps
    onward more state steps [] later none is comes = absurd (differ (same-first is))
    onward more state steps (word ∷ inside) later none is comes = (inside, later, All-tail (λ word. word ≢ end_word) word inside none, same-later is, comes)

-- blocks and a word, and then the rest
abbrev pub flat : List (List (List ℕ)) → List (List ℕ)
flat blocks = flat_map (λ block. block) blocks

pub blocks-goes : (word : List ℕ) (next : Ending) → Goes next [] → Goes (Blocks word next) []
blocks-goes word next goes = (word ∷ goes.0, goes.1, goes.2, ([], goes.0, All-nil IsBlock, refl, goes.3))

-- the first word of blocks and of what is behind them
data FirstOf (word found : List ℕ) (more : List (List ℕ)) (later : List (List ℕ)) : List (List (List ℕ)) → Type 0 where
  itself : found ≡ word → more ≡ later → FirstOf word found more later []
  opens : (inside : List (List ℕ)) (blocks : List (List (List ℕ))) (block : List (List ℕ)) → OpensBlock found → All (λ w. w ≢ end_word) inside → All IsBlock blocks → more ≡ inside ++ end_word ∷ (flat blocks ++ word ∷ later) → FirstOf word found more later (block ∷ blocks)

first-of : (word found : List ℕ) (more later : List (List ℕ)) (blocks : List (List (List ℕ))) → All IsBlock blocks → found ∷ more ≡ flat blocks ++ word ∷ later → FirstOf word found more later blocks
first-of word found more later [] all is = itself (same-first is) (same-later is)
first-of word found more later (block ∷ blocks) all is =
    let b = All-head IsBlock block blocks all in
    let there : found ∷ more ≡ ((b.first ∷ b.inside ++ end_word ∷ []) ++ flat blocks) ++ word ∷ later = is ∙ ap (λ (words : List (List ℕ)). (words ++ flat blocks) ++ word ∷ later) b.are in
    opens b.inside blocks block (subst OpensBlock (sym (same-first there)) b.opens) b.no_end (All-tail IsBlock block blocks all)
    (same-later there ∙ append_assoc (b.inside ++ end_word ∷ []) (flat blocks) (word ∷ later) ∙ append_assoc b.inside (end_word ∷ []) (flat blocks ++ word ∷ later))

pub blocks-end : (word : List ℕ) (next : Ending) (goes : Goes next []) (was : WordsLeft) (number : ℕ) → was.words ≡ [] → number ≡ was.read + 1 → Stuck (Blocks word next) was number
blocks-end word next goes was number none place =
    wrong-end (Blocks word next) was number none place (blocks-goes word next goes) (λ state steps comes. nothing comes.0 comes.1 comes.2 comes.3)
  where
    nothing : (blocks : List (List (List ℕ))) (later : List (List ℕ)) → All IsBlock blocks → [] ≡ flat blocks ++ word ∷ later → ⊥
    nothing [] later all e = none-is e
    nothing (block ∷ blocks) later all e =
        let b = All-head IsBlock block blocks all in
        none-is (e ∙ ap (λ (words : List (List ℕ)). (words ++ flat blocks) ++ word ∷ later) b.are)

pub blocks-wrong : (word : List ℕ) (next : Ending) (goes : Goes next []) (was : WordsLeft) (number : ℕ) (found : List ℕ) (later : List (List ℕ)) → was.words ≡ found ∷ later → number ≡ was.read + 1 → found ≢ word → (OpensBlock found → ⊥) → Stuck (Blocks word next) was number
blocks-wrong word next goes was number found later are place differ shut =
    wrong-word (Blocks word next) was found later number are place (blocks-goes word next goes)
    (λ more state steps comes. nothing more comes.1 comes.0 (first-of word found more comes.1 comes.0 comes.2 comes.3))
  where
    nothing : (more later : List (List ℕ)) (blocks : List (List (List ℕ))) → FirstOf word found more later blocks → ⊥
    nothing more later [] (itself same is) = differ same
    nothing more later (block ∷ blocks) (opens inside others b open_ none all is) = shut open_

pub blocks-word : (word : List ℕ) (next : Ending) (was now : WordsLeft) (found : List ℕ) → (OpensBlock word → ⊥) → was.words ≡ found ∷ now.words → now.read ≡ was.read + 1 → found ≡ word → Past (Blocks word next) was next now
blocks-word word next was now found shut are counts same =
    past-word (Blocks word next) was next now word (are ∙ ap (λ (w : List ℕ). w ∷ now.words) same) counts
    (λ more state steps comes. onward more state steps comes.1 comes.0 (first-of word word more comes.1 comes.0 comes.2 comes.3) comes.4)
    (λ more state steps comes. ([], more, All-nil IsBlock, refl, comes))
  where
    onward : (more : List (List ℕ)) (state : List Bool) (steps : List (List ℕ)) (later : List (List ℕ)) (blocks : List (List (List ℕ))) → FirstOf word word more later blocks → Comes next later state steps → Comes next more state steps
    onward more state steps later [] (itself e is) comes = subst (λ (words : List (List ℕ)). Comes next words state steps) (sym is) comes
    onward more state steps later (block ∷ blocks) (opens inside others b open_ none all is) comes = absurd (shut open_)

pub blocks-open : (word : List ℕ) (next : Ending) (was now : WordsLeft) (found : List ℕ) → OpensBlock found → found ≢ word → was.words ≡ found ∷ now.words → now.read ≡ was.read + 1 → Past (Blocks word next) was (BlockEnd (Blocks word next)) now
blocks-open word next was now found open_ differ are counts =
    past-word (Blocks word next) was (BlockEnd (Blocks word next)) now found are counts
    (λ more state steps comes. onward more state steps comes.1 comes.0 (first-of word found more comes.1 comes.0 comes.2 comes.3) comes.4)
    (λ more state steps comes. back more state steps comes)
  where
    onward : (more : List (List ℕ)) (state : List Bool) (steps : List (List ℕ)) (later : List (List ℕ)) (blocks : List (List (List ℕ))) → FirstOf word found more later blocks → Comes next later state steps → Comes (BlockEnd (Blocks word next)) more state steps
    onward more state steps later [] (itself same is) comes = absurd (differ same)
    onward more state steps later (block ∷ blocks) (opens inside others b o none all is) comes =
        (inside, flat others ++ word ∷ later, none, is, (others, later, all, refl, comes))

    back : (more : List (List ℕ)) (state : List Bool) (steps : List (List ℕ)) → Comes (BlockEnd (Blocks word next)) more state steps → Comes (Blocks word next) (found ∷ more) state steps
    back more state steps (inside, rest, none, is, (blocks, later, all, then, comes)) =
        let block : List (List ℕ) = found ∷ inside ++ end_word ∷ [] in
        let whole : more ≡ ((inside ++ end_word ∷ []) ++ flat blocks) ++ word ∷ later =
        is ∙ ap (λ (words : List (List ℕ)). inside ++ end_word ∷ words) then
        ∙ sym (append_assoc inside (end_word ∷ []) (flat blocks ++ word ∷ later)) ∙ sym (append_assoc (inside ++ end_word ∷ []) (flat blocks) (word ∷ later)) in (
          block ∷ blocks,
          later,
          All-cons IsBlock block blocks (record { first = found; inside = inside; are = refl; opens = open_; no_end = none }) all,
          ap (λ (words : List (List ℕ)). found ∷ words) whole,
          comes,
        )

-- words and then more of them
pub all_words-append : (first later : List (List ℕ)) (next : Ending) → all_words (first ++ later) next ≡ all_words first (all_words later next)
all_words-append [] later next = refl
all_words-append (word ∷ first) later next = ap (Word word) (all_words-append first later next)

-- fixed places and then more of them
pub all_places-fixed : (words : List (List ℕ)) (places : List Place) (next : Ending) → all_places (map fixed words ++ places) next ≡ all_words words (all_places places next)
all_places-fixed [] places next = refl
all_places-fixed (word ∷ words) places next = ap (Word word) (all_places-fixed words places next)

-- the commands of a head
abbrev pub after_unit : Ending → Ending
after_unit next = Blocks (codes "$timescale") (all_words (words_of (codes "1 ns $end")) next)

abbrev pub after_scope : Ending → Ending
after_scope next = Blocks (codes "$scope") (all_words (words_of (codes "module hazard $end")) next)

abbrev pub after_up : Ending → Ending
after_up next = Blocks (codes "$upscope") (all_words (words_of (codes "$end")) next)

abbrev pub after_head : Ending → Ending
after_head next = Blocks (codes "$enddefinitions") (all_words (words_of (codes "$end")) next)

abbrev pub declarations : Netlist → List (List ℕ)
declarations netlist = flat_map (declaration_of netlist) (range_with_len 0 (variables_of netlist))

pub head-is : (netlist : Netlist) (next : Ending) → all_places (head_places netlist) next ≡ after_unit (after_scope (all_words (declarations netlist) (after_up (after_head next))))
unfolding head_places words_of
head-is netlist next =
    let up = command (codes "$upscope") (end_word ∷ []) in
    let last = command (codes "$enddefinitions") (end_word ∷ []) in
    ap (λ (places : List Place). after_unit (after_scope (all_places places next))) (append_assoc (map fixed (declarations netlist)) up last)
    ∙ ap (λ (rest : Ending). after_unit (after_scope rest)) (all_places-fixed (declarations netlist) (up ++ last) next)

-- the words of a declaration's line
pub declaration-is : (netlist : Netlist) (var : ℕ) → IsCircuit netlist → var < variables_of netlist → words_of (declaration_line netlist var) ≡ declaration_of netlist var
declaration-is netlist var circuit there =
    Spells-words (dump_line (declaration_of netlist var)) (declaration_of netlist var) (Spells-line (declaration_of netlist var) (declaration-words netlist var circuit there))

-- one number of a range
pub range-next : (place count : ℕ) → place < count → range_with_len place (count - place) ≡ place ∷ range_with_len (place + 1) (count - (place + 1))
range-next place count below =
    ap (range_with_len place) (next (count - place) (count - (place + 1)) (omega arith)) ∙ ap (λ (n : ℕ). place ∷ range_with_len n (count - (place + 1))) (omega arith)
  where
    next : (a b : ℕ) → a ≡ b + 1 → a ≡ suc b
    next a b e = omega (arith, e)

-- each of these endings goes on
pub up-goes : (next : Ending) → Goes next [] → Goes (after_up (after_head next)) []
up-goes next goes = command-goes (codes "$upscope") (codes "$end") (after_head next) (command-goes (codes "$enddefinitions") (codes "$end") next goes)
  where
    command-goes : (first later : List ℕ) (next : Ending) → Goes next [] → Goes (Blocks first (all_words (words_of later) next)) []
    command-goes first later next goes = blocks-goes first (all_words (words_of later) next) (all-goes (words_of later) next goes)

pub head-goes : (next : Ending) → Goes next [] → Goes (after_head next) []
head-goes next goes = blocks-goes (codes "$enddefinitions") (all_words (words_of (codes "$end")) next) (all-goes (words_of (codes "$end")) next goes)

pub declarations-go : (netlist : Netlist) (next : Ending) → Goes next [] → Goes (all_words (declarations netlist) (after_up (after_head next))) []
declarations-go netlist next goes = all-goes (declarations netlist) (after_up (after_head next)) (up-goes next goes)

pub scope-goes : (netlist : Netlist) (next : Ending) → Goes next [] → Goes (after_scope (all_words (declarations netlist) (after_up (after_head next)))) []
scope-goes netlist next goes =
    let rest = all_words (declarations netlist) (after_up (after_head next)) in
    blocks-goes (codes "$scope") (all_words (words_of (codes "module hazard $end")) rest) (all-goes (words_of (codes "module hazard $end")) rest (declarations-go netlist next goes))
