-- What is known of each variable before its class is.
use Rattle.std.proofs.Common.{◌≡◌, ◌∙◌, refl, sym, ap, subst, ℕ, ◌<◌, ◌≤◌, ◌↔◌, Bool, true, false, Option, Some, None, List, [], length, get_or, IsTrue, arith, inl, inr}
use Rattle.std.proofs.lemmas.Bool.{cases_Bool, true≢false, false≢true}
use Rattle.std.proofs.lemmas.Option.{get_or_from_slice_get, none-some}
use Rattle.std.specs.Prelude.{nat_le, if◌then◌else◌}
use Rattle.hz_core.specs.declared.tri.Tri.{Tri}
use Rattle.hz_core.specs.declared.tri.Tri.TheVariants.{Zero, One, Unknown}
use Rattle.hz_core.specs.Ternary.{AllBelow, is_below}
use Rattle.hz_core.specs.Netlist.{Netlist, IsCircuit, IsWhole}
use Rattle.hz_core.proofs.Refinements.{get_or-AllBelow}
use Rattle.hz_net.specs.Network.{network_of, value_at, bit_at}
use Rattle.hz_net.specs.Passes.{algorithm_a, AreRounds, IsKnown, IsResult}
use Rattle.hz_net.specs.Starts.{IsStableStart}
use Rattle.hz_net.proofs.Sequences.{length-algorithm_a, length-algorithm_b}
use Rattle.hz_word.specs.declared.count.Count.{Count}
use Rattle.hz_word.specs.declared.count.Count.TheVariants.{Exact, Many}
use Rattle.hz_word.specs.declared.word.Word.{Word}
use Rattle.hz_word.specs.Word.{change_count}
use Rattle.hz_word.specs.Capped.{capped_word, capped_count}
use Rattle.hz_free.specs.Chains.{IsFeedbackFree}
use Rattle.hz_free.specs.FreePart.{AreMarks}
use Rattle.hz_free.specs.VariableWords.{AreVariableWords, AreCappedWords}
use Rattle.hz_desk.specs.ResultsOfPasses.{ArePassResults}
use Rattle.hz_desk.specs.Rows.{changes_of, MayBeRows}
use Rattle.hz_desk.proofs.BelowA.{below-result, below-first}

-- what lies below a value that is 0 or 1 is this value
same-known : (small large : Tri) → IsTrue (is_below small large) → IsKnown large → small ≡ large
same-known Zero Zero below known = refl
same-known Zero One below known = absurd (false≢true below)
same-known One Zero below known = absurd (false≢true below)
same-known One One below known = refl
same-known Unknown Zero below known = absurd (false≢true below)
same-known Unknown One below known = absurd (false≢true below)
same-known small Unknown below known = absurd (known refl)

-- a number that is capped to 0 is 0
none-counted : (changes : ℕ) (fits : Bool) → Some (if fits then Exact changes else Many) ≡ Some (Exact 0) → changes ≡ 0
none-counted changes true is = ap count_in is
  where
    count_in : Option Count → ℕ
    count_in None = 0
    count_in (Some (Exact n)) = n
    count_in (Some Many) = 0
none-counted changes false is = absurd (true≢false (ap is_many is))
  where
    is_many : Option Count → Bool
    is_many None = false
    is_many (Some (Exact n)) = false
    is_many (Some Many) = true

-- the law on words, as the crate below says it
abbrev pub WordsChange : Type 0
WordsChange =
    (netlist : Netlist) (input start : List Bool) (words : List (List Bool)) (result : List Tri) (i : ℕ) → IsCircuit netlist → IsWhole netlist →
    IsStableStart netlist start → AreVariableWords (network_of netlist) input start words → IsResult (algorithm_a (network_of netlist) input start) result →
    i < length (network_of netlist) → IsFeedbackFree (network_of netlist) i →
    (1 ≤ change_count (get_or words i [])) ↔ (value_at result i ≡ Unknown)

-- the results have a value for each variable
pub long-a : (netlist : Netlist) (input start : List Bool) (a : List Tri) (ranks : List ℕ) (b : List Tri) (when : List ℕ) (rounds_a rounds_b : ℕ) → IsStableStart netlist start → ArePassResults netlist input start a ranks b when rounds_a rounds_b → length a ≡ length (network_of netlist)
long-a netlist input start a ranks b when rounds_a rounds_b begins passed =
    ap length passed.a_result ∙ length-algorithm_a (network_of netlist) input start begins.long rounds_a

pub long-b : (netlist : Netlist) (input start : List Bool) (a : List Tri) (ranks : List ℕ) (b : List Tri) (when : List ℕ) (rounds_a rounds_b : ℕ) → IsStableStart netlist start → ArePassResults netlist input start a ranks b when rounds_a rounds_b → length b ≡ length (network_of netlist)
long-b netlist input start a ranks b when rounds_a rounds_b begins passed =
    ap length passed.b_result
    ∙ length-algorithm_b (network_of netlist) input a (long-a netlist input start a ranks b when rounds_a rounds_b begins passed) rounds_b

-- if the word of a variable has no change, the variable is 0 or 1 in Algorithm A
constant-known : WordsChange → (netlist : Netlist) (free : List Bool) (input start : List Bool) (cap : ℕ) (a : List Tri) (rounds : ℕ) (told : List (Option Word)) (i : ℕ) → IsCircuit netlist → IsWhole netlist → AreMarks (network_of netlist) free → IsStableStart netlist start → AreRounds (algorithm_a (network_of netlist) input start) rounds → a ≡ algorithm_a (network_of netlist) input start rounds → AreCappedWords (network_of netlist) input start cap told → i < length (network_of netlist) → changes_of (get_or told i None) ≡ Some (Exact 0) → IsKnown (value_at a i)
constant-known change netlist free input start most a rounds told i circuit whole marks begins are a_is words below counts unknown =
    elim (cases_Bool (bit_at free i)) [
      | inl marked ↦ unfed marked
      | inr clear ↦ fed clear
    ]
  where
    word : List Bool
    word = get_or words.words i []

    unfed : bit_at free i ≡ true → ⊥
    unfed marked =
        let is_free : IsFeedbackFree (network_of netlist) i = (marks.exact i below).0 marked in
        let told_is : get_or told i None ≡ Some (capped_word most word) = get_or_from_slice_get told i (Some (capped_word most word)) None (words.free i below is_free) in
        let counted : Some (capped_count most (change_count word)) ≡ Some (Exact 0) = sym (ap changes_of told_is) ∙ counts in
        let none : change_count word ≡ 0 = none-counted (change_count word) (nat_le (change_count word) most) counted in
        let some : 1 ≤ change_count word =
        (change netlist input start words.words a i circuit whole begins words.are_words (rounds, are, a_is) below is_free).1 unknown in
        omega (arith, none, some)

    fed : bit_at free i ≡ false → ⊥
    fed clear =
        let not_free : IsFeedbackFree (network_of netlist) i → ⊥ = λ is_free. true≢false (sym ((marks.exact i below).1 is_free) ∙ clear) in
        let told_is : get_or told i None ≡ None = get_or_from_slice_get told i None None (words.others i below not_free) in
        let counted : None ≡ Some (Exact 0) = sym (ap changes_of told_is) ∙ counts in
        none-some (Exact 0) counted

-- what is known of all variables
pub may-be-rows : WordsChange → (netlist : Netlist) (free : List Bool) (input start : List Bool) (cap : ℕ) (a : List Tri) (ranks : List ℕ) (b : List Tri) (when : List ℕ) (rounds_a rounds_b : ℕ) (told : List (Option Word)) → IsCircuit netlist → IsWhole netlist → AreMarks (network_of netlist) free → IsStableStart netlist start → ArePassResults netlist input start a ranks b when rounds_a rounds_b → AreCappedWords (network_of netlist) input start cap told → MayBeRows (length (network_of netlist)) start a b told
may-be-rows change netlist free input start cap a ranks b when rounds_a rounds_b told circuit whole marks begins passed words =
    let net = network_of netlist in
    let below : AllBelow b a = subst (λ (values : List Tri). AllBelow values a) (sym passed.b_result)
    (below-first net input a (below-result net input start a a rounds_a begins.long passed.a_rounds passed.a_result refl) rounds_b) in
    record {
      start_long = begins.long;
      a_long = long-a netlist input start a ranks b when rounds_a rounds_b begins passed;
      b_long = long-b netlist input start a ranks b when rounds_a rounds_b begins passed;
      words_long = words.long;
      each = λ i inside. record {
        settled = λ known. same-known (value_at b i) (value_at a i) (get_or-AllBelow b a below i) known;
        constant = λ counts. constant-known change netlist free input start cap a rounds_a told i circuit whole marks begins passed.a_rounds passed.a_result words inside counts;
      };
    }
