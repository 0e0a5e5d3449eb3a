-- Every pattern comes to an ending, also if it is never looked at.
use Rattle.std.proofs.Common.{◌≡◌, ◌∙◌, refl, ap, subst, ℕ, ◌+◌, ◌<◌, Bool, true, false, List, [], ◌∷◌, ◌++◌, length, map, take, drop, get_or, Option, Some, None, inl, inr, arith}
use Rattle.std.specs.Prelude.{◌⊎◌, All}
use Rattle.std.proofs.lemmas.List.{length-append, length-map, length-drop, get_or_append_left, get_or-map, take-append-drop}
use Rattle.std.proofs.lemmas.List.Elements.{All-head, All-tail, All-drop}
use Rattle.std.proofs.lemmas.Option.{slice_get-get_or}
use Rattle.hz_outside.specs.WrittenText.{Output}
use Rattle.hz_core.specs.declared.tri.Tri.{Tri}
use Rattle.hz_core.specs.Netlist.{Netlist, IsCircuit, IsWhole}
use Rattle.hz_net.specs.Network.{network_of}
use Rattle.hz_net.specs.Passes.{algorithm_a, algorithm_b, IsResult}
use Rattle.hz_net.specs.Starts.{ListsInputs, IsAcceptedStart}
use Rattle.hz_pass.specs.Decided.{StartsAreDecided, HasOpenNode, HasUnstableGate, GivesStart}
use Rattle.hz_net.specs.PassEnds.{ResultOfAExists, ResultOfBExists}
use Rattle.hz_pattern_text.specs.PatternText.{ArePatternsFor, IsPatternOf}
use Rattle.hz_pattern_text.specs.PatternValue.{PatternOf, PatternsOf}
use Rattle.hz_write.specs.declared.writer.Writer.{Writer}
use Rattle.hz_write.specs.Writer.{Writes, has_failed}
use Rattle.hz_write.proofs.Writers.{writes_then, writes_failed}
use Rattle.hz_batch.specs.declared.counts.Counts.{Counts}
use Rattle.hz_batch.specs.declared.job.Job.{Job}
use Rattle.hz_batch.specs.declared.job.Job.TheVariants.{Batch, Reset}
use Rattle.hz_batch.specs.BatchText.{ending_lines}
use Rattle.hz_batch.specs.Comes.{comes_to, last_of, IsTextOf}
use Rattle.hz_batch.specs.Each.{AreEach}
use Rattle.hz_batch.specs.Laws.{AreLaws}
use Rattle.hz_batch.specs.PatternEnd.{PatternEnd, Open, Unstable, Settled, IsPatternEnd, listing_of}
use Rattle.hz_batch.specs.Written.{AreWritten}
use Rattle.hz_batch.proofs.BroughtAbout.{brought-about}
use Rattle.hz_batch.proofs.Joined.{each-append, lines-append}
use Rattle.hz_batch.proofs.TextOf.{text-of-endings}

-- a listed start comes to an ending
ending-exists : (netlist : Netlist) (listed : List (Option Bool)) (input : List Bool) → StartsAreDecided → ResultOfAExists → ResultOfBExists → IsCircuit netlist → length listed ≡ length netlist.names → ListsInputs netlist listed →
    (ending : PatternEnd) × IsPatternEnd netlist listed input ending
ending-exists netlist listed input decided a_exists b_exists circuit long lists = by_start (decided netlist listed circuit long lists).one
  where
    by_b : (start : List Bool) → IsAcceptedStart netlist listed start → (a : List Tri) → IsResult (algorithm_a (network_of netlist) input start) a → ((b : List Tri) × IsResult (algorithm_b (network_of netlist) input a) b) → (ending : PatternEnd) × IsPatternEnd netlist listed input ending
    by_b start accepted a of_a (b, of_b) = (Settled a b, (start, accepted, of_a, of_b))

    by_a : (start : List Bool) → IsAcceptedStart netlist listed start → ((a : List Tri) × IsResult (algorithm_a (network_of netlist) input start) a) → (ending : PatternEnd) × IsPatternEnd netlist listed input ending
    by_a start accepted (a, of_a) = by_b start accepted a of_a (b_exists (network_of netlist) input start a accepted.completed.long of_a)

    by_start : HasOpenNode netlist listed ⊎ (HasUnstableGate netlist listed ⊎ GivesStart netlist listed) → (ending : PatternEnd) × IsPatternEnd netlist listed input ending
    by_start (inl (node, least)) = (Open node, least)
    by_start (inr (inl (gate, least))) = (Unstable gate, least)
    by_start (inr (inr (start, accepted))) = by_a start accepted (a_exists (network_of netlist) input start accepted.completed.long)

-- what a pattern lists
listing-long : (netlist : Netlist) (held : List (Option Bool)) (pattern : PatternOf) → IsCircuit netlist → length held ≡ length netlist.names → length pattern.from ≡ netlist.inputs → length (listing_of held pattern) ≡ length netlist.names
listing-long netlist held pattern circuit nodes long =
    let some : Bool → Option Bool = λ (bit : Bool). Some bit in
    omega (arith, length-append (map some pattern.from) (drop (length pattern.from) held), length-map pattern.from some, length-drop (length pattern.from) held, nodes, long, circuit.nodes)

listing-inputs : (netlist : Netlist) (held : List (Option Bool)) (pattern : PatternOf) → IsCircuit netlist → length held ≡ length netlist.names → length pattern.from ≡ netlist.inputs → ListsInputs netlist (listing_of held pattern)
listing-inputs netlist held pattern circuit nodes long = λ input primary.
    let some : Bool → Option Bool = λ (bit : Bool). Some bit in
    let inside : input < length pattern.from = omega (arith, primary, long) in
    let within : input < length (map some pattern.from) = omega (arith, inside, length-map pattern.from some) in
    let none : Option Bool = None in (
      get_or pattern.from input false,
      slice_get-get_or (listing_of held pattern) input none (omega (arith, within, length-append (map some pattern.from) (drop (length pattern.from) held)))
          ∙ ap (λ (entry : Option Bool). Some entry) (get_or_append_left (map some pattern.from) (drop (length pattern.from) held) none input within ∙ get_or-map some pattern.from input false none inside),
    )

-- a pattern comes to an ending, by the job
comes-exists : (job : Job) (netlist : Netlist) (value : PatternsOf) (pattern : PatternOf) → AreLaws → IsCircuit netlist → IsWhole netlist → ArePatternsFor netlist value → IsPatternOf netlist.inputs pattern →
    (ending : PatternEnd) × comes_to job netlist value.held pattern ending
comes-exists Batch netlist value pattern laws circuit whole for right =
    ending-exists netlist (listing_of value.held pattern) pattern.to laws.decided laws.a_exists laws.b_exists circuit (listing-long netlist value.held pattern circuit for.nodes right.from) (listing-inputs netlist value.held pattern circuit for.nodes right.from)
comes-exists Reset netlist value pattern laws circuit whole for right =
    let found = brought-about netlist value pattern laws circuit whole for right in
    (Settled found.first found.second, found.is)

-- patterns come to endings
pub endings-exist : (job : Job) (netlist : Netlist) (value : PatternsOf) (patterns : List PatternOf) → AreLaws → IsCircuit netlist → IsWhole netlist → ArePatternsFor netlist value → All (IsPatternOf netlist.inputs) patterns →
    (endings : List PatternEnd) × AreEach (comes_to job netlist value.held) patterns endings
endings-exist job netlist value [] laws circuit whole for all = ([], tt)
endings-exist job netlist value (pattern ∷ patterns) laws circuit whole for all =
    by_both (comes-exists job netlist value pattern laws circuit whole for (All-head (IsPatternOf netlist.inputs) pattern patterns all))
    (endings-exist job netlist value patterns laws circuit whole for (All-tail (IsPatternOf netlist.inputs) pattern patterns all))
  where
    by_both : ((ending : PatternEnd) × comes_to job netlist value.held pattern ending) → ((endings : List PatternEnd) × AreEach (comes_to job netlist value.held) patterns endings) → (endings : List PatternEnd) × AreEach (comes_to job netlist value.held) (pattern ∷ patterns) endings
    by_both (ending, is) (endings, are) = (ending ∷ endings, (is, are))

-- so there is always a text
pub text-exists : (job : Job) (netlist : Netlist) (value : PatternsOf) → AreLaws → IsCircuit netlist → IsWhole netlist → ArePatternsFor netlist value → (text : List ℕ) × IsTextOf job netlist value text
text-exists job netlist value laws circuit whole for = by_endings (endings-exist job netlist value value.patterns laws circuit whole for for.patterns)
  where
    by_endings : ((endings : List PatternEnd) × AreEach (comes_to job netlist value.held) value.patterns endings) → (text : List ℕ) × IsTextOf job netlist value text
    by_endings (endings, are) = (ending_lines netlist 1 endings ++ last_of job endings, text-of-endings job netlist value endings are)

-- after a fault the lines of the patterns that are left count as given
pub record AreLines {S : Type 0} (output : S → Output) (faults : S → ℕ) (netlist : Netlist) (comes : PatternOf → PatternEnd → Type 0) (patterns : List PatternOf) (was now : Writer S) : Type 0 where
  pub endings : List PatternEnd
  pub are_endings : AreEach comes patterns endings
  pub lines : Writes output faults (ending_lines netlist 1 endings) was now

pub not-both : {failed : Bool} → failed ≡ true → failed ≡ false → ⊥
not-both is not = cc

module _ {S : Type 0} (output : S → Output) (faults : S → ℕ) where
  pub written-cut : (job : Job) (netlist : Netlist) (value : PatternsOf) (n : ℕ) (a b : Writer S) (was now : Counts) → AreLaws → IsCircuit netlist → IsWhole netlist → ArePatternsFor netlist value → has_failed b ≡ true →
      AreWritten output faults netlist (comes_to job netlist value.held) (take n value.patterns) 1 a b was now → AreLines output faults netlist (comes_to job netlist value.held) value.patterns a b
  written-cut job netlist value n a b was now laws circuit whole for failed first =
      by_rest (endings-exist job netlist value (drop n value.patterns) laws circuit whole for (All-drop (IsPatternOf netlist.inputs) n value.patterns for.patterns))
    where
      by_rest : ((endings : List PatternEnd) × AreEach (comes_to job netlist value.held) (drop n value.patterns) endings) → AreLines output faults netlist (comes_to job netlist value.held) value.patterns a b
      by_rest (others, are) = record {
        endings = first.endings ++ others;
        are_endings = subst (λ (patterns : List PatternOf). AreEach (comes_to job netlist value.held) patterns (first.endings ++ others)) (take-append-drop n value.patterns)
            (each-append (comes_to job netlist value.held) (take n value.patterns) (drop n value.patterns) first.endings others first.are_endings are);
        lines = writes_then first.lines (writes_failed (ending_lines netlist (1 + length first.endings) others) failed) (lines-append netlist 1 (1 + length first.endings) first.endings others refl);
      }
