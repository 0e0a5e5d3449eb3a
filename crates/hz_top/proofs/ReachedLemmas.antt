-- How far a call came, and what the last flush leaves of that.
use Rattle.std.proofs.Common.{◌≡◌, ◌≢◌, ◌∙◌, ℕ, inl, inr, refl, sym, subst, List, Option, Some, None, IfSome, IsSomeAnd, Result}
use Rattle.hz_outside.specs.WrittenText.{Output}
use Rattle.hz_outside.specs.declared.fault.Place.{Place}
use Rattle.hz_outside.specs.declared.fault.Place.TheVariants.{First, Second}
use Rattle.hz_outside.specs.declared.fault.PutFault.{PutFault}
use Rattle.hz_outside.specs.declared.fault.LoadFault.{LoadFault}
use Rattle.hz_outside.specs.declared.fault.LoadFault.TheVariants as load
use Rattle.hz_core.specs.Netlist.{Netlist}
use Rattle.hz_text.specs.declared.fault.TextFault.{TextFault}
use Rattle.hz_options.specs.declared.options.Options.{Options}
use Rattle.hz_refusal.specs.declared.status.Status.{Status}
use Rattle.hz_refusal.specs.declared.status.Status.TheVariants as status
use Rattle.hz_refusal.specs.Ending.{status_flushed}
use Rattle.hz_refusal.specs.Ends.{Ends, TookWhole}
use Rattle.hz_refusal.specs.Refused.{LoadPrints}
use Rattle.hz_refusal.specs.Second.{IsToldLine}
use Rattle.hz_refusal.proofs.Flushed.{short-flushed, other-flushed}
use Rattle.hz_formats.specs.Netlists.{IsNetlistText, IsToldNetlistLine}
use Rattle.hz_words.specs.declared.job.Task.{Task}
use Rattle.hz_words.specs.declared.job.Task.TheVariants.{Analyse, Edges, Explore, Split, Replay, Convert, Vcd, Batch, Reset}
use Rattle.hz_words.specs.Job.{JobOf, OnFiles, Demo}
use Rattle.hz_top.specs.declared.reached.Reached.{Reached}
use Rattle.hz_top.specs.Outcome.{Observation, CountsStay}
use Rattle.hz_timing.specs.declared.fault.TimedFault.{TimedFault}
use Rattle.hz_timing.specs.Timed.{IsToldTimedLine}
use Rattle.hz_top.specs.Reached.{tells_line, IsLineOfFirst, IsLineOnCircuit, IsLineOfSecond, ComesTo, IsReached}

-- what follows of what is told
if-told : {A : Type 0} (told : Option A) (P Q : A → Type 0) → ((some : A) → P some → Q some) → IfSome told P → IfSome told Q
if-told None P Q more h = tt
if-told (Some some) P Q more h = more some h

-- a line that is told of a text is told of the file which has this text
pub of-file : (held : Option (List ℕ → List ℕ)) (name bytes : List ℕ) (P : List ℕ → Type 0) → IfSome held (λ bytes_of. bytes ≡ bytes_of name) → P bytes → IfSome held (λ bytes_of. P (bytes_of name))
of-file held name bytes P is p = if-told held (λ bytes_of. bytes ≡ bytes_of name) (λ bytes_of. P (bytes_of name)) (λ bytes_of same. subst P same p) is

-- a load that gave no file refuses no text
refuses-none : (place : Place) (fault : LoadFault) (own : Status) (text : List ℕ) → LoadPrints place fault own text → (own ≢ status.Netlist) × (own ≢ status.Text)
refuses-none place load.Failed own text says =
    (λ is. let both : status.File ≡ status.Netlist = sym says.0 ∙ is in cc, λ is. let both : status.File ≡ status.Text = sym says.0 ∙ is in cc)
refuses-none place load.TooLong own text says =
    (λ is. let both : status.TooLong ≡ status.Netlist = sym says.0 ∙ is in cc, λ is. let both : status.TooLong ≡ status.Text = sym says.0 ∙ is in cc)
refuses-none place load.Memory own text says = absurd says

pub no-netlist : {S : Type 0} (output : S → Output) (faults : S → ℕ) (place : Place) (fault : LoadFault) (was now : S) (own : Status) → Ends output faults (LoadPrints place fault) was now own → own ≢ status.Netlist
no-netlist output faults place fault was now own ends is =
    let whole : TookWhole output faults (LoadPrints place fault) was now status.Netlist = subst (Ends output faults (LoadPrints place fault) was now) is ends in
    (refuses-none place fault status.Netlist whole.0 whole.1).0 refl

pub no-text : {S : Type 0} (output : S → Output) (faults : S → ℕ) (place : Place) (fault : LoadFault) (was now : S) (own : Status) → Ends output faults (LoadPrints place fault) was now own → own ≢ status.Text
no-text output faults place fault was now own ends is =
    let whole : TookWhole output faults (LoadPrints place fault) was now status.Text = subst (Ends output faults (LoadPrints place fault) was now) is ends in
    (refuses-none place fault status.Text whole.0 whole.1).1 refl

-- a call that came to the first file, and no further
pub first-reached : (told : Observation) (task : Task) (options : Options) (first second : List ℕ) (own ends : Status) (reached : Option Reached) (line : ℕ) → ends ≡ own
    → IsSomeAnd reached (λ at. (at.place ≡ First) × (at.name.now ≡ first) × (at.line ≡ line)) → CountsStay told Second → IsLineOfFirst told first own line
    → IsReached told (Some (OnFiles task options first second)) ends reached
first-reached told task options first second own ends None line same h stay of = absurd h
first-reached told task options first second own ends (Some at) line same (place, name, line_is) stay of =
    inr (inl (place, name, stay, subst (λ (ends : Status). IsLineOfFirst told first ends at.line) (sym same) (subst (IsLineOfFirst told first own) (sym line_is) of)))

-- the line of the second file, on the circuit of the first one
pub second-line : (told : Observation) (task : Task) (first second bytes : List ℕ) (netlist : Netlist) (own : Status) (line : ℕ) → IfSome told.held (λ bytes_of. bytes ≡ bytes_of first)
    → IsNetlistText first bytes netlist → IsLineOnCircuit told.held (tells_line task netlist) second own line → IsLineOfSecond told task first second own line
second-line told task first second bytes netlist own line is text of =
    of-file told.held first bytes (λ bytes. (netlist : Netlist) × IsNetlistText first bytes netlist × IsLineOnCircuit told.held (tells_line task netlist) second own line) is (netlist, text, of)

-- memory ran out when the words were read
pub wordless : (told : Observation) (asked : Option JobOf) → IsReached told asked status.Memory None
wordless told None = refl
wordless told (Some (OnFiles task options first second)) = inl (inr refl, refl)
wordless told (Some (Demo number options)) = refl

module _ (flush : Result (Unit {0}) PutFault) (own : Status) where
  netlist-flushed : (name bytes : List ℕ) (line : ℕ) → IsToldNetlistLine name bytes own line → IsToldNetlistLine name bytes (status_flushed flush own) line
  netlist-flushed name bytes line (inl least) = inl least
  netlist-flushed name bytes line (inr (short, none)) = inr (short-flushed flush own short, none)

  first-flushed : (told : Observation) (first : List ℕ) (line : ℕ) → IsLineOfFirst told first own line → IsLineOfFirst told first (status_flushed flush own) line
  first-flushed told first line (inl (other, none)) = inl (other-flushed status.Netlist (λ is. cc) (λ is. cc) flush own other, none)
  first-flushed told first line (inr of) =
      inr (if-told told.held (λ bytes_of. IsToldNetlistLine first (bytes_of first) own line) (λ bytes_of. IsToldNetlistLine first (bytes_of first) (status_flushed flush own) line)
      (λ bytes_of. netlist-flushed first (bytes_of first) line) of)

  text-flushed : (holds : TextFault → Type 0) (line : ℕ) → IsToldLine holds own line → IsToldLine holds (status_flushed flush own) line
  text-flushed holds line (inl least) = inl least
  text-flushed holds line (inr (inl clear, none)) = inr (inl clear, none)
  text-flushed holds line (inr (inr short, none)) = inr (inr (short-flushed flush own short), none)

  timed-flushed : (holds : TimedFault → Type 0) (line : ℕ) → IsToldTimedLine holds own line → IsToldTimedLine holds (status_flushed flush own) line
  timed-flushed holds line (inl least) = inl least
  timed-flushed holds line (inr (inl clear, none)) = inr (inl clear, none)
  timed-flushed holds line (inr (inr short, none)) = inr (inr (short-flushed flush own short), none)

  task-flushed : (task : Task) (netlist : Netlist) (text : List ℕ) (line : ℕ) → tells_line task netlist text own line → tells_line task netlist text (status_flushed flush own) line
  task-flushed Analyse netlist text line = text-flushed _ line
  task-flushed Edges netlist text line = timed-flushed _ line
  task-flushed Explore netlist text line = timed-flushed _ line
  task-flushed Split netlist text line = text-flushed _ line
  task-flushed Replay netlist text line = text-flushed _ line
  task-flushed Convert netlist text line = text-flushed _ line
  task-flushed Vcd netlist text line = text-flushed _ line
  task-flushed Batch netlist text line = text-flushed _ line
  task-flushed Reset netlist text line = text-flushed _ line

  circuit-flushed : (held : Option (List ℕ → List ℕ)) (task : Task) (netlist : Netlist) (second : List ℕ) (line : ℕ) → IsLineOnCircuit held (tells_line task netlist) second own line
      → IsLineOnCircuit held (tells_line task netlist) second (status_flushed flush own) line
  circuit-flushed held task netlist second line (inl (other, none)) = inl (other-flushed status.Text (λ is. cc) (λ is. cc) flush own other, none)
  circuit-flushed held task netlist second line (inr of) =
      inr (if-told held (λ bytes_of. tells_line task netlist (bytes_of second) own line) (λ bytes_of. tells_line task netlist (bytes_of second) (status_flushed flush own) line)
      (λ bytes_of. task-flushed task netlist (bytes_of second) line) of)

  comes-flushed : (told : Observation) (task : Task) (first second : List ℕ) (at : Reached) → ComesTo told task first second own at → ComesTo told task first second (status_flushed flush own) at
  comes-flushed told task first second at (inl (place, name, stay, of)) = inl (place, name, stay, first-flushed told first at.line of)
  comes-flushed told task first second at (inr (place, name, of)) =
      inr (
        place,
        name,
        if-told told.held (λ bytes_of. (netlist : Netlist) × IsNetlistText first (bytes_of first) netlist × IsLineOnCircuit told.held (tells_line task netlist) second own at.line)
            (λ bytes_of. (netlist : Netlist) × IsNetlistText first (bytes_of first) netlist × IsLineOnCircuit told.held (tells_line task netlist) second (status_flushed flush own) at.line)
            (λ bytes_of read. (read.0, read.1, circuit-flushed told.held task read.0 second at.line read.2)) of,
      )

  -- the last flush changes nothing of how far a call came
  reached-flushed : (told : Observation) (asked : Option JobOf) (reached : Option Reached) → IsReached told asked own reached → IsReached told asked (status_flushed flush own) reached
  reached-flushed told None reached none = none
  reached-flushed told (Some (Demo number options)) reached none = none
  reached-flushed told (Some (OnFiles task options first second)) reached (inl (short, none)) = inl (short-flushed flush own short, none)
  reached-flushed told (Some (OnFiles task options first second)) None (inr come) = absurd come
  reached-flushed told (Some (OnFiles task options first second)) (Some at) (inr come) = inr (comes-flushed told task first second at come)

  pub reached-end : (ends : Status) (told : Observation) (asked : Option JobOf) (reached : Option Reached) → ends ≡ status_flushed flush own → IsReached told asked own reached → IsReached told asked ends reached
  reached-end ends told asked reached is of = subst (λ (ends : Status). IsReached told asked ends reached) (sym is) (reached-flushed told asked reached of)
