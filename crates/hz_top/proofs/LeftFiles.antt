-- What is left of the counts of files: both stay, or that of the second, or the first file is a netlist.
use Rattle.std.proofs.Common.{◌≡◌, ◌≢◌, ◌∙◌, sym, Result, Ok, Err, ℕ, ◌≤◌, List, length, Option, Some, None, subst, arith, inl, inr}
use Rattle.std.specs.Prelude.{IfSome}
use Rattle.hz_outside.specs.declared.fault.Place.{Place}
use Rattle.hz_outside.specs.declared.fault.Place.TheVariants.{First, Second}
use Rattle.hz_line.specs.Line.{most_text_bytes}
use Rattle.hz_core.specs.Netlist.{Netlist}
use Rattle.hz_options.specs.declared.options.Options.{Options}
use Rattle.hz_words.specs.declared.job.Task.{Task}
use Rattle.hz_words.specs.Job.{JobOf, OnFiles, Demo}
use Rattle.hz_top.specs.Outcome.{Observation, CountsStay}
use Rattle.hz_top.specs.LeftFiles.{IsRefusedFirst, CountsRise, LeavesFiles}
use Rattle.hz_formats.specs.Netlists.{IsNetlistText}
use Rattle.hz_formats.proofs.NetlistTexts.{not-both}

-- whatever is told
stays-anyway : (held : Option (List ℕ → List ℕ)) (first : List ℕ) (stays : Type 0) → stays → IfSome held (λ bytes_of. IsRefusedFirst first (bytes_of first) → stays)
stays-anyway None first stays is = tt
stays-anyway (Some bytes_of) first stays is = λ refused. is

-- where the second file is not asked for
pub second-stays : (told : Observation) (task : Task) (options : Options) (first second : List ℕ) → CountsStay told Second → LeavesFiles told (Some (OnFiles task options first second))
second-stays told task options first second stays = (λ rise. stays, stays-anyway told.held first (CountsStay told Second) stays)

-- where no file is asked for
pub both-stay : (told : Observation) (asked : Option JobOf) → ((place : Place) → CountsStay told place) → LeavesFiles told asked
both-stay told None stay = stay
both-stay told (Some (OnFiles task options first second)) stay = second-stays told task options first second (stay Second)
both-stay told (Some (Demo number options)) stay = stay

-- where the first file is a netlist
not-refused : (first bytes : List ℕ) (netlist : Netlist) → length bytes ≤ most_text_bytes → IsNetlistText first bytes netlist → IsRefusedFirst first bytes → ⊥
not-refused first bytes netlist short text (inl long) = omega (arith, short, long)
not-refused first bytes netlist short text (inr refused) = not-both first bytes netlist refused.1.0 text refused.1.1

told-read : (held : Option (List ℕ → List ℕ)) (first bytes : List ℕ) (netlist : Netlist) (stays : Type 0) → IfSome held (λ bytes_of. bytes ≡ bytes_of first) → length bytes ≤ most_text_bytes
    → IsNetlistText first bytes netlist → IfSome held (λ bytes_of. IsRefusedFirst first (bytes_of first) → stays)
told-read None first bytes netlist stays is short text = tt
told-read (Some bytes_of) first bytes netlist stays is short text =
    λ refused. absurd (subst (λ (told : List ℕ). IsRefusedFirst first told → ⊥) is (not-refused first bytes netlist short text) refused)

-- a load that gave a file has no fault
pub loaded : {A E : Type 0} (result : Result A E) (file : A) (fault : E) → result ≡ Ok file → result ≢ Err fault
loaded result file fault is other = let both : Ok file ≡ Err fault = sym is ∙ other in cc

-- where no count of the first file changed
none-rise : (told : Observation) → CountsStay told First → CountsRise told First → ⊥
none-rise told stay (inl more) = omega (arith, more, stay.0)
none-rise told stay (inr more) = omega (arith, more, stay.1)

pub first-read : (told : Observation) (task : Task) (options : Options) (first second bytes : List ℕ) (netlist : Netlist) → CountsStay told First
    → IfSome told.held (λ bytes_of. bytes ≡ bytes_of first) → length bytes ≤ most_text_bytes
    → IsNetlistText first bytes netlist → LeavesFiles told (Some (OnFiles task options first second))
first-read told task options first second bytes netlist stay is short text =
    (λ rise. absurd (none-rise told stay rise), told-read told.held first bytes netlist (CountsStay told Second) is short text)
