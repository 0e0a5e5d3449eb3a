-- The class of a variable is the one in the table, so a variable has one.
use Rattle.std.proofs.Common.{◌≡◌, ◌∙◌, refl, sym, zero, suc, Bool, true, false, not, Option, Some, None, arith}
use Rattle.std.proofs.lemmas.Bool.{ne_eqb}
use Rattle.hz_core.specs.declared.tri.Tri.{Tri}
use Rattle.hz_core.specs.declared.tri.Tri.TheVariants.{Zero, One, Unknown}
use Rattle.hz_core.specs.Ternary.{tri_of}
use Rattle.hz_word.specs.declared.count.Count.{Count}
use Rattle.hz_word.specs.declared.count.Count.TheVariants.{Exact, Many}
use Rattle.hz_desk.specs.declared.class.Class.{Class}
use Rattle.hz_desk.specs.declared.class.Class.TheVariants.{Steady, Single, Static, MaybeDynamic, Change, Unsettled}
use Rattle.hz_desk.specs.Class.{ChangesAgain, IsClass, OneClass}
use Rattle.hz_desk.specs.ClassTable.{class_by_changes, class_in_table}
use Rattle.hz_desk.specs.Rows.{MayBeRow}

again : (changes : Option Count) → ChangesAgain changes → MaybeDynamic ≡ class_by_changes changes
again None changed = absurd changed
again (Some Many) changed = refl
again (Some (Exact zero)) changed = absurd (omega (arith, changed))
again (Some (Exact (suc zero))) changed = absurd (omega (arith, changed))
again (Some (Exact (suc (suc more)))) changed = rw (ne_eqb (suc (suc more)) 1 (λ e. omega (arith, e))) refl

in_table : (class : Class) (start : Bool) (a b : Tri) (changes : Option Count) → IsClass start a b changes class → class ≡ class_in_table start a b changes
in_table Steady start Zero b changes is = refl
in_table Steady start One b changes is = refl
in_table Steady start Unknown b changes is = absurd (is.0 refl)
in_table Unsettled start a b changes is = rw (is.0, is.1) refl
in_table Static true a b changes is = rw (is.0, is.1) refl
in_table Static false a b changes is = rw (is.0, is.1) refl
in_table Single true a b changes is = rw (is.0, is.1, is.2) refl
in_table Single false a b changes is = rw (is.0, is.1, is.2) refl
in_table MaybeDynamic true a b changes is = rw (is.0, is.1) (again changes is.2)
in_table MaybeDynamic false a b changes is = rw (is.0, is.1) (again changes is.2)
in_table Change true a b changes is = rw (is.0, is.1, is.2) refl
in_table Change false a b changes is = rw (is.0, is.1, is.2) refl

pub one_class : OneClass
one_class start a b changes one other is_one is_other =
    in_table one start a b changes is_one ∙ sym (in_table other start a b changes is_other)

-- a variable that settles at another value has the class that its changes give
settles : (start : Bool) (b : Tri) (changes : Option Count) → b ≡ tri_of (not start) → (changes ≡ Some (Exact 0) → ⊥) → IsClass start Unknown b changes (class_by_changes changes)
settles start b None other some = (refl, other, refl)
settles start b (Some Many) other some = (refl, other, tt)
settles start b (Some (Exact zero)) other some = absurd (some refl)
settles start b (Some (Exact (suc zero))) other some = (refl, other, refl)
settles start b (Some (Exact (suc (suc changes)))) other some = rw (ne_eqb (suc (suc changes)) 1 (λ e. omega (arith, e))) (refl, other, omega arith)

-- what may be a row has the class in the table
pub has_class : (start : Bool) (a b : Tri) (changes : Option Count) → MayBeRow a b changes → IsClass start a b changes (class_in_table start a b changes)
has_class start Zero b changes may = ((λ e. cc), may.settled (λ e. cc))
has_class start One b changes may = ((λ e. cc), may.settled (λ e. cc))
has_class start Unknown Unknown changes may = (refl, refl)
has_class false Unknown Zero changes may = (refl, refl)
has_class true Unknown One changes may = (refl, refl)
has_class false Unknown One changes may = settles false One changes refl (λ counts. may.constant counts refl)
has_class true Unknown Zero changes may = settles true Zero changes refl (λ counts. may.constant counts refl)
