-- No gate function is constant: where every pin is X, the extension is X.
use Rattle.std.proofs.Common.{◌≡◌, ℕ, zero, suc, ◌<◌, ◌≤◌, ◌%◌, Bool, true, false, not, cond, List, [], ◌∷◌, length, IsTrue, refl, ap, arith}
use Rattle.std.specs.Prelude.{nat_eq}
use Rattle.std.specs.List.{list_any, list_all, count_by}
use Rattle.std.proofs.lemmas.List.Sums.{sum_by-cons}
use Rattle.hz_core.specs.declared.tri.Tri.{Tri}
use Rattle.hz_core.specs.declared.tri.Tri.TheVariants.{Zero, One, Unknown}
use Rattle.hz_core.specs.declared.kind.Kind.{Kind}
use Rattle.hz_core.specs.declared.kind.Kind.TheVariants.{And, Nand, Or, Nor, Xor, Xnor, Not, Buff}
use Rattle.hz_core.specs.Ternary.{admits, Refines, IsJoinOf}
use Rattle.hz_core.specs.Gate.{gate_value}
use Rattle.hz_core.specs.Extension.{extension, IsValueOver}
use Rattle.hz_core.proofs.Extensions.{IsExtension-extension}
use Rattle.hz_net.specs.Network.{value_at}

-- every bit refines X
admits-unknown : (value : Tri) (bit : Bool) → value ≡ Unknown → IsTrue (admits value bit)
admits-unknown Zero bit e = cc
admits-unknown One bit e = cc
admits-unknown Unknown false e = refl
admits-unknown Unknown true e = refl

Refines-unknown : (bits : List Bool) (values : List Tri) → length bits ≡ length values → ((k : ℕ) → k < length values → value_at values k ≡ Unknown) → Refines bits values
Refines-unknown [] [] same each = tt
Refines-unknown [] (value ∷ values) same each = cc
Refines-unknown (bit ∷ bits) [] same each = cc
Refines-unknown (bit ∷ bits) (value ∷ values) same each =
    (admits-unknown value bit (each 0 (omega arith)), Refines-unknown bits values (omega (arith, same)) (λ k few. each (suc k) (omega (arith, few))))

falses : ℕ → List Bool
falses zero = []
falses (suc n) = false ∷ falses n

trues : ℕ → List Bool
trues zero = []
trues (suc n) = true ∷ trues n

length-falses : (n : ℕ) → length (falses n) ≡ n
unfolding falses
length-falses zero = refl
length-falses (suc n) = ap suc (length-falses n)

length-trues : (n : ℕ) → length (trues n) ≡ n
unfolding trues
length-trues zero = refl
length-trues (suc n) = ap suc (length-trues n)

every-trues : (n : ℕ) → list_all (λ pin. pin) (trues n) ≡ true
unfolding trues
every-trues zero = refl
every-trues (suc n) = every-trues n

some-falses : (n : ℕ) → list_any (λ pin. pin) (falses n) ≡ false
unfolding falses
some-falses zero = refl
some-falses (suc n) = some-falses n

count-falses : (n : ℕ) → count_by (λ pin. pin) (falses n) ≡ 0
unfolding falses
count-falses zero = refl
count-falses (suc n) = count-falses n

count-one : (n : ℕ) → count_by (λ pin. pin) (true ∷ falses n) ≡ 1
count-one n = omega (arith, sum_by-cons (λ (pin : Bool). cond pin 1 0) true (falses n), count-falses n)

-- a gate has each value on some bits of any number of pins but none
lower-bits : Kind → ℕ → List Bool
lower-bits And n = false ∷ falses n
lower-bits Nand n = true ∷ trues n
lower-bits Or n = false ∷ falses n
lower-bits Nor n = true ∷ falses n
lower-bits Xor n = false ∷ falses n
lower-bits Xnor n = true ∷ falses n
lower-bits Not n = true ∷ falses n
lower-bits Buff n = false ∷ falses n

upper-bits : Kind → ℕ → List Bool
upper-bits And n = true ∷ trues n
upper-bits Nand n = false ∷ falses n
upper-bits Or n = true ∷ falses n
upper-bits Nor n = false ∷ falses n
upper-bits Xor n = true ∷ falses n
upper-bits Xnor n = false ∷ falses n
upper-bits Not n = false ∷ falses n
upper-bits Buff n = true ∷ falses n

length-lower-bits : (kind : Kind) (n : ℕ) → length (lower-bits kind n) ≡ suc n
unfolding lower-bits
length-lower-bits And n = ap suc (length-falses n)
length-lower-bits Nand n = ap suc (length-trues n)
length-lower-bits Or n = ap suc (length-falses n)
length-lower-bits Nor n = ap suc (length-falses n)
length-lower-bits Xor n = ap suc (length-falses n)
length-lower-bits Xnor n = ap suc (length-falses n)
length-lower-bits Not n = ap suc (length-falses n)
length-lower-bits Buff n = ap suc (length-falses n)

length-upper-bits : (kind : Kind) (n : ℕ) → length (upper-bits kind n) ≡ suc n
unfolding upper-bits
length-upper-bits And n = ap suc (length-trues n)
length-upper-bits Nand n = ap suc (length-falses n)
length-upper-bits Or n = ap suc (length-falses n)
length-upper-bits Nor n = ap suc (length-falses n)
length-upper-bits Xor n = ap suc (length-falses n)
length-upper-bits Xnor n = ap suc (length-falses n)
length-upper-bits Not n = ap suc (length-falses n)
length-upper-bits Buff n = ap suc (length-falses n)

gate_value-lower-bits : (kind : Kind) (n : ℕ) → gate_value kind (lower-bits kind n) ≡ false
unfolding lower-bits
gate_value-lower-bits And n = refl
gate_value-lower-bits Nand n = ap not (every-trues n)
gate_value-lower-bits Or n = some-falses n
gate_value-lower-bits Nor n = refl
gate_value-lower-bits Xor n = ap (λ (m : ℕ). nat_eq (m % 2) 1) (count-falses n)
gate_value-lower-bits Xnor n = ap (λ (m : ℕ). not (nat_eq (m % 2) 1)) (count-one n)
gate_value-lower-bits Not n = refl
gate_value-lower-bits Buff n = refl

gate_value-upper-bits : (kind : Kind) (n : ℕ) → gate_value kind (upper-bits kind n) ≡ true
unfolding upper-bits
gate_value-upper-bits And n = every-trues n
gate_value-upper-bits Nand n = refl
gate_value-upper-bits Or n = refl
gate_value-upper-bits Nor n = ap not (some-falses n)
gate_value-upper-bits Xor n = ap (λ (m : ℕ). nat_eq (m % 2) 1) (count-one n)
gate_value-upper-bits Xnor n = ap (λ (m : ℕ). not (nat_eq (m % 2) 1)) (count-falses n)
gate_value-upper-bits Not n = refl
gate_value-upper-bits Buff n = refl

-- the join of a set of both bits
both-join : (set : Bool → Type 0) (value : Tri) → set false → set true → IsJoinOf set value → value ≡ Unknown
both-join set Zero lower upper join = absurd (join.1 upper)
both-join set One lower upper join = absurd (join.1 lower)
both-join set Unknown lower upper join = refl

-- where every pin is X, so is the extension
pub extension-unknown : (kind : Kind) (pins : List Tri) → 1 ≤ length pins → ((k : ℕ) → k < length pins → value_at pins k ≡ Unknown) → extension kind pins ≡ Unknown
extension-unknown kind [] some each = absurd (omega (arith, some))
extension-unknown kind (pin ∷ pins) some each =
    both-join (IsValueOver kind (pin ∷ pins)) (extension kind (pin ∷ pins))
    (lower-bits kind (length pins), Refines-unknown (lower-bits kind (length pins)) (pin ∷ pins) (length-lower-bits kind (length pins)) each, gate_value-lower-bits kind (length pins))
    (upper-bits kind (length pins), Refines-unknown (upper-bits kind (length pins)) (pin ∷ pins) (length-upper-bits kind (length pins)) each, gate_value-upper-bits kind (length pins))
    (IsExtension-extension kind (pin ∷ pins))
