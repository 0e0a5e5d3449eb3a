-- Where no variable is unstable under the new input, the next change may start.
use Rattle.std.proofs.Common.{◌≡◌, ℕ, ◌<◌, ◌≤◌, Bool, true, false, List, length, take, ap, sym, ◌∙◌, refl, subst, arith, inl, inr, Option, Some, None}
use Rattle.hz_edge_reports.proofs.Words.{length-take-le, Tri, tri_of, Netlist, IsCircuit, network_of, bit_at, excitation, length-network_of, IsNextStart, IsStopper}
use Rattle.std.specs.Prelude.{MatchOption}
use Rattle.std.proofs.lemmas.Bool.{cases_lt}
use Rattle.std.proofs.lemmas.List.{ext_get_or, get_or-take, length-map}
use Rattle.hz_net.specs.Network.{driver_value, IsStable}
use Rattle.hz_net.proofs.Places.{driver_at-input}
use Rattle.hz_lists.specs.Least.{IsLeast, IsLeastOf}
use Rattle.hz_seq.specs.Sequence.{IsSettledAt}
use Rattle.hz_edge_reports.specs.EdgeChanges.{IsUnstableVariable}

-- two bits that do not differ are the same
not-different : (one other : Bool) → ((one ≡ other → ⊥) → ⊥) → one ≡ other
not-different false false not = refl
not-different false true not = absurd (not (λ e. cc))
not-different true false not = absurd (not (λ e. cc))
not-different true true not = refl

-- no variable is unstable, so the state is stable
none-unstable : (netlist : Netlist) (input state : List Bool) → ((i : ℕ) → IsUnstableVariable netlist input state i → ⊥) → IsStable (network_of netlist) input state
none-unstable netlist input state none i inside =
    not-different (bit_at state i) (excitation (network_of netlist) input state i) (λ moved. none i (inside, moved))

-- the inputs of a stable state are the external input
stable-input : (netlist : Netlist) (input state : List Bool) → IsCircuit netlist → length input ≡ netlist.inputs → length state ≡ length (network_of netlist) → IsStable (network_of netlist) input state → take netlist.inputs state ≡ input
stable-input netlist input state circuit given whole stable =
    let few : netlist.inputs ≤ length state = omega (arith, whole, length-network_of netlist circuit, circuit.nodes) in
    let long : length (take netlist.inputs state) ≡ netlist.inputs = length-take-le netlist.inputs state few in
    ext_get_or false (take netlist.inputs state) input (long ∙ sym given) (λ i inside.
    let below : i < netlist.inputs = subst (λ (n : ℕ). i < n) long inside in
    get_or-take netlist.inputs state i false below
    ∙ (stable i (omega (arith, below, few, whole))
    ∙ ap (driver_value input state) (driver_at-input netlist i circuit below)))

-- so the next change may start there
pub next-start : (netlist : Netlist) (input next : List Bool) (ends : List Tri) → IsCircuit netlist → length input ≡ netlist.inputs → length ends ≡ length (network_of netlist) →
    IsSettledAt ends next → ((i : ℕ) → IsUnstableVariable netlist input next i → ⊥) → IsNextStart netlist ends next
next-start netlist input next ends circuit given many settled none =
    let long : length next ≡ length (network_of netlist) = sym (length-map next tri_of) ∙ (sym (ap (length {A = Tri}) settled) ∙ many) in
    let stable = none-unstable netlist input next none in
    record {
      settled = settled;
      stable = record {
        long = long;
        stable = subst (λ (bits : List Bool). IsStable (network_of netlist) bits next) (sym (stable-input netlist input next circuit given long stable)) stable;
      };
    }

-- the variables below one are stable, so it is the least that is unstable
pub first-unstable : (netlist : Netlist) (input state : List Bool) (var : ℕ) → var < length (network_of netlist) → ((i : ℕ) → i < var → bit_at state i ≡ excitation (network_of netlist) input state i) →
    (bit_at state var ≡ excitation (network_of netlist) input state var → ⊥) → IsLeast (IsUnstableVariable netlist input state) var
first-unstable netlist input state var inside before here =
    record {
      here = (inside, here);
      least = λ i moved. elim (cases_lt i var) [
        | inl less ↦ absurd (moved.1 (before i less))
        | inr beyond ↦ beyond
      ];
    }

-- it may, or the first unstable variable stops all later changes
pub starts-or-stops : (netlist : Netlist) (input next : List Bool) (ends : List Tri) → IsCircuit netlist → length input ≡ netlist.inputs → length ends ≡ length (network_of netlist) →
    IsSettledAt ends next → (found : Option ℕ) → IsLeastOf (IsUnstableVariable netlist input next) found →
    MatchOption found (IsNextStart netlist ends next) (IsStopper netlist input ends)
starts-or-stops netlist input next ends circuit given many settled None none = next-start netlist input next ends circuit given many settled none
starts-or-stops netlist input next ends circuit given many settled (Some var) least = inr (next, settled, least)
