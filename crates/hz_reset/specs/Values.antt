-- Values after one input after the other, and the states in which a circuit may be then.
use Rattle.std.specs.Prelude.{◌≡◌, ◌≢◌, ℕ, Bool, Option, None, List, [], ◌∷◌, length, replicate}
use Rattle.std.specs.List.{slice_index_or}
use Rattle.hz_core.specs.declared.tri.Tri.{Tri}
use Rattle.hz_core.specs.declared.tri.Tri.TheVariants.{Unknown}
use Rattle.hz_core.specs.Ternary.{tri_of, Refines}
use Rattle.hz_core.specs.Netlist.{Netlist, IsCircuit, IsWhole, IsGateNumber}
use Rattle.hz_net.specs.Network.{Driver, network_of, bit_at, value_at}
use Rattle.hz_net.specs.Passes.{algorithm_b, IsResult}
use Rattle.hz_net.specs.TernaryStarts.{SettlesTo, unknown_start}
use Rattle.hz_gmw.specs.Cycles.{IsOutcome}

-- a ternary state settles under one input after the other, and has these values in the end
abbrev pub SettlesAlong : List Driver → List Tri → List (List Bool) → List Tri → Type 0
SettlesAlong net first [] values = values ≡ first
SettlesAlong net first (input ∷ inputs) values =
    (next : List Tri) × SettlesTo net input first next × SettlesAlong net next inputs values

-- states one after the other, each an outcome of the one before under the next input; the last one is given
abbrev pub IsOutcomeAlong : List Driver → List Bool → List (List Bool) → List Bool → Type 0
IsOutcomeAlong net start [] state = state ≡ start
IsOutcomeAlong net start (input ∷ inputs) state =
    (next : List Bool) × IsOutcome net input start next × IsOutcomeAlong net next inputs state

-- from every state, under every input, there is an outcome state
abbrev pub OutcomesExist : Type 0
OutcomesExist =
    (net : List Driver) (input start : List Bool) → length start ≡ length net →
    (state : List Bool) × IsOutcome net input start state

-- and so there is one under all inputs, one after the other
abbrev pub OutcomesExistAlong : Type 0
OutcomesExistAlong =
    (net : List Driver) (inputs : List (List Bool)) (start : List Bool) →
    length start ≡ length net →
    (state : List Bool) × IsOutcomeAlong net start inputs state

-- if a value is 0 or 1, every state has it in which the circuit may be, whatever state it came up in
abbrev pub ValuesCover : Type 0
ValuesCover =
    (net : List Driver) (held : List (Option Bool)) (inputs : List (List Bool)) (values : List Tri)
    (start state : List Bool)
    (i : ℕ) (bit : Bool) → SettlesAlong net (unknown_start net held) inputs values →
    Refines start (unknown_start net held) → IsOutcomeAlong net start inputs state →
    value_at values i ≡ tri_of bit →
    bit_at state i ≡ bit

-- there are values from each unknown start under all inputs
abbrev pub ValuesExist : Type 0
ValuesExist =
    (net : List Driver) (held : List (Option Bool)) (inputs : List (List Bool)) →
    (values : List Tri) × SettlesAlong net (unknown_start net held) inputs values

-- and they are determined
abbrev pub ValuesAreOne : Type 0
ValuesAreOne =
    (net : List Driver) (held : List (Option Bool)) (inputs : List (List Bool))
    (values other : List Tri) →
    SettlesAlong net (unknown_start net held) inputs values →
    SettlesAlong net (unknown_start net held) inputs other →
    values ≡ other

-- no node is held but gates
abbrev pub HoldsGates : Netlist → List (Option Bool) → Type 0
HoldsGates netlist held =
    (node : ℕ) → slice_index_or held node None ≢ None → IsGateNumber netlist node

-- the first input finds every variable X: Algorithm B begins with such a state
abbrev pub BeginsAllUnknown : Type 0
BeginsAllUnknown =
    (netlist : Netlist) (held : List (Option Bool)) (input : List Bool) (settled : List Tri) →
    IsCircuit netlist → IsWhole netlist →
    HoldsGates netlist held →
    SettlesTo (network_of netlist) input (unknown_start (network_of netlist) held) settled →
    IsResult
    (algorithm_b (network_of netlist) input (replicate (length (network_of netlist)) Unknown))
    settled

-- so it makes no difference to what the unknown start settles which gates were held
abbrev pub HeldIsForgotten : Type 0
HeldIsForgotten =
    (netlist : Netlist) (held other : List (Option Bool)) (input : List Bool) (settled : List Tri) →
    IsCircuit netlist →
    IsWhole netlist → HoldsGates netlist held → HoldsGates netlist other →
    SettlesTo (network_of netlist) input (unknown_start (network_of netlist) held) settled →
    SettlesTo (network_of netlist) input (unknown_start (network_of netlist) other) settled
