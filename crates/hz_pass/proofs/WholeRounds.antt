-- A round that evaluates every variable, or the readers of what the round before changed, makes the whole next state.
use Rattle.std.proofs.Common.{◌≡◌, ◌≢◌, ℕ, ◌<◌, Bool, Some, List, All, length, get_or, slice_get, subst, sym, ap, ◌∙◌, arith, inl, inr}
use Rattle.std.specs.Prelude.{Contains}
use Rattle.std.proofs.lemmas.Bool.{cases_lt}
use Rattle.std.proofs.lemmas.List.Elements.{All-from_get_or, Contains-get_or}
use Rattle.hz_core.specs.declared.tri.Tri.{Tri}
use Rattle.hz_core.specs.Netlist.{Netlist, IsCircuit}
use Rattle.hz_net.specs.Network.{Driver, network_of, driver_at, driver_value3, value_at, excitation3}
use Rattle.hz_net.specs.Reads.{readers_of}
use Rattle.hz_net.specs.Variables.{variable_kinds, fan_out_of}
use Rattle.hz_net.specs.declared.variable.VarKind.{VarKind}
use Rattle.hz_net.specs.declared.variable.VarKind.TheVariants.{Wire}
use Rattle.hz_net.proofs.Places.{length-network_of}
use Rattle.hz_net.proofs.Readers.{driver_value3-same, node-readers, reads-reader}
use Rattle.hz_net.proofs.Wires.{IsWireFrom-fan_out_of, driver_at-IsWireFrom, variable_kinds-wire}
use Rattle.hz_pass.specs.declared.round.Rule.{Rule}
use Rattle.hz_pass.specs.Frontier.{next_value, next_state, IsMade, IsQuiet, IsRoundSoFar, IsRound}
use Rattle.hz_pass.proofs.Places.{same-values}
use Rattle.hz_pass.proofs.Values.{same-or-differ, length-next_state, at-next_state, once-more}

-- where every variable is made, the round is whole
pub round-end :
    {rule : Rule} {net : List Driver} {input : List Bool} {state next : List Tri} {changed : List ℕ} → length state ≡ length net →
    IsRoundSoFar rule net input state next changed → ((i : ℕ) → i < length net → IsMade rule net input state next i) →
    IsRound rule net input state next changed
round-end {rule} {net} {input} {state} {next} {changed} long so_far made = record {
  made = same-values next (next_state rule net input state) (so_far.long ∙ (long ∙ sym (length-next_state rule net input state long)))
      (λ i few.
      let inside : i < length net = omega (arith, few, long, so_far.long) in
      made i inside ∙ sym (at-next_state rule net input state i long inside));
  lists = so_far.lists;
  balance = so_far.balance;
}

-- a variable that reads nothing that changed is as its old value and the old excitation made it, so it stays
pub quiet-after :
    {rule : Rule} {net : List Driver} {input : List Bool} {state next : List Tri} {changed : List ℕ} → length state ≡ length net →
    IsRound rule net input state next changed → IsQuiet rule net input next changed
quiet-after {rule} {net} {input} {state} {next} {changed} long round =
    λ i inside none.
    let next_long : length next ≡ length state = ap (length {A = Tri}) round.made ∙ (length-next_state rule net input state long ∙ sym long) in
    let same : excitation3 net input next i ≡ excitation3 net input state i =
    driver_value3-same input next state (driver_at net i) next_long (λ source reads. elim (same-or-differ (value_at next source) (value_at state source)) [
      | inl e ↦ e
      | inr differ ↦ absurd (none source (round.lists.every source differ) reads)
    ]) in
    let is : value_at next i ≡ next_value rule (value_at state i) (excitation3 net input state i) =
    ap (λ (values : List Tri). value_at values i) round.made ∙ at-next_state rule net input state i long inside in
    is ∙ (sym (once-more rule (value_at state i) (excitation3 net input state i)) ∙
    (ap (λ (value : Tri). next_value rule value (excitation3 net input state i)) (sym is) ∙ ap (next_value rule (value_at next i)) (sym same)))

-- where the readers of what changed are made, every variable is
pub made-by-readers :
    {rule : Rule} {input : List Bool} {state next : List Tri} {changed : List ℕ} (netlist : Netlist) → IsCircuit netlist →
    (due : List ℕ) → IsQuiet rule (network_of netlist) input state due → IsRoundSoFar rule (network_of netlist) input state next changed →
    ((source reader : ℕ) → Contains due source → Contains (readers_of netlist source) reader → IsMade rule (network_of netlist) input state next reader) →
    (i : ℕ) → i < length (network_of netlist) → IsMade rule (network_of netlist) input state next i
made-by-readers {rule} {input} {state} {next} netlist circuit due quiet so_far each i inside =
    let net = network_of netlist in
    elim (same-or-differ (value_at next i) (next_value rule (value_at state i) (excitation3 net input state i))) [
      | inl e ↦ e
      | inr differ ↦ elim (so_far.either i) [
        | inl was ↦ absurd (differ (was ∙ quiet i inside (λ source there reads. differ (each source i there (reads-reader netlist circuit source i reads)))))
        | inr made ↦ made
      ]
    ]

same-kind : (one other : VarKind) → Some one ≡ Some other → one ≡ other
same-kind one other e = cc

-- what reads a variable that is no wire is a wire from it, so its value excites it
pub readers-excited :
    (netlist : Netlist) → IsCircuit netlist → (input : List Bool) (state : List Tri) (source : ℕ) (kind : VarKind) →
    source < length (network_of netlist) → slice_get (variable_kinds netlist) source ≡ Some kind →
    ((gate pin from : ℕ) → kind ≢ Wire gate pin from) →
    All (λ reader. value_at state source ≡ excitation3 (network_of netlist) input state reader) (readers_of netlist source)
readers-excited netlist circuit input state source kind inside is no_wire = elim (cases_lt source (length netlist.names)) [
  | inl node ↦ All-from_get_or (λ (reader : ℕ). value_at state source ≡ excitation3 (network_of netlist) input state reader) (readers_of netlist source) 0
      (λ k few.
      let reader = get_or (readers_of netlist source) k 0 in
      let there : Contains (fan_out_of netlist source) reader =
      subst (λ (list : List ℕ). Contains list reader) (node-readers netlist circuit source node) (Contains-get_or (readers_of netlist source) k 0 few) in
      let driven = driver_at-IsWireFrom netlist reader source circuit (IsWireFrom-fan_out_of netlist reader source there) in
      sym (ap (driver_value3 input state) driven))
  | inr above ↦ (
      let seen = variable_kinds-wire netlist source circuit above (omega (arith, inside, length-network_of netlist circuit)) in
      absurd (no_wire _ _ _ (same-kind kind _ (sym is ∙ seen)))
      )
]
