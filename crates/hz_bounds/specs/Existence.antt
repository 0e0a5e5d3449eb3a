-- Every change can be told words that are inductive.
use Rattle.std.specs.Prelude.{ℕ, Bool, List}
use Rattle.hz_core.specs.declared.tri.Tri.{Tri}
use Rattle.hz_core.specs.Netlist.{Netlist, IsCircuit, IsWhole}
use Rattle.hz_net.specs.Network.{network_of}
use Rattle.hz_net.specs.Passes.{algorithm_a, IsResult}
use Rattle.hz_net.specs.Starts.{IsStableStart}
use Rattle.hz_word.specs.declared.word.Word.{Word}
use Rattle.hz_free.specs.Inductive.{IsInductive, AreFreeWords}
use Rattle.hz_bounds.specs.Telling.{AreStill}

-- from every stable start of a circuit, under every input and every cap
abbrev pub WordsAreTold : Type 0
WordsAreTold =
    (netlist : Netlist) (input start : List Bool) (a : List Tri) (cap : ℕ) → IsCircuit netlist →
    IsWhole netlist → IsStableStart netlist start →
    IsResult (algorithm_a (network_of netlist) input start) a →
    (told : List Word) × IsInductive (network_of netlist) input start cap told
    × AreFreeWords (network_of netlist) input start cap told
    × AreStill (network_of netlist) start a told
