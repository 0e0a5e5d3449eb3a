-- What the circuit of a number comes to in the job `demo`.
use Rattle.std.specs.Prelude.{◌≡◌, ℕ, Bool, List, [], ◌∷◌}
use Rattle.hz_core.specs.Netlist.{Netlist}
use Rattle.hz_net.specs.Starts.{IsAcceptedStart}
use Rattle.hz_refusal.specs.declared.status.Status.{Status}
use Rattle.hz_refusal.specs.declared.status.Status.TheVariants as status
use Rattle.hz_seq.specs.Analyses.{Found, AreAnalyses}
use Rattle.hz_desk.specs.Finding.{FindingOf}
use Rattle.hz_gen.specs.Demo.{demo_netlist, demo_script}
use Rattle.hz_report.specs.Report.{summary_text}

-- the text is the summary of the one change of a script from a start
abbrev pub Summarises : Netlist → ℕ → List Bool → List (List (ℕ × Bool)) → List ℕ → Type 0
Summarises netlist cap start changes text =
    (finding : FindingOf) × AreAnalyses netlist cap start changes (Found finding ∷ [])
    × (text ≡ summary_text netlist finding)

-- the job is done with this summary
abbrev pub IsSummaryOutcome : Netlist → ℕ → List Bool → List (List (ℕ × Bool)) → Status → List ℕ →
    Type 0
IsSummaryOutcome netlist cap start changes own text =
    (own ≡ status.Done) × Summarises netlist cap start changes text

-- what the circuit and the script of a number come to
abbrev pub IsDemoOutcome : ℕ → ℕ → Status → List ℕ → Type 0
IsDemoOutcome number cap own text =
    (start : List Bool) × IsAcceptedStart (demo_netlist number) (demo_script number).start start
    × IsSummaryOutcome (demo_netlist number) cap start (demo_script number).changes own text
