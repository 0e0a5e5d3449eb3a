use Rattle.std.proofs.Common.{◌≡◌, ◌∙◌, ◌<◌, ℕ, List, length, map, All, get_or, sym, ap, subst, arith}
use Rattle.smallvec.specs.SmallVec.{SmallVec}
use Rattle.std.specs.Prelude.{Contains}
use Rattle.std.proofs.lemmas.List.{length-map}
use Rattle.hz_core.specs.Netlist.{Netlist, gate_at}
use Rattle.hz_core.proofs.CircuitLemmas.{sources-at_gate}
use Rattle.hz_plane.specs.Sweeps.{readers_at}
use Rattle.hz_plane.proofs.Marks.{at-contained}
use Rattle.hz_plane.proofs.ReaderLemmas.{filed-kept, filed-inside, one-filed}
use Rattle.hz_plane.proofs.readers.file_place.Goals as goal

pub loop-source-preserved : goal.loop-source-preserved
loop-source-preserved c =
    let netlist = c.args.net.now in
    let place = c.args.place in
    let k = c.loop-source.source-index in
    let sources = (gate_at netlist c.args.gate).sources in
    let items = c.sources-source-items.result.now in
    let are : items ≡ sources = c.sources-source-items.ensures.sources ∙ ap (λ (n : Netlist). (gate_at n c.args.gate).sources) c.circuit.ensures.same in
    let lists : List (List ℕ) = map (λ (list : SmallVec ℕ). list.items) c.loop-source.lists in
    let node = get_or items k 0 in
    let is : node ≡ get_or sources k 0 = ap (λ (list : List ℕ). get_or list k 0) are in
    let pin : k < length sources = omega (arith, c.loop-source-test.true, ap (length {A = ℕ}) are) in
    let within : node < length lists = omega (arith, is, sources-at_gate netlist c.args.gate c.circuit.ensures.circuit c.requires.gate k 0 pin, c.requires.lists, c.loop-source.auto.lists, length-map c.loop-source.lists (λ (list : SmallVec ℕ). list.items)) in
    let made = c.in_ok-file.ensures in
    record {
      inside = λ end other all below. subst (λ (all : List (List ℕ)). All (λ (reader : ℕ). reader < end) (readers_at all other)) (sym made) (filed-inside lists node place within end other (c.loop-source.invariant.inside end other all below) below);
      kept = λ other reader there. subst (λ (all : List (List ℕ)). Contains (readers_at all other) reader) (sym made) (filed-kept lists node place within other reader (c.loop-source.invariant.kept other reader there));
      filed = one-filed lists _ sources k node place within is made c.loop-source.invariant.filed;
    }

pub returns-clause-filed : goal.returns-clause-filed
returns-clause-filed c source there =
    let netlist = c.args.net.now in
    let sources = (gate_at netlist c.args.gate).sources in
    let items = c.sources-source-items.result.now in
    let are : items ≡ sources = c.sources-source-items.ensures.sources ∙ ap (λ (n : Netlist). (gate_at n c.args.gate).sources) c.circuit.ensures.same in
    subst (λ (n : ℕ). Contains (readers_at (map (λ (list : SmallVec ℕ). list.items) c.loop-source.lists) n) c.args.place) (at-contained sources source there)
    (c.loop-source.invariant.filed there.0 (omega (arith, there.1, c.loop-source-test.false, ap (length {A = ℕ}) are)))
