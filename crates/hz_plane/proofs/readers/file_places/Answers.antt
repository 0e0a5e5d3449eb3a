use Rattle.std.proofs.Common.{[], ℕ, List, length, map, get_or, sym, ap, subst, arith, inl, inr}
use Rattle.smallvec.specs.SmallVec.{SmallVec}
use Rattle.std.specs.Prelude.{Contains}
use Rattle.std.proofs.lemmas.Bool.{cases_eq}
use Rattle.std.proofs.lemmas.List.{length-map, length-replicate}
use Rattle.hz_core.specs.Netlist.{gate_at}
use Rattle.hz_plane.specs.Sweeps.{readers_at}
use Rattle.hz_plane.proofs.readers.file_places.Goals as goal

pub loop-place-preserved : goal.loop-place-preserved
loop-place-preserved c =
    let order = c.args.order.now in
    let now = c.loop-place.place in
    record {
      inside = λ node. c.in_ok-file_place.ensures.inside (length order) node (c.loop-place.invariant.inside node) c.loop-place-test.true;
      reads = λ place source below there. elim (cases_eq place now) [
        | inl same ↦ subst (λ (n : ℕ). Contains (readers_at (map (λ (list : SmallVec ℕ). list.items) c.file_place.new.lists) source) n) (sym same)
            (c.in_ok-file_place.ensures.filed source (subst (λ (n : ℕ). Contains (gate_at c.args.net.now (get_or order n 0)).sources source) same there))
        | inr differ ↦ c.in_ok-file_place.ensures.kept source place (c.loop-place.invariant.reads place source (omega (arith, below, differ)) there)
      ];
    }

pub returns : goal.returns
returns c =
    let lists = c.loop-place.lists in
    let none : List ℕ = [] in
    record {
      gates = c.requires.order.gates;
      every = c.requires.order.every;
      long = omega (arith, length-map lists (λ (list : SmallVec ℕ). list.items), c.loop-place.auto.lists, length-map c.args.lists.now (λ (list : SmallVec ℕ). list.items), ap (length {A = List ℕ}) c.requires.lists, length-replicate (length c.args.net.now.names) none);
      inside = c.loop-place.invariant.inside;
      reads = λ place source below there. c.loop-place.invariant.reads place source (omega (arith, below, c.loop-place-test.false)) there;
    }
