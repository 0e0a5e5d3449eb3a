use Rattle.std.proofs.Common.{◌≡◌, ◌∙◌, ◌<◌, ◌++◌, ◌∷◌, [], ℕ, List, length, map, All, get_or, sym, ap, subst, arith, inl, inr}
use Rattle.smallvec.specs.SmallVec.{SmallVec}
use Rattle.std.specs.Prelude.{Contains}
use Rattle.std.proofs.lemmas.Bool.{cases_eq}
use Rattle.std.proofs.lemmas.List.{length-map, length-append, map-append}
use Rattle.hz_core.specs.Netlist.{gate_at}
use Rattle.hz_plane.specs.Sweeps.{readers_at}
use Rattle.hz_plane.proofs.ReaderLemmas.{pushed-before, pushed-last, pushed-all}
use Rattle.hz_plane.proofs.readers.all_back.Goals as goal

pub loop-place-preserved : goal.loop-place-preserved
loop-place-preserved c =
    let order = c.args.order.now in
    let now = c.loop-place.place in
    let node = get_or order now 0 in
    let readers : List (List ℕ) = c.args.readers.now in
    let lists : List (List ℕ) = map (λ (list : SmallVec ℕ). list.items) c.loop-place.lists.items in
    let list = c.in_ok-list.list.items in
    let pushed : map (λ (list : SmallVec ℕ). list.items) c.push.new.self.items ≡ lists ++ list ∷ [] =
    ap (map (λ (list : SmallVec ℕ). list.items)) c.in_ok-push.ensures.items ∙ map-append (λ (list : SmallVec ℕ). list.items) c.loop-place.lists.items (c.in_ok-list.list ∷ []) in
    let are : c.at.result.now ≡ readers_at readers node = c.at.ensures in
    let long : length lists ≡ now = length-map c.loop-place.lists.items (λ (list : SmallVec ℕ). list.items) ∙ c.loop-place.invariant.long in
    record {
      long = ap (length {A = SmallVec ℕ}) c.in_ok-push.ensures.items ∙ omega (arith, length-append c.loop-place.lists.items (c.in_ok-list.list ∷ []), c.loop-place.invariant.long);
      inside = λ place. subst (λ (all : List (List ℕ)). All (λ (reader : ℕ). reader < length order) (readers_at all place)) (sym pushed)
          (pushed-all lists list (λ (reader : ℕ). reader < length order) c.loop-place.invariant.inside (c.in_ok-list.ensures.inside (length order) (subst (All (λ (reader : ℕ). reader < length order)) (sym are) (c.requires.order.inside node))) place);
      reads = λ place reader below up there. subst (λ (all : List (List ℕ)). Contains (readers_at all place) reader) (sym pushed)
          (elim (cases_eq place now) [
            | inl same ↦ subst (λ (part : List ℕ). Contains part reader) (sym (pushed-last lists list place (same ∙ sym long)))
                (c.in_ok-list.ensures.reads reader (omega (arith, up, same)) (subst (λ (part : List ℕ). Contains part reader) (sym are)
                (c.requires.order.reads reader node (omega (arith, up, same, c.loop-place-test.true)) (subst (λ (n : ℕ). Contains (gate_at c.args.net.now (get_or order reader 0)).sources (get_or order n 0)) same there))))
            | inr differ ↦ subst (λ (part : List ℕ). Contains part reader) (sym (pushed-before lists list place (omega (arith, below, differ, long))))
                (c.loop-place.invariant.reads place reader (omega (arith, below, differ)) up there)
          ]);
    }

pub returns : goal.returns
returns c = record {
  gates = c.requires.order.gates;
  long = length-map c.loop-place.lists.items (λ (list : SmallVec ℕ). list.items) ∙ (c.loop-place.invariant.long ∙ omega (arith, c.loop-place-test.false, c.loop-place.auto.place-end));
  inside = c.loop-place.invariant.inside;
  reads = λ place reader below up there. c.loop-place.invariant.reads place reader (omega (arith, below, c.loop-place-test.false)) up there;
}
