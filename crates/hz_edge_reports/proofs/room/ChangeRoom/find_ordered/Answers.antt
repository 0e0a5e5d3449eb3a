-- What is told under the orders, and the run that is found, are right edges under the orders.
use Rattle.std.proofs.Common.{◌≡◌, ◌∙◌, length, refl, sym, ap, subst, arith, List, ℕ, Bool}
use Rattle.hz_edge_reports.proofs.Words.{with_items, with_items_is, Tri, Refines, Driver, network_of, Word, Order}
use Rattle.hz_edge_reports.proofs.OrderedRight.{edges-under, long-outcome}
use Rattle.hz_edge_reports.proofs.FoundRooms.{same-ordered}
use Rattle.hz_edge_reports.proofs.room.ChangeRoom.find_ordered.Goals as goal

pub ends_under-requires-clause-told : goal.ends_under-requires-clause-told
ends_under-requires-clause-told c = rw (c.as_slice.ensures.value, c.as_slice-2.ensures.value, c.as_slice-3.ensures.value, c.as_slice-4.ensures.value) c.requires.told

pub returns-clause-right : goal.returns-clause-right
returns-clause-right c =
    let netlist = c.args.making.now.net.now in
    let net : List Driver = network_of netlist in
    let input : List Bool = c.args.self.now.input.items in
    let start : List Bool = c.args.self.now.start.items in
    let orders : List Order = c.args.self.now.used.items in
    let told : List Word = c.args.self.now.edges.told.items in
    let ends : List Tri = c.write_ends.new.ends in
    let ends_are : (with_items c.args.self.now.ends ends).items ≡ ends =
    with_items_is c.args.self.now.ends ends (omega (arith, c.write_ends.auto.ends, c.as_mut_slice.ensures.len)) in
    let counts : List ℕ = c.kept_run.new.counts in
    let counts_are : (with_items c.args.self.now.edges.counts counts).items ≡ counts =
    with_items_is c.args.self.now.edges.counts counts (omega (arith, c.kept_run.auto.counts, c.as_mut_slice-2.ensures.len)) in
    let ended = rw (c.as_slice.ensures.value, c.as_slice-2.ensures.value, c.as_slice-3.ensures.value) at c.in_ok-ends.ensures in
    let shown = rw (c.as_slice.ensures.value, c.as_slice-2.ensures.value, c.as_slice-3.ensures.value) at c.in_ok-self.ensures.kept in
    same-ordered orders net input start told told ends _ c.in_ok-self.field-0 c.kept_run.new.run.steps counts _ refl ends_are counts_are
    (edges-under orders net input start ends c.in_ok-self.field-0 (record { told = told; steps = c.kept_run.new.run.steps; counts = counts })
    (λ i few steps run keeps. c.ordered_covers.ensures orders netlist input start c.args.making.now.cap told i steps c.requires.making.circuit c.requires.making.whole c.requires.passed.of_a.begins c.requires.told few run keeps)
    (c.write_ends.auto.ends ∙ (ap (length {A = Tri}) c.as_mut_slice.ensures.value ∙ c.requires.room.ends))
    (λ state outcome. c.write_ends.ensures state
    (long-outcome orders net input start state outcome ∙ (c.requires.room.start ∙ sym (ap (length {A = Tri}) c.as_mut_slice.ensures.value ∙ c.requires.room.ends)))
    (subst (Refines state) (sym c.as_slice-5.ensures.value) (ended state outcome)))
    shown c.in_ok-self.ensures.none c.in_ok-self.ensures.counts)
