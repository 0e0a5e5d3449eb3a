-- What a variable rests at is told by what stands at its place in each list.
use Rattle.std.proofs.Common.{◌≡◌, ◌∙◌, ◌<◌, sym, ap, subst, List, Some, length, arith}
use Rattle.std.specs.List.{slice_get}
use Rattle.hz_desk.specs.declared.finding.Row.{Row}
use Rattle.hz_desk.specs.RowsOf.{row_with}
use Rattle.hz_desk.proofs.RowLists.{length-rows, row-read, rest-read}
use Rattle.hz_desk.proofs.finding.Rows.rest.Goals as goal

pub index-requires : goal.index-requires
index-requires c =
    let rows = c.self.inside in
    omega (arith, ap length c.self.view_is, length-rows rows.start.items rows.a.items rows.b.items rows.words.items, rows.start.ok.0)

pub index-requires-2 : goal.index-requires-2
index-requires-2 c =
    let rows = c.self.inside in
    omega (arith, ap length c.self.view_is, length-rows rows.start.items rows.a.items rows.b.items rows.words.items, rows.a.ok.0)

pub index-requires-3 : goal.index-requires-3
index-requires-3 c =
    let rows = c.self.inside in
    omega (arith, ap length c.self.view_is, length-rows rows.start.items rows.a.items rows.b.items rows.words.items, rows.b.ok.0)

pub index-requires-4 : goal.index-requires-4
index-requires-4 c =
    let rows = c.self.inside in
    omega (arith, ap length c.self.view_is, length-rows rows.start.items rows.a.items rows.b.items rows.words.items, rows.words.ok.0)

pub returns : goal.returns
returns c =
    let rows = c.self.inside in
    let within : c.args.var < length rows.start.items =
    omega (arith, c.requires, ap length c.self.view_is, length-rows rows.start.items rows.a.items rows.b.items rows.words.items) in
    let there : slice_get c.args.self.now c.args.var ≡ Some (row_with c.index.result.now c.index-2.result.now c.index-3.result.now c.get.result) =
    subst (λ (list : List Row). slice_get list c.args.var ≡ Some (row_with c.index.result.now c.index-2.result.now c.index-3.result.now c.get.result)) c.self.view_is
    (row-read rows.start.items rows.a.items rows.b.items rows.words.items c.self.invariant c.args.var c.index.result.now c.index-2.result.now c.index-3.result.now c.index-4.result.now within
    c.index.ensures c.index-2.ensures c.index-3.ensures c.index-4.ensures
    ∙ ap (λ (row : Row). Some row) (ap (row_with c.index.result.now c.index-2.result.now c.index-3.result.now) (sym c.get.ensures))) in
    rest-read c.args.self.now c.args.var (row_with c.index.result.now c.index-2.result.now c.index-3.result.now c.get.result) there c.rest_of.result c.rest_of.ensures
