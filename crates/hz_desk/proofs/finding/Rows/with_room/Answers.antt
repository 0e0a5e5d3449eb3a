-- There is a row for each value at the start.
use Rattle.std.proofs.Common.{◌≡◌, ◌∙◌, length, arith}
use Rattle.hz_desk.proofs.RowLists.{length-rows}
use Rattle.hz_desk.proofs.finding.Rows.with_room.Goals as goal

pub returns : goal.returns
returns c =
    let long : length c.in_ok-vec.field-0.items ≡ c.args.variables = omega (arith, c.in_ok-vec.ensures.len, c.in_ok-vec.field-0.ok.0) in
    length-rows c.in_ok-vec.field-0.items c.in_ok-vec-2.field-0.items c.in_ok-vec-3.field-0.items c.in_ok-vec-4.field-0.items ∙ long
