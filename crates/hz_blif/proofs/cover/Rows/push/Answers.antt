use Rattle.std.proofs.Common.{◌≤◌, ◌<◌, length, refl, arith}
use Rattle.hz_core.specs.Limits.{most_gate_pins}
use Rattle.hz_blif.proofs.RowLemmas.{planes-full, planes-pushed}
use Rattle.hz_blif.proofs.cover.Rows.push.Goals as goal

pub returns-then-len-ge-MAX_PINS-clause-kept : goal.returns-then-len-ge-MAX_PINS-clause-kept
returns-then-len-ge-MAX_PINS-clause-kept c planes keeps =
    let full : most_gate_pins ≤ length c.args.self.now.planes.items = omega arith in
    planes-full planes c.args.plane.now c.args.self.now _ c.has_literal.result keeps c.has_literal.ensures full refl refl

pub returns-in-Ok-clause-kept : goal.returns-in-Ok-clause-kept
returns-in-Ok-clause-kept c planes keeps =
    let room : length c.args.self.now.planes.items < most_gate_pins = omega arith in
    planes-pushed planes c.args.plane c.args.self.now _ c.has_literal.result keeps c.has_literal.ensures room refl c.in-Ok.ensures.items
