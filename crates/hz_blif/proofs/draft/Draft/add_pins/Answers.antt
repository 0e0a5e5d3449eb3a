use Rattle.std.proofs.Common.{◌++◌, ap, arith, refl, subst, List, ℕ, Some, take}
use Rattle.std.proofs.lemmas.List.{take_all}
use Rattle.hz_blif.specs.Draft.{Holds}
use Rattle.hz_blif.specs.Reading.{bytes_of}
use Rattle.hz_blif.proofs.CoverSteps.{pins-step}
use Rattle.hz_blif.proofs.draft.Draft.add_pins.Goals as goal

pub loop-pin-preserved : goal.loop-pin-preserved
loop-pin-preserved c = λ read cover at none held.
    (let so_far = record cover { pins = cover.pins ++ bytes_of (take c.loop-pin.pin-index c.args.pins.now) } in
    let one = c.in_ok-add_pin.ensures (record read { current = Some so_far }) so_far refl none (c.loop-pin.invariant read cover at none held) in
    subst (λ (pins : List (List ℕ)). Holds (record read { current = Some (record cover { pins = pins }) }) c.add_pin.new.self)
    (pins-step c.args.pins.now cover.pins c.loop-pin.pin-index _ c.loop-pin-test.true) one)

pub returns : goal.returns
returns c = λ read cover at none held.
    (let all = take_all c.loop-pin.pin-index c.args.pins.now (omega (arith, c.loop-pin-test.false)) in
    subst (λ (pins : List (List ℕ)). Holds (record read { current = Some (record cover { pins = pins }) }) c.loop-pin.self)
    (ap (λ pins. cover.pins ++ bytes_of pins) all) (c.loop-pin.invariant read cover at none held))
