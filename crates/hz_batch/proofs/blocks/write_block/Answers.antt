-- A block's lanes are loaded, and all passes are made.
use Rattle.std.proofs.Common.{◌≡◌, ◌∙◌, ◌+◌, ◌-◌, ◌^◌, ap, sym, subst, rules, ℕ, List, Option, length, min}
use Rattle.std.specs.Vec.{vec_len}
use Rattle.hz_pattern_text.specs.PatternValue.{PatternOf}
use Rattle.hz_plane.specs.declared.stage.Stage.{Stage}
use Rattle.hz_plane.specs.declared.stage.Stage.TheVariants.{Loading, Settled as AllSettled}
use Rattle.hz_plane.specs.declared.values.LaneValues.{LaneValues}
use Rattle.hz_plane.specs.Loads.{Loaded}
use Rattle.hz_plane.specs.View.{Seen}
use Rattle.hz_batch.specs.Blocks.{lanes_with}
use Rattle.hz_batch.specs.Columns.{AreColumns}
use Rattle.hz_batch.specs.Comes.{comes_to, held_by, kept_at}
use Rattle.hz_batch.specs.Written.{AreWritten}
use Rattle.hz_batch.proofs.BlockLaws.{written-whole, fewer}
use Rattle.hz_batch.proofs.blocks.write_block.Goals as goal

pub keep_keys-requires-clause-seconds : goal.keep_keys-requires-clause-seconds
keep_keys-requires-clause-seconds g c =
    let firsts = written-whole c.args.room.now.columns.firsts.items c.spread_and_keep.new.columns c.args.room.now.columns.firsts.len (c.spread_and_keep.ensures.count ∙ c.as_mut_slice.ensures.len) in
    let seconds = written-whole c.args.room.now.columns.seconds.items c.keep_values.new.columns c.args.room.now.columns.seconds.len (c.keep_values.ensures.count ∙ c.as_mut_slice-2.ensures.len) in
    let firsts_long : vec_len c.args.room.now.columns.firsts ≡ length c.args.room.now.columns.firsts.items = search rules in
    let seconds_long : vec_len c.args.room.now.columns.seconds ≡ length c.args.room.now.columns.seconds.items = search rules in
    ap (length {A = LaneValues}) seconds ∙ (c.keep_values.ensures.count ∙ (c.as_mut_slice-2.ensures.len ∙ (seconds_long ∙ c.requires.room.columns.seconds)))
    ∙ sym (ap (length {A = LaneValues}) firsts ∙ (c.spread_and_keep.ensures.count ∙ (c.as_mut_slice.ensures.len ∙ (firsts_long ∙ c.requires.room.columns.firsts))))

pub keep_keys-requires-clause-keys : goal.keep_keys-requires-clause-keys
keep_keys-requires-clause-keys g c =
    let firsts = written-whole c.args.room.now.columns.firsts.items c.spread_and_keep.new.columns c.args.room.now.columns.firsts.len (c.spread_and_keep.ensures.count ∙ c.as_mut_slice.ensures.len) in
    let firsts_long : vec_len c.args.room.now.columns.firsts ≡ length c.args.room.now.columns.firsts.items = search rules in
    c.requires.room.columns.keys
    ∙ sym (ap (length {A = LaneValues}) firsts ∙ (c.spread_and_keep.ensures.count ∙ (c.as_mut_slice.ensures.len ∙ (firsts_long ∙ c.requires.room.columns.firsts))))

pub write_lanes-requires-clause-columns : goal.write_lanes-requires-clause-columns
write_lanes-requires-clause-columns g c =
    let netlist = c.args.work.now.net.now in
    let stage = kept_at c.args.work.now.job in
    let settled : c.settle.new.self.lanes ≡ c.spread_and_keep.new.planes.lanes = ap (λ (seen : Seen). seen.lanes) c.settle.ensures in
    let spread : c.spread_and_keep.new.planes.lanes ≡ c.complete.new.self.lanes = ap (λ (seen : Seen). seen.lanes) c.spread_and_keep.ensures.planes in
    let lanes = settled ∙ spread in
    let last : c.settle.new.self.stage ≡ AllSettled = ap (λ (seen : Seen). seen.stage) c.settle.ensures in
    let firsts = written-whole c.args.room.now.columns.firsts.items c.spread_and_keep.new.columns c.args.room.now.columns.firsts.len (c.spread_and_keep.ensures.count ∙ c.as_mut_slice.ensures.len) in
    let seconds = written-whole c.args.room.now.columns.seconds.items c.keep_values.new.columns c.args.room.now.columns.seconds.len (c.keep_values.ensures.count ∙ c.as_mut_slice-2.ensures.len) in
    let firsts_long : vec_len c.args.room.now.columns.firsts ≡ length c.args.room.now.columns.firsts.items = search rules in
    let seconds_long : vec_len c.args.room.now.columns.seconds ≡ length c.args.room.now.columns.seconds.items = search rules in
    record {
      fit = record {
        firsts = rw c.keep_keys.ensures.firsts (ap (length {A = LaneValues}) firsts ∙ (c.spread_and_keep.ensures.count ∙ (c.as_mut_slice.ensures.len ∙ (firsts_long ∙ c.requires.room.columns.firsts))));
        seconds = rw c.keep_keys.ensures.seconds (ap (length {A = LaneValues}) seconds ∙ (c.keep_values.ensures.count ∙ (c.as_mut_slice-2.ensures.len ∙ (seconds_long ∙ c.requires.room.columns.seconds))));
        keys = c.keep_keys.ensures.count ∙ (ap (length {A = LaneValues}) firsts ∙ (c.spread_and_keep.ensures.count ∙ (c.as_mut_slice.ensures.len ∙ (firsts_long ∙ c.requires.room.columns.firsts))));
        table = rw c.keep_keys.ensures.table c.requires.room.columns.table;
      };
      firsts = rw c.keep_keys.ensures.firsts (subst (λ (list : List LaneValues). AreColumns netlist stage c.settle.new.self.lanes netlist.outputs list) (sym firsts)
          (subst (λ (list : List (Option Loaded)). AreColumns netlist stage list netlist.outputs c.spread_and_keep.new.columns) (sym lanes) c.spread_and_keep.ensures.columns));
      seconds = rw c.keep_keys.ensures.seconds (subst (λ (list : List LaneValues). AreColumns netlist AllSettled c.settle.new.self.lanes netlist.outputs list) (sym seconds)
          (subst (λ (at : Stage). AreColumns netlist at c.settle.new.self.lanes netlist.outputs c.keep_values.new.columns) last c.keep_values.ensures.columns));
      keys = c.keep_keys.ensures.keys;
    }

pub write_lanes-requires-clause-room : goal.write_lanes-requires-clause-room
write_lanes-requires-clause-room g c = record { line = c.requires.room.line; columns = (write_lanes-requires-clause-columns g c).fit }

pub returns-clause-gave : goal.returns-clause-gave
returns-clause-gave g c =
    let comes = comes_to c.args.work.now.job c.args.work.now.net.now c.args.work.now.patterns.now.held in
    subst (λ (block : List PatternOf). AreWritten g.K.Sink.output g.K.Sink.faults c.args.work.now.net.now comes block (c.args.first + 1) c.args.writer.now c.write_lanes.new.writer c.args.room.now.counts c.write_lanes.new.room.counts)
    (fewer c.args.work.now.patterns.now.patterns c.args.first c.min-lanes.result (c.min-lanes.ensures ∙ ap (λ (n : ℕ). min (n - c.args.first) 512) c.count.ensures)) c.write_lanes.ensures.gave

pub returns-clause-planes : goal.returns-clause-planes
returns-clause-planes g c =
    let held = held_by c.args.work.now.job c.args.work.now.patterns.now.held in
    let settled : Seen → Seen = λ (seen : Seen). record seen { stage = AllSettled; settles = min (seen.settles + 1) (2 ^ 64 - 1) } in
    c.settle.ensures ∙ (ap settled c.spread_and_keep.ensures.planes ∙ (ap settled c.complete.ensures ∙ (ap settled c.load.ensures
    ∙ ap (λ (block : List PatternOf). settled (record c.args.planes.now { stage = Loading; lanes = lanes_with held block })) (fewer c.args.work.now.patterns.now.patterns c.args.first c.min-lanes.result (c.min-lanes.ensures ∙ ap (λ (n : ℕ). min (n - c.args.first) 512) c.count.ensures)))))
