-- The parts are filled, and the room is kept.
use Rattle.std.proofs.Common.{◌∙◌, sym, ap, subst, length}
use Rattle.std.proofs.lemmas.List.{length-map}
use Rattle.hz_core.specs.Netlist.{Netlist}
use Rattle.hz_net.specs.Network.{network_of}
use Rattle.hz_desk.specs.declared.finding.Row.{Row}
use Rattle.hz_desk.specs.Finding.{values_a, values_b}
use Rattle.hz_desk.specs.Filled.{AreRacesOf}
use Rattle.hz_desk.proofs.room.Room.analyse.Goals as goal

pub make_runs-common-requires-clause-passed : goal.make_runs-common-requires-clause-passed
make_runs-common-requires-clause-passed c =
    let rounds = c.fill_rows-rounds.result in
    rw (c.values_a.ensures, c.as_slice.ensures.value, c.values_b.ensures, c.as_slice-2.ensures.value)
    (rounds.a, rounds.b, c.fill_rows-rounds.ensures.passed)

pub returns-clause-right : goal.returns-clause-right
returns-clause-right c =
    let netlist = c.args.net.now in
    let input = c.args.input.now in
    let start = c.args.start.now in
    let passes = c.fill_rows-rounds.new.passes in
    let rows = c.fill_rows-rounds.new.rows in
    let found = c.count_races-races.result in
    c.filled_is_right.ensures netlist input start c.args.cap _ record {
      circuit = c.keeps_shape.ensures.circuit;
      whole = c.keeps_shape.ensures.whole;
      begins = c.requires.start;
      variables_are = c.requires.room.finding.variables_are;
      input_is = c.write.ensures;
      a = values_a rows;
      ranks = passes.ranks.items;
      b = values_b rows;
      when = passes.when.items;
      passed = c.fill_rows-rounds.ensures.passed;
      runs = rw (c.values_a.ensures, c.values_b.ensures) at c.make_runs-common.ensures.runs;
      words = c.fill_rows-rounds.ensures.rows.words;
      are_words = c.fill_rows-rounds.ensures.rows.are_words;
      rows = c.fill_rows-rounds.ensures.rows.are_rows;
      races = subst (λ (n : Netlist). AreRacesOf (network_of n) input start c.make_runs-common.new.spread.steps c.make_runs-common.new.settle.steps c.make_runs-common.new.cycle.steps found.spread found.settle found.cycle)
          c.requires.room.follower c.count_races-races.ensures.races;
    }

pub returns-clause-room : goal.returns-clause-room
returns-clause-room c =
    let rows = c.fill_rows-rounds.new.rows in
    let are = c.fill_rows-rounds.ensures.rows.are_rows in
    record {
      free = c.requires.room.free;
      passes = c.fill_rows-rounds.ensures.passes;
      scratch = c.make_runs-common.ensures.scratch;
      follower = c.count_races-races.ensures.circuit ∙ c.requires.room.follower;
      finding = record {
        variables_are = c.requires.room.finding.variables_are;
        rows = sym (length-map rows (λ (row : Row). row.start)) ∙ (ap length are.starts ∙ c.requires.start.long);
        input = ap length c.write.ensures ∙ c.requires.input;
        spread = c.make_runs-common.ensures.spread_room;
        settle = c.make_runs-common.ensures.settle_room;
        cycle = c.make_runs-common.ensures.cycle_room;
      };
    }
