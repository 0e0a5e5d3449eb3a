use Rattle.hz_blif.specs.Draft.{noting}
use Rattle.hz_blif.specs.Reading.{line_by}
use Rattle.hz_blif.proofs.draft.Draft.add.Goals as goal

pub take-requires-clause-going : goal.take-requires-clause-going
take-requires-clause-going c =
    let going = c.requires.going in
    record {
      read = noting c.args.number (line_by c.args.line.now) going.read;
      holds = c.note_line.ensures going.read (c.in_ok-make_room.ensures going.read going.holds);
      short = going.short;
    }

pub returns : goal.returns
returns c = λ read held. c.in_ok-take.ensures _ (c.note_line.ensures read (c.in_ok-make_room.ensures read held))
