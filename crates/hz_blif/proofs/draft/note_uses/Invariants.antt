use Rattle.std.proofs.Common.{◌≡◌, ◌++◌, take}
use Rattle.hz_netlist.specs.Names.{seen_names, on_line, names_at}
use Rattle.hz_blif.specs.declared.draft.Draft.{Draft as DraftOf}
use Rattle.hz_blif.specs.Draft.{Holds, Read}
use Rattle.hz_blif.proofs.draft.note_uses.Given as goal

abbrev pub invariant-loop-number : goal.invariant-loop-number
invariant-loop-number l = record {
  names : seen_names l.names ≡ seen_names l.fn.names;
  used : (read : Read) (draft : DraftOf) → draft.names ≡ l.fn.names → Holds read draft
      → Holds (record read { used = read.used ++ on_line l.line (names_at l.fn.names (take l.number-index l.numbers)) }) (record draft { names = l.names });
}
