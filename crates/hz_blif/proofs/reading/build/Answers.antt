use Rattle.hz_blif.specs.Built.{elements_of_draft}
use Rattle.hz_blif.proofs.BuildLaws.{drafted-buildable}
use Rattle.hz_blif.proofs.reading.build.Goals as goal

pub build_draft-requires : goal.build_draft-requires
build_draft-requires c =
    (elements_of_draft c.args.draft.now, rw (c.table.ensures.table, c.as_slice.ensures.value, c.as_slice-2.ensures, c.sources.ensures, c.as_slice-3.ensures.value) (drafted-buildable c.args.draft.now c.requires c.table.ensures.plain))

pub returns : goal.returns
returns c =
    c.build_draft.ensures (elements_of_draft c.args.draft.now)
    (rw (c.table.ensures.table, c.as_slice.ensures.value, c.as_slice-2.ensures, c.sources.ensures, c.as_slice-3.ensures.value) (drafted-buildable c.args.draft.now c.requires c.table.ensures.plain))
