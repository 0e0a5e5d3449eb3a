use Rattle.hz_bench.proofs.reading.build.Goals as goal

pub build_draft-requires : goal.build_draft-requires
build_draft-requires c =
    rw (c.as_slice.ensures.value, c.as_slice-2.ensures.value, c.as_slice-3.ensures.value, c.as_slice-4.ensures.value, c.as_slice-5.ensures.value, c.as_slice-6.ensures.value) c.requires

pub returns : goal.returns
returns c =
    λ elements can. c.build_draft.ensures elements
    (rw (c.as_slice.ensures.value, c.as_slice-2.ensures.value, c.as_slice-3.ensures.value, c.as_slice-4.ensures.value, c.as_slice-5.ensures.value, c.as_slice-6.ensures.value) can)
