use Rattle.std.proofs.Common.{◌∙◌, sym}
use Rattle.hz_plane.specs.Faults.{fault_at}
use Rattle.hz_plane.specs.Bits.{has_lane}
use Rattle.hz_plane.specs.Pairs.{and_words, not_words}
use Rattle.hz_plane.proofs.Bits.{plane-and, plane-not}
use Rattle.hz_plane.proofs.LaneSets.{empty-set}
use Rattle.hz_plane.proofs.FaultNotes.{fresh-is, with-fresh, with-same, with-back, out-of-both}
use Rattle.hz_plane.proofs.faults.note_new.Goals as goal

pub returns-then-is_zero-clause-lanes : goal.returns-then-is_zero-clause-lanes
returns-then-is_zero-clause-lanes c lane inside =
    with-same (has_lane c.args.lanes lane) c.args.fault (fault_at c.args.faults.now lane)
    (λ none. sym (fresh-is c.args.lanes c.args.noted lane inside c.is_plane.ensures c.is_plane-2.ensures (c.requires.noted lane inside none)) ∙ empty-set _ lane (c.is_zero.ensures.0 c.if-is_zero.true))

pub returns-clause-lanes : goal.returns-clause-lanes
returns-clause-lanes c lane inside =
    c.note.ensures lane inside
    ∙ with-fresh _ (has_lane c.args.lanes lane) c.args.fault (fault_at c.args.faults.now lane) (λ none. fresh-is c.args.lanes c.args.noted lane inside c.is_plane.ensures c.is_plane-2.ensures (c.requires.noted lane inside none))

pub returns-clause-noted : goal.returns-clause-noted
returns-clause-noted c lane inside none =
    let back = with-back _ c.args.fault (fault_at c.args.faults.now lane) (sym (c.note.ensures lane inside) ∙ none) in
    out-of-both c.args.noted (and_words c.args.lanes (not_words c.args.noted)) lane inside c.is_plane-2.ensures (plane-and c.args.lanes (not_words c.args.noted) c.is_plane.ensures (plane-not c.args.noted c.is_plane-2.ensures)) (c.requires.noted lane inside back.0) back.1
