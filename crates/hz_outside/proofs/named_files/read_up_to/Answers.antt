-- The bytes of one read more.
use Rattle.std.proofs.Common.{◌≡◌, ◌∙◌, ◌+◌, ℕ, List, length, take, drop, ap, subst, sym, arith, take_at}
use Rattle.std.specs.Io.KnownBytes.{Consumes}
use Rattle.hz_outside.proofs.ReadLemmas.{read-more}
use Rattle.hz_outside.proofs.named_files.read_up_to.Goals as goal

pub loop-filled-preserved : goal.loop-filled-preserved
loop-filled-preserved g c =
    let filled = c.loop-filled.filled in
    let count = c.in-Ok-read_at.count in
    let old = c.make_room.new.file.items in
    let new = c.read_at.new.file in
    let read = c.in-Ok-read_at.ensures in
    let long : length new ≡ c.make_room.new.file.len = read.long ∙ c.as_mut_slice.ensures.len in
    let whole = take_at new (drop (length new) old) c.make_room.new.file.len long in
    let front : take filled new ≡ take filled c.loop-filled.file.items = read.front ∙ ap (take filled) c.as_mut_slice.ensures.value ∙ c.in-Ok.ensures.front in
    let more = read-more _ _ _ c.loop-filled.file.items new filled count front c.loop-filled.invariant.1 read.read in
    let P : List ℕ → Type 0 = λ bytes. Consumes (g.R.Read.remaining c.args.reader.now) (g.R.Read.remaining c.read_at.new.reader) (take (filled + count) bytes) in
    (omega (arith, read.fits, long), subst P (sym whole) more)
