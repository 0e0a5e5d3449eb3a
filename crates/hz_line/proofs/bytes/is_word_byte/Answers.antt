use Rattle.std.proofs.Common.{arith, false}
use Rattle.std.proofs.lemmas.List.FromFn.{get_or-map-range_with_len}
use Rattle.hz_line.specs.Byte.{class_of, is_word_byte}
use Rattle.hz_line.proofs.bytes.is_word_byte.Goals as goal

pub returns : goal.returns
unfolding class_of
returns c = get_or-map-range_with_len is_word_byte 0 256 c.args.byte c.args.byte false (omega arith) (omega arith)
