-- What a line is made of.
use Rattle.std.specs.Prelude.{ℕ, List, decimal}
use Rattle.hz_write.specs.declared.pieces.Piece.{Piece}
use Rattle.hz_write.specs.declared.pieces.Piece.TheVariants.{Text, Number, Count, Long}

-- the bytes of a piece
abbrev pub piece_text : Piece → List ℕ
piece_text (Text text) = text.now
piece_text (Number number) = decimal number
piece_text (Count count) = decimal count
piece_text (Long value) = decimal value
