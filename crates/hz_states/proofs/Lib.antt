-- Bits in bytes, and back: what was packed reads back, and as many bits are the same exactly if their bytes are
pub mod PackingLemmas
-- States and their numbers, for callers
pub mod StateLaws
