-- The hash of states.
use Rattle.std.specs.Prelude.{ℕ, fold}
use Rattle.std.specs.Hash as fed
use Rattle.std.specs.Hash.DefaultHasher as sip
use Rattle.std.specs.declared.hash.DefaultHasher.{DefaultHasher}
use Rattle.hz_states.specs.declared.hashing.StateHashing.{StateHashing}

-- SipHash that begins with a key
abbrev pub hashing_with : ℕ → StateHashing
hashing_with key = record { begun = fold sip.write sip.initial (fed.u64 key) }

-- the hasher with which a state begins
abbrev pub hasher_of : StateHashing → DefaultHasher
hasher_of hashing = hashing.begun
