-- Nothing is shown of what was written.
use Rattle.std.proofs.Common.{◌≡◌, ℕ, List, Option, Some, None, IfSome, take, refl}
use Rattle.hz_outside.specs.WrittenText.{extended_text}
use Rattle.hz_outside.proofs.std_sink.PrintedWriteSome.write_some.Goals as goal

untold : (counts : Option ℕ) (bytes : List ℕ) → IfSome counts (λ count. None ≡ extended_text None (take count bytes))
unfolding extended_text
untold None bytes = tt
untold (Some count) bytes = refl

pub returns-clause-some : goal.returns-clause-some
returns-clause-some g c = untold _ c.args.bytes.now
