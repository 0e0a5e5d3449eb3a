use Rattle.std.proofs.Common.{◌≡◌, ◌<◌, ◌++◌, ℕ, suc, List, drop, length}
use Rattle.std.specs.Prelude.{IfSome}
use Rattle.hz_blif.specs.Gates.{literals_from, literals_of}
use Rattle.hz_blif.proofs.LiteralLemmas.{literal_found}
use Rattle.hz_blif.proofs.gates.only_literal.Given as goal

abbrev pub invariant-loop-pin : goal.invariant-loop-pin
invariant-loop-pin l = record {
  pin : IfSome l.found (λ literal. literal.pin < length l.plane);
  found : (pins : List (List ℕ)) → length pins ≡ length l.plane
      → literal_found pins l.found ++ literals_from (suc l.pin) (drop l.pin pins) (drop l.pin l.plane) ≡ literals_of pins l.plane;
}
