-- A script with one change more.
use Rattle.std.proofs.Common.{ℕ, ◌<◌, ◌++◌, ◌∷◌, [], List, Bool, length, arith}
use Rattle.std.proofs.lemmas.List.Elements.{All-push}
use Rattle.std.proofs.lemmas.List.{length_push}
use Rattle.hz_script.specs.ScriptValue.{ScriptOf, IsScript}
use Rattle.hz_text.specs.Bits.{IsChange}
use Rattle.hz_script.specs.Limits.{most_changes}

pub IsScript-add : (script : ScriptOf) (change : List (ℕ × Bool)) → IsScript script → IsChange (length script.start) change → length script.changes < most_changes → IsScript (record script { changes = script.changes ++ change ∷ [] })
IsScript-add script change h one few = record {
  changes = All-push (IsChange (length script.start)) script.changes change h.changes one;
  few = omega (arith, length_push script.changes change);
}
