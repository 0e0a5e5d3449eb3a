-- The words of the line, one after the other.
use Rattle.std.proofs.Common.{refl}
use Rattle.hz_text.specs.VariableWord.{variable_word}
use Rattle.hz_write.proofs.Writers.{writes_then}
use Rattle.hz_vcd.specs.Code.{code_of}
use Rattle.hz_vcd.proofs.LineLemmas.{declaration-line}
use Rattle.hz_vcd.proofs.writing.write_declaration.Goals as goal

pub returns-clause-gave : goal.returns-clause-gave
returns-clause-gave g c =
    let front = writes_then (writes_then c.text.ensures c.write_code.ensures refl) c.text-2.ensures refl in
    let words = writes_then front c.write_variable.ensures refl in
    writes_then words c.line.ensures.gave (declaration-line (code_of c.args.var) (variable_word c.args.net.now c.args.var))
