use Rattle.std.proofs.Common.{◌≡◌, ◌∙◌, ◌++◌, ◌∷◌, [], ◌<◌, ap, arith, length, List, ℕ, subst, sym, take, get_or}
use Rattle.hz_line.specs.Statement.{Numbered}
use Rattle.hz_netlist.specs.Names.{seen_names, on_line, names_at, name_at}
use Rattle.hz_blif.specs.Draft.{Holds}
use Rattle.hz_blif.proofs.DraftSteps.{holds-used}
use Rattle.hz_blif.proofs.NumberSteps.{name_at-get, seen-length, use-names}
use Rattle.hz_blif.proofs.CoverSteps.{uses-step}
use Rattle.hz_blif.proofs.draft.note_uses.Goals as goal

pub note_use-requires : goal.note_use-requires
note_use-requires c =
    let few = c.requires c.loop-number.number-index 0 c.loop-number-test.true in
    omega (arith, few, seen-length c.loop-number.names, seen-length c.args.names.now, ap length c.loop-number.invariant.names)

pub loop-number-preserved : goal.loop-number-preserved
loop-number-preserved c =
    let number : ℕ = get_or c.args.numbers.now c.loop-number.number-index 0 in
    let few : number < length c.args.names.now = c.requires c.loop-number.number-index 0 c.loop-number-test.true in
    let short : number < length c.loop-number.names = omega (arith, few, seen-length c.loop-number.names, seen-length c.args.names.now, ap length c.loop-number.invariant.names) in
    let same : name_at c.loop-number.names number ≡ name_at c.args.names.now number =
    name_at-get c.loop-number.names number ∙ (ap (λ names. get_or names number []) c.loop-number.invariant.names ∙ sym (name_at-get c.args.names.now number)) in
    record {
      names = ap seen_names c.note_use.ensures ∙ (use-names c.loop-number.names number c.args.line short ∙ c.loop-number.invariant.names);
      used = λ read draft are held. (
          let so_far = read.used ++ on_line c.args.line (names_at c.args.names.now (take c.loop-number.number-index c.args.numbers.now)) in
          let one = holds-used (record read { used = so_far }) (record draft { names = c.loop-number.names }) number c.args.line c.note_use.new.self short c.note_use.ensures (c.loop-number.invariant.used read draft are held) in
          let told = subst (λ (name : List ℕ). Holds (record read { used = so_far ++ record { line = c.args.line; statement = name } ∷ [] }) (record draft { names = c.note_use.new.self })) same one in
          subst (λ (used : List (Numbered (List ℕ))). Holds (record read { used = used }) (record draft { names = c.note_use.new.self }))
          (uses-step c.args.line c.args.names.now c.args.numbers.now c.loop-number.number-index read.used c.loop-number-test.true) told
          );
    }
