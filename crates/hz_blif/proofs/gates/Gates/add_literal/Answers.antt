use Rattle.std.proofs.Common.{[], ◌∷◌, ◌∙◌, ap, refl, sym, Bool, if◌then◌else◌}
use Rattle.std.proofs.lemmas.Result.{on_ok_weaker}
use Rattle.hz_core.specs.declared.kind.Kind.TheVariants.{Buff, Not}
use Rattle.hz_blif.proofs.CoverEntries.{literal-gated}
use Rattle.hz_blif.proofs.EntryLemmas.{grow-as, grow-gate, reads-pin}
use Rattle.hz_blif.proofs.gates.Gates.add_literal.Goals as goal

pub returns : goal.returns
returns c =
    let pin = c.index.result.now in
    let kind = c.literal_kind-kind.ensures
    ∙ ap (λ (column : Bool). if c.args.literal.is_plain then (if column then Buff else Not) else (if column then Not else Buff)) c.column.ensures in
    on_ok_weaker c.add_gate.result
    (λ added. grow-as c.args.cover.now c.args.self.now c.add_gate.new.self _ _
    (grow-gate c.args.cover.now c.args.self.now c.add_gate.new.self _ _ (λ name. name pin ∷ []) c.requires.holds refl refl
    (reads-pin c.args.cover.now c.args.self.now.gates.items pin (c.args.literal.pin, c.requires.pin, sym c.index.ensures))
    added (ap (λ sources. sources.items) c.add_gate.ensures.sources ∙ c.in_ok-push.ensures))
    (λ name. literal-gated name c.args.cover.now c.args.literal _ pin c.requires.pin c.index.ensures kind))
    c.add_gate.ensures.gates
