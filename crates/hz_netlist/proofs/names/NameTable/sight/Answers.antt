use Rattle.std.proofs.Common.{◌∙◌, sym, ap, List, ℕ, [], ◌∷◌, ◌++◌, Some, position}
use Rattle.std.specs.List.{position_or_len}
use Rattle.std.specs.Str.{bytes_eq}
use Rattle.hz_netlist.specs.Names.{Names, seen_names}
use Rattle.hz_netlist.specs.Table.{seen_with}
use Rattle.hz_netlist.specs.declared.names.Lines.{Lines}
use Rattle.hz_netlist.proofs.NameTableLemmas.{absent-new, there-old, keys-new, keys-old, names-more, names-same, place-more, place-same, no_lines}
use Rattle.hz_netlist.proofs.names.NameTable.sight.Goals.{then-is_new, else-is_new}
use Rattle.hz_netlist.proofs.names.NameTable.sight.Goals as goal

pub returns-clause-seen : goal.returns-clause-seen
returns-clause-seen c =
    elim c.if-is_new.branch [
      | then-is_new w ↦
          w.self-is ∙ ap (λ (names : List (List ℕ)). seen_with names w.push_reserved.new.self.items) (c.in-Ok-insert_full.ensures.keys ∙ keys-new c.self.inside.names.keys c.new.result c.args.name.now c.new.ensures c.in-Ok-insert_full.is_new c.in-Ok-insert_full.ensures.added w.if-is_new.true)
          ∙ ap (λ (lines : List Lines). seen_with (c.self.inside.names.keys ++ c.args.name.now ∷ []) lines)
          (w.push_reserved.ensures.items ∙ ap (λ (was : List Lines). was ++ no_lines ∷ []) c.in_ok-reserve_one.ensures.items)
          ∙ names-more c.self.inside.names.keys c.self.inside.lines.items c.args.self.now c.self.invariant.counted c.self.view_is c.args.name.now (absent-new c.self.inside.names.keys c.new.result c.args.name.now c.new.ensures c.in-Ok-insert_full.is_new c.in-Ok-insert_full.ensures.added w.if-is_new.true)
      | else-is_new w ↦
          w.self-is ∙ ap (λ (names : List (List ℕ)). seen_with names c.reserve_one.new.items.items) (c.in-Ok-insert_full.ensures.keys ∙ keys-old c.self.inside.names.keys c.new.result c.args.name.now c.new.ensures c.in-Ok-insert_full.is_new c.in-Ok-insert_full.ensures.added w.if-is_new.false)
          ∙ ap (λ (lines : List Lines). seen_with c.self.inside.names.keys lines) c.in_ok-reserve_one.ensures.items
          ∙ names-same c.self.inside.names.keys c.self.inside.lines.items c.args.self.now c.self.invariant.counted c.self.view_is c.args.name.now (there-old c.self.inside.names.keys c.new.result c.args.name.now c.new.ensures c.in-Ok-insert_full.is_new c.in-Ok-insert_full.ensures.added w.if-is_new.false)
    ]

pub returns-clause-number : goal.returns-clause-number
returns-clause-number c =
    ap (λ (names : Names). position (bytes_eq c.args.name.now) (seen_names names)) (returns-clause-seen c)
    ∙ elim c.if-is_new.branch [
      | then-is_new w ↦ place-more c.self.inside.names.keys c.self.inside.lines.items c.args.self.now c.self.invariant.counted c.self.view_is c.args.name.now (absent-new c.self.inside.names.keys c.new.result c.args.name.now c.new.ensures c.in-Ok-insert_full.is_new c.in-Ok-insert_full.ensures.added w.if-is_new.true)
      | else-is_new w ↦ place-same c.self.inside.names.keys c.self.inside.lines.items c.args.self.now c.self.invariant.counted c.self.view_is c.args.name.now (there-old c.self.inside.names.keys c.new.result c.args.name.now c.new.ensures c.in-Ok-insert_full.is_new c.in-Ok-insert_full.ensures.added w.if-is_new.false)
    ]
    ∙ ap Some (ap (λ (key : List ℕ). position_or_len (bytes_eq key) c.self.inside.names.keys) (sym c.new.ensures) ∙ sym c.in-Ok-insert_full.ensures.index)
