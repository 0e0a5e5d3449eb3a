use Rattle.std.proofs.Common.{◌∙◌, sym, ap, List, ℕ, position}
use Rattle.std.specs.Str.{bytes_eq}
use Rattle.hz_core.proofs.FieldLemmas.{found_at}
use Rattle.hz_core.proofs.circuit.Circuit.find.Goals as goal

pub returns-in_err-place-clause-found : goal.returns-in_err-place-clause-found
returns-in_err-place-clause-found c =
    c.from_residual.ensures ∙ (sym c.in_err-place.was ∙ (c.get_index_of.ensures.index
    ∙ (ap (λ (key : List ℕ). position (bytes_eq key) c.self.inside.names.keys) c.new.ensures ∙ found_at c.self.inside c.args.self.now c.args.name.now c.self.view_is)))

pub returns-clause-found : goal.returns-clause-found
returns-clause-found c =
    sym c.in_ok-place.was ∙ (c.get_index_of.ensures.index
    ∙ (ap (λ (key : List ℕ). position (bytes_eq key) c.self.inside.names.keys) c.new.ensures ∙ found_at c.self.inside c.args.self.now c.args.name.now c.self.view_is))
