use Rattle.std.proofs.Common.{◌≡◌, ◌∙◌, ℕ, List, get_or, arith, inl, inr, ap, subst, sym}
use Rattle.std.specs.Prelude.{Contains}
use Rattle.std.proofs.lemmas.Bool.{cases_lt}
use Rattle.std.proofs.lemmas.List.{get_or_default}
use Rattle.std.proofs.lemmas.List.Sums.{sum_by_more}
use Rattle.std.proofs.lemmas.List.Elements.{All-contains}
use Rattle.hz_net.specs.Reads.{readers_of}
use Rattle.hz_pass.specs.Frontier.{reader_count}
use Rattle.hz_pass.specs.InRound.{IsMadeIn}
use Rattle.hz_pass.proofs.WholeRounds.{round-end, made-by-readers}
use Rattle.hz_pass.proofs.round.Round.evaluate_readers.Goals as goal

pub loop-source-preserved : goal.loop-source-preserved
loop-source-preserved g c =
    let round = c.args.self.now in
    let netlist = round.net.now in
    let made : ℕ → Type 0 = IsMadeIn round c.evaluate_from.new.next in
    let source = get_or c.args.due.now c.loop-source.source-index 0 in (
      c.evaluate_from.ensures.so_far,
      λ k reader few there. elim (cases_lt k c.loop-source.source-index) [
        | inl earlier ↦ c.evaluate_from.ensures.kept reader (c.loop-source.invariant.1 k reader earlier there)
        | inr last ↦ (
            let same : k ≡ c.loop-source.source-index = omega (arith, last, few) in
            let here : Contains (readers_of netlist source) reader = subst (λ (list : List ℕ). Contains list reader) (ap (λ (n : ℕ). readers_of netlist (get_or c.args.due.now n 0)) same) there in
            All-contains made (readers_of netlist source) reader c.evaluate_from.ensures.made here
            )
      ],
      c.evaluate_from.ensures.room ∙ c.loop-source.invariant.2,
      omega (
        arith,
        c.evaluate_from.ensures.steps,
        c.loop-source.invariant.3,
        sum_by_more (reader_count netlist) c.args.due.now c.loop-source.source-index 0 (omega arith),
      ),
      omega (arith, c.evaluate_from.ensures.counted, c.loop-source.invariant.4),
    )

pub returns-clause-round : goal.returns-clause-round
returns-clause-round g c =
    round-end c.requires.round.state c.loop-source.invariant.0
    (made-by-readers c.args.self.now.net.now c.requires.circuit c.args.due.now c.requires.quiet c.loop-source.invariant.0
    (λ source reader there reads.
    let at : source ≡ get_or c.args.due.now there.0 0 = sym there.2 ∙ get_or_default c.args.due.now there.0 source 0 there.1 in
    c.loop-source.invariant.1 there.0 reader (omega (arith, there.1, c.loop-source-test.false)) (subst (λ (n : ℕ). Contains (readers_of c.args.self.now.net.now n) reader) at reads)))
