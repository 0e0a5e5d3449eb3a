-- The node, and then the wires.
use Rattle.std.proofs.Common.{arith, map, ◌≡◌, true, ℕ, List, Option, ◌<◌, ◌∷◌, length, set, subst, Some}
use Rattle.std.proofs.lemmas.List.{length-map}
use Rattle.hz_net.specs.Network.{network_of}
use Rattle.hz_net.specs.Variables.{fan_out_of}
use Rattle.hz_gmw.proofs.Counts.{nodes-among}
use Rattle.hz_gmw.proofs.DriverLemmas.{node-inside}
use Rattle.hz_lists.specs.Listed.{is_listed}
use Rattle.hz_lists.proofs.ListedLemmas.{All-listed, listed-tail}
use Rattle.hz_word.specs.declared.word.Word.{Word}
use Rattle.hz_free.specs.Paths.{HaveValue}
use Rattle.hz_free.proofs.NotedValues.{value-first}
use Rattle.hz_free.proofs.free.give.Goals as goal

pub keep-requires : goal.keep-requires
keep-requires g c = omega (arith, c.requires.node, c.requires.out, nodes-among c.args.net.now c.requires.circuit)

pub give_all-requires : goal.give_all-requires
give_all-requires g c = λ i there.
    let inside = All-listed (λ i. i < length (network_of c.args.net.now)) (c.args.node ∷ fan_out_of c.args.net.now c.args.node) i (node-inside c.args.net.now c.requires.circuit c.args.node c.requires.node)
    (listed-tail i c.args.node (fan_out_of c.args.net.now c.args.node) (subst (λ (list : List ℕ). is_listed list i ≡ true) c.fan_out.ensures there)) in
    let long = c.keep.auto.out in
    omega (arith, inside, long, c.requires.out)

pub returns : goal.returns
returns g c =
    let few : c.args.node < length (map g.S.StoredWord.word_in c.args.out.now) = omega (arith, c.requires.node, c.requires.out, nodes-among c.args.net.now c.requires.circuit, length-map c.args.out.now g.S.StoredWord.word_in) in
    value-first c.args.node (fan_out_of c.args.net.now c.args.node) (Some c.args.word) (map g.S.StoredWord.word_in c.args.out.now) (map g.S.StoredWord.word_in c.give_all.new.out) few
    (subst (λ (list : List ℕ). HaveValue list (Some c.args.word) (set (map g.S.StoredWord.word_in c.args.out.now) c.args.node (Some c.args.word)) (map g.S.StoredWord.word_in c.give_all.new.out)) c.fan_out.ensures
    (subst (λ (value : Option Word). HaveValue c.fan_out.result.now value (set (map g.S.StoredWord.word_in c.args.out.now) c.args.node value) (map g.S.StoredWord.word_in c.give_all.new.out)) c.of-word.ensures
    (subst (λ (told : List (Option Word)). HaveValue c.fan_out.result.now (g.S.StoredWord.word_in c.of-word.result) told (map g.S.StoredWord.word_in c.give_all.new.out)) c.keep.ensures c.give_all.ensures)))
