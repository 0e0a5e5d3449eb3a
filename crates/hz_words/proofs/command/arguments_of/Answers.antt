use Rattle.std.proofs.Common.{◌∙◌, codes}
use Rattle.clap.specs.Words.{found_of}
use Rattle.clap.proofs.WalkLemmas.{first_value-rows}
use Rattle.hz_words.proofs.command.arguments_of.Goals as goal

pub returns : goal.returns
returns c =
    let job = c.get_str.ensures ∙ first_value-rows (found_of c.args.matches.now) (codes "job") in
    let first = c.get_str-2.ensures ∙ first_value-rows (found_of c.args.matches.now) (codes "first") in
    let second = c.get_str-3.ensures ∙ first_value-rows (found_of c.args.matches.now) (codes "second") in
    let cap = c.get_str-4.ensures ∙ first_value-rows (found_of c.args.matches.now) (codes "cap") in
    let show = c.get_str-5.ensures ∙ first_value-rows (found_of c.args.matches.now) (codes "show") in
    λ i. record { job = job i; first = first i; second = second i; cap = cap i; show = show i }
