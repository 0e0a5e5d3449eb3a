-- The words that are kept are the words themselves.
use Rattle.std.proofs.Common.{List, Option, subst}
use Rattle.std.proofs.lemmas.List.{map-id}
use Rattle.hz_net.specs.Network.{network_of}
use Rattle.hz_word.specs.declared.word.Word.{Word}
use Rattle.hz_free.specs.VariableWords.{AreCappedWords}
use Rattle.hz_free.proofs.free.Free.words_given_a.Goals as goal

pub returns : goal.returns
returns c =
    subst (λ (told : List (Option Word)). AreCappedWords (network_of c.args.net.now) c.args.input.now c.args.start.now c.args.cap told) (map-id c.write_words.new.out) c.write_words.ensures
