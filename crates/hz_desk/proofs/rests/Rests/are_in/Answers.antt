-- What is seen in the lists of both.
use Rattle.std.proofs.Common.{◌≡◌, ◌∙◌, ◌+◌, ℕ, Bool, Option, None, Some, List, sym, ap, subst, length, get_or, arith}
use Rattle.std.specs.List.{slice_get, slice_index_or}
use Rattle.hz_core.specs.declared.tri.Tri.{Tri}
use Rattle.hz_core.specs.Ternary.{tri_of}
use Rattle.hz_net.specs.Network.{bit_at, value_at}
use Rattle.hz_word.specs.declared.word.Word.{Word}
use Rattle.hz_free.specs.CappedWords.{constant_if}
use Rattle.hz_desk.specs.declared.finding.Rest.{Rest}
use Rattle.hz_desk.specs.declared.finding.Row.{Row}
use Rattle.hz_desk.specs.RowsOf.{row_at_rest}
use Rattle.hz_desk.proofs.RowLists.{length-rows}
use Rattle.hz_desk.proofs.RestLists.{length-rests, rests-in}
use Rattle.hz_desk.proofs.rests.Rests.are_in.Goals as goal

pub have_values-requires-clause-list : goal.have_values-requires-clause-list
have_values-requires-clause-list c =
    let rows = c.rows.inside in
    omega (arith, c.requires.rows, ap length c.rows.view_is, length-rows rows.start.items rows.a.items rows.b.items rows.words.items, ap length c.as_slice.ensures.value, c.rows.invariant.a_long)

pub have_values-requires-clause-told : goal.have_values-requires-clause-told
have_values-requires-clause-told c =
    let told = c.self.inside in
    omega (arith, c.requires.rests, ap length c.self.view_is, length-rests told.values.items told.counted.items, ap length c.as_slice-values.ensures.value)

pub have_values-requires-2-clause-list : goal.have_values-requires-2-clause-list
have_values-requires-2-clause-list c =
    let rows = c.rows.inside in
    omega (arith, c.requires.rows, ap length c.rows.view_is, length-rows rows.start.items rows.a.items rows.b.items rows.words.items, ap length c.as_slice-2.ensures.value, c.rows.invariant.b_long)

pub have_values-requires-2-clause-told : goal.have_values-requires-2-clause-told
have_values-requires-2-clause-told c =
    let told = c.self.inside in
    omega (arith, c.requires.rests, ap length c.self.view_is, length-rests told.values.items told.counted.items, ap length c.as_slice-values.ensures.value)

pub have_bits-requires-clause-bits : goal.have_bits-requires-clause-bits
have_bits-requires-clause-bits c =
    let rows = c.rows.inside in
    omega (arith, c.requires.rows, ap length c.rows.view_is, length-rows rows.start.items rows.a.items rows.b.items rows.words.items, ap length c.as_slice-3.ensures.value)

pub have_bits-requires-clause-told : goal.have_bits-requires-clause-told
have_bits-requires-clause-told c =
    let told = c.self.inside in
    omega (arith, c.requires.rests, ap length c.self.view_is, length-rests told.values.items told.counted.items, ap length c.as_slice-values.ensures.value)

pub have_words-requires-clause-words : goal.have_words-requires-clause-words
have_words-requires-clause-words c =
    let rows = c.rows.inside in
    omega (arith, c.requires.rows, ap length c.rows.view_is, length-rows rows.start.items rows.a.items rows.b.items rows.words.items, ap length c.as_slice-4.ensures.value, c.rows.invariant.words_long)

pub have_words-requires-clause-bits : goal.have_words-requires-clause-bits
have_words-requires-clause-bits c =
    let rows = c.rows.inside in
    omega (arith, c.requires.rows, ap length c.rows.view_is, length-rows rows.start.items rows.a.items rows.b.items rows.words.items, ap length c.as_slice-5.ensures.value)

pub have_words-requires-clause-counted : goal.have_words-requires-clause-counted
have_words-requires-clause-counted c =
    let told = c.self.inside in
    omega (arith, c.requires.rests, ap length c.self.view_is, length-rests told.values.items told.counted.items, ap length c.as_slice-6.ensures.value, c.self.invariant)

pub returns : goal.returns
returns c = λ holds i few.
    let told = c.self.inside in
    let rows = c.rows.inside in
    let at : ℕ = c.args.first + i in
    let values : value_at c.as_slice-values.result.now at ≡ value_at told.values.items at = ap (λ (list : List Tri). value_at list at) c.as_slice-values.ensures.value in
    let found = rests-in rows.start.items rows.a.items rows.b.items rows.words.items told.values.items told.counted.items at c.rows.invariant
    (omega (arith, few, c.requires.rows, ap length c.rows.view_is, length-rows rows.start.items rows.a.items rows.b.items rows.words.items))
    (omega (arith, few, c.requires.rests, ap length c.self.view_is, length-rests told.values.items told.counted.items))
    (sym (ap (λ (list : List Tri). value_at list at) c.as_slice.ensures.value) ∙ (c.have_values.ensures c.if-not-have_values.false i few ∙ values))
    (sym (ap (λ (list : List Tri). value_at list at) c.as_slice-2.ensures.value) ∙ (c.have_values-2.ensures c.if-not-have_values-2.false i few ∙ values))
    (sym (ap (λ (list : List Bool). tri_of (bit_at list at)) c.as_slice-3.ensures.value) ∙ (c.have_bits.ensures c.if-not-have_bits.false i few ∙ values))
    (sym (ap (λ (list : List (Option Word)). slice_index_or list at None) c.as_slice-4.ensures.value) ∙ (c.have_words.ensures holds i few
    ∙ (ap (λ (list : List Bool). constant_if (bit_at c.as_slice-6.result.now at) (bit_at list at)) c.as_slice-5.ensures.value
    ∙ ap (λ (list : List Bool). constant_if (bit_at list at) (bit_at rows.start.items at)) c.as_slice-6.ensures.value))) in
    (found.0, subst (λ (list : List (Option Rest)). get_or list at None ≡ Some found.0) c.self.view_is found.1, subst (λ (list : List Row). slice_get list at ≡ Some (row_at_rest found.0)) c.rows.view_is found.2)
