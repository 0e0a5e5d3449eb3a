-- The statement that a line means, from the head of its tokens.
use Rattle.std.proofs.Common.{◌≡◌, ◌∙◌, ℕ, ◌*◌, ◌||◌, List, [], ◌∷◌, Bool, true, false, Option, Some, None, option_map, is_some, cond, length, refl, sym, ap, subst, arith, inl, inr, IfSome, true≢false}
use Rattle.std.specs.Prelude.{◌⊎◌, codes}
use Rattle.std.specs.List.{list_any}
use Rattle.hz_line.specs.declared.bytes.Punctuation.{Punctuation}
use Rattle.hz_line.specs.declared.bytes.Punctuation.TheVariants.{Open, Close, Comma, Equals}
use Rattle.hz_line.specs.Keyword.{is_keyword}
use Rattle.hz_line.specs.Statement.{Means, meaning_of_tokens}
use Rattle.hz_line.specs.Token.{TokenOf, WordOf, PunctuationOf, tokens_of, with_token, has_no_token, IsWordToken, AreWordTokens}
use Rattle.hz_line.proofs.TokenLemmas.{tokens_of-AreWordTokens}
use Rattle.hz_bench.specs.declared.forms.Form.TheVariants as form
use Rattle.hz_bench.specs.declared.statement.Head.{Head}
use Rattle.hz_bench.specs.declared.statement.NameList.{NameList}
use Rattle.hz_bench.specs.Head.{has_punctuated_first, head_tokens, names_by, name_list_with, no_name_list}
use Rattle.hz_bench.specs.Form.{form_named, statement_with}
use Rattle.hz_bench.specs.Statement.{Statement, Input, Output, Gate, statement_of, name_list_of, words_of, port_statement, kind_named, has_long_name, is_long, words_by, are_punctuated, are_punctuated_words, FlipFlop, name_of, sources_of, defined_by, is_flip_flop, words_in}
use Rattle.hz_bench.specs.Text.{bench_meaning}

or_false : (a : Bool) → (a || false) ≡ a
or_false true = refl
or_false false = refl

-- an input has one name
pub port_long : (name : List ℕ) → has_long_name (statement_with name form.Input []) ≡ is_long name
port_long name = or_false (is_long name)

-- what the word in the kind's place makes of a name and of the words of a part of a line
pub stated_by : (name word part : List ℕ) → statement_with name (form_named word) part ≡ defined_by name word (words_in part)
stated_by name word part = by_word (is_flip_flop word)
  where
    by_word : (b : Bool) → statement_with name (cond b form.FlipFlop (form.Gate (kind_named word))) part ≡ cond b (FlipFlop name (words_in part)) (Gate name (kind_named word) (words_in part))
    by_word true = refl
    by_word false = refl

-- it reads these words
fields_by : (name word : List ℕ) (sources : List (List ℕ)) → (sources_of (defined_by name word sources) ≡ sources) × (name_of (defined_by name word sources) ≡ name)
fields_by name word sources = by_word (is_flip_flop word)
  where
    by_word : (b : Bool) → let made = cond b (FlipFlop name sources) (Gate name (kind_named word) sources) in (sources_of made ≡ sources) × (name_of made ≡ name)
    by_word true = (refl, refl)
    by_word false = (refl, refl)

pub sources_with : (name word part : List ℕ) → sources_of (statement_with name (form_named word) part) ≡ words_in part
sources_with name word part = ap sources_of (stated_by name word part) ∙ (fields_by name word (words_in part)).0

pub long_with : (name word part : List ℕ) → has_long_name (statement_with name (form_named word) part) ≡ (is_long name || list_any is_long (words_in part))
long_with name word part =
    ap has_long_name (stated_by name word part)
    ∙ ap (λ first. is_long first || list_any is_long (sources_of (defined_by name word (words_in part)))) (fields_by name word (words_in part)).1
    ∙ ap (λ sources. is_long name || list_any is_long sources) (fields_by name word (words_in part)).0

-- a list of names in words
pub record IsNameList (tokens : List TokenOf) : Type 0 where
  pub words : name_list_of tokens ≡ Some (words_of tokens)
  pub twice : length tokens ≡ 2 * length (words_of tokens)

more_names : (name : List ℕ) (names : Option (List (List ℕ))) → is_some (option_map (λ (rest : List (List ℕ)). name ∷ rest) names) ≡ true → is_some names ≡ true
more_names name None h = cc
more_names name (Some names) h = refl

pub IsNameList-from_some : (tokens : List TokenOf) → is_some (name_list_of tokens) ≡ true → IsNameList tokens
IsNameList-from_some [] h = cc
IsNameList-from_some (PunctuationOf punctuation ∷ rest) h = cc
IsNameList-from_some (WordOf name ∷ []) h = cc
IsNameList-from_some (WordOf name ∷ WordOf next ∷ rest) h = cc
IsNameList-from_some (WordOf name ∷ PunctuationOf Open ∷ rest) h = cc
IsNameList-from_some (WordOf name ∷ PunctuationOf Equals ∷ rest) h = cc
IsNameList-from_some (WordOf name ∷ PunctuationOf Close ∷ []) h = record { words = refl; twice = refl }
IsNameList-from_some (WordOf name ∷ PunctuationOf Close ∷ token ∷ rest) h = cc
IsNameList-from_some (WordOf name ∷ PunctuationOf Comma ∷ rest) h =
    let ih = IsNameList-from_some rest (more_names name (name_list_of rest) h) in
    record { words = ap (option_map (λ (names : List (List ℕ)). name ∷ names)) ih.words; twice = let t = ih.twice in omega arith }

-- the tokens of a head before these
abbrev pub headed : List ℕ → Punctuation → List ℕ → Punctuation → Option (List TokenOf) → Option (List TokenOf)
headed first punctuation second next tokens = with_token (WordOf first) (with_token (PunctuationOf punctuation) (with_token (WordOf second) (with_token (PunctuationOf next) tokens)))

-- the tokens are a list of these names, of which this was noted
pub record IsListed (tokens : Option (List TokenOf)) (noted : NameList) : Type 0 where
  pub names : List (List ℕ)
  pub listed : names_by tokens ≡ Some names
  pub words : option_map words_of tokens ≡ Some names
  pub count : noted.count ≡ length names
  pub long : noted.long ≡ list_any is_long names

listed_words : (tokens : Option (List TokenOf)) (names : List (List ℕ)) → names_by tokens ≡ Some names → option_map words_of tokens ≡ Some names
listed_words None names h = cc
listed_words (Some tokens) names h = sym (IsNameList-from_some tokens (ap is_some h)).words ∙ h

listed_by : (tokens : Option (List TokenOf)) (found : Option (List (List ℕ))) (noted : NameList) → names_by tokens ≡ found → option_map (name_list_with no_name_list) found ≡ Some noted → IsListed tokens noted
listed_by tokens None noted e h = cc
listed_by tokens (Some names) noted e h =
    let same : name_list_with no_name_list names ≡ noted = cc h in
    record { names = names; listed = e; words = listed_words tokens names e; count = let e = ap (λ (list : NameList). list.count) same in omega arith; long = sym (ap (λ (list : NameList). list.long) same) }

pub IsListed-from_noted : (tokens : Option (List TokenOf)) (noted : NameList) → option_map (name_list_with no_name_list) (names_by tokens) ≡ Some noted → IsListed tokens noted
IsListed-from_noted tokens noted h = listed_by tokens (names_by tokens) noted refl h

-- a flip-flop or a gate
pub gate_meant : (text : List ℕ) (head : Head) (names : List (List ℕ)) → tokens_of text ≡ head_tokens head → head.punctuation ≡ Equals → head.next ≡ Open → names_by (tokens_of head.rest.now) ≡ Some names → bench_meaning text ≡ Means (defined_by head.first.now head.second.now names)
gate_meant text head names tokens equals opened listed =
    ap (meaning_of_tokens statement_of) tokens ∙ rw (equals, opened) (meant (tokens_of head.rest.now) listed)
  where
    meant : (rest : Option (List TokenOf)) → names_by rest ≡ Some names → meaning_of_tokens statement_of (headed head.first.now Equals head.second.now Open rest) ≡ Means (defined_by head.first.now head.second.now names)
    meant None h = cc
    meant (Some rest) h = rw h refl

-- the words of a head are words, where what follows it has tokens
headed_words : (first second : List ℕ) (punctuation next : Punctuation) (rest : Option (List TokenOf)) → is_some rest ≡ true → IfSome (headed first punctuation second next rest) AreWordTokens → IsWordToken first × IsWordToken second
headed_words first second punctuation next None h words = cc
headed_words first second punctuation next (Some rest) h words = (words.0, words.1.0)

pub head_words : (text : List ℕ) (head : Head) → tokens_of text ≡ head_tokens head → is_some (tokens_of head.rest.now) ≡ true → IsWordToken head.first.now × IsWordToken head.second.now
head_words text head e some = headed_words head.first.now head.second.now head.punctuation head.next (tokens_of head.rest.now) some (subst (λ (found : Option (List TokenOf)). IfSome found AreWordTokens) e (tokens_of-AreWordTokens text))

pub bare-some : (tokens : Option (List TokenOf)) → has_no_token tokens ≡ true → is_some tokens ≡ true
bare-some None h = cc
bare-some (Some tokens) h = refl

-- tokens that have these words
pub words-known : (tokens : Option (List TokenOf)) (names : List (List ℕ)) → option_map words_of tokens ≡ Some names → words_by tokens ≡ names
words-known None names h = cc
words-known (Some tokens) names h = cc h

pub listed-some : (tokens : Option (List TokenOf)) (names : List (List ℕ)) → names_by tokens ≡ Some names → is_some tokens ≡ true
listed-some None names h = cc
listed-some (Some tokens) names h = refl

-- a list of names is words, each with punctuation after it
names_marked : (tokens : List TokenOf) → is_some (name_list_of tokens) ≡ true → are_punctuated_words tokens ≡ true
names_marked [] h = cc
names_marked (PunctuationOf punctuation ∷ rest) h = cc
names_marked (WordOf name ∷ []) h = cc
names_marked (WordOf name ∷ WordOf next ∷ rest) h = cc
names_marked (WordOf name ∷ PunctuationOf Open ∷ rest) h = cc
names_marked (WordOf name ∷ PunctuationOf Equals ∷ rest) h = cc
names_marked (WordOf name ∷ PunctuationOf Close ∷ []) h = refl
names_marked (WordOf name ∷ PunctuationOf Close ∷ token ∷ rest) h = cc
names_marked (WordOf name ∷ PunctuationOf Comma ∷ rest) h = names_marked rest (more_names name (name_list_of rest) h)

pub listed_marked : (tokens : Option (List TokenOf)) (names : List (List ℕ)) → names_by tokens ≡ Some names → are_punctuated tokens ≡ true
listed_marked None names h = cc
listed_marked (Some tokens) names h = names_marked tokens (ap is_some h)

-- the first of these words is one of them, and the others come after its punctuation
pub first_marked : (tokens rest : Option (List TokenOf)) (word : List ℕ) (punctuation : Punctuation) → tokens ≡ with_token (WordOf word) (with_token (PunctuationOf punctuation) rest) → are_punctuated tokens ≡ true → (words_by tokens ≡ word ∷ words_by rest) × (are_punctuated rest ≡ true)
first_marked tokens None word punctuation e h = absurd (true≢false (sym h ∙ ap are_punctuated e))
first_marked tokens (Some rest) word punctuation e h = (ap words_by e, sym (ap are_punctuated e) ∙ h)

-- where no word with punctuation comes first, there is none
pub none_marked : (tokens : Option (List TokenOf)) → has_punctuated_first tokens ≡ false → are_punctuated tokens ≡ true → words_by tokens ≡ []
none_marked None e h = cc
none_marked (Some []) e h = refl
none_marked (Some (PunctuationOf punctuation ∷ rest)) e h = cc
none_marked (Some (WordOf word ∷ [])) e h = cc
none_marked (Some (WordOf word ∷ WordOf next ∷ rest)) e h = cc
none_marked (Some (WordOf word ∷ PunctuationOf punctuation ∷ rest)) e h = cc

-- a word before a name in parentheses makes an input or an output of it
port_is : (word name : List ℕ) (statement : Statement) → port_statement word name ≡ Some statement → (Input name ≡ statement) ⊎ (Output name ≡ statement)
unfolding port_statement
port_is word name statement h = by_word (is_keyword word (codes "INPUT")) (is_keyword word (codes "OUTPUT")) h
  where
    by_word : (input output : Bool) → cond input (Some (Input name)) (cond output (Some (Output name)) None) ≡ Some statement → (Input name ≡ statement) ⊎ (Output name ≡ statement)
    by_word true output h = inl (cc h)
    by_word false true h = inr (cc h)
    by_word false false h = cc

-- what holds of the two forms of a statement holds of each statement
pub by_form : (P : List TokenOf → Statement → Type 0) → ((word name : List ℕ) (statement : Statement) → (Input name ≡ statement) ⊎ (Output name ≡ statement) → P (WordOf word ∷ PunctuationOf Open ∷ WordOf name ∷ PunctuationOf Close ∷ []) statement)
    → ((name kind : List ℕ) (rest : List TokenOf) (statement : Statement) → option_map (defined_by name kind) (name_list_of rest) ≡ Some statement → P (WordOf name ∷ PunctuationOf Equals ∷ WordOf kind ∷ PunctuationOf Open ∷ rest) statement)
    → (tokens : List TokenOf) (statement : Statement) → statement_of tokens ≡ Some statement → P tokens statement
by_form P port defined [] statement h = cc
by_form P port defined (PunctuationOf punctuation ∷ rest) statement h = cc
by_form P port defined (WordOf first ∷ []) statement h = cc
by_form P port defined (WordOf first ∷ WordOf second ∷ rest) statement h = cc
by_form P port defined (WordOf first ∷ PunctuationOf Close ∷ rest) statement h = cc
by_form P port defined (WordOf first ∷ PunctuationOf Comma ∷ rest) statement h = cc
by_form P port defined (WordOf first ∷ PunctuationOf Open ∷ []) statement h = cc
by_form P port defined (WordOf first ∷ PunctuationOf Open ∷ PunctuationOf punctuation ∷ rest) statement h = cc
by_form P port defined (WordOf first ∷ PunctuationOf Open ∷ WordOf second ∷ []) statement h = cc
by_form P port defined (WordOf first ∷ PunctuationOf Open ∷ WordOf second ∷ WordOf third ∷ rest) statement h = cc
by_form P port defined (WordOf first ∷ PunctuationOf Open ∷ WordOf second ∷ PunctuationOf Open ∷ rest) statement h = cc
by_form P port defined (WordOf first ∷ PunctuationOf Open ∷ WordOf second ∷ PunctuationOf Comma ∷ rest) statement h = cc
by_form P port defined (WordOf first ∷ PunctuationOf Open ∷ WordOf second ∷ PunctuationOf Equals ∷ rest) statement h = cc
by_form P port defined (WordOf first ∷ PunctuationOf Open ∷ WordOf second ∷ PunctuationOf Close ∷ []) statement h = port first second statement (port_is first second statement h)
by_form P port defined (WordOf first ∷ PunctuationOf Open ∷ WordOf second ∷ PunctuationOf Close ∷ token ∷ rest) statement h = cc
by_form P port defined (WordOf first ∷ PunctuationOf Equals ∷ []) statement h = cc
by_form P port defined (WordOf first ∷ PunctuationOf Equals ∷ PunctuationOf punctuation ∷ rest) statement h = cc
by_form P port defined (WordOf first ∷ PunctuationOf Equals ∷ WordOf second ∷ []) statement h = cc
by_form P port defined (WordOf first ∷ PunctuationOf Equals ∷ WordOf second ∷ WordOf third ∷ rest) statement h = cc
by_form P port defined (WordOf first ∷ PunctuationOf Equals ∷ WordOf second ∷ PunctuationOf Close ∷ rest) statement h = cc
by_form P port defined (WordOf first ∷ PunctuationOf Equals ∷ WordOf second ∷ PunctuationOf Comma ∷ rest) statement h = cc
by_form P port defined (WordOf first ∷ PunctuationOf Equals ∷ WordOf second ∷ PunctuationOf Equals ∷ rest) statement h = cc
by_form P port defined (WordOf first ∷ PunctuationOf Equals ∷ WordOf second ∷ PunctuationOf Open ∷ rest) statement h = defined first second rest statement h
