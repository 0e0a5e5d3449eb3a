-- Reading a text line by line.
use Rattle.std.proofs.Common.{◌≡◌, ◌∙◌, ◌⊎◌, refl, sym, ap, subst, ℕ, suc, ◌+◌, ◌<◌, ◌≤◌, inl, inr, Bool, true, false, cond, List, [], ◌∷◌, ◌++◌, map, fold, length, Option, Some, None, option_map, arith, append_assoc}
use Rattle.std.specs.Prelude.{Contains}
use Rattle.std.specs.List.{find, list_any, sum_by}
use Rattle.std.specs.Borrow.{Bor}
use Rattle.std.proofs.lemmas.List.{append-nil, map-append}
use Rattle.std.proofs.lemmas.List.Elements.{Contains-append_cases}
use Rattle.hz_lists.specs.Least.{option_min}
use Rattle.hz_line.specs.Line.{lines_of, lines_of_rest, most_text_bytes, rest_length}
use Rattle.hz_line.specs.Statement.{Numbered, first_passing_line}
use Rattle.hz_line.proofs.StatementLemmas.{Ascends}
use Rattle.hz_blif.specs.declared.draft.Draft.{Draft}
use Rattle.hz_blif.specs.declared.fault.BlifFault.{BlifFault}
use Rattle.hz_blif.specs.declared.fault.BlifFault.TheVariants as fault
use Rattle.hz_blif.specs.declared.line.Course.{Course}
use Rattle.hz_blif.specs.declared.lines.JoinedLine.{JoinedLine}
use Rattle.hz_blif.specs.Check.{wrong_form_after}
use Rattle.hz_blif.specs.Cover.{covers_of}
use Rattle.hz_blif.specs.Draft.{Holds, IsDraftOf, MayGoOn, Read, closed, cover_room, nothing_read, noting, read_of, taking, with_next}
use Rattle.hz_blif.specs.Fault.{HasFault, HasForbidden, HasWrongForm, IsLeastFault, Stands, blif_fault_line, blif_fault_number, has_wrong_form, is_forbidden}
use Rattle.hz_blif.specs.Line.{Line, line_of_words, lines_in}
use Rattle.hz_blif.specs.Reading.{IsJoinedLine, bytes_of, course_of}
use Rattle.hz_blif.specs.Text.{joined_from, joined_lines, words_of_line}
use Rattle.hz_blif.proofs.Ascending.{above, joined_lines-ascend, lines_in-ascend}
use Rattle.hz_blif.proofs.FaultLaws.{stands-cases, stands-contained}
use Rattle.hz_blif.proofs.ReadLaws.{room-so-far}
use Rattle.hz_blif.proofs.TextRoom.{text-room}
use Rattle.hz_netlist.proofs.Undefined.{one_of}

true-false : true ≡ false → ⊥
true-false e = cc

-- what a line is
abbrev pub meant : Numbered (List ℕ) → Numbered Line
meant line = record { line = line.line; statement = line_of_words (words_of_line line.statement) }

-- what was read of a text so far: the lines that were seen have no wrong form
pub record IsReading (text : List ℕ) (draft : Draft) (course : Course) (number : ℕ) (rest : Option (Bor (List ℕ))) : Type 0 where
  pub seen : List (Numbered (List ℕ))
  pub split : joined_lines text ≡ seen ++ joined_from number (lines_of_rest rest)
  pub right : first_passing_line (list_any is_forbidden) seen ≡ None
  pub formed : wrong_form_after [] (map meant seen) ≡ None
  pub course_is : course ≡ course_of (map meant seen)
  pub holds : Holds (read_of (map meant seen)) draft
  pub some : 1 ≤ number
  pub lines : number + rest_length rest ≤ length text + 2

pub reading-begin : (text : Bor (List ℕ)) (draft : Draft) (course : Course) → Holds nothing_read draft → course ≡ course_of [] → IsReading text.now draft course 1 (Some text)
reading-begin text draft course holds is = record {
  seen = [];
  split = refl;
  right = refl;
  formed = refl;
  course_is = is;
  holds = holds;
  some = omega arith;
  lines = omega arith;
}

-- one line more that is no fault
forbidden-more : (seen : List (Numbered (List ℕ))) (next : Numbered (List ℕ)) → first_passing_line (list_any is_forbidden) seen ≡ None → list_any is_forbidden next.statement ≡ false
    → first_passing_line (list_any is_forbidden) (seen ++ next ∷ []) ≡ None
forbidden-more [] next none right = ap (λ passes. option_map (λ (numbered : Numbered (List ℕ)). numbered.line) (cond passes (Some next) None)) right
forbidden-more (first ∷ rest) next none right = by_first (list_any is_forbidden first.statement) none (λ none. forbidden-more rest next none right)
  where
    by_first : (passes : Bool) → option_map (λ (numbered : Numbered (List ℕ)). numbered.line) (cond passes (Some first) (find (λ numbered. list_any is_forbidden numbered.statement) rest)) ≡ None
        → (first_passing_line (list_any is_forbidden) rest ≡ None → first_passing_line (list_any is_forbidden) (rest ++ next ∷ []) ≡ None)
        → option_map (λ (numbered : Numbered (List ℕ)). numbered.line) (cond passes (Some first) (find (λ numbered. list_any is_forbidden numbered.statement) (rest ++ next ∷ []))) ≡ None
    by_first true none ih = let e : Some first.line ≡ None = none in absurd (let x = e in cc)
    by_first false none ih = ih none

formed-more : (before items : List (Numbered Line)) (next : Numbered Line) → wrong_form_after before items ≡ None → has_wrong_form (before ++ items) next.statement ≡ false
    → wrong_form_after before (items ++ next ∷ []) ≡ None
formed-more before [] next none right = ap (λ wrong. cond wrong (Some next.line) None) (ap (λ before. has_wrong_form before next.statement) (sym (append-nil before)) ∙ right)
formed-more before (first ∷ rest) next none right =
    by_first (has_wrong_form before first.statement) none
    (λ none. formed-more (before ++ first ∷ []) rest next none (ap (λ all. has_wrong_form all next.statement) (append_assoc before (first ∷ []) rest) ∙ right))
  where
    by_first : (wrong : Bool) → cond wrong (Some first.line) (wrong_form_after (before ++ first ∷ []) rest) ≡ None
        → (wrong_form_after (before ++ first ∷ []) rest ≡ None → wrong_form_after (before ++ first ∷ []) (rest ++ next ∷ []) ≡ None)
        → cond wrong (Some first.line) (wrong_form_after (before ++ first ∷ []) (rest ++ next ∷ [])) ≡ None
    by_first true none ih = let e : Some first.line ≡ None = none in absurd (let x = e in cc)
    by_first false none ih = ih none

fold-push : (items : List (Numbered Line)) (next : Numbered Line) (read : Read) → fold with_next read (items ++ next ∷ []) ≡ with_next (fold with_next read items) next
fold-push [] next read = refl
fold-push (first ∷ rest) next read = fold-push rest next (with_next read first)

pub reading-more : (text : List ℕ) (draft new : Draft) (course more : Course) (number : ℕ) (left : Bor (List ℕ)) (tokens : List (Bor (List ℕ))) (joined : JoinedLine) (line : Line) (wrong : Bool)
    → IsReading text draft course number (Some left) → IsJoinedLine left.now tokens joined → joined.lines + rest_length joined.rest ≤ length left.now + 1
    → joined.is_forbidden ≡ false → line ≡ line_of_words (bytes_of tokens) → wrong ≡ false
    → ((before : List (Numbered Line)) → course ≡ course_of before → wrong ≡ has_wrong_form before line)
    → ((before : List (Numbered Line)) (number : ℕ) → course ≡ course_of before → more ≡ course_of (before ++ record { line = number; statement = line } ∷ []))
    → ((read : Read) → Holds read draft → Holds (taking number line (noting number line read)) new)
    → IsReading text new more (number + joined.lines) joined.rest
reading-more text draft new course more number left tokens joined line wrong was is counted clean line_is formed refuses goes taken =
    let next : Numbered (List ℕ) = record { line = number; statement = is.bytes } in
    let told : line ≡ (meant next).statement = line_is ∙ ap line_of_words (sym is.tokens_are) in
    let all : map meant (was.seen ++ next ∷ []) ≡ map meant was.seen ++ record { line = number; statement = line } ∷ [] =
    map-append meant was.seen (next ∷ []) ∙ ap (λ line. map meant was.seen ++ record { line = number; statement = line } ∷ []) (sym told) in
    record {
      seen = was.seen ++ next ∷ [];
      split = was.split ∙ ap (λ lines. was.seen ++ lines) (is.first number) ∙ sym (append_assoc was.seen (next ∷ []) (joined_from (number + joined.lines) (lines_of_rest joined.rest)));
      right = forbidden-more was.seen next was.right (sym is.forbidden ∙ clean);
      formed = ap (wrong_form_after []) all ∙ formed-more [] (map meant was.seen) (record { line = number; statement = line }) was.formed (sym (refuses (map meant was.seen) was.course_is) ∙ formed);
      course_is = goes (map meant was.seen) number was.course_is ∙ ap course_of (sym all);
      holds = subst (λ read. Holds read new) (sym (ap read_of all ∙ fold-push (map meant was.seen) (record { line = number; statement = line }) nothing_read)) (taken (read_of (map meant was.seen)) was.holds);
      some = (let s = was.some in omega (arith, s));
      lines = (let l = was.lines in omega (arith, l, counted));
    }

-- what is left gets shorter
pub left-shorter : (number : ℕ) (left : Bor (List ℕ)) (tokens : List (Bor (List ℕ))) (joined : JoinedLine) → IsJoinedLine left.now tokens joined
    → length (joined_from (number + joined.lines) (lines_of_rest joined.rest)) < length (joined_from number (lines_of left.now))
left-shorter number left tokens joined is = (let e = ap length (is.first number) in omega (arith, e))

-- the counts fit
pub reading-short : (text : List ℕ) (draft : Draft) (course : Course) (number : ℕ) (rest : Option (Bor (List ℕ))) → length text ≤ most_text_bytes → IsReading text draft course number rest → MayGoOn draft
reading-short text draft course number rest small is =
    let before = map meant is.seen in
    let later = map meant (joined_from number (lines_of_rest rest)) in
    let all : lines_in text ≡ before ++ later = ap (map meant) is.split ∙ map-append meant is.seen (joined_from number (lines_of_rest rest)) in
    let room = room-so-far before later in
    let whole = text-room text in
    let same = ap (λ lines. sum_by cover_room (covers_of lines)) all in
    record {
      read = read_of before;
      holds = is.holds;
      short = omega (arith, small, room, whole, same);
    }

pub reading-left : (text : List ℕ) (draft : Draft) (course : Course) (number : ℕ) (left : Bor (List ℕ)) → length text ≤ most_text_bytes → IsReading text draft course number (Some left) → length left.now ≤ most_text_bytes
reading-left text draft course number left small is = (let l = is.lines in let s = is.some in omega (arith, small, l, s))

-- the form of a line is wrong
ascends-behind : {S : Type 0} (low : ℕ) (front : List (Numbered S)) (next : Numbered S) (later : List (Numbered S)) → Ascends low (front ++ next ∷ later) → Ascends next.line (next ∷ later)
ascends-behind low [] next later h = (omega arith, h.1)
ascends-behind low (first ∷ front) next later h = ascends-behind (suc first.line) front next later h.1

clean-before : (seen : List (Numbered (List ℕ))) (one : Numbered (List ℕ)) → first_passing_line (list_any is_forbidden) seen ≡ None → Contains seen one → list_any is_forbidden one.statement ≡ true → ⊥
clean-before [] one none (k, l, is) bad = omega (arith, l)
clean-before (first ∷ rest) one none c bad = by_first (list_any is_forbidden first.statement) refl none (λ none c. clean-before rest one none c bad)
  where
    by_first : (passes : Bool) → list_any is_forbidden first.statement ≡ passes → option_map (λ (numbered : Numbered (List ℕ)). numbered.line) (cond passes (Some first) (find (λ numbered. list_any is_forbidden numbered.statement) rest)) ≡ None
        → (first_passing_line (list_any is_forbidden) rest ≡ None → Contains rest one → ⊥) → ⊥
    by_first true is none ih = let e : Some first.line ≡ None = none in (let x = e in cc)
    by_first false is none ih = elim (one_of first rest one c) [
      | inl here ↦ true-false (sym bad ∙ ap (λ (one : Numbered (List ℕ)). list_any is_forbidden one.statement) (sym here) ∙ is)
      | inr later ↦ ih none later
    ]

formed-before : (before items middle : List (Numbered Line)) (line : ℕ) (it : Line) → wrong_form_after before items ≡ None → Stands items middle line it → has_wrong_form (before ++ middle) it ≡ true → ⊥
formed-before before [] [] line it none s wrong = (let e = s.split in cc e)
formed-before before [] (head ∷ middle) line it none s wrong = (let e = s.split in cc e)
formed-before before (first ∷ rest) middle line it none s wrong = by_first (has_wrong_form before first.statement) refl none middle s wrong (λ none middle s wrong. formed-before (before ++ first ∷ []) rest middle line it none s wrong)
  where
    by_first : (bad : Bool) → has_wrong_form before first.statement ≡ bad → cond bad (Some first.line) (wrong_form_after (before ++ first ∷ []) rest) ≡ None
        → (middle : List (Numbered Line)) → Stands (first ∷ rest) middle line it → has_wrong_form (before ++ middle) it ≡ true
        → (wrong_form_after (before ++ first ∷ []) rest ≡ None → (middle : List (Numbered Line)) → Stands rest middle line it → has_wrong_form ((before ++ first ∷ []) ++ middle) it ≡ true → ⊥) → ⊥
    by_first true is none middle s wrong ih = let e : Some first.line ≡ None = none in (let x = e in cc)
    by_first false is none [] s wrong ih =
        let e = s.split in
        let same : first ≡ record { line = line; statement = it } = cc e in
        true-false (sym wrong ∙ ap (λ before. has_wrong_form before it) (append-nil before) ∙ ap (λ (one : Numbered Line). has_wrong_form before one.statement) (sym same) ∙ is)
    by_first false is none (head ∷ middle) s wrong ih =
        let e = s.split in
        let same : first ≡ head = cc e in
        let later : rest ≡ middle ++ record { line = line; statement = it } ∷ s.after = cc e in
        ih none middle (record { after = s.after; split = later })
        (ap (λ before. has_wrong_form before it) (append_assoc before (first ∷ []) middle) ∙ (ap (λ (one : Numbered Line). has_wrong_form (before ++ one ∷ middle) it) same ∙ wrong))

pub reading-fault : (text : List ℕ) (draft : Draft) (course : Course) (number : ℕ) (left : Bor (List ℕ)) (tokens : List (Bor (List ℕ))) (joined : JoinedLine) (line : Line) (wrong : Bool)
    → IsReading text draft course number (Some left) → IsJoinedLine left.now tokens joined → line ≡ line_of_words (bytes_of tokens)
    → (joined.is_forbidden ≡ true) ⊎ ((wrong ≡ true) × ((before : List (Numbered Line)) → course ≡ course_of before → wrong ≡ has_wrong_form before line))
    → IsLeastFault text (fault.Form number)
reading-fault text draft course number left tokens joined line wrong was is line_is bad =
    let next : Numbered (List ℕ) = record { line = number; statement = is.bytes } in
    let later = joined_from (number + joined.lines) (lines_of_rest joined.rest) in
    let split : joined_lines text ≡ was.seen ++ next ∷ later = was.split ∙ ap (λ lines. was.seen ++ lines) (is.first number) in
    let lines : lines_in text ≡ map meant was.seen ++ meant next ∷ map meant later = ap (map meant) split ∙ map-append meant was.seen (next ∷ later) in
    let told : line ≡ (meant next).statement = line_is ∙ ap line_of_words (sym is.tokens_are) in
    let rest_ascends : Ascends number (next ∷ later) = ascends-behind 1 was.seen next later (subst (Ascends 1) split (joined_lines-ascend text)) in
    let meant_ascends : Ascends number (meant next ∷ map meant later) = ascends-behind 1 (map meant was.seen) (meant next) (map meant later) (subst (Ascends 1) lines (lines_in-ascend text)) in
    record {
      stands = elim bad [
        | inl forbidden ↦ inl (is.bytes, subst (λ all. Contains all next) (sym split) (in-middle was.seen next later), sym is.forbidden ∙ forbidden)
        | inr ill ↦ inr (
          map meant was.seen,
          (meant next).statement,
          record { after = map meant later; split = lines },
          ap (has_wrong_form (map meant was.seen)) (sym told) ∙ (sym (ill.1 (map meant was.seen) was.course_is) ∙ ill.0),
        )
      ];
      least = λ other stands. by_other other stands split lines rest_ascends meant_ascends;
    }
  where
    in-middle : (front : List (Numbered (List ℕ))) (next : Numbered (List ℕ)) (later : List (Numbered (List ℕ))) → Contains (front ++ next ∷ later) next
    in-middle [] next later = (0, omega arith, refl)
    in-middle (first ∷ front) next later = (let c = in-middle front next later in (suc c.0, omega (arith, c.1), c.2))

    no-later : (other : ℕ) (next : Numbered (List ℕ)) (later : List (Numbered (List ℕ))) → next.line ≡ number → joined_lines text ≡ was.seen ++ next ∷ later → lines_in text ≡ map meant was.seen ++ meant next ∷ map meant later
        → Ascends number (next ∷ later) → Ascends number (meant next ∷ map meant later) → HasForbidden text other ⊎ HasWrongForm text other → number ≤ other
    no-later other next later at split lines up meant_up (inl (bytes, c, forbidden)) =
        elim (Contains-append_cases was.seen (next ∷ later) (record { line = other; statement = bytes }) (subst (λ all. Contains all (record { line = other; statement = bytes })) split c)) [
          | inl front ↦ absurd (clean-before was.seen (record { line = other; statement = bytes }) was.right front forbidden)
          | inr back ↦ above (next ∷ later) number (record { line = other; statement = bytes }) up back
        ]
    no-later other next later at split lines up meant_up (inr (before, it, s, ill)) =
        elim (stands-cases (map meant was.seen) (meant next ∷ map meant later) before other it (record { after = s.after; split = sym lines ∙ s.split })) [
          | inl front ↦ absurd (formed-before [] (map meant was.seen) before other it was.formed front ill)
          | inr back ↦ above (meant next ∷ map meant later) number (record { line = other; statement = it }) meant_up (stands-contained (meant next ∷ map meant later) back.0 other it back.2)
        ]

    by_other : (other : BlifFault) → HasFault text other → joined_lines text ≡ was.seen ++ record { line = number; statement = is.bytes } ∷ joined_from (number + joined.lines) (lines_of_rest joined.rest)
        → lines_in text ≡ map meant was.seen ++ meant (record { line = number; statement = is.bytes }) ∷ map meant (joined_from (number + joined.lines) (lines_of_rest joined.rest))
        → Ascends number (record { line = number; statement = is.bytes } ∷ joined_from (number + joined.lines) (lines_of_rest joined.rest))
        → Ascends number (meant (record { line = number; statement = is.bytes }) ∷ map meant (joined_from (number + joined.lines) (lines_of_rest joined.rest)))
        → (1 < blif_fault_number other) ⊎ ((1 ≡ blif_fault_number other) × (number ≤ blif_fault_line other))
    by_other (fault.Form line) stands split lines up meant_up = inr (refl, no-later line (record { line = number; statement = is.bytes }) (joined_from (number + joined.lines) (lines_of_rest joined.rest)) refl split lines up meant_up stands)
    by_other (fault.Name line) stands split lines up meant_up = inl (omega arith)
    by_other (fault.Construct line) stands split lines up meant_up = inl (omega arith)
    by_other (fault.Twice line first) stands split lines up meant_up = inl (omega arith)
    by_other (fault.Cover line) stands split lines up meant_up = inl (omega arith)
    by_other (fault.Pins line count) stands split lines up meant_up = inl (omega arith)
    by_other (fault.Constant line) stands split lines up meant_up = inl (omega arith)
    by_other (fault.Undefined line) stands split lines up meant_up = inl (omega arith)
    by_other (fault.TooMany variables) stands split lines up meant_up = inl (omega arith)
    by_other fault.Memory stands split lines up meant_up = absurd stands
