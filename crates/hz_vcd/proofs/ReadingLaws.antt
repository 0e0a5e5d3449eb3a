-- What the parts of the reader say, one after the other.
use Rattle.std.proofs.Common.{◌≡◌, ◌∙◌, ℕ, ◌+◌, ◌≤◌, Bool, List, [], ◌∷◌, ◌++◌, length, Result, Ok, Err, refl, sym, ap, subst, arith, append_assoc, length-append}
use Rattle.std.specs.Prelude.{IsErrAnd, MatchResult}
use Rattle.std.proofs.lemmas.List.Elements.{All-nil}
use Rattle.hz_vcd.specs.Dump.{AreFlips}
use Rattle.hz_vcd.specs.declared.fault.VcdFault.{VcdFault}
use Rattle.hz_vcd.specs.declared.fault.VcdFault.TheVariants as fault
use Rattle.hz_vcd.specs.Reading.{WordsLeft, Ending, Steps, Comes, Goes, Stops, Past, Stuck, Fails, Reads, Means}

-- nothing was read
pub past-none : (ending : Ending) (was : WordsLeft) → Past ending was ending was
past-none ending was = record { front = []; are = refl; counts = omega arith; onward = λ more state steps comes. comes; back = λ more state steps comes. comes }

-- a word was read
pub past-word : (ending : Ending) (was : WordsLeft) (next : Ending) (now : WordsLeft) (word : List ℕ) → was.words ≡ word ∷ now.words → now.read ≡ was.read + 1 → ((more : List (List ℕ)) (state : List Bool) (steps : List (List ℕ)) → Comes ending (word ∷ more) state steps → Comes next more state steps) → ((more : List (List ℕ)) (state : List Bool) (steps : List (List ℕ)) → Comes next more state steps → Comes ending (word ∷ more) state steps) → Past ending was next now
past-word ending was next now word are counts onward back = record { front = word ∷ []; are = are; counts = counts; onward = onward; back = back }

-- words were read, and then more
pub past-past : (a : Ending) (was : WordsLeft) (b : Ending) (mid : WordsLeft) (c : Ending) (now : WordsLeft) → Past a was b mid → Past b mid c now → Past a was c now
past-past a was b mid c now p q = record {
  front = p.front ++ q.front;
  are = p.are ∙ ap (λ (later : List (List ℕ)). p.front ++ later) q.are ∙ sym (append_assoc p.front q.front now.words);
  counts = omega (arith, p.counts, q.counts, length-append p.front q.front);
  onward = λ more state steps comes. q.onward more state steps (p.onward (q.front ++ more) state steps (subst (λ (words : List (List ℕ)). Comes a words state steps) (append_assoc p.front q.front more) comes));
  back = λ more state steps comes. subst (λ (words : List (List ℕ)). Comes a words state steps) (sym (append_assoc p.front q.front more)) (p.back (q.front ++ more) state steps (q.back more state steps comes));
}

past-stops : (a : Ending) (was : WordsLeft) (b : Ending) (mid : WordsLeft) (p : Past a was b mid) (front after : List (List ℕ)) → Stops b front after → Stops a (p.front ++ front) after
past-stops a was b mid p front [] stops = λ state steps comes.
    stops state steps (p.onward (front ++ []) state steps (subst (λ (words : List (List ℕ)). Comes a words state steps) (append_assoc p.front front []) comes))
past-stops a was b mid p front (word ∷ after) stops = λ more state steps comes.
    stops more state steps (p.onward (front ++ word ∷ more) state steps (subst (λ (words : List (List ℕ)). Comes a words state steps) (append_assoc p.front front (word ∷ more)) comes))

-- words were read, and then there was a fault
pub past-fails : (a : Ending) (was : WordsLeft) (b : Ending) (mid : WordsLeft) (why : VcdFault) → Past a was b mid → Fails b mid why → Fails a was why
past-fails a was b mid (fault.Form token) p q = record {
  front = p.front ++ q.front;
  after = q.after;
  are = p.are ∙ ap (λ (later : List (List ℕ)). p.front ++ later) q.are ∙ sym (append_assoc p.front q.front q.after);
  place = omega (arith, p.counts, q.place, length-append p.front q.front);
  goes = (
    q.goes.0,
    q.goes.1,
    q.goes.2,
    subst (λ (words : List (List ℕ)). Comes a words q.goes.1 q.goes.2) (sym (append_assoc p.front q.front q.goes.0)) (p.back (q.front ++ q.goes.0) q.goes.1 q.goes.2 q.goes.3),
  );
  stops = past-stops a was b mid p q.front q.after q.stops;
}
past-fails a was b mid fault.Memory p q = tt

-- words were read, and what comes of the rest comes of all
pub past-reads : (a : Ending) (was : WordsLeft) (b : Ending) (mid : WordsLeft) (c : Ending) (now : WordsLeft) (result : Result (Unit {0}) VcdFault) → Past a was b mid → Reads b mid c now result → Reads a was c now result
past-reads a was b mid c now (Ok done) p q = past-past a was b mid c now p q
past-reads a was b mid c now (Err why) p q = past-fails a was b mid why p q

-- the next word is wrong
pub wrong-word : (ending : Ending) (was : WordsLeft) (word : List ℕ) (later : List (List ℕ)) (number : ℕ) → was.words ≡ word ∷ later → number ≡ was.read + 1 → Goes ending [] → ((more : List (List ℕ)) (state : List Bool) (steps : List (List ℕ)) → Comes ending (word ∷ more) state steps → ⊥) → Stuck ending was number
wrong-word ending was word later number are place goes stops = record { front = []; after = word ∷ later; are = are; place = omega (arith, place); goes = goes; stops = stops }

-- there is no next word
pub wrong-end : (ending : Ending) (was : WordsLeft) (number : ℕ) → was.words ≡ [] → number ≡ was.read + 1 → Goes ending [] → ((state : List Bool) (steps : List (List ℕ)) → Comes ending [] state steps → ⊥) → Stuck ending was number
wrong-end ending was number none place goes stops = record { front = []; after = []; are = none; place = omega (arith, place); goes = goes; stops = stops }

-- a fault that is passed on
pub reads-exit : (why : VcdFault) (a : Ending) (was : WordsLeft) (c : Ending) (now : WordsLeft) (result : Result (Unit {0}) VcdFault) → IsErrAnd result (λ passed. passed ≡ why) → Fails a was why → Reads a was c now result
reads-exit why a was c now (Ok done) is fails = absurd is
reads-exit why a was c now (Err passed) is fails = subst (Fails a was) (sym is) fails

-- no more words are left than before
pub past-shorter : (a : Ending) (was : WordsLeft) (b : Ending) (now : WordsLeft) → Past a was b now → length now.words ≤ length was.words
past-shorter a was b now p = omega (arith, ap length p.are, length-append p.front now.words)

-- an ending that is there
pub some-goes : Goes (Steps 0 []) []
some-goes = ([], [], [], (refl, All-nil (AreFlips 0), refl))

-- the same where a value is read
pub match-exit : {T : Type 0} (why : VcdFault) (a : Ending) (was : WordsLeft) (read : T → Type 0) (result : Result T VcdFault) → IsErrAnd result (λ passed. passed ≡ why) → Fails a was why → MatchResult result read (Fails a was)
match-exit why a was read (Ok value) is fails = absurd is
match-exit why a was read (Err passed) is fails = subst (Fails a was) (sym is) fails

-- what the words behind mean, all of them mean
pub past-means : (a : Ending) (was : WordsLeft) (b : Ending) (now : WordsLeft) (state : List Bool) (steps : List (List ℕ)) → Past a was b now → Means b now state steps → Means a was state steps
past-means a was b now state steps p m = record {
  is = subst (λ (words : List (List ℕ)). Comes a words state steps) (sym p.are) (p.back now.words state steps m.is);
  alone = λ other others comes. m.alone other others (p.onward now.words other others (subst (λ (words : List (List ℕ)). Comes a words other others) p.are comes));
}

-- any fault that is passed on
pub any-exit : {T : Type 0} (why : VcdFault) (read : T → Type 0) (is_fault : VcdFault → Type 0) (result : Result T VcdFault) → IsErrAnd result (λ passed. passed ≡ why) → is_fault why → MatchResult result read is_fault
any-exit why read is_fault (Ok value) is fails = absurd is
any-exit why read is_fault (Err passed) is fails = subst is_fault (sym is) fails

-- words were read, and what the rest means or what is wrong in it is so of all
pub match-past : {T : Type 0} (a : Ending) (was : WordsLeft) (b : Ending) (now : WordsLeft) (state : List Bool) (steps_of : T → List (List ℕ)) (result : Result T VcdFault) → Past a was b now → MatchResult result (λ run. Means b now state (steps_of run)) (Fails b now) → MatchResult result (λ run. Means a was state (steps_of run)) (Fails a was)
match-past a was b now state steps_of (Ok run) past means = past-means a was b now state (steps_of run) past means
match-past a was b now state steps_of (Err why) past fails = past-fails a was b now why past fails
