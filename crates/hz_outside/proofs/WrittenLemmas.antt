-- How the output of a sink grows.
use Rattle.std.proofs.Common.{◌≡◌, ◌∙◌, sym, ap, ℕ, List, [], ◌++◌, take, drop, Option, Some, None, OnOk, OnErr, Ok, Err, Result, refl, append_assoc}
use Rattle.std.proofs.lemmas.List.{take-append-drop, append-nil}
use Rattle.hz_outside.specs.WrittenText.{extended_text, Output, settled, with_more, Took, TookPrefix}

-- a text that grows by nothing stays
pub extended_text-nil : (text : Option (List ℕ)) → extended_text text [] ≡ text
unfolding extended_text
extended_text-nil None = refl
extended_text-nil (Some text) = ap (λ (xs : List ℕ). Some xs) (append-nil text)

-- growing twice is growing by both
pub extended_text-append : (text : Option (List ℕ)) (xs ys : List ℕ) → extended_text text (xs ++ ys) ≡ extended_text (extended_text text xs) ys
unfolding extended_text
extended_text-append None xs ys = refl
extended_text-append (Some text) xs ys = ap (λ (zs : List ℕ). Some zs) (sym (append_assoc text xs ys))

-- what follows from what a success, or a failure, gives
pub on_ok : {A E : Type 0} (P Q : Type 0) (r : Result A E) → (P → Q) → OnOk r P → OnOk r Q
on_ok P Q (Ok _) f h = f h
on_ok P Q (Err _) f h = h

pub on_err : {A E : Type 0} (P Q : Type 0) (r : Result A E) → (P → Q) → OnErr r P → OnErr r Q
on_err P Q (Ok _) f h = h
on_err P Q (Err _) f h = f h

pub on_any_err : {A E : Type 0} (P : Type 0) (r : Result A E) → P → OnErr r P
on_any_err P (Ok _) h = tt
on_any_err P (Err _) h = h

pub on_any_ok : {A E : Type 0} (P : Type 0) (r : Result A E) → P → OnOk r P
on_any_ok P (Ok _) h = h
on_any_ok P (Err _) h = tt

-- nothing was put
pub Took-nothing : (out : Output) → Took out [] out
Took-nothing out = record { front = []; parts = sym (append-nil out.waiting); grew = sym (extended_text-nil out.written) }

-- all of a piece waits
pub Took-waits : (out : Output) (piece : List ℕ) → Took out piece (with_more out piece)
Took-waits out piece = record { front = []; parts = refl; grew = sym (extended_text-nil out.written) }

-- a piece after a piece
pub Took-append : {xs ys : List ℕ} {a b c : Output} → Took a xs b → Took b ys c → Took a (xs ++ ys) c
Took-append {xs} {ys} {a} {b} {c} p q = record {
  front = p.front ++ q.front;
  parts = append_assoc p.front q.front c.waiting ∙ ap (λ (zs : List ℕ). p.front ++ zs) q.parts
      ∙ sym (append_assoc p.front b.waiting ys) ∙ ap (λ (zs : List ℕ). zs ++ ys) p.parts ∙ append_assoc a.waiting xs ys;
  grew = q.grew ∙ ap (λ (text : Option (List ℕ)). extended_text text q.front) p.grew ∙ sym (extended_text-append a.written p.front q.front);
}

-- a prefix of a piece after a piece
pub TookPrefix-append : {xs ys : List ℕ} {a b c : Output} → Took a xs b → TookPrefix b ys c → TookPrefix a (xs ++ ys) c
TookPrefix-append {xs} {ys} {a} {b} {c} p q = record {
  front = p.front ++ q.front;
  rest = q.rest;
  parts = ap (λ (zs : List ℕ). zs ++ q.rest) (append_assoc p.front q.front c.waiting)
      ∙ append_assoc p.front (q.front ++ c.waiting) q.rest ∙ ap (λ (zs : List ℕ). p.front ++ zs) q.parts
      ∙ sym (append_assoc p.front b.waiting ys) ∙ ap (λ (zs : List ℕ). zs ++ ys) p.parts ∙ append_assoc a.waiting xs ys;
  grew = q.grew ∙ ap (λ (text : Option (List ℕ)). extended_text text q.front) p.grew ∙ sym (extended_text-append a.written p.front q.front);
}

-- a prefix is one of every longer piece
pub TookPrefix-longer : {xs : List ℕ} {a b : Output} (more : List ℕ) → TookPrefix a xs b → TookPrefix a (xs ++ more) b
TookPrefix-longer {xs} {a} {b} more p = record {
  front = p.front;
  rest = p.rest ++ more;
  parts = sym (append_assoc (p.front ++ b.waiting) p.rest more) ∙ ap (λ (zs : List ℕ). zs ++ more) p.parts ∙ append_assoc a.waiting xs more;
  grew = p.grew;
}

-- a whole piece is a prefix of itself
pub Took-prefix : {xs : List ℕ} {a b : Output} → Took a xs b → TookPrefix a xs b
Took-prefix {b = b} p = record { front = p.front; rest = []; parts = append-nil (p.front ++ b.waiting) ∙ p.parts; grew = p.grew }

-- what waited apart was put
pub Took-passed : {xs : List ℕ} {a b : Output} → Took a xs b → Took (with_more a xs) [] b
Took-passed {xs} {a} p = record { front = p.front; parts = p.parts ∙ sym (append-nil (a.waiting ++ xs)); grew = p.grew }

pub TookPrefix-passed : {xs : List ℕ} {a b : Output} → TookPrefix a xs b → TookPrefix (with_more a xs) [] b
TookPrefix-passed {xs} {a} p = record { front = p.front; rest = p.rest; parts = p.parts ∙ sym (append-nil (a.waiting ++ xs)); grew = p.grew }

-- what waits apart is kept
pub Took-kept : {a b : Output} (apart : List ℕ) → Took a [] b → Took (with_more a apart) [] (with_more b apart)
Took-kept {a} {b} apart p = record {
  front = p.front;
  parts = sym (append_assoc p.front b.waiting apart) ∙ ap (λ (xs : List ℕ). xs ++ apart) (p.parts ∙ append-nil a.waiting) ∙ sym (append-nil (a.waiting ++ apart));
  grew = p.grew;
}

with_more-nil : (out : Output) (apart : List ℕ) → apart ≡ [] → with_more out apart ≡ out
with_more-nil out apart none = ap (λ (xs : List ℕ). record out { waiting = xs }) (ap (λ (xs : List ℕ). out.waiting ++ xs) none ∙ append-nil out.waiting)

-- nothing waits apart
pub Took-none_apart : {xs : List ℕ} {a b : Output} (apart : List ℕ) → apart ≡ [] → Took a xs b → Took a xs (with_more b apart)
Took-none_apart {b = b} apart none p = rw (with_more-nil b apart none) p

pub TookPrefix-none_apart : {xs : List ℕ} {a b : Output} (apart : List ℕ) → apart ≡ [] → TookPrefix a xs b → TookPrefix a xs (with_more b apart)
TookPrefix-none_apart {b = b} apart none p = rw (with_more-nil b apart none) p

-- a text that is told grows by what is written
pub extended_text-told : (text more : List ℕ) → extended_text (Some text) more ≡ Some (text ++ more)
unfolding extended_text
extended_text-told text more = refl

-- a sink of which nothing ever waits took a piece, or its front
pub Took-at_once : {was now : Option (List ℕ)} (piece : List ℕ) → now ≡ extended_text was piece → Took (settled was) piece (settled now)
Took-at_once piece grew = record { front = piece; parts = append-nil piece; grew = grew }

pub TookPrefix-at_once : {was now : Option (List ℕ)} {piece : List ℕ} (front rest : List ℕ) → front ++ rest ≡ piece → now ≡ extended_text was front
    → TookPrefix (settled was) piece (settled now)
TookPrefix-at_once front rest whole grew = record {
  front = front;
  rest = rest;
  parts = ap (λ (xs : List ℕ). xs ++ rest) (append-nil front) ∙ whole;
  grew = grew;
}

-- a sink that writes at once
pub Took-told : (text piece : List ℕ) → Took (settled (Some text)) piece (settled (Some (text ++ piece)))
unfolding extended_text
Took-told text piece = record { front = piece; parts = append-nil piece; grew = refl }

-- the first bytes of a piece are a prefix of it
pub TookPrefix-take : (text piece : List ℕ) (taken : ℕ) → TookPrefix (settled (Some text)) piece (settled (Some (text ++ take taken piece)))
unfolding extended_text
TookPrefix-take text piece taken = record {
  front = take taken piece;
  rest = drop taken piece;
  parts = ap (λ (zs : List ℕ). zs ++ drop taken piece) (append-nil (take taken piece)) ∙ take-append-drop taken piece;
  grew = refl;
}

-- nothing of a piece was taken
pub TookPrefix-nothing : (out : Output) (piece : List ℕ) → TookPrefix out piece out
TookPrefix-nothing out piece = TookPrefix-longer piece (Took-prefix (Took-nothing out))
