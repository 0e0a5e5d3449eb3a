-- The digits of a number and of the next one, at the end of ten bytes.
use Rattle.std.proofs.Common.{◌≡◌, ◌≢◌, ◌∙◌, ap, refl, sym, get_or, ℕ, ◌+◌, ◌-◌, ◌/◌, ◌%◌, ◌^◌, ◌<◌, ◌≤◌, List, [], ◌∷◌, ◌++◌, length, length-append, drop, take, set, decimal, arith}
use Rattle.std.proofs.lemmas.Fmt.{decimal_step}
use Rattle.std.proofs.lemmas.List.{get_or-drop, get_or_at, length-drop, drop-set-add, drop-append-le, take_all}
use Rattle.std.proofs.Math.Seq.{set-append_seam}

-- the last digit of a number
module _ (n begin : ℕ) (bytes : List ℕ) (many : 10 ≤ n) (small : n + 1 < 2 ^ 64) (few : begin ≤ 10) (room : length bytes ≡ 10) (is : drop begin bytes ≡ decimal n) where
  abbrev front : List ℕ
  front = decimal (n / 10)

  parts : drop begin bytes ≡ front ++ (48 + n % 10) ∷ []
  parts = is ∙ decimal_step n many (omega (arith, small))

  there : begin + length front ≡ 9
  there =
      let long : length front + 1 ≡ 10 - begin =
      sym (length-append front ((48 + n % 10) ∷ [])) ∙ ap (length {A = ℕ}) (sym parts) ∙ length-drop begin bytes ∙ ap (λ (k : ℕ). k - begin) room in
      omega (arith, long, few)

  pub last-digit : (d : ℕ) → get_or bytes 9 d ≡ 48 + n % 10
  last-digit d =
      ap (λ (k : ℕ). get_or bytes k d) (sym there) ∙ sym (get_or-drop begin bytes (length front) d)
      ∙ ap (λ (list : List ℕ). get_or list (length front) d) parts ∙ get_or_at front (48 + n % 10) [] d (length front) refl

  -- the next number, if it ends in another digit than 0
  pub next-digits : n % 10 ≢ 9 → drop begin (set bytes 9 (48 + n % 10 + 1)) ≡ decimal (n + 1)
  next-digits other =
      let tens : n / 10 ≡ (n + 1) / 10 = omega (arith, other) in
      let last : 48 + n % 10 + 1 ≡ 48 + (n + 1) % 10 = omega (arith, other) in
      ap (λ (k : ℕ). drop begin (set bytes k (48 + n % 10 + 1))) (sym there)
      ∙ drop-set-add begin bytes (length front) (48 + n % 10 + 1)
      ∙ ap (λ (list : List ℕ). set list (length front) (48 + n % 10 + 1)) parts
      ∙ set-append_seam front (48 + n % 10) [] (48 + n % 10 + 1)
      ∙ ap (λ (k : ℕ). decimal k ++ (48 + n % 10 + 1) ∷ []) tens
      ∙ ap (λ (k : ℕ). decimal ((n + 1) / 10) ++ k ∷ []) last
      ∙ sym (decimal_step (n + 1) (omega (arith, many)) small)

-- digits at the end of ten bytes, in front of a text
pub digits-in-front : (begin : ℕ) (bytes digits rest : List ℕ) → begin ≤ 10 → length bytes ≡ 10 → drop begin bytes ≡ digits → drop begin (take 10 bytes ++ rest) ≡ digits ++ rest
digits-in-front begin bytes digits rest few room is =
    let whole : take 10 bytes ≡ bytes = take_all 10 bytes (omega (arith, room)) in
    rw whole (drop-append-le begin bytes rest (omega (arith, few, room)) ∙ ap (λ (list : List ℕ). list ++ rest) is)
