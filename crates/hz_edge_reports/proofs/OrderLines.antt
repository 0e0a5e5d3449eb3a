-- Lines that are there only if orders are used, or if something is assumed.
use Rattle.std.proofs.Common.{◌≡◌, ◌∙◌, ℕ, Bool, true, false, List, [], ◌∷◌, length, eqb, refl, sym, arith}
use Rattle.hz_edge_reports.proofs.Words.{eqb-true, Order, Assumption, ChangeOf}
use Rattle.std.proofs.lemmas.Bool.{eq-eqb, false≢true}
use Rattle.hz_edge_reports.specs.EdgeText.{kept_line, kept_text, orders_line, orders_text, shown_run}

-- a list with an item is not empty
not-empty : {X : Type 0} (item : X) (items : List X) → true ≡ eqb (length (item ∷ items)) 0 → ⊥
not-empty item items none = let is : length (item ∷ items) ≡ 0 = eqb-true (length (item ∷ items)) 0 (sym none) in absurd (omega (arith, is))

-- a list without one is
not-some : false ≡ eqb 0 0 → ⊥
not-some some = false≢true (some ∙ eq-eqb 0 0 refl)

pub no-orders : (used : List Order) (kept : Bool) → true ≡ eqb (length used) 0 → [] ≡ kept_text used kept
no-orders [] kept none = refl
no-orders (order ∷ orders) kept none = absurd (not-empty order orders none)

pub some-orders : (used : List Order) (kept : Bool) → false ≡ eqb (length used) 0 → kept_line kept ≡ kept_text used kept
some-orders [] kept some = absurd (not-some some)
some-orders (order ∷ orders) kept some = refl

pub none-assumed : (assumptions : List Assumption) (found : ChangeOf) → true ≡ eqb (length assumptions) 0 → [] ≡ orders_text assumptions found
none-assumed [] found none = refl
none-assumed (one ∷ assumptions) found none = absurd (not-empty one assumptions none)

pub some-assumed : (assumptions : List Assumption) (found : ChangeOf) → false ≡ eqb (length assumptions) 0 → orders_line (length found.used) found.idle ≡ orders_text assumptions found
some-assumed [] found some = absurd (not-some some)
some-assumed (one ∷ assumptions) found some = refl

-- the run is shown without orders
pub free-run : (used : List Order) (kept : Bool) (text : List ℕ) → true ≡ eqb (length used) 0 → text ≡ shown_run used kept text
free-run [] kept text none = refl
free-run (order ∷ orders) kept text none = absurd (not-empty order orders none)

-- or if it keeps them
pub kept-run : (used : List Order) (kept : Bool) (text : List ℕ) → kept ≡ true → text ≡ shown_run used kept text
kept-run [] kept text is = refl
kept-run (order ∷ orders) true text is = refl
kept-run (order ∷ orders) false text is = absurd (false≢true is)

-- else it is not
pub hidden-run : (used : List Order) (kept : Bool) (text : List ℕ) → false ≡ eqb (length used) 0 → kept ≡ false → [] ≡ shown_run used kept text
hidden-run [] kept text some is = absurd (not-some some)
hidden-run (order ∷ orders) false text some is = refl
hidden-run (order ∷ orders) true text some is = absurd (false≢true (sym is))
