-- Orders that are found, one assumption after the other, and those of them that are used.
use Rattle.std.proofs.Common.{◌≡◌, ℕ, suc, ◌+◌, ◌<◌, ◌≤◌, Bool, List, [], ◌∷◌, ◌++◌, length, take, get_or, refl, sym, ap, ◌∙◌, subst, inl, inr, arith, append_assoc, append-nil, true, false, eqb, All, IsTrue}
use Rattle.hz_edge_reports.proofs.Words.{eqb-true, All-nil, Netlist, IsCircuit, Driver, network_of, Order, IsInductiveUnder, AreTabled, Assumption, IsAssumptionOf, Word, AreFound}
use Rattle.hz_edge_reports.proofs.Words.{AreUsed}
use Rattle.std.proofs.lemmas.List.{take_more}
use Rattle.std.proofs.lemmas.List.Elements.{All-cons, All-append, All-head, All-tail, All-weaker}
use Rattle.hz_net.specs.Reads.{IsWireInto, Reads}
use Rattle.hz_net.proofs.Wired.{wired-network_of}
use Rattle.hz_free.proofs.Chains.{reads-inside}
use Rattle.hz_orders.specs.Orders.{IsOrderOf, IsUsed}
use Rattle.hz_timing.specs.declared.script.Assumption.TheVariants as assumed
use Rattle.hz_edge_reports.specs.declared.using.Known.{Known}
use Rattle.hz_edge_reports.specs.UsedOrders.{FollowsFrom}
use Rattle.hz_edge_reports.specs.Using.{AddsFound}

module _ (net : List Driver) (input start : List Bool) where
  -- what is used by earlier assumptions, and then by later ones, is used by all
  pub used-append : (earlier later : List Assumption) (used more : List Order) (idle rest : ℕ) → AreFound net input start earlier used idle → AreFound net input start later more rest →
      AreFound net input start (earlier ++ later) (used ++ more) (idle + rest)
  used-append [] later used more idle rest are then =
      subst (λ (orders : List Order). AreFound net input start later (orders ++ more) (idle + rest)) (sym are.0)
      (subst (λ (n : ℕ). AreFound net input start later more n) (none rest ∙ ap (λ (n : ℕ). n + rest) (sym are.1)) then)
    where
      none : (n : ℕ) → n ≡ 0 + n
      none n = omega arith
  used-append (assumed.Order order ∷ earlier) later used more idle rest are then =
      elim are [
        | inl by ↦ inl (by.0, (by.1.0 ++ more, ap (λ (orders : List Order). orders ++ more) by.1.1, used-append earlier later by.1.0 more idle rest by.1.2 then))
        | inr idles ↦ inr (idles.0, (idles.1.0 + rest, one-more idle idles.1.0 idles.1.1, used-append earlier later used more idles.1.0 rest idles.1.2 then))
      ]
    where
      one-more : (n m : ℕ) → n ≡ suc m → n + rest ≡ suc (m + rest)
      one-more n m e = omega arith
  used-append (assumed.Ideal wire ∷ earlier) later used more idle rest are then =
      (are.0, are.1 ++ more, ap (λ (orders : List Order). orders ++ more) are.2 ∙ append_assoc are.0 are.1 more, are.3, used-append earlier later are.1 more idle rest are.4 then)

-- a wire into a gate is a variable
pub wire-inside : (netlist : Netlist) (gate wire : ℕ) → IsCircuit netlist → IsWireInto (network_of netlist) gate wire → wire < length (network_of netlist)
wire-inside netlist gate wire circuit into =
    reads-inside (network_of netlist) gate wire (wired-network_of netlist circuit) (subst (λ (driver : Driver). Reads driver wire) (sym into.driven) (into.above, into.below))

-- by one assumption at most one order is idle
one-idle : (net : List Driver) (input start : List Bool) (given : Assumption) (own : List Order) (idle : ℕ) → AreFound net input start (given ∷ []) own idle → idle ≤ 1
one-idle net input start (assumed.Order order) own idle are =
    elim are [
      | inl by ↦ none idle by.1.2.1
      | inr idles ↦ one idle idles.1.0 idles.1.1 idles.1.2.1
    ]
  where
    none : (n : ℕ) → n ≡ 0 → n ≤ 1
    none n e = omega arith

    one : (n m : ℕ) → n ≡ suc m → m ≡ 0 → n ≤ 1
    one n m e z = omega arith
one-idle net input start (assumed.Ideal wire) own idle are = none idle are.4.1
  where
    none : (n : ℕ) → n ≡ 0 → n ≤ 1
    none n e = omega arith

pub few-idle : (known : Known) (given : Assumption) (old new : List Order) (idle : ℕ) → AddsFound known given old new idle → idle ≤ 1
few-idle known given old new idle adds = one-idle (network_of known.net.now) known.input.now known.start.now given adds.own idle adds.are_found

-- one assumption more
pub used-more : (known : Known) (assumptions : List Assumption) (i : ℕ) (d : Assumption) (old new : List Order) (idle one : ℕ) → i < length assumptions →
    AreFound (network_of known.net.now) known.input.now known.start.now (take i assumptions) old idle → AddsFound known (get_or assumptions i d) old new one →
    AreFound (network_of known.net.now) known.input.now known.start.now (take (i + 1) assumptions) new (idle + one)
used-more known assumptions i d old new idle one inside are adds =
    let net : List Driver = network_of known.net.now in
    subst (λ (done : List Assumption). AreFound net known.input.now known.start.now done new (idle + one)) (sym (take_more assumptions i d inside))
    (subst (λ (orders : List Order). AreFound net known.input.now known.start.now (take i assumptions ++ get_or assumptions i d ∷ []) orders (idle + one)) (sym adds.grown)
    (used-append net known.input.now known.start.now (take i assumptions) (get_or assumptions i d ∷ []) old adds.own idle one are adds.are_found))

-- an order that is used, and one that is idle
pub used-order : (known : Known) (order : Order) (old new : List Order) → new ≡ old ++ order ∷ [] → IsUsed (network_of known.net.now) known.input.now known.start.now order → AddsFound known (assumed.Order order) old new 0
used-order known order old new grown is = record {
  own = order ∷ [];
  grown = grown;
  are_found = inl (is, ([], refl, (refl, refl)));
}

pub idle-order : (known : Known) (order : Order) (old : List Order) → (IsUsed (network_of known.net.now) known.input.now known.start.now order → ⊥) → AddsFound known (assumed.Order order) old old 1
idle-order known order old not_so = record {
  own = [];
  grown = sym (append-nil old);
  are_found = inr (not_so, (0, refl, (refl, refl)));
}

-- a test that holds does not fail
pub not-both : (test : Bool) → IsTrue test → test ≡ false → ⊥
not-both false holds fails = absurd cc
not-both true holds fails = absurd cc

-- the orders that are found are orders of the network
pub found-orders : (netlist : Netlist) (input start : List Bool) (assumptions : List Assumption) (found : List Order) (idle : ℕ) → All (IsAssumptionOf netlist) assumptions → AreFound (network_of netlist) input start assumptions found idle → All (IsOrderOf (network_of netlist)) found
found-orders netlist input start [] found idle all (none, no_idle) = subst (All (IsOrderOf (network_of netlist))) (sym none) (All-nil (IsOrderOf (network_of netlist)))
found-orders netlist input start (assumed.Order order ∷ later) found idle all (inl (is_used, (rest, is, more))) =
    subst (All (IsOrderOf (network_of netlist))) (sym is)
    (All-cons (IsOrderOf (network_of netlist)) order rest (All-head (IsAssumptionOf netlist) (assumed.Order order) later all).0
    (found-orders netlist input start later rest idle (All-tail (IsAssumptionOf netlist) (assumed.Order order) later all) more))
found-orders netlist input start (assumed.Order order ∷ later) found idle all (inr (not_used, (rest, is, more))) =
    found-orders netlist input start later found rest (All-tail (IsAssumptionOf netlist) (assumed.Order order) later all) more
found-orders netlist input start (assumed.Ideal wire ∷ later) found idle all (own, rest, is, follows, more) =
    subst (All (IsOrderOf (network_of netlist))) (sym is)
    (All-append (IsOrderOf (network_of netlist)) own rest
    (All-weaker (FollowsFrom (network_of netlist) input start wire) (IsOrderOf (network_of netlist)) (λ order from. from.is_order) own follows)
    (found-orders netlist input start later rest idle (All-tail (IsAssumptionOf netlist) (assumed.Ideal wire) later all) more))

-- by words that are told of the change the orders that are found come to those that are used
pub used-told : (net : List Driver) (input start : List Bool) (cap : ℕ) (assumptions : List Assumption) (told : List Word) (found used : List Order) (idle : ℕ) → AreFound net input start assumptions found idle → AreTabled net told found used → IsInductiveUnder used net input start cap told →
    AreUsed net input start cap assumptions told used idle
used-told net input start cap assumptions told found used idle are_found tabled inductive = record {
  found = found;
  are_found = are_found;
  words = told;
  tabled = tabled;
  inductive = inductive;
  are_told = λ some. refl;
}

-- if none is used, the words may be others
pub none-used : (net : List Driver) (input start : List Bool) (cap : ℕ) (assumptions : List Assumption) (words told : List Word) (found used : List Order) (idle : ℕ) → AreFound net input start assumptions found idle → used ≡ [] → AreTabled net words found [] → IsInductiveUnder [] net input start cap words →
    AreUsed net input start cap assumptions told used idle
none-used net input start cap assumptions words told found used idle are_found none tabled inductive = record {
  found = found;
  are_found = are_found;
  words = words;
  tabled = subst (AreTabled net words found) (sym none) tabled;
  inductive = subst (λ (orders : List Order). IsInductiveUnder orders net input start cap words) (sym none) inductive;
  are_told = λ some. absurd (some none);
}

-- if none is found, none is used
pub none-found : (net : List Driver) (input start : List Bool) (cap : ℕ) (assumptions : List Assumption) (words told : List Word) (found : List Order) (idle : ℕ) → AreFound net input start assumptions found idle → found ≡ [] → IsInductiveUnder [] net input start cap words →
    AreUsed net input start cap assumptions told found idle
none-found net input start cap assumptions words told found idle are none inductive =
    none-used net input start cap assumptions words told found found idle are none (subst (λ (list : List Order). AreTabled net words list []) (sym none) refl) inductive

-- if nothing is assumed, none is found
pub none-assumed : (net : List Driver) (input start : List Bool) (cap : ℕ) (assumptions : List Assumption) (words told : List Word) (found : List Order) (idle : ℕ) → assumptions ≡ [] → found ≡ [] → idle ≡ 0 → IsInductiveUnder [] net input start cap words → AreUsed net input start cap assumptions told found idle
none-assumed net input start cap assumptions words told found idle nothing none no_idle inductive =
    none-found net input start cap assumptions words told found idle
    (subst (λ (list : List Assumption). AreFound net input start list found idle) (sym nothing) (none, no_idle)) none inductive

-- a list of orders that is empty
pub no-order : (orders : List Order) → length orders ≡ 0 → orders ≡ []
no-order [] none = refl
no-order (order ∷ orders) none = absurd (omega (arith, none))

-- and one of assumptions
pub no-assumption : (assumptions : List Assumption) → true ≡ eqb (length assumptions) 0 → assumptions ≡ []
no-assumption [] none = refl
no-assumption (one ∷ assumptions) none = let is : length (one ∷ assumptions) ≡ 0 = eqb-true (length (one ∷ assumptions)) 0 (sym none) in absurd (omega (arith, is))
