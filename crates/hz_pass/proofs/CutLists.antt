-- The lists of cuts by their data nodes: that a cut more keeps what is known of them.
use Rattle.std.proofs.Common.{◌≡◌, ◌≢◌, ◌∙◌, ℕ, zero, suc, ◌+◌, ◌<◌, ◌≤◌, Bool, Option, Some, None, List, [], ◌∷◌, ◌++◌, length, map, take, drop, get_or, set, replicate, slice_get, All, refl, sym, ap, subst, arith, inl, inr, Vec, Global}
use Rattle.std.specs.Prelude.{Contains}
use Rattle.std.proofs.lemmas.Bool.{cases_eq}
use Rattle.std.proofs.lemmas.List.{take_all, drop_all, append-nil, map-set, get_or-map, get_or-set_same, get_or-set_other, length-set, length-replicate}
use Rattle.std.proofs.lemmas.List.Elements.{All-nil, All-push, Contains-append_left, Contains-push}
use Rattle.hz_core.specs.Netlist.{Netlist, IsCutNumber, primary_inputs, data_of}
use Rattle.hz_pass.specs.CutLists.{cuts_at, IsDataOf, AreDataCutsBelow, AreByData}

-- what a push into one list makes of all
pub filed-push :
    (lists : List (Vec ℕ Global)) (node cut : ℕ) (old new : Vec ℕ Global) → node < length lists →
    new.items ≡ (get_or lists node old).items ++ cut ∷ [] →
    map (λ (list : Vec ℕ Global). list.items) (set lists node new) ≡
    set (map (λ (list : Vec ℕ Global). list.items) lists) node (cuts_at (map (λ (list : Vec ℕ Global). list.items) lists) node ++ cut ∷ [])
filed-push lists node cut old new within pushed =
    let items : Vec ℕ Global → List ℕ = λ list. list.items in
    map-set items lists node new ∙
    ap (set (map items lists) node) (pushed ∙ ap (λ cuts. cuts ++ cut ∷ []) (sym (get_or-map items lists node old [] within)))

-- empty lists have no cut
none_at : (count node : ℕ) → cuts_at (replicate count []) node ≡ []
none_at zero node = refl
none_at (suc count) zero = refl
none_at (suc count) (suc node) = none_at count node

pub filed-begin : (netlist : Netlist) (lists : List (List ℕ)) (first : ℕ) → lists ≡ replicate (length netlist.names) [] → first ≡ primary_inputs netlist → AreDataCutsBelow netlist lists first
filed-begin netlist lists first empty is =
    let none : (node : ℕ) → cuts_at lists node ≡ [] = λ node. ap (λ all. cuts_at all node) empty ∙ none_at (length netlist.names) node in
    record {
      long = ap length empty ∙ length-replicate (length netlist.names) [];
      sound = λ node. subst (All (IsDataOf netlist node)) (sym (none node)) (All-nil (IsDataOf netlist node));
      complete = λ node cut here below. absurd (omega (arith, here.is_cut.0, below, is));
    }

-- a cut without a data node is in no list
pub filed-none : (netlist : Netlist) (lists : List (List ℕ)) (cut : ℕ) → data_of netlist cut ≡ None → AreDataCutsBelow netlist lists cut → AreDataCutsBelow netlist lists (cut + 1)
filed-none netlist lists cut none was =
    record {
      long = was.long;
      sound = was.sound;
      complete = λ node other here below. elim (cases_eq other cut) [
        | inl same ↦ (let wrong : Some node ≡ None = sym here.is_data ∙ ap (data_of netlist) same ∙ none in cc)
        | inr differ ↦ was.complete node other here (omega (arith, below, differ))
      ];
    }

-- the next cut goes into the list of its data node
pub filed-more : (netlist : Netlist) (lists new : List (List ℕ)) (node cut : ℕ) → IsDataOf netlist node cut → node < length lists → new ≡ set lists node (cuts_at lists node ++ cut ∷ []) → AreDataCutsBelow netlist lists cut → AreDataCutsBelow netlist new (cut + 1)
filed-more netlist lists new node cut is inside made was =
    let list = cuts_at lists node ++ cut ∷ [] in
    let here : cuts_at new node ≡ list = ap (λ all. cuts_at all node) made ∙ get_or-set_same lists node list [] inside in
    let there : (other : ℕ) → other ≢ node → cuts_at new other ≡ cuts_at lists other = λ other differ. ap (λ all. cuts_at all other) made ∙ get_or-set_other lists node other list [] differ in
    let same_node : (other : ℕ) → IsDataOf netlist other cut → other ≡ node = λ other h. (let e : Some other ≡ Some node = sym h.is_data ∙ is.is_data in cc) in
    record {
      long = ap length made ∙ length-set lists node list ∙ was.long;
      sound = λ other. elim (cases_eq other node) [
        | inl same ↦ subst (λ (n : ℕ). All (IsDataOf netlist n) (cuts_at new n)) (sym same) (subst (All (IsDataOf netlist node)) (sym here) (All-push (IsDataOf netlist node) (cuts_at lists node) cut (was.sound node) is))
        | inr differ ↦ subst (All (IsDataOf netlist other)) (sym (there other differ)) (was.sound other)
      ];
      complete = λ other found h below. elim (cases_eq other node) [
        | inl same ↦ subst (λ (n : ℕ). Contains (cuts_at new n) found) (sym same) (subst (λ cuts. Contains cuts found) (sym here) (elim (cases_eq found cut) [
          | inl it ↦ subst (Contains list) (sym it) (Contains-push (cuts_at lists node) cut)
          | inr earlier ↦ Contains-append_left (cuts_at lists node) (cut ∷ []) found (was.complete node found (subst (λ (n : ℕ). IsDataOf netlist n found) same h) (omega (arith, below, earlier)))
        ]))
        | inr differ ↦ subst (λ cuts. Contains cuts found) (sym (there other differ)) (was.complete other found h
            (elim (cases_eq found cut) [
              | inl it ↦ absurd (differ (same_node other (subst (IsDataOf netlist other) it h)))
              | inr earlier ↦ omega (arith, below, earlier)
            ]))
      ];
    }

-- where all cuts were filed, they are by their data nodes
pub by_data-filed : (netlist : Netlist) (listed : List (Option Bool)) (lists : List (List ℕ)) → AreDataCutsBelow netlist lists netlist.inputs → AreByData netlist listed lists
by_data-filed netlist listed lists filed =
    record { sound = filed.sound; complete = λ node cut is unlisted. filed.complete node cut is is.is_cut.1 }

-- where each cut is listed, no list is needed
pub by_data-listed : (netlist : Netlist) (listed : List (Option Bool)) (lists : List (List ℕ)) → lists ≡ [] → ((cut : ℕ) → IsCutNumber netlist cut → slice_get listed cut ≢ Some None) → AreByData netlist listed lists
by_data-listed netlist listed lists none all =
    record {
      sound = λ node. subst (λ cuts. All (IsDataOf netlist node) (cuts_at cuts node)) (sym none) (All-nil (IsDataOf netlist node));
      complete = λ node cut is unlisted. absurd (all cut is.is_cut unlisted);
    }

-- a slice of a whole vector of lists, written back
pub lists_back : (count : ℕ) (new items : List (Vec ℕ Global)) → length new ≡ count → length items ≤ count → take count (new ++ drop (length new) items) ≡ new
lists_back count new items long few =
    ap (λ (rest : List (Vec ℕ Global)). take count (new ++ rest)) (drop_all (length new) items (omega (arith, long, few))) ∙
    (ap (take count) (append-nil new) ∙ take_all count new (omega (arith, long)))
