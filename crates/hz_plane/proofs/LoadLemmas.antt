-- What one lane lists, and what all others list, as items are written one after the other.
use Rattle.std.proofs.Common.{◌≡◌, ◌≢◌, ℕ, zero, suc, set, ◌+◌, ◌-◌, ◌<◌, ◌≤◌, Bool, true, false, Option, Some, None, List, [], ◌∷◌, ◌++◌, length, map, take, drop, get_or, replicate, slice_get, refl, sym, ap, ◌∙◌, subst, arith, inl, inr, add-one}
use Rattle.std.specs.Prelude.{if◌then◌else◌}
use Rattle.std.specs.List.{fold, range_with_len}
use Rattle.std.proofs.lemmas.Bool.{cases_eq}
use Rattle.std.proofs.lemmas.List.{length-map, map-set, get_or-map, get_or-set_same, get_or-set_other, set-get_or, length-set, length-replicate, get_or-replicate, get_or-append_right, get_or-drop, length-drop, take-append-drop, ext_get_or, take_more, take_all, drop_all, append-nil}
use Rattle.std.proofs.lemmas.List.Sums.{fold-append}
use Rattle.std.proofs.lemmas.Option.{slice_get_within, get_or_from_slice_get}
use Rattle.std.proofs.lemmas.List.FromFn.{length-range_with_len, get_or-range_with_len}
use Rattle.hz_plane.specs.declared.listing.Listing.{Listing}
use Rattle.hz_plane.specs.Bits.{has_lane}
use Rattle.hz_plane.specs.Loads.{Loaded, LaneLoads, lane_input, lane_listed, lane_load, lane_loads, held_at, listed_with}
use Rattle.hz_plane.proofs.LaneSets.{empty-set}

-- the next item of a list that is written over the beginning of another
put-suc : {X : Type 0} (target old : List X) (i : ℕ) (d : X) → i < length target → length target ≤ length old → set (take i target ++ drop i old) i (get_or target i d) ≡ take (suc i) target ++ drop (suc i) old
put-suc [] old i d inside few = absurd (omega (arith, inside))
put-suc (x ∷ target) [] i d inside few = absurd (omega (arith, few))
put-suc (x ∷ target) (y ∷ old) zero d inside few = refl
put-suc (x ∷ target) (y ∷ old) (suc i) d inside few = ap (λ list. x ∷ list) (put-suc target old i d (omega (arith, inside)) (omega (arith, few)))

pub put-next : {X : Type 0} (target old now : List X) (i : ℕ) (value d : X) → i < length target → length target ≤ length old → now ≡ take i target ++ drop i old → value ≡ get_or target i d → set now i value ≡ take (i + 1) target ++ drop (i + 1) old
put-next target old now i value d inside few is at =
    let next : set now i value ≡ take (suc i) target ++ drop (suc i) old = ap (λ list. set list i value) is ∙ (ap (set (take i target ++ drop i old) i) at ∙ put-suc target old i d inside few) in
    subst (λ (n : ℕ). set now i value ≡ take n target ++ drop n old) (sym (add-one i)) next

-- items shown as values: an item is written that shows the next value
pub written : {X Y : Type 0} (show : X → Y) (target : List Y) (first items : List X) (i : ℕ) (item : X) (d : Y) → i < length target → length target ≤ length first →
    map show items ≡ take i target ++ drop i (map show first) → show item ≡ get_or target i d → map show (set items i item) ≡ take (i + 1) target ++ drop (i + 1) (map show first)
written show target first items i item d inside few is at =
    map-set show items i item ∙ put-next target (map show first) (map show items) i (show item) d inside (omega (arith, few, length-map first show)) is at

-- an item that shows the same leaves what all show
pub unwritten : {X Y : Type 0} (show : X → Y) (items : List X) (i : ℕ) (item was : X) (d : Y) → i < length items → show item ≡ show (get_or items i was) → map show (set items i item) ≡ map show items
unwritten show items i item was d inside same =
    map-set show items i item ∙
    (ap (set (map show items) i) (same ∙ sym (get_or-map show items i was d inside)) ∙ set-get_or (map show items) i d)

pub drop-replicate : {X : Type 0} (count all : ℕ) (x : X) → drop count (replicate all x) ≡ replicate (all - count) x
drop-replicate zero all x = (let e : all ≡ all - 0 = omega arith in ap (λ (n : ℕ). replicate n x) e)
drop-replicate (suc count) zero x = (let e : 0 ≡ zero - suc count = omega arith in ap (λ (n : ℕ). replicate n x) e)
drop-replicate (suc count) (suc all) x = (let e : all - count ≡ suc all - suc count = omega arith in drop-replicate count all x ∙ ap (λ (n : ℕ). replicate n x) e)

-- nothing is listed once the first nodes are unlisted, if nothing is listed behind them
pub unlisted-whole : (count n : ℕ) (old : List (Option Bool)) → length old ≡ n → count ≤ n → ((node : ℕ) → count ≤ node → node < n → get_or old node None ≡ None) → take count (replicate n None) ++ drop count old ≡ replicate n None
unlisted-whole count n old long few none =
    let nothing : Option Bool = None in
    let all : List (Option Bool) = replicate n nothing in
    let size : length all ≡ n = length-replicate n nothing in
    let left : length (drop count old) ≡ length (drop count all) = omega (arith, length-drop count old, length-drop count all, long, size) in
    let rest : drop count old ≡ drop count all = ext_get_or nothing (drop count old) (drop count all) left (λ k below.
    let within : count + k < n = omega (arith, below, length-drop count old, long) in
    get_or-drop count old k nothing ∙ (none (count + k) (omega arith) within ∙ sym (get_or-drop count all k nothing ∙ get_or-replicate n (count + k) nothing nothing within))) in
    ap (λ (list : List (Option Bool)). take count all ++ list) rest ∙ take-append-drop count all

-- one held gate more
pub held-next : (held : List (ℕ × Bool)) (listed : List (Option Bool)) (k : ℕ) (d : ℕ × Bool) → k < length held →
    held_at (take (k + 1) held) listed ≡ set (held_at (take k held) listed) (get_or held k d).0 (Some (get_or held k d).1)
held-next held listed k d inside =
    let hold : List (Option Bool) → ℕ × Bool → List (Option Bool) = λ (list : List (Option Bool)) (node : ℕ × Bool). set list node.0 (Some node.1) in
    ap (λ (part : List (ℕ × Bool)). fold hold listed part) (take_more held k d inside) ∙ fold-append hold listed (take k held) (get_or held k d ∷ [])

-- what was loaded into a lane, by its number
pub at-lane : (loaded : List ℕ) (inputs : List (List ℕ)) (listings : List Listing) (lane : ℕ) → lane < 512 → get_or (lane_loads loaded inputs listings) lane None ≡ lane_load loaded inputs listings lane
at-lane loaded inputs listings lane inside =
    get_or-map (lane_load loaded inputs listings) (range_with_len 0 512) lane 0 None (omega (arith, inside, length-range_with_len 0 512))
    ∙ ap (lane_load loaded inputs listings) (get_or-range_with_len 0 512 lane 0 inside ∙ omega arith)

pub count-lanes : (loaded : List ℕ) (inputs : List (List ℕ)) (listings : List Listing) → length (lane_loads loaded inputs listings) ≡ 512
count-lanes loaded inputs listings = length-map (range_with_len 0 512) (lane_load loaded inputs listings) ∙ length-range_with_len 0 512

load-of : Bool → List Bool → List (Option Bool) → Option Loaded
load-of loaded input listed = if loaded then Some (record { input = input; listed = listed }) else None

-- a lane is loaded, and what was loaded into the others stays
module _
    (loaded loaded' : List ℕ) (inputs inputs' : List (List ℕ)) (listings listings' : List Listing) (lane : ℕ) (input : List Bool) (listed : List (Option Bool))
    (inside : lane < 512)
    (is_loaded : has_lane loaded' lane ≡ true) (others_loaded : (other : ℕ) → other < 512 → other ≢ lane → has_lane loaded' other ≡ has_lane loaded other)
    (is_input : lane_input inputs' lane ≡ input) (other_inputs : (other : ℕ) → other < 512 → other ≢ lane → lane_input inputs' other ≡ lane_input inputs other)
    (is_listed : lane_listed listings' lane ≡ listed) (others_listed : (other : ℕ) → other < 512 → other ≢ lane → lane_listed listings' other ≡ lane_listed listings other) where
  pub loads-next : lane_loads loaded' inputs' listings' ≡ set (lane_loads loaded inputs listings) lane (Some (record { input = input; listed = listed }))
  unfolding load-of
  loads-next =
      let after = lane_loads loaded' inputs' listings' in
      let before = lane_loads loaded inputs listings in
      let load : Option Loaded = Some (record { input = input; listed = listed }) in
      ext_get_or None after (set before lane load) (count-lanes loaded' inputs' listings' ∙ sym (length-set before lane load ∙ count-lanes loaded inputs listings)) (λ k few.
      let below : k < 512 = omega (arith, few, count-lanes loaded' inputs' listings') in
      elim (cases_eq k lane) [
        | inl same ↦ subst (λ (n : ℕ). get_or after n None ≡ get_or (set before lane load) n None) (sym same)
            (at-lane loaded' inputs' listings' lane inside
            ∙ (ap (λ (b : Bool). load-of b (lane_input inputs' lane) (lane_listed listings' lane)) is_loaded
            ∙ (ap (λ (bits : List Bool). load-of true bits (lane_listed listings' lane)) is_input
            ∙ (ap (load-of true input) is_listed
            ∙ sym (get_or-set_same before lane load None (omega (arith, inside, count-lanes loaded inputs listings)))))))
        | inr differ ↦
            at-lane loaded' inputs' listings' k below
            ∙ (ap (λ (b : Bool). load-of b (lane_input inputs' k) (lane_listed listings' k)) (others_loaded k below differ)
            ∙ (ap (λ (bits : List Bool). load-of (has_lane loaded k) bits (lane_listed listings' k)) (other_inputs k below differ)
            ∙ (ap (load-of (has_lane loaded k) (lane_input inputs k)) (others_listed k below differ)
            ∙ sym (get_or-set_other before lane k load None differ ∙ at-lane loaded inputs listings k below))))
      ])

  -- a lane that was not loaded lists nothing
  pub fresh-next : (count : ℕ) → ((other : ℕ) → other < 512 → has_lane loaded other ≡ false → lane_listed listings other ≡ replicate count None) → (other : ℕ) → other < 512 → has_lane loaded' other ≡ false → lane_listed listings' other ≡ replicate count None
  fresh-next count was other below out =
      elim (cases_eq other lane) [
        | inl same ↦ (let wrong : true ≡ false = sym is_loaded ∙ (ap (has_lane loaded') (sym same) ∙ out) in cc)
        | inr differ ↦ others_listed other below differ ∙ was other below (sym (others_loaded other below differ) ∙ out)
      ]

  -- where neither the lane nor any other lists a node, no lane does
  pub unlisted-next : (node : ℕ) → get_or listed node None ≡ None → ((other : ℕ) → other < 512 → get_or (lane_listed listings other) node None ≡ None) → (other : ℕ) → other < 512 → get_or (lane_listed listings' other) node None ≡ None
  unlisted-next node none was other below =
      elim (cases_eq other lane) [
        | inl same ↦ ap (λ (n : ℕ). get_or (lane_listed listings' n) node None) same ∙ (ap (λ (list : List (Option Bool)). get_or list node None) is_listed ∙ none)
        | inr differ ↦ ap (λ (list : List (Option Bool)). get_or list node None) (others_listed other below differ) ∙ was other below
      ]

-- a listed start without held gates lists nothing past the inputs
pub none-past : (nodes : ℕ) (first : List Bool) (node : ℕ) → length first ≤ node → node < nodes → get_or (listed_with nodes first []) node None ≡ None
none-past nodes first node past inside =
    let nothing : Option Bool = None in
    let bits : List (Option Bool) = map (λ (b : Bool). Some b) first in
    get_or-append_right bits (replicate (nodes - length first) nothing) (length first) node nothing (length-map first (λ (b : Bool). Some b)) past
    ∙ get_or-replicate (nodes - length first) (node - length first) nothing nothing (omega (arith, past, inside))

-- a whole vector that was lent as a slice: what was written is its items then
pub record IsBack {X : Type 0} (count : ℕ) (new items : List X) : Type 0 where
  pub are : take count (new ++ drop (length new) items) ≡ new
  pub long : length new ≡ length items

pub written-back : {X : Type 0} {count : ℕ} {slice items : List X} (new : List X) → length new ≡ length slice → slice ≡ items → length slice ≡ count → IsBack count new items
written-back {X} {count} {slice} {items} new kept lent whole =
    let long : length new ≡ length items = kept ∙ ap (length {A = X}) lent in
    let all : length new ≡ count = kept ∙ whole in
    record {
      are = ap (λ rest. take count (new ++ rest)) (drop_all (length new) items (omega (arith, long))) ∙ (ap (take count) (append-nil new) ∙ take_all count new (omega (arith, all)));
      long = long;
    }

-- no lane is loaded
pub no-loads : (loaded : List ℕ) (inputs : List (List ℕ)) (listings : List Listing) → ((lane : ℕ) → has_lane loaded lane ≡ false) → lane_loads loaded inputs listings ≡ replicate 512 None
unfolding load-of
no-loads loaded inputs listings none =
    let nothing : Option Loaded = None in
    ext_get_or nothing (lane_loads loaded inputs listings) (replicate 512 nothing) (count-lanes loaded inputs listings ∙ sym (length-replicate 512 nothing)) (λ k few.
    let below : k < 512 = omega (arith, few, count-lanes loaded inputs listings) in
    at-lane loaded inputs listings k below ∙ (ap (λ (b : Bool). load-of b (lane_input inputs k) (lane_listed listings k)) (none k) ∙ sym (get_or-replicate 512 k nothing nothing below)))

pub no-lane : (lane : ℕ) → has_lane (0 ∷ 0 ∷ 0 ∷ 0 ∷ 0 ∷ 0 ∷ 0 ∷ 0 ∷ []) lane ≡ false
no-lane lane = empty-set (0 ∷ 0 ∷ 0 ∷ 0 ∷ 0 ∷ 0 ∷ 0 ∷ 0 ∷ []) lane (refl, (refl, (refl, (refl, (refl, (refl, (refl, (refl, tt))))))))

-- the view of fields, by their parts
pub by-parts : (inputs nodes count size : ℕ) (lanes others : List (Option Loaded)) → inputs ≡ count → nodes ≡ size → lanes ≡ others →
    ◌≡◌ {A = LaneLoads} (record { inputs = inputs; nodes = nodes; lanes = lanes }) (record { inputs = count; nodes = size; lanes = others })
by-parts inputs nodes count size lanes others e f g = cc

pub same-loads : (loaded : List ℕ) (inputs inputs' : List (List ℕ)) (listings listings' : List Listing) (count size : ℕ) (lanes : List (Option Loaded)) → inputs ≡ inputs' → listings ≡ listings' → length inputs' ≡ count → length listings' ≡ size → lane_loads loaded inputs' listings' ≡ lanes →
    ◌≡◌ {A = LaneLoads} (record { inputs = length inputs; nodes = length listings; lanes = lane_loads loaded inputs listings }) (record { inputs = count; nodes = size; lanes = lanes })
same-loads loaded inputs inputs' listings listings' count size lanes e f g h k =
    by-parts (length inputs) (length listings) count size (lane_loads loaded inputs listings) lanes (ap (length {A = List ℕ}) e ∙ g) (ap (length {A = Listing}) f ∙ h)
    (ap (λ (sets : List (List ℕ)). lane_loads loaded sets listings) e ∙ (ap (lane_loads loaded inputs') f ∙ k))

shown : (bit : Bool) (here loaded : Loaded) → (if bit then Some here else None) ≡ Some loaded → here ≡ loaded
shown false here loaded e = cc
shown true here loaded e = cc

-- what the view shows of a loaded lane
pub loaded-is : (loaded : List ℕ) (inputs : List (List ℕ)) (listings : List Listing) (lane : ℕ) (load : Loaded) → slice_get (lane_loads loaded inputs listings) lane ≡ Some (Some load) → record { input = lane_input inputs lane; listed = lane_listed listings lane } ≡ load
loaded-is loaded inputs listings lane load e =
    let inside : lane < 512 = omega (arith, slice_get_within (lane_loads loaded inputs listings) lane (Some load) e, count-lanes loaded inputs listings) in
    shown (has_lane loaded lane) (record { input = lane_input inputs lane; listed = lane_listed listings lane }) load (sym (at-lane loaded inputs listings lane inside) ∙ get_or_from_slice_get (lane_loads loaded inputs listings) lane (Some load) None e)

-- a lane that the view shows as not loaded
unloaded : (bit : Bool) (here : Loaded) → (if bit then Some here else None) ≡ None → bit ≡ false
unloaded false here e = refl
unloaded true here e = cc

pub not-loaded : (loaded : List ℕ) (inputs : List (List ℕ)) (listings : List Listing) (lane : ℕ) → slice_get (lane_loads loaded inputs listings) lane ≡ Some None → has_lane loaded lane ≡ false
not-loaded loaded inputs listings lane e =
    let inside : lane < 512 = omega (arith, slice_get_within (lane_loads loaded inputs listings) lane None e, count-lanes loaded inputs listings) in
    unloaded (has_lane loaded lane) (record { input = lane_input inputs lane; listed = lane_listed listings lane }) (sym (at-lane loaded inputs listings lane inside) ∙ get_or_from_slice_get (lane_loads loaded inputs listings) lane None None e)

-- a lane that is not loaded lists nothing
pub fresh-lane :
    (loaded : List ℕ) (inputs : List (List ℕ)) (listings lent : List Listing) (lane : ℕ) → lane < 512 → ((other : ℕ) → other < 512 → has_lane loaded other ≡ false → lane_listed listings other ≡ replicate (length listings) None) →
    slice_get (lane_loads loaded inputs listings) lane ≡ Some None → lent ≡ listings → lane_listed lent lane ≡ replicate (length lent) None
fresh-lane loaded inputs listings lent lane inside fresh at same =
    subst (λ (all : List Listing). lane_listed all lane ≡ replicate (length all) None) (sym same) (fresh lane inside (not-loaded loaded inputs listings lane at))

-- the start of a lane that listed nothing
pub first-listed :
    (before after : List Listing) (lane nodes : ℕ) (first : List Bool) → lane_listed before lane ≡ replicate (length before) None → length before ≡ nodes →
    lane_listed after lane ≡ map (λ (b : Bool). Some b) first ++ drop (length first) (lane_listed before lane) → lane_listed after lane ≡ listed_with nodes first []
first-listed before after lane nodes first none long is =
    let nothing : Option Bool = None in
    let rest : drop (length first) (lane_listed before lane) ≡ replicate (nodes - length first) nothing = ap (drop (length first)) none ∙ (drop-replicate (length first) (length before) nothing ∙ ap (λ (n : ℕ). replicate (n - length first) nothing) long) in
    is ∙ ap (λ (list : List (Option Bool)). map (λ (b : Bool). Some b) first ++ list) rest
