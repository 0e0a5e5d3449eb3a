-- Lanes that are loaded from a list of bits: eight at once, and one lane after the other.
use Rattle.std.proofs.Common.{◌≡◌, ◌≢◌, ℕ, zero, suc, ◌+◌, ◌*◌, ◌-◌, ◌<◌, ◌≤◌, ◌/◌, ◌%◌, Bool, true, false, Option, Some, None, List, [], ◌∷◌, ◌++◌, length, map, take, drop, set, get_or, replicate, slice_get, refl, sym, ap, ◌∙◌, arith, inl, inr}
use Rattle.std.specs.Prelude.{if◌then◌else◌}
use Rattle.std.proofs.Math.Nat.{add-mul}
use Rattle.std.proofs.lemmas.Bool.{cases_eq, cases_lt}
use Rattle.std.proofs.lemmas.List.{length-map, length-append, length-set, length-replicate, length-drop, length-take-le, get_or-map, get_or-drop, get_or-take, get_or-replicate, get_or_append_left, get_or-append_right, get_or-set_same, get_or-set_other, ext_get_or, drop-drop, map-append}
use Rattle.std.proofs.lemmas.Nat.{mul-le}
use Rattle.std.proofs.lemmas.Option.{slice_get-get_or, slice_get_within, get_or_from_slice_get}
use Rattle.hz_plane.specs.declared.listing.Listing.{Listing}
use Rattle.hz_plane.specs.Bits.{has_lane}
use Rattle.hz_plane.specs.Loads.{Loaded, LaneLoads, lane_input, lane_listed, lane_loads, listed_in, held_at, held_load, loaded_from, loads_in, block_loads}
use Rattle.hz_plane.proofs.LoadLemmas.{at-lane, count-lanes, by-parts}

-- where the bits of a lane begin
pub lane-begins : (eight lane step : ℕ) → lane / 8 ≡ eight → 8 * eight * step + (lane % 8) * step ≡ lane * step
lane-begins eight lane step same =
    let parts : 8 * eight + lane % 8 ≡ lane = omega (arith, same) in
    sym (add-mul (8 * eight) (lane % 8) step) ∙ ap (λ (n : ℕ). n * step) parts

-- the new input of a lane, bit by bit
pub gathered-input : (sets : List (List ℕ)) (lane off : ℕ) (bits : List Bool) → off + length sets ≤ length bits → ((i : ℕ) → i < length sets → has_lane (get_or sets i []) lane ≡ get_or bits (off + i) false) → lane_input sets lane ≡ take (length sets) (drop off bits)
gathered-input sets lane off bits room each =
    let part = drop off bits in
    let long : length (take (length sets) part) ≡ length sets = length-take-le (length sets) part (omega (arith, length-drop off bits, room)) in
    let size : length (lane_input sets lane) ≡ length sets = length-map sets (λ (set : List ℕ). has_lane set lane) in
    ext_get_or false (lane_input sets lane) (take (length sets) part) (size ∙ sym long) (λ i few.
    let inside : i < length sets = omega (arith, few, size) in
    get_or-map (λ (set : List ℕ). has_lane set lane) sets i [] false inside ∙ (each i inside ∙ sym (get_or-take (length sets) part i false inside ∙ get_or-drop off bits i false)))

pub same-input : (sets sets' : List (List ℕ)) (lane : ℕ) → length sets' ≡ length sets → ((i : ℕ) → has_lane (get_or sets' i []) lane ≡ has_lane (get_or sets i []) lane) → lane_input sets' lane ≡ lane_input sets lane
same-input sets sets' lane long each =
    let show : List ℕ → Bool = λ (set : List ℕ). has_lane set lane in
    let size : length (lane_input sets' lane) ≡ length sets' = length-map sets' show in
    ext_get_or false (lane_input sets' lane) (lane_input sets lane) (size ∙ (long ∙ sym (length-map sets show))) (λ i few.
    get_or-map show sets' i [] false (omega (arith, few, size)) ∙ (each i ∙ sym (get_or-map show sets i [] false (omega (arith, few, size, long)))))

-- what a lane lists, node by node
pub same-listed : (listings listings' : List Listing) (lane : ℕ) → length listings' ≡ length listings →
    ((i : ℕ) → listed_in (get_or listings' i (record { zeros = []; ones = [] })) lane ≡ listed_in (get_or listings i (record { zeros = []; ones = [] })) lane) → lane_listed listings' lane ≡ lane_listed listings lane
same-listed listings listings' lane long each =
    let show : Listing → Option Bool = λ (listing : Listing). listed_in listing lane in
    let size : length (lane_listed listings' lane) ≡ length listings' = length-map listings' show in
    ext_get_or None (lane_listed listings' lane) (lane_listed listings lane) (size ∙ (long ∙ sym (length-map listings show))) (λ i few.
    get_or-map show listings' i (record { zeros = []; ones = [] }) None (omega (arith, few, size)) ∙ (each i ∙ sym (get_or-map show listings i (record { zeros = []; ones = [] }) None (omega (arith, few, size, long)))))

pub lists-none : (listings : List Listing) (lane i : ℕ) → lane_listed listings lane ≡ replicate (length listings) None → i < length listings → listed_in (get_or listings i (record { zeros = []; ones = [] })) lane ≡ None
lists-none listings lane i none inside =
    let nothing : Option Bool = None in
    sym (get_or-map (λ (listing : Listing). listed_in listing lane) listings i (record { zeros = []; ones = [] }) nothing inside)
    ∙ (ap (λ (list : List (Option Bool)). get_or list i nothing) none ∙ get_or-replicate (length listings) i nothing nothing inside)

pub gathered-listed : (listings listings' : List Listing) (lane off inputs : ℕ) (bits : List Bool) → length listings' ≡ length listings → inputs ≤ length listings → off + inputs ≤ length bits →
    lane_listed listings lane ≡ replicate (length listings) None →
    ((i : ℕ) → i < inputs → listed_in (get_or listings' i (record { zeros = []; ones = [] })) lane ≡ Some (get_or bits (off + i) false)) →
    ((i : ℕ) → inputs ≤ i → listed_in (get_or listings' i (record { zeros = []; ones = [] })) lane ≡ listed_in (get_or listings i (record { zeros = []; ones = [] })) lane) →
    lane_listed listings' lane ≡ map Some (take inputs (drop off bits)) ++ replicate (length listings - length (take inputs (drop off bits))) None
gathered-listed listings listings' lane off inputs bits long few room none here rest =
    let nothing : Option Bool = None in
    let show : Listing → Option Bool = λ (listing : Listing). listed_in listing lane in
    let first = take inputs (drop off bits) in
    let some : List (Option Bool) = map Some first in
    let others : List (Option Bool) = replicate (length listings - length first) nothing in
    let count : length first ≡ inputs = length-take-le inputs (drop off bits) (omega (arith, length-drop off bits, room)) in
    let size : length (lane_listed listings' lane) ≡ length listings = length-map listings' show ∙ long in
    let all : length (some ++ others) ≡ length listings = omega (arith, length-append some others, length-map first (λ (b : Bool). Some b), length-replicate (length listings - length first) nothing, count, few) in
    ext_get_or nothing (lane_listed listings' lane) (some ++ others) (size ∙ sym all) (λ i below.
    let inside : i < length listings = omega (arith, below, size) in
    get_or-map show listings' i (record { zeros = []; ones = [] }) nothing (omega (arith, inside, long)) ∙ elim (cases_lt i inputs) [
      | inl is_input ↦ here i is_input ∙ sym (get_or_append_left some others nothing i (omega (arith, is_input, count, length-map first (λ (b : Bool). Some b)))
          ∙ (get_or-map (λ (b : Bool). Some b) first i false nothing (omega (arith, is_input, count)) ∙ ap (λ (b : Bool). Some b) (get_or-take inputs (drop off bits) i false is_input ∙ get_or-drop off bits i false)))
      | inr past ↦ rest i past ∙ (lists-none listings lane i none inside
          ∙ sym (get_or-append_right some others (length first) i nothing (length-map first (λ (b : Bool). Some b)) (omega (arith, past, count))
          ∙ get_or-replicate (length listings - length first) (i - length first) nothing nothing (omega (arith, inside, past, count))))
    ])

-- eight lanes are loaded, and what was loaded into the others stays
module _
    (loaded loaded' : List ℕ) (inputs inputs' : List (List ℕ)) (listings listings' : List Listing) (eight : ℕ) (few_eights : eight < 64)
    (are_loaded : (lane : ℕ) → lane / 8 ≡ eight → has_lane loaded' lane ≡ true) (others_loaded : (other : ℕ) → other < 512 → other / 8 ≢ eight → has_lane loaded' other ≡ has_lane loaded other)
    (other_inputs : (other : ℕ) → other < 512 → other / 8 ≢ eight → lane_input inputs' other ≡ lane_input inputs other)
    (others_listed : (other : ℕ) → other < 512 → other / 8 ≢ eight → lane_listed listings' other ≡ lane_listed listings other) where
  pub eight-loaded : (lane : ℕ) (input : List Bool) (listed : List (Option Bool)) → lane / 8 ≡ eight → lane_input inputs' lane ≡ input → lane_listed listings' lane ≡ listed → slice_get (lane_loads loaded' inputs' listings') lane ≡ Some (Some (record { input = input; listed = listed }))
  eight-loaded lane input listed same is_input is_listed =
      let inside : lane < 512 = omega (arith, same, few_eights) in
      slice_get-get_or (lane_loads loaded' inputs' listings') lane None (omega (arith, inside, count-lanes loaded' inputs' listings'))
      ∙ ap (λ (o : Option Loaded). Some o) (at-lane loaded' inputs' listings' lane inside
      ∙ (ap (λ (b : Bool). if b then Some (record { input = lane_input inputs' lane; listed = lane_listed listings' lane }) else None) (are_loaded lane same)
      ∙ (ap (λ (bits : List Bool). Some (record { input = bits; listed = lane_listed listings' lane })) is_input ∙ ap (λ (list : List (Option Bool)). Some (record { input = input; listed = list })) is_listed)))

  pub others-loaded : (other : ℕ) → other < 512 → other / 8 ≢ eight → slice_get (lane_loads loaded' inputs' listings') other ≡ slice_get (lane_loads loaded inputs listings) other
  others-loaded other below differ =
      slice_get-get_or (lane_loads loaded' inputs' listings') other None (omega (arith, below, count-lanes loaded' inputs' listings'))
      ∙ (ap (λ (o : Option Loaded). Some o) (at-lane loaded' inputs' listings' other below
      ∙ (ap (λ (b : Bool). if b then Some (record { input = lane_input inputs' other; listed = lane_listed listings' other }) else None) (others_loaded other below differ)
      ∙ (ap (λ (bits : List Bool). if has_lane loaded other then Some (record { input = bits; listed = lane_listed listings' other }) else None) (other_inputs other below differ)
      ∙ (ap (λ (list : List (Option Bool)). if has_lane loaded other then Some (record { input = lane_input inputs other; listed = list }) else None) (others_listed other below differ)
      ∙ sym (at-lane loaded inputs listings other below)))))
      ∙ sym (slice_get-get_or (lane_loads loaded inputs listings) other None (omega (arith, below, count-lanes loaded inputs listings))))

  pub fresh-eight : (count : ℕ) → ((other : ℕ) → other < 512 → has_lane loaded other ≡ false → lane_listed listings other ≡ replicate count None) → (other : ℕ) → other < 512 → has_lane loaded' other ≡ false → lane_listed listings' other ≡ replicate count None
  fresh-eight count was other below out =
      elim (cases_eq (other / 8) eight) [
        | inl same ↦ (let wrong : true ≡ false = sym (are_loaded other same) ∙ out in cc)
        | inr differ ↦ others_listed other below differ ∙ was other below (sym (others_loaded other below differ) ∙ out)
      ]

  pub unlisted-eight : (node : ℕ) → ((lane : ℕ) → lane / 8 ≡ eight → get_or (lane_listed listings' lane) node None ≡ None) → ((other : ℕ) → other < 512 → get_or (lane_listed listings other) node None ≡ None) → (other : ℕ) → other < 512 → get_or (lane_listed listings' other) node None ≡ None
  unlisted-eight node none was other below =
      elim (cases_eq (other / 8) eight) [
        | inl same ↦ none other same
        | inr differ ↦ ap (λ (list : List (Option Bool)). get_or list node None) (others_listed other below differ) ∙ was other below
      ]

-- a block of lanes, lane by lane
module _ (nodes inputs : ℕ) (held : List (ℕ × Bool)) where
  step : ℕ
  step = 2 * inputs

  length-loads : (lanes : ℕ) (bits : List Bool) → length (loads_in nodes inputs held lanes bits) ≡ lanes
  length-loads zero bits = refl
  length-loads (suc lanes) bits = ap suc (length-loads lanes (drop (2 * inputs) bits))

  loads-at : (lane lanes : ℕ) (bits : List Bool) → lane < lanes → get_or (loads_in nodes inputs held lanes bits) lane None ≡ Some (loaded_from nodes inputs held (drop (lane * (2 * inputs)) bits))
  loads-at lane zero bits few = absurd (omega (arith, few))
  loads-at zero (suc lanes) bits few =
      let none : 0 * (2 * inputs) ≡ 0 = omega arith in
      ap (λ (n : ℕ). Some (loaded_from nodes inputs held (drop n bits))) (sym none)
  loads-at (suc lane) (suc lanes) bits few =
      let next : 2 * inputs + lane * (2 * inputs) ≡ suc lane * (2 * inputs) = sym (add-mul 1 lane (2 * inputs) ∙ omega arith) ∙ omega arith in
      loads-at lane lanes (drop (2 * inputs) bits) (omega (arith, few))
      ∙ ap (λ (list : List Bool). Some (loaded_from nodes inputs held list)) (drop-drop (lane * (2 * inputs)) (2 * inputs) bits ∙ ap (λ (n : ℕ). drop n bits) next)

  pub block-long : (lanes : ℕ) (bits : List Bool) → lanes ≤ 512 → length (block_loads nodes inputs held lanes bits) ≡ 512
  block-long lanes bits few =
      let nothing : Option Loaded = None in
      omega (arith, length-append (loads_in nodes inputs held lanes bits) (replicate (512 - lanes) nothing), length-loads lanes bits, length-replicate (512 - lanes) nothing, few)

  pub block-in : (lane lanes : ℕ) (bits : List Bool) → lane < lanes → get_or (block_loads nodes inputs held lanes bits) lane None ≡ Some (loaded_from nodes inputs held (drop (lane * (2 * inputs)) bits))
  block-in lane lanes bits few =
      get_or_append_left (loads_in nodes inputs held lanes bits) (replicate (512 - lanes) None) None lane (omega (arith, few, length-loads lanes bits)) ∙ loads-at lane lanes bits few

  pub block-out : (lane lanes : ℕ) (bits : List Bool) → lanes ≤ lane → lane < 512 → get_or (block_loads nodes inputs held lanes bits) lane None ≡ None
  block-out lane lanes bits past below =
      let nothing : Option Loaded = None in
      get_or-append_right (loads_in nodes inputs held lanes bits) (replicate (512 - lanes) nothing) lanes lane nothing (length-loads lanes bits) past
      ∙ get_or-replicate (512 - lanes) (lane - lanes) nothing nothing (omega (arith, past, below))

  -- eight lanes more
  pub block-eight : (lanes lanes' : List (Option Loaded)) (eight : ℕ) (bits : List Bool) → eight < 64 → lanes ≡ block_loads nodes inputs held (8 * eight) bits → length lanes' ≡ 512 →
      ((lane : ℕ) → lane / 8 ≡ eight → slice_get lanes' lane ≡ Some (Some (loaded_from nodes inputs held (drop (lane * (2 * inputs)) bits)))) →
      ((other : ℕ) → other < 512 → other / 8 ≢ eight → slice_get lanes' other ≡ slice_get lanes other) →
      lanes' ≡ block_loads nodes inputs held (8 * (eight + 1)) bits
  block-eight lanes lanes' eight bits few before long here others =
      let nothing : Option Loaded = None in
      let after = block_loads nodes inputs held (8 * (eight + 1)) bits in
      let size : length lanes ≡ 512 = ap (length {A = Option Loaded}) before ∙ block-long (8 * eight) bits (omega (arith, few)) in
      ext_get_or nothing lanes' after (long ∙ sym (block-long (8 * (eight + 1)) bits (omega (arith, few)))) (λ lane inside.
      let below : lane < 512 = omega (arith, inside, long) in
      elim (cases_eq (lane / 8) eight) [
        | inl same ↦ get_or_from_slice_get lanes' lane _ nothing (here lane same) ∙ sym (block-in lane (8 * (eight + 1)) bits (omega (arith, same)))
        | inr differ ↦ get_or_from_slice_get lanes' lane (get_or lanes lane nothing) nothing (others lane below differ ∙ slice_get-get_or lanes lane nothing (omega (arith, below, size)))
            ∙ (ap (λ (list : List (Option Loaded)). get_or list lane nothing) before ∙ elim (cases_lt lane (8 * eight)) [
              | inl earlier ↦ block-in lane (8 * eight) bits earlier ∙ sym (block-in lane (8 * (eight + 1)) bits (omega (arith, earlier)))
              | inr later ↦ block-out lane (8 * eight) bits later below ∙ sym (block-out lane (8 * (eight + 1)) bits (omega (arith, later, differ)) below)
            ])
      ])

  -- a lane more
  pub block-next : (lane : ℕ) (bits : List Bool) → lane < 512 → set (block_loads nodes inputs held lane bits) lane (Some (loaded_from nodes inputs held (drop (lane * (2 * inputs)) bits))) ≡ block_loads nodes inputs held (lane + 1) bits
  block-next lane bits below =
      let nothing : Option Loaded = None in
      let before = block_loads nodes inputs held lane bits in
      let after = block_loads nodes inputs held (lane + 1) bits in
      let load : Option Loaded = Some (loaded_from nodes inputs held (drop (lane * (2 * inputs)) bits)) in
      let size : length before ≡ 512 = block-long lane bits (omega (arith, below)) in
      let made : length (set before lane load) ≡ 512 = length-set before lane load ∙ size in
      ext_get_or nothing (set before lane load) after (made ∙ sym (block-long (lane + 1) bits (omega (arith, below)))) (λ k inside.
      let few : k < 512 = omega (arith, inside, made) in
      elim (cases_eq k lane) [
        | inl same ↦ ap (λ (n : ℕ). get_or (set before lane load) n nothing) same ∙ (get_or-set_same before lane load nothing (omega (arith, below, size))
            ∙ (sym (block-in lane (lane + 1) bits (omega arith)) ∙ ap (λ (n : ℕ). get_or after n nothing) (sym same)))
        | inr differ ↦ get_or-set_other before lane k load nothing differ ∙ elim (cases_lt k lane) [
          | inl earlier ↦ block-in k lane bits earlier ∙ sym (block-in k (lane + 1) bits (omega (arith, earlier)))
          | inr later ↦ block-out k lane bits later few ∙ sym (block-out k (lane + 1) bits (omega (arith, later, differ)) few)
        ]
      ])

-- the loaded lanes list the held gates too
module _ (held : List (ℕ × Bool)) where
  held-loaded : (bit : Bool) (input : List Bool) (listed listed' : List (Option Bool)) → (bit ≡ true → listed' ≡ held_at held listed) →
      ◌≡◌ {A = Option Loaded} (if bit then Some (record { input = input; listed = listed' }) else None) (held_load held (if bit then Some (record { input = input; listed = listed }) else None))
  held-loaded true input listed listed' is = ap (λ (list : List (Option Bool)). Some (record { input = input; listed = list })) (is refl)
  held-loaded false input listed listed' is = refl

  either : {X : Type 0} (bit : Bool) → (bit ≡ true → X) → (bit ≡ false → X) → X
  either true is not = is refl
  either false is not = not refl

  module _
      (loaded : List ℕ) (inputs : List (List ℕ)) (listings listings' : List Listing)
      (here : (lane : ℕ) → lane < 512 → has_lane loaded lane ≡ true → lane_listed listings' lane ≡ held_at held (lane_listed listings lane))
      (others : (other : ℕ) → other < 512 → has_lane loaded other ≡ false → lane_listed listings' other ≡ lane_listed listings other) where
    pub loads-held : lane_loads loaded inputs listings' ≡ map (held_load held) (lane_loads loaded inputs listings)
    loads-held =
        let before = lane_loads loaded inputs listings in
        let after = lane_loads loaded inputs listings' in
        ext_get_or None after (map (held_load held) before) (count-lanes loaded inputs listings' ∙ sym (length-map before (held_load held) ∙ count-lanes loaded inputs listings)) (λ lane few.
        let inside : lane < 512 = omega (arith, few, count-lanes loaded inputs listings') in
        at-lane loaded inputs listings' lane inside
        ∙ (held-loaded (has_lane loaded lane) (lane_input inputs lane) (lane_listed listings lane) (lane_listed listings' lane) (here lane inside)
        ∙ sym (get_or-map (held_load held) before lane None None (omega (arith, inside, count-lanes loaded inputs listings)) ∙ ap (held_load held) (at-lane loaded inputs listings lane inside))))

    pub fresh-held : (count : ℕ) → ((other : ℕ) → other < 512 → has_lane loaded other ≡ false → lane_listed listings other ≡ replicate count None) → (other : ℕ) → other < 512 → has_lane loaded other ≡ false → lane_listed listings' other ≡ replicate count None
    fresh-held count was other below out = others other below out ∙ was other below out

    pub unlisted-held : (node : ℕ) → held ≡ [] → ((other : ℕ) → other < 512 → get_or (lane_listed listings other) node None ≡ None) → (other : ℕ) → other < 512 → get_or (lane_listed listings' other) node None ≡ None
    unlisted-held node empty was other below =
        either (has_lane loaded other)
        (λ is. ap (λ (list : List (Option Bool)). get_or list node None) (here other below is ∙ ap (λ (none : List (ℕ × Bool)). held_at none (lane_listed listings other)) empty) ∙ was other below)
        (λ out. ap (λ (list : List (Option Bool)). get_or list node None) (others other below out) ∙ was other below)

  -- a block of lanes that lists the held gates too
  held-loads : (nodes inputs lanes : ℕ) (bits : List Bool) → map (held_load held) (loads_in nodes inputs [] lanes bits) ≡ loads_in nodes inputs held lanes bits
  held-loads nodes inputs zero bits = refl
  held-loads nodes inputs (suc lanes) bits = ap (λ (list : List (Option Loaded)). Some (loaded_from nodes inputs held bits) ∷ list) (held-loads nodes inputs lanes (drop (2 * inputs) bits))

  held-empty : (count : ℕ) → map (held_load held) (replicate count None) ≡ replicate count None
  held-empty zero = refl
  held-empty (suc count) = ap (λ (list : List (Option Loaded)). None ∷ list) (held-empty count)

  pub block-held : (nodes inputs lanes : ℕ) (bits : List Bool) → map (held_load held) (block_loads nodes inputs [] lanes bits) ≡ block_loads nodes inputs held lanes bits
  block-held nodes inputs lanes bits =
      let nothing : Option Loaded = None in
      map-append (held_load held) (loads_in nodes inputs [] lanes bits) (replicate (512 - lanes) nothing)
      ∙ (ap (λ (list : List (Option Loaded)). list ++ map (held_load held) (replicate (512 - lanes) nothing)) (held-loads nodes inputs lanes bits)
      ∙ ap (λ (list : List (Option Loaded)). loads_in nodes inputs held lanes bits ++ list) (held-empty (512 - lanes)))

-- the new input of one of eight lanes
pub eight-input : (sets : List (List ℕ)) (eight lane n : ℕ) (bits : List Bool) → length sets ≡ n → lane / 8 ≡ eight → 8 * (eight + 1) * (2 * n) ≤ length bits →
    ((i : ℕ) → i < n → has_lane (get_or sets i []) lane ≡ get_or bits (8 * eight * (2 * n) + n + i + (lane % 8) * (2 * n)) false) → lane_input sets lane ≡ take n (drop n (drop (lane * (2 * n)) bits))
eight-input sets eight lane n bits long same room here =
    let begins = lane-begins eight lane (2 * n) same in
    let within : (lane + 1) * (2 * n) ≤ 8 * (eight + 1) * (2 * n) = mul-le (lane + 1) (2 * n) (8 * (eight + 1)) (2 * n) (omega (arith, same)) (omega arith) in
    let ends : (lane + 1) * (2 * n) ≡ lane * (2 * n) + 2 * n = add-mul lane 1 (2 * n) ∙ omega arith in
    gathered-input sets lane (lane * (2 * n) + n) bits (omega (arith, long, room, within, ends)) (λ i few.
    let place : 8 * eight * (2 * n) + n + i + (lane % 8) * (2 * n) ≡ lane * (2 * n) + n + i = omega (arith, begins) in
    here i (omega (arith, few, long)) ∙ ap (λ (k : ℕ). get_or bits k false) place)
    ∙ (ap (λ (k : ℕ). take k (drop (lane * (2 * n) + n) bits)) long ∙ ap (take n) (sym (drop-drop n (lane * (2 * n)) bits)))

-- what contracts see, by its parts
pub as-loads : (seen : LaneLoads) (inputs nodes : ℕ) (lanes : List (Option Loaded)) → seen.inputs ≡ inputs → seen.nodes ≡ nodes → seen.lanes ≡ lanes → seen ≡ record { inputs = inputs; nodes = nodes; lanes = lanes }
as-loads seen inputs nodes lanes e f g = by-parts seen.inputs seen.nodes inputs nodes seen.lanes lanes e f g

-- the lanes of a block that are loaded, and with what
pub block-loaded : (nodes inputs : ℕ) (held : List (ℕ × Bool)) (lanes lane : ℕ) (bits : List Bool) (loaded : Loaded) → lanes ≤ 512 → slice_get (block_loads nodes inputs held lanes bits) lane ≡ Some (Some loaded) →
    (lane < lanes) × (loaded_from nodes inputs held (drop (lane * (2 * inputs)) bits) ≡ loaded)
block-loaded nodes inputs held lanes lane bits loaded few at =
    let block = block_loads nodes inputs held lanes bits in
    let here : get_or block lane None ≡ Some loaded = get_or_from_slice_get block lane (Some loaded) None at in
    let inside : lane < 512 = omega (arith, slice_get_within block lane (Some loaded) at, block-long nodes inputs held lanes bits few) in
    elim (cases_lt lane lanes) [
      | inl before ↦ (
          let same : Some (loaded_from nodes inputs held (drop (lane * (2 * inputs)) bits)) ≡ Some loaded = sym (block-in nodes inputs held lane lanes bits before) ∙ here in
          (before, some-same _ _ same)
          )
      | inr past ↦ absurd (none-some _ (sym (block-out nodes inputs held lane lanes bits past inside) ∙ here))
    ]
  where
    some-same : (one other : Loaded) → Some one ≡ Some other → one ≡ other
    some-same one other e = cc

    none-some : (one : Loaded) → None ≡ Some one → ⊥
    none-some one e = cc
