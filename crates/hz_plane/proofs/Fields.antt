-- The fields of planes when lanes are loaded.
use Rattle.std.proofs.Common.{◌≡◌, ◌≢◌, ℕ, suc, ◌-◌, ◌<◌, ◌≤◌, ◌⊎◌, Bool, false, Option, Some, None, List, [], ◌∷◌, ◌++◌, length, map, set, get_or, replicate, slice_get, sym, ap, ◌∙◌, subst, arith, inl, inr}
use Rattle.std.proofs.lemmas.Bool.{cases_eq}
use Rattle.std.proofs.lemmas.List.{length-append, length-set, length-map, get_or_append_left, get_or-set_same, get_or-set_other, get_or-replicate, length-replicate, get_or-map}
use Rattle.std.proofs.lemmas.Option.{slice_get-get_or, slice_get_within, get_or_from_slice_get}
use Rattle.hz_plane.specs.declared.stage.Stage.{Stage}
use Rattle.hz_plane.specs.declared.stage.Stage.TheVariants.{Loading, Settled}
use Rattle.hz_plane.specs.declared.planes.Planes.TheInside.{Inside}
use Rattle.hz_plane.specs.Lanes.{ListsAllInputs}
use Rattle.hz_plane.specs.Loads.{Loaded, LaneLoads, held_at, listed_with}
use Rattle.hz_plane.specs.View.{LaneHolds}
use Rattle.hz_plane.specs.Inside.{HoldsPlanes}

-- what was loaded into a lane, once a lane is loaded anew
pub loaded-after : (lanes : List (Option Loaded)) (lane : ℕ) (new loaded : Loaded) (other : ℕ) → slice_get (set lanes lane (Some new)) other ≡ Some (Some loaded) → ((other ≡ lane) × (new ≡ loaded)) ⊎ (slice_get lanes other ≡ Some (Some loaded))
loaded-after lanes lane new loaded other at =
    let here : get_or (set lanes lane (Some new)) other None ≡ Some loaded = get_or_from_slice_get (set lanes lane (Some new)) other (Some loaded) None at in
    let inside : other < length lanes = omega (arith, slice_get_within (set lanes lane (Some new)) other (Some loaded) at, length-set lanes lane (Some new)) in
    elim (cases_eq other lane) [
      | inl same ↦ (
          let is : Some new ≡ Some loaded = sym (get_or-set_same lanes lane (Some new) None (omega (arith, inside, same))) ∙ (ap (λ (n : ℕ). get_or (set lanes lane (Some new)) n None) (sym same) ∙ here) in
          let it : new ≡ loaded = cc in
          inl (same, it)
          )
      | inr differ ↦ inr (slice_get-get_or lanes other None inside ∙ ap (λ (o : Option Loaded). Some o) (sym (get_or-set_other lanes lane other (Some new) None differ) ∙ here))
    ]

-- nothing is loaded where no lane is
pub loaded-none : (lane : ℕ) (loaded : Loaded) (P : Type 0) → slice_get (replicate 512 None) lane ≡ Some (Some loaded) → P
loaded-none lane loaded P at =
    let nothing : Option Loaded = None in
    let inside : lane < 512 = omega (arith, slice_get_within (replicate 512 nothing) lane (Some loaded) at, length-replicate 512 nothing) in
    let wrong : Some loaded ≡ nothing = sym (get_or_from_slice_get (replicate 512 nothing) lane (Some loaded) nothing at) ∙ get_or-replicate 512 lane nothing nothing inside in
    cc

-- planes whose lanes are loaded
pub reloaded :
    (fields : Inside) (stage : Stage) (loads : LaneLoads) → stage ≡ Loading → HoldsPlanes fields → loads.inputs ≡ fields.loads.inputs → loads.nodes ≡ fields.loads.nodes →
    ((lane : ℕ) (loaded : Loaded) → slice_get loads.lanes lane ≡ Some (Some loaded) → ListsAllInputs fields.net.now loaded.listed) →
    HoldsPlanes (record fields { stage = stage; loads = loads })
reloaded fields stage loads is held inputs nodes lists = record {
  inputs = inputs ∙ held.inputs;
  nodes = nodes ∙ held.nodes;
  values_count = held.values_count;
  marks = held.marks;
  faults_count = held.faults_count;
  values_planes = held.values_planes;
  schedule = held.schedule;
  lists = lists;
  lanes = λ lane loaded at. subst (λ (s : Stage). LaneHolds s fields.net.now loaded fields.values.items lane) (sym is) tt;
  faults = λ lane loaded at begun. absurd (begun is);
  unsettled = λ settled. (let wrong : Loading ≡ Settled = sym is ∙ settled in cc);
}

-- a listed start with held gates lists the inputs still
pub held-lists : (held : List (ℕ × Bool)) (inputs : ℕ) (listed : List (Option Bool)) → ((k : ℕ) (d : ℕ × Bool) → k < length held → inputs ≤ (get_or held k d).0) →
    ((input : ℕ) → input < inputs → (bit : Bool) × (slice_get listed input ≡ Some (Some bit))) → (input : ℕ) → input < inputs → (bit : Bool) × (slice_get (held_at held listed) input ≡ Some (Some bit))
held-lists [] inputs listed past lists input below = lists input below
held-lists (node ∷ held) inputs listed past lists input below =
    held-lists held inputs (set listed node.0 (Some node.1)) (λ k d inside. past (suc k) d (omega (arith, inside))) (λ other less.
    let was = lists other less in
    let differ : other ≢ node.0 = omega (arith, less, past 0 node (omega arith)) in
    let within : other < length listed = slice_get_within listed other (Some was.0) was.1 in (
      was.0,
      slice_get-get_or (set listed node.0 (Some node.1)) other None (omega (arith, within, length-set listed node.0 (Some node.1)))
          ∙ ap (λ (o : Option Bool). Some o) (get_or-set_other listed node.0 other (Some node.1) None differ ∙ get_or_from_slice_get listed other (Some was.0) None was.1),
    )) input below

pub first-lists : (nodes : ℕ) (first : List Bool) (held : List (ℕ × Bool)) → ((k : ℕ) (d : ℕ × Bool) → k < length held → length first ≤ (get_or held k d).0) → (input : ℕ) → input < length first → (bit : Bool) × (slice_get (listed_with nodes first held) input ≡ Some (Some bit))
first-lists nodes first held past input below =
    let nothing : Option Bool = None in
    let bits : List (Option Bool) = map (λ (b : Bool). Some b) first in
    let long : length bits ≡ length first = length-map first (λ (b : Bool). Some b) in
    held-lists held (length first) (bits ++ replicate (nodes - length first) nothing) past (λ other less. (
      get_or first other false,
      slice_get-get_or (bits ++ replicate (nodes - length first) nothing) other nothing (omega (arith, less, long, length-append bits (replicate (nodes - length first) nothing)))
          ∙ ap (λ (o : Option Bool). Some o) (get_or_append_left bits (replicate (nodes - length first) nothing) nothing other (omega (arith, less, long)) ∙ get_or-map (λ (b : Bool). Some b) first other false nothing less),
    )) input below
