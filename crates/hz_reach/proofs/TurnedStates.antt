-- A pass may begin in a turned state and ends in one, and a turned state is determined by its gates.
use Rattle.std.proofs.Common.{◌≡◌, ℕ, ◌+◌, ◌-◌, ◌<◌, ◌≤◌, ◌⊎◌, Bool, true, false, not, List, map, refl, sym, ap, ◌∙◌, subst, arith, inl, inr, slice_range}
use Rattle.hz_reach.proofs.Words.{Tri, Kind, is_unknown, IsPattern, length-Refines, Driver, External, Function, Source, driver_at, bit_at, value_at}
use Rattle.hz_reach.proofs.Words.{IsKnown, IsUnknown, IsEarlier, IsWireInto, IsWired}
use Rattle.std.proofs.lemmas.List.{ext_get_or}
use Rattle.hz_core.proofs.Patterns.{same-IsPattern}
use Rattle.hz_reach.specs.Pass.{IsFixed, MayBegin}
use Rattle.hz_reach.specs.Turned.{IsShown, HasPattern, IsTurned}
use Rattle.hz_reach.proofs.Order.{earlier-or-not}
use Rattle.hz_net.proofs.RestRounds.{either-value}
use Rattle.hz_reach.proofs.GateTurn.{other-bit}
use Rattle.hz_reach.proofs.SettledVariables.{same-known, no-input, wire-source, source-gate}
use Rattle.hz_reach.proofs.PassInvariant.{IsInside}

pub turned-may-begin : {net : List Driver} {ranks : List ℕ} {b : List Tri} {state : List Bool} → IsTurned net ranks b state → MayBegin net ranks b state
turned-may-begin turned = record {
  settled = turned.settled;
  differs = λ wire source gate drives goes unknown unsettled late. turned.differs wire source gate drives goes unknown (inr late);
}

module _ {net : List Driver} {input : List Bool} {b : List Tri} {ranks : List ℕ} (wired : IsWired net) (fixed : IsFixed net input b) where
  -- where every unsettled gate has had its turn the state is turned
  pub inside-turned : {begun state : List Bool} {had : ℕ → Bool} → IsInside net ranks b begun had state → ((gate : ℕ) (kind : Kind) (first pins : ℕ) → driver_at net gate ≡ Function kind first pins → IsUnknown (value_at b gate) → had gate ≡ true) → IsTurned net ranks b state
  inside-turned {begun} {state} {had} inside all = record {
    settled = inside.settled;
    differs = λ wire source gate drives goes unknown either.
        inside.differs wire source gate drives goes unknown (source-had wire source drives unknown)
        (elim either [ inl known ↦ inl known | inr late ↦ inr (inr late) ]);
    patterns = λ gate kind first pins drives unknown.
        let has = inside.patterns gate kind first pins drives unknown (all gate kind first pins drives unknown) in
        record {
          shown = has.shown;
          pattern = has.pattern;
          is_shown = record {
            long = has.is_shown.long;
            settled = has.is_shown.settled;
            earlier = λ pin source few unsettled from earlier. has.is_shown.complement pin source few unsettled from (inl earlier);
            later = λ pin source few unsettled from late. has.is_shown.same pin source few unsettled from late (source-had (first + pin) source from unsettled);
          };
          canonical = has.canonical;
          wires = has.wires;
        };
  }
    where
      source-had : (wire source : ℕ) → driver_at net wire ≡ Source source → IsUnknown (value_at b wire) → had source ≡ true
      source-had wire source drives unknown =
          let is = source-gate wired fixed wire source drives (sym (wire-source fixed wire source drives) ∙ unknown) in
          all source is.kind is.first is.pins is.drives is.unsettled

  module _ {state other : List Bool} (turned : IsTurned net ranks b state) (others : IsTurned net ranks b other) (gates : (gate : ℕ) (kind : Kind) (first pins : ℕ) → driver_at net gate ≡ Function kind first pins → IsUnknown (value_at b gate) → bit_at state gate ≡ bit_at other gate) where
    at-known : (i : ℕ) → IsKnown (value_at b i) → bit_at state i ≡ bit_at other i
    at-known i known = same-known state other b i turned.settled others.settled known

    at-source : (wire source : ℕ) → driver_at net wire ≡ Source source → IsUnknown (value_at b wire) → bit_at state source ≡ bit_at other source
    at-source wire source drives unknown =
        let is = source-gate wired fixed wire source drives (sym (wire-source fixed wire source drives) ∙ unknown) in
        gates source is.kind is.first is.pins is.drives is.unsettled

    -- a pin shows the same in both
    same-shown :
        (gate : ℕ) (kind : Kind) (first pins : ℕ) (shown shows : List Bool) → driver_at net gate ≡ Function kind first pins →
        IsShown net ranks b state gate first pins shown → IsShown net ranks b other gate first pins shows → shown ≡ shows
    same-shown gate kind first pins shown shows drives is are =
        ext_get_or false shown shows (is.long ∙ sym are.long) (λ pin inside.
        let few : pin < pins = omega (arith, inside, is.long) in
        elim (either-value (value_at b (first + pin))) [
          | inl unknown ↦ (
              let from = wired.source gate (first + pin) (record { kind = kind; first = first; pins = pins; driven = drives; above = omega arith; below = omega (arith, few) }) in
              elim (earlier-or-not ranks from.0 gate) [
                | inl earlier ↦
                    is.earlier pin from.0 few unknown from.1 earlier
                    ∙ (ap not (at-source (first + pin) from.0 from.1 unknown) ∙ sym (are.earlier pin from.0 few unknown from.1 earlier))
                | inr late ↦
                    is.later pin from.0 few unknown from.1 late
                    ∙ (at-source (first + pin) from.0 from.1 unknown ∙ sym (are.later pin from.0 few unknown from.1 late))
              ]
              )
          | inr known ↦ is.settled pin few known ∙ (at-known (first + pin) known ∙ sym (are.settled pin few known))
        ])

    same-pattern :
        (gate : ℕ) (kind : Kind) (first pins : ℕ) → driver_at net gate ≡ Function kind first pins → IsUnknown (value_at b gate) →
        (has : HasPattern net ranks b state gate kind first pins) (holds : HasPattern net ranks b other gate kind first pins) →
        has.pattern ≡ holds.pattern
    same-pattern gate kind first pins drives unknown has holds =
        let free = map is_unknown (slice_range b first (first + pins)) in
        let moved : IsPattern kind has.shown free (bit_at state gate) holds.pattern =
        subst (λ (now : List Bool). IsPattern kind now free (bit_at state gate) holds.pattern)
        (sym (same-shown gate kind first pins has.shown holds.shown drives has.is_shown holds.is_shown))
        (subst (λ (want : Bool). IsPattern kind holds.shown free want holds.pattern) (sym (gates gate kind first pins drives unknown)) holds.canonical) in
        same-IsPattern kind has.shown free (bit_at state gate) has.pattern holds.pattern has.canonical moved

    at-wire : (wire source gate : ℕ) → driver_at net wire ≡ Source source → IsWireInto net gate wire → IsUnknown (value_at b wire) → bit_at state wire ≡ bit_at other wire
    at-wire wire source gate drives goes unknown =
        elim (either-value (value_at b gate)) [
          | inl unsettled ↦ elim (earlier-or-not ranks source gate) [
            | inl earlier ↦ by_pattern unsettled earlier
            | inr late ↦ by_source (inr late)
          ]
          | inr known ↦ by_source (inl known)
        ]
      where
        by_source : IsKnown (value_at b gate) ⊎ (IsEarlier ranks source gate → ⊥) → bit_at state wire ≡ bit_at other wire
        by_source either =
            other-bit _ _ (turned.differs wire source gate drives goes unknown either)
            ∙ (ap not (at-source wire source drives unknown) ∙ sym (other-bit _ _ (others.differs wire source gate drives goes unknown either)))

        by_pattern : IsUnknown (value_at b gate) → IsEarlier ranks source gate → bit_at state wire ≡ bit_at other wire
        by_pattern unsettled earlier =
            let kind = goes.kind in
            let first = goes.first in
            let pins = goes.pins in
            let has = turned.patterns gate kind first pins goes.driven unsettled in
            let holds = others.patterns gate kind first pins goes.driven unsettled in
            let above : first ≤ wire = goes.above in
            let below : wire < first + pins = goes.below in
            let pin = wire - first in
            let few : pin < pins = omega arith in
            let here : first + pin ≡ wire = omega arith in
            let unknown_here : IsUnknown (value_at b (first + pin)) = subst (λ (n : ℕ). IsUnknown (value_at b n)) (sym here) unknown in
            let drives_here : driver_at net (first + pin) ≡ Source source = ap (driver_at net) here ∙ drives in
            subst (λ (n : ℕ). bit_at state n ≡ bit_at other n) here
            (has.wires pin source few unknown_here drives_here earlier
            ∙ (ap (λ (list : List Bool). bit_at list pin) (same-pattern gate kind first pins goes.driven unsettled has holds)
            ∙ sym (holds.wires pin source few unknown_here drives_here earlier)))

    -- two turned states with the same bits at unsettled gates are one
    pub same-turned : state ≡ other
    same-turned =
        ext_get_or false state other (length-Refines state b turned.settled ∙ sym (length-Refines other b others.settled)) (λ i inside.
        elim (either-value (value_at b i)) [
          | inl unknown ↦ by_driver i unknown (driver_at net i) refl
          | inr known ↦ at-known i known
        ])
      where
        by_driver : (i : ℕ) → IsUnknown (value_at b i) → (driver : Driver) → driver_at net i ≡ driver → bit_at state i ≡ bit_at other i
        by_driver i unknown (External place) e = absurd (no-input fixed i place unknown e)
        by_driver i unknown (Function kind first pins) e = gates i kind first pins e unknown
        by_driver i unknown (Source source) e = let goes = wired.gate i source e in at-wire i source goes.0 e goes.1 unknown
