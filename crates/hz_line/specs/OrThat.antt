-- What a fault says, if there is one fault that says nothing.
use Rattle.std.specs.Prelude.{◌≡◌, ◌⊎◌}

-- the fault is that one, or this holds of it; so is a refusal told for which memory may always run out
abbrev pub OrThat : {F : Type 0} → F → (F → Type 0) → F → Type 0
OrThat that holds fault = (fault ≡ that) ⊎ holds fault
