-- Kleene's connectives: how the ternary value of a gate grows pin by pin.
use Rattle.hz_core.specs.declared.tri.Tri.{Tri}
use Rattle.hz_core.specs.declared.tri.Tri.TheVariants.{Zero, One, Unknown}

-- the complement, in which X stays X
abbrev pub complement_of : Tri → Tri
complement_of Zero = One
complement_of One = Zero
complement_of Unknown = Unknown

-- the conjunction, in which 0 decides
abbrev pub and_of : Tri → Tri → Tri
and_of Zero other = Zero
and_of One other = other
and_of Unknown Zero = Zero
and_of Unknown One = Unknown
and_of Unknown Unknown = Unknown

-- the disjunction, in which 1 decides
abbrev pub or_of : Tri → Tri → Tri
or_of One other = One
or_of Zero other = other
or_of Unknown One = One
or_of Unknown Zero = Unknown
or_of Unknown Unknown = Unknown

-- the sum modulo 2, in which X decides
abbrev pub xor_of : Tri → Tri → Tri
xor_of Zero other = other
xor_of One other = complement_of other
xor_of Unknown other = Unknown
