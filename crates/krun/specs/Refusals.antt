-- When no definition is refused.
use Rattle.std.specs.Prelude.{ℕ, List}
use Rattle.context_transform.specs.declared.fault.DefFault.{DefFault}
use Rattle.context_transform.specs.Assembling.{IsDefFault}

-- the greatest length of a definition, in bytes
abbrev pub def_limit : ℕ
def_limit = 1048576

-- nothing refuses the bytes
abbrev pub HasNoRefusal : List ℕ → Type 0
HasNoRefusal bytes = (fault : DefFault) → IsDefFault bytes fault → ⊥
